-- What a wait leaves on the list of its pass, look by look.
use Rattle.std.proofs.Common.{◌≡◌, ◌<◌, ℕ, List, [], ◌∷◌, ◌++◌, refl, sym, ap, ◌∙◌, inl, inr, subst, append_assoc, append-nil}
use Rattle.dds_base.specs.declared.code.Code.TheVariants.{Memory}
use Rattle.dds_machine.specs.declared.call.Call.TheVariants.{WaitBegin, WaitLook}
use Rattle.dds_machine.specs.declared.reply.Reply.TheVariants.{Done, Refused, Waiting}
use Rattle.dds_protocol.specs.declared.event.Event.TheVariants.{Call}
use Rattle.dds_protocol.specs.declared.event.Output.{Output}
use Rattle.dds_trace.specs.declared.trace.Entry.{Entry}
use Rattle.dds_trace.specs.History.{entry_of}
use Rattle.dds_shared.specs.Passes.{Carried, Grows, IsAsBefore, Lists}
use Rattle.dds_shared.specs.Waits.{AllWaiting, Answered, AnsweredWith, Failed, GivesUp, IsEndOfWait, Waits, given_up, look_of}

pub Grows-twice : (was mid last : Carried) (xs ys : List Entry) → Grows was mid xs → Grows mid last ys → Grows was last (xs ++ ys)
Grows-twice was mid last xs ys g h =
    h
    ∙ (λ i. record (g i) { list = (g i).list ++ ys; spare = last.spare; front = last.front })
    ∙ ap (λ es. let r : Carried = record was { list = es; spare = last.spare; front = last.front } in r) (append_assoc was.list xs ys)

-- a look that found no memory, and the end of its wait
pub missed : (was mid after : Carried) (s : ℕ) (o : Output) → Lists was mid (Call (WaitLook s)) o → o.reply ≡ Refused Memory
    → ((es : List Entry) × (last : Carried) × Grows mid last es × IsEndOfWait mid.seat s es × (after ≡ given_up s last))
    → (es : List Entry) × (last : Carried) × Grows was last es × GivesUp was.seat s es × (after ≡ given_up s last)
missed was mid after s o lists reply h =
    let P : ℕ → Type 0 = λ seat. IsEndOfWait seat s h.0 in (
      look_of was.seat s o ∷ h.0,
      h.1,
      Grows-twice was mid h.1 (look_of was.seat s o ∷ []) h.0 lists h.2,
      (look_of was.seat s o ∷ [], h.0, refl, inr (o, refl, reply), subst P (ap (λ (p : Carried). p.seat) lists) h.3),
      h.4,
    )

-- the same, where room was made before the look
pub missed_behind : (was made mid after : Carried) (s : ℕ) (o : Output) → IsAsBefore was made
    → Lists made mid (Call (WaitLook s)) o → o.reply ≡ Refused Memory
    → ((es : List Entry) × (last : Carried) × Grows mid last es × IsEndOfWait mid.seat s es × (after ≡ given_up s last))
    → (es : List Entry) × (last : Carried) × Grows was last es × GivesUp was.seat s es × (after ≡ given_up s last)
missed_behind was made mid after s o same lists reply h =
    let P : Carried → Type 0 =
    λ p. (es : List Entry) × (last : Carried) × Grows p last es × GivesUp p.seat s es × (after ≡ given_up s last) in
    subst P same (missed made mid after s o lists reply h)

AllWaiting-snoc : (seat s : ℕ) (es : List Entry) (o : Output) → AllWaiting seat s es → o.reply ≡ Waiting → AllWaiting seat s (es ++ look_of seat s o ∷ [])
AllWaiting-snoc seat s [] o h r = ((o, refl, r), tt)
AllWaiting-snoc seat s (e ∷ es) o h r = (h.0, AllWaiting-snoc seat s es o h.1 r)

pub waits_begun : (was after : Carried) (s d : ℕ) (b : Output) → Lists was after (Call (WaitBegin s d)) b → b.reply ≡ Done → Waits was after s d b [] []
waits_begun was after s d b l r = record {
  list = l ∙ ap (λ es. let c : Carried = record was { list = es; spare = after.spare; front = after.front } in c) (sym (append-nil (was.list ++ entry_of was.seat (Call (WaitBegin s d)) b ∷ [])));
  done = r;
  waiting = tt;
}

pub waits_more : (was mid last : Carried) (s d : ℕ) (b : Output) (looks es : List Entry) → Waits was mid s d b looks [] → Grows mid last es → Waits was last s d b looks es
waits_more was mid last s d b looks es w g = record {
  list = g
      ∙ (λ i. record (w.list i) { list = (w.list i).list ++ es; spare = last.spare; front = last.front })
      ∙ ap (λ xs. let c : Carried = record was { list = xs ++ es; spare = last.spare; front = last.front } in c) (append-nil (was.list ++ entry_of was.seat (Call (WaitBegin s d)) b ∷ looks));
  done = w.done;
  waiting = w.waiting;
}

pub waits_over : (was mid last : Carried) (s d : ℕ) (b : Output) (looks : List Entry) (o : Output) → Waits was mid s d b looks [] → Lists mid last (Call (WaitLook s)) o → Waits was last s d b looks (look_of was.seat s o ∷ [])
waits_over was mid last s d b looks o w l =
    let P : ℕ → Type 0 = λ seat. Waits was last s d b looks (look_of seat s o ∷ []) in
    subst P (ap (λ p. p.seat) w.list) (waits_more was mid last s d b looks (look_of mid.seat s o ∷ []) w l)

pub waits_on : (was mid last : Carried) (s d : ℕ) (b : Output) (looks : List Entry) (o : Output) → Waits was mid s d b looks [] → Lists mid last (Call (WaitLook s)) o → o.reply ≡ Waiting → Waits was last s d b (looks ++ look_of was.seat s o ∷ []) []
waits_on was mid last s d b looks o w l r =
    let v = waits_over was mid last s d b looks o w l in
    let begin = entry_of was.seat (Call (WaitBegin s d)) b in
    let look = look_of was.seat s o ∷ [] in record {
      list = v.list ∙ ap (λ xs. let c : Carried = record was { list = xs; spare = last.spare; front = last.front } in c) (append_assoc was.list (begin ∷ looks) look ∙ sym (append-nil (was.list ++ ((begin ∷ looks) ++ look))));
      done = v.done;
      waiting = AllWaiting-snoc was.seat s looks o v.waiting r;
    }

pub waits_failed : (was mid after : Carried) (s d : ℕ) (b : Output) (looks : List Entry) → Waits was mid s d b looks []
    → ((es : List Entry) × (last : Carried) × Grows mid last es × GivesUp mid.seat s es × (after ≡ given_up s last))
    → was.front < after.front → Failed was after s d
waits_failed was mid after s d b looks w h above =
    let P : ℕ → Type 0 = λ seat. GivesUp seat s h.0 in
    inr (
      b,
      looks,
      h.0,
      h.1,
      waits_more was mid h.1 s d b looks h.0 w h.2,
      subst P (ap (λ (p : Carried). p.seat) w.list) h.3,
      h.4,
      above,
    )

-- what answered a wait answers it
pub answered_by : (was after : Carried) (s d : ℕ) (o : Output) → AnsweredWith was after s d o → Answered was after s d
answered_by was after s d o (inl refused) = inl (o, refused.0, refused.1)
answered_by was after s d o (inr looked) = inr (looked.0, looked.1, o, looked.2, looked.3)
