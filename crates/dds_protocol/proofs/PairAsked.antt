-- An ACKNACK is taken by the writer that it is for, as to the reader that sent it, once; other writers do nothing.
use Rattle.std.proofs.Common.{◌≡◌, ◌⊎◌, ℕ, ℤ, zero, suc, ◌+◌, ◌<◌, ◌≤◌, ◌&&◌, Bool, true, false, cond, nat_le, List, [], ◌∷◌, ◌++◌, Option, Some, length, get_or, refl, subst, ap, sym, ◌∙◌, inl, inr, ⊎_elim, arith, eq-eqb}
use Rattle.std.specs.Option.{option_map}
use Rattle.dds_base.specs.declared.guid.EntityId.{EntityId}
use Rattle.dds_base.specs.Kept.{numbers_from}
use Rattle.dds_base.specs.Counts.{is_later}
use Rattle.rtps_wire.specs.declared.acknack.AckNack.{AckNack as AckNackBody}
use Rattle.rtps_wire.specs.declared.submessage.Submessage.TheVariants.{AckNack}
use Rattle.dds_base.specs.declared.endpoint.Endpoint.{Endpoint}
use Rattle.dds_machine.specs.declared.reply.Move.{Move}
use Rattle.dds_machine.specs.Numbered.{HasNumber}
use Rattle.dds_machine.specs.Part.{Part, ReaderProxy, Writer, no_writer, same_endpoint, row_of, own_writer, acknowledged_of, writer_changes}
use Rattle.dds_protocol.specs.Claims.{Receiver, IsToWriter}
use Rattle.dds_protocol.specs.DueMessages.{Due}
use Rattle.dds_protocol.specs.Contact.{Contact}
use Rattle.dds_protocol.specs.Protocol.{Known, State, InTurn, TakesAckNack, is_taken_up, WriterTakes, Takes, contact_after, with_answered}
use Rattle.dds_protocol.specs.Backed.{reader_at}
use Rattle.dds_protocol.proofs.Framing.{number_or_not}
use Rattle.dds_protocol.proofs.InOrder.{same_self}
use Rattle.dds_protocol.proofs.PairTurns.{Host, above}
use Rattle.dds_protocol.proofs.Ruled.{not_later_than_itself}
use Rattle.dds_machine.proofs.Tables.{append_nothing, same_is}

-- an ACKNACK of this reader to the peer's writer of this number, and to no other
pub record Asking : Type 0 where
  pub host : Host
  pub at : Receiver
  pub body : AckNackBody
  pub writer : ℕ
  pub reader : Endpoint
  pub is_to : IsToWriter host.roster host.own at body.reader_id body.writer_id (reader_at host.peer writer) reader
  pub names : (k : ℕ) (x : Endpoint)
      → IsToWriter host.roster host.own at body.reader_id body.writer_id (reader_at host.peer k) x
      → (k ≡ writer) × (x ≡ reader)

-- the writer took it, as from this reader
pub record TookOf (c : Asking) (x : Endpoint) (old : State) (dues : List Due) (new : State) : Type 0 where
  pub is : IsToWriter c.host.roster c.host.own c.at c.body.reader_id c.body.writer_id (reader_at c.host.peer c.writer) x
  pub moves : List Move
  pub takes : TakesAckNack c.host.own c.at old c.writer x is.entity c.body moves dues new

abbrev pub Took : Asking → State → List Due → State → Type 0
Took c old dues new = TookOf c c.reader old dues new

abbrev ByWriter : Asking → ℕ → Endpoint → State → List Move → List Due → State → Type 0
ByWriter c k x = WriterTakes c.host.roster c.host.own c.host.peer c.at c.body k x

abbrev ByRows : Asking → ℕ → List ReaderProxy → State → List Move → List Due → State → Type 0
ByRows c k rows old moves dues new = InTurn (λ (p : ReaderProxy). ByWriter c k p.reader) rows old moves dues new

-- the writer of this number takes none of it
abbrev TakesNone : Asking → ℕ → State → Type 0
TakesNone c k s =
    (x : Endpoint) → IsToWriter c.host.roster c.host.own c.at c.body.reader_id c.body.writer_id
    (reader_at c.host.peer k) x → is_taken_up s k x c.body ≡ false

rows_idle : (c : Asking) (k : ℕ) (rows : List ReaderProxy) (old : State) (moves : List Move) (dues : List Due)
    (new : State) → TakesNone c k old → ByRows c k rows old moves dues new → (dues ≡ []) × (new ≡ old)
rows_idle c k [] old moves dues new none h = (h.1, h.2)
rows_idle c k (p ∷ ps) old moves dues new none h =
    by h.7 (λ same. rows_idle c k ps old h.1 h.3 new none (subst (λ (s : State). ByRows c k ps s h.1 h.3 new) same h.8))
  where
    by : ByWriter c k p.reader old h.0 h.2 h.4 → (h.4 ≡ old → (h.3 ≡ []) × (new ≡ old)) → (dues ≡ []) × (new ≡ old)
    by (inl t) later = let no = none p.reader t.0 in let is = t.1 in absurd cc
    by (inr t) later =
        let rest = later t.1.2 in
        (h.6 ∙ (ap (λ (ds : List Due). ds ++ h.3) t.1.1 ∙ rest.0), rest.1)

answered_here : (known : Known) (w : ℕ) (r : Endpoint) (contact : Contact)
    → (with_answered known w r contact).answered w r ≡ contact
answered_here known w r contact =
    ap (λ (b : Bool). cond (b && same_endpoint r r) contact (known.answered w r)) (eq-eqb w w refl)
    ∙ ap (λ (b : Bool). cond b contact (known.answered w r)) (same_self r)

-- once it was taken it is no longer new
taken_once : (c : Asking) (k : ℕ) (x : Endpoint) (entity : EntityId) (old : State) (made : List Move) (dues : List Due)
    (new : State) → TakesAckNack c.host.own c.at old k x entity c.body made dues new
    → is_taken_up new k x c.body ≡ false
taken_once c k x entity old made dues new t =
    ap (λ (o : Option ℤ). is_later o c.body.count && nat_le c.body.reader_sn_state.base
    (length (writer_changes (own_writer new.part k)) + 1))
    (ap (λ (s : State). (s.known.answered k x).count) t.after
    ∙ ap (λ (y : Contact). y.count)
    (answered_here old.known k x (contact_after (old.known.answered k x) c.body)))
    ∙ ap (λ (b : Bool). b && nat_le c.body.reader_sn_state.base (length (writer_changes (own_writer new.part k)) + 1))
    (not_later_than_itself c.body.count)

-- the reader has a row among these
abbrev pub HasRow : List ReaderProxy → Endpoint → Type 0
HasRow rows r = (a : ℕ) × (acknowledged_of rows r ≡ Some a)

row_later : (p : ReaderProxy) (ps : List ReaderProxy) (r : Endpoint) → HasRow (p ∷ ps) r → (p.reader ≡ r) ⊎ HasRow ps r
row_later p ps r h = by (same_endpoint p.reader r) refl h.1
  where
    by : (b : Bool) → same_endpoint p.reader r ≡ b
        → option_map (λ (q : ReaderProxy). q.acknowledged)
        (cond b (Some p) (row_of (λ (q : ReaderProxy). q.reader) ps r)) ≡ Some h.0
        → (p.reader ≡ r) ⊎ HasRow ps r
    by true e k = inl (same_is p.reader r e)
    by false e k = inr (h.0, k)

rows_take : (c : Asking) (rows : List ReaderProxy) (old : State) (moves : List Move) (dues : List Due) (new : State)
    → is_taken_up old c.writer c.reader c.body ≡ true → HasRow rows c.reader
    → ByRows c c.writer rows old moves dues new → Took c old dues new
rows_take c [] old moves dues new taken row h = let none = row.1 in absurd cc
rows_take c (p ∷ ps) old moves dues new taken row h =
    by h.7 (λ same next. rows_take c ps old h.1 h.3 new taken next
    (subst (λ (s : State). ByRows c c.writer ps s h.1 h.3 new) same h.8))
  where
    here : (t : IsToWriter c.host.roster c.host.own c.at c.body.reader_id c.body.writer_id
        (reader_at c.host.peer c.writer) p.reader)
        → TakesAckNack c.host.own c.at old c.writer p.reader t.entity c.body h.0 h.2 h.4 → Took c old dues new
    here t k =
        let same : p.reader ≡ c.reader = (c.names c.writer p.reader t).1 in
        let none : TakesNone c c.writer h.4 =
        λ x to.
        let is : x ≡ p.reader = (c.names c.writer x to).1 ∙ sym same in
        subst (λ (y : Endpoint). is_taken_up h.4 c.writer y c.body ≡ false) (sym is)
        (taken_once c c.writer p.reader t.entity old h.0 h.2 h.4 k) in
        let rest = rows_idle c c.writer ps h.4 h.1 h.3 new none h.8 in
        let all : dues ≡ h.2 = h.6 ∙ (ap (λ (ds : List Due). h.2 ++ ds) rest.0 ∙ append_nothing h.2) in
        let one : TookOf c p.reader old h.2 h.4 = record { is = t; moves = h.0; takes = k } in
        subst (λ (x : Endpoint). TookOf c x old dues new) same
        (subst (λ (ds : List Due). TookOf c p.reader old ds new) (sym all)
        (subst (λ (s : State). TookOf c p.reader old h.2 s) (sym rest.1) one))

    by : ByWriter c c.writer p.reader old h.0 h.2 h.4 → (h.4 ≡ old → HasRow ps c.reader → Took c old h.3 new)
        → Took c old dues new
    by (inl t) later = here t.0 t.2
    by (inr t) later =
        ⊎_elim
        (λ same.
        let no =
        t.0 (subst (λ (x : Endpoint). IsToWriter c.host.roster c.host.own c.at c.body.reader_id c.body.writer_id
        (reader_at c.host.peer c.writer) x) (sym same) c.is_to) in
        let is = ap (λ (x : Endpoint). is_taken_up old c.writer x c.body) same in absurd cc)
        (λ next. subst (λ (ds : List Due). Took c old ds new) (sym (h.6 ∙ ap (λ (ds : List Due). ds ++ h.3) t.1.1))
        (later t.1.2 next))
        (row_later p ps c.reader row)

-- ---- the writers in turn

-- the rows are those that the peer's writers had at first
abbrev ByWriters : Asking → State → ℕ → ℕ → State → List Move → List Due → State → Type 0
ByWriters c start first count old moves dues new =
    InTurn (λ (k : ℕ). InTurn (λ (p : ReaderProxy). ByWriter c k p.reader) (own_writer start.part k).readers)
    (numbers_from first count) old moves dues new

writers_idle : (c : Asking) (start : State) (first count : ℕ) (old : State) (moves : List Move) (dues : List Due)
    (new : State) → c.writer < first
    → ByWriters c start first count old moves dues new → (dues ≡ []) × (new ≡ old)
writers_idle c start first zero old moves dues new past h = (h.1, h.2)
writers_idle c start first (suc count) old moves dues new past h =
    let none : TakesNone c first old = λ x to. let is = (c.names first x to).0 in absurd (omega (arith, is, past)) in
    let one = rows_idle c first (own_writer start.part first).readers old h.0 h.2 h.4 none h.7 in
    let rest = writers_idle c start (first + 1) count h.4 h.1 h.3 new (omega (arith, past)) h.8 in
    (h.6 ∙ (ap (λ (ds : List Due). ds ++ h.3) one.0 ∙ rest.0), rest.1 ∙ one.1)

first_takes : (c : Asking) (start : State) (count : ℕ) (old : State) (moves : List Move) (dues : List Due) (new : State)
    → is_taken_up old c.writer c.reader c.body ≡ true → HasRow (own_writer start.part c.writer).readers c.reader
    → ByWriters c start c.writer (suc count) old moves dues new → Took c old dues new
first_takes c start count old moves dues new taken row h =
    let one : Took c old h.2 h.4 = rows_take c (own_writer start.part c.writer).readers old h.0 h.2 h.4 taken row h.7 in
    let rest = writers_idle c start (c.writer + 1) count h.4 h.1 h.3 new (omega arith) h.8 in
    let all : dues ≡ h.2 = h.6 ∙ (ap (λ (ds : List Due). h.2 ++ ds) rest.0 ∙ append_nothing h.2) in
    subst (λ (ds : List Due). Took c old ds new) (sym all) (subst (λ (s : State). Took c old h.2 s) (sym rest.1) one)

writers_take : (c : Asking) (start : State) (first count : ℕ) (old : State) (moves : List Move) (dues : List Due)
    (new : State) → first ≤ c.writer → c.writer < first + count
    → is_taken_up old c.writer c.reader c.body ≡ true → HasRow (own_writer start.part c.writer).readers c.reader
    → ByWriters c start first count old moves dues new → Took c old dues new
writers_take c start first zero old moves dues new low high taken row h = absurd (omega (arith, low, high))
writers_take c start first (suc count) old moves dues new low high taken row h =
    ⊎_elim (λ e. first_takes c start count old moves dues new taken row
    (subst (λ (n : ℕ). ByWriters c start n (suc count) old moves dues new) (sym e) h))
    (λ apart.
    let none : TakesNone c first old = λ x to. absurd (apart (sym (c.names first x to).0)) in
    let one = rows_idle c first (own_writer start.part first).readers old h.0 h.2 h.4 none h.7 in
    let later : ByWriters c start (first + 1) count old h.1 h.3 new =
    subst (λ (s : State). ByWriters c start (first + 1) count s h.1 h.3 new) one.1 h.8 in
    subst (λ (ds : List Due). Took c old ds new) (sym (h.6 ∙ ap (λ (ds : List Due). ds ++ h.3) one.0))
    (writers_take c start (first + 1) count old h.1 h.3 new (above c.writer first low apart)
    (omega (arith, high)) taken row later))
    (number_or_not c.writer first)

-- a writer with a matched reader is there
pub has_writer : (part : Part) (w : ℕ) (r : Endpoint) → HasRow (own_writer part w).readers r
    → HasNumber part.rtps.writers w
has_writer part zero r h = let none = h.1 in cc
has_writer part (suc i) r h = (omega arith, within part.rtps.writers i h.1)
  where
    within : (ws : List Writer) (i : ℕ) → acknowledged_of (get_or ws i no_writer).readers r ≡ Some h.0
        → suc i ≤ length ws
    within [] i e = cc
    within (w ∷ ws) zero e = omega arith
    within (w ∷ ws) (suc i) e = let k = within ws i e in omega (arith, k)

-- an ACKNACK that is new, and whose base is not past the next number, is taken
pub asked_takes : (c : Asking) (old : State) (moves : List Move) (dues : List Due) (new : State)
    → is_taken_up old c.writer c.reader c.body ≡ true → HasRow (own_writer old.part c.writer).readers c.reader
    → Takes c.host.roster c.host.own c.host.peer c.at (AckNack c.body) old moves dues new → Took c old dues new
asked_takes c old moves dues new taken row h =
    let there = has_writer old.part c.writer c.reader row in
    let low = there.0 in
    let high = there.1 in
    writers_take c old 1 (length old.part.rtps.writers) old moves dues new low (omega (arith, high)) taken row h
