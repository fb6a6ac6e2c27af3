-- What a tick or an assertion does to a writer, and the HEARTBEAT that it asks for.
use Rattle.std.proofs.Common.{◌≡◌, ℕ, ◌+◌, ◌-◌, ◌^◌, ◌<◌, ◌≤◌, min, Bool, true, false, ◌&&◌, ◌⊎◌, inl, inr, cond, List, [], ◌∷◌, ◌++◌, length, Option, Some, None, ℤ, pos, refl, ap, ◌∙◌, arith, length-append}
use Rattle.std.proofs.Math.Bool.{beq}
use Rattle.std.specs.Prelude.{if◌then◌else◌, nat_le, nat_lt}
use Rattle.std.specs.Bool.{then_some}
use Rattle.std.specs.List.{list_any}
use Rattle.std.proofs.lemmas.Bool.Decides.{nat_tests}
use Rattle.dds_base.specs.declared.code.Code.TheVariants.{OutOfResources}
use Rattle.dds_base.specs.Kept.{first_kept}
use Rattle.dds_base.specs.Written.{Ticked, counts_of}
use Rattle.rtps_writer.specs.declared.heartbeat.HeartbeatDue.{HeartbeatDue}
use Rattle.rtps_writer.specs.declared.liveliness.Liveliness.{Liveliness}
use Rattle.rtps_writer.specs.Liveliness.{assert_refusal, asserted, heartbeat_asserted}
use Rattle.rtps_writer.specs.LivelinessKept.{IsLiveliness}
use Rattle.rtps_writer.specs.Standing.{Kept, StandsFor}
use Rattle.rtps_writer.proofs.Parts.{other-strength}
use Rattle.rtps_writer.specs.WriterState.{WriterState, counts_due, heartbeat_due, history_of, is_told, last_of, ticked}

-- a search for a mark that is set
pub any_set : (marks : List Bool) → list_any (λ b. beq b true) marks ≡ list_any (λ b. b) marks
any_set [] = refl
any_set (true ∷ marks) = refl
any_set (false ∷ marks) = any_set marks

length_if : (b : Bool) (xs : List Bool) → length (if b then xs ++ false ∷ [] else xs) ≡ length xs + cond b 1 0
length_if true xs = let n = length-append xs (false ∷ []) in omega (arith, n)
length_if false xs = omega arith

-- a tick takes a count where its HEARTBEAT is for some reader
counts-ticked : (s : WriterState) (now : ℕ) → counts_due (ticked s now) ≡ counts_due s + cond (is_told s) 1 0
counts-ticked s now = length_if (is_told s) (counts_of s.written)

-- what is kept of the liveliness has taken the tick up
abbrev pub LivesOn : Liveliness → WriterState → ℕ → Type 0
LivesOn live s now = IsLiveliness live s.lease (Ticked now (is_told s) ∷ s.written)

stands-ticked : (kept : Kept) (live : Liveliness) (s : WriterState) (now used : ℕ) → StandsFor kept s
    → LivesOn live s now → used ≡ min (counts_due (ticked s now)) (2 ^ 31 - 1)
    → StandsFor (record kept { counts_used = used; liveliness = live }) (ticked s now)
stands-ticked kept live s now used given lives is = record {
  history = given.history;
  registered = given.registered;
  firsts = given.firsts;
  counts = given.counts;
  asks = given.asks;
  silents = given.silents;
  counts_used = is;
  liveliness = lives;
  strength = given.strength ∙ other-strength s.strength s.written (Ticked now (is_told s)) (λ configured. refl);
}

none_due : (b c : Bool) (h : HeartbeatDue) → (b && c) ≡ false → (if b && c then Some h else None) ≡ None
none_due b c h is = ap (λ (v : Bool). if v then Some h else None) is

-- a tick at which nothing is due
abbrev pub Idle : Kept → Liveliness → WriterState → ℕ → Type 0
Idle kept live s now = StandsFor (record kept { liveliness = live }) (ticked s now) × (heartbeat_due s now ≡ None)

none_left : (b : Bool) (more due : ℕ) → more ≡ due + cond b 1 0 → 2 ^ 31 - 1 ≤ due → (b && nat_lt more (2 ^ 31)) ≡ false
none_left true more due is most = grind (arith, nat_tests, is, most)
none_left false more due is most = refl

still_used : (b : Bool) (more due : ℕ) → more ≡ due + cond b 1 0 → 2 ^ 31 - 1 ≤ due → min due (2 ^ 31 - 1)
    ≡ min more (2 ^ 31 - 1)
still_used true more due is most = omega arith
still_used false more due is most = omega arith

-- where it would be for nobody, or the counts are used up, nothing is due
pub idle : (kept : Kept) (live : Liveliness) (s : WriterState) (now : ℕ) → StandsFor kept s → LivesOn live s now
    → (is_told s ≡ false) ⊎ (2 ^ 31 - 1 ≤ kept.counts_used) → Idle kept live s now
idle kept live s now given lives (inl nobody) =
    let more = counts-ticked s now ∙ ap (λ (b : Bool). counts_due s + cond b 1 0) nobody in
    let used = given.counts_used in (
      stands-ticked kept live s now kept.counts_used given lives (omega (arith, more, used)),
      ap (λ (b : Bool). if b && nat_lt (counts_due (ticked s now)) (2 ^ 31)
          then Some (record {
            first = first_kept (history_of s);
            last = last_of s;
            count = pos (counts_due (ticked s now));
          }) else None) nobody,
    )
idle kept live s now given lives (inr out) =
    let more = counts-ticked s now in
    let used = given.counts_used in
    let most : 2 ^ 31 - 1 ≤ counts_due s = omega (arith, used, out) in (
      stands-ticked kept live s now kept.counts_used given lives
          (used ∙ still_used (is_told s) (counts_due (ticked s now)) (counts_due s) more most),
      none_due (is_told s) (nat_lt (counts_due (ticked s now)) (2 ^ 31)) _
          (none_left (is_told s) (counts_due (ticked s now)) (counts_due s) more most),
    )

counts-used : (kept : Kept) (s : WriterState) (now : ℕ) → StandsFor kept s → is_told s ≡ true
    → kept.counts_used < 2 ^ 31 - 1 → counts_due (ticked s now) ≡ kept.counts_used + 1
counts-used kept s now given told few =
    let more = counts-ticked s now ∙ ap (λ (b : Bool). counts_due s + cond b 1 0) told in
    let used = given.counts_used in
    omega (arith, more, used, few)

-- where it is for some reader and a count is left, the tick takes it
pub stands-due : (kept : Kept) (live : Liveliness) (s : WriterState) (now : ℕ) → StandsFor kept s
    → LivesOn live s now → is_told s ≡ true → kept.counts_used < 2 ^ 31 - 1
    → StandsFor (record kept { counts_used = kept.counts_used + 1; liveliness = live }) (ticked s now)
stands-due kept live s now given lives told few =
    let count = counts-used kept s now given told few in
    stands-ticked kept live s now (kept.counts_used + 1) given lives (omega (arith, count, few))

pub due_as : (f l : ℕ) (g m : ℕ) (c d : ℤ) → f ≡ g → l ≡ m → c ≡ d
    → ◌≡◌ {A = Option HeartbeatDue} (Some (record { first = f; last = l; count = c }))
    (Some (record { first = g; last = m; count = d }))
due_as f l g m c d e h i = cc

-- and the HEARTBEAT is due
pub due : (kept : Kept) (s : WriterState) (now : ℕ) → StandsFor kept s → is_told s ≡ true
    → kept.counts_used < 2 ^ 31 - 1
    → heartbeat_due s now
    ≡ Some (record { first = first_kept (history_of s); last = last_of s; count = pos (kept.counts_used + 1) })
due kept s now given told few =
    let count = counts-used kept s now given told few in
    let left : nat_lt (counts_due (ticked s now)) (2 ^ 31) ≡ true = grind (arith, nat_tests, count, few) in
    let heartbeat : ℕ → HeartbeatDue =
    λ n. record { first = first_kept (history_of s); last = last_of s; count = pos n } in
    ap (λ (b : Bool). if b && nat_lt (counts_due (ticked s now)) (2 ^ 31)
    then Some (heartbeat (counts_due (ticked s now))) else None) told
    ∙ (ap (λ (b : Bool). if b then Some (heartbeat (counts_due (ticked s now))) else None) left
    ∙ ap (λ (n : ℕ). Some (heartbeat n)) count)

counts-asserted : (s : WriterState) (now : ℕ) → counts_due (asserted s now) ≡ counts_due s + 1
counts-asserted s now = length-append (counts_of s.written) (true ∷ [])

-- the HEARTBEAT, where a reader is matched
told_if : (b : Bool) (heartbeat : ℕ → HeartbeatDue) (n m : ℕ) → n ≡ m
    → then_some b (heartbeat n) ≡ (if b then Some (heartbeat m) else None)
told_if true heartbeat n m same = ap (λ (k : ℕ). Some (heartbeat k)) same
told_if false heartbeat n m same = refl

-- where a count is left, an assertion is not refused, and where a reader is matched, its HEARTBEAT is due
pub due-asserted : (kept : Kept) (s : WriterState) (is_matched : Bool) (now : ℕ) (heartbeat : HeartbeatDue)
    → StandsFor kept s → kept.counts_used < 2 ^ 31 - 1
    → heartbeat ≡ record { first = first_kept (history_of s); last = last_of s; count = pos (kept.counts_used + 1) }
    → (assert_refusal s ≡ None) × (then_some is_matched heartbeat ≡ heartbeat_asserted s is_matched now)
due-asserted kept s is_matched now heartbeat given few is =
    let used = given.counts_used in
    let left : nat_le (2 ^ 31 - 1) (counts_due s) ≡ false = grind (arith, nat_tests, used, few) in
    let more = counts-asserted s now in
    let count : kept.counts_used + 1 ≡ counts_due (asserted s now) = omega (arith, used, few, more) in
    let due : ℕ → HeartbeatDue =
    λ n. record { first = first_kept (history_of s); last = last_of s; count = pos n } in (
      ap (λ (b : Bool). if b then Some OutOfResources else None) left,
      ap (λ (h : HeartbeatDue). then_some is_matched h) is
          ∙ told_if is_matched due (kept.counts_used + 1) (counts_due (asserted s now)) count,
    )
