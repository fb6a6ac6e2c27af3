-- What tells an assertion of a writer is what is due for it.
use Rattle.std.proofs.Common.{◌≡◌, ℕ, suc, ◌+◌, ◌-◌, ◌^◌, ◌<◌, Bool, true, false, List, [], ◌∷◌, ◌++◌, Some, None, map, take, length, get_or, refl, ap, sym, ◌∙◌, subst, arith, length-append}
use Rattle.std.specs.Prelude.{pos, nat_le, nat_lt, if◌then◌else◌}
use Rattle.std.proofs.lemmas.Bool.Decides.{nat_tests}
use Rattle.std.proofs.lemmas.List.{take_more, map-append}
use Rattle.std.proofs.lemmas.Option.{same_Some}
use Rattle.dds_base.specs.declared.code.Code.{Code}
use Rattle.dds_base.specs.declared.code.Code.TheVariants.{OutOfResources}
use Rattle.dds_base.specs.declared.guid.GuidPrefix.{GuidPrefix}
use Rattle.dds_base.specs.Kept.{first_kept}
use Rattle.dds_base.specs.Written.{counts_of}
use Rattle.rtps_writer.specs.Standing.{Kept, StandsFor as RtpsStandsFor}
use Rattle.rtps_writer.specs.Liveliness.{assert_refusal, asserted, heartbeat_asserted}
use Rattle.rtps_writer.specs.WriterState.{WriterState, counts_due, last_of, history_of as rtps_history_of}
use Rattle.rtps_writer.specs.declared.heartbeat.HeartbeatDue.{HeartbeatDue}
use Rattle.dds_base.specs.declared.endpoint.Endpoint.{Endpoint}
use Rattle.dds_protocol.specs.declared.event.Packet.{Packet}
use Rattle.dds_machine.specs.Part.{Writer, heartbeats_used}
use Rattle.dds_protocol.specs.DueMessages.{Due, AreSent}
use Rattle.dds_protocol.specs.Contact.{Contact}
use Rattle.dds_ends.specs.declared.matching.Destination.{Destination}
use Rattle.dds_ends.specs.Beating.{Adds, IsDueOf, assertions_of, beat_of, beats_message}
use Rattle.dds_ends.specs.Kept.{WriterKept}
use Rattle.dds_ends.specs.Standing.{state_of}
use Rattle.dds_ends.proofs.Beating.{due_by, made_is, written_on}

-- ---- one destination more

pub told_more : (tell : Destination → Due) (ds : List Destination) (i : ℕ) (d : Destination) (p q : List Packet) (m n : ℕ)
    → i < length ds → AreSent (map tell (take i ds)) p m → Adds (tell (get_or ds i d) ∷ []) p m q n
    → AreSent (map tell (take (i + 1) ds)) q n
told_more tell ds i d p q m n lt h k =
    let last : Destination = get_or ds i d in
    let told : List Due = map tell (take i ds) in
    let all : map tell (take (i + 1) ds) ≡ told ++ tell last ∷ [] =
    ap (λ (es : List Destination). map tell es) (take_more ds i d lt) ∙ map-append tell (take i ds) (last ∷ []) in
    subst (λ (dues : List Due). AreSent dues q n) (sym all)
    (subst (λ (xs : List Packet). AreSent (told ++ tell last ∷ []) xs n) (sym k.sent)
    (subst (λ (j : ℕ). AreSent (told ++ tell last ∷ []) (p ++ k.packets) j) (sym k.lost)
    (written_on told (tell last ∷ []) p k.packets m k.unsent h k.written)))

-- ---- what is due

some_told : (b : Bool) (xs : List Bool) (make : ℕ → HeartbeatDue) (due : HeartbeatDue)
    → (if b then Some (make (length (xs ++ true ∷ []))) else None) ≡ Some due
    → due ≡ make (length xs + 1)
some_told true xs make due is =
    sym (same_Some (make (length (xs ++ true ∷ []))) due is) ∙ ap make (length-append xs (true ∷ []))
some_told false xs make due is = absurd cc

none_told : (b : Bool) (due : HeartbeatDue) → (if b then Some due else None) ≡ None → b ≡ false
none_told true due is = absurd cc
none_told false due is = refl

-- what is due says so
pub told_is : (w : Writer) (answered : Endpoint → Contact) (is_matched : Bool) (now : ℕ) (due : HeartbeatDue)
    → heartbeat_asserted (state_of w answered) is_matched now ≡ Some due → due ≡ due_by w (heartbeats_used w + 1)
told_is w answered is_matched now due is = some_told is_matched (counts_of w.written) (due_by w) due is

-- the HEARTBEATs that are sent are those of the writer
pub told_are : (prefix : GuidPrefix) (kept : WriterKept) (w : Writer) (answered : Endpoint → Contact)
    (is_matched : Bool) (now : ℕ) (due : HeartbeatDue)
    → heartbeat_asserted (state_of w answered) is_matched now ≡ Some due
    → map (beats_message (record { prefix = prefix; entity = kept.entity; due = due; asserts = true }) w answered
    kept.matched) kept.destinations ≡ assertions_of prefix kept w answered
told_are prefix kept w answered is_matched now due is =
    let d = told_is w answered is_matched now due is in
    ap (λ (x : HeartbeatDue). map
    (beats_message (record { prefix = prefix; entity = kept.entity; due = x; asserts = true }) w answered kept.matched)
    kept.destinations) d

-- where nobody is counted, nobody is sent to
pub nowhere : (ds : List Destination) (n : ℕ) → n ≡ length ds → nat_lt 0 n ≡ false → ds ≡ []
nowhere [] n is none = refl
nowhere (d ∷ ds) n is none = absurd (some n is none)
  where
    some : (n : ℕ) → n ≡ suc (length ds) → nat_lt 0 n ≡ false → ⊥
    some n is none = grind (arith, nat_tests)

pub told_none : (prefix : GuidPrefix) (kept : WriterKept) (w : Writer) (answered : Endpoint → Contact)
    (is_matched : Bool) (now : ℕ) → (is_matched ≡ false → kept.destinations ≡ [])
    → heartbeat_asserted (state_of w answered) is_matched now ≡ None → [] ≡ assertions_of prefix kept w answered
told_none prefix kept w answered is_matched now nowhere is =
    let nobody = none_told is_matched (due_by w (length (counts_of w.written ++ true ∷ []))) is in
    sym (ap (λ (ds : List Destination). map
    (beats_message (beat_of prefix kept.entity true w) w answered kept.matched) ds) (nowhere nobody))

-- one that is due for an assertion is of the writer after it
pub due_told : (kept : Kept) (s : WriterState) (is_matched : Bool) (now : ℕ) (due : HeartbeatDue)
    → RtpsStandsFor kept (asserted s now) → heartbeat_asserted s is_matched now ≡ Some due → IsDueOf kept due
due_told kept s is_matched now due stands is =
    let same =
    made_is is_matched
    (record { first = first_kept (rtps_history_of s); last = last_of s; count = pos (counts_due (asserted s now)) }) due
    is in
    record {
      state = asserted s now;
      stands = stands;
      first = sym (ap (λ (d : HeartbeatDue). d.first) same);
      last = sym (ap (λ (d : HeartbeatDue). d.last) same);
    }

-- ---- counts that are left

left_if : (b : Bool) → (if b then Some OutOfResources else None) ≡ None → b ≡ false
left_if true is = absurd cc
left_if false is = refl

used_if : (b : Bool) (code : Code) → (if b then Some OutOfResources else None) ≡ Some code
    → (code ≡ OutOfResources) × (b ≡ true)
used_if true code is = (sym (same_Some OutOfResources code is), refl)
used_if false code is = absurd cc

pub count_left : (w : Writer) (answered : Endpoint → Contact) → assert_refusal (state_of w answered) ≡ None
    → nat_le (2 ^ 31 - 1) (heartbeats_used w) ≡ false
count_left w answered is =
    left_if (nat_le (2 ^ 31 - 1) (counts_due (state_of w answered))) is

pub count_used : (w : Writer) (answered : Endpoint → Contact) (code : Code)
    → assert_refusal (state_of w answered) ≡ Some code
    → (code ≡ OutOfResources) × (nat_le (2 ^ 31 - 1) (heartbeats_used w) ≡ true)
count_used w answered code is =
    used_if (nat_le (2 ^ 31 - 1) (counts_due (state_of w answered))) code is
