-- Whether a change that comes turns its instance to a state that is not alive.
use Rattle.std.proofs.Common.{◌≡◌, ℕ, ◌+◌, ◌≤◌, ◌<◌, List, [], ◌∷◌, suc, length, Bool, true, false, not, ◌==◌, ◌&&◌, ◌||◌, sym, ap, ◌∙◌, refl, Option, Some, None, cond, arith, ⊎_elim}
use Rattle.std.specs.Prelude.{if◌then◌else◌, nat_le, nat_lt}
use Rattle.std.specs.List.{filter}
use Rattle.std.proofs.lemmas.Bool.{cases_Bool, eqb-true, eqb-false}
use Rattle.std.proofs.lemmas.Bool.Decides.{nat_tests}
use Rattle.dds_base.specs.declared.key.Key.{Key}
use Rattle.dds_base.specs.declared.change.ChangeKind.{ChangeKind}
use Rattle.dds_base.specs.declared.change.ChangeKind.TheVariants.{Write, Dispose, Unregister, DisposeUnregister}
use Rattle.dds_base.specs.declared.happening.Arrival.{Arrival}
use Rattle.dds_base.specs.declared.happening.Happening.{Happening}
use Rattle.dds_base.specs.declared.happening.Happening.TheVariants.{Came}
use Rattle.dds_base.specs.declared.sample.InstanceState.{InstanceState}
use Rattle.dds_base.specs.declared.sample.InstanceState.TheVariants.{Alive, NotAliveNoWriters}
use Rattle.dds_base.specs.declared.qos.MatchedWriter.{MatchedWriter}
use Rattle.dds_base.specs.declared.qos.ReaderQos.{ReaderQos}
use Rattle.dds_base.specs.Happening.{same_key, is_write_or_dispose, is_unregister}
use Rattle.dds_base.specs.Ownership.{AreOfMatched, accepted_kind, numbered_from, is_registered, publication_handles, registered_writers, writers_of}
use Rattle.dds_base.specs.Instance.{instance_state_of}
use Rattle.dds_base.specs.Life.{or_else, state_after, is_nobody, last_accepted, becomes_not_alive}
use Rattle.dds_base.specs.Presence.{marks}
use Rattle.dds_base.proofs.KeyLaws.{same_key-refl}
use Rattle.dds_instances.specs.declared.track.InstanceTrack.{InstanceTrack}
use Rattle.dds_instances.specs.Track.{Tracks, is_born_dead, is_left_at_first, state_of_track}
use Rattle.dds_owner.proofs.RegistrationLaws.{not-not, somebody-by}
use Rattle.dds_instances.proofs.TrackLaws.{state-tracked}
use Rattle.dds_instances.proofs.KnownLaws.{fewer-pass, registered-before, unknown}
use Rattle.dds_instances.proofs.StandingLaws.{first-accepted}

-- of an instance that is kept, by the accepted kind and whether anybody is registered then
pub marks-tracked : (q : ReaderQos) (h : List Happening) (a : Arrival) (t : InstanceTrack) (kind : Option ChangeKind)
    (left : Bool) → Tracks q a.change.key h t → kind ≡ accepted_kind q a.change.key h (Came a)
    → left ≡ not (is_nobody (registered_writers q a.change.key (Came a ∷ h)))
    → becomes_not_alive (state_of_track t) (state_after (or_else kind t.last_accepted) (not left))
    ≡ marks q a.change.key h (Came a)
marks-tracked q h a t kind left tracks kind_is left_is =
    let i : Key = a.change.key in
    ap (λ (s : Option InstanceState). becomes_not_alive s (state_after (or_else kind t.last_accepted) (not left)))
    (state-tracked q i h t tracks)
    ∙ (ap (λ (k : Option ChangeKind). becomes_not_alive (instance_state_of q i h)
    (state_after (or_else k t.last_accepted) (not left))) kind_is
    ∙ (ap (λ (l : Option ChangeKind). becomes_not_alive (instance_state_of q i h)
    (state_after (or_else (accepted_kind q i h (Came a)) l) (not left))) tracks.last_is
    ∙ ap (λ (b : Bool). becomes_not_alive (instance_state_of q i h)
    (state_after (or_else (accepted_kind q i h (Came a)) (last_accepted q i h)) b)) (sym (not-not _ _ left_is))))

-- ---- of an instance that is unknown

-- of numbers at which one test gives no true, the other gives it at w alone
nobody-but : (p g : ℕ → Bool) (w k : ℕ) (xs : List MatchedWriter) → ((v : ℕ) → p v ≡ ((w == v) || g v))
    → filter g (numbered_from k xs) ≡ []
    → is_nobody (filter p (numbered_from k xs)) ≡ not (nat_le k w && nat_lt w (k + length xs))
nobody-but p g w k [] is before = none k w
  where
    none : (k w : ℕ) → true ≡ not (nat_le k w && nat_lt w (k + 0))
    none k w = grind (arith, nat_tests)
nobody-but p g w k (x ∷ xs) is before =
    let rest : List ℕ = filter p (numbered_from (k + 1) xs) in
    let parts = head-gone (g k) (filter g (numbered_from (k + 1) xs)) before in
    let own : p k ≡ (w == k) = is k ∙ (ap (λ (b : Bool). (w == k) || b) parts.0 ∙ or-none (w == k)) in
    ⊎_elim
    (λ same. ap (λ (b : Bool). is_nobody (cond b (k ∷ rest) rest)) (own ∙ same)
    ∙ here k w (length xs) (eqb-true w k same))
    (λ other. ap (λ (b : Bool). is_nobody (cond b (k ∷ rest) rest)) (own ∙ other)
    ∙ (nobody-but p g w (k + 1) xs is parts.1 ∙ later k w (length xs) (eqb-false w k other)))
    (cases_Bool (w == k))
  where
    head-gone : (b : Bool) (ys : List ℕ) → cond b (k ∷ ys) ys ≡ [] → (b ≡ false) × (ys ≡ [])
    head-gone true ys e = absurd cc
    head-gone false ys e = (refl, e)

    or-none : (b : Bool) → (b || false) ≡ b
    or-none true = refl
    or-none false = refl

    here : (k w n : ℕ) → w ≡ k → false ≡ not (nat_le k w && nat_lt w (k + suc n))
    here k w n e = grind (arith, nat_tests)

    later : (k w n : ℕ) → (w ≡ k → ⊥) → not (nat_le (k + 1) w && nat_lt w (k + 1 + n))
        ≡ not (nat_le k w && nat_lt w (k + suc n))
    later k w n differ = grind (arith, nat_tests)

within-is : (w n : ℕ) → not (nat_le 1 w && nat_lt w (1 + n)) ≡ not (nat_lt 0 w && nat_le w n)
within-is w n = grind (arith, nat_tests)

registered-too : (s x u d r : Bool) → s ≡ true → u ≡ false → d ≡ true → (not ((s && x) && u) && (((s && x) && d) || r)) ≡ (x || r)
registered-too s true u d r s_is u_is d_is = cc
registered-too s false u d r s_is u_is d_is = cc

writes-or-ends : (kind : ChangeKind) → is_unregister kind ≡ false → is_write_or_dispose kind ≡ true
writes-or-ends Write e = refl
writes-or-ends Dispose e = refl
writes-or-ends Unregister e = absurd cc
writes-or-ends DisposeUnregister e = absurd cc

-- after a change that does not unregister, where nobody was registered, its writer is, if it is matched
nobody-written : (q : ReaderQos) (h : List Happening) (a : Arrival) → registered_writers q a.change.key h ≡ []
    → is_unregister a.change.kind ≡ false → is_nobody (registered_writers q a.change.key (Came a ∷ h))
    ≡ not (nat_lt 0 a.writer && nat_le a.writer (length (writers_of q h)))
nobody-written q h a none kind =
    nobody-but (λ v. is_registered a.change.key v (Came a ∷ h)) (λ v. is_registered a.change.key v h) a.writer 1 (writers_of q h)
    (λ v. registered-too (same_key a.change.key a.change.key) (a.writer == v) (is_unregister a.change.kind)
    (is_write_or_dispose a.change.kind) (is_registered a.change.key v h) (same_key-refl a.change.key)
    kind (writes-or-ends a.change.kind kind))
    none
    ∙ within-is a.writer (length (writers_of q h))

-- after one that does, nobody is
nobody-unregistered : (q : ReaderQos) (h : List Happening) (a : Arrival) → registered_writers q a.change.key h ≡ []
    → is_unregister a.change.kind ≡ true → registered_writers q a.change.key (Came a ∷ h) ≡ []
nobody-unregistered q h a none kind =
    let i : Key = a.change.key in
    fewer-pass (λ w. is_registered i w h) (λ w. is_registered i w (Came a ∷ h)) (publication_handles q h)
    (λ w after. registered-before (same_key i i) (a.writer == w) (is_write_or_dispose a.change.kind)
    (is_unregister a.change.kind) (is_registered i w h)
    (λ there. ap (λ (b : Bool). b && is_unregister a.change.kind) (same_key-refl i) ∙ kind) after) none

-- whether nobody is registered for an unknown instance after a change of it
pub left-first : (q : ReaderQos) (h : List Happening) (a : Arrival) → AreOfMatched q h
    → last_accepted q a.change.key h ≡ None
    → is_left_at_first (length (writers_of q h)) a.writer a.change.kind ≡ is_nobody (registered_writers q a.change.key (Came a ∷ h))
left-first q h a of_matched last =
    let none : registered_writers q a.change.key h ≡ [] = (unknown q a.change.key h of_matched last).registered in
    let matched : Bool = not (nat_lt 0 a.writer && nat_le a.writer (length (writers_of q h))) in
    ⊎_elim
    (λ ends. ap (λ (b : Bool). b || matched) ends
    ∙ sym (ap (λ (ws : List ℕ). is_nobody ws) (nobody-unregistered q h a none ends)))
    (λ stays. ap (λ (b : Bool). b || matched) stays ∙ sym (nobody-written q h a none stays))
    (cases_Bool (is_unregister a.change.kind))

-- after a change of a matched writer that does not unregister, somebody is registered: its writer
pub somebody-registered : (q : ReaderQos) (h : List Happening) (a : Arrival)
    → is_left_at_first (length (writers_of q h)) a.writer a.change.kind ≡ false
    → is_nobody (registered_writers q a.change.key (Came a ∷ h)) ≡ false
somebody-registered q h a first =
    let w : ℕ = a.writer in
    let parts = both (is_unregister a.change.kind) (nat_lt 0 w) (nat_le w (length (writers_of q h))) first in
    somebody-by (λ v. is_registered a.change.key v (Came a ∷ h)) w 1 (writers_of q h)
    (registered-too (same_key a.change.key a.change.key) (w == w) (is_unregister a.change.kind)
    (is_write_or_dispose a.change.kind) (is_registered a.change.key w h) (same_key-refl a.change.key)
    parts.0 (writes-or-ends a.change.kind parts.0)
    ∙ ap (λ (b : Bool). b || is_registered a.change.key w h) (itself w))
    (positive w parts.1.0) (bounded w (length (writers_of q h)) parts.1.1)
  where
    both : (u low high : Bool) → (u || not (low && high)) ≡ false → (u ≡ false) × ((low ≡ true) × (high ≡ true))
    both true low high e = absurd cc
    both false true true e = (refl, (refl, refl))
    both false true false e = absurd cc
    both false false high e = absurd cc

    itself : (w : ℕ) → (w == w) ≡ true
    itself w = grind (arith, nat_tests)

    positive : (w : ℕ) → nat_lt 0 w ≡ true → 1 ≤ w
    positive w low = grind (arith, nat_tests, low)

    bounded : (w n : ℕ) → nat_le w n ≡ true → w < 1 + n
    bounded w n high = grind (arith, nat_tests, high)

ends : (n : Bool) → n ≡ becomes_not_alive None (Some (if n then NotAliveNoWriters else Alive))
ends true = refl
ends false = refl

first-table : (kind : ChangeKind) (writers w : ℕ) (n : Bool) → (kind ≡ Write → n ≡ not (nat_lt 0 w && nat_le w writers))
    → is_born_dead writers w kind ≡ becomes_not_alive None
    (state_after (or_else (if is_write_or_dispose kind then Some kind else None) None) n)
first-table Write writers w n is = sym (is refl) ∙ ends n
first-table Dispose writers w n is = refl
first-table Unregister writers w n is = refl
first-table DisposeUnregister writers w n is = refl

pub marks-first : (q : ReaderQos) (h : List Happening) (a : Arrival) → AreOfMatched q h
    → last_accepted q a.change.key h ≡ None
    → is_born_dead (length (writers_of q h)) a.writer a.change.kind ≡ marks q a.change.key h (Came a)
marks-first q h a of_matched last =
    let i : Key = a.change.key in
    let n : Bool = is_nobody (registered_writers q i (Came a ∷ h)) in
    first-table a.change.kind (length (writers_of q h)) a.writer n
    (λ kind. nobody-written q h a (unknown q i h of_matched last).registered (ap is_unregister kind))
    ∙ (ap (λ (k : Option ChangeKind). becomes_not_alive None (state_after (or_else k None) n))
    (sym (first-accepted q h a of_matched last))
    ∙ ap (λ (l : Option ChangeKind). becomes_not_alive (state_after l (is_nobody (registered_writers q i h)))
    (state_after (or_else (accepted_kind q i h (Came a)) l) n)) (sym last))
