-- Where each change that came is of a matched writer, no marker is a write: so a write that is present is one that the
-- history keeps.
use Rattle.std.proofs.Common.{◌≡◌, ℕ, ◌+◌, ◌≤◌, ◌<◌, List, [], ◌∷◌, length, Bool, true, false, not, ◌&&◌, ◌||◌, sym, ap, ◌∙◌, refl, subst, Option, Some, None, arith, ⊎_elim}
use Rattle.std.specs.Prelude.{if◌then◌else◌, nat_le, IfSome}
use Rattle.std.proofs.lemmas.Bool.{and_parts, cases_Bool, eqb-true, le-leb, lt-ltb}
use Rattle.dds_base.specs.declared.key.Key.{Key}
use Rattle.dds_base.specs.declared.change.ChangeKind.{ChangeKind}
use Rattle.dds_base.specs.declared.change.ChangeKind.TheVariants.{Write, Dispose, Unregister, DisposeUnregister}
use Rattle.dds_base.specs.declared.happening.Happening.{Happening}
use Rattle.dds_base.specs.declared.happening.Happening.TheVariants.{Came, Passed, Heard, Died, Left, Joined, Read, Took, Looked}
use Rattle.dds_base.specs.declared.sample.InstanceState.{InstanceState}
use Rattle.dds_base.specs.declared.sample.InstanceState.TheVariants.{Alive, NotAliveDisposed, NotAliveNoWriters}
use Rattle.dds_base.specs.declared.qos.ReaderQos.{ReaderQos}
use Rattle.dds_base.specs.Happening.{as_of, is_taken, is_write_or_dispose, same_key}
use Rattle.dds_base.specs.Life.{becomes_not_alive, ends_life, ends_with_write, is_at, is_kept_write, is_nobody, is_write, last_accepted, last_marker, or_else, state_after}
use Rattle.dds_base.specs.Ownership.{AreOfMatched, IsMatched, accepted_kind, admits, named_by, outranks_all, registered_writers, writers_of}
use Rattle.dds_base.specs.Presence.{is_present, marks}
use Rattle.dds_base.proofs.KeyLaws.{key-same}
use Rattle.dds_base.proofs.LifeLaws.{as_of-newest, as_of-older, marker-below}
use Rattle.dds_instances.specs.Track.{is_left_at_first}
use Rattle.dds_instances.proofs.ForesightLaws.{somebody-registered}
use Rattle.dds_cache.specs.Kept.{sample_at}
use Rattle.dds_cache.proofs.PresenceLaws.{reached}

accepted-write : (b : Bool) (kind : ChangeKind) → is_write (if b then Some kind else None) ≡ true
    → (b ≡ true) × (kind ≡ Write)
accepted-write true Write e = (refl, refl)
accepted-write true Dispose e = absurd (let clash : false ≡ true = e in cc)
accepted-write true Unregister e = absurd (let clash : false ≡ true = e in cc)
accepted-write true DisposeUnregister e = absurd (let clash : false ≡ true = e in cc)
accepted-write false kind e = absurd (let clash : false ≡ true = e in cc)

written-kind : (k : Option ChangeKind) → is_write k ≡ true → k ≡ Some Write
written-kind (Some Write) e = refl
written-kind (Some Dispose) e = absurd (let clash : false ≡ true = e in cc)
written-kind (Some Unregister) e = absurd (let clash : false ≡ true = e in cc)
written-kind (Some DisposeUnregister) e = absurd (let clash : false ≡ true = e in cc)
written-kind None e = absurd (let clash : false ≡ true = e in cc)

-- a write of a matched writer leaves it registered
left-matched : (n w : ℕ) (kind : ChangeKind) → 0 < w → w ≤ n → kind ≡ Write → is_left_at_first n w kind ≡ false
left-matched n w kind above below write =
    ap (λ (k : ChangeKind). is_left_at_first n w k) write
    ∙ (ap (λ (b : Bool). not (b && nat_le w n)) (lt-ltb 0 w above)
    ∙ ap (λ (b : Bool). not (true && b)) (le-leb w n below))

stays-alive : (s : Option InstanceState) → becomes_not_alive s (Some Alive) ≡ false
stays-alive None = refl
stays-alive (Some Alive) = refl
stays-alive (Some NotAliveDisposed) = refl
stays-alive (Some NotAliveNoWriters) = refl

-- an accepted write of a matched writer leaves no marker
unmarked-write : (q : ReaderQos) (i : Key) (h : List Happening) (e : Happening) → IfSome (named_by e) (IsMatched q h)
    → is_write (accepted_kind q i h e) ≡ true → marks q i h e ≡ false
unmarked-write q i h (Came a) matched write =
    let parts = accepted-write (same_key a.change.key i && (is_write_or_dispose a.change.kind
    && admits q.ownership (outranks_all q (Came a ∷ h) (registered_writers q i h) a.writer))) a.change.kind write in
    let same : a.change.key ≡ i = key-same a.change.key i (and_parts (same_key a.change.key i) _ parts.0).0 in
    let somebody : is_nobody (registered_writers q i (Came a ∷ h)) ≡ false =
    subst (λ (x : Key). is_nobody (registered_writers q x (Came a ∷ h)) ≡ false) same
    (somebody-registered q h a
    (left-matched (length (writers_of q h)) a.writer a.change.kind matched.0 matched.1 parts.1)) in
    let before : Option InstanceState = state_after (last_accepted q i h) (is_nobody (registered_writers q i h)) in
    ap (λ (k : Option ChangeKind). becomes_not_alive before
    (state_after (or_else k (last_accepted q i h)) (is_nobody (registered_writers q i (Came a ∷ h)))))
    (written-kind (accepted_kind q i h (Came a)) write)
    ∙ (ap (λ (b : Bool). becomes_not_alive before (state_after (Some Write) b)) somebody ∙ stays-alive before)
unmarked-write q i h (Passed w first last) matched write = absurd (let clash : false ≡ true = write in cc)
unmarked-write q i h (Heard w m) matched write = absurd (let clash : false ≡ true = write in cc)
unmarked-write q i h (Died w m) matched write = absurd (let clash : false ≡ true = write in cc)
unmarked-write q i h (Left w m) matched write = absurd (let clash : false ≡ true = write in cc)
unmarked-write q i h (Joined m) matched write = absurd (let clash : false ≡ true = write in cc)
unmarked-write q i h (Read s) matched write = absurd (let clash : false ≡ true = write in cc)
unmarked-write q i h (Took s) matched write = absurd (let clash : false ≡ true = write in cc)
unmarked-write q i h (Looked k) matched write = absurd (let clash : false ≡ true = write in cc)

at-below : (m : Option ℕ) (n j : ℕ) → IfSome m (λ k. k ≤ n) → is_at m j ≡ true → j ≤ n
at-below None n j below at = absurd (let clash : false ≡ true = at in cc)
at-below (Some k) n j below at = let is : k ≡ j = eqb-true k j at in omega (arith, is, below)

-- the last marker of an instance is no accepted write
pub marker-unwritten : (q : ReaderQos) (i : Key) (h : List Happening) → AreOfMatched q h → (j : ℕ)
    → is_at (last_marker q i h) j ≡ true → ends_with_write q i (as_of j h) ≡ false
marker-unwritten q i [] matched j at = absurd (let clash : false ≡ true = at in cc)
marker-unwritten q i (e ∷ h) matched j at =
    ⊎_elim
    (λ over. absurd (let clash : false ≡ true =
    sym (ap (λ (b : Bool). is_at (if b then None else reached q i h e) j) over) ∙ at in cc))
    (λ on. let left : is_at (reached q i h e) j ≡ true =
    sym (ap (λ (b : Bool). is_at (if b then None else reached q i h e) j) on) ∙ at in
    ⊎_elim
    (λ marked. let newest : length h + 1 ≡ j =
    eqb-true (length h + 1) j
    (sym (ap (λ (b : Bool). is_at (if b then Some (length h + 1) else last_marker q i h) j) marked) ∙ left) in
    ap (λ (n : ℕ). ends_with_write q i (as_of n (e ∷ h))) (sym newest)
    ∙ (ap (λ (g : List Happening). ends_with_write q i g) (as_of-newest e h)
    ∙ unwritten marked))
    (λ unmarked. let old : is_at (last_marker q i h) j ≡ true =
    sym (ap (λ (b : Bool). is_at (if b then Some (length h + 1) else last_marker q i h) j) unmarked) ∙ left in
    ap (λ (g : List Happening). ends_with_write q i g)
    (as_of-older e h j (at-below (last_marker q i h) (length h) j (marker-below q i h) old))
    ∙ marker-unwritten q i h matched.1 j old)
    (cases_Bool (marks q i h e)))
    (cases_Bool (ends_life q i h e))
  where
    unwritten : marks q i h e ≡ true → is_write (accepted_kind q i h e) ≡ false
    unwritten marked =
        ⊎_elim
        (λ write. absurd (let clash : true ≡ false =
        sym marked ∙ unmarked-write q i h e matched.0 write in cc))
        (λ none. none)
        (cases_Bool (is_write (accepted_kind q i h e)))

-- so a write that is present is one that the history keeps
pub present-kept : (q : ReaderQos) (i : Key) (h : List Happening) → AreOfMatched q h → (j : ℕ)
    → (is_present q h i j && ends_with_write q i (as_of j h)) ≡ true → is_kept_write q h i j ≡ true
present-kept q i h matched j there =
    table (is_taken (sample_at i j) h) (is_kept_write q h i j) (is_at (last_marker q i h) j)
    (ends_with_write q i (as_of j h)) (marker-unwritten q i h matched j) there
  where
    table : (t k m w : Bool) → (m ≡ true → w ≡ false) → ((not t && (k || m)) && w) ≡ true → k ≡ true
    table t true m w off e = refl
    table true false m w off e = absurd (let clash : false ≡ true = e in cc)
    table false false true w off e = absurd (let clash : false ≡ true = sym (off refl) ∙ e in cc)
    table false false false w off e = absurd (let clash : false ≡ true = e in cc)
