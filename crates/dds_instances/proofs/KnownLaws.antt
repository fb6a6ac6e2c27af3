-- An instance is among the known ones exactly where a change of it was accepted in its life, and of an unknown one
-- nothing counts.
use Rattle.std.proofs.Common.{◌≡◌, ℕ, ◌+◌, ◌<◌, ◌≤◌, List, [], ◌∷◌, ◌++◌, length, Bool, true, false, not, ◌&&◌, ◌||◌, ◌==◌, sym, ap, ◌∙◌, refl, Option, Some, None, subst, ⊎_elim, cond, arith, zero, suc}
use Rattle.std.specs.Prelude.{is_some, if◌then◌else◌}
use Rattle.std.specs.List.{filter, list_any, All}
use Rattle.std.proofs.lemmas.Bool.{cases_Bool, cases_eq, cases_lt}
use Rattle.std.proofs.lemmas.List.Elements.{All-nil, filter_passes}
use Rattle.std.proofs.lemmas.List.Folds.{list_any-append}
use Rattle.dds_base.proofs.LifeLaws.{accepted-other}
use Rattle.dds_base.specs.declared.key.Key.{Key}
use Rattle.dds_base.specs.declared.change.ChangeKind.{ChangeKind}
use Rattle.dds_base.specs.declared.happening.Arrival.{Arrival}
use Rattle.dds_base.specs.declared.happening.Happening.{Happening}
use Rattle.dds_base.specs.declared.happening.Happening.TheVariants.{Came, Passed, Heard, Died, Left, Joined, Read, Took, Looked}
use Rattle.dds_base.specs.declared.qos.ReaderQos.{ReaderQos}
use Rattle.dds_base.specs.declared.qos.MatchedWriter.{MatchedWriter}
use Rattle.dds_base.specs.declared.qos.OwnershipQos.{OwnershipQos}
use Rattle.dds_base.specs.declared.qos.OwnershipQos.TheVariants.{Shared, Exclusive}
use Rattle.dds_base.specs.Happening.{same_key, is_write_or_dispose, is_unregister}
use Rattle.dds_base.specs.Ownership.{AreOfMatched, IsMatched, accepted_kind, numbered_from, publication_handles, is_registered, registered_writers, admits, outranks_all, writers_of}
use Rattle.dds_base.proofs.JoinLaws.{registered-joined, unregistered-beyond, unregistered-nil}
use Rattle.dds_base.specs.Instance.{is_disposed, is_without_writers, instance_state_of, is_known, disposed_generations, no_writers_generations, latest_rebirth, known_instances, introduces, introduced_by, accesses}
use Rattle.dds_base.specs.Life.{becomes_not_alive, state_after, or_else, is_write, is_nobody, last_accepted, last_marker, marker_reached, ends_life, has_there}
use Rattle.dds_base.proofs.KeyLaws.{key-same}
use Rattle.dds_owner.specs.Standing.{IsBlank, Kept}
use Rattle.dds_instances.specs.Known.{writes_in_life}
use Rattle.dds_instances.specs.Track.{Tracks, fresh, one_if}
use Rattle.dds_instances.proofs.LivesLaws.{begins, disposed-on, disposed-over, last-on, marker-on, marker-over, no_writers-on, no_writers-over, writes-on, writes-over}

or-none : (b : Bool) → (b || false) ≡ b
or-none true = refl
or-none false = refl

or-true : (b : Bool) → (b || true) ≡ true
or-true true = refl
or-true false = refl

-- a list that is filtered by a test has a key where the list has it and it passes
any-filtered : (p : Key → Bool) (i : Key) (ks : List Key)
    → list_any (λ k. same_key k i) (filter p ks) ≡ (list_any (λ k. same_key k i) ks && p i)
any-filtered p i [] = refl
any-filtered p i (k ∷ ks) =
    let rest = list_any (λ x. same_key x i) ks in
    one (p k) (same_key k i) (p i) rest k (filter p ks) refl (any-filtered p i ks)
    (λ same. ap p (key-same k i same))
  where
    one : (b s r a : Bool) (k : Key) (xs : List Key) → same_key k i ≡ s → list_any (λ x. same_key x i) xs ≡ (a && r)
        → (s ≡ true → b ≡ r) → list_any (λ x. same_key x i) (cond b (k ∷ xs) xs) ≡ ((s || a) && r)
    one true true r a k xs s_is any same =
        ap (λ (x : Bool). x || list_any (λ y. same_key y i) xs) s_is ∙ same refl
    one true false r a k xs s_is any same = ap (λ (x : Bool). x || list_any (λ y. same_key y i) xs) s_is ∙ any
    one false true r a k xs s_is any same = any ∙ (ap (λ (x : Bool). a && x) (sym (same refl)) ∙ (no-and a ∙ same refl))
      where
        no-and : (x : Bool) → (x && false) ≡ false
        no-and true = refl
        no-and false = refl
    one false false r a k xs s_is any same = any

nothing : (known : Bool) → (not known && false) ≡ true → ⊥
nothing true e = cc
nothing false e = cc

-- what an entry makes known is the instance that it introduces
introduced-any : (q : ReaderQos) (h : List Happening) (i : Key) (e : Happening) → introduces q i h e ≡ true
    → list_any (λ k. same_key k i) (introduced_by q h e) ≡ true
introduced-any q h i (Came a) new =
    ⊎_elim
    (λ same. let is : a.change.key ≡ i = key-same a.change.key i same in
    ap (λ (b : Bool). list_any (λ k. same_key k i) (cond b (a.change.key ∷ []) []))
    (subst (λ (k : Key). introduces q k h (Came a) ≡ true) (sym is) new)
    ∙ ap (λ (b : Bool). b || false) same)
    (λ other. absurd (none (is_known q h i) (accepted_kind q i h (Came a)) (accepted-other q i h a other) new))
    (cases_Bool (same_key a.change.key i))
  where
    none : (known : Bool) (kind : Option ChangeKind) → kind ≡ None → (not known && is_some kind) ≡ true → ⊥
    none true kind is some = cc
    none false kind is some = let clash : false ≡ true = sym (ap (λ (k : Option ChangeKind). is_some k) is) ∙ some in cc
introduced-any q h i (Passed w first last) new = absurd (nothing (is_known q h i) new)
introduced-any q h i (Heard w m) new = absurd (nothing (is_known q h i) new)
introduced-any q h i (Died w m) new = absurd (nothing (is_known q h i) new)
introduced-any q h i (Left w m) new = absurd (nothing (is_known q h i) new)
introduced-any q h i (Joined m) new = absurd (nothing (is_known q h i) new)
introduced-any q h i (Read s) new = absurd (nothing (is_known q h i) new)
introduced-any q h i (Took s) new = absurd (nothing (is_known q h i) new)
introduced-any q h i (Looked s) new = absurd (nothing (is_known q h i) new)

pub known : (q : ReaderQos) (h : List Happening) (i : Key)
    → list_any (λ k. same_key k i) (known_instances q h) ≡ is_some (last_accepted q i h)
known q [] i = refl
known q (e ∷ h) i =
    any-filtered (is_known q (e ∷ h)) i (known_instances q h ++ introduced_by q h e)
    ∙ both (list_any (λ k. same_key k i) (known_instances q h ++ introduced_by q h e)) (is_known q (e ∷ h) i)
    (λ after. list_any-append (λ k. same_key k i) (known_instances q h) (introduced_by q h e)
    ∙ ⊎_elim
    (λ was. ap (λ (b : Bool). b || list_any (λ k. same_key k i) (introduced_by q h e)) (known q h i ∙ was))
    (λ new. ap (λ (b : Bool). list_any (λ k. same_key k i) (known_instances q h) || b)
    (introduced-any q h i e (begins q i h e after new)) ∙ or-true (list_any (λ k. same_key k i) (known_instances q h)))
    (cases_Bool (is_known q h i)))
  where
    both : (a b : Bool) → (b ≡ true → a ≡ true) → (a && b) ≡ b
    both true b there = refl
    both false true there = there refl
    both false false there = refl

-- each of the known instances is known
pub known-all : (q : ReaderQos) (h : List Happening) → All (λ (k : Key). is_known q h k ≡ true) (known_instances q h)
known-all q [] = All-nil (λ (k : Key). is_known q [] k ≡ true)
known-all q (e ∷ h) = filter_passes (is_known q (e ∷ h)) (known_instances q h ++ introduced_by q h e)

-- ---- of an unknown instance nothing counts

pub record IsUnknown (q : ReaderQos) (i : Key) (h : List Happening) : Type 0 where
  pub registered : registered_writers q i h ≡ []
  pub disposed : disposed_generations q i h ≡ 0
  pub no_writers : no_writers_generations q i h ≡ 0
  pub marker : last_marker q i h ≡ None
  pub writes : writes_in_life q i h ≡ 0

pub or_else-none : (a b : Option ChangeKind) → or_else a b ≡ None → (a ≡ None) × (b ≡ None)
or_else-none None b e = (refl, e)
or_else-none (Some x) b e = absurd cc

-- the test of a change of an unknown instance: whoever it is by, it is accepted
some-if : (b : Bool) (k : ChangeKind) → cond b (Some k) None ≡ None → b ≡ false
some-if true k e = absurd cc
some-if false k e = refl

admits-all : (o : OwnershipQos) → admits o true ≡ true
admits-all Shared = refl
admits-all Exclusive = refl

and-true : (a b : Bool) → (a && (b && true)) ≡ (a && b)
and-true true true = refl
and-true true false = refl
and-true false b = refl

-- a change that is not accepted where nobody is registered is no write or dispose of the instance
pub rejected : (q : ReaderQos) (i : Key) (h : List Happening) (a : Arrival) → registered_writers q i h ≡ []
    → accepted_kind q i h (Came a)
    ≡ (if same_key a.change.key i && is_write_or_dispose a.change.kind then Some a.change.kind else None)
rejected q i h a none =
    ap (λ (ws : List ℕ). if same_key a.change.key i && (is_write_or_dispose a.change.kind && admits q.ownership
    (outranks_all q (Came a ∷ h) ws a.writer)) then Some a.change.kind else None) none
    ∙ (ap (λ (b : Bool). if same_key a.change.key i && (is_write_or_dispose a.change.kind && b) then Some a.change.kind
    else None) (admits-all q.ownership)
    ∙ ap (λ (b : Bool). if b then Some a.change.kind else None)
    (and-true (same_key a.change.key i) (is_write_or_dispose a.change.kind)))

-- a stricter test lets nobody through either
pub fewer-pass : (p r : ℕ → Bool) (ws : List ℕ) → ((w : ℕ) → r w ≡ true → p w ≡ true) → filter p ws ≡ []
    → filter r ws ≡ []
fewer-pass p r [] stricter none = refl
fewer-pass p r (w ∷ ws) stricter none =
    one (p w) (r w) (filter p ws) (filter r ws) (stricter w) (fewer-pass p r ws stricter) none
  where
    one : (a b : Bool) (xs ys : List ℕ) → (b ≡ true → a ≡ true) → (xs ≡ [] → ys ≡ []) → cond a (w ∷ xs) xs ≡ []
        → cond b (w ∷ ys) ys ≡ []
    one true b xs ys more rest none = absurd cc
    one false true xs ys more rest none = absurd (let clash : false ≡ true = more refl in cc)
    one false false xs ys more rest none = rest none

and-right : (a b : Bool) → (a && b) ≡ true → b ≡ true
and-right true b e = e
and-right false b e = absurd cc

-- who is registered after a change that registers nobody, or unregisters, was so before
pub registered-before : (s w d u r : Bool) → ((s && d) ≡ true → (s && u) ≡ true)
    → (not ((s && w) && u) && (((s && w) && d) || r)) ≡ true → r ≡ true
registered-before s w d u true ends after = refl
registered-before true true true true false ends after = absurd cc
registered-before true true true false false ends after = absurd (let clash : false ≡ true = ends refl in cc)
registered-before true true false true false ends after = absurd cc
registered-before true true false false false ends after = absurd cc
registered-before true false d u false ends after = absurd cc
registered-before false w d u false ends after = absurd cc

nobody-still : (q : ReaderQos) (i : Key) (h : List Happening) (e : Happening) → AreOfMatched q h
    → registered_writers q i h ≡ [] → accepted_kind q i h e ≡ None → registered_writers q i (e ∷ h) ≡ []
nobody-still q i h (Came a) of_matched none refused =
    let no_data : (same_key a.change.key i && is_write_or_dispose a.change.kind) ≡ false =
    some-if (same_key a.change.key i && is_write_or_dispose a.change.kind) a.change.kind
    (sym (rejected q i h a none) ∙ refused) in
    fewer-pass (λ w. is_registered i w h) (λ w. is_registered i w (Came a ∷ h)) (publication_handles q h)
    (λ w after. registered-before (same_key a.change.key i) (a.writer == w) (is_write_or_dispose a.change.kind)
    (is_unregister a.change.kind) (is_registered i w h)
    (λ writes. absurd (let clash : false ≡ true = sym no_data ∙ writes in cc)) after) none
nobody-still q i h (Passed v first last) of_matched none refused = none
nobody-still q i h (Heard v m) of_matched none refused = none
nobody-still q i h (Died v m) of_matched none refused =
    fewer-pass (λ w. is_registered i w h) (λ w. is_registered i w (Died v m ∷ h)) (publication_handles q h)
    (λ w after. and-right (not (v == w)) (is_registered i w h) after) none
nobody-still q i h (Left v m) of_matched none refused = none
nobody-still q i h (Joined m) of_matched none refused = registered-joined q i h m of_matched ∙ none
nobody-still q i h (Read s) of_matched none refused = none
nobody-still q i h (Took s) of_matched none refused = none
nobody-still q i h (Looked k) of_matched none refused = none

pub nobody-there : (ws : List ℕ) → is_nobody ws ≡ true → ws ≡ []
nobody-there [] e = refl
nobody-there (w ∷ ws) e = absurd cc

and-left : (a b : Bool) → (a && b) ≡ true → a ≡ true
and-left true b e = refl
and-left false b e = absurd cc

-- whose life an entry ends has nobody registered then
pub nobody-over : (q : ReaderQos) (i : Key) (h : List Happening) (e : Happening) → ends_life q i h e ≡ true
    → registered_writers q i (e ∷ h) ≡ []
nobody-over q i h e over =
    nobody-there (registered_writers q i (e ∷ h))
    (and-left (is_nobody (registered_writers q i (e ∷ h)))
    (not (has_there q (e ∷ h) i (marker_reached q i h e (last_accepted q i h) (last_marker q i h)))) over)

unknown-on : (q : ReaderQos) (i : Key) (h : List Happening) (e : Happening) → AreOfMatched q h
    → ends_life q i h e ≡ false → accepted_kind q i h e ≡ None → last_accepted q i h ≡ None → IsUnknown q i h
    → IsUnknown q i (e ∷ h)
unknown-on q i h e of_matched on refused last before = record {
  registered = nobody-still q i h e of_matched before.registered refused;
  disposed =
      disposed-on q i h e on
      ∙ (ap (λ (k : Option ChangeKind). disposed_generations q i h
      + one_if (is_write k && is_disposed (instance_state_of q i h))) refused
      ∙ (let more : disposed_generations q i h + 0 ≡ 0 = omega (arith, before.disposed) in more));
  no_writers =
      no_writers-on q i h e on
      ∙ (ap (λ (k : Option ChangeKind). no_writers_generations q i h
      + one_if (is_write k && is_without_writers (instance_state_of q i h))) refused
      ∙ (let more : no_writers_generations q i h + 0 ≡ 0 = omega (arith, before.no_writers) in more));
  marker =
      marker-on q i h e on
      ∙ (ap (λ (l : Option ChangeKind). marker_reached q i h e l (last_marker q i h)) last
      ∙ (still (accepted_kind q i h e) (is_nobody (registered_writers q i (e ∷ h))) refused ∙ before.marker));
  writes =
      writes-on q i h e on
      ∙ (ap (λ (k : Option ChangeKind). writes_in_life q i h + one_if (is_write k)) refused
      ∙ (let more : writes_in_life q i h + 0 ≡ 0 = omega (arith, before.writes) in more));
}
  where
    still : (kind : Option ChangeKind) (nobody : Bool) → kind ≡ None
        → (if becomes_not_alive None (state_after (or_else kind None) nobody) then Some (length h + 1) else last_marker q i h)
        ≡ last_marker q i h
    still None nobody none = refl
    still (Some k) nobody none = absurd cc

pub unknown : (q : ReaderQos) (i : Key) (h : List Happening) → AreOfMatched q h → last_accepted q i h ≡ None
    → IsUnknown q i h
unknown q i [] of_matched e =
    record { registered = nobody-yet (publication_handles q []); disposed = refl; no_writers = refl; marker = refl; writes = refl }
  where
    nobody-yet : (ws : List ℕ) → filter (λ w. is_registered i w []) ws ≡ []
    nobody-yet [] = refl
    nobody-yet (w ∷ ws) = nobody-yet ws
unknown q i (e ∷ h) of_matched last =
    ⊎_elim
    (λ over. record {
      registered = nobody-over q i h e over;
      disposed = disposed-over q i h e over;
      no_writers = no_writers-over q i h e over;
      marker = marker-over q i h e over;
      writes = writes-over q i h e over;
    })
    (λ on. let parts = or_else-none (accepted_kind q i h e) (last_accepted q i h) (sym (last-on q i h e on) ∙ last) in
    unknown-on q i h e of_matched.1 on parts.0 parts.1 (unknown q i h of_matched.1 parts.1))
    (cases_Bool (ends_life q i h e))

-- where nobody is registered, no matched writer is
pub unregistered : (q : ReaderQos) (i : Key) (h : List Happening) (w : ℕ) → registered_writers q i h ≡ [] → IsMatched q h w
    → is_registered i w h ≡ false
unregistered q i h w none matched = within 1 (writers_of q h) none matched.0 (omega (arith, matched.1))
  where
    within : (k : ℕ) (xs : List MatchedWriter) → filter (λ v. is_registered i v h) (numbered_from k xs) ≡ [] → k ≤ w
        → w < k + length xs → is_registered i w h ≡ false
    within k [] none above below = absurd (omega (arith, above, below))
    within k (x ∷ xs) none above below =
        let parts = head-gone k (is_registered i k h) (filter (λ v. is_registered i v h) (numbered_from (k + 1) xs)) none in
        ⊎_elim
        (λ same. ap (λ (v : ℕ). is_registered i v h) same ∙ parts.0)
        (λ differ. within (k + 1) xs parts.1 (omega (arith, above, differ)) (omega (arith, below)))
        (cases_eq w k)
      where
        head-gone : (v : ℕ) (b : Bool) (ys : List ℕ) → cond b (v ∷ ys) ys ≡ [] → (b ≡ false) × (ys ≡ [])
        head-gone v true ys e = absurd cc
        head-gone v false ys e = (refl, e)

pub unknown-last : (q : ReaderQos) (i : Key) (h : List Happening) → is_known q h i ≡ false → last_accepted q i h ≡ None
unknown-last q i h unknown = none (last_accepted q i h) unknown
  where
    none : (o : Option ChangeKind) → is_some o ≡ false → o ≡ None
    none None e = refl
    none (Some k) e = absurd cc

-- and nobody else is either
pub nobody-at-all : (q : ReaderQos) (i : Key) (h : List Happening) → AreOfMatched q h → registered_writers q i h ≡ []
    → (w : ℕ) → is_registered i w h ≡ false
nobody-at-all q i h of_matched none zero = unregistered-nil q i h of_matched
nobody-at-all q i h of_matched none (suc at) =
    ⊎_elim
    (λ beyond. unregistered-beyond q i h (suc at) of_matched beyond)
    (λ within. unregistered q i h (suc at) none (omega arith, within))
    (cases_lt (length (writers_of q h)) (suc at))

-- a fresh track has followed an unknown instance
pub tracks-fresh : (q : ReaderQos) (i : Key) (h : List Happening) (handle : ℕ) (kept : Kept) → AreOfMatched q h
    → IsBlank (length (writers_of q h)) kept → last_accepted q i h ≡ None → list_any (accesses i (latest_rebirth q i h)) h ≡ false
    → Tracks q i h (fresh i handle kept)
tracks-fresh q i h handle kept of_matched blank last unseen =
    let none : IsUnknown q i h = unknown q i h of_matched last in
    let unknown_is : is_known q h i ≡ false = ap (λ (k : Option ChangeKind). is_some k) last in
    record {
      key_is = refl;
      handle_is = λ known. absurd (let clash : false ≡ true = sym unknown_is ∙ known in cc);
      owners_are = blank.stands q i h (omega arith) (nobody-at-all q i h of_matched none.registered);
      last_is = sym last;
      disposed_is = sym none.disposed;
      no_writers_is = sym none.no_writers;
      rebirth_is = λ known. absurd (let clash : false ≡ true = sym unknown_is ∙ known in cc);
      marker_is = sym none.marker;
      writes_are = sym none.writes;
      seen_is = sym unseen;
    }
