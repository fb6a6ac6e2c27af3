-- What is kept of the instances follows one more change.
use Rattle.std.proofs.Common.{◌≡◌, ◌≢◌, ℕ, ◌+◌, ◌<◌, ◌≤◌, List, [], ◌∷◌, ◌++◌, length, get_or, set, map, Bool, true, false, not, ◌&&◌, ◌||◌, sym, ap, ◌∙◌, refl, subst, Option, Some, None, cond, arith, ⊎_elim, zero, suc}
use Rattle.std.specs.Prelude.{is_some, if◌then◌else◌, nat_lt, slice_get, IfSome}
use Rattle.std.specs.Option.{option_map}
use Rattle.std.specs.List.{All, filter, list_any}
use Rattle.std.proofs.lemmas.Bool.{cases_eq, cases_Bool}
use Rattle.std.proofs.lemmas.Bool.Decides.{nat_tests}
use Rattle.std.proofs.lemmas.List.{append-nil, map-append, map-set, set-get_or, length-set, length-map, get_or-set_same, get_or-set_other, get_or-map, get_or_default}
use Rattle.std.proofs.lemmas.Option.{slice_get-map, slice_get_read}
use Rattle.std.proofs.lemmas.List.Elements.{All-append, All-cons, All-filter, All-nil, All-weaker, All-set, All-head, All-tail, filter_agree, filter_passes}
use Rattle.dds_base.specs.declared.key.Key.{Key}
use Rattle.dds_base.specs.declared.change.ChangeKind.{ChangeKind}
use Rattle.dds_base.specs.declared.change.ChangeKind.TheVariants.{Write, Dispose, Unregister, DisposeUnregister}
use Rattle.dds_base.specs.declared.happening.Arrival.{Arrival}
use Rattle.dds_base.specs.declared.happening.Happening.{Happening}
use Rattle.dds_base.specs.declared.happening.Happening.TheVariants.{Came}
use Rattle.dds_base.specs.declared.sample.InstanceState.{InstanceState}
use Rattle.dds_base.specs.declared.sample.ViewState.TheVariants.{New, NotNew}
use Rattle.dds_base.specs.declared.qos.ReaderQos.{ReaderQos}
use Rattle.dds_base.specs.Happening.{same_key, is_write_or_dispose}
use Rattle.dds_base.specs.declared.qos.OwnershipQos.{OwnershipQos}
use Rattle.dds_base.specs.declared.qos.OwnershipQos.TheVariants.{Shared}
use Rattle.dds_base.specs.Ownership.{AreOfMatched, IsMatched, accepted_kind, admits, is_registered, outranks_all, publication_handles, registered_writers}
use Rattle.dds_base.specs.Presence.{is_accepted}
use Rattle.dds_base.specs.Life.{becomes_not_alive, last_accepted, or_else, is_write, state_after, is_nobody, ends_life}
use Rattle.dds_base.specs.Access.{handle_of, lives_begun, state_of_known}
use Rattle.dds_base.specs.Instance.{known_instances, introduced_by, introduces, is_known, is_disposed, is_without_writers}
use Rattle.dds_base.proofs.KeyLaws.{key-same, same_key-refl, same_key-comm}
use Rattle.dds_base.proofs.LifeLaws.{accepted-other, quiet-goes-on, registered-other}
use Rattle.dds_instances.specs.declared.track.InstanceTrack.{InstanceTrack}
use Rattle.dds_instances.specs.declared.known.KnownInstance.{KnownInstance}
use Rattle.dds_owner.specs.Standing.{Kept, KeptStrengths, StandsFor, TellsStrengths}
use Rattle.dds_instances.specs.Track.{Tracks, TracksEntry, Fits, fresh, is_other, one_if, state_of_track}
use Rattle.dds_instances.specs.Table.{Table, Stands}
use Rattle.dds_instances.specs.Following.{key_of, Follows, IsForNextLife, IsLawful, IsPlaceOf, MayTakeUp, Reaches, TakeUp}
use Rattle.dds_instances.specs.Known.{IsKnown}
use Rattle.dds_instances.proofs.LivesLaws.{known-on, or-some}
use Rattle.dds_instances.proofs.TrackLaws.{HandsOut, state-tracked, tracks-next, tracks-stranger, tracks-widened, one-rebirth, one_if-bound}
use Rattle.dds_instances.proofs.KnownLaws.{known, known-all, unknown, rejected, tracks-fresh}

-- ---- the counts fit

earlier-more : (n : ℕ) (m : Option ℕ) → IfSome m (λ k. k < n) → IfSome m (λ k. k < n + 1)
earlier-more n None below = below
earlier-more n (Some k) below = omega (arith, below)

pub fits-advanced : (kind : Option ChangeKind) (n : ℕ) (old new : InstanceTrack) → Fits n old
    → TracksEntry kind n old new → Fits (n + 1) new
fits-advanced kind n old new fits step =
    let one : one_if (is_write kind) ≤ 1 = one_if-bound (is_write kind) in
    let two : one_if (is_write kind && is_disposed (state_of_track old)) + one_if
    (is_write kind && is_without_writers (state_of_track old))
    ≤ 1 = one-rebirth (is_write kind) (state_of_track old) in
    record {
      writes = omega (arith, fits.writes, step.writes, one);
      generations = omega (arith, fits.generations, step.disposed, step.no_writers, two);
      marker = subst (λ (m : Option ℕ). IfSome m (λ k. k < n + 1)) (sym step.marker)
          (latest (becomes_not_alive (state_of_track old) (state_of_track new)) old.last_marker fits.marker);
    }
  where
    latest : (b : Bool) (m : Option ℕ) → IfSome m (λ k. k < n) → IfSome (if b then Some n else m) (λ k. k < n + 1)
    latest true m below = omega arith
    latest false m below = earlier-more n m below

pub fits-more : (n : ℕ) (ts : List InstanceTrack) → All (Fits n) ts → All (Fits (n + 1)) ts
fits-more n ts fits =
    All-weaker (Fits n) (Fits (n + 1))
    (λ t f. record {
      writes = omega (arith, f.writes);
      generations = omega (arith, f.generations);
      marker = earlier-more
          n t.last_marker f.marker;
    }) ts fits

pub fits-set : (n : ℕ) (ts : List InstanceTrack) (at : ℕ) (t : InstanceTrack) → All (Fits n) ts → Fits (n + 1) t
    → All (Fits (n + 1)) (set ts at t)
fits-set n ts at t fits fit = All-set (Fits (n + 1)) ts at t fit (fits-more n ts fits)

-- ---- the keys stay where a track keeps its key

pub keys-set : (ts : List InstanceTrack) (at : ℕ) (t : InstanceTrack) → at < length ts → t.key ≡ (get_or ts at t).key
    → map key_of (set ts at t) ≡ map key_of ts
keys-set ts at t within same =
    map-set key_of ts at t
    ∙ (ap (λ (k : Key). set (map key_of ts) at k) (same ∙ sym (get_or-map key_of ts at t t.key within))
    ∙ set-get_or (map key_of ts) at t.key)

-- ---- a change of a known instance

-- the others are other instances
pub stranger-at : (ts : List InstanceTrack) (i : Key) (at k : ℕ) (d : InstanceTrack) → IsPlaceOf (map key_of ts) i at
    → k < length ts → k ≢ at → same_key i (get_or ts k d).key ≡ false
stranger-at ts i at k d place within differ =
    sym (ap (λ (x : Key). same_key i x) (get_or-map key_of ts k d d.key within))
    ∙ place.apart k d.key (omega (arith, length-map ts key_of)) differ

-- the instance that stands there
itself-at : (ts : List InstanceTrack) (i : Key) (at : ℕ) (d : InstanceTrack) → IsPlaceOf (map key_of ts) i at
    → at < length ts → (get_or ts at d).key ≡ i
itself-at ts i at d place within = sym (get_or-map key_of ts at d d.key within) ∙ place.is d.key

pub itself-same : (ts : List InstanceTrack) (i : Key) (at : ℕ) (d : InstanceTrack) → IsPlaceOf (map key_of ts) i at
    → at < length ts → same_key i (get_or ts at d).key ≡ true
itself-same ts i at d place within =
    ap (λ (k : Key). same_key i k) (itself-at ts i at d place within) ∙ same_key-refl i

-- one track was put among the others
pub all-set : (P : InstanceTrack → Type 0) (ts : List InstanceTrack) (at : ℕ) (x : InstanceTrack) → at < length ts → P x
    → ((k : ℕ) (d : InstanceTrack) → k < length ts → k ≢ at → P (get_or ts k d)) → All P (set ts at x)
all-set P ts at x inside here others = λ k d within.
    let within' : k < length ts = omega (arith, within, length-set ts at x) in
    ⊎_elim
    (λ same. let is : get_or (set ts at x) k d ≡ x = ap (λ (n : ℕ). get_or (set ts at x) n d) same
    ∙ get_or-set_same ts at x d inside in
    subst P (sym is) here)
    (λ differ. let is : get_or (set ts at x) k d ≡ get_or ts k d = get_or-set_other ts at k x d differ in
    subst P (sym is) (others k d within' differ))
    (cases_eq k at)

-- where the owners of one instance have more places, the tracks follow as before
pub widened-follows : (q : ReaderQos) (h : List Happening) (ts : List InstanceTrack) (at : ℕ) (t x : InstanceTrack)
    → at < length ts → t ≡ get_or ts at t → x ≡ record t { owners = x.owners }
    → (StandsFor t.owners q t.key h → StandsFor x.owners q t.key h) → Follows q h ts → Follows q h (set ts at x)
widened-follows q h ts at t x inside there is wider follows =
    let key : x.key ≡ t.key = ap (λ (y : InstanceTrack). y.key) is in
    record {
      keys_are = keys-set ts at x inside
          (key ∙ ap (λ (y : InstanceTrack). y.key) (there ∙ get_or_default ts at t x inside))
          ∙ follows.keys_are;
      each = all-set (λ (y : InstanceTrack). Tracks q y.key h y) ts at x inside
          (subst (λ (i : Key). Tracks q i h x) (sym key)
          (tracks-widened q t.key h t x is wider
          (subst (λ (y : InstanceTrack). Tracks q y.key h y) (sym there) (follows.each at t inside))))
          (λ k d within differ. follows.each k d within);
      matched = follows.matched;
    }

list-flip : (ks : List Key) (i : Key) → list_any (same_key i) ks ≡ list_any (λ k. same_key k i) ks
list-flip [] i = refl
list-flip (k ∷ ks) i =
    ap (λ (b : Bool). b || list_any (same_key i) ks) (same_key-comm i k)
    ∙ ap (λ (b : Bool). same_key k i || b) (list-flip ks i)

-- whether a key is among those of the tracks says whether its instance is known
pub known-kept : (q : ReaderQos) (h : List Happening) (ts : List InstanceTrack) (i : Key) (b : Bool) → Follows q h ts
    → list_any (same_key i) (map key_of ts) ≡ b → is_some (last_accepted q i h) ≡ b
known-kept q h ts i b follows is =
    sym (known q h i) ∙ (sym (list-flip (known_instances q h) i)
    ∙ (sym (ap (λ (ks : List Key). list_any (same_key i) ks) follows.keys_are) ∙ is))

-- what is true of each key is of that of each track
pub all-keys : (P : Key → Type 0) (ts : List InstanceTrack) → All P (map key_of ts)
    → All (λ (t : InstanceTrack). P t.key) ts
all-keys P ts all = λ k d within. subst P (get_or-map key_of ts k d d.key within)
    (all k d.key (omega (arith, within, length-map ts key_of)))

-- each instance that is kept is known
pub known-of : (q : ReaderQos) (h : List Happening) (ts : List InstanceTrack) → Follows q h ts
    → All (λ (t : InstanceTrack). is_known q h t.key ≡ true) ts
known-of q h ts follows =
    all-keys (λ (k : Key). is_known q h k ≡ true) ts
    (subst (λ (ks : List Key). All (λ (k : Key). is_known q h k ≡ true) ks) (sym follows.keys_are) (known-all q h))

-- so is that of a key among theirs
pub known-at : (q : ReaderQos) (h : List Happening) (ts : List InstanceTrack) (i : Key) (at : ℕ)
    → IsPlaceOf (map key_of ts) i at → Follows q h ts → is_known q h i ≡ true
known-at q h ts i at place follows =
    subst (λ (k : Key). is_known q h k ≡ true) (place.is i)
    (subst (λ (ks : List Key). All (λ (k : Key). is_known q h k ≡ true) ks) (sym follows.keys_are) (known-all q h) at i
    place.within)

-- ---- the tracks that stay

pub filter-keys : (keep : InstanceTrack → Bool) (p : Key → Bool) (ts : List InstanceTrack)
    → All (λ (t : InstanceTrack). keep t ≡ p t.key) ts → map key_of (filter keep ts) ≡ filter p (map key_of ts)
filter-keys keep p [] same = refl
filter-keys keep p (t ∷ ts) same =
    one (keep t) (filter keep ts)
    ∙ (ap (λ (b : Bool). cond b (t.key ∷ map key_of (filter keep ts)) (map key_of (filter keep ts)))
    (All-head (λ (x : InstanceTrack). keep x ≡ p x.key) t ts same)
    ∙ ap (λ (ks : List Key). cond (p t.key) (t.key ∷ ks) ks)
    (filter-keys keep p ts (All-tail (λ (x : InstanceTrack). keep x ≡ p x.key) t ts same)))
  where
    one : (b : Bool) (xs : List InstanceTrack) → map key_of (cond b (t ∷ xs) xs) ≡ cond b (t.key ∷ map key_of xs) (map key_of xs)
    one true xs = refl
    one false xs = refl

-- those of the instances that are known stay
pub follows-kept : (q : ReaderQos) (h : List Happening) (e : Happening) (keep : InstanceTrack → Bool)
    (ts : List InstanceTrack) → Reaches q h e ts → All (λ (t : InstanceTrack). keep t ≡ is_known q (e ∷ h) t.key) ts
    → Follows q (e ∷ h) (filter keep ts)
follows-kept q h e keep ts reaches right = record {
  keys_are =
      filter-keys keep (is_known q (e ∷ h)) ts right
      ∙ ap (λ (ks : List Key). filter (is_known q (e ∷ h)) ks) reaches.keys_are;
  each = λ k d within.
      All-filter keep (λ (t : InstanceTrack). is_known q (e ∷ h) t.key ≡ true → Tracks q t.key (e ∷ h) t) ts reaches.each
      k d within
      (sym (All-filter keep (λ (t : InstanceTrack). keep t ≡ is_known q (e ∷ h) t.key) ts right k d within)
      ∙ filter_passes keep ts k d within);
  matched = reaches.matched;
}

filter-all : (ts : List InstanceTrack) → filter (λ (t : InstanceTrack). true) ts ≡ ts
filter-all [] = refl
filter-all (t ∷ ts) = ap (λ (xs : List InstanceTrack). t ∷ xs) (filter-all ts)

-- all of them stay where all are known
pub follows-whole : (q : ReaderQos) (h : List Happening) (e : Happening) (ts : List InstanceTrack) → Reaches q h e ts
    → All (λ (t : InstanceTrack). is_known q (e ∷ h) t.key ≡ true) ts → Follows q (e ∷ h) ts
follows-whole q h e ts reaches known =
    subst (λ (xs : List InstanceTrack). Follows q (e ∷ h) xs) (filter-all ts)
    (follows-kept q h e (λ t. true) ts reaches (λ k d within. sym (known k d within)))

-- ---- a change of a known instance

-- a track takes up a change of its instance, of this accepted kind
pub record Changes (q : ReaderQos) (kept : KeptStrengths) (a : Arrival) (kind : Option ChangeKind) (n : ℕ)
    (old new : InstanceTrack) : Type 0 where
  pub advances : TracksEntry kind n old new
  pub accepted : (h : List Happening) → StandsFor old.owners q a.change.key h → TellsStrengths kept h
      → kind ≡ accepted_kind q a.change.key h (Came a)
  pub came : (h : List Happening) → StandsFor old.owners q a.change.key h → TellsStrengths kept h
      → StandsFor new.owners q a.change.key (Came a ∷ h)

-- one that has followed the instance until then
tracks-changed : (q : ReaderQos) (kept : KeptStrengths) (h : List Happening) (a : Arrival) (kind : Option ChangeKind)
    (n : ℕ) (t x : InstanceTrack) → length h + 1 ≡ n → Changes q kept a kind n t x → TellsStrengths kept h
    → IsLawful q h → HandsOut q a.change.key h (Came a) t.handle → Tracks q a.change.key h t
    → is_known q (Came a ∷ h) a.change.key ≡ true → Tracks q a.change.key (Came a ∷ h) x
tracks-changed q kept h a kind n t x len step tells lawful hands before known =
    let i : Key = a.change.key in
    let advances : TracksEntry kind (length h + 1) t x =
    subst (λ (m : ℕ). TracksEntry kind m t x) (sym len) step.advances in
    tracks-next q i h (Came a) kind t x (step.accepted h before.owners_are tells) (step.came h before.owners_are tells)
    (λ j. refl) (lawful.past i (length h + 1) (omega arith)) hands before advances known

-- a change of a known instance makes none known
pub known-introduced : (q : ReaderQos) (h : List Happening) (a : Arrival) → is_known q h a.change.key ≡ true
    → introduced_by q h (Came a) ≡ []
known-introduced q h a known =
    ap (λ (b : Bool). cond (not b && is_some (accepted_kind q a.change.key h (Came a))) (a.change.key ∷ []) []) known

pub reaches-known : (q : ReaderQos) (kept : KeptStrengths) (h : List Happening) (a : Arrival) (ts : List InstanceTrack)
    (at n : ℕ) (t x : InstanceTrack) (kind : Option ChangeKind) → MayTakeUp q kept h n ts → IsMatched q h a.writer
    → IsPlaceOf (map key_of ts) a.change.key at → t ≡ get_or ts at t → Changes q kept a kind n t x
    → TakeUp q h a (set ts at x) false
reaches-known q kept h a ts at n t x kind may matched place is step =
    let i : Key = a.change.key in
    let follows : Follows q h ts = may.before.follows in
    let inside : at < length ts = omega (arith, place.within, length-map ts key_of) in
    let key : t.key ≡ i = ap (λ (y : InstanceTrack). y.key) is ∙ itself-at ts i at t place inside in
    let before : Tracks q i h t =
    subst (λ (k : Key). Tracks q k h t) key
    (subst (λ (y : InstanceTrack). Tracks q y.key h y) (sym is) (follows.each at t inside)) in
    let old : is_known q h i ≡ true = known-at q h ts i at place follows in
    let none : introduced_by q h (Came a) ≡ [] = known-introduced q h a old in
    let here : is_known q (Came a ∷ h) i ≡ true → Tracks q i (Came a ∷ h) x =
    tracks-changed q kept h a kind n t x may.before.place step may.tells may.before.lawful
    (λ unknown new. absurd (let clash : true ≡ false = sym old ∙ unknown in cc)) before in
    record {
      reaches = record {
        keys_are =
            keys-set ts at x inside (step.advances.key
            ∙ ap (λ (y : InstanceTrack). y.key) (is ∙ get_or_default ts at t x inside))
            ∙ (follows.keys_are ∙ (sym (append-nil (known_instances q h))
            ∙ ap (λ (ks : List Key). known_instances q h ++ ks) (sym none)));
        each =
            all-set (λ (y : InstanceTrack). is_known q (Came a ∷ h) y.key ≡ true → Tracks q y.key (Came a ∷ h) y) ts at x
            inside
            (subst (λ (k : Key). is_known q (Came a ∷ h) k ≡ true → Tracks q k (Came a ∷ h) x)
            (sym (step.advances.key ∙ key)) here)
            (λ k d within differ. tracks-stranger q (get_or ts k d).key h a (get_or ts k d)
            (stranger-at ts i at k d place within differ) (known-of q h ts follows k d within) (follows.each k d within));
        matched = (matched, follows.matched);
      };
      begun = ap (λ (ks : List Key). length ks) none;
    }

-- ---- an instance becomes known

or-parts : (a b : Bool) → (a || b) ≡ false → (a ≡ false) × (b ≡ false)
or-parts true b e = absurd cc
or-parts false b e = (refl, e)

none-from : (o : Option ChangeKind) → is_some o ≡ false → o ≡ None
none-from None e = refl
none-from (Some k) e = absurd cc

some-cond : (b : Bool) (k : ChangeKind) (ks : List Key) → cond (is_some (cond b (Some k) None)) ks [] ≡ cond b ks []
some-cond true k ks = refl
some-cond false k ks = refl

-- the others are other instances
pub strangers-all : (i : Key) (ts : List InstanceTrack) → list_any (same_key i) (map key_of ts) ≡ false
    → (k : ℕ) (d : InstanceTrack) → k < length ts → same_key i (get_or ts k d).key ≡ false
strangers-all i [] none k d within = absurd (omega (arith, within))
strangers-all i (t ∷ ts) none zero d within =
    (or-parts (same_key i t.key) (list_any (same_key i) (map key_of ts)) none).0
strangers-all i (t ∷ ts) none (suc k) d within =
    strangers-all i ts (or-parts (same_key i t.key) (list_any (same_key i) (map key_of ts)) none).1 k d
    (omega (arith, within))

pub unknown-kept : (q : ReaderQos) (h : List Happening) (ts : List InstanceTrack) (i : Key)
    → list_any (same_key i) (map key_of ts) ≡ false → Follows q h ts → last_accepted q i h ≡ None
unknown-kept q h ts i none follows = none-from (last_accepted q i h) (known-kept q h ts i false follows none)

-- a write or a dispose of an unknown instance is accepted
pub first-accepted : (q : ReaderQos) (h : List Happening) (a : Arrival) → AreOfMatched q h
    → last_accepted q a.change.key h ≡ None → accepted_kind q a.change.key h (Came a) ≡ (if is_write_or_dispose a.change.kind then Some a.change.kind else None)
first-accepted q h a of_matched last =
    rejected q a.change.key h a (unknown q a.change.key h of_matched last).registered
    ∙ ap (λ (b : Bool). if b && is_write_or_dispose a.change.kind then Some a.change.kind else None)
    (same_key-refl a.change.key)

-- the key that a change of an unknown instance makes known
first-introduced : (q : ReaderQos) (h : List Happening) (a : Arrival) (b : Bool) → AreOfMatched q h
    → last_accepted q a.change.key h ≡ None → is_write_or_dispose a.change.kind ≡ b → introduced_by q h (Came a) ≡ cond b (a.change.key ∷ []) []
first-introduced q h a b of_matched last data_is =
    ap (λ (l : Option ChangeKind). cond (not (is_some l) && is_some (accepted_kind q a.change.key h (Came a)))
    (a.change.key ∷ []) []) last
    ∙ (ap (λ (k : Option ChangeKind). cond (is_some k) (a.change.key ∷ []) []) (first-accepted q h a of_matched last)
    ∙ (ap (λ (x : Bool). cond (is_some (cond x (Some a.change.kind) None)) (a.change.key ∷ []) []) data_is
    ∙ some-cond b a.change.kind (a.change.key ∷ [])))

-- whoever an unmatched list of keys does not have is another one
strangers-reach : (q : ReaderQos) (h : List Happening) (a : Arrival) (ts : List InstanceTrack)
    → list_any (same_key a.change.key) (map key_of ts) ≡ false → Follows q h ts
    → All (λ (t : InstanceTrack). is_known q (Came a ∷ h) t.key ≡ true → Tracks q t.key (Came a ∷ h) t) ts
strangers-reach q h a ts absent follows = λ k d within. tracks-stranger q (get_or ts k d).key h a (get_or ts k d)
    (strangers-all a.change.key ts absent k d within) (known-of q h ts follows k d within) (follows.each k d within)

pub reaches-new : (q : ReaderQos) (kept : KeptStrengths) (h : List Happening) (a : Arrival) (ts : List InstanceTrack)
    (n handle : ℕ) (blank : Kept) (x : InstanceTrack) (kind : Option ChangeKind) → MayTakeUp q kept h n ts
    → IsMatched q h a.writer → IsForNextLife q h handle blank → list_any (same_key a.change.key) (map key_of ts) ≡ false
    → is_write_or_dispose a.change.kind ≡ true → Changes q kept a kind n (fresh a.change.key handle blank) x
    → TakeUp q h a (ts ++ x ∷ []) true
reaches-new q kept h a ts n handle blank x kind may matched life absent data_is step =
    let i : Key = a.change.key in
    let follows : Follows q h ts = may.before.follows in
    let last : last_accepted q i h ≡ None = unknown-kept q h ts i absent follows in
    let unknown_is : is_known q h i ≡ false = ap (λ (k : Option ChangeKind). is_some k) last in
    let new : introduced_by q h (Came a) ≡ i ∷ [] = first-introduced q h a true follows.matched last data_is in
    let before : Tracks q i h (fresh i handle blank) =
    tracks-fresh q i h handle blank follows.matched life.blank_is last (may.before.lawful.strangers i unknown_is) in
    let here : is_known q (Came a ∷ h) i ≡ true → Tracks q i (Came a ∷ h) x =
    tracks-changed q kept h a kind n (fresh i handle blank) x may.before.place step may.tells may.before.lawful
    (λ unknown begins. life.handle_is ∙ ap (λ (ks : List Key). lives_begun q h + length ks) (sym new)) before in
    let goes_on : InstanceTrack → Type 0 =
    λ t. is_known q (Came a ∷ h) t.key ≡ true → Tracks q t.key (Came a ∷ h) t in
    record {
      reaches = record {
        keys_are =
            map-append key_of ts (x ∷ [])
            ∙ (ap (λ (ks : List Key). ks ++ x.key ∷ []) follows.keys_are
            ∙ (ap (λ (k : Key). known_instances q h ++ k ∷ []) step.advances.key
            ∙ ap (λ (ks : List Key). known_instances q h ++ ks) (sym new)));
        each = All-append goes_on ts (x ∷ []) (strangers-reach q h a ts absent follows)
            (All-cons goes_on x []
            (subst (λ (k : Key). is_known q (Came a ∷ h) k ≡ true → Tracks q k (Came a ∷ h) x) (sym step.advances.key) here)
            (All-nil goes_on));
        matched = (matched, follows.matched);
      };
      begun = ap (λ (ks : List Key). length ks) new;
    }

-- an unregister of an unknown instance says nothing
pub reaches-nothing : (q : ReaderQos) (h : List Happening) (a : Arrival) (ts : List InstanceTrack)
    → IsMatched q h a.writer → list_any (same_key a.change.key) (map key_of ts) ≡ false
    → is_write_or_dispose a.change.kind ≡ false → Follows q h ts → TakeUp q h a ts false
reaches-nothing q h a ts matched absent data_is follows =
    let last : last_accepted q a.change.key h ≡ None = unknown-kept q h ts a.change.key absent follows in
    let none : introduced_by q h (Came a) ≡ [] = first-introduced q h a false follows.matched last data_is in
    record {
      reaches = record {
        keys_are =
            follows.keys_are ∙ (sym (append-nil (known_instances q h))
            ∙ ap (λ (ks : List Key). known_instances q h ++ ks) (sym none));
        each = strangers-reach q h a ts absent follows;
        matched = (matched, follows.matched);
      };
      begun = ap (λ (ks : List Key). length ks) none;
    }

-- ---- whose life a change ends

-- of one key, where this is that of the change
came-one : (q : ReaderQos) (h : List Happening) (a : Arrival) (k : Key) → same_key k a.change.key ≡ true
    → is_some (or_else (accepted_kind q a.change.key h (Came a)) (last_accepted q a.change.key h)) ≡ true
    → not (ends_life q a.change.key h (Came a) && same_key k a.change.key) ≡ is_known q (Came a ∷ h) k
came-one q h a k same there =
    let i : Key = a.change.key in
    ap (λ (b : Bool). not (ends_life q i h (Came a) && b)) same
    ∙ (table (ends_life q i h (Came a))
    ∙ sym (ap (λ (x : Key). is_known q (Came a ∷ h) x) (key-same k i same)))
  where
    table : (b : Bool) → not (b && true)
        ≡ is_some (if b then None else or_else (accepted_kind q a.change.key h (Came a)) (last_accepted q a.change.key h))
    table true = refl
    table false = sym there

-- of one that was known
came-known : (q : ReaderQos) (h : List Happening) (a : Arrival) (k : Key) → is_known q h k ≡ true
    → not (ends_life q a.change.key h (Came a) && same_key k a.change.key) ≡ is_known q (Came a ∷ h) k
came-known q h a k known =
    let i : Key = a.change.key in
    ⊎_elim
    (λ same. came-one q h a k same
    (or-some (accepted_kind q i h (Came a)) (last_accepted q i h)
    (ap (λ (x : Key). is_known q h x) (sym (key-same k i same)) ∙ known)))
    (λ other. let another : same_key i k ≡ false = same_key-comm i k ∙ other in
    ap (λ (b : Bool). not (ends_life q i h (Came a) && b)) other
    ∙ (off (ends_life q i h (Came a))
    ∙ sym (known-on q k h (Came a) known
    (quiet-goes-on q k h (Came a) (accepted-other q k h a another)
    (filter_agree (λ w. is_registered k w (Came a ∷ h)) (λ w. is_registered k w h)
    (λ w. registered-other k w h a another) (publication_handles q h)) refl known))))
    (cases_Bool (same_key k i))
  where
    off : (b : Bool) → not (b && false) ≡ true
    off true = refl
    off false = refl

-- of one that becomes so
came-introduced : (q : ReaderQos) (h : List Happening) (a : Arrival)
    → All (λ (k : Key). not (ends_life q a.change.key h (Came a) && same_key k a.change.key) ≡ is_known q (Came a ∷ h) k)
    (introduced_by q h (Came a))
came-introduced q h a =
    let i : Key = a.change.key in
    let P : Key → Type 0 =
    λ k. not (ends_life q i h (Came a) && same_key k i) ≡ is_known q (Came a ∷ h) k in
    ⊎_elim
    (λ new. subst (λ (b : Bool). All P (cond b (i ∷ []) [])) (sym new)
    (All-cons P i [] (came-one q h a i (same_key-refl i)
    (some-then (is_known q h i) (accepted_kind q i h (Came a)) (last_accepted q i h) new)) (All-nil P)))
    (λ old. subst (λ (b : Bool). All P (cond b (i ∷ []) [])) (sym old) (All-nil P))
    (cases_Bool (introduces q i h (Came a)))
  where
    some-then : (b : Bool) (x l : Option ChangeKind) → (not b && is_some x) ≡ true → is_some (or_else x l) ≡ true
    some-then true x l e = absurd cc
    some-then false None l e = absurd cc
    some-then false (Some x) l e = refl

came-keeps : (q : ReaderQos) (h : List Happening) (a : Arrival) (ts : List InstanceTrack) → Reaches q h (Came a) ts
    → All (λ (t : InstanceTrack). not (ends_life q a.change.key h (Came a) && same_key t.key a.change.key)
    ≡ is_known q (Came a ∷ h) t.key) ts
came-keeps q h a ts reaches =
    let P : Key → Type 0 =
    λ k. not (ends_life q a.change.key h (Came a) && same_key k a.change.key) ≡ is_known q (Came a ∷ h) k in
    all-keys P ts (subst (λ (ks : List Key). All P ks) (sym reaches.keys_are)
    (All-append P (known_instances q h) (introduced_by q h (Came a))
    (All-weaker (λ (k : Key). is_known q h k ≡ true) P (came-known q h a) (known_instances q h) (known-all q h))
    (came-introduced q h a)))

-- a change that ends the life of its instance
pub follows-over : (q : ReaderQos) (h : List Happening) (a : Arrival) (ts : List InstanceTrack)
    → true ≡ ends_life q a.change.key h (Came a) → Reaches q h (Came a) ts
    → Follows q (Came a ∷ h) (filter (is_other a.change.key) ts)
follows-over q h a ts over reaches =
    follows-kept q h (Came a) (is_other a.change.key) ts reaches
    (λ k d within. ap (λ (b : Bool). not (b && same_key (get_or ts k d).key a.change.key)) over
    ∙ came-keeps q h a ts reaches k d within)

-- and one that does not
pub follows-on : (q : ReaderQos) (h : List Happening) (a : Arrival) (ts : List InstanceTrack)
    → false ≡ ends_life q a.change.key h (Came a) → Reaches q h (Came a) ts → Follows q (Came a ∷ h) ts
follows-on q h a ts on reaches =
    follows-whole q h (Came a) ts reaches
    (λ k d within. sym (came-keeps q h a ts reaches k d within)
    ∙ ap (λ (b : Bool). not (b && same_key (get_or ts k d).key a.change.key)) (sym on))

-- ---- what is kept of a key

pub track-at : (q : ReaderQos) (h : List Happening) (ts : List InstanceTrack) (ks : List Key) (i : Key) (at : ℕ)
    (t : InstanceTrack) → ks ≡ map key_of ts → IsPlaceOf ks i at → t ≡ get_or ts at t → Follows q h ts → Tracks q i h t
track-at q h ts ks i at t indexed there is follows =
    let place : IsPlaceOf (map key_of ts) i at = subst (λ (xs : List Key). IsPlaceOf xs i at) indexed there in
    let inside : at < length ts = omega (arith, place.within, length-map ts key_of) in
    let key : t.key ≡ i = ap (λ (y : InstanceTrack). y.key) is ∙ itself-at ts i at t place inside in
    subst (λ (k : Key). Tracks q k h t) key
    (subst (λ (y : InstanceTrack). Tracks q y.key h y) (sym is) (follows.each at t inside))

pub nothing-at : (q : ReaderQos) (h : List Happening) (ts : List InstanceTrack) (ks : List Key) (i : Key)
    → ks ≡ map key_of ts → list_any (same_key i) ks ≡ false → Follows q h ts → last_accepted q i h ≡ None
nothing-at q h ts ks i indexed absent follows =
    unknown-kept q h ts i (ap (λ (xs : List Key). list_any (same_key i) xs) (sym indexed) ∙ absent) follows

-- the tracks of a table that stands for what happened
pub follows-of : (q : ReaderQos) (h : List Happening) (table : Table) (ts : List InstanceTrack) → ts ≡ table.tracks
    → Stands q table h → Follows q h ts
follows-of q h table ts are stands = subst (λ (xs : List InstanceTrack). Follows q h xs) (sym are) stands.follows

-- its strengths
pub tells-of : (q : ReaderQos) (h : List Happening) (table : Table) (kept : KeptStrengths) → kept ≡ table.strengths
    → Stands q table h → TellsStrengths kept h
tells-of q h table kept are stands = subst (λ (k : KeptStrengths). TellsStrengths k h) (sym are) stands.strengths_are

some-known : (last : Option ChangeKind) (nobody : Bool) → is_some last ≡ true
    → state_after last nobody ≡ Some (state_of_known (state_after last nobody))
some-known None nobody e = absurd cc
some-known (Some Write) true e = refl
some-known (Some Write) false e = refl
some-known (Some Dispose) nobody e = refl
some-known (Some Unregister) nobody e = refl
some-known (Some DisposeUnregister) nobody e = refl

-- what is told of the track of a known instance
pub told-tracked : (q : ReaderQos) (h : List Happening) (t : InstanceTrack) (k : KnownInstance) → Tracks q t.key h t
    → is_some (last_accepted q t.key h) ≡ true → k.key ≡ t.key → k.handle ≡ t.handle → k.state ≡ state_of_known (state_of_track t)
    → k.view ≡ (if t.is_seen then NotNew else New) → k.disposed_generations ≡ t.disposed_generations
    → k.no_writers_generations ≡ t.no_writers_generations → k.accepted_writes ≡ t.accepted_writes
    → k.last_marker ≡ t.last_marker → IsKnown q h k
told-tracked q h t k tracked there key handle state view disposed no_writers writes marker =
    let tracks : Tracks q k.key h t = subst (λ (i : Key). Tracks q i h t) (sym key) tracked in
    let last : is_some (last_accepted q k.key h) ≡ true = ap (λ (i : Key). is_some (last_accepted q i h)) key ∙ there in
    record {
      handle_is = handle ∙ tracks.handle_is last;
      state_is =
          some-known (last_accepted q k.key h) (is_nobody (registered_writers q k.key h)) last
          ∙ ap (λ (s : InstanceState). Some s)
          (sym (state ∙ ap (λ (s : Option InstanceState). state_of_known s) (state-tracked q k.key h t tracks)));
      view_is = view ∙ ap (λ (b : Bool). if b then NotNew else New) tracks.seen_is;
      disposed_is = disposed ∙ tracks.disposed_is;
      no_writers_is = no_writers ∙ tracks.no_writers_is;
      writes_are = writes ∙ tracks.writes_are;
      marker_is = marker ∙ tracks.marker_is;
    }

-- ---- the handle of an instance, and the instance of a handle

-- the instance at a place
pub instance-at : (q : ReaderQos) (h : List Happening) (ts : List InstanceTrack) (place : ℕ) → Follows q h ts
    → option_map key_of (slice_get ts place) ≡ slice_get (known_instances q h) place
instance-at q h ts place follows =
    sym (slice_get-map key_of ts place) ∙ ap (λ (ks : List Key). slice_get ks place) follows.keys_are

-- what is kept at a place
pub track-there : (ts : List InstanceTrack) (place : ℕ) (t : InstanceTrack) → true ≡ nat_lt place (length ts)
    → t ≡ get_or ts place t → slice_get ts place ≡ Some t
track-there ts place t within is =
    slice_get_read ts (length ts) place t refl (let below : place < length ts = grind (arith, nat_tests) in below) is

-- what is kept at a place has every fact of all that is kept
pub at-place : (P : InstanceTrack → Type 0) (ts : List InstanceTrack) (at : ℕ) (t : InstanceTrack) → All P ts
    → slice_get ts at ≡ Some t → P t
at-place P [] at t all is = absurd cc
at-place P (x ∷ ts) zero t all is = let same : x ≡ t = cc in subst P same (All-head P x ts all)
at-place P (x ∷ ts) (suc at) t all is = at-place P ts at t (All-tail P x ts all) is

-- an unknown instance has no handle
pub handle-none : (q : ReaderQos) (h : List Happening) (i : Key) → last_accepted q i h ≡ None → 0 ≡ handle_of q h i
handle-none q [] i last = refl
handle-none q (e ∷ h) i last =
    sym (ap (λ (k : Option ChangeKind). if not (is_some k) then 0
    else (if introduces q i h e then lives_begun q (e ∷ h) else handle_of q h i)) last)

-- ---- whether a change is accepted

some-test : (b : Bool) (k : ChangeKind) → b ≡ is_some (cond b (Some k) None)
some-test true k = refl
some-test false k = refl

-- where ownership is shared each write and each dispose is accepted
pub accepts-shared : (q : ReaderQos) (h : List Happening) (a : Arrival) → q.ownership ≡ Shared
    → is_write_or_dispose a.change.kind ≡ is_accepted q h (Came a)
accepts-shared q h a shared =
    let written : Bool = is_write_or_dispose a.change.kind in
    let owns : Bool = outranks_all q (Came a ∷ h) (registered_writers q a.change.key h) a.writer in
    some-test written a.change.kind
    ∙ ap (λ (b : Bool). is_some (if b then Some a.change.kind else None)) (sym (ap (λ (b : Bool). b
    && (written && admits q.ownership owns)) (same_key-refl a.change.key)
    ∙ (ap (λ (o : OwnershipQos). written && admits o owns) shared ∙ and-true written)))
  where
    and-true : (b : Bool) → (b && true) ≡ b
    and-true true = refl
    and-true false = refl

pub accepts-first : (q : ReaderQos) (h : List Happening) (a : Arrival) → AreOfMatched q h
    → last_accepted q a.change.key h ≡ None → is_write_or_dispose a.change.kind ≡ is_accepted q h (Came a)
accepts-first q h a of_matched last =
    some-test (is_write_or_dispose a.change.kind) a.change.kind
    ∙ sym (ap (λ (k : Option ChangeKind). is_some k) (first-accepted q h a of_matched last))
