-- What is noted of which instances something is held.
use Rattle.std.proofs.Common.{◌≡◌, ◌≢◌, ℕ, ◌+◌, ◌<◌, List, [], ◌∷◌, ◌++◌, length, get_or, set, map, take, Bool, true, false, ◌&&◌, ◌||◌, sym, ap, ◌∙◌, refl, subst, cond, arith, zero, suc, Global, Vec}
use Rattle.std.specs.Prelude.{count_by, vec_len, vec_capacity}
use Rattle.std.specs.List.{All, AllByRecursion, IsDistinct, filter, list_any}
use Rattle.std.proofs.lemmas.List.{map-append, take_more}
use Rattle.std.proofs.lemmas.List.Elements.{All-map}
use Rattle.std.proofs.lemmas.List.Sums.{sum_by-cons}
use Rattle.std.proofs.lemmas.Map.Keys.{IsDistinct-cons, IsDistinct-head, IsDistinct-tail}
use Rattle.dds_base.specs.declared.key.Key.{Key}
use Rattle.dds_base.specs.declared.happening.Happening.{Happening}
use Rattle.dds_base.specs.declared.qos.ReaderQos.{ReaderQos}
use Rattle.dds_base.specs.Happening.{same_key}
use Rattle.dds_base.specs.Instance.{is_known}
use Rattle.dds_base.proofs.KeyLaws.{key-same, same_key-comm, same_key-refl}
use Rattle.dds_owner.specs.Standing.{KeptStrengths, TellsStrengths}
use Rattle.dds_instances.specs.declared.instances.Instances.TheInside.{Inside}
use Rattle.dds_instances.specs.declared.track.InstanceTrack.{InstanceTrack}
use Rattle.dds_instances.specs.Track.{Tracks, Fits, held_as, held_too, is_alive_track}
use Rattle.dds_instances.specs.Sound.{IsSound}
use Rattle.dds_instances.specs.Table.{Table, Stands}
use Rattle.dds_instances.specs.Following.{key_of, Follows}
use Rattle.dds_instances.proofs.TrackLaws.{tracks-held}
use Rattle.dds_instances.proofs.KnownLaws.{known}
use Rattle.dds_instances.proofs.StandingLaws.{known-of}

-- ---- one track that is changed, by a function that leaves the others

-- what changes none
pub map-none : (f : InstanceTrack → InstanceTrack) (us : List InstanceTrack)
    → ((k : ℕ) (d : InstanceTrack) → k < length us → f (get_or us k d) ≡ get_or us k d) → us ≡ map f us
map-none f [] same = refl
map-none f (u ∷ us) same =
    ap (λ (y : InstanceTrack). y ∷ us) (sym (same 0 u (omega arith)))
    ∙ ap (λ (ys : List InstanceTrack). f u ∷ ys) (map-none f us (λ k d inside. same (suc k) d (omega (arith, inside))))

pub set-map : (f : InstanceTrack → InstanceTrack) (ts : List InstanceTrack) (at : ℕ) (x : InstanceTrack) → at < length ts
    → ((d : InstanceTrack) → x ≡ f (get_or ts at d))
    → ((k : ℕ) (d : InstanceTrack) → k < length ts → k ≢ at → f (get_or ts k d) ≡ get_or ts k d) → set ts at x ≡ map f ts
set-map f [] at x within is others = absurd (omega (arith, within))
set-map f (t ∷ ts) zero x within is others =
    ap (λ (y : InstanceTrack). y ∷ ts) (is t)
    ∙ ap (λ (ys : List InstanceTrack). f t ∷ ys)
    (map-none f ts (λ k d inside. others (suc k) d (omega (arith, inside)) (λ e. omega (arith, e))))
set-map f (t ∷ ts) (suc at) x within is others =
    ap (λ (y : InstanceTrack). y ∷ set ts at x) (sym (others 0 t (omega arith) (λ e. omega (arith, e))))
    ∙ ap (λ (ys : List InstanceTrack). f t ∷ ys)
    (set-map f ts at x (omega (arith, within)) is
    (λ k d inside differ. others (suc k) d (omega (arith, inside)) (λ e. differ (omega (arith, e)))))

-- ---- a note changes nothing else

-- a function that notes of each track whether something of it is held
pub record Notes (f : InstanceTrack → InstanceTrack) : Type 0 where
  pub note : InstanceTrack → Bool
  pub is : (t : InstanceTrack) → f t ≡ held_as (note t) t

pub notes-keys : (f : InstanceTrack → InstanceTrack) (ts xs : List InstanceTrack) → Notes f → xs ≡ map f ts
    → map key_of xs ≡ map key_of ts
notes-keys f ts xs notes are = ap (λ (ys : List InstanceTrack). map key_of ys) are ∙ each ts
  where
    each : (us : List InstanceTrack) → map key_of (map f us) ≡ map key_of us
    each [] = refl
    each (u ∷ us) =
        ap (λ (y : InstanceTrack). y.key ∷ map key_of (map f us)) (notes.is u)
        ∙ ap (λ (ks : List Key). u.key ∷ ks) (each us)

pub notes-follow : (q : ReaderQos) (h : List Happening) (f : InstanceTrack → InstanceTrack) (ts : List InstanceTrack)
    → Notes f → Follows q h ts → Follows q h (map f ts)
notes-follow q h f ts notes follows = record {
  keys_are = notes-keys f ts (map f ts) notes refl ∙ follows.keys_are;
  each = All-map (λ (t : InstanceTrack). Tracks q t.key h t) f ts
      (λ k d within. let t : InstanceTrack = get_or ts k d in
      subst (λ (u : InstanceTrack). Tracks q u.key h u) (sym (notes.is t))
      (tracks-held q t.key h t (notes.note t) (follows.each k d within)));
  matched = follows.matched;
}

pub notes-fit : (f : InstanceTrack → InstanceTrack) (ts xs : List InstanceTrack) → Notes f → xs ≡ map f ts → (n : ℕ)
    → All (Fits n) ts → All (Fits n) xs
notes-fit f ts xs notes are n fits =
    subst (λ (ys : List InstanceTrack). All (Fits n) ys) (sym are)
    (All-map (Fits n) f ts
    (λ k d within. let t : InstanceTrack = get_or ts k d in
    subst (Fits n) (sym (notes.is t))
    (record {
      writes = (fits k d within).writes;
      generations = (fits k d within).generations;
      marker = (fits k d within).marker;
    })))

pub notes-alive : (f : InstanceTrack → InstanceTrack) (ts xs : List InstanceTrack) → Notes f → xs ≡ map f ts
    → count_by is_alive_track xs ≡ count_by is_alive_track ts
notes-alive f ts xs notes are = ap (λ (ys : List InstanceTrack). count_by is_alive_track ys) are ∙ each ts
  where
    each : (us : List InstanceTrack) → count_by is_alive_track (map f us) ≡ count_by is_alive_track us
    each [] = refl
    each (u ∷ us) =
        sum_by-cons (λ (t : InstanceTrack). cond (is_alive_track t) 1 0) (f u) (map f us)
        ∙ (ap (λ (y : InstanceTrack). cond (is_alive_track y) 1 0 + count_by is_alive_track (map f us)) (notes.is u)
        ∙ (ap (λ (n : ℕ). cond (is_alive_track u) 1 0 + n) (each us)
        ∙ sym (sum_by-cons (λ (t : InstanceTrack). cond (is_alive_track t) 1 0) u us)))

-- the two that are made
pub notes-none : Notes (held_as false)
notes-none = record { note = λ t. false; is = λ t. refl }

pub notes-too : (k : Key) → Notes (held_too k)
notes-too k = record { note = λ t. same_key k t.key || t.is_held; is = λ t. refl }

pub notes-stand : (q : ReaderQos) (h : List Happening) (f : InstanceTrack → InstanceTrack) (old new : Table) → Notes f
    → new.writers ≡ old.writers → new.strengths ≡ old.strengths → new.begun ≡ old.begun → new.happened ≡ old.happened
    → new.tracks ≡ map f old.tracks → Stands q old h → Stands q new h
notes-stand q h f old new notes writers strengths begun happened tracks stands = record {
  writers_are = writers ∙ stands.writers_are;
  happened_is = happened ∙ stands.happened_is;
  strengths_are = subst (λ (k : KeptStrengths). TellsStrengths k h) (sym strengths) stands.strengths_are;
  begun_is = begun ∙ stands.begun_is;
  follows = subst (λ (ts : List InstanceTrack). Follows q h ts) (sym tracks)
      (notes-follow q h f old.tracks notes stands.follows);
  lawful = stands.lawful;
}

-- tracks on which something was noted are as sound
pub sound-noted : (a : Inside) (tracks : Vec InstanceTrack Global) → IsSound a
    → map key_of tracks.items ≡ map key_of a.tracks.items → All (Fits (a.happened + 1)) tracks.items
    → vec_len tracks ≡ vec_len a.tracks → vec_capacity tracks ≡ vec_capacity a.tracks
    → IsSound (record a { tracks = tracks })
sound-noted a tracks sound keys fits len capacity = record {
  indexed = sound.indexed ∙ sym keys;
  fits = fits;
  blank = sound.blank;
  places = sound.places;
  tracks_fit = omega (arith, sound.tracks_fit, len, capacity);
  blanks_fit = sound.blanks_fit;
  strengths_fit = sound.strengths_fit;
  begun_fits = sound.begun_fits;
  counted = sound.counted;
}

-- ---- of which instances something is held

-- the test of what is noted of an instance, of one track
abbrev pub holds : Key → InstanceTrack → Bool
holds i t = same_key t.key i && t.is_held

pub none-held : (i : Key) (ts : List InstanceTrack) → list_any (holds i) (map (held_as false) ts) ≡ false
none-held i [] = refl
none-held i (t ∷ ts) =
    ap (λ (b : Bool). b || list_any (holds i) (map (held_as false) ts)) (off (same_key t.key i)) ∙ none-held i ts
  where
    off : (b : Bool) → (b && false) ≡ false
    off true = refl
    off false = refl

-- one more is held, as far as it is among them
held-more : (k i : Key) (ts : List InstanceTrack) → list_any (holds i) (map (held_too k) ts)
    ≡ ((list_any (λ x. same_key x i) (map key_of ts) && same_key k i) || list_any (holds i) ts)
held-more k i [] = refl
held-more k i (t ∷ ts) =
    ap (λ (b : Bool). (same_key t.key i && (same_key k t.key || t.is_held)) || b) (held-more k i ts)
    ∙ one (same_key t.key i) (same_key k t.key) (same_key k i) t.is_held
    (list_any (λ x. same_key x i) (map key_of ts)) (list_any (holds i) ts)
    (λ same. ap (λ (x : Key). same_key k x) (key-same t.key i same))
  where
    one : (s x y held a b : Bool) → (s ≡ true → x ≡ y)
        → ((s && (x || held)) || ((a && y) || b)) ≡ (((s || a) && y) || ((s && held) || b))
    one true x true held a b same = ap (λ (z : Bool). (z || held) || ((a && true) || b)) (same refl)
    one true x false held true b same = ap (λ (z : Bool). (z || held) || (false || b)) (same refl)
    one true x false held false b same = ap (λ (z : Bool). (z || held) || (false || b)) (same refl)
    one false x y held a b same = refl

pub held-noted : (q : ReaderQos) (h : List Happening) (k i : Key) (ts : List InstanceTrack) → Follows q h ts
    → is_known q h i ≡ true → list_any (holds i) (map (held_too k) ts) ≡ (same_key k i || list_any (holds i) ts)
held-noted q h k i ts follows there =
    held-more k i ts
    ∙ ap (λ (b : Bool). (b && same_key k i) || list_any (holds i) ts)
    (ap (λ (ks : List Key). list_any (λ x. same_key x i) ks) follows.keys_are ∙ (known q h i ∙ there))

-- ---- of distinct instances each track tells for its own

none-other : (k : Key) (ts : List InstanceTrack) → AllByRecursion (λ (y : Key). same_key k y ≡ false) (map key_of ts)
    → list_any (holds k) ts ≡ false
none-other k [] apart = refl
none-other k (t ∷ ts) apart =
    ap (λ (b : Bool). (b && t.is_held) || list_any (holds k) ts) (same_key-comm t.key k ∙ apart.0)
    ∙ none-other k ts apart.1

apart-at : (x : Key) (us : List InstanceTrack) (k : ℕ) (d : InstanceTrack)
    → AllByRecursion (λ (y : Key). same_key x y ≡ false) (map key_of us) → k < length us
    → same_key x (get_or us k d).key ≡ false
apart-at x [] k d all within = absurd (omega (arith, within))
apart-at x (u ∷ us) zero d all within = all.0
apart-at x (u ∷ us) (suc k) d all within = apart-at x us k d all.1 (omega (arith, within))

pub held-own : (ts : List InstanceTrack) → IsDistinct same_key (map key_of ts)
    → All (λ (t : InstanceTrack). list_any (holds t.key) ts ≡ t.is_held) ts
held-own [] distinct k d within = absurd (omega (arith, within))
held-own (t ∷ ts) distinct zero d within =
    ap (λ (b : Bool). (b && t.is_held) || list_any (holds t.key) ts) (same_key-refl t.key)
    ∙ (ap (λ (b : Bool). t.is_held || b)
    (none-other t.key ts (IsDistinct-head same_key t.key (map key_of ts) distinct)) ∙ or-none t.is_held)
  where
    or-none : (b : Bool) → (b || false) ≡ b
    or-none true = refl
    or-none false = refl
held-own (t ∷ ts) distinct (suc k) d within =
    let inside : k < length ts = omega (arith, within) in
    ap (λ (b : Bool). (b && t.is_held) || list_any (holds (get_or ts k d).key) ts)
    (apart-at t.key ts k d (IsDistinct-head same_key t.key (map key_of ts) distinct) inside)
    ∙ held-own ts (IsDistinct-tail same_key t.key (map key_of ts) distinct) k d inside

-- what is noted right of each known instance is so in each track
pub held-right : (q : ReaderQos) (h : List Happening) (ts : List InstanceTrack) (there : Key → Bool)
    → IsDistinct same_key (map key_of ts) → Follows q h ts
    → ((i : Key) → is_known q h i ≡ true → list_any (holds i) ts ≡ there i)
    → All (λ (t : InstanceTrack). t.is_held ≡ there t.key) ts
held-right q h ts there distinct follows right =
    λ k d within. sym (held-own ts distinct k d within)
    ∙ right (get_or ts k d).key (known-of q h ts follows k d within)

-- ---- the keys of those that stay are distinct too

filter-apart : (k : Key) (keep : InstanceTrack → Bool) (ts : List InstanceTrack)
    → AllByRecursion (λ (y : Key). same_key k y ≡ false) (map key_of ts)
    → AllByRecursion (λ (y : Key). same_key k y ≡ false) (map key_of (filter keep ts))
filter-apart k keep [] all = all
filter-apart k keep (t ∷ ts) all = one (keep t) (filter keep ts) (filter-apart k keep ts all.1)
  where
    one : (b : Bool) (xs : List InstanceTrack) → AllByRecursion (λ (y : Key). same_key k y ≡ false) (map key_of xs)
        → AllByRecursion (λ (y : Key). same_key k y ≡ false) (map key_of (cond b (t ∷ xs) xs))
    one true xs rest = (all.0, rest)
    one false xs rest = rest

pub filter-distinct : (keep : InstanceTrack → Bool) (ts : List InstanceTrack) → IsDistinct same_key (map key_of ts)
    → IsDistinct same_key (map key_of (filter keep ts))
filter-distinct keep [] distinct = distinct
filter-distinct keep (t ∷ ts) distinct =
    one (keep t) (filter keep ts)
    (filter-apart t.key keep ts (IsDistinct-head same_key t.key (map key_of ts) distinct))
    (filter-distinct keep ts (IsDistinct-tail same_key t.key (map key_of ts) distinct))
  where
    one : (b : Bool) (xs : List InstanceTrack) → AllByRecursion (λ (y : Key). same_key t.key y ≡ false) (map key_of xs)
        → IsDistinct same_key (map key_of xs) → IsDistinct same_key (map key_of (cond b (t ∷ xs) xs))
    one true xs apart rest = IsDistinct-cons same_key t.key (map key_of xs) apart rest
    one false xs apart rest = rest

-- the key of a track is not among those before it
pub absent-before : (ts : List InstanceTrack) (k : ℕ) (d : InstanceTrack) → IsDistinct same_key (map key_of ts)
    → k < length ts → list_any (same_key (get_or ts k d).key) (map key_of (take k ts)) ≡ false
absent-before [] k d distinct within = absurd (omega (arith, within))
absent-before (t ∷ ts) zero d distinct within = refl
absent-before (t ∷ ts) (suc k) d distinct within =
    let inside : k < length ts = omega (arith, within) in
    ap (λ (b : Bool). b || list_any (same_key (get_or ts k d).key) (map key_of (take k ts)))
    (same_key-comm (get_or ts k d).key t.key
    ∙ apart-at t.key ts k d (IsDistinct-head same_key t.key (map key_of ts) distinct) inside)
    ∙ absent-before ts k d (IsDistinct-tail same_key t.key (map key_of ts) distinct) inside

-- the key of one track more is none of those before it
pub absent-more : (ts : List InstanceTrack) (k : ℕ) (t : InstanceTrack) (old : List Key)
    → IsDistinct same_key (map key_of ts) → k < length ts → t ≡ get_or ts k t → old ≡ map key_of (take k ts)
    → list_any (same_key t.key) old ≡ false
absent-more ts k t old distinct within is before =
    ap (λ (ks : List Key). list_any (same_key t.key) ks) before
    ∙ (ap (λ (u : InstanceTrack). list_any (same_key u.key) (map key_of (take k ts))) is
    ∙ absent-before ts k t distinct within)

-- the keys of one track more, in an index that has those before it
pub indexed-more : (ts : List InstanceTrack) (k : ℕ) (t : InstanceTrack) (old new : List Key) → k < length ts
    → t ≡ get_or ts k t → old ≡ map key_of (take k ts) → new ≡ old ++ t.key ∷ [] → new ≡ map key_of (take (k + 1) ts)
indexed-more ts k t old new within is before put =
    put ∙ (ap (λ (ks : List Key). ks ++ t.key ∷ []) before
    ∙ (ap (λ (u : InstanceTrack). map key_of (take k ts) ++ u.key ∷ []) is
    ∙ (sym (map-append key_of (take k ts) (get_or ts k t ∷ []))
    ∙ ap (λ (us : List InstanceTrack). map key_of us) (sym (take_more ts k t within)))))
