-- What is known of each matched writer, after one more entry.
use Rattle.std.proofs.Common.{◌≡◌, ℕ, zero, suc, ◌+◌, ◌<◌, ◌≤◌, List, [], ◌∷◌, ◌++◌, length, get_or, set, map, Bool, true, false, not, ◌==◌, ◌&&◌, ◌||◌, sym, ap, ◌∙◌, refl, cond, Option, Some, None, arith, ⊎_elim}
use Rattle.std.proofs.lemmas.Bool.{cases_Bool, eqb-true, eqb-false}
use Rattle.std.proofs.lemmas.List.{map-append}
use Rattle.std.proofs.lemmas.List.Sums.{length-filter, sum_by_push}
use Rattle.std.specs.Prelude.{if◌then◌else◌, slice_get, count_by, filter, is_some}
use Rattle.dds_base.specs.declared.happening.Arrival.{Arrival}
use Rattle.dds_base.specs.declared.happening.Happening.{Happening}
use Rattle.dds_base.specs.declared.happening.Happening.TheVariants.{Came, Heard, Died, Left, Joined}
use Rattle.dds_base.specs.declared.qos.MatchedWriter.{MatchedWriter}
use Rattle.dds_base.specs.declared.qos.ReaderQos.{ReaderQos}
use Rattle.dds_base.specs.Life.{or_else}
use Rattle.dds_base.specs.Liveliness.{after_parting, alive_since, has_died, is_alive, lease_of}
use Rattle.dds_base.specs.Ownership.{AreOfMatched, numbered_from, publication_handles, writer_of, writers_of}
use Rattle.dds_base.proofs.JoinLaws.{IsUnheard, handles-joined, kept-writer, newcomer-unheard, next-writer, nobody-joined}
use Rattle.dds_lease.specs.declared.track.LeaseTrack.{LeaseTrack}
use Rattle.dds_lease.specs.Track.{fresh, is_dead_track, is_live_track, track_of}

-- it was asserted at this moment
abbrev pub asserted : ℕ → LeaseTrack → LeaseTrack
asserted moment t = record t { since = Some moment }

-- it died
abbrev pub buried : LeaseTrack → LeaseTrack
buried t = record t { since = None; has_died = true }

-- it left: nothing is known of it but its lease
abbrev pub parted : LeaseTrack → LeaseTrack
parted t = record t { since = None; has_died = false }

-- ---- before anything happened

fresh-from : (q : ReaderQos) (k : ℕ) (rest : List MatchedWriter)
    → ((at : ℕ) → writer_of (writers_of q []) (k + at) ≡ slice_get rest at)
    → map (track_of q []) (numbered_from k rest) ≡ map fresh rest
fresh-from q k [] is = refl
fresh-from q k (r ∷ rest) is =
    ap (λ (o : Option MatchedWriter). (record { lease = lease_of o; since = None; has_died = false })
    ∷ map (track_of q []) (numbered_from (k + 1) rest))
    (ap (λ (w : ℕ). writer_of (writers_of q []) w) (omega arith) ∙ is 0)
    ∙ ap (λ (ts : List LeaseTrack). fresh r ∷ ts)
    (fresh-from q (k + 1) rest (λ at. ap (λ (w : ℕ). writer_of (writers_of q []) w) (omega arith) ∙ is (suc at)))

pub fresh-tracks : (q : ReaderQos) → map (track_of q []) (publication_handles q []) ≡ map fresh q.writers
fresh-tracks q =
    fresh-from q 1 (writers_of q []) (λ at. first at (1 + at) (omega arith))
    ∙ ap (λ (ws : List MatchedWriter). map fresh ws) (nobody-joined q [] refl)
  where
    first : (at w : ℕ) → w ≡ suc at → writer_of (writers_of q []) w ≡ slice_get (writers_of q []) at
    first at w is = ap (λ (n : ℕ). writer_of (writers_of q []) n) is

-- ---- one more entry, which asserts a writer or is its death

told : (lease since : Option ℕ) (has_died asserts : Bool) (moment : ℕ)
    → ◌≡◌ {A = LeaseTrack}
    (record { lease = lease; since = or_else (if asserts then Some moment else None) since; has_died = has_died })
    (if asserts then asserted moment (record { lease = lease; since = since; has_died = has_died })
    else record { lease = lease; since = since; has_died = has_died })
told lease since has_died true moment = refl
told lease since has_died false moment = refl

pub track-came : (q : ReaderQos) (h : List Happening) (a : Arrival) (v : ℕ)
    → track_of q (Came a ∷ h) v ≡ (if a.writer == v then asserted a.moment (track_of q h v) else track_of q h v)
track-came q h a v =
    let t = track_of q h v in told t.lease t.since t.has_died (a.writer == v) a.moment

pub track-heard : (q : ReaderQos) (h : List Happening) (w moment v : ℕ)
    → track_of q (Heard w moment ∷ h) v ≡ (if w == v then asserted moment (track_of q h v) else track_of q h v)
track-heard q h w moment v = let t = track_of q h v in told t.lease t.since t.has_died (w == v) moment

ended : (lease since : Option ℕ) (has_died dies : Bool)
    → ◌≡◌ {A = LeaseTrack}
    (record { lease = lease; since = if dies then None else or_else None since; has_died = dies || has_died })
    (if dies then buried (record { lease = lease; since = since; has_died = has_died })
    else record { lease = lease; since = since; has_died = has_died })
ended lease since has_died true = refl
ended lease since has_died false = refl

pub track-died : (q : ReaderQos) (h : List Happening) (w moment v : ℕ)
    → track_of q (Died w moment ∷ h) v ≡ (if w == v then buried (track_of q h v) else track_of q h v)
track-died q h w moment v = let t = track_of q h v in ended t.lease t.since t.has_died (w == v)

-- ---- a parting, which may enter a death first

parted-alive : (lease since : Option ℕ) (has_died leaves : Bool)
    → ◌≡◌ {A = LeaseTrack}
    (record {
      lease = lease;
      since = if leaves then None else or_else None since;
      has_died = if leaves then false else (leaves || has_died);
    })
    (if leaves then parted (record { lease = lease; since = since; has_died = has_died })
    else record { lease = lease; since = since; has_died = has_died })
parted-alive lease since has_died true = refl
parted-alive lease since has_died false = refl

parted-else : (lease since : Option ℕ) (has_died leaves : Bool) → (leaves ≡ true → since ≡ None)
    → ◌≡◌ {A = LeaseTrack}
    (record { lease = lease; since = since; has_died = if leaves then false else has_died })
    (if leaves then parted (record { lease = lease; since = since; has_died = has_died })
    else record { lease = lease; since = since; has_died = has_died })
parted-else lease since has_died true none =
    ap (λ (o : Option ℕ). record { lease = lease; since = o; has_died = false }) (none refl)
parted-else lease since has_died false none = refl

none-since : (since : Option ℕ) → is_some since ≡ false → since ≡ None
none-since None e = refl
none-since (Some moment) e = absurd (cc)

pub track-parted : (q : ReaderQos) (h : List Happening) (w moment v : ℕ)
    → track_of q (after_parting w moment h) v ≡ (if w == v then parted (track_of q h v) else track_of q h v)
track-parted q h w moment v = by-alive (is_alive w h) refl
  where
    by-alive : (alive : Bool) → is_alive w h ≡ alive
        → track_of q (Left w moment ∷ (if alive then Died w moment ∷ h else h)) v
        ≡ (if w == v then parted (track_of q h v) else track_of q h v)
    by-alive true is = let t = track_of q h v in parted-alive t.lease t.since t.has_died (w == v)
    by-alive false is = let t = track_of q h v in
        parted-else t.lease t.since t.has_died (w == v)
        (λ same. none-since (alive_since v h) (ap (λ (u : ℕ). is_alive u h) (sym (eqb-true w v same)) ∙ is))

-- ---- a writer that joins

-- what is known of all others stays
kept-from : (q : ReaderQos) (h : List Happening) (m : MatchedWriter) (k : ℕ) (ws : List MatchedWriter) → 0 < k
    → k + length ws ≤ length (writers_of q h) + 1
    → map (track_of q (Joined m ∷ h)) (numbered_from k ws) ≡ map (track_of q h) (numbered_from k ws)
kept-from q h m k [] low high = refl
kept-from q h m k (w ∷ ws) low high =
    ap (λ (o : Option MatchedWriter).
    (record { lease = lease_of o; since = alive_since k (Joined m ∷ h); has_died = has_died k (Joined m ∷ h) })
    ∷ map (track_of q (Joined m ∷ h)) (numbered_from (k + 1) ws))
    (kept-writer q h m k (low, omega (arith, high)))
    ∙ (ap (λ (t : LeaseTrack). t ∷ map (track_of q (Joined m ∷ h)) (numbered_from (k + 1) ws))
    (same (lease_of (writer_of (writers_of q h) k)) (alive_since k h) (has_died k h))
    ∙ ap (λ (ts : List LeaseTrack). track_of q h k ∷ ts)
    (kept-from q h m (k + 1) ws (omega (arith, low)) (omega (arith, high))))
  where
    same : (lease since : Option ℕ) (died : Bool)
        → ◌≡◌ {A = LeaseTrack} (record { lease = lease; since = or_else None since; has_died = false || died })
        (record { lease = lease; since = since; has_died = died })
    same lease since died = refl

-- nothing is known of it but its lease
newcomer-track : (q : ReaderQos) (h : List Happening) (m : MatchedWriter) → AreOfMatched q h
    → track_of q (Joined m ∷ h) (length (writers_of q h) + 1) ≡ fresh m
newcomer-track q h m matched =
    let w : ℕ = length (writers_of q h) + 1 in
    let unheard : IsUnheard w (Joined m ∷ h) = newcomer-unheard q h m matched in
    ap (λ (o : Option MatchedWriter).
    record { lease = lease_of o; since = alive_since w (Joined m ∷ h); has_died = has_died w (Joined m ∷ h) })
    (next-writer q h m)
    ∙ (ap (λ (o : Option ℕ). record { lease = m.lease; since = o; has_died = has_died w (Joined m ∷ h) }) unheard.silent
    ∙ ap (λ (b : Bool). record { lease = m.lease; since = None; has_died = b }) unheard.deathless)

pub tracks-joined : (q : ReaderQos) (h : List Happening) (m : MatchedWriter) → AreOfMatched q h
    → map (track_of q (Joined m ∷ h)) (publication_handles q (Joined m ∷ h))
    ≡ map (track_of q h) (publication_handles q h) ++ fresh m ∷ []
tracks-joined q h m matched =
    ap (λ (ns : List ℕ). map (track_of q (Joined m ∷ h)) ns) (handles-joined q h m)
    ∙ (map-append (track_of q (Joined m ∷ h)) (publication_handles q h) ((length (writers_of q h) + 1) ∷ [])
    ∙ (ap (λ (ts : List LeaseTrack). ts ++ track_of q (Joined m ∷ h) (length (writers_of q h) + 1) ∷ [])
    (kept-from q h m 1 (writers_of q h) (omega arith) (omega arith))
    ∙ ap (λ (t : LeaseTrack). map (track_of q h) (publication_handles q h) ++ t ∷ []) (newcomer-track q h m matched)))

-- ---- the tracks of all, where that of one writer alone changes

-- that of another writer stays
unchanged : (f g : ℕ → LeaseTrack) (change : LeaseTrack → LeaseTrack) (w k : ℕ)
    → ((v : ℕ) → g v ≡ (if w == v then change (f v) else f v)) → (w ≡ k → ⊥) → g k ≡ f k
unchanged f g change w k is differ =
    let other : (w == k) ≡ false = ⊎_elim
    (λ same. absurd (differ (eqb-true w k same)))
    (λ apart. apart)
    (cases_Bool (w == k)) in
    is k ∙ ap (λ (b : Bool). if b then change (f k) else f k) other

same-from : (f g : ℕ → LeaseTrack) (change : LeaseTrack → LeaseTrack) (w k : ℕ) (ws : List MatchedWriter)
    → ((v : ℕ) → g v ≡ (if w == v then change (f v) else f v)) → w < k
    → map g (numbered_from k ws) ≡ map f (numbered_from k ws)
same-from f g change w k [] is below = refl
same-from f g change w k (x ∷ ws) is below =
    ap (λ (t : LeaseTrack). t ∷ map g (numbered_from (k + 1) ws))
    (unchanged f g change w k is (λ same. omega (arith, same, below)))
    ∙ ap (λ (ts : List LeaseTrack). f k ∷ ts) (same-from f g change w (k + 1) ws is (omega (arith, below)))

pub same-number : (k : ℕ) → (k == k) ≡ true
same-number k = ⊎_elim (λ same. same) (λ differ. absurd (eqb-false k k differ refl)) (cases_Bool (k == k))

pub changed-at : (f g : ℕ → LeaseTrack) (change : LeaseTrack → LeaseTrack) (w k at : ℕ) (d : LeaseTrack)
    (ws : List MatchedWriter) → ((v : ℕ) → g v ≡ (if w == v then change (f v) else f v)) → k + at ≡ w
    → at < length ws
    → map g (numbered_from k ws)
    ≡ set (map f (numbered_from k ws)) at (change (get_or (map f (numbered_from k ws)) at d))
changed-at f g change w k at d [] is here within = absurd (omega (arith, within))
changed-at f g change w k zero d (x ∷ ws) is here within =
    let same : k ≡ w = omega (arith, here) in
    let one : (w == k) ≡ true = ap (λ (v : ℕ). w == v) same ∙ same-number w in
    ap (λ (t : LeaseTrack). t ∷ map g (numbered_from (k + 1) ws))
    (is k ∙ ap (λ (b : Bool). if b then change (f k) else f k) one)
    ∙ ap (λ (ts : List LeaseTrack). change (f k) ∷ ts)
    (same-from f g change w (k + 1) ws is (omega (arith, same)))
changed-at f g change w k (suc at) d (x ∷ ws) is here within =
    ap (λ (t : LeaseTrack). t ∷ map g (numbered_from (k + 1) ws))
    (unchanged f g change w k is (λ same. omega (arith, same, here)))
    ∙ ap (λ (ts : List LeaseTrack). f k ∷ ts)
    (changed-at f g change w (k + 1) at d ws is (omega (arith, here)) (omega (arith, within)))

-- what is known of one of them
pub track-at : (f : ℕ → LeaseTrack) (w k at : ℕ) (d : LeaseTrack) (ws : List MatchedWriter) → k + at ≡ w
    → at < length ws → get_or (map f (numbered_from k ws)) at d ≡ f w
track-at f w k at d [] here within = absurd (omega (arith, within))
track-at f w k zero d (x ∷ ws) here within = ap f (omega (arith, here))
track-at f w k (suc at) d (x ∷ ws) here within =
    track-at f w (k + 1) at d ws (omega (arith, here)) (omega (arith, within))

-- how many they are
pub track-count : (f : ℕ → LeaseTrack) (k : ℕ) (ws : List MatchedWriter)
    → length (map f (numbered_from k ws)) ≡ length ws
track-count f k [] = refl
track-count f k (x ∷ ws) = ap suc (track-count f (k + 1) ws)

-- of writers of which nothing was heard none is alive, and none died
pub fresh-counts : (ws : List MatchedWriter)
    → (0 ≡ count_by is_live_track (map fresh ws)) × (0 ≡ count_by is_dead_track (map fresh ws))
fresh-counts ws = (
  none is_live_track (λ w. refl) ws ∙ length-filter is_live_track (map fresh ws),
  none is_dead_track (λ w. refl) ws ∙ length-filter is_dead_track (map fresh ws),
)
  where
    none : (p : LeaseTrack → Bool) → ((w : MatchedWriter) → p (fresh w) ≡ false) → (vs : List MatchedWriter)
        → 0 ≡ length (filter p (map fresh vs))
    none p not_one [] = refl
    none p not_one (v ∷ vs) = none p not_one vs
        ∙ ap (λ (b : Bool). length (cond b (fresh v ∷ filter p (map fresh vs)) (filter p (map fresh vs))))
        (sym (not_one v))

-- one more of which nothing was heard changes no count
pub fresh-more : (ts : List LeaseTrack) (t : LeaseTrack) → t.since ≡ None → t.has_died ≡ false
    → (count_by is_live_track (ts ++ t ∷ []) ≡ count_by is_live_track ts)
    × (count_by is_dead_track (ts ++ t ∷ []) ≡ count_by is_dead_track ts)
fresh-more ts t silent deathless = (
  sum_by_push (λ (x : LeaseTrack). cond (is_live_track x) 1 0) ts t
      ∙ (ap (λ (o : Option ℕ). count_by is_live_track ts + cond (is_some o) 1 0) silent ∙ none (count_by is_live_track ts)),
  sum_by_push (λ (x : LeaseTrack). cond (is_dead_track x) 1 0) ts t
      ∙ (ap (λ (b : Bool). count_by is_dead_track ts + cond (b && not (is_some t.since)) 1 0) deathless
      ∙ none (count_by is_dead_track ts)),
)
  where
    none : (n : ℕ) → n + 0 ≡ n
    none n = omega arith
