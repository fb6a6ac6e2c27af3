-- What is kept stands for what happened, after one more entry.
use Rattle.std.proofs.Common.{◌≡◌, ℕ, ◌+◌, ◌-◌, ◌<◌, ◌≤◌, List, [], ◌∷◌, ◌++◌, length, get_or, set, map, Bool, true, false, not, ◌==◌, ◌&&◌, ◌||◌, cond, sym, subst, ap, ◌∙◌, refl, Option, Some, None, arith}
use Rattle.std.proofs.lemmas.List.Sums.{sum_by-set}
use Rattle.std.specs.Prelude.{if◌then◌else◌, count_by, is_some, nat_lt, find}
use Rattle.dds_base.specs.declared.happening.Arrival.{Arrival}
use Rattle.dds_base.specs.declared.happening.Happening.{Happening}
use Rattle.dds_base.specs.declared.happening.Happening.TheVariants.{Came, Heard, Died, Left, Joined}
use Rattle.dds_base.specs.declared.qos.MatchedWriter.{MatchedWriter}
use Rattle.dds_base.specs.declared.qos.ReaderQos.{ReaderQos}
use Rattle.dds_base.specs.Liveliness.{after_parting, alive_since, dead_at, has_died, is_alive, is_dead, last_turned}
use Rattle.dds_base.specs.Life.{or_else}
use Rattle.dds_base.specs.Ownership.{IsMatched, joined_in, numbered_from, publication_handles, writers_of}
use Rattle.dds_base.proofs.JoinLaws.{joined-parted, of_matched-parted}
use Rattle.dds_lease.specs.declared.track.LeaseTrack.{LeaseTrack}
use Rattle.dds_lease.specs.Standing.{Kept, StandsFor}
use Rattle.dds_base.specs.Written.{is_over}
use Rattle.dds_lease.specs.Track.{first_over, fresh, is_dead_track, is_live_track, track_of}
use Rattle.dds_lease.proofs.TrackLaws.{asserted, buried, changed-at, parted, same-number, track-at, track-came, track-count, track-died, track-heard, track-parted, tracks-joined}
use Rattle.dds_lease.specs.Overdue.{is_over_at}
use Rattle.dds_lease.proofs.FindingLaws.{first-dead}

pub matched-count : (kept : Kept) (q : ReaderQos) (h : List Happening) → StandsFor kept q h
    → length kept.tracks ≡ length (writers_of q h)
matched-count kept q h given =
    ap (λ (ts : List LeaseTrack). length ts) given.tracks ∙ track-count (track_of q h) 1 (writers_of q h)

-- a matched writer is among those of which something is kept
pub within : (kept seen : Kept) (w n : ℕ) → seen ≡ kept → (0 < w) × (w ≤ length kept.tracks) → n ≡ w
    → n - 1 < length seen.tracks
within kept seen w n same matched number =
    let count = ap (λ (k : Kept). length k.tracks) same in omega (arith, count, matched.0, matched.1, number)

-- so it is matched
pub counted-matched : (kept : Kept) (q : ReaderQos) (h : List Happening) (w : ℕ) → StandsFor kept q h
    → (0 < w) × (w ≤ length kept.tracks) → IsMatched q h w
counted-matched kept q h w given counted =
    let count = matched-count kept q h given in (counted.0, omega (arith, count, counted.1))

is-matched : (kept : Kept) (q : ReaderQos) (h : List Happening) (w at : ℕ) → StandsFor kept q h → 1 + at ≡ w
    → at < length kept.tracks → IsMatched q h w
is-matched kept q h w at given here within =
    let count = matched-count kept q h given in (omega (arith, here), omega (arith, here, within, count))

-- what is kept of one writer
pub kept-track : (kept : Kept) (q : ReaderQos) (h : List Happening) (w at : ℕ) (d : LeaseTrack) → StandsFor kept q h
    → 1 + at ≡ w → at < length kept.tracks → get_or kept.tracks at d ≡ track_of q h w
kept-track kept q h w at d given here within =
    let count = matched-count kept q h given in
    ap (λ (ts : List LeaseTrack). get_or ts at d) given.tracks
    ∙ track-at (track_of q h) w 1 at d (writers_of q h) here (omega (arith, count, within))

-- the tracks once more has happened, where that changes the track of one writer
one-changed : (kept : Kept) (q : ReaderQos) (h after : List Happening) (change : LeaseTrack → LeaseTrack)
    (w at : ℕ) (d : LeaseTrack) (tracks : List LeaseTrack)
    → joined_in after ≡ joined_in h
    → ((v : ℕ) → track_of q after v ≡ (if w == v then change (track_of q h v) else track_of q h v))
    → StandsFor kept q h → 1 + at ≡ w → at < length kept.tracks
    → tracks ≡ set kept.tracks at (change (get_or kept.tracks at d))
    → tracks ≡ map (track_of q after) (publication_handles q after)
one-changed kept q h after change w at d tracks same is given here within put =
    let count = matched-count kept q h given in
    put
    ∙ (ap (λ (ts : List LeaseTrack). set ts at (change (get_or ts at d))) given.tracks
    ∙ (sym (changed-at (track_of q h) (track_of q after) change w 1 at d (writers_of q h) is here
    (omega (arith, count, within)))
    ∙ ap (λ (ws : List MatchedWriter). map (track_of q after) (numbered_from 1 (q.writers ++ ws))) (sym same)))

-- the writer that last changed a count, after an assertion
turned : (is_alive : Bool) (w before last : ℕ) → last ≡ (if is_alive then before else w)
    → last ≡ (if not is_alive then w else before)
turned true w before last is = is
turned false w before last is = is

-- an assertion was taken up: of a writer that was alive, or not
pub record Asserts (kept new : Kept) (at : ℕ) (moment : ℕ) (track : LeaseTrack) : Type 0 where
  pub within : at < length kept.tracks
  pub is : track ≡ get_or kept.tracks at track
  pub tracks : new.tracks ≡ set kept.tracks at (asserted moment track)
  pub last : new.last_turned ≡ (if is_some track.since then kept.last_turned else 1 + at)

since-of : (kept : Kept) (q : ReaderQos) (h : List Happening) (at w : ℕ) (track : LeaseTrack) → StandsFor kept q h
    → at < length kept.tracks → track ≡ get_or kept.tracks at track → 1 + at ≡ w → track.since ≡ alive_since w h
since-of kept q h at w track given within is here =
    ap (λ (t : LeaseTrack). t.since) (is ∙ kept-track kept q h w at track given here within)

asserts-last : (kept new : Kept) (q : ReaderQos) (h : List Happening) (at w moment : ℕ) (track : LeaseTrack)
    → StandsFor kept q h → Asserts kept new at moment track → 1 + at ≡ w
    → new.last_turned ≡ (if not (is_alive w h) then w else last_turned h)
asserts-last kept new q h at w moment track given put here =
    turned (is_alive w h) w (last_turned h) new.last_turned
    (put.last
    ∙ (ap (λ (o : Option ℕ). if is_some o then kept.last_turned else 1 + at)
    (since-of kept q h at w track given put.within put.is here)
    ∙ (ap (λ (n : ℕ). if is_alive w h then n else 1 + at) given.last_turned
    ∙ ap (λ (n : ℕ). if is_alive w h then last_turned h else n) here)))

put-track : (kept : Kept) (at : ℕ) (track : LeaseTrack) (change : LeaseTrack → LeaseTrack) (tracks : List LeaseTrack)
    → track ≡ get_or kept.tracks at track → tracks ≡ set kept.tracks at (change track)
    → tracks ≡ set kept.tracks at (change (get_or kept.tracks at track))
put-track kept at track change tracks is put =
    put ∙ ap (λ (t : LeaseTrack). set kept.tracks at (change t)) is

pub came-stands : (kept new : Kept) (q : ReaderQos) (h : List Happening) (a : Arrival) (moment at : ℕ)
    (track : LeaseTrack)
    → StandsFor kept q h → Asserts kept new at moment track → 1 + at ≡ a.writer → a.moment ≡ moment
    → StandsFor new q (Came a ∷ h)
came-stands kept new q h a moment at track given put here same =
    let asserts : Asserts kept new at a.moment track = subst (λ (m : ℕ). Asserts kept new at m track) (sym same) put in
    record {
      tracks = one-changed kept q h (Came a ∷ h) (asserted a.moment) a.writer at track new.tracks refl
          (λ v. track-came q h a v) given here put.within
          (put-track kept at track (asserted a.moment) new.tracks put.is asserts.tracks);
      last_turned = asserts-last kept new q h at a.writer moment track given put here;
      matched = (is-matched kept q h a.writer at given here put.within, given.matched);
    }

pub heard-stands : (kept new : Kept) (q : ReaderQos) (h : List Happening) (w moment at : ℕ) (track : LeaseTrack)
    → StandsFor kept q h → Asserts kept new at moment track → 1 + at ≡ w → StandsFor new q (Heard w moment ∷ h)
heard-stands kept new q h w moment at track given put here = record {
  tracks = one-changed kept q h (Heard w moment ∷ h) (asserted moment) w at track new.tracks refl
      (λ v. track-heard q h w moment v) given here put.within
      (put-track kept at track (asserted moment) new.tracks put.is put.tracks);
  last_turned = asserts-last kept new q h at w moment track given put here;
  matched = (is-matched kept q h w at given here put.within, given.matched);
}

-- the death of a writer that was alive
pub died-stands : (kept new : Kept) (q : ReaderQos) (h : List Happening) (w moment at : ℕ) (track : LeaseTrack)
    → StandsFor kept q h → 1 + at ≡ w → at < length kept.tracks → track ≡ get_or kept.tracks at track
    → is_some track.since ≡ true → new.tracks ≡ set kept.tracks at (buried track) → new.last_turned ≡ w
    → StandsFor new q (Died w moment ∷ h)
died-stands kept new q h w moment at track given here within is alive put last = record {
  tracks = one-changed kept q h (Died w moment ∷ h) buried w at track new.tracks refl
      (λ v. track-died q h w moment v) given here within (put-track kept at track buried new.tracks is put);
  last_turned = last ∙ sym (turns (has_died w h) (is_alive w h)
      (ap (λ (o : Option ℕ). is_some o) (sym (since-of kept q h at w track given within is here)) ∙ alive));
  matched = (is-matched kept q h w at given here within, given.matched);
}
  where
    turns : (died alive : Bool) → alive ≡ true → (if not (died && not alive) then w else last_turned h) ≡ w
    turns true alive e = ap (λ (b : Bool). if not (true && not b) then w else last_turned h) e
    turns false alive e = refl

-- who changed a count last, once a writer left
last-parted : (w moment : ℕ) (h : List Happening)
    → last_turned (after_parting w moment h) ≡ (if is_alive w h || has_died w h then w else last_turned h)
last-parted w moment h = by-alive (is_alive w h) refl
  where
    -- it died with this entry or before, and is alive no more
    by-death : (same died : Bool) (since : Option ℕ) (before : ℕ) → same ≡ true
        → (if (same || died) && not (is_some (if same then None else or_else None since)) then w else before) ≡ w
    by-death true died since before e = refl
    by-death false died since before e = absurd (cc)

    by-alive : (alive : Bool) → is_alive w h ≡ alive
        → last_turned (Left w moment ∷ (if alive then Died w moment ∷ h else h))
        ≡ (if alive || has_died w h then w else last_turned h)
    by-alive true is = by-death (w == w) (has_died w h) (alive_since w h) (last_turned (Died w moment ∷ h)) (same-number w)
    by-alive false is = ap (λ (b : Bool). if b then w else last_turned h) (still (has_died w h) (is_alive w h) is)
      where
        still : (died alive : Bool) → alive ≡ false → (died && not alive) ≡ died
        still true alive e = ap not e
        still false alive e = refl

-- the parting of a writer, be it alive or not
pub parted-stands : (kept new : Kept) (q : ReaderQos) (h : List Happening) (w moment at : ℕ) (track : LeaseTrack)
    → StandsFor kept q h → 1 + at ≡ w → at < length kept.tracks → track ≡ get_or kept.tracks at track
    → new.tracks ≡ set kept.tracks at (parted track)
    → new.last_turned ≡ (if is_some track.since || track.has_died then w else kept.last_turned)
    → StandsFor new q (after_parting w moment h)
parted-stands kept new q h w moment at track given here within is put last = record {
  tracks = one-changed kept q h (after_parting w moment h) parted w at track new.tracks
      (joined-parted w moment h)
      (λ v. track-parted q h w moment v) given here within (put-track kept at track parted new.tracks is put);
  last_turned = last
      ∙ (ap (λ (t : LeaseTrack). if is_some t.since || t.has_died then w else kept.last_turned)
      (is ∙ kept-track kept q h w at track given here within)
      ∙ (ap (λ (n : ℕ). if is_alive w h || has_died w h then w else n) given.last_turned
      ∙ sym (last-parted w moment h)));
  matched = of_matched-parted q w moment h (is-matched kept q h w at given here within) given.matched;
}

-- one more writer was matched
pub joined-stands : (kept new : Kept) (q : ReaderQos) (h : List Happening) (m : MatchedWriter) → StandsFor kept q h
    → new.tracks ≡ kept.tracks ++ fresh m ∷ [] → new.last_turned ≡ kept.last_turned → StandsFor new q (Joined m ∷ h)
joined-stands kept new q h m given put last = record {
  tracks = put ∙ (ap (λ (ts : List LeaseTrack). ts ++ fresh m ∷ []) given.tracks
      ∙ sym (tracks-joined q h m given.matched));
  last_turned = last ∙ given.last_turned;
  matched = (tt, given.matched);
}

-- whether a count changes with it
pub parted-turns : (kept : Kept) (q : ReaderQos) (h : List Happening) (w at : ℕ) (track : LeaseTrack)
    → StandsFor kept q h → 1 + at ≡ w → at < length kept.tracks → track ≡ get_or kept.tracks at track
    → (is_some track.since || track.has_died) ≡ (is_alive w h || is_dead w h)
parted-turns kept q h w at track given here within is =
    ap (λ (t : LeaseTrack). is_some t.since || t.has_died) (is ∙ kept-track kept q h w at track given here within)
    ∙ either (is_alive w h) (has_died w h)
  where
    either : (alive died : Bool) → (alive || died) ≡ (alive || (died && not alive))
    either true died = refl
    either false true = refl
    either false false = refl

-- what is found among the tracks is the first of those that die
pub found-first : (kept : Kept) (q : ReaderQos) (h : List Happening) (now after : ℕ) → StandsFor kept q h
    → first_over after now 1 kept.tracks ≡ find (nat_lt after) (dead_at q now h)
found-first kept q h now after given =
    ap (λ (ts : List LeaseTrack). first_over after now 1 ts) given.tracks
    ∙ sym (first-dead q now after 1 h (writers_of q h))

-- the same, seen as it is kept
pub stands-as : (kept seen : Kept) (q : ReaderQos) (h : List Happening) → seen ≡ kept → StandsFor kept q h
    → StandsFor seen q h
stands-as kept seen q h same given = subst (λ (k : Kept). StandsFor k q h) (sym same) given

-- a lease that is over is that of a writer that is alive
pub over-live : (lease since : Option ℕ) (now : ℕ) → is_over lease since now ≡ true → is_some since ≡ true
over-live lease (Some since) now over = refl
over-live None None now over = absurd (cc)
over-live (Some lease) None now over = absurd (cc)

-- how many are alive, and not alive, once one of those that were alive died
pub buried-counts : (ts : List LeaseTrack) (at : ℕ) (track : LeaseTrack) → at < length ts
    → track ≡ get_or ts at track → is_some track.since ≡ true
    → (count_by is_live_track ts ≡ count_by is_live_track (set ts at (buried track)) + 1)
    × (count_by is_dead_track (set ts at (buried track)) ≡ count_by is_dead_track ts + 1)
buried-counts ts at track within is alive =
    let live = sum_by-set (λ (t : LeaseTrack). cond (is_live_track t) 1 0) ts at (buried track) track within in
    let dead = sum_by-set (λ (t : LeaseTrack). cond (is_dead_track t) 1 0) ts at (buried track) track within in
    let was_live : ◌≡◌ {A = ℕ} (cond (is_live_track (get_or ts at track)) 1 0) 1 =
    ap (λ (t : LeaseTrack). cond (is_live_track t) 1 0) (sym is) ∙ ap (λ (b : Bool). cond b 1 0) alive in
    let was_dead : ◌≡◌ {A = ℕ} (cond (is_dead_track (get_or ts at track)) 1 0) 0 =
    ap (λ (t : LeaseTrack). cond (is_dead_track t) 1 0) (sym is) ∙ none track.has_died (is_some track.since) alive in
    (omega (arith, live, was_live), omega (arith, dead, was_dead))
  where
    none : (died live : Bool) → live ≡ true → ◌≡◌ {A = ℕ} (cond (died && not live) 1 0) 0
    none true live e = ap (λ (b : Bool). cond (not b) 1 0) e
    none false live e = refl

-- how many leases are over, once the writer of one of them died
pub buried-overdue : (ts : List LeaseTrack) (at now : ℕ) (track : LeaseTrack) → at < length ts
    → track ≡ get_or ts at track → is_over_at now track ≡ true
    → count_by (is_over_at now) (set ts at (buried track)) + 1 ≡ count_by (is_over_at now) ts
buried-overdue ts at now track within is over =
    let count = sum_by-set (λ (t : LeaseTrack). cond (is_over_at now t) 1 0) ts at (buried track) track within in
    let was : ◌≡◌ {A = ℕ} (cond (is_over_at now (get_or ts at track)) 1 0) 1 =
    ap (λ (t : LeaseTrack). cond (is_over_at now t) 1 0) (sym is) ∙ ap (λ (b : Bool). cond b 1 0) over in
    let no_longer : ◌≡◌ {A = ℕ} (cond (is_over_at now (buried track)) 1 0) 0 =
    ap (λ (b : Bool). cond b 1 0) (never track.lease) in
    omega (arith, count, was, no_longer)
  where
    never : (lease : Option ℕ) → is_over lease None now ≡ false
    never (Some lease) = refl
    never None = refl
