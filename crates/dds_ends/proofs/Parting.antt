-- A reader of the peer is told of a writer that it knows: it stands for the reader of the machine that is told the same.
use Rattle.std.proofs.Common.{◌≡◌, ◌⊎◌, ℕ, suc, ◌+◌, ◌-◌, ◌^◌, ◌<◌, ◌≤◌, Bool, true, false, ◌&&◌, ◌||◌, not, List, [], ◌∷◌, ◌++◌, Option, Some, None, length, slice_get, refl, ap, sym, ◌∙◌, subst, arith, inl, inr, ⊎_elim, eq-eqb}
use Rattle.std.specs.Prelude.{is_some, if◌then◌else◌, Result, Ok, Err, OnOk, OnErr}
use Rattle.std.specs.Option.{option_map, option_map_or}
use Rattle.std.proofs.lemmas.Option.{same_Some}
use Rattle.dds_base.specs.declared.happening.Happening.{Happening}
use Rattle.dds_base.specs.declared.happening.Happening.TheVariants.{Died, Left}
use Rattle.dds_base.specs.Life.{or_else}
use Rattle.dds_base.specs.Liveliness.{after_parting, alive_since, assertion_of, has_died, is_alive, is_dead}
use Rattle.dds_base.specs.StatusFlags.{turned_at}
use Rattle.dds_base.specs.Statuses.{lost_count}
use Rattle.dds_base.specs.declared.qos.ReaderQos.{ReaderQos}
use Rattle.dds_cache.specs.Standing.{qos_of, StandsFor as CacheStandsFor}
use Rattle.dds_lease.specs.Standing.{StandsFor as LeasesStandFor}
use Rattle.rtps_reader.specs.declared.attachment.Attachment.{Attachment as AttachmentOf}
use Rattle.rtps_reader.specs.declared.attachment.Attachment.TheVariants as standing
use Rattle.rtps_reader.specs.Attached.{StandsNow}
use Rattle.rtps_reader.specs.Reader.{Proxies, how_at}
use Rattle.rtps_reader.specs.Tracked.{Tracked}
use Rattle.dds_base.specs.declared.endpoint.Endpoint.{Endpoint}
use Rattle.dds_machine.specs.Matching.{attached_count, happened_after, is_known, match_ended, match_made, max_known, reader_joined, reader_left, with_how}
use Rattle.dds_machine.specs.Part.{Attachment, Away, Waiting, Matches, Reader, WriterProxy, how_of, is_attached, publication_among, row_of}
use Rattle.dds_machine.specs.Passing.{passed_at}
use Rattle.dds_machine.proofs.Tables.{place-how, row-cases, row-hits}
use Rattle.dds_protocol.proofs.Framing.{pair_or_not}
use Rattle.dds_ends.specs.declared.matching.WriterName.{WriterName}
use Rattle.dds_ends.specs.declared.match_counts.MatchCounts.{MatchCounts}
use Rattle.dds_ends.specs.MatchCounts.{CountsFor}
use Rattle.dds_ends.specs.Kept.{ReaderKept}
use Rattle.dds_ends.specs.Parting.{Attaches, Detaches, IsPastParting, joined_here, left_here, parting_entries}
use Rattle.dds_ends.specs.Standing.{IsFirstRow, ReaderStands, stood_as}
use Rattle.dds_ends.specs.Stored.{StoreKept}
use Rattle.dds_ends.specs.Storing.{Holds}
use Rattle.dds_ends.proofs.Attachments.{count_few, count_set, one_if}
use Rattle.dds_ends.proofs.Identities.{same_identity}
use Rattle.dds_ends.proofs.Rows.{IsFirstOf, handle_is, is_first_of, one_first, place_there, proxied, writers_kept}

-- ---- at what a reader stores

-- by a parting nothing is lost
pub lost_stays : (alive : Bool) (w now : ℕ) (h : List Happening)
    → lost_count (Left w now ∷ (if alive then Died w now ∷ h else h)) ≡ lost_count h
lost_stays true w now h = refl
lost_stays false w now h = refl

-- and nothing passed over
pub passed_stays : (alive : Bool) (w now : ℕ) (h : List Happening)
    → passed_at (Left w now ∷ (if alive then Died w now ∷ h else h)) ≡ passed_at h
passed_stays true w now h = refl
passed_stays false w now h = refl

-- it changes how many are alive, or not alive, where the writer was either
pub turned_by : (alive : Bool) (w now : ℕ) (h : List Happening)
    → (if alive || is_dead w h then Some (length (Left w now ∷ (if alive then Died w now ∷ h else h))) else turned_at h)
    ≡ turned_at (Left w now ∷ (if alive then Died w now ∷ h else h))
turned_by true w now h =
    ap Some (next (suc (length h)))
    ∙ sym (ap (λ (b : Bool). if (b || has_died w h)
    && not (is_some (if b then None else or_else (assertion_of w (Died w now)) (alive_since w h)))
    then Some (length (Died w now ∷ h) + 1) else turned_at (Died w now ∷ h)) (eq-eqb w w refl))
  where
    next : (n : ℕ) → suc n ≡ n + 1
    next n = omega arith
turned_by false w now h = ap (λ (n : ℕ). if is_dead w h then Some n else turned_at h) (next (length h))
  where
    next : (n : ℕ) → suc n ≡ n + 1
    next n = omega arith

-- how many entries it makes
pub parting_length : (alive : Bool) (w now : ℕ) (h : List Happening)
    → length (Left w now ∷ (if alive then Died w now ∷ h else h)) ≡ length h + parting_entries alive
parting_length true w now h = omega arith
parting_length false w now h = omega arith

-- a writer left, by what its cache, its leases and the store say
pub left_holds : (old new : StoreKept) (w now : ℕ) (alive turns : Bool) (h : List Happening) → Holds old h
    → alive ≡ is_alive w h → CacheStandsFor new.cache (Left w now ∷ (if alive then Died w now ∷ h else h))
    → LeasesStandFor new.leases (qos_of old.cache) (after_parting w now h) → qos_of new.cache ≡ qos_of old.cache
    → turns ≡ (is_alive w h || is_dead w h) → new.lost ≡ old.lost → new.passed ≡ old.passed
    → new.turned ≡ (if turns then Some (length (Left w now ∷ (if alive then Died w now ∷ h else h))) else old.turned)
    → Holds new (after_parting w now h)
left_holds old new w now alive turns h s is cache leases qos turned lost passed at = record {
  cache =
      subst (λ (b : Bool). CacheStandsFor new.cache (Left w now ∷ (if b then Died w now ∷ h else h))) is cache;
  leases = subst (λ (q : ReaderQos). LeasesStandFor new.leases q (after_parting w now h)) (sym qos) leases;
  lost_is = lost ∙ (s.lost_is ∙ sym (lost_stays (is_alive w h) w now h));
  passed_is = passed ∙ (s.passed_is ∙ sym (passed_stays (is_alive w h) w now h));
  turned_is =
      at
      ∙ (ap (λ (b : Bool).
      if b then Some (length (Left w now ∷ (if alive then Died w now ∷ h else h))) else old.turned) turned
      ∙ (ap (λ (b : Bool). if is_alive w h || is_dead w h
      then Some (length (Left w now ∷ (if b then Died w now ∷ h else h))) else old.turned) is
      ∙ (ap (λ (o : Option ℕ). if is_alive w h || is_dead w h
      then Some (length (Left w now ∷ (if is_alive w h then Died w now ∷ h else h))) else o) s.turned_is
      ∙ turned_by (is_alive w h) w now h)));
}

-- ---- at the reader

set_how : (how : Attachment) (o : Option WriterProxy) → is_some o ≡ true
    → option_map_or (λ (p : WriterProxy). p.how) (option_map (λ (p : WriterProxy). record p { how = how }) o) Away ≡ how
set_how how None h = absurd (let clash : false ≡ true = h in cc)
set_how how (Some p) h = refl

-- the writer of a row is known
pub known_there : (proxies : List WriterProxy) (e : Endpoint) (k : ℕ) → IsFirstOf (proxied proxies) e k
    → is_known proxies e ≡ true
known_there proxies e k first =
    let there = place_there proxies e k first in
    by_place (row_of (λ (p : WriterProxy). p.writer) proxies e) there.0 there.1
  where
    by_place : (o : Option WriterProxy) (n : ℕ) → option_map (λ (p : WriterProxy). p.place) o ≡ Some n
        → is_some o ≡ true
    by_place None n h = absurd (let clash : ◌≡◌ {A = Option ℕ} None (Some n) = h in cc)
    by_place (Some p) n h = refl

-- the reader stands so to that writer now, and to any other as before
how_here : (proxies : List WriterProxy) (e : Endpoint) (how : Attachment) → is_known proxies e ≡ true
    → how_of (with_how proxies e how) e ≡ how
how_here proxies e how known =
    ap (λ (o : Option WriterProxy). option_map_or (λ (p : WriterProxy). p.how) o Away)
    (row-hits (λ (p : WriterProxy). p.writer) (λ (p : WriterProxy). record p { how = how }) (λ p. refl) proxies e)
    ∙ set_how how (row_of (λ (p : WriterProxy). p.writer) proxies e) known

how_elsewhere : (proxies : List WriterProxy) (e : Endpoint) (how : Attachment) (w : Endpoint) → (w ≡ e → ⊥)
    → how_of (with_how proxies e how) w ≡ how_of proxies w
how_elsewhere proxies e how w apart =
    ⊎_elim (λ x. ap (λ (o : Option WriterProxy). option_map_or (λ (p : WriterProxy). p.how) o Away) x)
    (λ x. absurd (apart x.0))
    (row-cases (λ (p : WriterProxy). p.writer) (λ (p : WriterProxy). record p { how = how }) (λ p. refl) proxies e w)

pub first_among : (kept : ReaderKept) (proxies : List WriterProxy) (r : Reader) (tracked : Endpoint → Tracked)
    (writer : Endpoint) (row : ℕ) → ReaderStands kept proxies r tracked → IsFirstRow kept.writers writer row
    → IsFirstOf (proxied proxies) writer row
first_among kept proxies r tracked writer row s first =
    subst (λ (es : List Endpoint). IsFirstOf es writer row) (sym s.writers_are)
    (is_first_of kept.writers writer row first)

-- a reader that stands so to the writer of a row now, with what happened there, and its matches
told_how : (kept : ReaderKept) (row : ℕ) (a : AttachmentOf) (reader : Proxies) (store : StoreKept)
    (matches : MatchCounts) (here : ℕ)
    → StandsNow kept.reader row a reader → qos_of store.cache ≡ qos_of kept.store.cache → (writer : Endpoint)
    (proxies : List WriterProxy) (r after : Reader) (tracked : Endpoint → Tracked) → IsFirstRow kept.writers writer row
    → ReaderStands kept proxies r tracked → after.qos ≡ r.qos → after.seen ≡ r.seen → Holds store after.happened
    → CountsFor matches after.matches → here ≡ attached_count (with_how proxies writer (stood_as a))
    → ReaderStands (record kept { reader = reader; store = store; matches = matches; here = here })
    (with_how proxies writer (stood_as a)) after tracked
told_how kept row a reader store matches here now qos writer proxies r after tracked first s same_qos same_seen holds
    counts here_is = record {
      writers_are =
          writers_kept (λ (p : WriterProxy). record p { how = stood_as a }) (λ p. refl) proxies writer ∙ s.writers_are;
      places = λ w p at. s.places w p (sym (place-how proxies writer (stood_as a) w) ∙ at);
      knows = λ w k f. now.known k (tracked w) (s.knows w k f);
      others = s.others;
      qos_is = same_qos ∙ (s.qos_is ∙ sym qos);
      holds = holds;
      seen_is = same_seen ∙ s.seen_is;
      hows = λ w k f. by_how w k f (pair_or_not w 0 writer 0);
      counts = counts;
      here_is = here_is;
    }
  where
    known : is_known proxies writer ≡ true
    known = known_there proxies writer row (first_among kept proxies r tracked writer row s first)

    other_row : (w : Endpoint) (k : ℕ) → IsFirstRow kept.writers w k → k ≡ row → w ≡ writer
    other_row w k f e =
        let names : f.name ≡ first.name =
        same_Some f.name first.name (sym f.at ∙ (ap (λ (n : ℕ). slice_get kept.writers n) e ∙ first.at)) in
        sym f.is ∙ (ap (λ (x : WriterName). x.writer) names ∙ first.is)

    by_how : (w : Endpoint) (k : ℕ) → IsFirstRow kept.writers w k
        → ((w ≡ writer) × ◌≡◌ {A = ℕ} 0 0) ⊎ ((w ≡ writer) × ◌≡◌ {A = ℕ} 0 0 → ⊥)
        → how_of (with_how proxies writer (stood_as a)) w ≡ stood_as (how_at reader k)
    by_how w k f (inl e) =
        let same : k ≡ row =
        one_first kept.writers writer k row (subst (λ (x : Endpoint). IsFirstRow kept.writers x k) e.0 f) first in
        ap (λ (x : Endpoint). how_of (with_how proxies writer (stood_as a)) x) e.0
        ∙ (how_here proxies writer (stood_as a) known
        ∙ ap (λ (x : AttachmentOf). stood_as x) (sym (ap (λ (n : ℕ). how_at reader n) same ∙ now.here)))
    by_how w k f (inr n) =
        how_elsewhere proxies writer (stood_as a) w (λ e. n (e, refl))
        ∙ (s.hows w k f
        ∙ ap (λ (x : AttachmentOf). stood_as x) (sym (now.others k (λ e. n (other_row w k f e, refl)))))

-- the reader is matched with the writer of this row so, as it is kept
abbrev pub IsMatchedSo : ReaderKept → ℕ → Bool → Type 0
IsMatchedSo kept row met = (writer : Endpoint) (proxies : List WriterProxy) (r : Reader) (tracked : Endpoint → Tracked)
    → IsFirstRow kept.writers writer row → ReaderStands kept proxies r tracked → met ≡ is_attached (how_of proxies writer)

count_joined : (met : Bool) (here old new : ℕ) → here ≡ old → new + one_if met ≡ old + 1 → new ≤ max_known
    → joined_here met here ≡ new
count_joined true here old new is h few = omega (arith, is, h)
count_joined false here old new is h few = omega (arith, is, h, few)

count_left : (met : Bool) (here old new : ℕ) → here ≡ old → new + one_if met ≡ old + 0 → left_here met here ≡ new
count_left true here old new is h = omega (arith, is, h)
count_left false here old new is h = omega (arith, is, h)

-- the name of the writer of the row
name_there : (names : List WriterName) (row : ℕ) (writer : Endpoint) (n : WriterName) → IsFirstRow names writer row
    → slice_get names row ≡ Some n → n.writer ≡ writer
name_there names row writer n first at =
    ap (λ (x : WriterName). x.writer) (same_Some n first.name (sym at ∙ first.at)) ∙ first.is

-- it is matched with the writer
pub attaches : (kept : ReaderKept) (row : ℕ) (reader : Proxies) (name : WriterName) (met : Bool) (matches : MatchCounts)
    → StandsNow kept.reader row standing.Waiting reader → length kept.writers ≤ max_known
    → slice_get kept.writers row ≡ Some name → IsMatchedSo kept row met
    → ((m : Matches) → CountsFor kept.matches m → CountsFor matches (match_made m name.writer))
    → Attaches kept row (record kept { reader = reader; matches = matches; here = joined_here met kept.here })
attaches kept row reader name met matches now few at is made = record {
  same = refl;
  stands = λ writer proxies r tracked first s.
      let known : is_known proxies writer ≡ true =
      known_there proxies writer row (first_among kept proxies r tracked writer row s first) in
      let begins = first_among kept proxies r tracked writer row s first in
      let rows = with_how proxies writer Waiting in
      let now_few : attached_count rows ≤ length kept.writers =
      count_few rows kept.writers
      (writers_kept (λ (p : WriterProxy). record p { how = Waiting }) (λ p. refl) proxies writer ∙ s.writers_are) in
      let counted : attached_count (with_how proxies writer Waiting) + one_if (is_attached (how_of proxies writer))
      ≡ attached_count proxies + 1 =
      count_set (λ (p : WriterProxy). record p { how = Waiting }) true (λ p. refl) proxies writer row begins in
      subst (λ (rows : List WriterProxy). ReaderStands
      (record kept { reader = reader; matches = matches; here = joined_here met kept.here }) rows
      (reader_joined r writer) tracked)
      (sym (ap (λ (b : Bool). if b then with_how proxies writer Waiting
      else proxies ++ record { writer = writer; place = 1; heard = None; how = Waiting } ∷ []) known))
      (told_how kept row standing.Waiting reader kept.store matches (joined_here met kept.here) now refl writer proxies
      r (reader_joined r writer) tracked first s refl refl s.holds
      (subst (λ (e : Endpoint). CountsFor matches (match_made r.matches e))
      (name_there kept.writers row writer name first at) (made r.matches s.counts))
      (count_joined met kept.here (attached_count proxies) (attached_count (with_how proxies writer Waiting)) s.here_is
      (ap (λ (b : Bool). attached_count (with_how proxies writer Waiting) + one_if b)
      (is writer proxies r tracked first s) ∙ counted) (omega (arith, now_few, few))));
}

-- what happened there once the writer of the row left
parted_there : (kept : ReaderKept) (row now : ℕ) (writer : Endpoint) (proxies : List WriterProxy) (r : Reader)
    (tracked : Endpoint → Tracked) → IsFirstRow kept.writers writer row → ReaderStands kept proxies r tracked
    → happened_after (publication_among proxies writer) now r.happened ≡ after_parting (row + 1) now r.happened
parted_there kept row now writer proxies r tracked first s =
    ap (λ (o : Option ℕ). happened_after o now r.happened)
    (handle_is proxies writer row (first_among kept proxies r tracked writer row s first))

-- it is matched with the writer no longer
pub detaches : (kept : ReaderKept) (row now : ℕ) (reader : Proxies) (store : StoreKept) (name : WriterName)
    (met : Bool) (matches : MatchCounts) → StandsNow kept.reader row standing.Away reader → qos_of store.cache ≡ qos_of kept.store.cache
    → ((h : List Happening) → Holds kept.store h → Holds store (after_parting (row + 1) now h))
    → slice_get kept.writers row ≡ Some name → IsMatchedSo kept row met
    → ((m : Matches) → CountsFor kept.matches m → CountsFor matches (match_ended m name.writer))
    → Detaches kept row now
    (record kept { reader = reader; store = store; matches = matches; here = left_here met kept.here })
detaches kept row now reader store name met matches stands qos left at is ended = record {
  same =
      same_identity
      (record kept { reader = reader; store = store; matches = matches; here = left_here met kept.here }) kept refl
      refl qos;
  stands = λ writer proxies r tracked first s.
      let happened = happened_after (publication_among proxies writer) now r.happened in
      let counted : attached_count (with_how proxies writer Away) + one_if (is_attached (how_of proxies writer))
      ≡ attached_count proxies + 0 =
      count_set (λ (p : WriterProxy). record p { how = Away }) false (λ p. refl) proxies writer row
      (first_among kept proxies r tracked writer row s first) in
      told_how kept row standing.Away reader store matches (left_here met kept.here) stands qos writer proxies r
      (reader_left r writer happened) tracked first s refl refl
      (subst (λ (h : List Happening). Holds store h)
      (sym (parted_there kept row now writer proxies r tracked first s)) (left r.happened s.holds))
      (subst (λ (e : Endpoint). CountsFor matches (match_ended r.matches e))
      (name_there kept.writers row writer name first at) (ended r.matches s.counts))
      (count_left met kept.here (attached_count proxies) (attached_count (with_how proxies writer Away)) s.here_is
      (ap (λ (b : Bool). attached_count (with_how proxies writer Away) + one_if b)
      (is writer proxies r tracked first s) ∙ counted));
}

-- where more would have happened than can be counted
pub past_parting : (kept : ReaderKept) (row now : ℕ)
    → ((h : List Happening) → Holds kept.store h → 2 ^ 64 - 1 < length (after_parting (row + 1) now h))
    → IsPastParting kept row now
past_parting kept row now past writer proxies r tracked first s =
    subst (λ (h : List Happening). 2 ^ 64 - 1 < length h)
    (sym (parted_there kept row now writer proxies r tracked first s)) (past r.happened s.holds)

-- it is matched, unless it is away
pub attached_unless : (a : AttachmentOf) → (a ≡ standing.Away → ⊥) → is_attached (stood_as a) ≡ true
attached_unless standing.Away other = absurd (other refl)
attached_unless standing.Waiting other = refl
attached_unless standing.Begun other = refl

-- what is so is so where there is an error
pub so_on_error : {X E : Type 0} (r : Result X E) (P : Type 0) → P → OnErr r P
so_on_error (Ok x) P p = tt
so_on_error (Err e) P p = p

-- what was done is so
pub so_done : {X E : Type 0} (r : Result X E) (x : X) (P : Type 0) → r ≡ Ok x → OnOk r P → P
so_done r x P is h = subst (λ o. OnOk o P) is h
