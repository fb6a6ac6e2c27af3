-- One more write of an instance that is alive turns nothing but the count of its writes.
use Rattle.std.proofs.Common.{◌≡◌, ℕ, ◌+◌, ◌<◌, ◌==◌, List, [], ◌∷◌, ◌++◌, length, get_or, set, map, Bool, true, false, not, ◌&&◌, ◌||◌, sym, ap, ◌∙◌, refl, subst, Option, Some, None, arith, ⊎_elim}
use Rattle.std.specs.Prelude.{if◌then◌else◌}
use Rattle.std.proofs.lemmas.Bool.{cases_Bool, eqb-true}
use Rattle.std.proofs.lemmas.List.{append-nil, length-map, length-set, get_or-set_same}
use Rattle.std.proofs.lemmas.List.Elements.{filter_agree}
use Rattle.dds_base.specs.declared.key.Key.{Key}
use Rattle.dds_base.specs.declared.change.ChangeKind.{ChangeKind}
use Rattle.dds_base.specs.declared.change.ChangeKind.TheVariants.{Write, Dispose, Unregister, DisposeUnregister}
use Rattle.dds_base.specs.declared.happening.Arrival.{Arrival}
use Rattle.dds_base.specs.declared.happening.Happening.{Happening}
use Rattle.dds_base.specs.declared.happening.Happening.TheVariants.{Came}
use Rattle.dds_base.specs.declared.sample.InstanceState.{InstanceState}
use Rattle.dds_base.specs.declared.sample.InstanceState.TheVariants.{Alive}
use Rattle.dds_base.specs.declared.sample.ViewState.TheVariants.{New, NotNew}
use Rattle.dds_base.specs.declared.qos.OwnershipQos.{OwnershipQos}
use Rattle.dds_base.specs.declared.qos.ReaderQos.{ReaderQos}
use Rattle.dds_base.specs.Access.{lives_begun, state_of_known}
use Rattle.dds_base.specs.Happening.{is_unregister, is_write_or_dispose, same_key}
use Rattle.dds_base.specs.Instance.{introduced_by, is_disposed, is_known, is_without_writers, known_instances}
use Rattle.dds_base.specs.Life.{becomes_not_alive, ends_life, is_nobody, is_write, state_after}
use Rattle.dds_base.specs.Ownership.{accepted_kind, admits, is_registered, outranks_all, publication_handles, registered_writers}
use Rattle.dds_base.proofs.KeyLaws.{same_key-refl}
use Rattle.dds_base.proofs.LifeLaws.{ends-registered, same-state}
use Rattle.dds_owner.specs.Standing.{KeptStrengths, StandsFor, has_writers}
use Rattle.dds_owner.proofs.KeptLaws.{other-stands}
use Rattle.dds_owner.proofs.RegistrationLaws.{nobody-kept}
use Rattle.dds_instances.specs.declared.known.KnownInstance.{KnownInstance}
use Rattle.dds_instances.specs.declared.track.InstanceTrack.{InstanceTrack}
use Rattle.dds_instances.specs.Known.{IsKnown}
use Rattle.dds_instances.specs.Following.{Follows, IsPlaceOf, MayTakeUp, TakesWrite, TakeUp, key_of}
use Rattle.dds_instances.specs.Table.{Stands, Table}
use Rattle.dds_instances.specs.Track.{IsOneMore, Tracks, TracksEntry, is_beginning, one_if, state_of_track, with_one_more}
use Rattle.dds_instances.proofs.KnownLaws.{nobody-there, unregistered}
use Rattle.dds_instances.proofs.StandingLaws.{Changes, follows-on, known-at, known-introduced, known-of, reaches-known, told-tracked, track-at}

write-is : (kind : ChangeKind) → is_write (Some kind) ≡ true → kind ≡ Write
write-is Write e = refl
write-is Dispose e = absurd cc
write-is Unregister e = absurd cc
write-is DisposeUnregister e = absurd cc

last-is : (last : Option ChangeKind) → is_write last ≡ true → last ≡ Some Write
last-is None e = absurd cc
last-is (Some kind) e = ap (λ (k : ChangeKind). Some k) (write-is kind e)

-- ---- who is registered

-- its writer was
registered-still : (s x u d r : Bool) → u ≡ false → (x ≡ true → r ≡ true) → (not ((s && x) && u) && (((s && x) && d) || r)) ≡ r
registered-still false x u d r kind there = refl
registered-still true false u d r kind there = refl
registered-still true true true d r kind there = absurd cc
registered-still true true false true r kind there = sym (there refl)
registered-still true true false false r kind there = refl

-- so the same writers are, after it
one-registered : (q : ReaderQos) (h : List Happening) (a : Arrival) (t : InstanceTrack) → IsOneMore q a t
    → StandsFor t.owners q a.change.key h → (w : ℕ)
    → is_registered a.change.key w (Came a ∷ h) ≡ is_registered a.change.key w h
one-registered q h a t more stands w =
    let i : Key = a.change.key in
    registered-still (same_key i i) (a.writer == w) (is_unregister a.change.kind) (is_write_or_dispose a.change.kind)
    (is_registered i w h)
    (ap (λ (k : ChangeKind). is_unregister k) (write-is a.change.kind more.written))
    (λ its. ap (λ (v : ℕ). is_registered i v h) (sym (eqb-true a.writer w its)) ∙ (more.registered h stands).1)

-- and somebody is
one-somebody : (q : ReaderQos) (h : List Happening) (a : Arrival) (t : InstanceTrack) → IsOneMore q a t
    → StandsFor t.owners q a.change.key h → is_nobody (registered_writers q a.change.key h) ≡ false
one-somebody q h a t more stands =
    let there = more.registered h stands in
    ⊎_elim
    (λ nobody. absurd (let clash : true ≡ false =
    sym there.1 ∙ unregistered q a.change.key h a.writer (nobody-there (registered_writers q a.change.key h) nobody)
    there.0 in cc))
    (λ somebody. somebody)
    (cases_Bool (is_nobody (registered_writers q a.change.key h)))

one-stands : (q : ReaderQos) (h : List Happening) (a : Arrival) (t : InstanceTrack) → IsOneMore q a t
    → StandsFor t.owners q a.change.key h → StandsFor t.owners q a.change.key (Came a ∷ h)
one-stands q h a t more stands =
    other-stands t.owners q a.change.key (Came a) h (one-registered q h a t more stands) stands

-- no life ends with it
one-lives : (q : ReaderQos) (h : List Happening) (a : Arrival) (t : InstanceTrack) → IsOneMore q a t
    → StandsFor t.owners q a.change.key h → ends_life q a.change.key h (Came a) ≡ false
one-lives q h a t more stands =
    let i : Key = a.change.key in
    ends-registered q i h (Came a)
    (ap (λ (ws : List ℕ). is_nobody ws)
    (filter_agree (λ w. is_registered i w (Came a ∷ h)) (λ w. is_registered i w h)
    (one-registered q h a t more stands) (publication_handles q h))
    ∙ one-somebody q h a t more stands)

-- ---- what is accepted

one-accepted : (q : ReaderQos) (h : List Happening) (a : Arrival) (t : InstanceTrack) → IsOneMore q a t
    → accepted_kind q a.change.key h (Came a) ≡ Some Write
one-accepted q h a t more =
    let i : Key = a.change.key in
    let first : Bool = outranks_all q (Came a ∷ h) (registered_writers q i h) a.writer in
    ap (λ (b : Bool). if b && (is_write_or_dispose a.change.kind && admits q.ownership first) then Some a.change.kind else None)
    (same_key-refl i)
    ∙ (ap (λ (k : ChangeKind). if is_write_or_dispose k && admits q.ownership first then Some k else None)
    (write-is a.change.kind more.written)
    ∙ ap (λ (o : OwnershipQos). if admits o first then Some Write else None) more.shared)

-- ---- the track

one-alive : (q : ReaderQos) (h : List Happening) (a : Arrival) (t : InstanceTrack) → IsOneMore q a t
    → StandsFor t.owners q a.change.key h → state_of_track t ≡ Some Alive
one-alive q h a t more stands =
    ap (λ (k : Option ChangeKind). state_after k (not (has_writers t.owners))) (last-is t.last_accepted more.upon)
    ∙ ap (λ (b : Bool). state_after (Some Write) b)
    (sym (nobody-kept t.owners q a.change.key h stands) ∙ one-somebody q h a t more stands)

plus-nothing : (n : ℕ) → n ≡ n + 0
plus-nothing n = omega arith

-- it takes the write up as an entry of any position
one-entry : (n : ℕ) (t : InstanceTrack) → t.last_accepted ≡ Some Write → state_of_track t ≡ Some Alive
    → TracksEntry (Some Write) n t (with_one_more t)
one-entry n t last alive =
    let begins : is_beginning (Some Write) t.last_accepted (state_of_track t) ≡ false =
    ap (λ (k : Option ChangeKind). is_beginning (Some Write) k (state_of_track t)) last
    ∙ ap (λ (s : Option InstanceState). is_beginning (Some Write) (Some Write) s) alive in
    let stays : becomes_not_alive (state_of_track t) (state_of_track t) ≡ false = same-state (state_of_track t) in
    record {
      key = refl;
      handle = refl;
      accepts = last;
      disposed =
          plus-nothing t.disposed_generations
          ∙ sym (ap (λ (s : Option InstanceState). t.disposed_generations + one_if (true && is_disposed s)) alive);
      no_writers =
          plus-nothing t.no_writers_generations
          ∙ sym (ap (λ (s : Option InstanceState). t.no_writers_generations + one_if (true && is_without_writers s)) alive);
      rebirth = sym (ap (λ (b : Bool). if b then n else t.latest_rebirth) begins);
      seen = sym (ap (λ (b : Bool). not b && t.is_seen) begins);
      marker = sym (ap (λ (b : Bool). if b then Some n else t.last_marker) stays);
      held = sym (ap (λ (b : Bool). b || t.is_held) stays);
      writes = refl;
    }

-- ---- the tracks

-- what is told of the track that stands at a place
told-at : (q : ReaderQos) (h : List Happening) (ts : List InstanceTrack) (at : ℕ) (x : InstanceTrack) (k : KnownInstance)
    → Follows q h (set ts at x) → at < length ts → k.key ≡ x.key → k.handle ≡ x.handle
    → k.state ≡ state_of_known (state_of_track x) → k.view ≡ (if x.is_seen then NotNew else New)
    → k.disposed_generations ≡ x.disposed_generations → k.no_writers_generations ≡ x.no_writers_generations
    → k.accepted_writes ≡ x.accepted_writes → k.last_marker ≡ x.last_marker → IsKnown q h k
told-at q h ts at x k follows inside key handle state view disposed no_writers writes marker =
    let within : at < length (set ts at x) = omega (arith, inside, length-set ts at x) in
    let is : get_or (set ts at x) at x ≡ x = get_or-set_same ts at x x inside in
    told-tracked q h x k
    (subst (λ (y : InstanceTrack). Tracks q y.key h y) is (follows.each at x within))
    (subst (λ (y : InstanceTrack). is_known q h y.key ≡ true) is (known-of q h (set ts at x) follows at x within))
    key handle state view disposed no_writers writes marker

-- one of them takes up one more write
pub takes-write : (q : ReaderQos) (kept : KeptStrengths) (h : List Happening) (a : Arrival) (ts : List InstanceTrack)
    (at n : ℕ) (t x : InstanceTrack) (k : KnownInstance) → MayTakeUp q kept h n ts
    → IsPlaceOf (map key_of ts) a.change.key at → t ≡ get_or ts at t → IsOneMore q a t → x ≡ with_one_more t
    → k.key ≡ x.key → k.handle ≡ x.handle → k.state ≡ Alive → k.view ≡ (if x.is_seen then NotNew else New)
    → k.disposed_generations ≡ x.disposed_generations → k.no_writers_generations ≡ x.no_writers_generations
    → k.accepted_writes ≡ x.accepted_writes → k.last_marker ≡ x.last_marker → TakesWrite q h a (set ts at x) k
takes-write q kept h a ts at n t x k may place is more x_is key handle state view disposed no_writers writes marker =
    let i : Key = a.change.key in
    let before : Follows q h ts = may.before.follows in
    let inside : at < length ts = omega (arith, place.within, length-map ts key_of) in
    let tracks : Tracks q i h t = track-at q h ts (map key_of ts) i at t refl place is before in
    let alive : state_of_track t ≡ Some Alive = one-alive q h a t more tracks.owners_are in
    let step : Changes q kept a (Some Write) n t x = record {
      advances = subst (λ (y : InstanceTrack). TracksEntry (Some Write) n t y) (sym x_is)
          (one-entry n t (last-is t.last_accepted more.upon) alive);
      accepted = λ g stands tells. sym (one-accepted q g a t more);
      came = λ g stands tells. subst (λ (y : InstanceTrack). StandsFor y.owners q i (Came a ∷ g)) (sym x_is)
          (one-stands q g a t more stands);
    } in
    let taken : TakeUp q h a (set ts at x) false = reaches-known q kept h a ts at n t x (Some Write) may
    (more.registered h tracks.owners_are).0 place is step in
    let none : introduced_by q h (Came a) ≡ [] = known-introduced q h a (known-at q h ts i at place before) in
    let follows : Follows q (Came a ∷ h) (set ts at x) =
    follows-on q h a (set ts at x) (sym (one-lives q h a t more tracks.owners_are)) taken.reaches in
    record {
      follows = follows;
      begun = none;
      lives =
          sym follows.keys_are ∙ (taken.reaches.keys_are
          ∙ (ap (λ (ks : List Key). known_instances q h ++ ks) none ∙ append-nil (known_instances q h)));
      written = ap (λ (o : Option ChangeKind). is_write o) (one-accepted q h a t more);
      key = key ∙ (ap (λ (y : InstanceTrack). y.key) x_is ∙ tracks.key_is);
      told = told-at q (Came a ∷ h) ts at x k follows inside key handle
          (state ∙ sym (ap (λ (s : Option InstanceState). state_of_known s)
          (ap (λ (y : InstanceTrack). state_of_track y) x_is ∙ alive)))
          view disposed no_writers writes marker;
    }

-- the instances take up one more write
pub wrote : (q : ReaderQos) (h : List Happening) (a : Arrival) (table : Table) (ts : List InstanceTrack) (k : KnownInstance)
    → ((kept : KeptStrengths) (n : ℕ) (g : List Happening) → MayTakeUp q kept g n table.tracks → TakesWrite q g a ts k)
    → Stands q table h → TakesWrite q h a ts k
wrote q h a table ts k takes stands =
    takes table.strengths (length h + 1) h
    (record { before = record { place = refl; lawful = stands.lawful; follows = stands.follows }; tells = stands.strengths_are })

-- with it no life has begun
pub begun-still : (q : ReaderQos) (h : List Happening) (e : Happening) → introduced_by q h e ≡ []
    → lives_begun q h ≡ lives_begun q (e ∷ h)
begun-still q h e none =
    plus-nothing (lives_begun q h) ∙ sym (ap (λ (ks : List Key). lives_begun q h + length ks) none)
