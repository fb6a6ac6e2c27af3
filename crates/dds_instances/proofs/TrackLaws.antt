-- A track that takes up one more entry has followed its instance through it.
use Rattle.std.proofs.Common.{◌≡◌, ℕ, ◌+◌, ◌≤◌, List, ◌∷◌, length, Bool, true, false, not, ◌&&◌, ◌||◌, sym, ap, ◌∙◌, refl, subst, Option, Some, None, arith, ⊎_elim}
use Rattle.std.specs.Prelude.{is_some, if◌then◌else◌}
use Rattle.std.specs.List.{list_any}
use Rattle.std.proofs.lemmas.Bool.{cases_Bool}
use Rattle.std.proofs.lemmas.List.Elements.{filter_agree}
use Rattle.dds_base.specs.declared.key.Key.{Key}
use Rattle.dds_base.specs.declared.change.ChangeKind.{ChangeKind}
use Rattle.dds_base.specs.declared.happening.Arrival.{Arrival}
use Rattle.dds_base.specs.declared.happening.SamplePosition.{SamplePosition}
use Rattle.dds_base.specs.declared.happening.Happening.{Happening}
use Rattle.dds_base.specs.declared.happening.Happening.TheVariants.{Came, Read, Took}
use Rattle.dds_base.specs.declared.sample.InstanceState.{InstanceState}
use Rattle.dds_base.specs.declared.sample.InstanceState.TheVariants.{Alive, NotAliveDisposed, NotAliveNoWriters}
use Rattle.dds_base.specs.declared.qos.ReaderQos.{ReaderQos}
use Rattle.dds_base.specs.Access.{lives_begun}
use Rattle.dds_base.specs.Happening.{same_key}
use Rattle.dds_base.specs.Ownership.{is_registered, accepted_kind, publication_handles, registered_writers}
use Rattle.dds_base.specs.Instance.{is_disposed, is_without_writers, instance_state_of, is_known, introduces, is_rebirth, disposed_generations, no_writers_generations, latest_rebirth, accesses, is_since}
use Rattle.dds_base.specs.Life.{or_else, is_write, last_accepted, last_marker, state_after, state_reached, becomes_not_alive, ends_life}
use Rattle.dds_base.specs.Presence.{marks}
use Rattle.dds_base.proofs.LifeLaws.{accepted-other, quiet-unmarked, registered-other}
use Rattle.dds_instances.specs.declared.track.InstanceTrack.{InstanceTrack}
use Rattle.dds_owner.specs.Standing.{StandsFor, has_writers}
use Rattle.dds_owner.proofs.KeptLaws.{other-stands}
use Rattle.dds_owner.proofs.RegistrationLaws.{nobody-kept}
use Rattle.dds_instances.specs.Known.{writes_in_life}
use Rattle.dds_instances.specs.Track.{Tracks, TracksEntry, held_as, is_beginning, one_if, seen_in, state_of_track}
use Rattle.dds_instances.proofs.LivesLaws.{begins, disposed-on, handle-new, handle-on, last-on, marker-on, no_writers-on, on-known, rebirth-on, writes-on}

-- the state of a track is that of its instance
pub state-tracked : (q : ReaderQos) (i : Key) (h : List Happening) (t : InstanceTrack) → Tracks q i h t
    → state_of_track t ≡ instance_state_of q i h
state-tracked q i h t tracks =
    ap (λ (k : Option ChangeKind). state_after k (not (has_writers t.owners))) tracks.last_is
    ∙ ap (λ (b : Bool). state_after (last_accepted q i h) b) (sym (nobody-kept t.owners q i h tracks.owners_are))

-- a sum that counts an accepted write upon a state
abbrev counted : ℕ → Option ChangeKind → (Option InstanceState → Bool) → Option InstanceState → ℕ
counted n kind test state = n + one_if (is_write kind && test state)

counted-same : (m n : ℕ) (k l : Option ChangeKind) (test : Option InstanceState → Bool) (s t : Option InstanceState)
    → m ≡ n → k ≡ l → s ≡ t → counted m k test s ≡ counted n l test t
counted-same m n k l test s t counts kinds states =
    ap (λ (x : ℕ). counted x k test s) counts
    ∙ (ap (λ (x : Option ChangeKind). counted n x test s) kinds
    ∙ ap (λ (x : Option InstanceState). counted n l test x) states)

marker-same : (s t s' t' : Option InstanceState) (n : ℕ) (a b : Option ℕ) → s ≡ t → s' ≡ t' → a ≡ b
    → (if becomes_not_alive s s' then Some n else a) ≡ (if becomes_not_alive t t' then Some n else b)
marker-same s t s' t' n a b befores afters olds =
    ap (λ (x : Option InstanceState). if becomes_not_alive x s' then Some n else a) befores
    ∙ (ap (λ (x : Option InstanceState). if becomes_not_alive t x then Some n else a) afters
    ∙ ap (λ (x : Option ℕ). if becomes_not_alive t t' then Some n else x) olds)

-- what is seen since the latest rebirth, after an entry that is no access: nothing where that is the rebirth
seen-next : (b old : Bool) (since now : ℕ → Bool) (n latest : ℕ) → ((j : ℕ) → now j ≡ false) → since n ≡ false
    → old ≡ since latest → (not b && old) ≡ (now (if b then n else latest) || since (if b then n else latest))
seen-next true old since now n latest quiet past is = sym (ap (λ (x : Bool). x || since n) (quiet n) ∙ past)
seen-next false old since now n latest quiet past is = is ∙ sym (ap (λ (x : Bool). x || since latest) (quiet latest))

-- the test of a beginning, of the track and of the definitions
beginning-same : (k l m n : Option ChangeKind) (s t : Option InstanceState) → k ≡ l → m ≡ n → s ≡ t
    → is_beginning k m s ≡ is_beginning l n t
beginning-same k l m n s t kinds lasts states =
    ap (λ (x : Option ChangeKind). is_beginning x m s) kinds
    ∙ (ap (λ (x : Option ChangeKind). is_beginning l x s) lasts
    ∙ ap (λ (x : Option InstanceState). is_beginning l n x) states)

-- the position of the latest beginning, where the old one is right of a known instance
rebirth-next : (known begins : Bool) (r : Bool) (n old was : ℕ) → (begins ≡ false → known ≡ true) → (known ≡ true → old ≡ was)
    → (if begins || r then n else old) ≡ (if begins || r then n else was)
rebirth-next known true r n old was there same = refl
rebirth-next known false true n old was there same = refl
rebirth-next known false false n old was there same = same (there refl)

-- what begins no life then was known
was-known : (known some begins : Bool) → begins ≡ (not known && some) → (known ≡ false → begins ≡ true) → begins ≡ false
    → known ≡ true
was-known true some begins is gives none = refl
was-known false some begins is gives none = absurd (let clash : true ≡ false = sym (gives refl) ∙ none in cc)

-- what is kept of the last accepted change, and the state, once the entry was taken up
last-next : (q : ReaderQos) (i : Key) (h : List Happening) (e : Happening) (kind : Option ChangeKind)
    (old new : InstanceTrack) → kind ≡ accepted_kind q i h e → Tracks q i h old
    → new.last_accepted ≡ or_else kind old.last_accepted
    → new.last_accepted ≡ or_else (accepted_kind q i h e) (last_accepted q i h)
last-next q i h e kind old new kind_is tracks accepts =
    accepts ∙ (ap (λ (k : Option ChangeKind). or_else k old.last_accepted) kind_is
    ∙ ap (λ (k : Option ChangeKind). or_else (accepted_kind q i h e) k) tracks.last_is)

pub state-next : (q : ReaderQos) (i : Key) (h : List Happening) (e : Happening) (kind : Option ChangeKind)
    (old new : InstanceTrack) → kind ≡ accepted_kind q i h e → StandsFor new.owners q i (e ∷ h) → Tracks q i h old
    → new.last_accepted ≡ or_else kind old.last_accepted
    → state_of_track new ≡ state_reached q i h e (last_accepted q i h)
state-next q i h e kind old new kind_is owners tracks accepts =
    ap (λ (k : Option ChangeKind). state_after k (not (has_writers new.owners)))
    (last-next q i h e kind old new kind_is tracks accepts)
    ∙ ap (λ (b : Bool). state_after (or_else (accepted_kind q i h e) (last_accepted q i h)) b)
    (sym (nobody-kept new.owners q i (e ∷ h) owners))

-- the handle of a life that begins with an entry
abbrev pub HandsOut : ReaderQos → Key → List Happening → Happening → ℕ → Type 0
HandsOut q i h e handle = is_known q h i ≡ false → introduces q i h e ≡ true → handle ≡ lives_begun q (e ∷ h)

-- a track that takes up an entry that is no access has followed its instance through it, if its life goes on
pub tracks-next : (q : ReaderQos) (i : Key) (h : List Happening) (e : Happening) (kind : Option ChangeKind)
    (old new : InstanceTrack) → kind ≡ accepted_kind q i h e → StandsFor new.owners q i (e ∷ h)
    → ((j : ℕ) → accesses i j e ≡ false) → list_any (accesses i (length h + 1)) h ≡ false → HandsOut q i h e old.handle
    → Tracks q i h old → TracksEntry kind (length h + 1) old new → is_known q (e ∷ h) i ≡ true → Tracks q i (e ∷ h) new
tracks-next q i h e kind old new kind_is owners quiet past hands tracks step known =
    let on : ends_life q i h e ≡ false = on-known q i h e known in
    let before : state_of_track old ≡ instance_state_of q i h = state-tracked q i h old tracks in
    let last : new.last_accepted ≡ or_else (accepted_kind q i h e) (last_accepted q i h) =
    last-next q i h e kind old new kind_is tracks step.accepts in
    let after : state_of_track new ≡ state_reached q i h e (last_accepted q i h) =
    state-next q i h e kind old new kind_is owners tracks step.accepts in
    let starts : is_beginning kind old.last_accepted (state_of_track old) ≡ (introduces q i h e || is_rebirth q i h e) =
    beginning-same _ _ _ _ _ _ kind_is tracks.last_is before in
    record {
      key_is = step.key ∙ tracks.key_is;
      handle_is =
          λ there. step.handle ∙ ⊎_elim
          (λ was. tracks.handle_is was ∙ sym (handle-on q i h e known was))
          (λ was. hands was (begins q i h e known was) ∙ sym (handle-new q i h e known (begins q i h e known was)))
          (cases_Bool (is_known q h i));
      owners_are = owners;
      last_is = last ∙ sym (last-on q i h e on);
      disposed_is =
          step.disposed ∙ (counted-same old.disposed_generations
          (disposed_generations q i h) _ _ is_disposed _ _ tracks.disposed_is kind_is before
          ∙ sym (disposed-on q i h e on));
      no_writers_is =
          step.no_writers ∙ (counted-same old.no_writers_generations
          (no_writers_generations q i h) _ _ is_without_writers _ _ tracks.no_writers_is kind_is before
          ∙ sym (no_writers-on q i h e on));
      rebirth_is =
          λ there. step.rebirth ∙ (ap (λ (b : Bool). if b then length h + 1 else old.latest_rebirth) starts
          ∙ (rebirth-next (is_known q h i) (introduces q i h e) (is_rebirth q i h e) (length h + 1) old.latest_rebirth
          (latest_rebirth q i h)
          (was-known (is_known q h i) (is_some (accepted_kind q i h e)) (introduces q i h e) refl (begins q i h e known))
          tracks.rebirth_is ∙ sym (rebirth-on q i h e on)));
      marker_is =
          step.marker ∙ (marker-same _ _ _ _ (length h + 1) _ _ before after tracks.marker_is
          ∙ sym (marker-on q i h e on));
      writes_are =
          step.writes ∙ (ap (λ (n : ℕ). n + one_if (is_write kind)) tracks.writes_are
          ∙ (ap (λ (k : Option ChangeKind). writes_in_life q i h + one_if (is_write k)) kind_is
          ∙ sym (writes-on q i h e on)));
      seen_is =
          step.seen ∙ (ap (λ (b : Bool). not b && old.is_seen) starts
          ∙ (seen-next (introduces q i h e || is_rebirth q i h e) old.is_seen
          (λ j. list_any (accesses i j) h) (λ j. accesses i j e) (length h + 1)
          (latest_rebirth q i h) quiet past tracks.seen_is
          ∙ sym (ap (λ (n : ℕ). list_any (accesses i n) (e ∷ h)) (rebirth-on q i h e on))));
    }

pub one_if-bound : (b : Bool) → one_if b ≤ 1
one_if-bound true = omega arith
one_if-bound false = omega arith

pub one-rebirth : (b : Bool) (s : Option InstanceState)
    → one_if (b && is_disposed s) + one_if (b && is_without_writers s) ≤ 1
one-rebirth false s = omega arith
one-rebirth true None = omega arith
one-rebirth true (Some Alive) = omega arith
one-rebirth true (Some NotAliveDisposed) = omega arith
one-rebirth true (Some NotAliveNoWriters) = omega arith

-- a track of an entry by which nothing is accepted for its known instance, and nobody is registered or let go: it may
-- have been seen
pub tracks-other : (q : ReaderQos) (i : Key) (h : List Happening) (e : Happening) (t : InstanceTrack) (x : Bool)
    → accepted_kind q i h e ≡ None → ((w : ℕ) → is_registered i w (e ∷ h) ≡ is_registered i w h)
    → registered_writers q i (e ∷ h) ≡ registered_writers q i h
    → x ≡ (accesses i (latest_rebirth q i h) e || t.is_seen) → is_known q h i ≡ true → is_known q (e ∷ h) i ≡ true
    → Tracks q i h t → Tracks q i (e ∷ h) (record t { is_seen = x })
tracks-other q i h e t x none same writers x_is before known tracks =
    let on : ends_life q i h e ≡ false = on-known q i h e known in
    let unmarked : marks q i h e ≡ false =
    quiet-unmarked q i h e none writers in
    let latest : latest_rebirth q i (e ∷ h) ≡ latest_rebirth q i h =
    rebirth-on q i h e on
    ∙ (ap (λ (k : Option ChangeKind). if is_beginning k (last_accepted q i h) (instance_state_of q i h) then length h + 1
    else latest_rebirth q i h) none
    ∙ ap (λ (b : Bool). if (not b && false) || false then length h + 1 else latest_rebirth q i h) before) in
    record {
      key_is = tracks.key_is;
      handle_is = λ there. tracks.handle_is before ∙ sym (handle-on q i h e known before);
      owners_are = other-stands t.owners q i e h same tracks.owners_are;
      last_is =
          tracks.last_is ∙ sym (last-on q i h e on
          ∙ ap (λ (k : Option ChangeKind). or_else k (last_accepted q i h)) none);
      disposed_is =
          tracks.disposed_is ∙ sym (disposed-on q i h e on
          ∙ (ap (λ (k : Option ChangeKind). disposed_generations q i h
          + one_if (is_write k && is_disposed (instance_state_of q i h))) none ∙ plus-nothing _));
      no_writers_is =
          tracks.no_writers_is ∙ sym (no_writers-on q i h e on
          ∙ (ap (λ (k : Option ChangeKind). no_writers_generations q i h
          + one_if (is_write k && is_without_writers (instance_state_of q i h))) none ∙ plus-nothing _));
      rebirth_is = λ there. tracks.rebirth_is before ∙ sym latest;
      marker_is =
          tracks.marker_is ∙ sym (marker-on q i h e on
          ∙ ap (λ (b : Bool). if b then Some (length h + 1) else last_marker q i h) unmarked);
      writes_are =
          tracks.writes_are ∙ sym (writes-on q i h e on
          ∙ (ap (λ (k : Option ChangeKind). writes_in_life q i h + one_if (is_write k)) none ∙ plus-nothing _));
      seen_is =
          x_is ∙ (ap (λ (b : Bool). accesses i (latest_rebirth q i h) e || b) tracks.seen_is
          ∙ sym (ap (λ (n : ℕ). list_any (accesses i n) (e ∷ h)) latest));
    }
  where
    plus-nothing : (n : ℕ) → n + 0 ≡ n
    plus-nothing n = omega arith

-- a track of another instance than that of a change
pub tracks-stranger : (q : ReaderQos) (i : Key) (h : List Happening) (a : Arrival) (t : InstanceTrack)
    → same_key a.change.key i ≡ false → is_known q h i ≡ true → Tracks q i h t → is_known q (Came a ∷ h) i ≡ true
    → Tracks q i (Came a ∷ h) t
tracks-stranger q i h a t other before tracks known =
    tracks-other q i h (Came a) t t.is_seen (accepted-other q i h a other) (λ w. registered-other i w h a other)
    (filter_agree (λ w. is_registered i w (Came a ∷ h)) (λ w. is_registered i w h) (λ w. registered-other i w h a other)
    (publication_handles q h))
    refl before known tracks

-- one whose owners have more places has followed it as before
pub tracks-widened : (q : ReaderQos) (i : Key) (h : List Happening) (t x : InstanceTrack)
    → x ≡ record t { owners = x.owners } → (StandsFor t.owners q i h → StandsFor x.owners q i h) → Tracks q i h t
    → Tracks q i h x
tracks-widened q i h t x is wider tracks =
    subst (λ (y : InstanceTrack). Tracks q i h y) (sym is)
    (record {
      key_is = tracks.key_is;
      handle_is = tracks.handle_is;
      owners_are = wider tracks.owners_are;
      last_is = tracks.last_is;
      disposed_is = tracks.disposed_is;
      no_writers_is = tracks.no_writers_is;
      rebirth_is = tracks.rebirth_is;
      marker_is = tracks.marker_is;
      writes_are = tracks.writes_are;
      seen_is = tracks.seen_is;
    })

-- ---- what is noted of a track besides

pub tracks-held : (q : ReaderQos) (i : Key) (h : List Happening) (t : InstanceTrack) (held : Bool) → Tracks q i h t
    → Tracks q i h (held_as held t)
tracks-held q i h t held tracks = record {
  key_is = tracks.key_is;
  handle_is = tracks.handle_is;
  owners_are = tracks.owners_are;
  last_is = tracks.last_is;
  disposed_is = tracks.disposed_is;
  no_writers_is = tracks.no_writers_is;
  rebirth_is = tracks.rebirth_is;
  marker_is = tracks.marker_is;
  writes_are = tracks.writes_are;
  seen_is = tracks.seen_is;
}

-- ---- samples that a read or a take returned

or-comm : (a b : Bool) → (a || b) ≡ (b || a)
or-comm true true = refl
or-comm true false = refl
or-comm false true = refl
or-comm false false = refl

or-none : (b : Bool) → (b || false) ≡ b
or-none true = refl
or-none false = refl

-- which of them are of the instance of a track, and since its latest beginning
seen-by : (q : ReaderQos) (i : Key) (h : List Happening) (ss : List SamplePosition) (t : InstanceTrack) → Tracks q i h t
    → is_known q h i ≡ true
    → (t.is_seen || list_any (is_since t.key t.latest_rebirth) ss) ≡ (list_any (is_since i (latest_rebirth q i h)) ss || t.is_seen)
seen-by q i h ss t tracks known =
    ap (λ (k : Key). t.is_seen || list_any (is_since k t.latest_rebirth) ss) tracks.key_is
    ∙ (ap (λ (n : ℕ). t.is_seen || list_any (is_since i n) ss) (tracks.rebirth_is known)
    ∙ or-comm t.is_seen (list_any (is_since i (latest_rebirth q i h)) ss))

pub tracks-read : (q : ReaderQos) (i : Key) (h : List Happening) (ss : List SamplePosition) (t : InstanceTrack)
    → is_known q h i ≡ true → is_known q (Read ss ∷ h) i ≡ true → Tracks q i h t → Tracks q i (Read ss ∷ h) (seen_in ss t)
tracks-read q i h ss t before known tracks =
    tracks-other q i h (Read ss) t _ refl (λ w. refl) refl
    (seen-by q i h ss t tracks before
    ∙ ap (λ (b : Bool). b || t.is_seen) (sym (or-none (list_any (is_since i (latest_rebirth q i h)) ss))))
    before known tracks

pub tracks-took : (q : ReaderQos) (i : Key) (h : List Happening) (ss : List SamplePosition) (t : InstanceTrack)
    → is_known q h i ≡ true → is_known q (Took ss ∷ h) i ≡ true → Tracks q i h t → Tracks q i (Took ss ∷ h) (seen_in ss t)
tracks-took q i h ss t before known tracks =
    tracks-other q i h (Took ss) t _ refl (λ w. refl) refl (seen-by q i h ss t tracks before) before known tracks
