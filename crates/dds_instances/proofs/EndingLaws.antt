-- What is kept of the instances follows an entry that is no change: a death or a take may end lives, no other does.
use Rattle.std.proofs.Common.{◌≡◌, ℕ, ◌+◌, ◌<◌, List, [], ◌∷◌, ◌++◌, length, get_or, map, Bool, true, false, not, ◌&&◌, ◌||◌, ◌==◌, sym, ap, ◌∙◌, refl, subst, Option, None, arith, ⊎_elim}
use Rattle.std.specs.Prelude.{IfSome, if◌then◌else◌, is_some, nat_le}
use Rattle.std.specs.List.{All, list_any}
use Rattle.std.proofs.lemmas.Bool.{cases_Bool, lt-leb}
use Rattle.std.proofs.lemmas.Bool.Decides.{nat_tests}
use Rattle.std.proofs.lemmas.List.{append-nil}
use Rattle.std.proofs.lemmas.List.Elements.{All-head, All-map, All-tail, All-weaker}
use Rattle.dds_base.specs.declared.key.Key.{Key}
use Rattle.dds_base.specs.declared.change.ChangeKind.{ChangeKind}
use Rattle.dds_base.specs.declared.happening.SamplePosition.{SamplePosition}
use Rattle.dds_base.specs.declared.happening.Happening.{Happening}
use Rattle.dds_base.specs.declared.happening.Happening.TheVariants.{Died, Read, Took}
use Rattle.dds_base.specs.declared.sample.InstanceState.{InstanceState}
use Rattle.dds_base.specs.declared.qos.ReaderQos.{ReaderQos}
use Rattle.dds_base.specs.Access.{lives_begun}
use Rattle.dds_base.specs.Happening.{same_key, same_sample, read_by, taken_by, is_taken}
use Rattle.dds_base.specs.Ownership.{AreOfMatched, IsMatched, accepted_kind, is_registered, named_by, registered_writers, writers_of}
use Rattle.dds_base.proofs.JoinLaws.{registered-on}
use Rattle.dds_base.specs.Presence.{marks}
use Rattle.dds_base.specs.Life.{becomes_not_alive, has_there, is_nobody, last_accepted, last_marker, ends_life}
use Rattle.dds_base.specs.Instance.{known_instances, introduced_by, is_known, instance_state_of, is_since, latest_rebirth, accesses}
use Rattle.dds_base.proofs.KeyLaws.{key-same, same_key-comm}
use Rattle.dds_base.proofs.LifeLaws.{ends-marked, ends-registered, ends-took, ends-unmarked, quiet-goes-on}
use Rattle.dds_instances.specs.declared.track.InstanceTrack.{InstanceTrack}
use Rattle.dds_owner.specs.Standing.{StandsFor, TellsStrengths, has_writers}
use Rattle.dds_owner.proofs.RegistrationLaws.{nobody-kept}
use Rattle.dds_instances.specs.Track.{Tracks, TracksEntry, is_beginning, lives_on, seen_in, state_of_track}
use Rattle.dds_instances.specs.Table.{Table, Stands, is_any_left}
use Rattle.dds_instances.specs.Following.{key_of, Follows, FollowsBefore, HeldRight, IsLawful, LivesRight, Reaches}
use Rattle.dds_instances.specs.Known.{IsReturnable}
use Rattle.dds_instances.proofs.LivesLaws.{known-next, known-on, last-on, rebirth-on, rebirth-over}
use Rattle.dds_instances.proofs.TrackLaws.{state-next, state-tracked, tracks-next, tracks-other, tracks-read, tracks-took}
use Rattle.dds_instances.proofs.KnownLaws.{known, or_else-none, unknown-last}
use Rattle.dds_instances.proofs.StandingLaws.{follows-whole, known-of}

-- ---- an entry that says nothing of any instance

-- nothing is accepted by it, nobody is registered or let go, nothing is taken, and it names a matched writer, if any
pub record IsQuiet (q : ReaderQos) (h : List Happening) (e : Happening) : Type 0 where
  pub accepts : (i : Key) → accepted_kind q i h e ≡ None
  pub registers : (i : Key) (w : ℕ) → is_registered i w (e ∷ h) ≡ is_registered i w h
  pub takes : (i : Key) → list_any (λ (s : SamplePosition). same_key s.key i) (taken_by e) ≡ false
  pub introduces : introduced_by q h e ≡ []
  pub names : IfSome (named_by e) (IsMatched q h)

-- by it no life ends
quiet-known : (q : ReaderQos) (h : List Happening) (e : Happening) (i : Key) → IsQuiet q h e → AreOfMatched q h
    → is_known q h i ≡ true → is_known q (e ∷ h) i ≡ true
quiet-known q h e i quiet of_matched known =
    known-on q i h e known
    (quiet-goes-on q i h e (quiet.accepts i) (registered-on q i e h of_matched (quiet.registers i)) (quiet.takes i) known)

keys-quiet : (q : ReaderQos) (h : List Happening) (e : Happening) (ts : List InstanceTrack) → introduced_by q h e ≡ []
    → Follows q h ts → map key_of ts ≡ known_instances q h ++ introduced_by q h e
keys-quiet q h e ts none follows =
    follows.keys_are ∙ (sym (append-nil (known_instances q h))
    ∙ ap (λ (ks : List Key). known_instances q h ++ ks) (sym none))

pub follows-quiet : (q : ReaderQos) (h : List Happening) (e : Happening) (ts : List InstanceTrack) → IsQuiet q h e
    → ((i : Key) (j : ℕ) → accesses i j e ≡ false) → Follows q h ts → Follows q (e ∷ h) ts
follows-quiet q h e ts quiet unseen follows =
    follows-whole q h e ts
    (record {
      keys_are = keys-quiet q h e ts quiet.introduces follows;
      each = λ k d within.
          let t : InstanceTrack = get_or ts k d in
          λ known. tracks-other q t.key h e t t.is_seen (quiet.accepts t.key) (quiet.registers t.key)
          (registered-on q t.key e h follows.matched (quiet.registers t.key))
          (sym (ap (λ (b : Bool). b || t.is_seen) (unseen t.key (latest_rebirth q t.key h))))
          (known-of q h ts follows k d within) known (follows.each k d within);
      matched = (quiet.names, follows.matched);
    })
    (λ k d within. quiet-known q h e (get_or ts k d).key quiet follows.matched (known-of q h ts follows k d within))

-- ---- reads and takes are lawful

-- an entry leaves them so that accesses nothing to come, and nothing of an unknown instance
pub lawful-next : (q : ReaderQos) (h : List Happening) (e : Happening)
    → ((i : Key) (j : ℕ) → length h < j → accesses i j e ≡ false)
    → ((i : Key) (j : ℕ) → is_known q h i ≡ false → accesses i j e ≡ false) → IsLawful q h → IsLawful q (e ∷ h)
lawful-next q h e later strange lawful = record {
  past =
      λ i j after. ap (λ (b : Bool). b || list_any (accesses i j) h) (later i j (omega (arith, after)))
      ∙ lawful.past i j (omega (arith, after));
  strangers = λ i unknown. ⊎_elim
      (λ over. ap (λ (n : ℕ). list_any (accesses i n) (e ∷ h)) (rebirth-over q i h e over)
      ∙ (ap (λ (b : Bool). b || list_any (accesses i (length h + 1)) h) (later i (length h + 1) (omega arith))
      ∙ lawful.past i (length h + 1) (omega arith)))
      (λ on. let parts = or_else-none (accepted_kind q i h e) (last_accepted q i h)
      (sym (last-on q i h e on) ∙ unknown-last q i (e ∷ h) unknown) in
      let was : is_known q h i ≡ false = ap (λ (k : Option ChangeKind). is_some k) parts.1 in
      let latest : latest_rebirth q i (e ∷ h) ≡ latest_rebirth q i h =
      rebirth-on q i h e on
      ∙ (ap (λ (k : Option ChangeKind). if is_beginning k (last_accepted q i h) (instance_state_of q i h)
      then length h + 1 else latest_rebirth q i h) parts.0
      ∙ ap (λ (b : Bool). if (not b && false) || false then length h + 1 else latest_rebirth q i h) was) in
      ap (λ (n : ℕ). list_any (accesses i n) (e ∷ h)) latest
      ∙ (ap (λ (b : Bool). b || list_any (accesses i (latest_rebirth q i h)) h) (strange i (latest_rebirth q i h) was)
      ∙ lawful.strangers i was))
      (cases_Bool (ends_life q i h e));
}

-- one that is no access
pub lawful-quiet : (q : ReaderQos) (h : List Happening) (e : Happening) → ((i : Key) (j : ℕ) → accesses i j e ≡ false)
    → IsLawful q h → IsLawful q (e ∷ h)
lawful-quiet q h e quiet lawful = lawful-next q h e (λ i j after. quiet i j) (λ i j unknown. quiet i j) lawful

none-since : (i : Key) (j : ℕ) (ss : List SamplePosition) → All (λ (s : SamplePosition). is_since i j s ≡ false) ss
    → list_any (is_since i j) ss ≡ false
none-since i j [] all = refl
none-since i j (s ∷ ss) all =
    ap (λ (b : Bool). b || list_any (is_since i j) ss)
    (All-head (λ (x : SamplePosition). is_since i j x ≡ false) s ss all)
    ∙ none-since i j ss (All-tail (λ (x : SamplePosition). is_since i j x ≡ false) s ss all)

and-false : (b : Bool) → (b && false) ≡ false
and-false true = refl
and-false false = refl

since-later : (q : ReaderQos) (h : List Happening) (i : Key) (j : ℕ) (s : SamplePosition) → IsReturnable q h s
    → length h < j → is_since i j s ≡ false
since-later q h i j s fits later =
    ap (λ (b : Bool). same_key s.key i && b) (lt-leb j s.position (omega (arith, fits.in_past, later)))
    ∙ and-false (same_key s.key i)

since-stranger : (q : ReaderQos) (h : List Happening) (i : Key) (j : ℕ) (s : SamplePosition) → IsReturnable q h s
    → is_known q h i ≡ false → is_since i j s ≡ false
since-stranger q h i j s fits none =
    ⊎_elim
    (λ same. let its : is_known q h s.key ≡ true = sym (known q h s.key) ∙ fits.is_known in
    let gone : is_known q h s.key ≡ false = ap (λ (k : Key). is_known q h k) (key-same s.key i same) ∙ none in
    absurd (let clash : true ≡ false = sym its ∙ gone in cc))
    (λ other. ap (λ (b : Bool). b && nat_le j s.position) other)
    (cases_Bool (same_key s.key i))

or-none : (b : Bool) → (b || false) ≡ b
or-none true = refl
or-none false = refl

-- none of the returnable samples is accessed later or of an unknown instance
accessed-later : (q : ReaderQos) (h : List Happening) (ss : List SamplePosition) → All (IsReturnable q h) ss → (i : Key)
    (j : ℕ) → length h < j → list_any (is_since i j) ss ≡ false
accessed-later q h ss all i j later =
    none-since i j ss (All-weaker (IsReturnable q h) (λ (s : SamplePosition). is_since i j s ≡ false)
    (λ s fits. since-later q h i j s fits later) ss all)

accessed-stranger : (q : ReaderQos) (h : List Happening) (ss : List SamplePosition) → All (IsReturnable q h) ss → (i : Key)
    (j : ℕ) → is_known q h i ≡ false → list_any (is_since i j) ss ≡ false
accessed-stranger q h ss all i j unknown =
    none-since i j ss (All-weaker (IsReturnable q h) (λ (s : SamplePosition). is_since i j s ≡ false)
    (λ s fits. since-stranger q h i j s fits unknown) ss all)

pub lawful-read : (q : ReaderQos) (h : List Happening) (ss : List SamplePosition) → All (IsReturnable q h) ss
    → IsLawful q h → IsLawful q (Read ss ∷ h)
lawful-read q h ss all lawful =
    lawful-next q h (Read ss)
    (λ i j later. or-none (list_any (is_since i j) ss) ∙ accessed-later q h ss all i j later)
    (λ i j unknown. or-none (list_any (is_since i j) ss) ∙ accessed-stranger q h ss all i j unknown) lawful

pub lawful-took : (q : ReaderQos) (h : List Happening) (ss : List SamplePosition) → All (IsReturnable q h) ss
    → IsLawful q h → IsLawful q (Took ss ∷ h)
lawful-took q h ss all lawful =
    lawful-next q h (Took ss) (accessed-later q h ss all) (accessed-stranger q h ss all) lawful

-- ---- a death

-- a track that takes a death up
pub record Buries (n w : ℕ) (old new : InstanceTrack) : Type 0 where
  pub advances : TracksEntry None n old new
  pub died : (q : ReaderQos) (i : Key) (h : List Happening) (moment : ℕ) → StandsFor old.owners q i h
      → StandsFor new.owners q i (Died w moment ∷ h)
  pub fewer : has_writers new.owners ≡ true → has_writers old.owners ≡ true

or-parts : (a b : Bool) → (a || b) ≡ false → (a ≡ false) × (b ≡ false)
or-parts true b e = absurd cc
or-parts false b e = (refl, e)

-- a sample of what is yet to come was not taken
same-since : (i : Key) (j : ℕ) (ss : List SamplePosition) → list_any (is_since i j) ss ≡ false
    → list_any (same_sample (record { key = i; position = j })) ss ≡ false
same-since i j [] none = refl
same-since i j (s ∷ ss) none =
    let parts = or-parts (is_since i j s) (list_any (is_since i j) ss) none in
    ap (λ (b : Bool). b || list_any (same_sample (record { key = i; position = j })) ss)
    (ap (λ (b : Bool). b && (j == s.position)) (same_key-comm i s.key)
    ∙ one (same_key s.key i) j s.position parts.0)
    ∙ same-since i j ss parts.1
  where
    one : (b : Bool) (m n : ℕ) → (b && nat_le m n) ≡ false → (b && (m == n)) ≡ false
    one true m n e = grind (arith, nat_tests)
    one false m n e = refl

untaken : (i : Key) (j : ℕ) (h : List Happening) → list_any (accesses i j) h ≡ false
    → is_taken (record { key = i; position = j }) h ≡ false
untaken i j [] none = refl
untaken i j (e ∷ h) none =
    let parts = or-parts (accesses i j e) (list_any (accesses i j) h) none in
    let own = or-parts (list_any (is_since i j) (read_by e)) (list_any (is_since i j) (taken_by e)) parts.0 in
    ap (λ (b : Bool). b || is_taken (record { key = i; position = j }) h) (same-since i j (taken_by e) own.1)
    ∙ untaken i j h parts.1

-- whether the life of an instance goes on after a death, by who is left, whether it was marked, and what is held
died-table : (left marked held ends : Bool) → (left ≡ true → ends ≡ false) → (marked ≡ true → ends ≡ false)
    → (left ≡ false → marked ≡ false → ends ≡ not held) → ((marked || held) || left) ≡ not ends
died-table true marked held ends l m u = or-true (marked || held) ∙ sym (ap (λ (b : Bool). not b) (l refl))
  where
    or-true : (b : Bool) → (b || true) ≡ true
    or-true true = refl
    or-true false = refl
died-table false true held ends l m u = sym (ap (λ (b : Bool). not b) (m refl))
died-table false false held ends l m u =
    or-none held ∙ (twice held ∙ sym (ap (λ (b : Bool). not b) (u refl refl)))
  where
    twice : (b : Bool) → b ≡ not (not b)
    twice true = refl
    twice false = refl

not-left : (left nobody : Bool) → nobody ≡ not left → (left ≡ true → nobody ≡ false) × (left ≡ false → nobody ≡ true)
not-left true nobody is = (λ e. is, λ e. absurd cc)
not-left false nobody is = (λ e. absurd cc, λ e. is)

-- one that takes a death up lives on where its instance stays known
died-lives : (q : ReaderQos) (h : List Happening) (w now : ℕ) (t x : InstanceTrack) → Buries (length h + 1) w t x
    → IsLawful q h → is_known q h t.key ≡ true → t.is_held ≡ has_there q h t.key (last_marker q t.key h)
    → Tracks q t.key h t → lives_on x ≡ is_known q (Died w now ∷ h) t.key
died-lives q h w now t x step lawful known held tracks =
    let i : Key = t.key in
    let e : Happening = Died w now in
    let owners : StandsFor x.owners q i (e ∷ h) = step.died q i h now tracks.owners_are in
    let nobody : is_nobody (registered_writers q i (e ∷ h)) ≡ not (has_writers x.owners) =
    nobody-kept x.owners q i (e ∷ h) owners in
    let left = not-left (has_writers x.owners) (is_nobody (registered_writers q i (e ∷ h))) nobody in
    let marked : becomes_not_alive (state_of_track t) (state_of_track x) ≡ marks q i h e =
    ap (λ (s : Option InstanceState). becomes_not_alive s (state_of_track x)) (state-tracked q i h t tracks)
    ∙ ap (λ (s : Option InstanceState). becomes_not_alive (instance_state_of q i h) s)
    (state-next q i h e None t x refl owners tracks step.advances.accepts) in
    ap (λ (b : Bool). b || has_writers x.owners)
    (step.advances.held
    ∙ (ap (λ (b : Bool). b || t.is_held) marked ∙ ap (λ (b : Bool). marks q i h e || b) held))
    ∙ (died-table (has_writers x.owners) (marks q i h e) (has_there q h i (last_marker q i h)) (ends_life q i h e)
    (λ there. ends-registered q i h e (left.0 there))
    (λ is. ends-marked q i h e is (untaken i (length h + 1) h (lawful.past i (length h + 1) (omega arith))))
    (λ gone none. ends-unmarked q i h e refl refl none
    ∙ ap (λ (b : Bool). b && not (has_there q h i (last_marker q i h))) (left.1 gone))
    ∙ sym (known-next q i h e known))

-- each of the tracks has taken up a death, as the entry of this position
abbrev BuriesEach : ℕ → ℕ → List InstanceTrack → List InstanceTrack → Type 0
BuriesEach n w ts xs = (k : ℕ) (d : InstanceTrack) → k < length ts → Buries n w (get_or ts k d) (get_or xs k d)

pub reaches-died : (q : ReaderQos) (h : List Happening) (w now n : ℕ) (ts xs : List InstanceTrack)
    → FollowsBefore q h n ts → IsMatched q h w → length xs ≡ length ts → map key_of xs ≡ map key_of ts → BuriesEach n w ts xs
    → Reaches q h (Died w now) xs
reaches-died q h w now n ts xs before matched same keys steps =
    let e : Happening = Died w now in
    let step : BuriesEach (length h + 1) w ts xs =
    subst (λ (m : ℕ). BuriesEach m w ts xs) (sym before.place) steps in
    record {
      keys_are = keys ∙ keys-quiet q h e ts refl before.follows;
      each = λ k d within.
          let within' : k < length ts = omega (arith, within, same) in
          let t : InstanceTrack = get_or ts k d in
          let x : InstanceTrack = get_or xs k d in
          let tracks : Tracks q t.key h t = before.follows.each k d within' in
          subst (λ (i : Key). is_known q (e ∷ h) i ≡ true → Tracks q i (e ∷ h) x)
          (sym (step k d within').advances.key)
          (λ known. tracks-next q t.key h e None t x refl ((step k d within').died q t.key h now tracks.owners_are)
          (λ j. refl) (before.lawful.past t.key (length h + 1) (omega arith))
          (λ unknown new. absurd (let clash : true ≡ false = sym (known-of q h ts before.follows k d within')
          ∙ unknown in cc))
          tracks (step k d within').advances known);
      matched = (matched, before.follows.matched);
    }

-- where it is noted right of each whether something of it is present, those live on that stay known
pub died-right : (q : ReaderQos) (h : List Happening) (w now n : ℕ) (ts xs : List InstanceTrack)
    → FollowsBefore q h n ts → length xs ≡ length ts → BuriesEach n w ts xs → HeldRight q h ts
    → LivesRight q (Died w now ∷ h) xs
died-right q h w now n ts xs before same steps held =
    let step : BuriesEach (length h + 1) w ts xs =
    subst (λ (m : ℕ). BuriesEach m w ts xs) (sym before.place) steps in
    λ k d within. let within' : k < length ts = omega (arith, within, same) in
    let t : InstanceTrack = get_or ts k d in
    let x : InstanceTrack = get_or xs k d in
    subst (λ (i : Key). lives_on x ≡ is_known q (Died w now ∷ h) i) (sym (step k d within').advances.key)
    (died-lives q h w now t x (step k d within') before.lawful (known-of q h ts before.follows k d within')
    (held k d within') (before.follows.each k d within'))

-- ---- samples that were returned

seen-keys : (ss : List SamplePosition) (ts : List InstanceTrack) → map key_of (map (seen_in ss) ts) ≡ map key_of ts
seen-keys ss [] = refl
seen-keys ss (t ∷ ts) = ap (λ (ks : List Key). t.key ∷ ks) (seen-keys ss ts)

pub reaches-read : (q : ReaderQos) (h : List Happening) (ss : List SamplePosition) (ts : List InstanceTrack)
    → Follows q h ts → Reaches q h (Read ss) (map (seen_in ss) ts)
reaches-read q h ss ts follows = record {
  keys_are = seen-keys ss ts ∙ keys-quiet q h (Read ss) ts refl follows;
  each = All-map (λ (x : InstanceTrack). is_known q (Read ss ∷ h) x.key ≡ true → Tracks q x.key (Read ss ∷ h) x)
      (seen_in ss) ts
      (λ k d within known. tracks-read q (get_or ts k d).key h ss (get_or ts k d) (known-of q h ts follows k d within) known
      (follows.each k d within));
  matched = (tt, follows.matched);
}

pub follows-read : (q : ReaderQos) (h : List Happening) (ss : List SamplePosition) (ts : List InstanceTrack)
    → Follows q h ts → Follows q (Read ss ∷ h) (map (seen_in ss) ts)
follows-read q h ss ts follows =
    follows-whole q h (Read ss) (map (seen_in ss) ts) (reaches-read q h ss ts follows)
    (All-map (λ (x : InstanceTrack). is_known q (Read ss ∷ h) x.key ≡ true) (seen_in ss) ts
    (λ k d within. quiet-known q h (Read ss) (get_or ts k d).key
    (record { accepts = λ i. refl; registers = λ i w. refl; takes = λ i. refl; introduces = refl; names = tt })
    follows.matched (known-of q h ts follows k d within)))

pub reaches-took : (q : ReaderQos) (h : List Happening) (ss : List SamplePosition) (ts : List InstanceTrack)
    → Follows q h ts → Reaches q h (Took ss) (map (seen_in ss) ts)
reaches-took q h ss ts follows = record {
  keys_are = seen-keys ss ts ∙ keys-quiet q h (Took ss) ts refl follows;
  each = All-map (λ (x : InstanceTrack). is_known q (Took ss ∷ h) x.key ≡ true → Tracks q x.key (Took ss ∷ h) x)
      (seen_in ss) ts
      (λ k d within known. tracks-took q (get_or ts k d).key h ss (get_or ts k d) (known-of q h ts follows k d within) known
      (follows.each k d within));
  matched = (tt, follows.matched);
}

-- where it is noted right of each whether something of it is left, those live on that stay known
pub took-lives : (q : ReaderQos) (h : List Happening) (ss : List SamplePosition) (ts : List InstanceTrack) → Follows q h ts
    → All (λ (t : InstanceTrack). t.is_held ≡ has_there q (Took ss ∷ h) t.key (last_marker q t.key h)) ts
    → LivesRight q (Took ss ∷ h) (map (seen_in ss) ts)
took-lives q h ss ts follows held =
    All-map (λ (x : InstanceTrack). lives_on x ≡ is_known q (Took ss ∷ h) x.key) (seen_in ss) ts
    (λ k d within. let t : InstanceTrack = get_or ts k d in
    ap (λ (b : Bool). b || has_writers t.owners) (held k d within)
    ∙ (table (has_there q (Took ss ∷ h) t.key (last_marker q t.key h)) (has_writers t.owners)
    ∙ (sym (ap (λ (b : Bool). not (b && not (has_there q (Took ss ∷ h) t.key (last_marker q t.key h))))
    (nobody-kept t.owners q t.key h (follows.each k d within).owners_are))
    ∙ (sym (ap (λ (b : Bool). not b) (ends-took q t.key h ss))
    ∙ sym (known-next q t.key h (Took ss) (known-of q h ts follows k d within))))))
  where
    table : (held left : Bool) → (held || left) ≡ not (not left && not held)
    table true true = refl
    table true false = refl
    table false true = refl
    table false false = refl

somebody-left : (q : ReaderQos) (h : List Happening) (ss : List SamplePosition) (i : Key) → is_any_left q h ss ≡ false
    → list_any (λ (s : SamplePosition). same_key s.key i) ss ≡ true → is_nobody (registered_writers q i h) ≡ false
somebody-left q h [] i none there = absurd cc
somebody-left q h (s ∷ ss) i none there =
    let parts = or-parts (is_nobody (registered_writers q s.key h)) (is_any_left q h ss) none in
    ⊎_elim
    (λ same. ap (λ (k : Key). is_nobody (registered_writers q k h)) (sym (key-same s.key i same)) ∙ parts.0)
    (λ other. somebody-left q h ss i parts.1
    (sym (ap (λ (b : Bool). b || list_any (λ (x : SamplePosition). same_key x.key i) ss) other) ∙ there))
    (cases_Bool (same_key s.key i))

-- where somebody is registered for the instance of each sample that is taken, no life ends
pub took-known : (q : ReaderQos) (h : List Happening) (ss : List SamplePosition) (i : Key) → is_any_left q h ss ≡ false
    → is_known q h i ≡ true → is_known q (Took ss ∷ h) i ≡ true
took-known q h ss i none known =
    known-on q i h (Took ss) known
    (⊎_elim
    (λ there. ends-took q i h ss
    ∙ ap (λ (b : Bool). b && not (has_there q (Took ss ∷ h) i (last_marker q i h))) (somebody-left q h ss i none there))
    (λ untouched. quiet-goes-on q i h (Took ss) refl refl untouched known)
    (cases_Bool (list_any (λ (s : SamplePosition). same_key s.key i) ss)))

pub follows-took : (q : ReaderQos) (h : List Happening) (ss : List SamplePosition) (ts : List InstanceTrack)
    → is_any_left q h ss ≡ false → Follows q h ts → Follows q (Took ss ∷ h) (map (seen_in ss) ts)
follows-took q h ss ts none follows =
    follows-whole q h (Took ss) (map (seen_in ss) ts) (reaches-took q h ss ts follows)
    (All-map (λ (x : InstanceTrack). is_known q (Took ss ∷ h) x.key ≡ true) (seen_in ss) ts
    (λ k d within. took-known q h ss (get_or ts k d).key none (known-of q h ts follows k d within)))

-- ---- the table after an entry that introduces nothing

-- an entry that introduces nothing
pub stands-next : (q : ReaderQos) (h : List Happening) (e : Happening) (old new : Table)
    → (old.writers ≡ length (writers_of q h) → new.writers ≡ length (writers_of q (e ∷ h)))
    → (TellsStrengths old.strengths h → TellsStrengths new.strengths (e ∷ h)) → new.begun ≡ old.begun
    → new.happened ≡ old.happened + 1 → introduced_by q h e ≡ []
    → Follows q (e ∷ h) new.tracks → IsLawful q (e ∷ h) → Stands q old h → Stands q new (e ∷ h)
stands-next q h e old new writers tells begun counted none follows lawful stands = record {
  writers_are = writers stands.writers_are;
  happened_is = omega (arith, counted, stands.happened_is);
  strengths_are = tells stands.strengths_are;
  begun_is =
      begun ∙ (stands.begun_is ∙ ((let more : lives_begun q h ≡ lives_begun q h + 0 = omega arith in more)
      ∙ ap (λ (ks : List Key). lives_begun q h + length ks) (sym none)));
  follows = follows;
  lawful = lawful;
}

-- one that says nothing of any instance
pub stands-quiet : (q : ReaderQos) (h : List Happening) (e : Happening) (old new : Table)
    → (old.writers ≡ length (writers_of q h) → new.writers ≡ length (writers_of q (e ∷ h)))
    → (TellsStrengths old.strengths h → TellsStrengths new.strengths (e ∷ h)) → new.begun ≡ old.begun
    → new.happened ≡ old.happened + 1 → new.tracks ≡ old.tracks → IsQuiet q h e
    → ((i : Key) (j : ℕ) → accesses i j e ≡ false) → Stands q old h → Stands q new (e ∷ h)
stands-quiet q h e old new writers tells begun counted tracks quiet unseen stands =
    stands-next q h e old new writers tells begun counted quiet.introduces
    (subst (λ (ts : List InstanceTrack). Follows q (e ∷ h) ts) (sym tracks)
    (follows-quiet q h e old.tracks quiet unseen stands.follows))
    (lawful-quiet q h e unseen stands.lawful) stands
