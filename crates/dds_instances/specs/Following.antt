-- How each track follows its instance, and what is kept for those to come. Inner functions alone cite this: nothing here
-- has to be believed.
--
-- DDS 1.4, 2.2.2.5 (SampleInfo: instance_handle, instance_state, view_state, the two generation counts).
use Rattle.std.specs.Prelude.{◌≡◌, ◌≢◌, ℕ, ◌+◌, ◌<◌, ◌≤◌, Bool, List, [], ◌∷◌, ◌++◌, length, map, All, true, false, slice_index_or}
use Rattle.std.specs.List.{list_any}
use Rattle.dds_base.specs.declared.key.Key.{Key}
use Rattle.dds_base.specs.declared.happening.Arrival.{Arrival}
use Rattle.dds_base.specs.declared.happening.Happening.{Happening}
use Rattle.dds_base.specs.declared.happening.Happening.TheVariants.{Came}
use Rattle.dds_base.specs.declared.qos.ReaderQos.{ReaderQos}
use Rattle.dds_base.specs.Access.{lives_begun}
use Rattle.dds_base.specs.Happening.{same_key}
use Rattle.dds_base.specs.Instance.{known_instances, introduced_by, is_known, latest_rebirth, accesses}
use Rattle.dds_base.specs.Life.{ends_with_write, has_there, last_marker}
use Rattle.dds_base.specs.Ownership.{AreOfMatched, writers_of}
use Rattle.dds_instances.specs.declared.known.KnownInstance.{KnownInstance}
use Rattle.dds_instances.specs.declared.track.InstanceTrack.{InstanceTrack}
use Rattle.dds_instances.specs.Known.{IsKnown}
use Rattle.dds_owner.specs.Standing.{IsBlank, Kept, KeptStrengths, TellsStrengths, places_of}
use Rattle.dds_instances.specs.Track.{Tracks, lives_on, one_if}

-- the instance of a track
abbrev pub key_of : InstanceTrack → Key
key_of t = t.key

-- each track has followed its instance
abbrev pub Each : ReaderQos → List Happening → List InstanceTrack → Type 0
Each q h ts = All (λ (t : InstanceTrack). Tracks q t.key h t) ts

-- the tracks are those of the known instances, by handle, at a reader at which entries name matched writers alone
pub record Follows (q : ReaderQos) (h : List Happening) (ts : List InstanceTrack) : Type 0 where
  pub keys_are : map key_of ts ≡ known_instances q h
  pub each : Each q h ts
  pub matched : AreOfMatched q h

-- the tracks have taken the entry up: those of the instances that were known or become so, by handle, and each has
-- followed its instance, if the life of that goes on
pub record Reaches (q : ReaderQos) (h : List Happening) (e : Happening) (ts : List InstanceTrack) : Type 0 where
  pub keys_are : map key_of ts ≡ known_instances q h ++ introduced_by q h e
  pub each : All (λ (t : InstanceTrack). is_known q (e ∷ h) t.key ≡ true → Tracks q t.key (e ∷ h) t) ts
  pub matched : AreOfMatched q (e ∷ h)

-- it is noted right of each track whether something of its instance is present
abbrev pub HeldRight : ReaderQos → List Happening → List InstanceTrack → Type 0
HeldRight q h ts = All (λ (t : InstanceTrack). t.is_held ≡ has_there q h t.key (last_marker q t.key h)) ts

-- reads and takes returned samples of the past alone, and of known instances, so none of an unknown one since its last
-- life ended
pub record IsLawful (q : ReaderQos) (h : List Happening) : Type 0 where
  pub past : (i : Key) (j : ℕ) → length h < j → list_any (accesses i j) h ≡ false
  pub strangers : (i : Key) → is_known q h i ≡ false → list_any (accesses i (latest_rebirth q i h)) h ≡ false

-- the tracks follow what happened before the entry of this position
pub record FollowsBefore (q : ReaderQos) (h : List Happening) (position : ℕ) (ts : List InstanceTrack) : Type 0 where
  pub place : length h + 1 ≡ position
  pub lawful : IsLawful q h
  pub follows : Follows q h ts

-- the tracks may take up a change as the entry of this position, by what is kept of the strengths
pub record MayTakeUp (q : ReaderQos) (strengths : KeptStrengths) (h : List Happening) (position : ℕ)
    (ts : List InstanceTrack) : Type 0 where
  pub before : FollowsBefore q h position ts
  pub tells : TellsStrengths strengths h

-- the tracks have taken up a change that came, and a life begins with it where this says so
pub record TakeUp (q : ReaderQos) (h : List Happening) (a : Arrival) (ts : List InstanceTrack) (begins : Bool)
    : Type 0 where
  pub reaches : Reaches q h (Came a) ts
  pub begun : length (introduced_by q h (Came a)) ≡ one_if begins

-- the tracks have taken up a change that came, one more write of a known instance: no life has begun or ended with it, and
-- this is known of the instance then
pub record TakesWrite (q : ReaderQos) (h : List Happening) (a : Arrival) (ts : List InstanceTrack) (known : KnownInstance)
    : Type 0 where
  pub follows : Follows q (Came a ∷ h) ts
  pub begun : introduced_by q h (Came a) ≡ []
  pub lives : known_instances q (Came a ∷ h) ≡ known_instances q h
  pub written : ends_with_write q a.change.key (Came a ∷ h) ≡ true
  pub key : known.key ≡ a.change.key
  pub told : IsKnown q (Came a ∷ h) known

-- the next life that begins is to have this handle and these owners, which are blank
pub record IsForNextLife (q : ReaderQos) (h : List Happening) (handle : ℕ) (blank : Kept) : Type 0 where
  pub handle_is : handle ≡ lives_begun q h + 1
  pub blank_is : IsBlank (length (writers_of q h)) blank

-- the track at a place has a place for a writer
abbrev pub HasPlace : List InstanceTrack → ℕ → ℕ → Type 0
HasPlace ts at w = (d : InstanceTrack) → w ≤ places_of (slice_index_or ts at d).owners

-- exactly the tracks of known instances live on
abbrev pub LivesRight : ReaderQos → List Happening → List InstanceTrack → Type 0
LivesRight q h ts = All (λ (t : InstanceTrack). lives_on t ≡ is_known q h t.key) ts

-- owners of n writers for the instances that become known
abbrev pub AreBlank : ℕ → List Kept → Type 0
AreBlank n blanks = All (IsBlank n) blanks

-- the key stands at this index, and at no other
pub record IsPlaceOf (ks : List Key) (i : Key) (at : ℕ) : Type 0 where
  pub within : at < length ks
  pub is : (d : Key) → slice_index_or ks at d ≡ i
  pub apart : (k : ℕ) (d : Key) → k < length ks → k ≢ at → same_key i (slice_index_or ks k d) ≡ false
