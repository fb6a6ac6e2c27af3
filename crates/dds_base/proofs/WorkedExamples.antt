-- What the definitions of a reader give on small lists of what happened, computed.
use Rattle.std.proofs.Common.{◌≡◌, ℕ, List, [], ◌∷◌, Bool, true, false, refl, Some, None, map, Option}
use Rattle.std.specs.Prelude.{ℤ, pos, negsuc}
use Rattle.dds_base.specs.declared.code.Code.TheVariants.{BadParameter}
use Rattle.dds_base.specs.declared.key.Key.{Key}
use Rattle.dds_base.specs.declared.change.ChangeKind.{ChangeKind}
use Rattle.dds_base.specs.declared.change.ChangeKind.TheVariants.{Write, Dispose, Unregister, DisposeUnregister}
use Rattle.dds_base.specs.declared.happening.SamplePosition.{SamplePosition}
use Rattle.dds_base.specs.declared.happening.Happening.{Happening}
use Rattle.dds_base.specs.declared.happening.Happening.TheVariants.{Came, Died, Read, Took}
use Rattle.dds_base.specs.declared.sample.SampleInfo.{SampleInfo}
use Rattle.dds_base.specs.declared.sample.Sample.{Sample}
use Rattle.dds_base.specs.declared.sample.SampleState.TheVariants.{Read as R, NotRead as NR}
use Rattle.dds_base.specs.declared.sample.ViewState.TheVariants.{New, NotNew}
use Rattle.dds_base.specs.declared.sample.InstanceState.TheVariants.{Alive, NotAliveNoWriters, NotAliveDisposed}
use Rattle.dds_base.specs.declared.sample.SampleState.{SampleState}
use Rattle.dds_base.specs.declared.sample.ViewState.{ViewState}
use Rattle.dds_base.specs.declared.sample.InstanceState.{InstanceState}
use Rattle.dds_base.specs.declared.mask.Masks.{Masks}
use Rattle.dds_base.specs.declared.qos.ReaderQos.{ReaderQos}
use Rattle.dds_base.specs.declared.qos.MatchedWriter.{MatchedWriter}
use Rattle.dds_base.specs.declared.qos.OwnershipQos.TheVariants.{Shared, Exclusive}
use Rattle.dds_base.specs.declared.qos.ReliabilityQos.TheVariants.{Reliable}
use Rattle.dds_base.specs.declared.qos.HistoryQos.TheVariants.{KeepAll, KeepLast}
use Rattle.dds_base.specs.declared.selection.Selection.{Selection}
use Rattle.dds_base.specs.declared.selection.Selection.TheVariants as selection
use Rattle.dds_base.specs.Bounds.{usual_arrivals}
use Rattle.dds_base.specs.Presence.{has_room}
use Rattle.dds_base.specs.Access.{picked_samples, no_filter, collection_of, handle_of, instance_of}
use Rattle.dds_base.specs.Instance.{instance_state_of, known_instances}
use Rattle.dds_base.specs.Selection.{picked_by, selection_refusal}

abbrev key : Key
key = record { 0 = 1 ∷ 0 ∷ [] }

abbrev came : ℕ → ℕ → ChangeKind → List ℕ → Happening
came w n k v =
    Came (record {
      writer = w;
      number = n;
      change = record { kind = k; key = key; value = v; source_timestamp = 0; strength = None };
      moment = 0;
    })

-- a writer of strength 5 without a lease, of this entity id
abbrev writer_of : ℕ → MatchedWriter
writer_of n =
    record {
      guid = record { prefix = record { 0 = 1 ∷ [] }; entity = record { 0 = n ∷ [] } };
      strength = pos 5;
      lease = None;
    }

abbrev writer_a : MatchedWriter
writer_a = writer_of 2

abbrev writer_b : MatchedWriter
writer_b = writer_of 3

abbrev shared : ReaderQos
shared =
    record {
      ownership = Shared;
      reliability = Reliable;
      history = KeepAll;
      max_samples = None;
      max_instances = None;
      max_arrivals = usual_arrivals;
      writers = writer_a
          ∷ [];
    }

abbrev exclusive : ReaderQos
exclusive =
    record {
      ownership = Exclusive;
      reliability = Reliable;
      history = KeepAll;
      max_samples = None;
      max_instances = None;
      max_arrivals = usual_arrivals;
      writers = writer_a
          ∷ writer_b ∷ [];
    }

abbrev last_two : ReaderQos
last_two =
    record {
      ownership = Shared;
      reliability = Reliable;
      history = KeepLast 2;
      max_samples = None;
      max_instances = None;
      max_arrivals = usual_arrivals;
      writers = writer_a
          ∷ [];
    }

abbrev any : Masks
any = record { samples = record { 0 = 65535 }; views = record { 0 = 65535 }; instances = record { 0 = 65535 } }

abbrev not_read : Masks
not_read = record { samples = record { 0 = 2 }; views = record { 0 = 65535 }; instances = record { 0 = 65535 } }

abbrev picked : ReaderQos → List Happening → Option ℕ → Masks → List SamplePosition
picked q h max masks = picked_samples q h max masks no_filter

abbrev answer : ReaderQos → List Happening → Option ℕ → Masks → List SampleInfo
answer q h max masks = map (λ (s : Sample). s.info) (collection_of q h (picked q h max masks))

-- a sample's line: states, counts, ranks, then whether it has data, and the publication handle
abbrev info : SampleState → ViewState → InstanceState → ℕ → ℕ → ℕ → ℕ → ℕ → Bool → ℕ → SampleInfo
info s v i d n sr gr ar valid w =
    record {
      sample_state = s;
      view_state = v;
      instance_state = i;
      disposed_generation_count = d;
      no_writers_generation_count = n;
      sample_rank = sr;
      generation_rank = gr;
      absolute_generation_rank = ar;
      source_timestamp = 0;
      instance_handle = 1;
      publication_handle = w;
      valid_data = valid;
    }

-- a write, a dispose, a write
abbrev disposed_once : List Happening
disposed_once = came 1 3 Write (2 ∷ []) ∷ came 1 2 Dispose [] ∷ came 1 1 Write (1 ∷ []) ∷ []

take-after_rebirth : answer shared disposed_once None any
    ≡ info NR New Alive 0 0 2 1 1 true 1 ∷ info NR New Alive 0 0 1 1 1 false 1 ∷ info NR New Alive 1 0 0 0 0 true 1 ∷ []
take-after_rebirth = refl

values-after_rebirth : map (λ (s : Sample). s.value)
    (collection_of shared disposed_once (picked shared disposed_once None any)) ≡ (1 ∷ []) ∷ [] ∷ (2 ∷ []) ∷ []
values-after_rebirth = refl

read-one : answer shared disposed_once (Some 1) any ≡ info NR New Alive 0 0 0 0 1 true 1 ∷ []
read-one = refl

read-again : answer shared (Read (picked shared disposed_once (Some 1) any) ∷ disposed_once) None any
    ≡ info R New Alive 0 0 2 1 1 true 1 ∷ info NR New Alive 0 0 1 1 1 false 1 ∷ info NR New Alive 1 0 0 0 0 true 1 ∷ []
read-again = refl

-- two writers of equal strength: the one of smaller GUID owns
abbrev three_writes : List Happening
three_writes = came 2 2 Write (178 ∷ []) ∷ came 1 1 Write (161 ∷ []) ∷ came 2 1 Write (177 ∷ []) ∷ []

read-exclusive : answer exclusive three_writes None any
    ≡ info NR New Alive 0 0 1 0 0 true 2 ∷ info NR New Alive 0 0 0 0 0 true 1 ∷ []
read-exclusive = refl

read-after_unregister : answer exclusive
    (came 1 2 Unregister [] ∷ Read (picked exclusive three_writes None any) ∷ three_writes) None any
    ≡ info R NotNew Alive 0 0 1 0 0 true 2 ∷ info R NotNew Alive 0 0 0 0 0 true 1 ∷ []
read-after_unregister = refl

-- two writers that are configured with strength 5, of which the second begins with 7: the owner goes by the strength
-- of each one's last change that came, whichever instance that was of
abbrev strong : ℕ → ℕ → ℕ → List ℕ → ℤ → Happening
strong w n i v s =
    Came (record {
      writer = w;
      number = n;
      change = record {
        kind = Write;
        key = record { 0 = i ∷ 0 ∷ [] };
        value = v;
        source_timestamp = 0;
        strength = Some s;
      };
      moment = 0;
    })

abbrev seven_writes : List Happening
seven_writes =
    strong 2 3 1 (179 ∷ []) (pos 8) ∷ strong 1 4 2 (193 ∷ []) (negsuc 0) ∷ strong 2 2 1 (178 ∷ []) (pos 8)
    ∷ strong 1 3 1 (163 ∷ []) (pos 9) ∷ strong 1 2 1 (162 ∷ []) (pos 5) ∷ strong 2 1 1 (177 ∷ []) (pos 7)
    ∷ strong 1 1 1 (161 ∷ []) (pos 5) ∷ []

abbrev values_of : ReaderQos → List Happening → List (List ℕ)
values_of q h = map (λ (s : Sample). s.value) (collection_of q h (picked q h None any))

values-by_strength : values_of exclusive seven_writes
    ≡ (161 ∷ []) ∷ (177 ∷ []) ∷ (163 ∷ []) ∷ (179 ∷ []) ∷ (193 ∷ []) ∷ []
values-by_strength = refl

-- a change that says no strength leaves it as it was
owner-silent : values_of exclusive (came 2 2 Write (178 ∷ []) ∷ strong 2 1 1 (177 ∷ []) (pos 7)
    ∷ came 1 1 Write (161 ∷ []) ∷ []) ≡ (161 ∷ []) ∷ (177 ∷ []) ∷ (178 ∷ []) ∷ []
owner-silent = refl

-- depth 2: a taken sample does not let an older one back
abbrev two_writes : List Happening
two_writes = came 1 2 Write (2 ∷ []) ∷ came 1 1 Write (1 ∷ []) ∷ []

abbrev one_read : List Happening
one_read = Read (picked last_two two_writes (Some 1) any) ∷ two_writes

read-depth : answer last_two two_writes (Some 1) any ≡ info NR New Alive 0 0 0 0 0 true 1 ∷ []
read-depth = refl

take-depth : answer last_two one_read None not_read ≡ info NR NotNew Alive 0 0 0 0 0 true 1 ∷ []
take-depth = refl

read-depth_again : answer last_two
    (came 1 3 Write (3 ∷ []) ∷ Took (picked last_two one_read None not_read) ∷ one_read) None any
    ≡ info NR NotNew Alive 0 0 0 0 0 true 1 ∷ []
read-depth_again = refl

-- a write, an unregister, a write
take-no_writers : answer shared (came 1 3 Write (2 ∷ []) ∷ came 1 2 Unregister [] ∷ came 1 1 Write (1 ∷ []) ∷ []) None
    any ≡ info NR New Alive 0 0 2 1 1 true 1 ∷ info NR New Alive 0 0 1 1 1 false 1 ∷ info NR New Alive 0 1 0 0 0 true 1
    ∷ []
take-no_writers = refl

-- a dispose of an instance without writers raises no count, and its marker replaces the older one
take-dispose_without_writers : answer shared
    (came 1 4 Write (2 ∷ []) ∷ came 1 3 Dispose [] ∷ came 1 2 Unregister [] ∷ came 1 1 Write (1 ∷ []) ∷ []) None any
    ≡ info NR New Alive 0 0 2 1 1 true 1 ∷ info NR New Alive 0 0 1 1 1 false 1 ∷ info NR New Alive 1 0 0 0 0 true 1 ∷ []
take-dispose_without_writers = refl

-- a dispose with unregister leaves the instance DISPOSED, with one marker
take-dispose_unregister : answer shared (came 1 2 DisposeUnregister [] ∷ came 1 1 Write (1 ∷ []) ∷ []) None any
    ≡ info NR New NotAliveDisposed 0 0 1 0 0 true 1 ∷ info NR New NotAliveDisposed 0 0 0 0 0 false 1 ∷ []
take-dispose_unregister = refl

-- of two deaths in one tick the second turns the instance, and the marker names that writer
publications-two_deaths : map (λ (i : SampleInfo). i.publication_handle)
    (answer exclusive (Died 2 7 ∷ Died 1 7 ∷ came 2 1 Write (2 ∷ []) ∷ came 1 1 Write (1 ∷ []) ∷ []) None any)
    ≡ 1 ∷ 2 ∷ []
publications-two_deaths = refl

-- a writer's death leaves a sample without data, of the moment of the death
timestamps-death : map (λ (i : SampleInfo). i.source_timestamp)
    (answer shared (Died 1 7 ∷ came 1 1 Write (1 ∷ []) ∷ []) None any) ≡ 0 ∷ 7 ∷ []
timestamps-death = refl

states-death : map (λ (i : SampleInfo). i.instance_state)
    (answer shared (Died 1 7 ∷ came 1 1 Write (1 ∷ []) ∷ []) None any) ≡ NotAliveNoWriters ∷ NotAliveNoWriters ∷ []
states-death = refl

-- a limit of one sample: no room for a second write until the first was taken
abbrev limited : ReaderQos
limited =
    record {
      ownership = Shared;
      reliability = Reliable;
      history = KeepAll;
      max_samples = Some 1;
      max_instances = None;
      max_arrivals = usual_arrivals;
      writers = writer_a
          ∷ [];
    }

abbrev one_write : List Happening
one_write = came 1 1 Write (1 ∷ []) ∷ []

has_room-full : has_room limited one_write (came 1 2 Write (2 ∷ [])) ≡ false
has_room-full = refl

has_room-taken : has_room limited (Took (picked limited one_write None any) ∷ one_write) (came 1 2 Write (2 ∷ []))
    ≡ true
has_room-taken = refl

-- a life of two changes: an unregister counts as one, and what was taken counts too
abbrev short_lived : ReaderQos
short_lived = record shared { max_arrivals = 2 }

has_room-last : has_room short_lived one_write (came 1 2 Unregister []) ≡ true
has_room-last = refl

has_room-over : has_room short_lived (came 1 2 Unregister [] ∷ Took (picked shared one_write None any) ∷ one_write)
    (came 1 3 Write (2 ∷ [])) ≡ false
has_room-over = refl

-- two instances, with a write each
abbrev two_instances : List Happening
two_instances =
    Came (record {
      writer = 1;
      number = 2;
      change = record {
        kind = Write;
        key = record { 0 = 2 ∷ 0 ∷ [] };
        value = 2
            ∷ [];
        source_timestamp = 0;
        strength = None;
      };
      moment = 0;
    }) ∷ one_write

-- all samples that meet the masks, of an instance and of the next one
abbrev of_instance : ℕ → Selection
of_instance handle = selection.Instance handle (negsuc 0) any

abbrev after_instance : ℕ → Selection
after_instance previous = selection.NextInstance previous (negsuc 0) any

abbrev chosen : List Happening → Selection → List SamplePosition
chosen h s = picked_by shared h s no_filter

-- the positions of what an access picks
abbrev positions : List Happening → Selection → List ℕ
positions h s = map (λ (p : SamplePosition). p.position) (chosen h s)

pick-instance : positions two_instances (of_instance 2) ≡ 2 ∷ []
pick-instance = refl

pick-next : positions two_instances (after_instance 1) ≡ 2 ∷ []
pick-next = refl

pick-next_of_none : positions two_instances (after_instance 0) ≡ 1 ∷ []
pick-next_of_none = refl

pick-next_of_last : positions two_instances (after_instance 2) ≡ []
pick-next_of_last = refl

-- an instance without a match is passed over, and the form of one instance finds nothing
pick-next_without_match : positions (Took (chosen two_instances (of_instance 1)) ∷ two_instances) (after_instance 0)
    ≡ 2 ∷ []
pick-next_without_match = refl

pick-instance_without_match : positions (Took (chosen two_instances (of_instance 1)) ∷ two_instances) (of_instance 1)
    ≡ []
pick-instance_without_match = refl

-- the next sample is the first one that was not read
pick-next_sample : positions (Read (chosen two_instances selection.NextSample) ∷ two_instances) selection.NextSample
    ≡ 2 ∷ []
pick-next_sample = refl

-- an instance has to be known, the one before the next need not be; a max is -1 or positive
refuse-unknown : selection_refusal shared two_instances (of_instance 3) ≡ Some BadParameter
refuse-unknown = refl

refuse-nil : selection_refusal shared two_instances (of_instance 0) ≡ Some BadParameter
refuse-nil = refl

refuse-none : selection_refusal shared two_instances (selection.Any (pos 0) any) ≡ Some BadParameter
refuse-none = refl

take-known : selection_refusal shared two_instances (of_instance 2) ≡ None
take-known = refl

take-any_previous : selection_refusal shared two_instances (after_instance 12) ≡ None
take-any_previous = refl

-- ---- lives

-- what is picked, with the handle that it has
abbrev handles : List Happening → List ℕ
handles h = map (λ (s : Sample). s.info.instance_handle) (collection_of shared h (picked shared h None any))

-- a write and an unregister, of which both samples are taken: then nobody is registered and nothing is present
abbrev left : List Happening
left = came 1 2 Unregister [] ∷ came 1 1 Write (1 ∷ []) ∷ []

abbrev forgotten : List Happening
forgotten = Took (picked shared left None any) ∷ left

left-still : answer shared left None any
    ≡ info NR New NotAliveNoWriters 0 0 1 0 0 true 1 ∷ info NR New NotAliveNoWriters 0 0 0 0 0 false 1 ∷ []
left-still = refl

forgotten-unknown : instance_state_of shared key forgotten ≡ None
forgotten-unknown = refl

forgotten-handle : handle_of shared forgotten key ≡ 0
forgotten-handle = refl

forgotten-instance : instance_of shared forgotten 1 ≡ None
forgotten-instance = refl

-- while a marker is present, or somebody is registered, an instance stays known
marked-known : instance_of shared (Took (picked shared left (Some 1) any) ∷ left) 1 ≡ Some key
marked-known = refl

registered-known : instance_of shared (Took (picked shared one_write None any) ∷ one_write) 1 ≡ Some key
registered-known = refl

-- an unregister ends a life where the last sample was taken before
abbrev disposed_taken : List Happening
disposed_taken =
    Took (picked shared (came 1 2 Dispose [] ∷ one_write) None any) ∷ came 1 2 Dispose [] ∷ one_write

disposed-known : instance_of shared disposed_taken 1 ≡ Some key
disposed-known = refl

disposed-unregistered : known_instances shared (came 1 3 Unregister [] ∷ disposed_taken) ≡ []
disposed-unregistered = refl

-- so does the death of the last writer
disposed-died : known_instances shared (Died 1 0 ∷ disposed_taken) ≡ []
disposed-died = refl

-- a new life begins with the next handle, with counts of 0 and the view NEW
abbrev reborn : List Happening
reborn = came 1 3 Write (2 ∷ []) ∷ forgotten

reborn-handle : handles reborn ≡ 2 ∷ []
reborn-handle = refl

reborn-instance : instance_of shared reborn 2 ≡ Some key
reborn-instance = refl

reborn-old_handle : instance_of shared reborn 1 ≡ None
reborn-old_handle = refl

reborn-new : map (λ (s : Sample). s.info.view_state) (collection_of shared reborn (picked shared reborn None any))
    ≡ New ∷ []
reborn-new = refl

reborn-counts : map (λ (s : Sample). s.info.no_writers_generation_count)
    (collection_of shared reborn (picked shared reborn None any)) ≡ 0 ∷ []
reborn-counts = refl

-- an instance that is forgotten counts against no limit
abbrev one_instance : ReaderQos
one_instance = record shared { max_instances = Some 1 }

abbrev another : Happening
another =
    Came (record {
      writer = 1;
      number = 3;
      change = record {
        kind = Write;
        key = record { 0 = 2 ∷ 0 ∷ [] };
        value = [];
        source_timestamp = 0;
        strength = None;
      };
      moment = 0;
    })

has_room-left : has_room one_instance left another ≡ false
has_room-left = refl

has_room-forgotten : has_room one_instance forgotten another ≡ true
has_room-forgotten = refl
