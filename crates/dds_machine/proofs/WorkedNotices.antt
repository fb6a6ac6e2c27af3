-- What is flagged at the end of an event, whom it is told to, and what listeners keep, computed at a small peer: its
-- reader r1 is matched with one writer, and its writer w1 with nobody.
use Rattle.std.proofs.Common.{◌≡◌, ℕ, ◌-◌, ◌^◌, false, List, [], ◌∷◌, Option, Some, None, refl}
use Rattle.std.specs.Prelude.{negsuc, pos}
use Rattle.dds_base.specs.declared.change.ChangeKind.TheVariants.{Write as Writes}
use Rattle.dds_base.specs.declared.entity.Entity.TheVariants as entity
use Rattle.dds_base.specs.declared.happening.Happening.{Happening}
use Rattle.dds_base.specs.declared.happening.Happening.TheVariants.{Came, Passed, Heard, Died, Took}
use Rattle.dds_base.specs.declared.qos.HistoryQos.TheVariants.{KeepAll}
use Rattle.dds_base.specs.declared.qos.MatchedWriter.{MatchedWriter}
use Rattle.dds_base.specs.declared.qos.OwnershipQos.TheVariants.{Shared}
use Rattle.dds_base.specs.declared.qos.ReliabilityQos.TheVariants.{Reliable}
use Rattle.dds_base.specs.Bounds.{usual_arrivals}
use Rattle.dds_base.specs.Written.{Written, Asserted, LookedAt, Ticked}
use Rattle.dds_conditions.specs.Watched.{opened as nothing_watched}
use Rattle.dds_notices.specs.declared.mask.StatusMask.{StatusMask}
use Rattle.dds_notices.specs.declared.notice.Notice.{Notice}
use Rattle.dds_notices.specs.declared.notice.Status.{Status}
use Rattle.dds_notices.specs.declared.notice.Status.TheVariants.{SampleLost, DataAvailable, LivelinessLost, LivelinessChanged}
use Rattle.dds_notices.specs.Listeners.{Place, Places, nobody, taker_of}
use Rattle.dds_notices.specs.Notices.{keep_last}
use Rattle.dds_machine.specs.declared.call.Call.TheVariants as call
use Rattle.dds_machine.specs.declared.event.WorldEvent.TheVariants as event
use Rattle.dds_machine.specs.declared.reply.Reply.TheVariants as reply
use Rattle.dds_machine.specs.Noticing.{at_end, machine_ended, machine_with_place, told_of}
use Rattle.dds_machine.specs.Part.{Begun, Part, Seen, opened_with, no_writer, nothing_seen, own_reader, no_names}
use Rattle.dds_machine.specs.Passing.{passed_at}
use Rattle.dds_machine.specs.Watching.{Tests, status_changes}
use Rattle.dds_machine.specs.Calls.{CallStep, lost_at}

-- ---- the peer

abbrev leased : MatchedWriter
leased = record {
  guid = record { prefix = record { 0 = 1 ∷ [] }; entity = record { 0 = 2 ∷ [] } };
  strength = pos 0;
  lease = Some 10;
}

-- this happened at w1, whose lease is 10, and at r1, of which that was seen; and these are the places of listeners
abbrev pub part : List Written → Seen → List Happening → Places → Part
part written seen happened places = record {
  rtps = record {
    writers = record no_writer { lease = Some 10; written = written } ∷ [];
    readers = (record { writer = record { peer = 1; number = 1 }; place = 1; heard = None; how = Begun } ∷ []) ∷ [];
    names = no_names;
  };
  dds = record {
    moment = 0;
    readers = record {
      qos = record
          { ownership = Shared; reliability = Reliable; history = KeepAll; max_samples = None; max_instances = None; max_arrivals = usual_arrivals; writers = leased ∷ [] };
      happened = happened;
      seen = seen;
      matches = opened_with (record { peer = 1; number = 1 } ∷ []);
    } ∷ [];
    watch = nothing_watched 1 1;
    listeners = places;
  };
}

-- a write of the matched writer, with this number, of the instance of this key and with this value
abbrev pub written : ℕ → ℕ → List ℕ → Happening
written number key value = Came (record {
  writer = 1;
  number = number;
  change = record
      { kind = Writes; key = record { 0 = key ∷ [] }; value = value; source_timestamp = 0; strength = None };
  moment = 0;
})

-- one whose value says nothing here
abbrev pub came : ℕ → ℕ → Happening
came number key = written number key (1 ∷ [])

abbrev pub mask : ℕ → StatusMask
mask bits = record { 0 = bits }

-- a listener with this mask and room was told so
abbrev place : ℕ → ℕ → List Notice → Option Place
place bits room sent = Some (record { mask = mask bits; room = room; sent = sent })

-- listeners at the participant, at w1 and at r1
abbrev listeners : Option Place → Option Place → Option Place → Places
listeners at_participant at_writer at_reader =
    record { participant = at_participant; writers = at_writer ∷ []; readers = at_reader ∷ [] }

abbrev at_r1 : Status → Notice
at_r1 status = record { entity = entity.Reader 1; status = status }

abbrev at_w1 : Status → Notice
at_w1 status = record { entity = entity.Writer 1; status = status }

-- the matched writer has become alive
abbrev becomes_alive : Status
becomes_alive = LivelinessChanged (record {
  alive_count = pos 1;
  not_alive_count = pos 0;
  alive_count_change = pos 1;
  not_alive_count_change = pos 0;
  last_publication_handle = 1;
})

-- what is seen after so many entries of DATA_AVAILABLE, and of LIVELINESS_CHANGED where the writer was alive
abbrev pub seen : ℕ → ℕ → Seen
seen at_data at_turn = record nothing_seen { entries_at_data = at_data; alive = 1; entries_at_turn = at_turn }

-- ---- whom a status is told to

-- a listener of the entity that takes the status comes first, whatever that of the participant takes
taker-own : taker_of (listeners (place 1024 1 []) None (place 1024 1 [])) (entity.Reader 1) DataAvailable
    ≡ Some (entity.Reader 1)
taker-own = refl

-- one that takes another status alone leaves it to that of the participant
taker-participant : taker_of (listeners (place 1024 1 []) None (place 4096 1 [])) (entity.Reader 1) DataAvailable
    ≡ Some entity.Participant
taker-participant = refl

-- that of another entity never takes it
taker-nobody : taker_of (listeners (place 4096 1 []) (place 1024 1 []) None) (entity.Reader 1) DataAvailable ≡ None
taker-nobody = refl

-- ---- two samples at a reader with a listener

-- with the first the writer becomes alive too: the statuses are told by ascending bit, and are looked at so
abbrev told_first : List Notice
told_first = at_r1 DataAvailable ∷ at_r1 becomes_alive ∷ []

order-first : at_end (part [] nothing_seen [] (listeners None None (place 5120 2 [])))
    (part [] nothing_seen (came 1 1 ∷ []) (listeners None None (place 5120 2 [])))
    ≡ part [] (seen 1 1) (came 1 1 ∷ []) (listeners None None (place 5120 2 told_first))
unfolding at_end
order-first = refl

-- the second raises DATA_AVAILABLE alone
abbrev told_second : List Notice
told_second = at_r1 DataAvailable ∷ at_r1 becomes_alive ∷ at_r1 DataAvailable ∷ []

order-second : at_end (part [] (seen 1 1) (came 1 1 ∷ []) (listeners None None (place 5120 2 told_first)))
    (part [] (seen 1 1) (came 2 2 ∷ came 1 1 ∷ []) (listeners None None (place 5120 2 told_first)))
    ≡ part [] (seen 2 1) (came 2 2 ∷ came 1 1 ∷ []) (listeners None None (place 5120 2 told_second))
unfolding at_end
order-second = refl

-- then nothing is flagged, and a listener with room for two keeps the last two
order-flags : status_changes
    (part [] (seen 2 1) (came 2 2 ∷ came 1 1 ∷ []) (listeners None None (place 5120 2 told_second)))
    (entity.Reader 1) ≡ mask 0
order-flags = refl

order-kept : keep_last 2 told_second ≡ at_r1 becomes_alive ∷ at_r1 DataAvailable ∷ []
order-kept = refl

-- ---- a listener of the participant

-- it takes what that of the reader does not
participant-is_told : at_end (part [] nothing_seen [] (listeners (place 5120 4 []) None (place 4096 2 [])))
    (part [] nothing_seen (came 1 1 ∷ []) (listeners (place 5120 4 []) None (place 4096 2 [])))
    ≡ part [] (seen 1 1) (came 1 1 ∷ [])
    (listeners (place 5120 4 (at_r1 DataAvailable ∷ [])) None (place 4096 2 (at_r1 becomes_alive ∷ [])))
unfolding at_end
participant-is_told = refl

-- ---- nobody takes it

-- what is not told stays flagged
untold-stays : at_end (part [] nothing_seen [] (listeners None None (place 128 1 [])))
    (part [] nothing_seen (came 1 1 ∷ []) (listeners None None (place 128 1 [])))
    ≡ part [] nothing_seen (came 1 1 ∷ []) (listeners None None (place 128 1 []))
unfolding at_end
untold-stays = refl

untold-flags : status_changes (part [] nothing_seen (came 1 1 ∷ []) (listeners None None (place 128 1 [])))
    (entity.Reader 1) ≡ mask 5120
untold-flags = refl

-- and is not told later, as no event raises it again
untold-not_later : at_end (part [] nothing_seen (came 1 1 ∷ []) (listeners None None (place 5120 1 [])))
    (part [] nothing_seen (came 1 1 ∷ []) (listeners None None (place 5120 1 [])))
    ≡ part [] nothing_seen (came 1 1 ∷ []) (listeners None None (place 5120 1 []))
unfolding at_end
untold-not_later = refl

-- ---- changes that are passed over

abbrev lost : ℕ → ℕ → Status
lost total change = SampleLost (record { total_count = total; total_count_change = change })

-- SAMPLE_LOST has the least bit: it is told first; and its look leaves the other ones flagged
lost-is_first : at_end (part [] nothing_seen [] (listeners None None (place 1152 2 [])))
    (part [] nothing_seen (came 4 1 ∷ Passed 1 1 3 ∷ []) (listeners None None (place 1152 2 [])))
    ≡ part [] (record nothing_seen { lost = 3; entries_at_lost = 2; entries_at_data = 2 }) (came 4 1 ∷ Passed 1 1 3 ∷ [])
    (listeners None None (place 1152 2 (at_r1 (lost 3 3) ∷ at_r1 DataAvailable ∷ [])))
unfolding at_end
lost-is_first = refl

lost-leaves_the_turn : status_changes
    (part [] (record nothing_seen { lost = 3; entries_at_lost = 2; entries_at_data = 2 }) (came 4 1 ∷ Passed 1 1 3 ∷ [])
    (nobody 1 1)) (entity.Reader 1) ≡ mask 4096
lost-leaves_the_turn = refl

-- the position of the newest such entry counts from 1, whatever follows it
passed-none : passed_at (came 1 1 ∷ Heard 1 0 ∷ []) ≡ None
passed-none = refl

passed-last : passed_at (Took [] ∷ Passed 1 7 7 ∷ came 6 1 ∷ Passed 1 1 5 ∷ []) ≡ Some 3
passed-last = refl

-- where the total has come to its end, a change that is passed over is flagged and told like each before it
abbrev greatest : List Happening
greatest = Passed 1 1 (2 ^ 64 - 1) ∷ []

abbrev beyond : List Happening
beyond = Passed 2 1 5 ∷ greatest

abbrev seen_greatest : ℕ → Seen
seen_greatest entries = record nothing_seen { lost = 2 ^ 64 - 1; entries_at_lost = entries }

lost-at_the_end : status_changes (part [] (seen_greatest 1) greatest (nobody 1 1)) (entity.Reader 1) ≡ mask 0
lost-at_the_end = refl

lost-beyond : status_changes (part [] (seen_greatest 1) beyond (nobody 1 1)) (entity.Reader 1) ≡ mask 128
lost-beyond = refl

lost-beyond_says : lost_at (own_reader (part [] (seen_greatest 1) beyond (nobody 1 1)) 1)
    ≡ record { total_count = 2 ^ 64 - 1; total_count_change = 0 }
lost-beyond_says = refl

lost-beyond_told : at_end (part [] (seen_greatest 1) greatest (listeners None None (place 128 1 [])))
    (part [] (seen_greatest 1) beyond (listeners None None (place 128 1 [])))
    ≡ part [] (seen_greatest 2) beyond (listeners None None (place 128 1 (at_r1 (lost (2 ^ 64 - 1) 0) ∷ [])))
unfolding at_end
lost-beyond_told = refl

-- ---- a lease that runs out

abbrev has_died : Status
has_died = LivelinessChanged (record {
  alive_count = pos 0;
  not_alive_count = pos 1;
  alive_count_change = negsuc 0;
  not_alive_count_change = pos 1;
  last_publication_handle = 1;
})

abbrev loses : Status
loses = LivelinessLost (record { total_count = 1; total_count_change = 1 })

-- at one tick w1 loses its liveliness, and at r1 the matched writer dies: writers are told of first, and a telling is
-- entered as a look
lease-order : at_end (part (Asserted 0 ∷ []) (seen 1 1) (Heard 1 0 ∷ []) (listeners (place 6144 2 []) None None))
    (part (Ticked 10 false ∷ Asserted 0 ∷ []) (seen 1 1) (Died 1 10 ∷ Heard 1 0 ∷ [])
    (listeners (place 6144 2 []) None None))
    ≡ part (LookedAt ∷ Ticked 10 false ∷ Asserted 0 ∷ [])
    (record nothing_seen { entries_at_data = 1; alive = 0; not_alive = 1; entries_at_turn = 2 })
    (Died 1 10 ∷ Heard 1 0 ∷ []) (listeners (place 6144 2 (at_w1 loses ∷ at_r1 has_died ∷ [])) None None)
unfolding at_end
lease-order = refl

-- a listener of the writer is told in place of that of the participant
lease-at_the_writer : at_end
    (part (Asserted 0 ∷ []) nothing_seen [] (listeners (place 2048 2 []) (place 2048 2 []) None))
    (part (Ticked 10 false ∷ Asserted 0 ∷ []) nothing_seen [] (listeners (place 2048 2 []) (place 2048 2 []) None))
    ≡ part (LookedAt ∷ Ticked 10 false ∷ Asserted 0 ∷ []) nothing_seen []
    (listeners (place 2048 2 []) (place 2048 2 (at_w1 loses ∷ [])) None)
unfolding at_end
lease-at_the_writer = refl

-- a flag stays until the look
lease-flagged : status_changes (part (Ticked 10 false ∷ Asserted 0 ∷ []) nothing_seen [] (nobody 1 1)) (entity.Writer 1)
    ≡ mask 2048
lease-flagged = refl

lease-looked_at : status_changes (part (LookedAt ∷ Ticked 10 false ∷ Asserted 0 ∷ []) nothing_seen [] (nobody 1 1))
    (entity.Writer 1) ≡ mask 0
lease-looked_at = refl

-- the participant has no status of its own
participant-none : status_changes (part (Ticked 10 false ∷ Asserted 0 ∷ []) nothing_seen (came 1 1 ∷ []) (nobody 1 1))
    entity.Participant ≡ mask 0
participant-none = refl

-- one telling is one look, at one status of one entity
told-one : told_of (part [] nothing_seen (came 1 1 ∷ []) (listeners None None (place 5120 2 []))) (entity.Reader 1)
    DataAvailable
    ≡ part [] (record nothing_seen { entries_at_data = 1 }) (came 1 1 ∷ [])
    (listeners None None (place 5120 2 (at_r1 DataAvailable ∷ [])))
told-one = refl

-- ---- looks by a call

-- a look answers by what was seen before it, and clears its own flag alone
look-at_lost : (tests : Tests) → CallStep tests (part [] nothing_seen (came 4 1 ∷ Passed 1 1 3 ∷ []) (nobody 1 1))
    (call.GetSampleLost 1) (reply.SampleLost (record { total_count = 3; total_count_change = 3 }))
    (part [] (record nothing_seen { lost = 3; entries_at_lost = 2 }) (came 4 1 ∷ Passed 1 1 3 ∷ []) (nobody 1 1))
look-at_lost tests = record { answers = (refl, refl); rtps = refl }

look-at_the_turn : (tests : Tests) → CallStep tests (part [] (seen 1 1) (Died 1 10 ∷ Heard 1 0 ∷ []) (nobody 1 1))
    (call.GetLivelinessChanged 1) (reply.LivelinessChanged (record {
      alive_count = pos 0;
      not_alive_count = pos 1;
      alive_count_change = negsuc 0;
      not_alive_count_change = pos 1;
      last_publication_handle = 1;
    }))
    (part [] (record nothing_seen { entries_at_data = 1; alive = 0; not_alive = 1; entries_at_turn = 2 })
    (Died 1 10 ∷ Heard 1 0 ∷ []) (nobody 1 1))
look-at_the_turn tests = record { answers = (refl, refl); rtps = refl }

-- at a writer it is entered
look-at_a_writer : (tests : Tests) → CallStep tests (part (Ticked 10 false ∷ Asserted 0 ∷ []) nothing_seen [] (nobody 1 1))
    (call.GetLivelinessLost 1) (reply.LivelinessLost (record { total_count = 1; total_count_change = 1 }))
    (part (LookedAt ∷ Ticked 10 false ∷ Asserted 0 ∷ []) nothing_seen [] (nobody 1 1))
look-at_a_writer tests = record { answers = (refl, refl); rtps = refl }

-- one at the flags clears none
look-at_flags : (tests : Tests) → CallStep tests (part [] nothing_seen (came 1 1 ∷ []) (nobody 1 1))
    (call.GetStatusChanges (entity.Reader 1)) (reply.StatusChanges (mask 5120))
    (part [] nothing_seen (came 1 1 ∷ []) (nobody 1 1))
look-at_flags tests = record { answers = (refl, refl); rtps = refl }

-- ---- in a network

abbrev unheard : Part
unheard = part [] nothing_seen [] (listeners None None (place 1024 1 []))

abbrev heard : Part
heard = part [] nothing_seen (came 1 1 ∷ []) (listeners None None (place 1024 1 []))

abbrev ended : Part
ended =
    part [] (record nothing_seen { entries_at_data = 1 }) (came 1 1 ∷ [])
    (listeners None None (place 1024 1 (at_r1 DataAvailable ∷ [])))

-- the listeners of the event's peer alone are told
network-call : machine_ended (record { parts = unheard ∷ unheard ∷ [] }) (event.Call 1 (call.GetSampleLost 1))
    (record { parts = heard ∷ heard ∷ [] }) ≡ record { parts = ended ∷ heard ∷ [] }
unfolding at_end
network-call = refl

network-tick : machine_ended (record { parts = unheard ∷ unheard ∷ [] }) (event.Tick 2 0)
    (record { parts = heard ∷ heard ∷ [] }) ≡ record { parts = heard ∷ ended ∷ [] }
unfolding at_end
network-tick = refl

network-delivery : machine_ended (record { parts = unheard ∷ unheard ∷ [] }) (event.Deliver 2 1)
    (record { parts = heard ∷ heard ∷ [] }) ≡ record { parts = heard ∷ ended ∷ [] }
unfolding at_end
network-delivery = refl

-- a listener is set at one entity of one peer, in the place of any that was there
network-is_set : machine_with_place (record { parts = heard ∷ heard ∷ [] }) 2 (entity.Reader 1) (place 5120 2 [])
    ≡ record { parts = heard ∷ part [] nothing_seen (came 1 1 ∷ []) (listeners None None (place 5120 2 [])) ∷ [] }
network-is_set = refl
