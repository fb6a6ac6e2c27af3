-- Our peer of the network with another participant, and what it does (RTPS 2.5, 8.5.4: SEDP).
use Rattle.std.specs.Prelude.{◌≡◌, ℕ, List, [], negsuc}
use Rattle.dds_base.specs.declared.guid.GuidPrefix.{GuidPrefix}
use Rattle.dds_base.specs.declared.mask.Masks.{Masks}
use Rattle.dds_base.specs.declared.sample.Sample.{Sample}
use Rattle.dds_base.specs.declared.selection.Selection.TheVariants.{Any}
use Rattle.dds_conditions.specs.Filtered.{tests_of}
use Rattle.dds_core.specs.Listening.{CoreKept, StandsFor, Steps, no_listeners}
use Rattle.dds_core.specs.Opening.{opening_peer}
use Rattle.dds_core.specs.Ruling.{IsSound}
use Rattle.dds_machine.specs.declared.call.Call.TheVariants.{Take}
use Rattle.dds_machine.specs.declared.reply.Reply.{Reply}
use Rattle.dds_machine.specs.declared.reply.Reply.TheVariants.{Samples}
use Rattle.dds_protocol.specs.declared.event.Event.{Event}
use Rattle.dds_protocol.specs.declared.event.Event.TheVariants.{Call, Deliver}
use Rattle.dds_protocol.specs.declared.event.Output.{Output}
use Rattle.dds_protocol.specs.Roster.{roster_of}
use Rattle.rtps_announcements.specs.declared.participant.Participant.{Participant}
use Rattle.dds_builtin.specs.Builtin.{network_of, number_of}
use Rattle.dds_network.specs.declared.network.Network.{Network}
use Rattle.dds_network.specs.declared.quiet.NoFilter.{NoFilter}
use Rattle.dds_network.specs.declared.quiet.NoListener.{NoListener}
use Rattle.dds_network.specs.Quiet.{has_no_room, keeps_nothing, nothing_passes, stays_as_it_is}
use Rattle.dds_network.specs.Works.{new_work}

-- a peer without filters and listeners
abbrev pub Kept : Type 0
Kept = CoreKept NoFilter NoListener

-- The event is a step of the peer: of the machine, by the rules of the protocol.
abbrev pub Does : Kept → Event → Output → Kept → Type 0
Does old event output new =
    Steps keeps_nothing has_no_room stays_as_it_is (tests_of nothing_passes old.filtered.filters) old event output new

-- The peer begins as our peer of the network with a participant.
pub record IsOpening (own : GuidPrefix) (far : Participant) (core : Kept) : Type 0 where
  pub stands : StandsFor keeps_nothing has_no_room stays_as_it_is
      (no_listeners (opening_peer (network_of own far) (number_of own far)).part) core
      (roster_of (network_of own far)) (opening_peer (network_of own far) (number_of own far))
  pub known : IsSound (roster_of (network_of own far)) (opening_peer (network_of own far) (number_of own far))
  pub filters : core.filtered.filters ≡ []

-- A network was opened with a participant: nothing was taken of its readers yet.
pub record IsOpened (own : GuidPrefix) (far : Participant) (removed : ℕ) (n : Network) : Type 0 where
  pub prefix : n.prefix ≡ far.prefix
  pub core : IsOpening own far n.core
  pub publications : n.publications.items ≡ []
  pub subscriptions : n.subscriptions.items ≡ []
  pub work : n.work ≡ new_work removed

-- Its peer did an event, which gave this back, and nothing else of it changed.
pub record Goes (old : Network) (event : Event) (output : Output) (new : Network) : Type 0 where
  pub core : Does old.core event output new.core
  pub prefix : new.prefix ≡ old.prefix
  pub publications : new.publications ≡ old.publications
  pub subscriptions : new.subscriptions ≡ old.subscriptions
  pub work : new.work ≡ old.work

-- all samples of a reader are taken
abbrev pub takes_all : ℕ → Masks → Event
takes_all reader masks = Call (Take reader (Any (negsuc 0) masks))

-- the samples that answer
abbrev pub samples_of : Reply → List Sample
samples_of (Samples samples) = samples
samples_of _ = []

-- A datagram comes at the peer; then all samples of its first two readers are taken, and stand in place of those of before.
pub record TakesIn (masks : Masks) (old : Network) (bytes : List ℕ) (output : Output) (new : Network) : Type 0 where
  pub heard : Kept
  pub between : Kept
  pub first : Output
  pub second : Output
  pub deliver : Does old.core (Deliver bytes) output heard
  pub takes_publications : Does heard (takes_all 1 masks) first between
  pub takes_subscriptions : Does between (takes_all 2 masks) second new.core
  pub publications : new.publications.items ≡ samples_of first.reply
  pub subscriptions : new.subscriptions.items ≡ samples_of second.reply
  pub prefix : new.prefix ≡ old.prefix
  pub work : new.work ≡ old.work
