-- What our peer of a network is to do (RTPS 2.5, 8.5.4: SEDP; 8.4.13: participant messages).
use Rattle.std.specs.Prelude.{◌≡◌, ◌⊎◌, ℕ, ◌<◌, ◌≤◌, Bool, true, false, List, [], ◌∷◌, length, slice_index_or, slice_get, Option, Some, None}
use Rattle.std.specs.Option.{option_map}
use Rattle.dds_base.specs.declared.code.Code.TheVariants.{Memory}
use Rattle.dds_base.specs.declared.guid.GuidPrefix.{GuidPrefix}
use Rattle.rtps_announcements.specs.declared.qos.EndpointKind.{EndpointKind}
use Rattle.rtps_announcements.specs.declared.qos.EndpointKind.TheVariants.{Reader, Writer}
use Rattle.rtps_matching.specs.declared.end.End.{End}
use Rattle.dds_builtin.specs.Keys.{Writes, key_of, message_key}
use Rattle.dds_machine.specs.declared.call.Call.TheVariants.{AssertLiveliness, Unregister, Write}
use Rattle.dds_machine.specs.declared.reply.Reply.{Reply}
use Rattle.dds_machine.specs.declared.reply.Reply.TheVariants.{Refused}
use Rattle.dds_protocol.specs.declared.event.Event.{Event}
use Rattle.dds_protocol.specs.declared.event.Event.TheVariants.{Call, Tick}
use Rattle.dds_protocol.specs.declared.event.Output.{Output}
use Rattle.dds_network.specs.declared.network.Network.{Network}
use Rattle.dds_network.specs.declared.work.Task.{Task}
use Rattle.dds_network.specs.declared.work.Task.TheVariants as task
use Rattle.dds_network.specs.declared.work.Work.{Work}
use Rattle.dds_network.specs.Networks.{Goes}
use Rattle.dds_network.specs.Works.{after_task}
use Rattle.dds_discovery.specs.declared.link.Link.{Link}
use Rattle.dds_discovery.specs.declared.link.Removed.{Removed}
use Rattle.dds_discovery.specs.declared.tasks.Ours.{Ours}

-- who we are, our endpoints, those that were taken out, and the moment
pub record Having : Type 0 where
  pub prefix : GuidPrefix
  pub own : List End
  pub removed : List Removed
  pub time : ℕ

abbrev pub ours_of : Ours → Having
ours_of o = record { prefix = o.prefix; own = o.own.now; removed = o.removed.now; time = o.time }

-- the number of the builtin writer that tells of endpoints of a kind
abbrev pub writer_of : EndpointKind → ℕ
writer_of Writer = 1
writer_of Reader = 2

-- An endpoint of ours is written, where it can be; there is none of this place, or it has no written form that is short enough.
abbrev pub Announces : List End → ℕ → Option Event → Type 0
Announces own place None =
    (length own ≤ place) ⊎ ((e : End) × (place < length own) × (e ≡ slice_index_or own place e) × Writes e None)
Announces own place (Some event) = (e : End) × (value : List ℕ) × (place < length own) × (e ≡ slice_index_or own place e)
    × Writes e (Some value) × (event ≡ Call (Write (writer_of e.kind) (key_of e.endpoint.guid) value))

-- an endpoint that was taken out is unregistered
abbrev pub withdrawal : Removed → Event
withdrawal r = Call (Unregister (writer_of r.kind) (key_of r.guid))

abbrev pub withdrawing : List Removed → ℕ → Option Event
withdrawing removed place = option_map withdrawal (slice_get removed place)

-- The event of a task.
abbrev pub IsEventOf : Having → Work → Task → Option Event → Type 0
IsEventOf o w task.Tick event = event ≡ Some (Tick o.time)
IsEventOf o w (task.Assert writer) event = event ≡ Some (Call (AssertLiveliness writer))
IsEventOf o w task.Unregister event = event ≡ withdrawing o.removed w.removed
IsEventOf o w task.Write event = Announces o.own w.written event
IsEventOf o w task.Speak event = event ≡ Some (Call (Write 3 (message_key o.prefix) (0 ∷ [])))

-- the call found no memory
abbrev pub found_no_memory : Reply → Bool
found_no_memory (Refused Memory) = true
found_no_memory _ = false

-- Nothing is to be done for a task: it ends.
pub record Passes (o : Having) (task : Task) (l new : Link) : Type 0 where
  pub event : IsEventOf o l.network.work task None
  pub same : new.packets ≡ l.packets
  pub network : new.network ≡ record l.network { work = after_task o.time false task l.network.work }

-- The peer does an event for a task, which ends unless the event found no memory; what the peer sends is to go out.
pub record HappensFor (event : Event) (task : Task) (time : ℕ) (l new : Link) : Type 0 where
  pub output : Output
  pub between : Network
  pub goes : Goes l.network event output between
  pub network : new.network ≡ record between { work = after_task time (found_no_memory output.reply) task between.work }
  pub packets : new.packets.items ≡ output.packets

-- So it does the event of a task.
pub record Performs (o : Having) (task : Task) (l new : Link) : Type 0 where
  pub event : Event
  pub is : IsEventOf o l.network.work task (Some event)
  pub happens : HappensFor event task o.time l new

abbrev pub DoesTask : Having → Task → Link → Link → Type 0
DoesTask o task l new = Passes o task l new ⊎ Performs o task l new
