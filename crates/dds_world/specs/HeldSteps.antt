-- An event of one peer in a network whose peers have filters and listeners. Inner functions alone cite this: nothing
-- here has to be believed.
--
-- The network is this project's own.
use Rattle.std.specs.Prelude.{◌≡◌, ℕ, Bool, List}
use Rattle.dds_base.specs.declared.key.Key.{Key}
use Rattle.dds_notices.specs.declared.notice.Notice.{Notice}
use Rattle.dds_notices.specs.Listeners.{ByEntity}
use Rattle.dds_protocol.specs.declared.event.Event.{Event}
use Rattle.dds_protocol.specs.declared.event.Event.TheVariants.{Call, Tick, Resume}
use Rattle.dds_machine.specs.declared.event.WorldEvent.{WorldEvent}
use Rattle.dds_machine.specs.declared.event.WorldEvent.TheVariants as world
use Rattle.dds_machine.specs.declared.reply.Reply.{Reply}
use Rattle.dds_world.specs.Acting.{Acts, RuledSteps}
use Rattle.dds_world.specs.Posting.{Announces}
use Rattle.dds_world.specs.Holding.{Held, kept_of, filters_of, tests_in}

-- the network's event is this one of the peer of this number; a packet comes by its own number instead
abbrev pub IsOfPeer : WorldEvent → ℕ → Event → Type 0
IsOfPeer (world.Call number call) peer event = (number ≡ peer) × (Call call ≡ event)
IsOfPeer (world.Tick number now) peer event = (number ≡ peer) × (Tick now ≡ event)
IsOfPeer (world.Deliver number packet) peer event = ⊥
IsOfPeer (world.Resume number reader) peer event = (number ≡ peer) × (Resume reader ≡ event)

-- an event of the peer of this index, which adds no filter
pub record ActsIn {F L : Type 0} (meaning : F → Key → List ℕ → Bool) (notices : L → List Notice) (capacity : L → ℕ)
    (becomes : L → Notice → L → Type 0) (old : Held F L) (index : ℕ) (event : Event)
    (reply : Reply) (new : Held F L) : Type 0 where
  pub acts : (given : ℕ → ByEntity L) → Acts (tests_in meaning old) (kept_of notices capacity becomes given old) index
      event reply (kept_of notices capacity becomes given new)
  pub filters : filters_of new ≡ filters_of old

-- a step by the rules, which adds no filter, and what is sent at it
pub record StepsIn {F L : Type 0} (meaning : F → Key → List ℕ → Bool) (notices : L → List Notice) (capacity : L → ℕ)
    (becomes : L → Notice → L → Type 0) (old : Held F L) (event : WorldEvent)
    (reply : Reply) (new : Held F L) : Type 0 where
  pub steps : (given : ℕ → ByEntity L) → RuledSteps (tests_in meaning old) (kept_of notices capacity becomes given old)
      event reply (kept_of notices capacity becomes given new)
  pub filters : filters_of new ≡ filters_of old
  pub sends : (given : ℕ → ByEntity L) → Announces (kept_of notices capacity becomes given old) event reply
      (kept_of notices capacity becomes given new)
