-- What an event does to the session that a caller holds.
--
-- The calls are those of DDS 1.4, 2.2.2.4 and 2.2.2.5; that the last answer is kept is this project's own.
use Rattle.std.specs.Prelude.{◌≡◌, ◌⊎◌, ℕ, Option, Some, None, IsSomeAnd}
use Rattle.dds_base.specs.Code.{number_of_code}
use Rattle.dds_base.specs.declared.code.Code.{Code}
use Rattle.dds_base.specs.declared.code.Code.TheVariants.{Ok}
use Rattle.dds_conditions.specs.Filtered.{tests_of}
use Rattle.dds_core.specs.Listening.{Steps}
use Rattle.dds_ends.specs.Sending.{AreMessages}
use Rattle.dds_protocol.specs.declared.event.Event.{Event}
use Rattle.dds_machine.specs.declared.reply.Reply.{Reply}
use Rattle.dds_machine.specs.declared.reply.Reply.TheVariants.{Refused}
use Rattle.dds_c.specs.Meaning.{prefix_meaning, recorder_notices, recorder_capacity, recorder_becomes}
use Rattle.dds_c.specs.declared.session.Session.{Session}

-- the number of the code that a reply refuses with, 0 of another reply
abbrev pub code_number : Reply → ℕ
code_number (Refused code) = number_of_code code
code_number _ = 0

-- the number of a code that refuses: that of ERROR for OK, with which nothing is refused
abbrev pub refusing_number : Code → ℕ
refusing_number Ok = 1
refusing_number code = number_of_code code

-- The event is one step of the peer, which says what it sends too; what it gave back is kept as the last answer, and the
-- number is that of its reply.
pub record Answered (old : Session) (event : Event) (number : ℕ) (new : Session) : Type 0 where
  pub step : Steps recorder_notices recorder_capacity recorder_becomes (tests_of prefix_meaning old.core.filtered.filters)
      old.core event new.last new.core
  pub messages : AreMessages new.last.packets
  pub code : number ≡ code_number new.last.reply
  pub told : new.told ≡ old.told

-- what an event does: where no peer is open it is refused, and none is open afterwards
abbrev pub Happens : Option Session → Event → ℕ → Option Session → Type 0
Happens None event code new = (code ≡ 4) × (new ≡ None)
Happens (Some old) event code new = IsSomeAnd new (Answered old event code)

-- the same of an event whose value is copied before: where there is no memory for that, it is refused, and nothing
-- changes
abbrev pub HappensCopied : Option Session → Event → ℕ → Option Session → Type 0
HappensCopied old event code new = Happens old event code new ⊎ ((code ≡ 100) × (new ≡ old))

-- one step by some event; or nothing changes, and the line names none, or there is no memory for what it names
abbrev pub HappensSomething : Option Session → ℕ → Option Session → Type 0
HappensSomething old code new = ((event : Event) × Happens old event code new) ⊎ (((code ≡ 3) ⊎ (code ≡ 100)) × (new ≡ old))
