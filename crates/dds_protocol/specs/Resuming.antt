-- What a peer does where the places of one of its readers are tried again, as after a take that made room: each that has
-- begun goes on as far as it can, by what the reader knows already. Nothing is due.
--
-- RTPS 2.5, 8.4.12 (reliable StatefulReader). That places are tried again is this project's own.
use Rattle.std.specs.Prelude.{◌≡◌, ◌⊎◌, ℕ, ◌+◌, false, List, [], ◌∷◌, ◌++◌, Option, Some, None}
use Rattle.dds_base.specs.declared.endpoint.Endpoint.{Endpoint}
use Rattle.rtps_reader.specs.Tracked.{is_waiting}
use Rattle.dds_machine.specs.declared.reply.Report.{Report}
use Rattle.dds_machine.specs.declared.reply.Move.{Move}
use Rattle.dds_machine.specs.Part.{Attachment, Begun, WriterProxy, own_proxies}
use Rattle.dds_protocol.specs.Protocol.{State, Goes, stands_to}

-- a place at which the reader stands so to the writer goes as far as it can, if it has begun; at any other one nothing is
-- done
abbrev pub GoesAgain : Attachment → State → Endpoint → ℕ → List Move → State → Type 0
GoesAgain Begun old writer reader moves new = Goes old writer reader (old.known.tracked writer reader) moves new
GoesAgain how old writer reader moves new = (moves ≡ []) × (new ≡ old)

-- it may need memory: the place has begun, and the number there can be passed over, or its change is held
abbrev pub MayGoAgain : State → Endpoint → ℕ → Type 0
MayGoAgain old writer reader =
    (stands_to old writer reader ≡ Begun) × (is_waiting (old.known.tracked writer reader) ≡ false)

-- The places at the writers from this index on are tried in turn. Either one that may need memory finds none, and nothing
-- is done from it on, or it goes as far as it can, and those that follow are tried.
abbrev pub GoAgain : ℕ → ℕ → List WriterProxy → State → List Move → Option ℕ → State → Type 0
GoAgain reader index [] old moves refused new = (moves ≡ []) × (refused ≡ None) × (new ≡ old)
GoAgain reader index (row ∷ rows) old moves refused new =
    ((moves ≡ []) × (refused ≡ Some index) × (new ≡ old) × MayGoAgain old row.writer reader)
    ⊎ ((made later : List Move) × (mid : State) × (moves ≡ made ++ later)
    × GoesAgain (stands_to old row.writer reader) old row.writer reader made mid
    × GoAgain reader (index + 1) rows mid later refused new)

-- the places of the peer's reader of this number are tried again, at each writer that it knows
abbrev pub Resumes : ℕ → State → Report → State → Type 0
Resumes reader old report new = GoAgain reader 0 (own_proxies old.part reader) old report.moves report.refused new
