-- Datagrams that wait for the match of a writer (RTPS 2.5, 8.4.9: behaviour of a StatefulWriter).
use Rattle.std.specs.Prelude.{ℕ, nat_lt, ◌++◌, ◌∷◌, List, [], drop, length, remove, if◌then◌else◌}
use Rattle.dds_base.specs.declared.guid.Guid.{Guid}
use Rattle.dds_domain.specs.declared.early.Waiting.{Waiting}

-- so many wait at most
abbrev pub most_early : ℕ
most_early = 16

-- the last of them
abbrev pub newest : List Waiting → List Waiting
newest waiting = if nat_lt most_early (length waiting) then drop 1 waiting else waiting

-- one more waits
abbrev pub kept : Guid → List ℕ → List Waiting → List Waiting
kept writer bytes waiting = newest (waiting ++ record { writer = writer; bytes = bytes } ∷ [])

-- the one at a place waits no more
abbrev pub without : ℕ → List Waiting → List Waiting
without place waiting = if nat_lt place (length waiting) then remove waiting place else waiting
