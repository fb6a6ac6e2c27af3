-- How much is kept of a writer. The bounds are this project's.
use Rattle.std.specs.Prelude.{ℕ, ◌+◌, ◌≤◌, ◌<◌, ◌^◌, List, length}
use Rattle.std.specs.List.{All, sum_by}
use Rattle.dds_base.specs.declared.guid.Guid.{Guid}
use Rattle.rtps_fragments.specs.declared.telling.InForce.{InForce}
use Rattle.rtps_fragments.specs.Keeping.{Kept, IsKept, max_numbers}
use Rattle.rtps_fragments.specs.Hearing.{Row, Hears, forgetting, knowing, rows_of}

-- At most so many numbers are kept, each of a payload that a DATA can carry.
pub record AreFew (kept : List Kept) : Type 0 where
  pub numbers : length kept ≤ max_numbers
  pub payloads : All IsKept kept

-- so many octets of parameters and payload are kept of a number
abbrev pub octets_of : Kept → ℕ
octets_of k = length k.parameters + length k.octets

-- Few numbers are kept of each writer.
abbrev pub AllAreFew : List Row → Type 0
AllAreFew rows = All (λ (r : Row). AreFew r.kept) rows

-- Where few numbers are kept of each writer, few are kept after a datagram.
abbrev pub FewAreKept : Type 0
FewAreKept = (c : InForce) (body rest : List ℕ) (rows after : List Row) (out all : List (List ℕ)) → AllAreFew rows
    → Hears c body rest rows after out all → AllAreFew after

-- None are few.
abbrev pub NoneAreFew : Type 0
NoneAreFew = (writers : List Guid) → AllAreFew (rows_of writers)

-- They stay few where one more writer is known, and where one is known no more.
abbrev pub KnownAreFew : Type 0
KnownAreFew = (rows : List Row) (w : Guid) → AllAreFew rows → AllAreFew (knowing rows w) × AllAreFew (forgetting rows w)

-- Few numbers are kept in less than 2^20 octets.
abbrev pub FewAreShort : Type 0
FewAreShort = (kept : List Kept) → AreFew kept → sum_by octets_of kept < 2 ^ 20
