-- Which fragments of a change came, and which changes a datagram begins again (RTPS 2.5, 8.3.8.3 and 8.3.8.10).
use Rattle.std.specs.Prelude.{◌≡◌, ◌⊎◌, ℕ, ◌==◌, ◌&&◌, Bool, false, List, [], ◌++◌, Option, Some, None, find, slice_index_or, if◌then◌else◌}
use Rattle.std.specs.Option.{option_and_then, option_map, option_map_or, option_to_list}
use Rattle.dds_base.specs.declared.guid.Guid.{Guid}
use Rattle.dds_base.specs.declared.guid.GuidPrefix.{GuidPrefix}
use Rattle.rtps_wire.specs.Frames.{IsFrame, IsEnd}
use Rattle.rtps_wire.specs.Messages.{HasHeader}
use Rattle.rtps_fragments.specs.declared.nack_frag.ChangeId.{ChangeId}
use Rattle.rtps_fragments.specs.DataFrag.{Fragment}
use Rattle.rtps_fragments.specs.Keeping.{Kept, is_alike, is_number}
use Rattle.rtps_fragments.specs.Hearing.{Row, IsFragmentOf, IsNone, is_row}

-- what is kept of a change, if something is
abbrev pub kept_of_change : List Row → Guid → ℕ → Option Kept
kept_of_change rows writer sn =
    option_and_then (λ (r : Row). find (is_number sn) r.kept) (find (is_row writer.prefix writer.entity) rows)

-- of each fragment of a change whether it came, where some came and not all
abbrev pub came_of : List Row → Guid → ℕ → Option (List Bool)
came_of rows writer sn = option_map (λ (k : Kept). k.came) (kept_of_change rows writer sn)

-- a DATA_FRAG has the first fragment, and that came before
abbrev pub is_again : Kept → Fragment → Bool
is_again k f = f.fragment_starting_num == 1 && is_alike k f && slice_index_or k.came 0 false

-- the change that a DATA_FRAG of a sender names
abbrev pub change_of : GuidPrefix → Fragment → ChangeId
change_of source f = record { writer = record { prefix = source; entity = f.writer_id }; writer_sn = f.writer_sn }

-- it begins a change again
abbrev pub begins_again : List Row → GuidPrefix → Fragment → Bool
begins_again rows source f =
    option_map_or (λ (k : Kept). is_again k f)
    (kept_of_change rows (record { prefix = source; entity = f.writer_id }) f.writer_sn) false

-- the change that a submessage begins again, if it does
abbrev pub again_by : List Row → GuidPrefix → Option Fragment → Option ChangeId
again_by rows source None = None
again_by rows source (Some f) = if begins_again rows source f then Some (change_of source f) else None

-- The submessage begins this change again, or none.
pub record IsAgainBy (rows : List Row) (source : GuidPrefix) (id flags : ℕ) (body : List ℕ) (again : Option ChangeId)
    : Type 0 where
  pub fragment : Option Fragment
  pub is_fragment : IsFragmentOf id flags body fragment
  pub again_is : again ≡ again_by rows source fragment

-- These are the changes that the submessages of a body begin again, in their order.
pub data AreAgain (rows : List Row) (source : GuidPrefix) : List ℕ → List ChangeId → Type 0 where
  again_none : (bytes : List ℕ) → IsEnd bytes → AreAgain rows source bytes []
  again_more : (bytes : List ℕ) (id flags : ℕ) (body rest : List ℕ) (o : Option Fragment) (later : List ChangeId)
      → IsFrame bytes id flags body rest → IsFragmentOf id flags body o → AreAgain rows source rest later
      → AreAgain rows source bytes (option_to_list (again_by rows source o) ++ later)

-- These are the changes that a datagram begins again: none where it is no message.
abbrev pub BeginsAgain : List ℕ → List Row → List ChangeId → Type 0
BeginsAgain bytes rows again =
    ((source : GuidPrefix) × (body : List ℕ) × HasHeader bytes source body × AreAgain rows source body again)
    ⊎ (IsNone bytes × (again ≡ []))
