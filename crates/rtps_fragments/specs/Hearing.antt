-- What becomes of the payloads of known writers at a datagram (RTPS 2.5, 8.3.4: the message receiver, and 8.3.8.3).
use Rattle.std.specs.Prelude.{◌≡◌, ◌⊎◌, ℕ, ◌&&◌, Bool, List, [], ◌∷◌, ◌++◌, Option, Some, None, MatchOption, is_some, map, true, nat_eq, remove, slice_index_or, slice_set, if◌then◌else◌}
use Rattle.std.specs.Cmp.Lexicographic.{pointwise}
use Rattle.std.specs.Option.{option_map, option_map_or, option_to_list}
use Rattle.std.specs.List.{position}
use Rattle.dds_base.specs.declared.guid.EntityId.{EntityId}
use Rattle.dds_base.specs.declared.guid.Guid.{Guid}
use Rattle.dds_base.specs.declared.guid.GuidPrefix.{GuidPrefix}
use Rattle.rtps_wire.specs.declared.submessage.Submessage.{Submessage}
use Rattle.rtps_wire.specs.Frames.{IsFrame, IsEnd}
use Rattle.rtps_wire.specs.Messages.{HasHeader}
use Rattle.rtps_wire.specs.Submessages.{Reads}
use Rattle.rtps_fragments.specs.declared.telling.InForce.{InForce}
use Rattle.rtps_fragments.specs.DataFrag.{Fragment, ReadsFragment, id_data_frag}
use Rattle.rtps_fragments.specs.Keeping.{Kept, heard}
use Rattle.rtps_fragments.specs.Telling.{at_first, in_force_after, message_of}

-- A writer that is known, and what is kept of it.
pub record Row : Type 0 where
  pub writer : Guid
  pub kept : List Kept

-- the rows of writers of which nothing came
abbrev pub rows_of : List Guid → List Row
rows_of writers = map (λ (w : Guid). record { writer = w; kept = [] }) writers

-- it is the row of this writer
abbrev pub is_row : GuidPrefix → EntityId → Row → Bool
is_row prefix entity r = pointwise nat_eq r.writer.prefix.0 prefix.0 && pointwise nat_eq r.writer.entity.0 entity.0

-- the rows, with one of this writer behind them where there is none
abbrev pub knowing : List Row → Guid → List Row
knowing rows w =
    if is_some (position (is_row w.prefix w.entity) rows) then rows
    else rows ++ record { writer = w; kept = [] } ∷ []

-- the rows without the first of this writer
abbrev pub forgetting : List Row → Guid → List Row
forgetting rows w = option_map_or (λ i. remove rows i) (position (is_row w.prefix w.entity) rows) rows

-- The row hears a DATA_FRAG, and the message is that of the payload that it made whole.
abbrev pub RowAnswers : InForce → Fragment → Row → Row → Option (List ℕ) → Type 0
RowAnswers c f r after message =
    (after ≡ record { writer = r.writer; kept = (heard r.kept f c.timestamp).kept })
    × (message ≡ option_map (message_of c f) ((heard r.kept f c.timestamp).whole))

-- a DATA_FRAG is of a writer that is known
abbrev pub IsKnown : List Row → GuidPrefix → Fragment → Type 0
IsKnown rows source f = is_some (position (is_row source f.writer_id) rows) ≡ true

-- What is kept after a DATA_FRAG, and the message of the payload that it made whole.
pub record Told : Type 0 where
  pub rows : List Row
  pub message : Option (List ℕ)

-- the row at a place hears a DATA_FRAG
abbrev pub told_at : InForce → List Row → ℕ → Row → Fragment → Told
told_at c rows i r f = record {
  rows = slice_set rows i (record { writer = r.writer; kept = (heard r.kept f c.timestamp).kept });
  message = option_map (message_of c f) ((heard r.kept f c.timestamp).whole);
}

-- The first row of its writer hears a DATA_FRAG. One of another writer changes nothing.
abbrev pub told : InForce → List Row → Fragment → Told
told c rows f =
    option_map_or (λ i. told_at c rows i (slice_index_or rows i (record {
      writer = record { prefix = c.source; entity = f.writer_id };
      kept = [];
    })) f) (position (is_row c.source f.writer_id) rows) (record { rows = rows; message = None })

-- A submessage as it stands, as it is read, and what it says if it is a DATA_FRAG.
pub record Part : Type 0 where
  pub id : ℕ
  pub flags : ℕ
  pub body : List ℕ
  pub read : Submessage
  pub fragment : Option Fragment

-- The submessage is a DATA_FRAG that says this, or none.
abbrev pub IsFragmentOf : ℕ → ℕ → List ℕ → Option Fragment → Type 0
IsFragmentOf id flags body o =
    MatchOption o ((f : Fragment) → id ≡ id_data_frag → ReadsFragment flags body f → ⊥)
    (λ f. (id ≡ id_data_frag) × ReadsFragment flags body f)

-- The bytes begin with these submessages, and rest is what follows them.
abbrev pub Begins : List ℕ → List Part → List ℕ → Type 0
Begins bytes [] rest = bytes ≡ rest
Begins bytes (p ∷ ps) rest =
    (after : List ℕ) × IsFrame bytes p.id p.flags p.body after × Reads p.id p.flags p.body p.read
    × IsFragmentOf p.id p.flags p.body p.fragment × Begins after ps rest

-- what a submessage does to what is kept, and the message that it makes
abbrev pub told_by : InForce → List Row → Option Fragment → Told
told_by c rows None = record { rows = rows; message = None }
told_by c rows (Some f) = told c rows f

-- what is kept after submessages, each heard in its turn
abbrev pub rows_after : InForce → List Row → List Part → List Row
rows_after c rows [] = rows
rows_after c rows (p ∷ ps) = rows_after (in_force_after c p.read) ((told_by c rows p.fragment).rows) ps

-- the messages that they make, in their order
abbrev pub messages_of : InForce → List Row → List Part → List (List ℕ)
messages_of c rows [] = []
messages_of c rows (p ∷ ps) =
    option_to_list ((told_by c rows p.fragment).message)
    ++ messages_of (in_force_after c p.read) ((told_by c rows p.fragment).rows) ps

-- A DATA_FRAG was heard, or another submessage passed over: this is kept, and these messages were appended.
pub record HearsOne (c : InForce) (id flags : ℕ) (body : List ℕ) (rows after : List Row) (out all : List (List ℕ))
    : Type 0 where
  pub fragment : Option Fragment
  pub is_fragment : IsFragmentOf id flags body fragment
  pub rows_are : after ≡ (told_by c rows fragment).rows
  pub messages_are : all ≡ out ++ option_to_list ((told_by c rows fragment).message)

-- The submessage is a DATA_FRAG of a writer that is known.
pub record IsWanted (rows : List Row) (source : GuidPrefix) (id flags : ℕ) (body : List ℕ) : Type 0 where
  pub fragment : Fragment
  pub is_fragment : IsFragmentOf id flags body (Some fragment)
  pub known : IsKnown rows source fragment

-- These submessages of a body were heard, up to where rest stands, and these messages appended.
pub record Hears (c : InForce) (body rest : List ℕ) (rows after : List Row) (out all : List (List ℕ)) : Type 0 where
  pub parts : List Part
  pub begins : Begins body parts rest
  pub rows_are : after ≡ rows_after c rows parts
  pub messages_are : all ≡ out ++ messages_of c rows parts

-- All submessages of a body were heard, up to where reading ends.
pub record HearsAll (c : InForce) (body : List ℕ) (rows after : List Row) (out all : List (List ℕ)) : Type 0 where
  pub left : List ℕ
  pub heard : Hears c body left rows after out all
  pub ends : IsEnd left

-- The first submessages of a body were heard, up to a DATA_FRAG of a writer that is known.
pub record HearsSome (c : InForce) (body : List ℕ) (rows after : List Row) (out all : List (List ℕ)) : Type 0 where
  pub left : List ℕ
  pub rest : List ℕ
  pub id : ℕ
  pub flags : ℕ
  pub next : List ℕ
  pub heard : Hears c body left rows after out all
  pub frame : IsFrame left id flags next rest
  pub wanted : IsWanted after c.source id flags next

-- The bytes are no message.
abbrev pub IsNone : List ℕ → Type 0
IsNone bytes = (source : GuidPrefix) (body : List ℕ) → HasHeader bytes source body → ⊥

-- The bytes are a message whose submessages were heard, or none, and nothing changed.
abbrev pub HearsMessage : List ℕ → List Row → List Row → List (List ℕ) → List (List ℕ) → Type 0
HearsMessage bytes rows after out all =
    ((source : GuidPrefix) × (body : List ℕ) × HasHeader bytes source body
    × HearsAll (at_first source) body rows after out all)
    ⊎ (IsNone bytes × (after ≡ rows) × (all ≡ out))

-- The bytes are a message whose first submessages were heard, up to a DATA_FRAG of a writer that is known.
abbrev pub HearsFront : List ℕ → List Row → List Row → List (List ℕ) → List (List ℕ) → Type 0
HearsFront bytes rows after out all =
    (source : GuidPrefix) × (body : List ℕ) × HasHeader bytes source body
    × HearsSome (at_first source) body rows after out all
