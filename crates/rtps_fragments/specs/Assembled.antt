-- What is told of a payload is what came of it (RTPS 2.5, 8.3.8.3).
use Rattle.std.specs.Prelude.{◌≡◌, ℕ, ◌+◌, ◌-◌, ◌/◌, ◌≤◌, ◌<◌, true, false, List, [], ◌∷◌, ◌++◌, length, Contains, slice_index, slice_index_or}
use Rattle.std.specs.Option.{option_map, option_to_list}
use Rattle.std.specs.List.{All}
use Rattle.dds_base.specs.declared.guid.EntityId.{EntityId}
use Rattle.dds_base.specs.declared.guid.Guid.{Guid}
use Rattle.dds_base.specs.declared.guid.GuidPrefix.{GuidPrefix}
use Rattle.rtps_fragments.specs.declared.telling.InForce.{InForce}
use Rattle.rtps_fragments.specs.DataFrag.{Fragment, count_of, place_of}
use Rattle.rtps_fragments.specs.Keeping.{Kept}
use Rattle.rtps_fragments.specs.Telling.{message_of}
use Rattle.rtps_fragments.specs.Hearing.{Row, Part, Hears, forgetting, knowing, messages_of, rows_of}

-- A DATA_FRAG is of the payload's number, and of its fragment size and whole length.
pub record IsAlike (f : Fragment) (k : Kept) : Type 0 where
  pub number : f.writer_sn ≡ k.writer_sn
  pub size : f.fragment_size ≡ k.fragment_size
  pub whole : f.sample_size ≡ k.sample_size

-- The octet of a payload at a place is that of the fragments of a DATA_FRAG which cover this place.
pub record Brings (f : Fragment) (k : Kept) (i : ℕ) : Type 0 where
  pub alike : IsAlike f k
  pub begins : place_of f ≤ i
  pub ends : i < place_of f + length f.octets
  pub octet : slice_index k.octets i ≡ slice_index f.octets (i - place_of f)

-- The flags and the parameters of a payload are those of a DATA_FRAG with its first fragment.
pub record Opens (f : Fragment) (k : Kept) : Type 0 where
  pub alike : IsAlike f k
  pub first : f.fragment_starting_num ≡ 1
  pub flags : k.flags ≡ f.flags
  pub parameters : k.parameters ≡ f.parameters

-- Of a payload that is not whole, each octet of a fragment that is marked came in one of these DATA_FRAGs.
pub record IsOf (came_in : Fragment → Type 0) (k : Kept) : Type 0 where
  pub sized : 1 ≤ k.fragment_size
  pub some : 1 ≤ count_of k.sample_size k.fragment_size
  pub octets : length k.octets ≡ k.sample_size
  pub came : length k.came ≡ count_of k.sample_size k.fragment_size
  pub each : (i : ℕ) → i < k.sample_size → slice_index_or k.came (i / k.fragment_size) false ≡ true
      → (f : Fragment) × came_in f × Brings f k i
  pub opening : slice_index_or k.came 0 false ≡ true → (f : Fragment) × came_in f × Opens f k

-- A payload is whole: it has its whole length, and each of its octets came in one of these DATA_FRAGs, as did its flags
-- and its parameters.
pub record IsAssembled (came_in : Fragment → Type 0) (k : Kept) : Type 0 where
  pub octets : length k.octets ≡ k.sample_size
  pub each : (i : ℕ) → i < k.sample_size → (f : Fragment) × came_in f × Brings f k i
  pub opening : (f : Fragment) × came_in f × Opens f k

-- A DATA_FRAG that came, with the sender of its message.
pub record Arrival : Type 0 where
  pub source : GuidPrefix
  pub fragment : Fragment

-- The DATA_FRAG came, and is of this writer.
abbrev pub CameOf : List Arrival → GuidPrefix → EntityId → Fragment → Type 0
CameOf arrivals prefix entity f =
    Contains arrivals (record { source = prefix; fragment = f }) × (f.writer_id ≡ entity)

-- What is kept of each writer is of the DATA_FRAGs that came of it.
abbrev pub AreOf : List Arrival → List Row → Type 0
AreOf arrivals rows =
    All (λ (r : Row). All (IsOf (CameOf arrivals r.writer.prefix r.writer.entity)) r.kept) rows

-- The message is that of a payload which is assembled of the DATA_FRAGs that came of its writer.
pub record IsToldOf (arrivals : List Arrival) (message : List ℕ) : Type 0 where
  pub in_force : InForce
  pub last : Fragment
  pub payload : Kept
  pub text : message ≡ message_of in_force last payload
  pub number : payload.writer_sn ≡ last.writer_sn
  pub assembled : IsAssembled (CameOf arrivals in_force.source last.writer_id) payload

-- the DATA_FRAGs among submessages of a sender
abbrev pub arrivals_of : GuidPrefix → List Part → List Arrival
arrivals_of source [] = []
arrivals_of source (p ∷ ps) =
    option_to_list (option_map (λ (f : Fragment). record { source = source; fragment = f }) p.fragment)
    ++ arrivals_of source ps

-- Where what is kept is of the DATA_FRAGs that came, it is so after a datagram, and each message that is told is of them.
abbrev pub WhatIsToldCame : Type 0
WhatIsToldCame = (arrivals : List Arrival) (c : InForce) (body rest : List ℕ) (rows after : List Row)
    (out all : List (List ℕ)) → AreOf arrivals rows → (h : Hears c body rest rows after out all)
    → AreOf (arrivals ++ arrivals_of c.source h.parts) after
    × All (IsToldOf (arrivals ++ arrivals_of c.source h.parts)) (messages_of c rows h.parts)

-- Of writers of which nothing is kept, it is so where nothing came.
abbrev pub NothingCame : Type 0
NothingCame = (writers : List Guid) → AreOf [] (rows_of writers)

-- It stays so where one more writer is known, and where one is known no more.
abbrev pub KnownCame : Type 0
KnownCame = (arrivals : List Arrival) (rows : List Row) (w : Guid) → AreOf arrivals rows
    → AreOf arrivals (knowing rows w) × AreOf arrivals (forgetting rows w)
