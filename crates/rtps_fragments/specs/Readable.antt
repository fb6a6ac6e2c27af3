-- What is read of a message that is told (RTPS 2.5, 8.3.4, 9.4.4 and 9.4.5).
use Rattle.std.specs.Prelude.{◌≡◌, ℕ, ◌<◌, ◌^◌, false, List, [], ◌∷◌, ◌++◌, length, IfSome, MatchBool}
use Rattle.rtps_wire.specs.declared.data.Data.{Data as DataOf}
use Rattle.rtps_wire.specs.declared.submessage.Submessage.{Submessage}
use Rattle.rtps_wire.specs.declared.submessage.Submessage.TheVariants.{InfoDst, InfoTs, Data}
use Rattle.rtps_wire.specs.Data.{SaysContent}
use Rattle.rtps_wire.specs.Fields.{has_flag, order_of}
use Rattle.rtps_wire.specs.Messages.{ReadsMessage}
use Rattle.rtps_wire.specs.Names.{flag_inline_qos, flag_non_standard, id_data, len_prefix}
use Rattle.rtps_wire.specs.Parameters.{Parameter, ReadsParameters}
use Rattle.rtps_wire.specs.Submessages.{Reads}
use Rattle.rtps_fragments.specs.declared.telling.InForce.{InForce}
use Rattle.rtps_fragments.specs.DataFrag.{Fragment, IsFragment, ReadsFragment}
use Rattle.rtps_fragments.specs.Keeping.{Kept, IsKept}
use Rattle.rtps_fragments.specs.Telling.{data_body, message_of}

-- Names have their lengths, and a moment has 64 bits.
pub record CanTell (c : InForce) (f : Fragment) (k : Kept) : Type 0 where
  pub source : length c.source.0 ≡ len_prefix
  pub destination : length c.destination.0 ≡ len_prefix
  pub timestamp : IfSome k.timestamp (λ moment. moment < 2 ^ 64)
  pub fragment : IsFragment f
  pub kept : IsKept k

-- A message that is told is read to its end, as one of the sender with an INFO_DST, an INFO_TS and what is read of the
-- DATA.
abbrev pub MessagesAreRead : Type 0
MessagesAreRead = (c : InForce) (f : Fragment) (k : Kept) (s : Submessage) → CanTell c f k
    → Reads id_data k.flags (data_body f k.flags k.parameters k.octets) s
    → ReadsMessage (message_of c f k)
    (record { prefix = c.source; submessages = InfoDst c.destination ∷ InfoTs k.timestamp ∷ s ∷ [] })
    (length (message_of c f k))

-- The DATA is read as what its flags, its parameters and its payload say, of the reader, the writer and the number of
-- the DATA_FRAG.
abbrev pub DataIsRead : Type 0
DataIsRead = (f : Fragment) (k : Kept) (ps : List Parameter) (d : DataOf) → IsFragment f
    → has_flag k.flags flag_non_standard ≡ false
    → MatchBool (has_flag k.flags flag_inline_qos)
    (ReadsParameters (order_of k.flags) (k.parameters ++ k.octets) ps k.octets) ((k.parameters ≡ []) × (ps ≡ []))
    → SaysContent k.flags ps k.octets d.content
    → d.reader_id ≡ f.reader_id → d.writer_id ≡ f.writer_id → d.writer_sn ≡ f.writer_sn
    → Reads id_data k.flags (data_body f k.flags k.parameters k.octets) (Data d)

-- A body is one DATA_FRAG at most.
abbrev pub OneIsRead : Type 0
OneIsRead = (flags : ℕ) (body : List ℕ) (f g : Fragment) → ReadsFragment flags body f → ReadsFragment flags body g → f ≡ g
