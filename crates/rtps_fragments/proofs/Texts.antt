-- The parts of a message that are written one after the other are the message.
use Rattle.std.proofs.Common.{◌≡◌, ℕ, ◌+◌, List, [], ◌∷◌, ◌++◌, length, refl, ap, ◌∙◌, append_assoc, arith}
use Rattle.std.specs.Int.{w16}
use Rattle.std.proofs.lemmas.List.{append-nil, length-append}
use Rattle.dds_base.specs.declared.endianness.Endianness.{Endianness}
use Rattle.dds_base.specs.declared.guid.EntityId.{EntityId}
use Rattle.dds_base.specs.Fields.{number}
use Rattle.rtps_wire.specs.Data.{data_head}
use Rattle.rtps_wire.specs.Fields.{order_of}
use Rattle.rtps_wire.specs.Frames.{frame_text}
use Rattle.rtps_wire.proofs.WireFields.{len_16, len_32}
use Rattle.rtps_fragments.specs.declared.telling.InForce.{InForce}
use Rattle.rtps_fragments.specs.DataFrag.{Fragment, IsFragment}
use Rattle.rtps_fragments.specs.Telling.{data_body, front_text, message_with}

pub head_len : (order : Endianness) (reader writer : EntityId) (sn : ℕ) → length reader.0 ≡ 4 → length writer.0 ≡ 4
    → length (data_head order 0 16 reader writer sn) ≡ 20
head_len order reader writer sn r w = simp (length-append, len_16, len_32) (omega (arith, r, w))

-- the body of a DATA that is written part by part
pub body_len : (f : Fragment) (flags : ℕ) (parameters payload : List ℕ) → IsFragment f
    → length (data_body f flags parameters payload) ≡ 20 + length parameters + length payload
body_len f flags parameters payload v =
    let head : List ℕ = data_head (order_of flags) 0 16 f.reader_id f.writer_id f.writer_sn in
    omega (
      arith,
      head_len (order_of flags) f.reader_id f.writer_id f.writer_sn v.reader v.writer,
      length-append (head ++ parameters) payload,
      length-append head parameters,
    )

frame_front : (flags n : ℕ) (body : List ℕ) → frame_text 21 flags n [] ++ body ≡ frame_text 21 flags n body
frame_front flags n body =
    ap (λ (z : List ℕ). 21 ∷ flags ∷ (z ++ body)) (append-nil (number (order_of flags) w16 n))

pub made : (c : InForce) (f : Fragment) (flags n : ℕ) (ps front octets back : List ℕ) (o1 o2 o3 o4 o5 o6 o7 : List ℕ)
    → IsFragment f → n ≡ 20 + length ps + length front + length octets + length back
    → o1 ≡ front_text c → o2 ≡ o1 ++ frame_text 21 flags n []
    → o3 ≡ o2 ++ data_head (order_of flags) 0 16 f.reader_id f.writer_id f.writer_sn
    → o4 ≡ o3 ++ ps → o5 ≡ o4 ++ front → o6 ≡ o5 ++ octets → o7 ≡ o6 ++ back
    → o7 ≡ message_with c f flags ps (front ++ octets ++ back)
made c f flags n ps front octets back o1 o2 o3 o4 o5 o6 o7 v len e1 e2 e3 e4 e5 e6 e7 =
    let head : List ℕ = data_head (order_of flags) 0 16 f.reader_id f.writer_id f.writer_sn in
    let payload : List ℕ = front ++ octets ++ back in
    let start : List ℕ = frame_text 21 flags n [] in
    let n-is : n ≡ length (data_body f flags ps (front ++ octets ++ back)) =
    omega (
      arith,
      len,
      body_len f flags ps (front ++ octets ++ back) v,
      length-append (front ++ octets) back,
      length-append front octets,
    ) in
    let row : o7 ≡ (((((front_text c ++ start) ++ head) ++ ps) ++ front) ++ octets) ++ back =
    e7 ∙ rw (e6, e5, e4, e3, e2, e1) refl in
    let regrouped : (((((front_text c ++ start) ++ head) ++ ps) ++ front) ++ octets) ++ back
    ≡ front_text c ++ (start ++ ((head ++ ps) ++ payload)) = regroup (front_text c) start head ps front octets back in
    row ∙ regrouped
    ∙ ap (λ (z : List ℕ). front_text c ++ z) (frame_front flags n ((head ++ ps) ++ payload))
    ∙ ap (λ (z : ℕ). front_text c ++ frame_text 21 flags z ((head ++ ps) ++ payload)) n-is
  where
    regroup : (a b c d e f g : List ℕ)
        → (((((a ++ b) ++ c) ++ d) ++ e) ++ f) ++ g ≡ a ++ (b ++ ((c ++ d) ++ ((e ++ f) ++ g)))
    regroup a b c d e f g = simp append_assoc
