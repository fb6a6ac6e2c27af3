-- The octets of a DATA, put together.
use Rattle.std.proofs.Common.{◌≡◌, ◌∙◌, ℕ, ◌+◌, List, [], ◌∷◌, ◌++◌, length, ap, append_assoc, arith}
use Rattle.std.specs.Int.{w16}
use Rattle.std.proofs.lemmas.List.{append-nil, length-append}
use Rattle.dds_base.specs.declared.endianness.Endianness.TheVariants.{Little}
use Rattle.dds_base.specs.declared.guid.EntityId.{EntityId}
use Rattle.dds_base.specs.Fields.{number}
use Rattle.rtps_wire.specs.Data.{data_head}
use Rattle.rtps_wire.specs.Fields.{order_of}
use Rattle.rtps_wire.specs.Frames.{frame_text}
use Rattle.rtps_discovery.specs.Packets.{data_text}
use Rattle.rtps_discovery.specs.Spdp.{spdp_writer}

regroup : (id flags : ℕ) (a h c : List ℕ) → (([] ++ (id ∷ flags ∷ (a ++ []))) ++ h) ++ c ≡ id ∷ flags ∷ (a ++ (h ++ c))
regroup id flags a h c =
    ap (λ (z : List ℕ). id ∷ flags ∷ z) (ap (λ (z : List ℕ). (z ++ h) ++ c) (append-nil a) ∙ append_assoc a h c)

pub data_made : (flags : ℕ) (reader : EntityId) (sn : ℕ) (content out0 out1 out2 out3 : List ℕ) (len : ℕ)
    → length reader.0 ≡ 4 → len ≡ 20 + length content → out0 ≡ [] → out1 ≡ out0 ++ frame_text 21 flags len []
    → out2 ≡ out1 ++ data_head Little 0 16 reader spdp_writer sn → out3 ≡ out2 ++ content
    → out3 ≡ data_text flags reader sn content
data_made flags reader sn content out0 out1 out2 out3 len four is e0 e1 e2 e3 =
    let head = data_head Little 0 16 reader spdp_writer sn in
    let long : len ≡ length (data_head Little 0 16 reader spdp_writer sn ++ content) =
    is ∙ simp length-append (omega (arith, four)) in
    e3 ∙ ap (λ (z : List ℕ). z ++ content) (e2 ∙ ap (λ (z : List ℕ). z ++ head)
    (e1 ∙ ap (λ (z : List ℕ). z ++ frame_text 21 flags len []) e0))
    ∙ regroup 21 flags (number (order_of flags) w16 len) head content
    ∙ ap (λ (n : ℕ). frame_text 21 flags n (head ++ content)) long
