use Rattle.std.proofs.Common.{◌≡◌, ◌∙◌, ap, List, ℕ, [], ◌++◌, append_assoc, Some}
use Rattle.dds_base.specs.declared.endianness.Endianness.TheVariants.{Little}
use Rattle.rtps_wire.specs.declared.submessage.Submessage.TheVariants.{InfoDst, InfoTs}
use Rattle.rtps_wire.specs.Data.{content_flags, data_head, text_of_content}
use Rattle.rtps_wire.specs.Frames.{frame_text}
use Rattle.rtps_wire.specs.Messages.{header_text}
use Rattle.rtps_wire.specs.Names.{extra_flags, id_data, least_octets_to_inline_qos, minor_version, vendor_unknown}
use Rattle.rtps_wire.specs.Submessages.{spelling_of_submessage}
use Rattle.rtps_wire.proofs.announcement.put_message.Goals as goal

in_row : (out header to moment frame head text : List ℕ)
    → ((out ++ (header ++ to)) ++ (moment ++ (frame ++ head))) ++ text
    ≡ out ++ (header ++ (to ++ (moment ++ (frame ++ (head ++ text)))))
in_row out header to moment frame head text = simp append_assoc

pub returns-clause-ok : goal.returns-clause-ok
returns-clause-ok c =
    let out : List ℕ = c.args.out.now.items in
    let header : List ℕ = header_text minor_version vendor_unknown c.args.prefix.now in
    let to : List ℕ = spelling_of_submessage (InfoDst c.args.to.now) in
    let moment : List ℕ = spelling_of_submessage (InfoTs (Some c.args.moment)) in
    let frame : List ℕ = frame_text id_data (content_flags c.args.change.now.content) c.args.len [] in
    let head : List ℕ = data_head Little extra_flags least_octets_to_inline_qos c.args.change.now.reader_id
    c.args.change.now.writer_id c.args.change.now.writer_sn in
    let text : List ℕ = text_of_content c.args.change.now.content in
    c.in_ok-put_content.ensures.ok
    ∙ ap (λ (z : List ℕ). z ++ text) (c.in_ok-put_front.ensures.ok
    ∙ ap (λ (z : List ℕ). z ++ (moment ++ (frame ++ head))) c.in_ok-put_head.ensures.ok)
    ∙ in_row out header to moment frame head text
