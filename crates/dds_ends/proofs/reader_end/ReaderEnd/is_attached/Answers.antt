use Rattle.std.proofs.Common.{◌≡◌, ◌∙◌, Bool, not, ap, sym}
use Rattle.rtps_reader.specs.declared.attachment.Attachment.{Attachment as AttachmentOf}
use Rattle.rtps_reader.specs.Reader.{how_at}
use Rattle.dds_machine.specs.Part.{Attachment, is_attached}
use Rattle.dds_ends.specs.Kept.{ReaderKept}
use Rattle.dds_ends.specs.Standing.{stood_as}
use Rattle.dds_ends.proofs.Parting.{attached_unless}
use Rattle.dds_ends.proofs.reader_end.ReaderEnd.is_attached.Goals.{in-Away, in_default}
use Rattle.dds_ends.proofs.reader_end.ReaderEnd.is_attached.Goals as goal

pub returns : goal.returns
returns c = record {
  attached = λ writer proxies r tracked first s.
      let how : c.how.result ≡ how_at c.args.self.now.reader c.args.row =
      c.how.ensures.how ∙ ap (λ (k : ReaderKept). how_at k.reader c.args.row) c.self.view_is in
      let so : not c.match-matches.matches ≡ is_attached (stood_as c.how.result) =
      elim c.match-matches.branch [
        | in-Away w ↦
            ap (λ (b : Bool). not b) w.matches-is
            ∙ sym (ap (λ (a : AttachmentOf). is_attached (stood_as a)) w.in-Away.is)
        | in_default w ↦
            ap (λ (b : Bool). not b) w.matches-is ∙ sym (attached_unless c.how.result w.in_default.not-Away)
      ] in
      so
      ∙ (ap (λ (a : AttachmentOf). is_attached (stood_as a)) how
      ∙ ap (λ (a : Attachment). is_attached a) (sym (s.hows writer c.args.row first)));
}
