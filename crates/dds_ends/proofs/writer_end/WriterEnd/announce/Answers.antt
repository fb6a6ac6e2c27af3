use Rattle.std.proofs.Common.{sym, subst, rules}
use Rattle.rtps_wire.specs.Data.{IsContent, IsStrength}
use Rattle.rtps_wire.specs.declared.data.DataContent.{DataContent}
use Rattle.rtps_wire.proofs.ContentLaws.{content_valid}
use Rattle.dds_ends.proofs.SentMessages.{sent_messages}
use Rattle.dds_ends.proofs.writer_end.WriterEnd.announce.Goals as goal

pub announce-requires-clause-valid : goal.announce-requires-clause-valid
announce-requires-clause-valid c =
    let change = c.args.change.now in
    let fits : IsStrength change.strength = search rules in
    subst (λ (x : DataContent). IsContent x) (sym c.of_change-content.ensures.says)
    (content_valid change.kind change.key change.value change.strength c.as_slice-key.ensures.len c.requires.short fits)

pub returns-clause-messages : goal.returns-clause-messages
returns-clause-messages c = sent_messages _ c.args.number c.of_change-content.result c.as_slice.result.now
    c.announce.result.packets.items c.announce.ensures.packets
