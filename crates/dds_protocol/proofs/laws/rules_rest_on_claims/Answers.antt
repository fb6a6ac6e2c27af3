use Rattle.dds_protocol.proofs.OpenedPeers.{opens_backed}
use Rattle.dds_protocol.proofs.ResumedRows.{resumes_tried}
use Rattle.dds_protocol.proofs.RuledPackets.{takes_packet}
use Rattle.dds_protocol.specs.Peer.{packets_of}
use Rattle.dds_protocol.proofs.laws.rules_rest_on_claims.Goals as goal

pub returns-clause-opening : goal.returns-clause-opening
returns-clause-opening c = opens_backed

pub returns-clause-packet : goal.returns-clause-packet
returns-clause-packet c = λ roster peer before bytes old report dues new checked backed takes.
    let taken =
    takes_packet roster peer before bytes old report dues new checked backed takes in (taken.receives, taken.backed)

pub returns-clause-resume : goal.returns-clause-resume
returns-clause-resume c = λ roster peer reader deliveries old report new backed h.
    let tried = resumes_tried roster peer (packets_of deliveries) deliveries reader old report new backed h in
    (tried.places, tried.moved, tried.backed)
