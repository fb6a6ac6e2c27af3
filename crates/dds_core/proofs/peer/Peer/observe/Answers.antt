use Rattle.dds_core.proofs.Counted.{observes_message, observes_nothing}
use Rattle.dds_core.proofs.peer.Peer.observe.Goals as goal

pub returns-in-Some : goal.returns-in-Some
returns-in-Some c = record {
  observes =
      observes_message c.args.self.now c.args.of c.args.datagram.now c.in-Some.source c.in-Some.body.now c.observe_body.result
      c.in-Some.ensures.found c.observe_body.ensures;
}

pub returns-in-None : goal.returns-in-None
returns-in-None c = record {
  observes = λ roster peer s. observes_nothing c.args.of c.args.datagram.now c.in-None.ensures.none roster peer;
}
