use Rattle.rtps_wire.proofs.Seeking.{in_message}
use Rattle.rtps_wire.proofs.seek.has_submessage.Goals as goal

pub returns-in-None : goal.returns-in-None
returns-in-None c =
    record {
      has = (
        λ t. absurd cc,
        λ h. absurd (c.in-None.ensures.none h.message.prefix h.is_read.body
            h.is_read.header),
      );
    }

pub returns-in-Some : goal.returns-in-Some
returns-in-Some c =
    let e = c.is_in_body.ensures in
    record {
      has = in_message c.args.bytes.now c.in-Some.body.now e.1 c.in-Some.field-0-0 e.0 c.args.wanted.now
          c.is_in_body.result c.in-Some.ensures.found e.2 e.3;
    }
