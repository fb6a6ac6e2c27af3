use Rattle.rtps_adapter.proofs.PayloadLaws.{key_octets_there}
use Rattle.rtps_adapter.proofs.payload.key_form_in.Goals as goal

pub returns-clause-octets : goal.returns-clause-octets
returns-clause-octets c = key_octets_there c.args.payload.now c.in_ok-key.key c.in_ok-key.ensures.found
