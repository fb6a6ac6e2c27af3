use Rattle.rtps_adapter.proofs.KeyLaws.{short_stays, padding_stays, fields_stay}
use Rattle.rtps_adapter.proofs.laws.bad_payloads_cant_be_turned.Goals as goal

pub returns : goal.returns
returns c = record { short = short_stays; padding = padding_stays; fields = fields_stay }
