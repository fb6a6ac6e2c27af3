use Rattle.std.proofs.Common.{refl}
use Rattle.dds_protocol.specs.Opening.{opening_world}
use Rattle.adapter_laws.proofs.Sent.{sent_passes}
use Rattle.adapter_laws.proofs.adapters_change_nothing.Goals as goal

pub returns : goal.returns
returns c = record {
  same =
      λ kinds config roster tests events replies world unsent run packet here.
      sent_passes kinds roster tests (opening_world config) 0 events replies world unsent refl run packet here;
}
