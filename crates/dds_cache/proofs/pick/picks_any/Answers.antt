use Rattle.std.proofs.Common.{ap}
use Rattle.dds_base.specs.declared.selection.Selection.{Selection}
use Rattle.dds_cache.specs.Picking.{masks_in, test_in}
use Rattle.dds_cache.proofs.AnyLaws.{tells-picked}
use Rattle.dds_cache.proofs.pick.picks_any.Goals as goal

pub returns-in-Any : goal.returns-in-Any
returns-in-Any g c = record {
  tells = λ h holds good.
      tells-picked c.args.qos.now c.args.instances.now h c.args.selection.now
      (g.T.Test.meaning c.args.test.now) c.args.samples.now c.is_any_match.result _ _ holds good
      (c.is_any_match.ensures.matched h holds) (ap masks_in c.in-Any.is)
      (ap (λ (s : Selection). test_in s (g.T.Test.meaning c.args.test.now)) c.in-Any.is);
}

pub returns-in-Instance : goal.returns-in-Instance
returns-in-Instance g c = record {
  tells = λ h holds good.
      tells-picked c.args.qos.now c.args.instances.now h c.args.selection.now
      (g.T.Test.meaning c.args.test.now) c.args.samples.now c.is_any_match-in-Instance.result _ _ holds good
      (c.is_any_match-in-Instance.ensures.matched h holds) (ap masks_in c.in-Instance.is)
      (ap (λ (s : Selection). test_in s (g.T.Test.meaning c.args.test.now)) c.in-Instance.is);
}

pub returns-in-NextInstance : goal.returns-in-NextInstance
returns-in-NextInstance g c = record {
  tells = λ h holds good.
      tells-picked c.args.qos.now c.args.instances.now h c.args.selection.now
      (g.T.Test.meaning c.args.test.now) c.args.samples.now c.is_any_match-in-NextInstance.result _ _ holds good
      (c.is_any_match-in-NextInstance.ensures.matched h holds) (ap masks_in c.in-NextInstance.is)
      (ap (λ (s : Selection). test_in s (g.T.Test.meaning c.args.test.now)) c.in-NextInstance.is);
}

pub returns-in-NextSample : goal.returns-in-NextSample
returns-in-NextSample g c = record {
  tells = λ h holds good.
      tells-picked c.args.qos.now c.args.instances.now h c.args.selection.now
      (g.T.Test.meaning c.args.test.now) c.args.samples.now c.is_any_match-in-NextSample.result _ _ holds good
      (c.is_any_match-in-NextSample.ensures.matched h holds) (ap masks_in c.in-NextSample.is)
      (ap (λ (s : Selection). test_in s (g.T.Test.meaning c.args.test.now)) c.in-NextSample.is);
}
