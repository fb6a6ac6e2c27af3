use Rattle.std.proofs.Common.{◌≡◌, ◌∙◌, sym}
use Rattle.dds_base.proofs.KeyLaws.{key-same}
use Rattle.dds_cache.proofs.ChainLaws.{keys-apart}
use Rattle.dds_cache.proofs.FirstLaws.{found-of, unwanted-other}
use Rattle.dds_cache.proofs.access.as_candidate_of.Goals as goal

pub returns-then-eq-clause-wanted : goal.returns-then-eq-clause-wanted
returns-then-eq-clause-wanted g c = λ h is_known kept.
    let key : c.args.known.now.key ≡ c.args.kept.now.sample.key =
    sym (key-same c.args.kept.now.sample.key c.args.known.now.key (sym c.eq.ensures ∙ c.if-eq.true)) in
    found-of c.args.qos.now h c.args.masks (g.T.Test.meaning c.args.test.now) c.args.known.now.key c.args.kept.now
    c.args.at c.candidate_of.result key (c.candidate_of.ensures.wanted h is_known key kept)

pub returns-else-eq-clause-wanted : goal.returns-else-eq-clause-wanted
returns-else-eq-clause-wanted g c = λ h is_known kept.
    unwanted-other c.args.qos.now h c.args.masks (g.T.Test.meaning c.args.test.now) c.args.known.now.key c.args.kept.now
    (keys-apart c.args.kept.now.sample.key c.args.known.now.key (sym c.eq.ensures ∙ c.if-eq.false))
