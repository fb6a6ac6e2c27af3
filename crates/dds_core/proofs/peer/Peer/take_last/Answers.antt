use Rattle.std.proofs.Common.{Option, Some, ap, sym, ◌∙◌, subst}
use Rattle.dds_ends.specs.declared.reader_told.Ready.{Ready}
use Rattle.dds_core.specs.Receiving.{TakesAll, only_last}
use Rattle.dds_core.proofs.LastReader.{last_idle, last_there}
use Rattle.dds_core.proofs.peer.Peer.take_last.Goals as goal

pub take_last_one-requires-clause-can : goal.take_last_one-requires-clause-can
take_last_one-requires-clause-can c =
    c.requires.can c.args.index c.in-Some.one
    (last_there c.args.index c.args.ready ∙ ap (λ (o : Option Ready). Some o) c.in-Some.is)

pub returns-in-Some-clause-takes : goal.returns-in-Some-clause-takes
returns-in-Some-clause-takes c =
    subst (λ (o : Option Ready). TakesAll c.args.self.now (only_last c.args.index o) c.args.effects.now
    c.take_last_one.new.self c.take_last_one.new.effects) (sym c.in-Some.is) c.take_last_one.ensures.takes

pub returns-in_default-clause-takes : goal.returns-in_default-clause-takes
returns-in_default-clause-takes c =
    subst (λ (o : Option Ready). TakesAll c.args.self.now (only_last c.args.index o) c.args.effects.now c.args.self.now
    c.args.effects.now) (sym c.in_default.is)
    (last_idle c.args.self.now c.args.index c.args.effects.now c.requires.last)
