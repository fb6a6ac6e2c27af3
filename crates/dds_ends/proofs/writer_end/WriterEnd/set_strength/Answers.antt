use mir.Val.{SFits}
use Rattle.std.proofs.Common.{rules, subst}
use Rattle.std.specs.Prelude.{ℤ, OnOk}
use Rattle.std.specs.Int.{w32}
use Rattle.std.proofs.lemmas.Int.{to_z-of_z}
use Rattle.dds_base.specs.Written.{StrengthSet}
use Rattle.rtps_writer.specs.Standing.{StandsFor as RtpsStandsFor}
use Rattle.rtps_writer.specs.WriterState.{WriterState, entering}
use Rattle.dds_ends.specs.Standing.{state_of}
use Rattle.dds_ends.proofs.WriterEnds.{enters_if, stands_there}
use Rattle.dds_ends.proofs.writer_end.WriterEnd.set_strength.Goals as goal

pub returns-clause-ok : goal.returns-clause-ok
returns-clause-ok c =
    let fits : SFits w32 c.args.strength = search rules in
    enters_if c.set_strength.result _ c.args.self.now (StrengthSet c.args.strength) c.set_strength.new.self
    c.self.view_is
    (subst (λ (z : ℤ). (s : WriterState) → RtpsStandsFor c.self.inside.writer s → OnOk c.set_strength.result
    (RtpsStandsFor c.set_strength.new.self (entering s (StrengthSet z)))) (to_z-of_z w32 c.args.strength fits)
    c.set_strength.ensures.ok)

pub returns-clause-accepted : goal.returns-clause-accepted
returns-clause-accepted c = λ w answered s.
    c.set_strength.ensures.accepted (state_of w answered)
    (stands_there _ c.args.self.now w answered c.self.view_is s).writer

pub returns-clause-refused : goal.returns-clause-refused
returns-clause-refused c = λ w answered s.
    c.set_strength.ensures.refused (state_of w answered)
    (stands_there _ c.args.self.now w answered c.self.view_is s).writer
