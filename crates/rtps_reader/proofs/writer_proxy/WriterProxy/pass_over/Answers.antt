use Rattle.std.proofs.Common.{arith}
use Rattle.std.specs.Prelude.{nat_le}
use Rattle.rtps_reader.proofs.KeptLaws.{keeps_passed, none_stays}
use Rattle.rtps_reader.proofs.writer_proxy.WriterProxy.pass_over.Goals as goal

pub returns-clause-sound : goal.returns-clause-sound
returns-clause-sound g c =
    let was = c.requires.sound in
    let w = c.args.self.now.window in
    let to = c.new.ensures.number in
    let forward = c.run_end-end.ensures.forward in
    let small = c.run_end-end.ensures.small in
    let at = c.pass.ensures.place in
    let from = was.from in
    record {
      kept = keeps_passed w c.pass.new.self c.args.self.now.held c.args.self.now.first c.new.result was.kept
          (omega (arith, to, forward)) at c.pass.ensures.marks
          (λ n low high. c.run_end-end.ensures.passable n low (omega (arith, high, to)));
      from = omega (arith, at, to, forward, from);
      unmarked = λ n high. none_stays (nat_le c.new.result n) _ _ (c.pass.ensures.marks n) (was.unmarked n high);
      place_is_small = omega (arith, at, to, small);
      first_is_small = was.first_is_small;
    }
