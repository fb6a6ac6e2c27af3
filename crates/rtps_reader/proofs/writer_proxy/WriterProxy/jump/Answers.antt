use Rattle.std.proofs.Common.{refl, arith, ◌∙◌}
use Rattle.std.specs.Prelude.{nat_le}
use Rattle.rtps_reader.proofs.JumpLaws.{jumps_over, keeps_jumped, slot_jumped}
use Rattle.rtps_reader.proofs.KeptLaws.{none_stays}
use Rattle.rtps_reader.proofs.writer_proxy.WriterProxy.jump.Goals as goal

pub returns-clause-sound : goal.returns-clause-sound
returns-clause-sound c =
    let was = c.requires.sound in
    let w = c.args.self.now.window in
    let from = was.from in
    let at = c.pass.ensures.place in
    record {
      kept = keeps_jumped w c.pass.new.self c.args.self.now.held c.forget_below.new.held c.args.to was.kept
          (jumps_over w c.pass.new.self c.args.self.now.held c.forget_below.new.held c.number.result c.number-2.result
          c.args.to (c.number.ensures.number ∙ c.place.ensures.place) c.number-2.ensures.number c.requires.forward at
          c.pass.ensures.marks c.forget_below.ensures.each);
      from = omega (arith, at, from, c.requires.forward);
      unmarked = λ n high. none_stays (nat_le c.args.to n) _ _ (c.pass.ensures.marks n) (was.unmarked n high);
      place_is_small = omega (arith, at, c.requires.small);
      first_is_small = was.first_is_small;
    }

pub returns-clause-stays : goal.returns-clause-stays
returns-clause-stays c =
    let w = c.args.self.now.window in
    let at = c.pass.ensures.place in
    record {
      slots = λ n low. slot_jumped w c.pass.new.self c.args.self.now.held c.forget_below.new.held c.args.to n
          (jumps_over w c.pass.new.self c.args.self.now.held c.forget_below.new.held c.number.result c.number-2.result
          c.args.to (c.number.ensures.number ∙ c.place.ensures.place) c.number-2.ensures.number c.requires.forward at
          c.pass.ensures.marks c.forget_below.ensures.each) (omega (arith, low, at));
      first = refl;
      count = refl;
      acknacks = refl;
    }
