use Rattle.std.proofs.Common.{Option, ap, sym, ◌∙◌, arith}
use Rattle.std.specs.Prelude.{is_some}
use Rattle.dds_base.specs.declared.change.Change.{Change}
use Rattle.rtps_sets.specs.declared.window.Mark.{Mark}
use Rattle.rtps_reader.specs.Sound.{says_held}
use Rattle.rtps_reader.proofs.writer_proxy.WriterProxy.open.Goals as goal

pub returns-clause-sound : goal.returns-clause-sound
returns-clause-sound c =
    let place = c.open.ensures.place in
    record {
      kept = λ n low high.
          ap (λ (o : Option Change). is_some o) (c.open-2.ensures.none n)
          ∙ sym (ap (λ (m : Option Mark). says_held m) (c.open.ensures.none n));
      from = omega (arith, place);
      unmarked = λ n high. c.open.ensures.none n;
      place_is_small = omega (arith, place);
      first_is_small = omega arith;
    }
