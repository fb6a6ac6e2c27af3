use Rattle.std.proofs.Common.{rules, ◌+◌, ◌&&◌}
use Rattle.std.specs.Prelude.{nat_le, nat_lt}
use Rattle.rtps_sets.specs.Window.{window_place}
use Rattle.rtps_reader.specs.Tracked.{is_named}
use Rattle.rtps_reader.proofs.KeptLaws.{keeps_named}
use Rattle.rtps_reader.proofs.writer_proxy.WriterProxy.make_irrelevant.Goals as goal

pub returns-clause-sound : goal.returns-clause-sound
returns-clause-sound c =
    let was = c.requires.sound in
    let w = c.args.self.now.window in
    record {
      kept = keeps_named w c.mark_named.new.window c.args.self.now.held (λ n. is_named c.args.start c.args.list.now n)
          (λ n. nat_le (window_place w) n && nat_lt n (window_place w + 256)) was.kept c.mark_named.ensures.place
          c.mark_named.ensures.marks;
      from = search rules;
      unmarked = λ n high. c.mark_named.ensures.small n high (was.unmarked n high);
      place_is_small = search rules;
      first_is_small = was.first_is_small;
    }
