use Rattle.std.proofs.Common.{◌≡◌, ◌∙◌, ◌++◌, ◌<◌, ℕ, false, List, [], ◌∷◌, ap, length, subst, sym}
use Rattle.dds_machine.specs.Matching.{max_known}
use Rattle.dds_ends.specs.declared.matching.WriterName.{WriterName}
use Rattle.dds_ends.specs.Kept.{ReaderKept}
use Rattle.dds_ends.specs.Knowing.{KnowsMore}
use Rattle.dds_ends.specs.Parting.{joined_here}
use Rattle.dds_ends.proofs.Knowing.{knows_one_more}
use Rattle.dds_ends.proofs.reader_end.ReaderEnd.know.Goals as goal

pub returns-clause-ok : goal.returns-clause-ok
returns-clause-ok c =
    let kept : ReaderKept = record {
      entity = c.self.inside.entity;
      writers = c.self.inside.writers.items;
      reader = c.self.inside.reader;
      store = c.self.inside.store;
      seen = c.self.inside.seen;
      matches = c.self.inside.matches;
      here = c.self.inside.here;
    } in
    let few : length kept.writers < max_known =
    subst (λ (k : ReaderKept). length k.writers < max_known) (sym c.self.view_is) c.requires.few in
    let names : c.push_reserved.new.self.items ≡ kept.writers ++ c.args.name ∷ [] =
    c.push_reserved.ensures.items ∙ ap (λ (ns : List WriterName). ns ++ c.args.name ∷ []) c.in_ok-reserve.ensures.items in
    subst (λ (ns : List WriterName). KnowsMore c.args.self.now c.args.name c.args.as_writer
    (record kept {
      writers = ns;
      reader = c.append.new.self;
      store = c.join.new.self;
      matches = c.make.new.self;
      here = c.joined_here-self-inside.result;
    })) (sym names)
    (subst (λ (n : ℕ). KnowsMore c.args.self.now c.args.name c.args.as_writer
    (record kept {
      writers = kept.writers ++ c.args.name ∷ [];
      reader = c.append.new.self;
      store = c.join.new.self;
      matches = c.make.new.self;
      here = n;
    })) (sym c.joined_here-self-inside.ensures)
    (subst (λ (k : ReaderKept). KnowsMore k c.args.name c.args.as_writer
    (record kept {
      writers = kept.writers ++ c.args.name ∷ [];
      reader = c.append.new.self;
      store = c.join.new.self;
      matches = c.make.new.self;
      here = joined_here false kept.here;
    })) c.self.view_is
    (knows_one_more kept c.args.name c.args.as_writer c.append.new.self c.join.new.self c.make.new.self
    c.in_ok-append.ensures.ok c.self.invariant.count few c.join.ensures.qos c.in_default.ensures.joined
    c.make.ensures.made)))
