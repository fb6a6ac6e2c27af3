use Rattle.std.proofs.Common.{◌≡◌, ℕ, ◌<◌, ◌≤◌, Some, length, refl, slice_get, subst, sym}
use Rattle.std.proofs.lemmas.Option.{slice_get_read}
use Rattle.dds_machine.specs.Matching.{max_known}
use Rattle.dds_ends.specs.Kept.{ReaderKept}
use Rattle.dds_ends.specs.Parting.{Attaches, joined_here}
use Rattle.dds_ends.proofs.Parting.{IsMatchedSo, attaches}
use Rattle.dds_ends.proofs.reader_end.ReaderEnd.attach.Goals as goal

pub returns : goal.returns
returns c =
    let kept : ReaderKept = record {
      entity = c.self.inside.entity;
      writers = c.self.inside.writers.items;
      reader = c.self.inside.reader;
      store = c.self.inside.store;
      seen = c.self.inside.seen;
      matches = c.self.inside.matches;
      here = c.self.inside.here;
    } in
    let within : c.args.row < length kept.writers =
    subst (λ (k : ReaderKept). c.args.row < length k.writers) (sym c.self.view_is) c.requires in
    let met : IsMatchedSo kept c.args.row c.is_attached.result =
    subst (λ (k : ReaderKept). IsMatchedSo k c.args.row c.is_attached.result) (sym c.self.view_is) c.is_attached.ensures.attached in
    let at : slice_get kept.writers c.args.row ≡ Some c.index.result.now =
    slice_get_read kept.writers (length kept.writers) c.args.row c.index.result.now refl within c.index.ensures in
    let few : length kept.writers ≤ max_known = c.self.invariant.many in
    let attached =
    subst (λ (n : ℕ). Attaches c.args.self.now c.args.row
    (record kept { reader = c.attach.new.self; matches = c.make.new.self; here = n }))
    (sym c.joined_here-self-inside.ensures)
    (subst (λ (k : ReaderKept). Attaches k c.args.row
    (record kept {
      reader = c.attach.new.self;
      matches = c.make.new.self;
      here = joined_here c.is_attached.result kept.here;
    })) c.self.view_is
    (attaches kept c.args.row c.attach.new.self c.index.result.now c.is_attached.result c.make.new.self
    c.attach.ensures.waits few at met c.make.ensures.made)) in
    record { attaches = attached }
