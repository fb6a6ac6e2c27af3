use Rattle.std.proofs.Common.{◌≡◌, ◌-◌, ◌^◌, ◌<◌, ℕ, Some, length, refl, slice_get, subst, sym}
use Rattle.std.proofs.lemmas.Option.{slice_get_read}
use Rattle.dds_base.specs.Liveliness.{after_parting}
use Rattle.dds_ends.specs.Kept.{ReaderKept}
use Rattle.dds_ends.specs.Parting.{Detaches, IsPastParting, left_here}
use Rattle.dds_ends.specs.Storing.{Holds}
use Rattle.dds_ends.proofs.Parting.{IsMatchedSo, detaches, past_parting, so_on_error}
use Rattle.dds_ends.proofs.reader_end.ReaderEnd.detach.Goals as goal

pub returns-in_err-leave-clause-past : goal.returns-in_err-leave-clause-past
returns-in_err-leave-clause-past c =
    let kept : ReaderKept = record {
      entity = c.self.inside.entity;
      writers = c.self.inside.writers.items;
      reader = c.self.inside.reader;
      store = c.self.inside.store;
      seen = c.self.inside.seen;
      matches = c.self.inside.matches;
      here = c.self.inside.here;
    } in
    so_on_error c.from_residual.result (IsPastParting c.args.self.now c.args.row c.args.now)
    (subst (λ (k : ReaderKept). IsPastParting k c.args.row c.args.now) c.self.view_is
    (past_parting kept c.args.row c.args.now
    (λ h s. subst (λ (n : ℕ). 2 ^ 64 - 1 < length (after_parting n c.args.now h)) c.new.ensures.number
    (c.in_err-leave.ensures.past h s))))

pub returns-clause-ok : goal.returns-clause-ok
returns-clause-ok c =
    let kept : ReaderKept = record {
      entity = c.self.inside.entity;
      writers = c.self.inside.writers.items;
      reader = c.self.inside.reader;
      store = c.self.inside.store;
      seen = c.self.inside.seen;
      matches = c.self.inside.matches;
      here = c.self.inside.here;
    } in
    let within : c.args.row < length kept.writers =
    subst (λ (k : ReaderKept). c.args.row < length k.writers) (sym c.self.view_is) c.requires in
    let met : IsMatchedSo kept c.args.row c.is_attached-was.result =
    subst (λ (k : ReaderKept). IsMatchedSo k c.args.row c.is_attached-was.result) (sym c.self.view_is) c.is_attached-was.ensures.attached in
    let at : slice_get kept.writers c.args.row ≡ Some c.index.result.now =
    slice_get_read kept.writers (length kept.writers) c.args.row c.index.result.now refl within c.index.ensures in
    subst (λ (n : ℕ). Detaches c.args.self.now c.args.row c.args.now
    (record kept { reader = c.detach.new.self; store = c.leave.new.self; matches = c.end.new.self; here = n }))
    (sym c.left_here-self-inside.ensures)
    (subst (λ (k : ReaderKept). Detaches k c.args.row c.args.now
    (record kept {
      reader = c.detach.new.self;
      store = c.leave.new.self;
      matches = c.end.new.self;
      here = left_here c.is_attached-was.result kept.here;
    })) c.self.view_is
    (detaches kept c.args.row c.args.now c.detach.new.self c.leave.new.self c.index.result.now c.is_attached-was.result
    c.end.new.self c.detach.ensures.away c.in_ok-leave.ensures.qos
    (λ h s. subst (λ (n : ℕ). Holds c.leave.new.self (after_parting n c.args.now h)) c.new.ensures.number
    (c.in_ok-leave.ensures.left h s)) at met c.end.ensures.ended))
