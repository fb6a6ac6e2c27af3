use Rattle.std.proofs.Common.{refl}
use Rattle.dds_ends.specs.declared.reader_told.Told.TheVariants as told
use Rattle.dds_ends.specs.Readiness.{change_ready}
use Rattle.dds_ends.proofs.Fitting.{fits_on}
use Rattle.dds_ends.proofs.TellingLaws.{answer_told, room_here}
use Rattle.dds_ends.proofs.reader_end.ReaderEnd.take_change.Goals as goal

pub invariant_of-self : goal.invariant_of-self
invariant_of-self c = fits_on c.self.invariant c.on_data.ensures.keeps.qos c.on_data.ensures.keeps.writers c.on_data.ensures.keeps.count

pub returns-clause-told : goal.returns-clause-told
returns-clause-told c =
    let ready = c.args.ready in
    let keeps = c.on_data.ensures.keeps in
    answer_told c.self.view_is (change_ready ready.row ready.number ready.change) c.args.moment c.on_data.result
    c.unwrap.result (told.Change ready.number ready.change) refl c.unwrap.ensures c.on_data.ensures.meets keeps.others
    keeps.how keeps.others_how

pub unwrap-requires : goal.unwrap-requires
unwrap-requires c = c.on_data.ensures.keeps.succeeds (room_here c.args.ready.row c.self.view_is c.requires.can.room)
