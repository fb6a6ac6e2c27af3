use Rattle.std.proofs.Common.{◌≡◌, ℕ, Some, length, get_or, slice_get, sym, ap, subst, ◌∙◌, arith}
use Rattle.std.proofs.lemmas.Option.{get_or_from_slice_get}
use Rattle.dds_base.specs.declared.guid.GuidPrefix.{GuidPrefix}
use Rattle.dds_ends.specs.Answering.{AreRooms}
use Rattle.dds_ends.specs.Kept.{WriterKept}
use Rattle.dds_core.specs.Kept.{PeerKept}
use Rattle.dds_ends.specs.Readiness.{receiver_at}
use Rattle.dds_ends.proofs.Lists.{get-within}
use Rattle.dds_core.proofs.Requesting.{have_room, nobody_takes, writer_takes}
use Rattle.dds_core.proofs.RowsAnswered.{asked_needs}
use Rattle.dds_core.proofs.Watched.{on_err}
use Rattle.dds_core.proofs.peer.Peer.take_acknack.Goals as goal

pub returns-in_default-clause-takes : goal.returns-in_default-clause-takes
returns-in_default-clause-takes c =
    nobody_takes c.args.self.now c.args.body.now
    (receiver_at c.args.receiver.now) c.args.effects.now c.in_default.ensures.none

pub index-requires : goal.index-requires
index-requires c =
    let found = c.in-Some.ensures.asked in
    let lt = get-within c.args.self.now.writers c.in-Some.index found.writer found.at_writer in
    let same = ap (λ (k : PeerKept). length k.writers) c.self.view_is in
    omega (arith, lt, same)

-- the writer that was found is the one that is looked at
is_found : {kept inside : PeerKept} {now : WriterKept} (i : ℕ) (k d : WriterKept) → inside ≡ kept
    → slice_get kept.writers i ≡ Some k → now ≡ get_or inside.writers i d → now ≡ k
is_found {kept} {inside} {now} i k d view at is =
    is ∙ get_or_from_slice_get inside.writers i k d
    (subst (λ (x : PeerKept). slice_get x.writers i ≡ Some k) (sym view) at)

pub answer_rows-requires-clause-within : goal.answer_rows-requires-clause-within
answer_rows-requires-clause-within c =
    let found =
    c.in-Some.ensures.asked in (
      found.writer,
      found.at_writer,
      c.in_ok-rooms.ensures.rooms.count
          ∙ ap (λ (k : WriterKept). length k.readers)
          (is_found c.in-Some.index found.writer _ c.self.view_is found.at_writer c.index.ensures),
    )

pub answer_rows-requires-clause-rooms : goal.answer_rows-requires-clause-rooms
answer_rows-requires-clause-rooms c =
    have_room _ _ (receiver_at c.args.receiver.now) c.args.body.now _ c.in_ok-rooms.rooms.items
    c.in_ok-rooms.ensures.rooms

pub returns-clause-takes : goal.returns-clause-takes
returns-clause-takes c =
    let found = c.in-Some.ensures.asked in
    let at = receiver_at c.args.receiver.now in
    let is = is_found c.in-Some.index found.writer _ c.self.view_is found.at_writer c.index.ensures in
    let are : AreRooms c.args.self.now.prefix found.writer.entity at c.args.body.now found.writer.readers
    c.in_ok-rooms.rooms.items =
    subst (λ (p : GuidPrefix). AreRooms p found.writer.entity at c.args.body.now found.writer.readers
    c.in_ok-rooms.rooms.items) (ap (λ (k : PeerKept). k.prefix) c.self.view_is)
    (subst (λ (k : WriterKept). AreRooms c.self.inside.prefix k.entity at c.args.body.now k.readers
    c.in_ok-rooms.rooms.items) is c.in_ok-rooms.ensures.rooms) in
    writer_takes c.args.self.now c.answer_rows.new.self c.in-Some.index c.args.body.now found.writer
    c.in_ok-rooms.rooms.items at c.args.effects.now c.reserve.new.self c.answer_rows.new.effects
    c.in_ok-reserve.ensures.items found.at_writer (sym found.asked.from.writer) are c.answer_rows.ensures.takes

pub returns-clause-keeps : goal.returns-clause-keeps
returns-clause-keeps c =
    let found = c.in-Some.ensures.asked in
    record {
      prefix = (c.answer_rows.ensures.takes found.writer found.at_writer).prefix;
      on = record {
        twice = c.answer_rows.ensures.on.twice ∙ c.in_ok-reserve.ensures.twice;
        few = c.answer_rows.ensures.on.few;
        messages = c.answer_rows.ensures.on.messages;
      };
      err = tt;
      memory = tt;
    }

pub returns-in_err-rooms-clause-needs : goal.returns-in_err-rooms-clause-needs
returns-in_err-rooms-clause-needs c =
    on_err _
    (asked_needs c.args.self.now (receiver_at c.args.receiver.now) c.args.body.now c.in-Some.index
    c.in-Some.ensures.asked)

pub returns-in_err-reserve-clause-needs : goal.returns-in_err-reserve-clause-needs
returns-in_err-reserve-clause-needs c =
    on_err _
    (asked_needs c.args.self.now (receiver_at c.args.receiver.now) c.args.body.now c.in-Some.index
    c.in-Some.ensures.asked)
