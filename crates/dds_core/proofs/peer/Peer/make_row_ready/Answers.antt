use Rattle.std.proofs.Common.{◌≡◌, ◌<◌, Some, length, slice_get, ap, sym, subst, arith}
use Rattle.dds_ends.specs.Kept.{ReaderKept}
use Rattle.dds_core.specs.Kept.{PeerKept}
use Rattle.dds_ends.specs.Readiness.{IsAlike}
use Rattle.dds_core.proofs.LastReader.{here_now, last_stands}
use Rattle.dds_ends.proofs.Lists.{get-within}
use Rattle.dds_core.proofs.ResumedRows.{row_ready, rows_ready}
use Rattle.dds_core.proofs.peer.Peer.make_row_ready.Goals as goal

pub index_mut-requires : goal.index_mut-requires
index_mut-requires c =
    let has = c.requires.row in
    let lt = get-within c.args.self.now.readers c.args.index has.reader has.at in
    let same = ap (λ (k : PeerKept). length k.readers) c.self.view_is in
    omega (arith, lt, same)

pub make_room-requires : goal.make_room-requires
make_room-requires c =
    let has = c.requires.row in
    subst (λ (x : ReaderKept). c.args.row < length x.writers)
    (sym (here_now c.args.self.now _ c.self.view_is c.args.index has.reader c.index_mut.result.now _ has.at
    c.index_mut.ensures.value))
    (get-within has.reader.writers c.args.row has.name has.at_row)

pub returns-clause-ready : goal.returns-clause-ready
returns-clause-ready c =
    let has = c.requires.row in
    row_ready c.make_room.result c.self.inside.readers.items c.args.index c.args.row has.reader c.make_room.new.self
    has.name (subst (λ (q : PeerKept). slice_get q.readers c.args.index ≡ Some has.reader) (sym c.self.view_is) has.at)
    has.at_row
    (subst (λ (k : ReaderKept). IsAlike k c.make_room.new.self)
    (here_now c.args.self.now _ c.self.view_is c.args.index c.requires.row.reader c.index_mut.result.now _
    c.requires.row.at c.index_mut.ensures.value) c.make_room.ensures.alike) c.make_room.ensures.room

pub returns-clause-rows : goal.returns-clause-rows
returns-clause-rows c =
    rows_ready c.args.self.now _ c.self.view_is c.args.index c.requires.row.reader c.make_room.new.self
    c.requires.row.at
    (subst (λ (k : ReaderKept). IsAlike k c.make_room.new.self)
    (here_now c.args.self.now _ c.self.view_is c.args.index c.requires.row.reader c.index_mut.result.now _
    c.requires.row.at c.index_mut.ensures.value) c.make_room.ensures.alike)

pub returns-clause-stands : goal.returns-clause-stands
returns-clause-stands c =
    last_stands c.args.self.now _ c.self.view_is c.args.index c.requires.row.reader c.index_mut.result.now
    c.make_room.new.self c.requires.row.at
    (here_now c.args.self.now _ c.self.view_is c.args.index c.requires.row.reader c.index_mut.result.now _
    c.requires.row.at c.index_mut.ensures.value)
    c.make_room.ensures.alike
