use Rattle.std.proofs.Common.{List, subst}
use Rattle.dds_ends.specs.Kept.{ReaderKept}
use Rattle.dds_core.specs.Kept.{PeerKept}
use Rattle.dds_core.specs.ObservingKept.{IsNamedReader, NamesNoReader}
use Rattle.dds_ends.specs.Readiness.{receiver_at}
use Rattle.dds_core.proofs.ToNobody.{nobody_named, says_nothing, somebody_named}
use Rattle.dds_core.proofs.peer.Peer.count_unnamed.Goals as goal

pub returns-in_default-clause-nobody : goal.returns-in_default-clause-nobody
returns-in_default-clause-nobody c =
    says_nothing c.args.self.now (receiver_at c.args.receiver.now) c.args.submessage.now c.requires.other
    c.in_default.ensures

pub returns-in-Some-named_reader-clause-nobody : goal.returns-in-Some-named_reader-clause-nobody
returns-in-Some-named_reader-clause-nobody c =
    let index = c.in-Some-named_reader.field-0 in
    let ids = c.in-Some.ids in
    somebody_named c.args.self.now (receiver_at c.args.receiver.now) c.args.submessage.now ids.reader ids.writer index
    c.in-Some.ensures
    (subst (λ (k : PeerKept). IsNamedReader k.prefix (receiver_at c.args.receiver.now) ids.reader ids.writer k.readers
    index) c.self.view_is
    (subst (λ (rs : List ReaderKept). IsNamedReader c.self.inside.prefix (receiver_at c.args.receiver.now) ids.reader
    ids.writer rs index) c.deref.ensures.value c.in-Some-named_reader.ensures.found))

pub returns-in-None-clause-nobody : goal.returns-in-None-clause-nobody
returns-in-None-clause-nobody c =
    let ids = c.in-Some.ids in
    nobody_named c.args.self.now (receiver_at c.args.receiver.now) c.args.submessage.now ids.reader ids.writer
    c.in-Some.ensures c.requires.here
    (subst (λ (k : PeerKept). NamesNoReader k.prefix (receiver_at c.args.receiver.now) ids.reader ids.writer k.readers)
    c.self.view_is
    (subst (λ (rs : List ReaderKept). NamesNoReader c.self.inside.prefix (receiver_at c.args.receiver.now) ids.reader
    ids.writer rs) c.deref.ensures.value c.in-None.ensures.none))
