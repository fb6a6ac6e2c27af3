use Rattle.std.proofs.Common.{List, sym, ◌∙◌, subst}
use Rattle.std.specs.Prelude.{OnOk}
use Rattle.std.proofs.lemmas.List.{with_items_is}
use Rattle.dds_ends.specs.Kept.{ReaderKept}
use Rattle.dds_core.specs.Kept.{PeerKept}
use Rattle.dds_ends.specs.Readiness.{receiver_at}
use Rattle.dds_core.specs.Readiness.{IsFirstNamed, AreReady, AreAlike}
use Rattle.dds_core.specs.Receiving.{StandsAsWell}
use Rattle.dds_core.proofs.Ready.{alike_core}
use Rattle.dds_core.proofs.peer.Peer.make_ready.Goals as goal

pub prepare-requires-clause-first : goal.prepare-requires-clause-first
prepare-requires-clause-first c =
    subst (λ (rs : List ReaderKept). IsFirstNamed c.self.inside.prefix
    (receiver_at c.args.receiver.now) c.args.submessage.now rs c.args.first) (sym c.deref_mut.ensures.value)
    (subst (λ (k : PeerKept). IsFirstNamed k.prefix
    (receiver_at c.args.receiver.now) c.args.submessage.now k.readers c.args.first) (sym c.self.view_is)
    c.requires.first)

pub returns-clause-ready : goal.returns-clause-ready
returns-clause-ready c =
    let same =
    with_items_is c.self.inside.readers c.prepare.new.readers
    (c.prepare.ensures.alike.count ∙ c.deref_mut.ensures.len) in
    subst (λ (rs : List ReaderKept). OnOk c.prepare.result
    (AreReady c.args.self.now.prefix (receiver_at c.args.receiver.now) c.args.submessage.now rs c.prepare.new.ready.items))
    (sym same)
    (subst (λ (k : PeerKept). OnOk c.prepare.result
    (AreReady k.prefix (receiver_at c.args.receiver.now) c.args.submessage.now c.prepare.new.readers
    c.prepare.new.ready.items)) c.self.view_is c.prepare.ensures.ready)

pub returns-clause-stands : goal.returns-clause-stands
returns-clause-stands c =
    let same =
    with_items_is c.self.inside.readers c.prepare.new.readers
    (c.prepare.ensures.alike.count ∙ c.deref_mut.ensures.len) in
    let alike =
    subst (λ (rs : List ReaderKept). AreAlike rs c.prepare.new.readers) c.deref_mut.ensures.value
    c.prepare.ensures.alike in
    subst (λ (rs : List ReaderKept). StandsAsWell c.args.self.now
    (record {
      prefix = c.self.inside.prefix;
      moment = c.self.inside.moment;
      writers = c.self.inside.writers.items;
      readers = rs;
      names = c.self.inside.names;
      watch = c.self.inside.watch;
    })) (sym same)
    (subst (λ (k : PeerKept). StandsAsWell k
    (record {
      prefix = c.self.inside.prefix;
      moment = c.self.inside.moment;
      writers = c.self.inside.writers.items;
      readers = c.prepare.new.readers;
      names = c.self.inside.names;
      watch = c.self.inside.watch;
    })) c.self.view_is
    (alike_core _ c.prepare.new.readers alike))
