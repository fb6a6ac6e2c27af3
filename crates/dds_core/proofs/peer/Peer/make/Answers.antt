use Rattle.std.proofs.Common.{◌≡◌, ◌+◌, List, Some, length, slice_get, inl, inr, refl, sym, subst, ◌∙◌}
use Rattle.std.proofs.lemmas.Option.{same_Some}
use Rattle.dds_base.specs.declared.change.Change.{Change}
use Rattle.dds_base.specs.Written.{Changed}
use Rattle.rtps_wire.specs.Content.{content_of}
use Rattle.dds_machine.specs.Refusals.{change_made}
use Rattle.dds_protocol.specs.declared.event.Packet.{Packet}
use Rattle.dds_ends.specs.Kept.{WriterKept}
use Rattle.dds_core.specs.Kept.{PeerKept}
use Rattle.dds_core.specs.Making.{IsNotMade}
use Rattle.dds_ends.specs.Announcing.{AreAnnouncements}
use Rattle.dds_ends.specs.Stepping.{Enters}
use Rattle.dds_core.proofs.Makes.{Carries, made, made_by, not_begun, not_made, writer_at}
use Rattle.dds_core.proofs.CallSteps.{still_stands}
use Rattle.dds_core.proofs.peer.Peer.make.Goals as goal

-- the value is as short as one has to be at the writer
pub announce-announced-requires-clause-short : goal.announce-announced-requires-clause-short
announce-announced-requires-clause-short c =
    (c.requires.short c.index-writer.result.now
    (subst (λ (x : PeerKept). slice_get x.writers c.args.index ≡ Some c.index-writer.result.now) c.self.view_is
    (writer_at c.self.view_is c.requires.within c.index-writer.ensures))).1

pub append-requires : goal.append-requires
append-requires c = record {
  short = c.requires.short c.index_mut.result.now
      (subst (λ (x : PeerKept). slice_get x.writers c.args.index ≡ Some c.index_mut.result.now) c.self.view_is
      (writer_at c.self.view_is c.requires.within c.index_mut.ensures.value));
}

pub returns-in-Err-clause-makes : goal.returns-in-Err-clause-makes
returns-in-Err-clause-makes c = λ roster peer given.
    inr (subst (λ (x : PeerKept). IsNotMade roster peer (c.args.index + 1)
    (change_made peer.part (c.args.index + 1) c.args.kind c.args.key c.args.value) c.refused.result x) c.self.view_is
    (not_begun _ c.args.index c.index-writer.result.now c.args.kind c.args.key c.args.value
    c.strength.result c.in-Err.code c.refused.result roster peer (still_stands c.self.view_is given)
    (writer_at c.self.view_is c.requires.within c.index-writer.ensures) c.strength.ensures c.in-Err.ensures.refused c.refused.ensures))

pub returns-in-Err-append-clause-makes : goal.returns-in-Err-append-clause-makes
returns-in-Err-append-clause-makes c = λ roster peer given.
    let k : WriterKept = c.index-writer.result.now in
    let same : c.index_mut.result.now ≡ k =
    same_Some c.index_mut.result.now k
    (sym (writer_at c.self.view_is c.requires.within c.index_mut.ensures.value)
    ∙ writer_at c.self.view_is c.requires.within c.index-writer.ensures) in
    inr (not_made _ c.args.index c.index_mut.result.now c.append.new.self c.args.kind c.args.key c.args.value
    c.strength.result c.in-Err-append.code c.refused-in-Err-append.result roster peer
    (still_stands c.self.view_is given)
    (writer_at c.self.view_is c.requires.within c.index_mut.ensures.value)
    (subst (λ (x : WriterKept). Carries x c.strength.result) (sym same) c.strength.ensures) c.in-Err-append.ensures.err
    c.in-Err-append.ensures.refused c.refused-in-Err-append.ensures)

pub returns-clause-makes : goal.returns-clause-makes
returns-clause-makes c = λ roster peer given.
    let k : WriterKept = c.index-writer.result.now in
    let change : Change = made_by c.args.kind c.args.key c.args.value c.self.inside.moment c.strength.result in
    let at = writer_at c.self.view_is c.requires.within c.index-writer.ensures in
    let same : c.index_mut.result.now ≡ k =
    same_Some c.index_mut.result.now k
    (sym (writer_at c.self.view_is c.requires.within c.index_mut.ensures.value) ∙ at) in
    inl (made _ c.args.index k c.append.new.self c.args.kind c.args.key c.args.value
    c.strength.result c.in-Ok.number _ roster peer (still_stands c.self.view_is given) at c.strength.ensures
    (subst (λ (x : WriterKept). Enters x (Changed change) c.append.new.self) same c.in_default.ensures.ok)
    c.in-Ok.ensures.accepted c.requires.empty refl
    (subst (λ (ps : List Packet). length ps + c.announce-announced.result.unsent ≡ length k.destinations)
    (sym c.from_vec.ensures.elements) c.announce-announced.ensures.counted)
    (subst (λ (ps : List Packet). AreAnnouncements
    (record { prefix = c.self.inside.prefix; entity = k.entity; moment = c.self.inside.moment }) c.in-Ok.number
    (content_of change) k.destinations ps) (sym c.from_vec.ensures.elements) c.announce-announced.ensures.announces))
