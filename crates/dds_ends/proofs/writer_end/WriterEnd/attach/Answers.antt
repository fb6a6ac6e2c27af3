use Rattle.std.proofs.Common.{◌≡◌, ◌++◌, List, [], ◌∷◌, Some, ap, sym, ◌∙◌, subst}
use Rattle.dds_ends.specs.Beating.{peer_of}
use Rattle.dds_ends.specs.declared.matching.Destination.{Destination}
use Rattle.dds_ends.specs.declared.matching.ReaderName.{ReaderName}
use Rattle.dds_ends.specs.declared.matching.TopicName.{TopicName}
use Rattle.dds_ends.specs.Coming.{with_peer}
use Rattle.dds_ends.specs.Kept.{WriterKept}
use Rattle.dds_ends.specs.MatchedEnds.{known_as, last_count}
use Rattle.dds_ends.specs.Meeting.{MayMeet, learned, with_known}
use Rattle.dds_ends.specs.Standing.{IsWhole}
use Rattle.dds_ends.proofs.Among.{is_known_as}
use Rattle.dds_ends.proofs.Joins.{MayJoin, joins_by, whole_more}
use Rattle.dds_ends.proofs.Meetings.{knows_learned, whole_learned}
use Rattle.dds_ends.proofs.WriterEnds.{kept_as}
use Rattle.dds_ends.proofs.writer_end.WriterEnd.attach.Goals as goal

pub invariant_of-self-2 : goal.invariant_of-self-2
invariant_of-self-2 c =
    let known : TopicName = c.args.known in
    let may : MayMeet _ known = subst (λ (k : WriterKept). MayMeet k known) (sym c.self.view_is) c.requires.may in
    let now : c.add_known.new.known.items ≡ with_known c.self.inside.known.items known.name known.is_reliable =
    c.add_known.ensures
    ∙ ap (λ (ks : List TopicName). with_known ks known.name known.is_reliable) c.in_ok-reserve.ensures.items in
    let knows : known_as c.add_known.new.known.items known.name.reader ≡ Some known =
    ap (λ (ks : List TopicName). known_as ks known.name.reader) now
    ∙ knows_learned c.self.inside.known.items known may.known in
    let found = is_known_as c.add_known.new.known.items known.name.reader known knows in
    whole_more c.self.inside.max_value c.add_known.new.known.items c.self.inside.matched.items
    c.push_reserved.new.self.items c.self.inside.destinations.items c.add_peer.new.peers.items
    c.self.inside.readers.items c.add_row.new.readers.items c.self.inside.writer c.add_row.new.writer
    known.name known.is_reliable c.args.greeted (last_count c.self.inside.counts.items known.name.reader)
    (subst (λ (ks : List TopicName). IsWhole c.self.inside.max_value ks c.self.inside.matched.items
    c.self.inside.destinations.items c.self.inside.readers.items c.self.inside.writer) (sym now)
    (whole_learned c.self.inside.max_value c.self.inside.known.items known c.self.inside.matched.items
    c.self.inside.destinations.items c.self.inside.readers.items c.self.inside.writer may.known c.self.invariant))
    may.unmatched found.1
    (c.push_reserved.ensures.items
    ∙ ap (λ (ns : List ReaderName). ns ++ known.name ∷ []) c.in_ok-reserve-2.ensures.items)
    (c.add_peer.ensures
    ∙ (ap (λ (d : Destination). with_peer c.reserve-3.new.self.items d) c.peer.ensures
    ∙ ap (λ (ds : List Destination). with_peer ds (peer_of known.name)) c.in_ok-reserve-3.ensures.items))
    c.in_ok-add_row.ensures.readers c.in_ok-add_row.ensures.rows c.in_ok-add_row.ensures.writer

pub returns-clause-ok : goal.returns-clause-ok
returns-clause-ok c =
    let known : TopicName = c.args.known in
    let kept : WriterKept =
    kept_as c.self.inside.entity c.self.inside.autodispose c.self.inside.max_value c.self.inside.known.items
    c.self.inside.matched.items c.self.inside.destinations.items c.self.inside.readers.items c.self.inside.counts.items
    c.self.inside.matches c.self.inside.writer in
    let may : MayMeet kept known = subst (λ (k : WriterKept). MayMeet k known) (sym c.self.view_is) c.requires.may in
    let now : c.add_known.new.known.items ≡ with_known c.self.inside.known.items known.name known.is_reliable =
    c.add_known.ensures
    ∙ ap (λ (ks : List TopicName). with_known ks known.name known.is_reliable) c.in_ok-reserve.ensures.items in
    let then : WriterKept =
    kept_as c.self.inside.entity c.self.inside.autodispose c.self.inside.max_value c.add_known.new.known.items
    c.self.inside.matched.items c.self.inside.destinations.items c.self.inside.readers.items c.self.inside.counts.items
    c.self.inside.matches c.self.inside.writer in
    let same : then ≡ learned c.args.self.now known =
    ap (λ (ks : List TopicName). record kept { known = ks }) now
    ∙ ap (λ (k : WriterKept). learned k known) c.self.view_is in
    let join : MayJoin then known.name.reader known =
    record {
      known =
          ap (λ (ks : List TopicName). known_as ks known.name.reader) now
          ∙ knows_learned c.self.inside.known.items known may.known;
      unmatched = may.unmatched;
    } in
    joins_by then (learned c.args.self.now known) known.name.reader c.args.greeted known c.push_reserved.new.self.items
    c.add_peer.new.peers.items c.add_row.new.readers.items c.add_row.new.counts.items c.make.new.self
    c.add_row.new.writer same join
    (c.push_reserved.ensures.items
    ∙ ap (λ (ns : List ReaderName). ns ++ known.name ∷ []) c.in_ok-reserve-2.ensures.items)
    (c.add_peer.ensures
    ∙ (ap (λ (d : Destination). with_peer c.reserve-3.new.self.items d) c.peer.ensures
    ∙ ap (λ (ds : List Destination). with_peer ds (peer_of known.name)) c.in_ok-reserve-3.ensures.items))
    c.in_ok-add_row.ensures.readers c.in_ok-add_row.ensures.counts c.make.ensures.made c.in_ok-add_row.ensures.writer
