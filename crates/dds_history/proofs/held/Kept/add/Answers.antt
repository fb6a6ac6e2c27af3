use Rattle.std.proofs.Common.{◌≡◌, true, ◌∷◌, [], ◌++◌, List, ap, sym, subst, ◌∙◌}
use Rattle.dds_base.specs.declared.qos.HistoryQos.{HistoryQos}
use Rattle.dds_history.specs.declared.held.Entry.{Entry}
use Rattle.dds_history.specs.Entries.{Holds, IsCountedBy, IsFewBy, held_by, state}
use Rattle.dds_history.specs.Held.{with_change}
use Rattle.dds_history.proofs.Adding.{added_by, few_of}
use Rattle.dds_history.proofs.held.Kept.add.Goals as goal

pub returns-clause-ok : goal.returns-clause-ok
returns-clause-ok c = λ last before runs some.
    let was = c.args.self.now in
    let same = c.reserve.ensures.items in
    let few = subst (λ (es : List Entry). IsFewBy was.policy last
    (record { policy = was.policy; entries = es; counted = was.keys.entries; live = was.live })) (sym same)
    (few_of was.policy last (state was) before.holds.fits) in
    let counted = subst (λ (es : List Entry). IsCountedBy was.policy c.args.change.key
    (record { policy = was.policy; entries = es; counted = was.keys.entries; live = was.live })
    (state c.turn.new.self) c.in_ok-turn.turn) same (c.in_ok-turn.ensures.counts last before.few few) in
    let new : Entry = record {
      number = c.args.number;
      change = c.args.change;
      turn = c.in_ok-turn.turn;
    } in
    let more : c.push_back_reserved.new.self.items ≡ was.entries.items ++ new ∷ [] =
    c.push_back_reserved.ensures.items
    ∙ (ap (λ (es : List Entry). es ++ new ∷ []) (ap (λ q. q.items) c.turn.ensures.entries ∙ same)) in
    subst (λ (p : HistoryQos). Holds c.args.number (record {
      policy = p;
      entries = c.push_back_reserved.new.self.items;
      counted = c.turn.new.self.keys.entries;
      live = c.turn.new.self.live;
    })
    × (held_by p c.turn.new.self.keys.entries c.push_back_reserved.new.self.items
    ≡ with_change was.policy (held_by was.policy was.keys.entries was.entries.items) c.args.number c.args.change true))
    (sym c.turn.ensures.policy)
    (added_by was.policy last was.live was.keys.entries was.entries.items c.push_back_reserved.new.self.items
    (state c.turn.new.self) c.in_ok-turn.turn c.args.number c.args.change before.next some runs before.holds counted
    more)
