use Rattle.std.proofs.Common.{◌≡◌, true, List, ◌∷◌, ap, sym, subst}
use Rattle.dds_base.specs.declared.qos.HistoryQos.{HistoryQos}
use Rattle.dds_history.specs.declared.held.Entry.{Entry}
use Rattle.dds_history.specs.Entries.{Holds, IsAfterFirst, KeptState, goes_first, is_counted_by}
use Rattle.dds_history.proofs.Counting.{counted_gone, quiet_first, quiet_gone}
use Rattle.dds_history.proofs.held.Kept.drop_first.Goals as goal

pub returns-then-entry-number-clause-after : goal.returns-then-entry-number-clause-after
returns-then-entry-number-clause-after c = λ last holds goes.
    let was = c.args.self.now in
    let now = c.uncount.new.self in
    let e : Entry = c.in-Some.entry in
    let rest : List Entry = c.pop_front.new.self.items in
    let depth = c.in-KeepLast.depth in
    let gone =
    counted_gone depth last was.live now.live was.keys.entries now.keys.entries e rest
    (λ is some. let less = c.uncount.ensures.counted is some in (less.counts, less.live))
    (λ is. let same = c.uncount.ensures.dropped is in
    (ap (λ (s : KeptState). s.counted) same, ap (λ (s : KeptState). s.live) same)) in
    let by_policy =
    subst (λ (p : HistoryQos).
    Holds last (record { policy = p; entries = e ∷ rest; counted = was.keys.entries; live = was.live })
    → IsAfterFirst last (record { policy = p; entries = e ∷ rest; counted = was.keys.entries; live = was.live })
    (record { policy = p; entries = rest; counted = now.keys.entries; live = now.live }))
    (sym c.in-KeepLast.is) gone in
    let of_now =
    subst (λ (p : HistoryQos).
    Holds last (record { policy = was.policy; entries = e ∷ rest; counted = was.keys.entries; live = was.live })
    → IsAfterFirst last (record { policy = was.policy; entries = e ∷ rest; counted = was.keys.entries; live = was.live })
    (record { policy = p; entries = rest; counted = now.keys.entries; live = now.live }))
    (sym c.uncount.ensures.policy) by_policy in
    let of_rest =
    subst (λ (es : List Entry).
    Holds last (record { policy = was.policy; entries = e ∷ rest; counted = was.keys.entries; live = was.live })
    → IsAfterFirst last (record { policy = was.policy; entries = e ∷ rest; counted = was.keys.entries; live = was.live })
    (record { policy = now.policy; entries = es; counted = now.keys.entries; live = now.live }))
    (sym (ap (λ q. q.items) c.uncount.ensures.entries)) of_now in
    subst (λ (es : List Entry).
    Holds last (record { policy = was.policy; entries = es; counted = was.keys.entries; live = was.live })
    → IsAfterFirst last (record { policy = was.policy; entries = es; counted = was.keys.entries; live = was.live })
    (record { policy = now.policy; entries = now.entries.items; counted = now.keys.entries; live = now.live }))
    (sym c.in-Some.ensures.items) of_rest holds

pub returns-in-KeepLast-clause-after : goal.returns-in-KeepLast-clause-after
returns-in-KeepLast-clause-after c = λ last holds goes.
    let was = c.args.self.now in
    subst (λ (es : List Entry).
    Holds last (record { policy = was.policy; entries = es; counted = was.keys.entries; live = was.live })
    → goes_first c.args.number (record { policy = was.policy; entries = es; counted = was.keys.entries; live = was.live }) ≡ true
    → IsAfterFirst last (record { policy = was.policy; entries = es; counted = was.keys.entries; live = was.live })
    (record { policy = was.policy; entries = c.pop_front.new.self.items; counted = was.keys.entries; live = was.live }))
    (sym c.in-Some.ensures.items)
    (λ sound first. quiet_gone was.policy last was.live was.keys.entries c.in-Some.entry c.pop_front.new.self.items
    (quiet_first c.args.number was.policy was.keys.entries c.in-Some.entry c.if-entry-number.false first) sound)
    holds goes

pub returns-in-Some-clause-after : goal.returns-in-Some-clause-after
returns-in-Some-clause-after c = λ last holds goes.
    let was = c.args.self.now in
    subst (λ (es : List Entry).
    Holds last (record { policy = was.policy; entries = es; counted = was.keys.entries; live = was.live })
    → IsAfterFirst last (record { policy = was.policy; entries = es; counted = was.keys.entries; live = was.live })
    (record { policy = was.policy; entries = c.pop_front.new.self.items; counted = was.keys.entries; live = was.live }))
    (sym c.in-Some.ensures.items)
    (quiet_gone was.policy last was.live was.keys.entries c.in-Some.entry c.pop_front.new.self.items
    (ap (λ (p : HistoryQos). is_counted_by p was.keys.entries c.in-Some.entry) c.in_default-policy.is)) holds
