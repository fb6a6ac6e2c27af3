use Rattle.std.proofs.Common.{◌≡◌, ◌+◌, ◌++◌, ◌^◌, ◌-◌, ◌<◌, ◌≤◌, ℕ, false, true, None, List, [], ◌∷◌, length, get_or, refl, ap, sym, ◌∙◌, arith, rules}
use Rattle.dds_base.specs.declared.config.PeerConfig.{PeerConfig}
use Rattle.dds_core.specs.Listening.{CoreKept}
use Rattle.dds_core.specs.Opening.{coming_refusal}
use Rattle.dds_world.specs.Holding.{Held}
use Rattle.dds_world.proofs.Newcomers.{comes, has_prefix, only, opens_so, refuses_full, refuses_many, refuses_memory, refuses_prefix, refuses_so}
use Rattle.dds_world.proofs.world.World.come.Goals as goal
use Rattle.dds_world.proofs.world.World.come.Goals.{then-peers-ne1-via-then-peers-ne1, then-peers-ne1-via-else-peers-ne1+then-has_prefix}

pub returns-then-peers-ne1-clause-refused : goal.returns-then-peers-ne1-clause-refused
returns-then-peers-ne1-clause-refused g c =
    let count = ap (λ (ps : List PeerConfig). length ps) c.as_slice-peers.ensures.elements in
    elim c.then-peers-ne1.branch [
      | then-peers-ne1-via-then-peers-ne1 w ↦
          refuses_many g.L.Listener.notices g.L.Listener.capacity g.L.Listener.becomes c.args.self.now
          c.args.config.now.peers c.in_ok-check.ensures.ok (λ e. w.if-peers-ne1.true (count ∙ e))
      | then-peers-ne1-via-else-peers-ne1+then-has_prefix w ↦
          refuses_prefix g.L.Listener.notices g.L.Listener.capacity g.L.Listener.becomes c.args.self.now
          c.args.config.now.peers c.in_ok-check.ensures.ok w.index-peers-0.result
          (only c.args.config.now.peers w.index-peers-0.result (sym count ∙ w.if-peers-ne1.false)
          (w.index-peers-0.is
          ∙ ap (λ (ps : List PeerConfig). get_or ps 0 w.index-peers-0.result) c.as_slice-peers.ensures.elements))
          (ap (λ (q : PeerConfig). has_prefix q.prefix c.args.self.now.cores) w.index-peers-0.is
          ∙ (sym w.has_prefix.ensures ∙ w.if-has_prefix.true))
    ]

pub returns-then-count-clause-refused : goal.returns-then-count-clause-refused
returns-then-count-clause-refused g c =
    let count = ap (λ (ps : List PeerConfig). length ps) c.as_slice-peers.ensures.elements in
    let there : c.len-count.result ≡ length c.args.self.now.cores =
    c.len-count.ensures ∙ (c.self.inside.peers.ok.0
    ∙ ap (λ (h : Held g.row.F.Denot g.row.L.Denot). length h.cores) c.self.view_is) in
    let full = c.if-count.true in
    refuses_full g.L.Listener.notices g.L.Listener.capacity g.L.Listener.becomes c.args.self.now
    c.args.config.now.peers c.in_ok-check.ensures.ok c.index-peers-0.result
    (only c.args.config.now.peers c.index-peers-0.result (sym count ∙ c.if-peers-ne1.false)
    (c.index-peers-0.is
    ∙ ap (λ (ps : List PeerConfig). get_or ps 0 c.index-peers-0.result) c.as_slice-peers.ensures.elements))
    (ap (λ (q : PeerConfig). has_prefix q.prefix c.args.self.now.cores) c.index-peers-0.is
    ∙ (sym c.has_prefix.ensures ∙ c.if-has_prefix.false)) (omega (arith, full, there))

pub returns-in_err-core-clause-refused : goal.returns-in_err-core-clause-refused
returns-in_err-core-clause-refused g c =
    let count = ap (λ (ps : List PeerConfig). length ps) c.as_slice-peers.ensures.elements in
    let there : c.len-count.result ≡ length c.args.self.now.cores =
    c.len-count.ensures ∙ (c.self.inside.peers.ok.0
    ∙ ap (λ (h : Held g.row.F.Denot g.row.L.Denot). length h.cores) c.self.view_is) in
    let room = c.if-count.false in
    let alone : length c.args.config.now.peers ≡ 1 = sym count ∙ c.if-peers-ne1.false in
    refuses_so g.L.Listener.notices g.L.Listener.capacity g.L.Listener.becomes c.args.self.now
    c.args.config.now.peers c.from_residual-in_err-core.result
    (coming_refusal c.args.config.now.peers (c.len-count.result + 1))
    (opens_so c.args.config.now.peers (c.len-count.result + 1) c.in_ok-check.ensures.ok alone (omega arith))
    (refuses_memory g.L.Listener.notices g.L.Listener.capacity g.L.Listener.becomes c.args.self.now
    c.args.config.now.peers c.in_ok-check.ensures.ok c.index-peers-0.result
    (only c.args.config.now.peers c.index-peers-0.result alone
    (c.index-peers-0.is
    ∙ ap (λ (ps : List PeerConfig). get_or ps 0 c.index-peers-0.result) c.as_slice-peers.ensures.elements))
    (ap (λ (q : PeerConfig). has_prefix q.prefix c.args.self.now.cores) c.index-peers-0.is
    ∙ (sym c.has_prefix.ensures ∙ c.if-has_prefix.false)) (omega (arith, room, there))) (search rules)

pub returns-in_err-push-clause-refused : goal.returns-in_err-push-clause-refused
returns-in_err-push-clause-refused g c =
    let count = ap (λ (ps : List PeerConfig). length ps) c.as_slice-peers.ensures.elements in
    let there : c.len-count.result ≡ length c.args.self.now.cores =
    c.len-count.ensures ∙ (c.self.inside.peers.ok.0
    ∙ ap (λ (h : Held g.row.F.Denot g.row.L.Denot). length h.cores) c.self.view_is) in
    let room = c.if-count.false in
    refuses_so g.L.Listener.notices g.L.Listener.capacity g.L.Listener.becomes c.args.self.now
    c.args.config.now.peers c.from_residual-in_err-push.result None refl
    (refuses_memory g.L.Listener.notices g.L.Listener.capacity g.L.Listener.becomes c.args.self.now
    c.args.config.now.peers c.in_ok-check.ensures.ok c.index-peers-0.result
    (only c.args.config.now.peers c.index-peers-0.result (sym count ∙ c.if-peers-ne1.false)
    (c.index-peers-0.is
    ∙ ap (λ (ps : List PeerConfig). get_or ps 0 c.index-peers-0.result) c.as_slice-peers.ensures.elements))
    (ap (λ (q : PeerConfig). has_prefix q.prefix c.args.self.now.cores) c.index-peers-0.is
    ∙ (sym c.has_prefix.ensures ∙ c.if-has_prefix.false)) (omega (arith, room, there))) (search rules)

pub returns-clause-ok : goal.returns-clause-ok
returns-clause-ok g c =
    let count = ap (λ (ps : List PeerConfig). length ps) c.as_slice-peers.ensures.elements in
    let there : c.len-count.result ≡ length c.args.self.now.cores =
    c.len-count.ensures ∙ (c.self.inside.peers.ok.0
    ∙ ap (λ (h : Held g.row.F.Denot g.row.L.Denot). length h.cores) c.self.view_is) in
    let room = c.if-count.false in
    let old : Held g.row.F.Denot g.row.L.Denot = c.args.self.now in
    comes g.L.Listener.notices g.L.Listener.capacity g.L.Listener.becomes old c.in_ok-core.core c.args.config.now
    (c.len-count.result + 1)
    (record { cores = c.push.new.self.items; sent = c.self.inside.sent.items; unsent = c.self.inside.unsent })
    c.index-peers-0.result (omega (arith, there))
    (ap (λ (ks : List (CoreKept g.row.F.Denot g.row.L.Denot)).
    record { cores = ks; sent = c.self.inside.sent.items; unsent = c.self.inside.unsent }) c.in_ok-push.ensures.items
    ∙ ap (λ (h : Held g.row.F.Denot g.row.L.Denot). record h { cores = h.cores ++ c.in_ok-core.core ∷ [] })
    c.self.view_is)
    c.in_ok-core.ensures.none c.in_ok-core.ensures.coming c.in_ok-check.ensures.ok
    (only c.args.config.now.peers c.index-peers-0.result (sym count ∙ c.if-peers-ne1.false)
    (c.index-peers-0.is
    ∙ ap (λ (ps : List PeerConfig). get_or ps 0 c.index-peers-0.result) c.as_slice-peers.ensures.elements))
    (ap (λ (q : PeerConfig). has_prefix q.prefix c.args.self.now.cores) c.index-peers-0.is
    ∙ (sym c.has_prefix.ensures ∙ c.if-has_prefix.false)) (omega (arith, room, there))
