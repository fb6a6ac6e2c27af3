use Rattle.std.proofs.Common.{◌≡◌, ◌≤◌, ℕ, length, vec_len}
use Rattle.std.specs.Prelude.{vec_capacity}
use Rattle.dds_notices.specs.Listeners.{ByEntity}
use Rattle.dds_world.specs.Holding.{filters_of, kept_of, tests_in}
use Rattle.dds_world.specs.WorldStanding.{RunsByRules}
use Rattle.dds_world.proofs.world.World.run.Given as goal

abbrev pub invariant-loop-event : goal.invariant-loop-event
invariant-loop-event g l =
    ((given : ℕ → ByEntity g.row.L.Denot)
    → RunsByRules (tests_in g.F.Filter.meaning l.initial.self)
    (kept_of g.L.Listener.notices g.L.Listener.capacity g.L.Listener.becomes given l.initial.self) l.yielded l.replies.items
    (kept_of g.L.Listener.notices g.L.Listener.capacity g.L.Listener.becomes given l.self))
    × (filters_of l.self ≡ filters_of l.initial.self)
    × (vec_len l.replies ≡ length l.yielded) × (length l.fn.events.items ≤ vec_capacity l.replies)
