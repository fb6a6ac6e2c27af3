use Rattle.std.proofs.Common.{◌≡◌, ◌<◌, Some, List, length, slice_get, sym, subst, ◌∙◌, ap, rules, arith, refl}
use Rattle.std.specs.Prelude.{ℕ}
use Rattle.std.proofs.lemmas.Option.{same_Some, slice_get_read}
use Rattle.dds_protocol.specs.Roster.{Roster}
use Rattle.dds_machine.specs.declared.call.Call.TheVariants as call
use Rattle.dds_protocol.specs.declared.event.Event.TheVariants as event
use Rattle.dds_protocol.specs.Peer.{Peer}
use Rattle.dds_ends.specs.Kept.{WriterKept}
use Rattle.dds_core.specs.Kept.{PeerKept}
use Rattle.dds_core.specs.Making.{Makes}
use Rattle.dds_core.specs.Stepping.{Sends}
use Rattle.dds_ends.specs.Standing.{IsShort, WriterStands}
use Rattle.dds_core.specs.Standing.{StandsFor}
use Rattle.dds_core.specs.Stepping.{Steps}
use Rattle.dds_core.proofs.CallSteps.{follows_as, unregister_at, unregistered_at, made_steps, made_sends}
use Rattle.dds_core.proofs.peer.Peer.unregister.Goals as goal

-- there is no value, so it is short
pub make-requires-clause-short : goal.make-requires-clause-short
make-requires-clause-short c = λ k at.
    subst (λ (v : List ℕ). IsShort k.max_value v) (sym (c.from_vec-none.ensures.octets ∙ c.new.ensures.items))
    (omega arith, omega arith)

-- the change is made or refused, and what goes out is said of either
unregisters : (c : goal.After-make)
    → Steps c.args.self.now (event.Call (call.Unregister c.args.writer c.args.key)) c.make.result c.make.new.self
    × Sends c.args.self.now (event.Call (call.Unregister c.args.writer c.args.key)) c.make.result
unregisters c =
    let i = c.in-Some.index in
    let made =
    subst (λ (v : List ℕ). Makes c.args.self.now i c.unregister_kind-kind.result c.args.key v c.make.result
    c.make.new.self) (c.from_vec-none.ensures.octets ∙ c.new.ensures.items) c.make.ensures.makes in
    let within : i < length c.args.self.now.writers = search rules in
    let here : i < length c.self.inside.writers.items =
    let same = ap (λ (k : PeerKept). length k.writers) c.self.view_is in omega (arith, within, same) in
    let first : slice_get c.self.inside.writers.items i ≡ Some c.index.result.now =
    slice_get_read _ _ _ _ refl here c.index.ensures in
    let second : slice_get c.self.inside.writers.items i ≡ Some c.index-2.result.now =
    slice_get_read _ _ _ _ refl here c.index-2.ensures in
    let one : c.index-2.result.now ≡ c.index.result.now =
    same_Some c.index-2.result.now c.index.result.now (sym second ∙ first) in
    let at : slice_get c.args.self.now.writers i ≡ Some c.index.result.now =
    subst (λ (k : PeerKept). slice_get k.writers i ≡ Some c.index.result.now) c.self.view_is first in
    let makes =
    λ (roster : Roster) (peer : Peer)
    (s : StandsFor c.args.self.now roster peer). unregister_at c.args.self.now c.args.writer i c.index.result.now
    c.args.key c.unregister_kind-kind.result roster peer s c.in-Some.ensures.index.0 within at
    (λ w answered stands. sym (c.is_registered.ensures w answered stands) ∙ c.if-not-is_registered.false)
    (λ w answered stands. c.unregister_kind-kind.ensures w answered
    (subst (λ (k : WriterKept). WriterStands k w answered) (sym one) stands)) in (
      λ roster peer s. made_steps c.args.self.now c.make.new.self roster peer s
          (call.Unregister c.args.writer c.args.key) _ _ c.make.result (makes roster peer s) (made roster peer s),
      λ roster peer s. made_sends c.make.new.self roster peer
          (call.Unregister c.args.writer c.args.key) _ _ c.make.result (makes roster peer s) (made roster peer s),
    )

pub returns-then-not-is_registered-clause-step : goal.returns-then-not-is_registered-clause-step
returns-then-not-is_registered-clause-step c = λ roster peer s.
    let i = c.in-Some.index in
    let within : i < length c.args.self.now.writers = search rules in
    let here : i < length c.self.inside.writers.items =
    let same = ap (λ (k : PeerKept). length k.writers) c.self.view_is in omega (arith, within, same) in
    let there : slice_get c.self.inside.writers.items i ≡ Some c.index.result.now =
    slice_get_read _ _ _ _ refl here c.index.ensures in
    let at : slice_get c.args.self.now.writers i ≡ Some c.index.result.now =
    subst (λ (k : PeerKept). slice_get k.writers i ≡ Some c.index.result.now) c.self.view_is there in
    follows_as _ roster peer _ _ _ c.refused-then-not-is_registered.ensures
    (unregistered_at c.args.self.now c.args.writer i c.index.result.now c.args.key roster peer s
    c.in-Some.ensures.index.0 within at (λ w answered stands. sym (c.is_registered.ensures w answered stands) ∙ c.if-not-is_registered.true))

pub returns-clause-step : goal.returns-clause-step
returns-clause-step c = (unregisters c).0

pub returns-clause-sends : goal.returns-clause-sends
returns-clause-sends c = (unregisters c).1
