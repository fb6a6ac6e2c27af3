use Rattle.std.proofs.Common.{◌≡◌, ◌<◌, Some, length, slice_get, subst, ap, rules, arith, refl}
use Rattle.std.proofs.lemmas.Option.{same_Some, slice_get_read}
use Rattle.dds_machine.specs.declared.call.Call.TheVariants as call
use Rattle.dds_ends.specs.Kept.{WriterKept}
use Rattle.dds_core.specs.Kept.{PeerKept}
use Rattle.dds_ends.specs.Standing.{IsShort}
use Rattle.dds_core.proofs.CallSteps.{follows_as, long_at, write_at, made_steps, made_sends}
use Rattle.dds_core.proofs.peer.Peer.write.Goals as goal

pub make-requires-clause-short : goal.make-requires-clause-short
make-requires-clause-short c = λ k at.
    let i = c.in-Some.index in
    let within : i < length c.args.self.now.writers = search rules in
    let here : i < length c.self.inside.writers.items =
    let same = ap (λ (x : PeerKept). length x.writers) c.self.view_is in omega (arith, within, same) in
    let there : slice_get c.args.self.now.writers i ≡ Some c.index.result.now =
    subst (λ (x : PeerKept). slice_get x.writers i ≡ Some c.index.result.now) c.self.view_is
    (slice_get_read _ _ _ _ refl here c.index.ensures) in
    subst (λ (x : WriterKept). IsShort x.max_value c.args.value) (same_Some _ _ (subst (λ o. o ≡ Some k) there at))
    (c.is_too_long.ensures.short c.if-is_too_long.false)

pub returns-then-is_too_long-clause-step : goal.returns-then-is_too_long-clause-step
returns-then-is_too_long-clause-step c = λ roster peer s.
    let i = c.in-Some.index in
    let within : i < length c.args.self.now.writers = search rules in
    let here : i < length c.self.inside.writers.items =
    let same = ap (λ (x : PeerKept). length x.writers) c.self.view_is in omega (arith, within, same) in
    let there : slice_get c.args.self.now.writers i ≡ Some c.index.result.now =
    subst (λ (x : PeerKept). slice_get x.writers i ≡ Some c.index.result.now) c.self.view_is
    (slice_get_read _ _ _ _ refl here c.index.ensures) in
    follows_as _ roster peer _ _ _ c.refused-then-is_too_long.ensures
    (long_at c.args.self.now c.args.writer i c.index.result.now c.args.key c.args.value roster peer s
    c.in-Some.ensures.index.0 there (c.is_too_long.ensures.long c.if-is_too_long.true))

pub returns-clause-step : goal.returns-clause-step
returns-clause-step c = λ roster peer s.
    let i = c.in-Some.index in
    let within : i < length c.args.self.now.writers = search rules in
    let here : i < length c.self.inside.writers.items =
    let same = ap (λ (x : PeerKept). length x.writers) c.self.view_is in omega (arith, within, same) in
    let there : slice_get c.args.self.now.writers i ≡ Some c.index.result.now =
    subst (λ (x : PeerKept). slice_get x.writers i ≡ Some c.index.result.now) c.self.view_is
    (slice_get_read _ _ _ _ refl here c.index.ensures) in
    let makes =
    write_at c.args.self.now c.args.writer i c.index.result.now c.args.key c.args.value roster peer s
    c.in-Some.ensures.index.0 within there (c.is_too_long.ensures.short c.if-is_too_long.false) in
    made_steps c.args.self.now c.make.new.self roster peer s
    (call.Write c.args.writer c.args.key c.args.value) _ _ c.make.result makes (c.make.ensures.makes roster peer s)

pub returns-clause-sends : goal.returns-clause-sends
returns-clause-sends c = λ roster peer s.
    let i = c.in-Some.index in
    let within : i < length c.args.self.now.writers = search rules in
    let here : i < length c.self.inside.writers.items =
    let same = ap (λ (x : PeerKept). length x.writers) c.self.view_is in omega (arith, within, same) in
    let there : slice_get c.args.self.now.writers i ≡ Some c.index.result.now =
    subst (λ (x : PeerKept). slice_get x.writers i ≡ Some c.index.result.now) c.self.view_is
    (slice_get_read _ _ _ _ refl here c.index.ensures) in
    let makes =
    write_at c.args.self.now c.args.writer i c.index.result.now c.args.key c.args.value roster peer s
    c.in-Some.ensures.index.0 within there (c.is_too_long.ensures.short c.if-is_too_long.false) in
    made_sends c.make.new.self roster peer (call.Write c.args.writer c.args.key c.args.value) _ _ c.make.result makes
    (c.make.ensures.makes roster peer s)
