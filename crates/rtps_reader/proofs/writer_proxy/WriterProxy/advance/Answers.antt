use Rattle.std.proofs.Common.{rules, arith, ap, ◌≡◌, ◌≤◌, ◌<◌, ◌+◌, sym, ◌∙◌, subst, ℕ, List, Option}
use Rattle.std.specs.Prelude.{None, Some}
use Rattle.dds_base.specs.declared.change.Change.{Change}
use Rattle.dds_base.specs.declared.qos.ReaderQos.{ReaderQos}
use Rattle.rtps_sets.specs.Window.{mark_of, window_place}
use Rattle.rtps_sets.specs.declared.window.Mark.TheVariants as mark
use Rattle.rtps_reader.specs.Moving.{FindsNoRoom, HandsOn, match_of}
use Rattle.rtps_reader.specs.HeldChanges.{count_held}
use Rattle.rtps_reader.specs.Proxy.{tracked}
use Rattle.rtps_reader.proofs.MoveLaws.{Progress, over, not_passable_after, handed, stopped, begun}
use Rattle.rtps_reader.proofs.writer_proxy.WriterProxy.advance.Goals as goal

pub moving-init : goal.moving-init
moving-init g c =
    let runs = c.requires.memory.runs in
    let spare = c.requires.memory.sink in
    let len = c.requires.len in
    record {
      sound = c.requires.sound;
      qos = search rules;
      writers = search rules;
      outside = λ n le. c.place-tells_the_window.ensures.window n (search rules);
      runs = omega (arith, runs, len);
      short = omega (arith, len);
      spare = omega (arith, spare);
      progress = λ h st. begun _ (tracked c.args.self.now) h c.args.runs.now.items
          (g.S.Sink.stands c.args.sink.now) c.requires.none st;
    }

-- the place is within the window that there was at the start, where a change is held
marked_within : (start place : ℕ) → (start + 256 ≤ place → ⊥) → place < start + 256
marked_within start place never = omega arith

pub moving-preserved : goal.moving-preserved
moving-preserved g c =
    let it = c.moving.invariant in
    let yes = c.if-not-hand_on.false in
    let start : ℕ = window_place c.args.self.now.window in
    let qos : g.S.Sink.qos c.pass_over.new.sink ≡ g.S.Sink.qos c.args.sink.now = c.pass_over.ensures.qos ∙ it.qos in
    let over_it = c.pass_over.ensures.passes in
    let hand = c.hand_on.ensures.handed yes in
    let fewer = c.hand_on.ensures.fewer yes in
    let lens : count_held c.pass_over.new.self.held ≡ count_held c.moving.self.held =
    ap (λ (held : List (Option Change)). count_held held) c.pass_over.ensures.held in
    let forward = over_it.forward in
    let next = hand.place in
    let outside : (n : ℕ) → start + 256 ≤ n
    → mark_of c.pass_over.new.self.window n ≡ None = λ n le. c.pass_over.ensures.outside n (it.outside n le) in
    let was = c.hand_on.ensures.was_marked yes in
    let within : window_place c.pass_over.new.self.window < start + 256 =
    marked_within start (window_place c.pass_over.new.self.window)
    (λ le. let none : Some mark.Held ≡ None = sym was
    ∙ outside (window_place c.pass_over.new.self.window) le in absurd (cc)) in
    let runs = it.runs in
    let spare = it.spare in
    let more_runs = c.pass_over.ensures.runs in
    let capacity = c.pass_over.ensures.capacity in
    let spare_then = c.pass_over.ensures.spare in
    let spare_now = c.hand_on.ensures.spare in
    record {
      sound = c.hand_on.ensures.sound;
      qos = c.hand_on.ensures.qos ∙ qos;
      writers = c.hand_on.ensures.writers ∙ (c.pass_over.ensures.writers ∙ it.writers);
      outside = λ n le. c.hand_on.ensures.outside n (outside n le);
      runs = omega (arith, runs, more_runs, capacity, lens, fewer, forward, next, within);
      short = (let short = it.short in omega (arith, short, more_runs, lens, fewer, forward, next, within));
      spare = omega (arith, spare, spare_then, spare_now, lens, fewer, forward, next, within);
      progress = λ h st.
          handed (match_of (g.S.Sink.qos c.args.sink.now) c.args.source.now)
          (tracked c.args.self.now) h c.pass_over.new.runs.items (tracked c.pass_over.new.self)
          (tracked c.hand_on.new.self) (g.S.Sink.stands c.pass_over.new.sink) (g.S.Sink.stands c.hand_on.new.sink)
          (over _ _ h _ _ (tracked c.moving.self) (tracked c.pass_over.new.self) _ _ (it.progress h st) over_it)
          (subst (λ (q : ReaderQos). HandsOn (match_of q c.args.source.now) (g.S.Sink.stands c.pass_over.new.sink)
          (g.S.Sink.stands c.hand_on.new.sink) (tracked c.pass_over.new.self) (tracked c.hand_on.new.self)) qos
          hand);
    }

pub returns-then-not-hand_on-clause-moves : goal.returns-then-not-hand_on-clause-moves
returns-then-not-hand_on-clause-moves g c h st =
    let it = c.moving.invariant in
    let no_more = c.if-not-hand_on.true in
    let qos : g.S.Sink.qos c.pass_over.new.sink ≡ g.S.Sink.qos c.args.sink.now = c.pass_over.ensures.qos ∙ it.qos in
    let over_it = c.pass_over.ensures.passes in
    let stays = c.hand_on.ensures.stays no_more in
    let progress : Progress (match_of (g.S.Sink.qos c.args.sink.now) c.args.source.now)
    (tracked c.args.self.now) h c.pass_over.new.runs.items (tracked c.pass_over.new.self)
    (g.S.Sink.stands c.pass_over.new.sink) (window_place c.pass_over.new.self.window + 1) =
    over _ _ h _ _ (tracked c.moving.self) (tracked c.pass_over.new.self) _ _ (it.progress h st) over_it
    in
    let full : FindsNoRoom (match_of (g.S.Sink.qos c.args.sink.now) c.args.source.now)
    (g.S.Sink.stands c.pass_over.new.sink) (tracked c.pass_over.new.self) =
    subst (λ (q : ReaderQos). FindsNoRoom (match_of q c.args.source.now) (g.S.Sink.stands c.pass_over.new.sink)
    (tracked c.pass_over.new.self)) qos (c.hand_on.ensures.full no_more) in
    rw stays.1 (stopped (match_of (g.S.Sink.qos c.args.sink.now) c.args.source.now)
    (tracked c.args.self.now) h c.pass_over.new.runs.items (tracked c.pass_over.new.self)
    (tracked c.hand_on.new.self) (g.S.Sink.stands c.pass_over.new.sink)
    progress (not_passable_after _ _ _ _ _ _ _ over_it) full stays.0)
