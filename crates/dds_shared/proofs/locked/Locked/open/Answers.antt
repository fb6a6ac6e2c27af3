use Rattle.std.proofs.Common.{List, length, sym, ap, ◌∙◌, subst, arith}
use Rattle.dds_log.specs.Logs.{Logged}
use Rattle.dds_notices.specs.Listeners.{Slotted}
use Rattle.dds_trace.specs.declared.trace.Entry.{Entry}
use Rattle.dds_trace.specs.History.{IsHistoryOf}
use Rattle.dds_shared.specs.Seeds.{listeners_in, slots_shown}
use Rattle.dds_shared.proofs.Using.{unused_yet}
use Rattle.dds_shared.proofs.locked.Locked.open.Goals as goal

pub invariant_of-result : goal.invariant_of-result
invariant_of-result g c =
    let given = listeners_in g.N.Named.slots in
    let P : List Entry → Type 0 =
    λ es. IsHistoryOf g.F.Filter.meaning g.L.Listener.notices g.L.Listener.capacity g.L.Listener.becomes given
    g.N.Named.config g.N.Named.peer es c.args.core in
    let unused = unused_yet g.F.Filter.meaning g.L.Listener.notices g.L.Listener.capacity g.L.Listener.becomes given
    g.N.Named.config g.N.Named.peer c.args.core c.requires.core in
    let kept = ap (λ (t : Logged Entry). t.log) c.seat-hand.ensures.fewer in
    let none = ap (λ (t : Logged Entry). t.log) c.requires.tally in
    let next = ap (λ (t : Logged Entry). t.next) c.seat-hand.ensures.fewer in
    let first = ap (λ (t : Logged Entry). t.next) c.requires.tally in
    let nothing = ap (λ (es : List Entry). length es) (kept ∙ none) in (
      record {
        history = subst P (sym (kept ∙ none)) c.requires.core;
        same_filters = c.requires.set.0;
        same_slots = ap (λ (s : Slotted g.row.L.Denot). slots_shown g.L.Listener.capacity s) c.requires.set.1;
        room = omega (arith, unused);
        countable = omega (arith, unused, nothing);
        rest = omega (arith, c.split_off-share.ensures.parts_left, c.requires.all.0);
        nothing = omega (arith, c.split_off-share.ensures.amount_left, c.requires.all.1);
        few = omega arith;
        seats = omega (arith, next, first);
      },
      c.requires.peer,
      subst (λ (es : List Entry). g.T.Keeping.keeps c.open.result es) (sym (kept ∙ none)) c.open.ensures.nothing,
    )
