use Rattle.std.proofs.Common.{◌≡◌, ◌-◌, List, [], ◌++◌, length, length-append, vec_capacity, vec_len, sym, ap, ◌∙◌, arith, append-nil, append_assoc}
use Rattle.dds_log.specs.Logs.{Logged}
use Rattle.dds_keeping.specs.declared.pieces.Pieces.{Pieces}
use Rattle.dds_trace.specs.declared.trace.Entry.{Entry}
use Rattle.dds_shared.specs.Seeds.{listeners_in}
use Rattle.dds_shared.proofs.Locking.{same_end, stays}
use Rattle.dds_shared.proofs.Using.{uses_told}
use Rattle.dds_shared.proofs.scribe.Locked+N+F+L+Pieces.cut.Goals as goal

pub invariant_of-self : goal.invariant_of-self
invariant_of-self g c =
    let old = c.self.inside in
    let kept = c.self.invariant.0 in
    let log = old.tally.log in
    let tally = c.write.ensures.kept ∙ c.compare.ensures.kept in
    let after = c.replace-full.ensures.after in
    let in_use = uses_told g.L.Listener.notices g.L.Listener.capacity g.L.Listener.becomes (listeners_in g.N.Named.slots)
    old.core kept.history.roster kept.history.peer c.in_use.result kept.history.stands c.in_use.ensures.used in
    let more = vec_capacity c.replace-full.new.dest.newest.entries - vec_len c.replace-full.new.dest.newest.entries in
    let room = ap (λ (p : Pieces). vec_capacity p.newest.entries - vec_len p.newest.entries) after in
    let empty = c.in_ok-reserve.ensures.same [] c.open-empty.ensures.nothing in
    let is_log = ap (λ (t : Logged Entry). t.log) tally in
    let stored = sym (append-nil log) ∙ ap (λ (es : List Entry). log ++ es) empty.2
    ∙ sym (append_assoc log empty.0 c.reserve.new.self.newest.entries.items) in
    let handed_out : length (log ++ empty.0) ≡ c.done-done.result =
    omega (
      arith,
      length-append log empty.0,
      length-append empty.0 c.reserve.new.self.newest.entries.items,
      ap (λ (es : List Entry). length es) empty.2,
      c.done-done.ensures.done,
    ) in (
      stays g.F.Filter.meaning g.L.Listener.notices g.L.Listener.capacity g.L.Listener.becomes g.N.Named.filters
          g.N.Named.slots g.N.Named.config g.N.Named.peer old.core log c.write.new.self.log
          (vec_capacity old.trace.newest.entries - vec_len old.trace.newest.entries) more old.rest.parts old.rest.amount
          old.left old.tally.next c.write.new.self.next kept is_log (ap (λ (t : Logged Entry). t.next) tally)
          (omega (arith, in_use, c.in_ok-reserve.ensures.room, room)),
      c.self.invariant.1,
      (
        log ++ empty.0,
        handed_out ∙ ap (λ (p : Pieces). p.cut) (sym after),
        is_log ∙ stored ∙ ap (λ (p : Pieces). (log ++ empty.0) ++ p.newest.entries.items) (sym after),
      ),
    )

pub returns-clause-piece : goal.returns-clause-piece
returns-clause-piece g c =
    let log = c.self.inside.tally.log in
    let cut = c.scribe.inside.scribe in
    let items = c.self.inside.trace.newest.entries.items in
    let split = c.compare.ensures.first in
    let kept = c.self.invariant.2 in
    let long : length kept.0 ≡ length cut =
    omega (
      arith,
      ap (λ (es : List Entry). length es) kept.2,
      length-append kept.0 items,
      c.done-done.ensures.done,
      c.len-newest.ensures,
      c.scribe.invariant,
      c.if-scribe-done.false,
      c.if-done-scribe.false,
    ) in
    let same = same_end kept.0 items cut split.0 (sym kept.2 ∙ split.1) long in
    let piece = c.from_entries.ensures.entries
    ∙ ap (λ (p : Pieces). p.newest.entries.items) c.replace-full.ensures.value in
    c.write.ensures.all
    ∙ ap (λ (t : Logged Entry). t.log) c.compare.ensures.kept
    ∙ split.1
    ∙ ap (λ (es : List Entry). cut ++ es) (sym (piece ∙ same))
    ∙ ap (λ (es : List Entry). es ++ c.from_entries.result.entries) c.scribe.view_is
