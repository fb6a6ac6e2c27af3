-- is_asked
use Rattle.std.proofs.Common.{◌≡◌, Bool, true, false, ◌||◌, List, ap, sym, ◌∙◌}
use Rattle.std.specs.List.{list_any}
use Rattle.rtps_writer.proofs.Parts.{stands_as}
use Rattle.rtps_writer.proofs.TickLaws.{any_set}
use Rattle.rtps_writer.proofs.stateful_writer.StatefulWriter.is_asked.Goals as goal

pub returns-then-contains : goal.returns-then-contains
returns-then-contains c = λ s given.
    let here = stands_as c.args.self.now _ s (sym c.self.view_is) given in
    let asks : list_any (λ asks. asks) s.asks ≡ true =
    ap (λ (bs : List Bool). list_any (λ asks. asks) bs) (sym (c.deref.ensures.value ∙ here.asks))
    ∙ (sym (any_set c.deref.result.now) ∙ (sym c.contains.ensures.value ∙ c.if-contains.true)) in
    c.if-contains.true ∙ sym (ap (λ (b : Bool). b || list_any (λ silent. silent) s.silents) asks)

pub returns-else-contains : goal.returns-else-contains
returns-else-contains c = λ s given.
    let here = stands_as c.args.self.now _ s (sym c.self.view_is) given in
    let asks : list_any (λ asks. asks) s.asks ≡ false =
    ap (λ (bs : List Bool). list_any (λ asks. asks) bs) (sym (c.deref.ensures.value ∙ here.asks))
    ∙ (sym (any_set c.deref.result.now) ∙ (sym c.contains.ensures.value ∙ c.if-contains.false)) in
    c.contains-else-contains.ensures.value
    ∙ (any_set c.deref-else-contains.result.now
    ∙ (ap (λ (bs : List Bool). list_any (λ silent. silent) bs) (c.deref-else-contains.ensures.value ∙ here.silents)
    ∙ sym (ap (λ (b : Bool). b || list_any (λ silent. silent) s.silents) asks)))
