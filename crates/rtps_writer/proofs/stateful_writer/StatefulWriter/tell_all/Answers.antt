use Rattle.std.proofs.Common.{false, sym, ◌∙◌}
use Rattle.std.specs.Vec.{vec_len}
use Rattle.std.proofs.lemmas.Simd.{splat_is_map}
use Rattle.rtps_writer.proofs.Parts.{stands-unasked, stands_as}
use Rattle.rtps_writer.proofs.stateful_writer.StatefulWriter.tell_all.Goals as goal

pub returns-clause-stands : goal.returns-clause-stands
returns-clause-stands c = λ s given.
    stands-unasked _ s c.fill.new.self.items (stands_as c.args.self.now _ s (sym c.self.view_is) given)
    (c.fill.ensures.items (λ y is. is)
    ∙ splat_is_map c.self.inside.asks.items (vec_len c.self.inside.asks) false (sym c.self.inside.asks.ok.0))
