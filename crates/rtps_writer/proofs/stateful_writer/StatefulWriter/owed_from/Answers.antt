use Rattle.std.proofs.Common.{◌≡◌, ◌<◌, ◌+◌, ℕ, List, min, get_or, length, ap, sym, ◌∙◌, arith}
use Rattle.std.proofs.lemmas.List.{get_or_default}
use Rattle.rtps_writer.specs.Standing.{Kept}
use Rattle.rtps_writer.specs.WriterState.{history_of, last_of}
use Rattle.rtps_writer.proofs.Parts.{history_at, stands_as}
use Rattle.rtps_writer.proofs.stateful_writer.StatefulWriter.owed_from.Goals as goal

pub returns : goal.returns
returns c = λ s given.
    let h = history_at _ c.args.self.now s c.self.view_is given in
    let here = stands_as c.args.self.now _ s (sym c.self.view_is) given in
    let next : c.saturating_add-next.result ≡ last_of s + 1 =
    omega (
      arith,
      c.saturating_add-next.ensures,
      c.number.ensures.number,
      c.last.ensures.last
          (history_of s) h,
      c.last.ensures.few (history_of s) h,
    ) in
    let count = ap (λ (k : Kept). length k.counts) c.self.view_is in
    let within : c.args.reader < length c.self.inside.firsts.items =
    omega (arith, count, c.requires.reader, c.self.invariant.0, c.self.invariant.1) in
    let first : c.index.result.now ≡ get_or s.firsts c.args.reader 0 =
    c.index.ensures
    ∙ (get_or_default c.self.inside.firsts.items c.args.reader _ 0 within
    ∙ ap (λ (ns : List ℕ). get_or ns c.args.reader 0) here.firsts) in
    c.new.ensures.number
    ∙ (c.min.ensures
    ∙ (ap (λ (n : ℕ). min n c.saturating_add-next.result) first
    ∙ ap (λ (n : ℕ). min (get_or s.firsts c.args.reader 0) n) next))
