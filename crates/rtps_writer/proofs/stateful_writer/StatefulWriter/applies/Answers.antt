use Rattle.std.proofs.Common.{◌≡◌, ◌+◌, ◌<◌, ℕ, Bool, ◌&&◌, length, ap, sym, ◌∙◌, arith, w32}
use Rattle.std.specs.Prelude.{nat_le, ℤ}
use Rattle.std.proofs.lemmas.Int.{to_z-of_z}
use Rattle.dds_base.specs.Counts.{is_later}
use Rattle.rtps_writer.specs.Standing.{Kept}
use Rattle.rtps_writer.specs.WriterState.{history_of, last_of}
use Rattle.rtps_writer.proofs.AcknackLaws.{is_applied-at}
use Rattle.rtps_writer.proofs.Parts.{history_at, stands_as}
use Rattle.rtps_writer.proofs.stateful_writer.StatefulWriter.applies.Goals as goal

pub returns-then-is_later : goal.returns-then-is_later
returns-then-is_later c = record {
  applied = λ s given.
      let h = history_at _ c.args.self.now s c.self.view_is given in
      let count = ap (λ (k : Kept). length k.counts) c.self.view_is in
      let within : c.args.reader < length c.self.inside.counts.items = omega (arith, count, c.requires.reader) in
      let last : c.saturating_add.result ≡ last_of s + 1 =
      omega (
        arith,
        c.saturating_add.ensures,
        c.number-then-is_later.ensures.number,
        c.last.ensures.last
            (history_of s) h,
        c.last.ensures.few (history_of s) h,
      ) in
      let same = to_z-of_z w32 c.args.count c.ranges.count in
      let is_new = ap (λ (z : ℤ). is_later c.index.result.now z) (sym same)
      ∙ (sym c.is_later.ensures.later ∙ c.if-is_later.true) in
      ap (λ (n : ℕ). nat_le n c.saturating_add.result) c.number.ensures.number
      ∙ (ap (λ (n : ℕ). nat_le c.args.base n) last
      ∙ (ap (λ (b : Bool). b && nat_le c.args.base (last_of s + 1)) (sym is_new)
      ∙ sym (is_applied-at _ s c.args.reader c.args.base c.args.count c.index.result.now
      (stands_as c.args.self.now _ s (sym c.self.view_is) given) within c.index.ensures)));
}
