use Rattle.std.proofs.Common.{◌≡◌, ◌<◌, List, Some, length, slice_get, refl, sym, subst, rules}
use Rattle.std.proofs.lemmas.Option.{slice_get_read}
use Rattle.dds_ends.specs.declared.matching.WriterName.{WriterName}
use Rattle.dds_ends.specs.Standing.{IsFirstRow}
use Rattle.dds_core.proofs.CallSteps.{still_stands}
use Rattle.dds_core.proofs.MatchedWriters.{met_as_told, met_by_none}
use Rattle.dds_core.proofs.peer.Peer.is_matched.Goals as goal

pub returns-in_default-writer_row_among : goal.returns-in_default-writer_row_among
returns-in_default-writer_row_among c = record {
  matched = λ roster peer given.
      let within : c.in-Some.index < length c.self.inside.readers.items = search rules in
      met_by_none _ c.args.reader c.in-Some.index c.index-end.result.now c.args.writer c.in-Some.ensures.index.0
      (slice_get_read _ _ _ _ refl within c.index-end.ensures)
      (λ j n there. c.in_default-writer_row_among.ensures j n
      (subst (λ (ns : List WriterName). slice_get ns j ≡ Some n) (sym c.writers.ensures) there))
      roster peer (still_stands c.self.view_is given);
}

pub returns : goal.returns
returns c = record {
  matched = λ roster peer given.
      let row = c.in-Some-writer_row_among.row in
      let within : c.in-Some.index < length c.self.inside.readers.items = search rules in
      let first : IsFirstRow c.index-end.result.now.writers c.args.writer row =
      subst (λ (ns : List WriterName). IsFirstRow ns c.args.writer row) c.writers.ensures
      c.in-Some-writer_row_among.ensures in
      met_as_told _ c.args.reader c.in-Some.index row c.index-end.result.now c.args.writer c.is_attached.result
      c.in-Some.ensures.index.0 (slice_get_read _ _ _ _ refl within c.index-end.ensures) first
      c.is_attached.ensures.attached roster peer (still_stands c.self.view_is given);
}
