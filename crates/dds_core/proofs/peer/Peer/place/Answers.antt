use Rattle.std.proofs.Common.{◌≡◌, ◌<◌, List, Some, length, slice_get, refl, sym, subst, rules}
use Rattle.std.proofs.lemmas.Option.{slice_get_read}
use Rattle.dds_ends.specs.declared.matching.WriterName.{WriterName}
use Rattle.dds_ends.specs.Standing.{IsFirstRow}
use Rattle.dds_core.proofs.CallSteps.{still_stands}
use Rattle.dds_core.proofs.Pairs.{no_place, place_found}
use Rattle.dds_core.proofs.peer.Peer.place.Goals as goal

pub returns-in_default-writer_row_among : goal.returns-in_default-writer_row_among
returns-in_default-writer_row_among c = record {
  place = λ roster peer given.
      let within : c.in-Some.index < length c.self.inside.readers.items = search rules in
      no_place _ c.in-Some.index c.args.reader c.index-end.result.now c.args.writer c.in-Some.ensures.index.0
      (slice_get_read _ _ _ _ refl within c.index-end.ensures)
      (λ j n there. c.in_default-writer_row_among.ensures j n
      (subst (λ (ns : List WriterName). slice_get ns j ≡ Some n) (sym c.writers.ensures) there))
      roster peer (still_stands c.self.view_is given);
}

pub returns : goal.returns
returns c = record {
  place = λ roster peer given.
      let row = c.in-Some-writer_row_among.row in
      let within : c.in-Some.index < length c.self.inside.readers.items = search rules in
      let first : IsFirstRow c.index-end.result.now.writers c.args.writer row =
      subst (λ (ns : List WriterName). IsFirstRow ns c.args.writer row) c.writers.ensures
      c.in-Some-writer_row_among.ensures in
      place_found _ c.in-Some.index c.args.reader c.index-end.result.now c.args.writer row c.place.result
      c.in-Some.ensures.index.0 (slice_get_read _ _ _ _ refl within c.index-end.ensures) first c.place.ensures roster peer
      (still_stands c.self.view_is given);
}
