use Rattle.std.proofs.Common.{◌≡◌, ◌<◌, List, [], length, slice_get, get_or, refl, sym, ◌∙◌, ap, subst, Some, rules}
use Rattle.std.proofs.lemmas.Option.{same_Some, slice_get-get_or, slice_get_read}
use Rattle.dds_ends.specs.declared.matching.ReaderName.{ReaderName}
use Rattle.dds_ends.specs.Standing.{IsFirstReader}
use Rattle.dds_core.proofs.CallSteps.{still_stands}
use Rattle.dds_core.proofs.Pairs.{not_among, is_among}
use Rattle.dds_core.proofs.peer.Peer.pair.Goals as goal

pub returns-in_default-row_among : goal.returns-in_default-row_among
returns-in_default-row_among c = record {
  pair = λ roster peer given.
      let within : c.in-Some.index < length c.self.inside.writers.items = search rules in
      not_among _ c.in-Some.index c.args.writer c.index-end.result.now c.args.reader c.in-Some.ensures.index.0
      (slice_get_read _ _ _ _ refl within c.index-end.ensures)
      (λ j n there. c.in_default-row_among.ensures j n
      (subst (λ (ns : List ReaderName). slice_get ns j ≡ Some n) (sym c.readers.ensures) there))
      roster peer (still_stands c.self.view_is given);
}

-- what an index past the end would give
abbrev no_name : ReaderName
no_name =
    record {
      reader = record { peer = 0; number = 0 };
      guid = record { prefix = record { 0 = [] }; entity = record { 0 = [] } };
    }

pub returns : goal.returns
returns c = record {
  pair = λ roster peer given.
      let k = c.index-end.result.now in
      let row = c.in-Some-row_among.row in
      let within : c.in-Some.index < length c.self.inside.writers.items = search rules in
      let first : IsFirstReader k.readers c.args.reader row =
      subst (λ (ns : List ReaderName). IsFirstReader ns c.args.reader row) c.readers.ensures
      c.in-Some-row_among.ensures in
      let name : get_or c.readers-2.result.now row no_name ≡ first.name =
      ap (λ (ns : List ReaderName). get_or ns row no_name) c.readers-2.ensures
      ∙ same_Some (get_or k.readers row no_name) first.name
      (sym (slice_get-get_or k.readers row no_name first.within) ∙ first.at) in
      let pair =
      is_among _ c.in-Some.index c.args.writer k c.args.reader row c.is_behind.result c.last.result c.in-Some.ensures.index.0
      (slice_get_read _ _ _ _ refl within c.index-end.ensures) first c.is_behind.ensures.behind c.last.ensures
      roster peer (still_stands c.self.view_is given) in
      (pair.0, c.entity.ensures ∙ pair.1, ap (λ (n : ReaderName). n.guid.entity) name ∙ pair.2, pair.3, pair.4);
}
