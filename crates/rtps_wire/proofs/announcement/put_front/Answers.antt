use Rattle.std.proofs.Common.{◌∙◌, ap, List, ℕ, ◌++◌, append_assoc}
use Rattle.rtps_wire.proofs.announcement.put_front.Goals as goal

pub returns-clause-ok : goal.returns-clause-ok
returns-clause-ok c =
    let words =
    rw (
      c.halves_of.ensures.high,
      c.halves_of.ensures.low,
      c.halves_of-2.ensures.high,
      c.halves_of-2.ensures.low,
      c.data_header.ensures,
      c.number.ensures.number,
    ) at c.as_flattened.ensures.value in
    c.in_ok-extend_from_slice.ensures.items
    ∙ ap (λ (octets : List ℕ). c.args.out.now.items ++ octets) (words ∙ simp append_assoc)
