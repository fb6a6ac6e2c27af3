use Rattle.std.proofs.Common.{◌≡◌, ◌∙◌, ◌-◌, ◌++◌, ℕ, List, length, take, ap}
use Rattle.dds_builtin.proofs.Turning.{turned_message}
use Rattle.dds_builtin.proofs.kinds.with_kinds_of.Goals as goal

pub returns-clause-turned : goal.returns-clause-turned
returns-clause-turned g c =
    let begun : c.extend_from_slice-2.new.self.items
    ≡ take (length c.args.bytes.now - length c.in-Some.body.now) c.args.bytes.now =
    c.in_ok-extend_from_slice-2.ensures.items ∙ ap (λ (z : List ℕ). z ++ take (length c.args.bytes.now - length
    c.in-Some.body.now) c.args.bytes.now) c.new-out.ensures.items in
    let all =
    turned_message (g.K.EntityKinds.of_reader c.args.kinds.now) (g.K.EntityKinds.of_writer c.args.kinds.now) c.args.bytes.now c.in-Some.field-0-0 c.in-Some.body.now c.extend_from_slice-2.new.self.items
    c.put_all.new.out.items c.in-Some.ensures.found begun c.in_ok-put_all.ensures.ok in
    rw c.from_vec-2.ensures.octets all
