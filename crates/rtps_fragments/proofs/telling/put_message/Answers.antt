use Rattle.std.proofs.Common.{◌∙◌, ap, arith, ℕ, List, ◌++◌}
use Rattle.rtps_fragments.specs.Telling.{front_text}
use Rattle.rtps_fragments.proofs.Texts.{made}
use Rattle.rtps_fragments.proofs.telling.put_message.Goals as goal

pub returns-clause-ok : goal.returns-clause-ok
returns-clause-ok c =
    let p = c.args.payload.now in
    let begun = c.in_ok-put_front.ensures.ok
    ∙ ap (λ (z : List ℕ). z ++ front_text c.args.in_force.now) c.in_ok-out.ensures.items in
    let all =
    made c.args.in_force.now _ c.args.flags _ c.args.parameters.now p.front.now p.octets.now p.back.now _ _ _ _ _ _ _
    c.fragment.invariant (omega arith) begun c.in_ok-put_submessage_header.ensures.ok
    (rw c.order_of.ensures at c.in_ok-put_data_head.ensures.ok) c.in_ok-extend_from_slice.ensures.items
    c.in_ok-extend_from_slice-2.ensures.items c.in_ok-extend_from_slice-3.ensures.items
    c.in_ok-extend_from_slice-4.ensures.items in
    rw (← c.fragment.view_is) (c.from_vec.ensures.octets ∙ all)
