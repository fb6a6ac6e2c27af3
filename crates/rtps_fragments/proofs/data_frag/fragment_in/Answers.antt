use Rattle.std.proofs.Common.{◌≡◌, ℕ, List, Option, Some, None, sym, arith}
use Rattle.dds_base.proofs.FieldLaws.{AreOctets}
use Rattle.rtps_fragments.specs.DataFrag.{Fragment}
use Rattle.rtps_fragments.specs.DataFragAt.{fragment_at}
use Rattle.rtps_fragments.specs.Hearing.{IsFragmentOf}
use Rattle.rtps_fragments.proofs.FragmentLaws.{fragment_found, fragment_only}
use Rattle.rtps_fragments.proofs.data_frag.fragment_in.Goals as goal

found : (id flags : ℕ) (body : List ℕ) (o : Option Fragment) → id ≡ 22 → AreOctets body → o ≡ fragment_at flags body
    → IsFragmentOf id flags body o
found id flags body None is octets e = λ f i r. let only = fragment_only flags body f r in cc
found id flags body (Some f) is octets e = (is, fragment_found flags body f octets (sym e))

pub returns : goal.returns
returns c =
    found c.args.id c.args.flags c.args.body.now c.fragment_of.result
    c.if-id-ne-ID_DATA_FRAG.false (λ i. omega (arith, c.type_inv.body i)) c.fragment_of.ensures
