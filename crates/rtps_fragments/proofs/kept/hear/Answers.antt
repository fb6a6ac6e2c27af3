use Rattle.std.proofs.Common.{ap, subst, IfOk}
use Rattle.rtps_fragments.specs.DataFrag.{Fragment}
use Rattle.rtps_fragments.specs.Keeping.{Heard}
use Rattle.rtps_fragments.specs.Telling.{Answers}
use Rattle.rtps_fragments.proofs.Finding.{heard_found, heard_none}
use Rattle.rtps_fragments.proofs.kept.hear.Goals as goal

pub returns-in-Some-clause-ok : goal.returns-in-Some-clause-ok
returns-in-Some-clause-ok c =
    let f = c.args.fragment.now in
    subst
    (λ (h : Heard). IfOk c.go_on.result (λ m. Answers c.args.in_force.now c.args.fragment.now c.go_on.new.kept.items m h))
    (heard_found c.args.kept.now.items c.as_slice.result.now f c.args.in_force.now.timestamp c.fragment.inside.writer_sn c.in-Some.place
    c.as_slice.ensures.value (ap (λ (v : Fragment). v.writer_sn) c.fragment.view_is) c.in-Some.ensures)
    c.go_on.ensures.ok

pub returns-in-None-clause-ok : goal.returns-in-None-clause-ok
returns-in-None-clause-ok c =
    let f = c.args.fragment.now in
    subst
    (λ (h : Heard). IfOk c.begin.result (λ m. Answers c.args.in_force.now c.args.fragment.now c.begin.new.kept.items m h))
    (heard_none c.args.kept.now.items c.as_slice.result.now f c.args.in_force.now.timestamp c.fragment.inside.writer_sn
    c.as_slice.ensures.value (ap (λ (v : Fragment). v.writer_sn) c.fragment.view_is) c.in-None.ensures)
    c.begin.ensures.ok
