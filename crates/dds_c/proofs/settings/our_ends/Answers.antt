use Rattle.std.proofs.Common.{◌≡◌, ◌+◌, ◌∙◌, arith}
use Rattle.dds_c.proofs.Ends.{ends_more, ends_none, refused_at}
use Rattle.dds_c.proofs.settings.our_ends.Goals as goal

pub loop-flat-init : goal.loop-flat-init
loop-flat-init c =
    ends_none c.args.prefix.now c.in_ok-all.all.items c.args.ends.now c.new-ours.result.items c.new-ours.ensures.items

pub returns-in-Err-clause-refused : goal.returns-in-Err-clause-refused
returns-in-Err-clause-refused c =
    let numbered : c.in-Some.number ≡ c.loop-flat.flat-index + 1 =
    omega (arith, c.in-Some.ensures.number, c.len.ensures, c.loop-flat.invariant.1) in
    refused_at c.args.prefix.now c.args.fields.now c.deref.result.now c.args.ends.now c.loop-flat.flat-index _
    c.in-Some.number c.in-Err.code (c.deref.ensures.value ∙ c.in_ok-all.ensures) c.loop-flat-test.true numbered
    c.in-Err.ensures.refused

pub loop-flat-preserved : goal.loop-flat-preserved
loop-flat-preserved c =
    let numbered : c.in-Some.number ≡ c.loop-flat.flat-index + 1 =
    omega (arith, c.in-Some.ensures.number, c.len.ensures, c.loop-flat.invariant.1) in
    ends_more c.args.prefix.now c.in_ok-all.all.items c.deref.result.now c.args.ends.now c.loop-flat.flat-index _
    c.loop-flat.ours.items c.push.new.self.items c.in-Ok.end c.in-Some.number c.deref.ensures.value
    c.in_ok-push-in-Ok.ensures.items c.loop-flat-test.true numbered c.loop-flat.invariant c.in-Ok.ensures.end
