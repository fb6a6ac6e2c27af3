use Rattle.std.proofs.Common.{◌++◌, ℕ, Bool, List, Result, Ok, Err, IfOk, arith}
use Rattle.dds_base.specs.declared.code.Code.{Code}
use Rattle.dds_base.specs.declared.guid.GuidPrefix.{GuidPrefix}
use Rattle.rtps_wire.specs.Frames.{IsEnd}
use Rattle.rtps_adapter.specs.declared.direction.Way.{Way}
use Rattle.rtps_adapter.specs.declared.kinds.WriterKind.{WriterKind}
use Rattle.rtps_adapter.specs.Turning.{Piece}
use Rattle.rtps_adapter.specs.Adapting.{StandsIn}
use Rattle.rtps_adapter.specs.PayloadText.{Puts}
use Rattle.rtps_adapter.proofs.Standing.{Goes, turned_texts, goes_none, goes_more, goes_no_further, goes_to_end}
use Rattle.rtps_adapter.proofs.adapt.put_all.Goals as goal

pub loop-frame-init : goal.loop-frame-init
loop-frame-init c =
    goes_none c.args.way c.args.kinds.now c.args.source.now c.args.body.now c.args.out.now.items
    (λ i. omega (arith, c.type_inv.body i))

pub loop-frame-preserved : goal.loop-frame-preserved
loop-frame-preserved c =
    goes_more c.args.way c.args.kinds.now c.args.source.now c.args.body.now c.loop-frame.left.now
    c.args.out.now.items c.loop-frame.out.items c.put_piece.new.out.items c.in-Some.frame.id c.in-Some.frame.flags
    c.in-Some.frame.body.now c.in-Some.rest.now c.in_ok-put_piece.field-0 c.loop-frame.invariant
    c.in-Some.ensures.found c.in_ok-put_piece.ensures.ok c.if-not-branch.false

pub returns-then-not-branch-clause-ok : goal.returns-then-not-branch-clause-ok
returns-then-not-branch-clause-ok c =
    let t =
    goes_no_further c.args.way c.args.kinds.now c.args.source.now c.args.body.now c.loop-frame.left.now
    c.args.out.now.items c.loop-frame.out.items c.put_piece.new.out.items c.in-Some.frame.id c.in-Some.frame.flags
    c.in-Some.frame.body.now c.in-Some.rest.now c.in_ok-put_piece.field-0 c.loop-frame.invariant
    c.in-Some.ensures.found c.in_ok-put_piece.ensures.ok c.if-not-branch.true in
    (t.pieces, t.left, t.stands, t.puts)

at_end : (way : Way) (kinds : List WriterKind) (source : GuidPrefix) (start left begun old new : List ℕ)
    (r : Result Bool Code) → Goes way kinds source start left begun old → IsEnd left → IfOk r (Puts old new left)
    → IfOk r (λ fits. (ps : List Piece) × (end : List ℕ) × StandsIn start ps end
    × Puts begun new (turned_texts way kinds source ps ++ end) fits)
at_end way kinds source start left begun old new (Ok fits) g end p =
    let t = goes_to_end way kinds source start left begun old new fits g end p in
    (t.pieces, t.left, t.stands, t.puts)
at_end way kinds source start left begun old new (Err e) g end p = tt

pub returns-clause-ok : goal.returns-clause-ok
returns-clause-ok c =
    at_end c.args.way c.args.kinds.now c.args.source.now c.args.body.now c.loop-frame.left.now
    c.args.out.now.items c.loop-frame.out.items c.put_within.new.out.items c.put_within.result c.loop-frame.invariant
    c.in_default.ensures.end c.put_within.ensures.ok
