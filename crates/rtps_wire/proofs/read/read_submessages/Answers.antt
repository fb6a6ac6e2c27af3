use Rattle.std.proofs.Common.{rules, ◌≡◌, ◌⊎◌, ◌∙◌, ℕ, List, [], ◌∷◌, inl, inr, refl, subst, ap, length, append_assoc, arith}
use Rattle.std.proofs.lemmas.List.{append-nil, length-append}
use Rattle.rtps_wire.specs.Messages.{ReadsFirst, HasFrame}
use Rattle.rtps_wire.proofs.MessageLaws.{reads_on}
use Rattle.rtps_wire.proofs.read.read_submessages.Goals as goal

-- where reading has come to a submessage, one stood at the beginning
begins : (left bytes : List ℕ) → HasFrame left → (left ≡ bytes) ⊎ HasFrame bytes → HasFrame bytes
begins left bytes here (inl same) = subst (λ (b : List ℕ). HasFrame b) same here
begins left bytes here (inr there) = there

pub loop-frame-init : goal.loop-frame-init
loop-frame-init c =
    record {
      on = λ ss end r. rw c.requires.none r;
      fewer = let none = ap length c.requires.none in omega (arith, none);
      first = inl refl;
    }

pub loop-frame-preserved : goal.loop-frame-preserved
loop-frame-preserved c =
    let frame = c.in-Some.frame in
    let rest = c.in-Some.rest.now in
    let found = c.in-Some.ensures.found in
    let pushed = c.in_ok-push_frame.ensures.ok in
    let one = pushed.0 in
    let here : ReadsFirst c.loop-frame.left.now one rest = (frame.id, frame.flags, frame.body.now, found, pushed.1) in
    record {
      on = λ ss end r. rw (pushed.2, append_assoc)
          (c.loop-frame.invariant.on (one ∷ ss) end
          (reads_on c.loop-frame.left.now one rest ss end here r));
      fewer =
          let longer = ap length pushed.2 ∙ length-append c.loop-frame.submessages (one ∷ []) in
          let before = c.loop-frame.invariant.fewer in
          omega (arith, longer, before, c.in-Some.ensures.fewer);
      first = inr (begins c.loop-frame.left.now c.args.bytes.now (frame.id, frame.flags, frame.body.now, rest, found)
          c.loop-frame.invariant.first);
    }

pub returns-clause-ok : goal.returns-clause-ok
returns-clause-ok c =
    rw (← append-nil c.loop-frame.submessages)
    (c.loop-frame.invariant.on [] c.loop-frame.left.now (c.in_default.ensures.end, refl))

pub returns-in_err-push_frame-clause-memory : goal.returns-in_err-push_frame-clause-memory
returns-in_err-push_frame-clause-memory c =
    let frame = c.in-Some.frame in
    let has : HasFrame c.args.bytes.now =
    begins c.loop-frame.left.now c.args.bytes.now
    (frame.id, frame.flags, frame.body.now, c.in-Some.rest.now, c.in-Some.ensures.found) c.loop-frame.invariant.first in
    search rules
