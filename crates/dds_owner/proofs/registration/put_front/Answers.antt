use Rattle.std.proofs.Common.{◌≡◌, ℕ, ◌≤◌, ◌++◌, List, length, set, take, drop, ap, ◌∙◌, arith}
use Rattle.std.proofs.lemmas.List.{take_all}
use Rattle.dds_owner.specs.declared.registration.Registration.{Registration}
use Rattle.dds_owner.proofs.RegistrationLaws.{put-one}
use Rattle.dds_owner.proofs.registration.put_front.Goals as goal

pub loop-at-preserved : goal.loop-at-preserved
loop-at-preserved c =
    let old : List Registration = c.args.registrations.now.items in
    record {
      items = ap (λ (rs : List Registration). set rs c.loop-at.at c.index-first-at.result) c.loop-at.invariant.items
          ∙ put-one c.args.first.now old c.loop-at.at c.index-first-at.result c.loop-at-test.true
          (omega (arith, c.requires, c.args.registrations.now.ok.0)) c.index-first-at.is;
      len = c.loop-at.invariant.len;
    }

pub returns : goal.returns
returns c =
    let old : List Registration = c.args.registrations.now.items in
    let end : c.loop-at.at ≡ length c.args.first.now = omega (arith, c.loop-at-test.false) in
    c.loop-at.invariant.items
    ∙ (ap (λ (n : ℕ). take n c.args.first.now ++ drop n old) end
    ∙ ap (λ (rs : List Registration). rs ++ drop (length c.args.first.now) old)
    (take_all (length c.args.first.now) c.args.first.now (omega arith)))
