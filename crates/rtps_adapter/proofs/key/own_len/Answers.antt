use Rattle.std.proofs.Common.{◌≡◌, ℕ, Bool, true, false, not, take, Some, refl, sym, ap, subst, ◌∙◌, arith}
use Rattle.dds_base.specs.declared.key.Key.{Key}
use Rattle.dds_base.specs.Happening.{same_key}
use Rattle.dds_base.proofs.KeyLaws.{key-same}
use Rattle.rtps_adapter.proofs.KeyForms.{own_few, own_some, own_none}
use Rattle.rtps_adapter.proofs.key.own_len.Goals as goal

turned_round : (b c d : Bool) → c ≡ not b → c ≡ not d → b ≡ d
turned_round true c true is e = refl
turned_round true c false is e = absurd cc
turned_round false c true is e = absurd cc
turned_round false c false is e = refl

pub returns-then-ne-clause-own : goal.returns-then-ne-clause-own
returns-then-ne-clause-own c =
    let found = c.in_ok-octets.ensures.some in
    let other : same_key c.key.result c.args.key.now ≡ false =
    turned_round (same_key c.key.result c.args.key.now) c.ne.result false c.ne.ensures c.if-ne.true in
    sym (own_none c.args.encoding c.args.fields.now c.args.key.now found.0 found.1
    (subst (λ (z : Key). same_key z c.args.key.now ≡ false) (c.key.ensures found.0 found.2) other))

pub overflow_cast-result : goal.overflow_cast-result
overflow_cast-result c =
    let found = c.in_ok-octets.ensures.some in
    omega (
      arith,
      own_few c.args.encoding c.args.fields.now c.args.key.now found.0 c.as_slice-octets.ensures.len found.1,
      found.2.len,
    )

pub returns-clause-few : goal.returns-clause-few
returns-clause-few c =
    let found = c.in_ok-octets.ensures.some in
    omega (
      arith,
      own_few c.args.encoding c.args.fields.now c.args.key.now found.0 c.as_slice-octets.ensures.len found.1,
      found.2.len,
    )

pub returns-clause-own : goal.returns-clause-own
returns-clause-own c =
    let found = c.in_ok-octets.ensures.some in
    let same : same_key c.key.result c.args.key.now ≡ true =
    turned_round (same_key c.key.result c.args.key.now) c.ne.result true c.ne.ensures c.if-ne.false in
    ap (λ (n : ℕ). Some (take n c.args.key.now.0)) found.2.len
    ∙ own_some c.args.encoding c.args.fields.now c.args.key.now found.0 c.as_slice-octets.ensures.len found.1
    (sym (c.key.ensures found.0 found.2) ∙ key-same c.key.result c.args.key.now same)
