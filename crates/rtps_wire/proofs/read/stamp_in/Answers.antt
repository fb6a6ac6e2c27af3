use Rattle.std.proofs.Common.{ℕ, Option, arith, subst, sym}
use Rattle.std.specs.Prelude.{IfNone, IfSome}
use Rattle.rtps_wire.specs.declared.submessage.Submessage.TheVariants.{InfoTs}
use Rattle.rtps_wire.specs.Submessages.{Reads}
use Rattle.rtps_wire.proofs.SubmessageLaws.{info_ts_if, no_info_ts}
use Rattle.rtps_wire.proofs.read.stamp_in.Goals as goal

pub returns-then-id-ne-ID_INFO_TS-clause-none : goal.returns-then-id-ne-ID_INFO_TS-clause-none
returns-then-id-ne-ID_INFO_TS-clause-none c = λ moment k. c.if-id-ne-ID_INFO_TS.true k.kind

pub returns-clause-found : goal.returns-clause-found
returns-clause-found c =
    subst (λ (id : ℕ). IfSome c.info_ts_of.result
    (λ moment. Reads id c.args.flags c.args.body.now (InfoTs moment)))
    (sym c.if-id-ne-ID_INFO_TS.false)
    (info_ts_if c.info_ts_of.result c.args.flags c.args.body.now (λ i. omega (arith, c.type_inv.body i))
    c.info_ts_of.ensures)

pub returns-clause-none : goal.returns-clause-none
returns-clause-none c =
    subst (λ (id : ℕ). IfNone c.info_ts_of.result ((moment : Option ℕ)
    → Reads id c.args.flags c.args.body.now (InfoTs moment) → ⊥))
    (sym c.if-id-ne-ID_INFO_TS.false)
    (no_info_ts c.info_ts_of.result c.args.flags c.args.body.now c.info_ts_of.ensures)
