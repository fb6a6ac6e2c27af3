use Rattle.std.proofs.Common.{ℕ, List, length, ap, arith, Option}
use Rattle.rtps_adapter.specs.declared.payload.NewPayload.{NewPayload}
use Rattle.rtps_adapter.specs.PayloadText.{body_with}
use Rattle.rtps_adapter.proofs.PayloadLaws.{body_le}
use Rattle.rtps_adapter.proofs.change.Change.put_body.Goals as goal

pub put_payload-requires : goal.put_payload-requires
put_payload-requires c =
    let le = body_le c.self.inside.front.now c.in-Some.payload in
    let seen = ap (λ (p : Option NewPayload). length (body_with c.self.inside.front.now p)) c.in-Some.is in
    let is = ap (λ (x : ℕ × List ℕ). length x.1) c.self.view_is in
    omega (arith, le, seen, is, c.requires)
