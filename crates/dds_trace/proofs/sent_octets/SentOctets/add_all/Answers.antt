use Rattle.std.proofs.Common.{◌≡◌, ⊎_elim, inl, inr, sym, ◌∙◌, arith}
use Rattle.dds_protocol.specs.declared.event.Packet.{Packet}
use Rattle.dds_trace.proofs.Octets.{any_more}
use Rattle.dds_trace.proofs.sent_octets.SentOctets.add_all.Goals as goal

pub loop-packet-init : goal.loop-packet-init
loop-packet-init c q = (λ h. inl h, λ h. ⊎_elim (λ l. l) (λ r. absurd (let lt = r.2 in omega (arith, lt))) h)

pub loop-packet-preserved : goal.loop-packet-preserved
loop-packet-preserved c q =
    let i = c.loop-packet.invariant q in
    let a = c.in_ok-add.ensures q in
    let bytes = c.as_slice.ensures.octets in
    let m = any_more (λ (p : Packet). p.bytes ≡ q) c.loop-packet.packet-index c.args.packets.now c.packet-item.result
    c.loop-packet-test.true (sym c.packet-item.is) in (
      λ h. ⊎_elim
          (λ l. ⊎_elim (λ o. inl o) (λ b. inr (m.0 (inl b))) (i.0 l))
          (λ r. inr (m.0 (inr (sym (r ∙ bytes)))))
          (a.0 h),
      λ h. a.1 (⊎_elim
          (λ l. inl (i.1 (inl l)))
          (λ r. ⊎_elim (λ b. inl (i.1 (inr b))) (λ p. inr (sym (bytes ∙ p))) (m.1 r))
          h),
    )

pub returns : goal.returns
returns c q =
    let i = c.loop-packet.invariant q in (
      λ h. ⊎_elim (λ l. inl l) (λ r. inr (r.0, r.1, r.3, r.4, r.5)) (i.0 h),
      λ h. i.1 (⊎_elim (λ l. inl l)
          (λ r. inr (r.0, r.1, (let lt = r.2 in let end = c.loop-packet-test.false in omega (arith, lt, end)), r.2, r.3, r.4)) h),
    )
