use Rattle.std.proofs.Common.{◌-◌, ap, ◌∙◌, arith}
use Rattle.std.specs.Prelude.{is_some}
use Rattle.dds_lease.specs.declared.track.LeaseTrack.{LeaseTrack}
use Rattle.dds_lease.proofs.StandingLaws.{kept-track, matched-count, stands-as}
use Rattle.dds_lease.proofs.leases.Leases.is_alive.Goals as goal
use Rattle.dds_lease.proofs.leases.Leases.is_alive.Goals.{then-at-eq0-via-then-at-eq0, then-at-eq0-via-else-at-eq0+then-len-at}

pub returns-then-at-eq0-clause-matched : goal.returns-then-at-eq0-clause-matched
returns-then-at-eq0-clause-matched c = λ q h given matched.
    let count = matched-count _ q h (stands-as _ _ q h c.self.view_is given) in
    elim c.then-at-eq0.branch [
      | then-at-eq0-via-then-at-eq0 w ↦ absurd (omega (arith, w.if-at-eq0.true, matched.0, c.number-at.ensures.number))
      | then-at-eq0-via-else-at-eq0+then-len-at w ↦ absurd
          (omega (arith, w.if-len-at.true, w.len.ensures, matched.1, c.number-at.ensures.number, count))
    ]

pub returns-clause-matched : goal.returns-clause-matched
returns-clause-matched c = λ q h given matched.
    let count = matched-count _ q h (stands-as _ _ q h c.self.view_is given) in
    c.is_some.ensures
    ∙ ap (λ (t : LeaseTrack). is_some t.since)
    (c.index.ensures
    ∙ kept-track _ q h c.args.writer (c.number-at.result - 1) c.index.result.now
    (stands-as _ _ q h c.self.view_is given) (omega (arith, matched.0, c.number-at.ensures.number))
    (omega (arith, matched.0, matched.1, c.number-at.ensures.number, count)))

pub returns-clause-unmatched : goal.returns-clause-unmatched
returns-clause-unmatched c = λ q h given unmatched.
    let count = matched-count _ q h (stands-as _ _ q h c.self.view_is given) in
    absurd (unmatched (
      omega (arith, c.if-at-eq0.false, c.number-at.ensures.number),
      omega (arith, c.if-len-at.false, c.len.ensures, c.number-at.ensures.number, count),
    ))
