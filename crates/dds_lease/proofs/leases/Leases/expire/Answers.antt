use Rattle.std.proofs.Common.{◌≡◌, ℕ, ◌-◌, ◌<◌, ◌≤◌, List, ◌∷◌, length, get_or, Option, Some, None, true, sym, subst, ap, ◌∙◌, refl, arith}
use Rattle.std.specs.Prelude.{find, is_some, nat_lt, MatchOption}
use Rattle.dds_base.specs.declared.happening.Happening.{Happening}
use Rattle.dds_base.specs.declared.happening.Happening.TheVariants.{Died}
use Rattle.dds_base.specs.declared.qos.ReaderQos.{ReaderQos}
use Rattle.dds_base.specs.Liveliness.{dead_at}
use Rattle.dds_lease.specs.declared.track.LeaseTrack.{LeaseTrack}
use Rattle.dds_lease.specs.Standing.{Kept, StandsFor, after_deaths_above, overdue_of}
use Rattle.dds_lease.specs.Track.{first_over}
use Rattle.dds_lease.specs.Overdue.{is_over_at}
use Rattle.dds_lease.proofs.DeathLaws.{deaths_end, deaths_go_on}
use Rattle.dds_lease.proofs.StandingLaws.{buried-counts, buried-overdue, died-stands, found-first, over-live, stands-as}
use Rattle.dds_lease.proofs.leases.Leases.expire.Goals as goal

-- nobody dies
none : (c : goal.After-from_residual) (q : ReaderQos) (h : List Happening) → StandsFor c.args.self.now q h
    → find (nat_lt c.args.after) (dead_at q c.args.now h) ≡ None
none c q h given =
    sym (found-first _ q h c.args.now c.args.after (stands-as _ _ q h c.self.view_is given))
    ∙ (ap (λ (ts : List LeaseTrack). first_over c.args.after c.args.now 1 ts) (sym c.deref.ensures.value)
    ∙ (sym c.find_over.ensures.first ∙ c.in_err-writer.was))

pub returns-in_err-writer-clause-first : goal.returns-in_err-writer-clause-first
returns-in_err-writer-clause-first c = λ q h given. c.from_residual.ensures ∙ sym (none c q h given)

pub returns-in_err-writer-clause-turn : goal.returns-in_err-writer-clause-turn
returns-in_err-writer-clause-turn c = λ q h given.
    subst (λ (o : Option ℕ). MatchOption o (after_deaths_above q c.args.now c.args.after h ≡ h)
    (λ w. after_deaths_above q c.args.now c.args.after h
    ≡ after_deaths_above q c.args.now w (Died w c.args.now ∷ h)))
    (sym c.from_residual.ensures)
    (deaths_end q c.args.now c.args.after h (none c q h given))

-- the one that dies
pub record Dies (ts : List LeaseTrack) (at now : ℕ) (track : LeaseTrack) : Type 0 where
  within : at < length ts
  is : track ≡ get_or ts at track
  over : is_over_at now track ≡ true
  alive : is_some track.since ≡ true

dies : (tracks kept : List LeaseTrack) (w n now after : ℕ) (track : LeaseTrack) → tracks ≡ kept → n ≡ w
    → (after < w) × (w ≤ length tracks) → ((d : LeaseTrack) → is_over_at now (get_or tracks (w - 1) d) ≡ true)
    → track ≡ get_or kept (n - 1) track → Dies kept (n - 1) now track
dies tracks kept w n now after track same number above over is =
    let count = ap (λ (ts : List LeaseTrack). length ts) same in
    let over_here : is_over_at now track ≡ true =
    ap (λ (t : LeaseTrack). is_over_at now t)
    (is ∙ (ap (λ (m : ℕ). get_or kept (m - 1) track) number
    ∙ ap (λ (ts : List LeaseTrack). get_or ts (w - 1) track) (sym same)))
    ∙ over track in
    record {
      within = omega (arith, count, number, above.0, above.1);
      is = is;
      over = over_here;
      alive = over-live track.lease track.since now over_here;
    }

pub overflow_sub-self : goal.overflow_sub-self
overflow_sub-self c =
    let one = dies _ _ _ _ _ _ c.index-track.result.now c.deref.ensures.value c.number.ensures.number
    c.in_ok-writer.ensures.above c.in_ok-writer.ensures.over c.index-track.ensures in
    let counts = buried-counts _ _ c.index-track.result.now one.within one.is one.alive in
    omega (arith, c.self.invariant.0, counts.0)

pub invariant_of-self : goal.invariant_of-self
invariant_of-self c =
    let one = dies _ _ _ _ _ _ c.index-track.result.now c.deref.ensures.value c.number.ensures.number
    c.in_ok-writer.ensures.above c.in_ok-writer.ensures.over c.index-track.ensures in
    let counts = buried-counts _ _ c.index-track.result.now one.within one.is one.alive in
    (omega (arith, c.self.invariant.0, counts.0), omega (arith, c.self.invariant.1, counts.1))

-- it is the first of those that die
first : (c : goal.After-writer-2-1) (q : ReaderQos) (h : List Happening) → StandsFor c.args.self.now q h
    → find (nat_lt c.args.after) (dead_at q c.args.now h) ≡ Some c.in_ok-writer.writer
first c q h given =
    sym (found-first _ q h c.args.now c.args.after (stands-as _ _ q h c.self.view_is given))
    ∙ (ap (λ (ts : List LeaseTrack). first_over c.args.after c.args.now 1 ts) (sym c.deref.ensures.value)
    ∙ sym c.in_ok-writer.ensures.first)

pub returns-clause-first : goal.returns-clause-first
returns-clause-first c = λ q h given. sym (first c q h given)

pub returns-clause-died : goal.returns-clause-died
returns-clause-died c = λ q h given.
    let one = dies _ _ _ _ _ _ c.index-track.result.now c.deref.ensures.value c.number.ensures.number
    c.in_ok-writer.ensures.above c.in_ok-writer.ensures.over c.index-track.ensures in
    let above = c.in_ok-writer.ensures.above in
    died-stands _ _ q h c.in_ok-writer.writer c.args.now (c.number.result - 1) c.index-track.result.now
    (stands-as _ _ q h c.self.view_is given)
    (omega (arith, c.number.ensures.number, above.0)) one.within one.is one.alive
    refl refl

pub returns-clause-turn : goal.returns-clause-turn
returns-clause-turn c = λ q h given.
    deaths_go_on q c.args.now c.args.after c.in_ok-writer.writer h (first c q h given)

pub returns-clause-overdue : goal.returns-clause-overdue
returns-clause-overdue c =
    let one = dies _ _ _ _ _ _ c.index-track.result.now c.deref.ensures.value c.number.ensures.number
    c.in_ok-writer.ensures.above c.in_ok-writer.ensures.over c.index-track.ensures in
    let fewer = buried-overdue _ _ c.args.now c.index-track.result.now one.within one.is one.over in
    let kept = ap (λ (k : Kept). overdue_of k c.args.now) c.self.view_is in
    omega (arith, fewer, kept)
