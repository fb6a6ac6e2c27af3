use Rattle.std.proofs.Common.{◌≡◌, ℕ, Option, ◌-◌, set, Bool, ◌||◌, true, false, sym, ap, ◌∙◌, arith}
use Rattle.std.specs.Prelude.{if◌then◌else◌, is_some}
use Rattle.dds_lease.specs.declared.leases.Leases.TheInside.{Inside}
use Rattle.dds_lease.specs.declared.track.LeaseTrack.{LeaseTrack}
use Rattle.dds_lease.proofs.TrackLaws.{parted}
use Rattle.dds_lease.proofs.StandingLaws.{parted-stands, parted-turns, stands-as, within}
use Rattle.dds_lease.proofs.leases.Leases.leave.Goals as goal
use Rattle.dds_lease.proofs.leases.Leases.leave.Goals.{in-Some-default, in-None-true}

-- nothing was known of it
unknown : (c : goal.In-None-false)
    → (is_some c.index-track.result.now.since || c.index-track.result.now.has_died) ≡ false
unknown c =
    ap (λ (o : Option ℕ). is_some o || c.index-track.result.now.has_died) c.in-None-false.is-0 ∙ c.in-None-false.is-1

pub returns-in-None-false-clause-left : goal.returns-in-None-false-clause-left
returns-in-None-false-clause-left c = λ q h given.
    parted-stands _ _ q h c.args.writer c.args.now (c.number.result - 1) c.index-track.result.now
    (stands-as _ _ q h c.self.view_is given) (omega (arith, c.requires.matched.0, c.number.ensures.number))
    (within _ _ c.args.writer c.number.result c.self.view_is c.requires.matched c.number.ensures.number)
    c.index-track.ensures
    (ap (λ (t : LeaseTrack). set c.self.inside.tracks.items (c.number.result - 1) t) c.new.ensures)
    (ap (λ (b : Bool). if b then c.args.writer else c.self.inside.last_turned) (sym (unknown c)))

pub returns-in-None-false-clause-turned : goal.returns-in-None-false-clause-turned
returns-in-None-false-clause-turned c = λ q h given.
    sym (unknown c)
    ∙ parted-turns _ q h c.args.writer (c.number.result - 1) c.index-track.result.now
    (stands-as _ _ q h c.self.view_is given) (omega (arith, c.requires.matched.0, c.number.ensures.number))
    (within _ _ c.args.writer c.number.result c.self.view_is c.requires.matched c.number.ensures.number)
    c.index-track.ensures

-- it was alive, or died before
turns : (c : goal.After-writer-1)
    → (is_some c.index-track.result.now.since || c.index-track.result.now.has_died) ≡ true
turns c = elim c.match-track.branch [
  | in-Some-default w ↦ ap (λ (o : Option ℕ). is_some o || c.index-track.result.now.has_died) w.in-Some-default.is-0
  | in-None-true w ↦ ap (λ (o : Option ℕ). is_some o || c.index-track.result.now.has_died) w.in-None-true.is-0
      ∙ w.in-None-true.is-1
]

tracks : (c : goal.After-writer-1)
    → c.match-track.self-inside.tracks.items
    ≡ set c.self.inside.tracks.items (c.number.result - 1) (parted c.index-track.result.now)
tracks c = elim c.match-track.branch [
  | in-Some-default w ↦ ap (λ (i : Inside). i.tracks.items) w.self-inside-is
      ∙ ap (λ (t : LeaseTrack). set c.self.inside.tracks.items (c.number.result - 1) t) c.new.ensures
  | in-None-true w ↦ ap (λ (i : Inside). i.tracks.items) w.self-inside-is
      ∙ ap (λ (t : LeaseTrack). set c.self.inside.tracks.items (c.number.result - 1) t) c.new.ensures
]

pub returns-clause-left : goal.returns-clause-left
returns-clause-left c = λ q h given.
    parted-stands _ _ q h c.args.writer c.args.now (c.number.result - 1) c.index-track.result.now
    (stands-as _ _ q h c.self.view_is given) (omega (arith, c.requires.matched.0, c.number.ensures.number))
    (within _ _ c.args.writer c.number.result c.self.view_is c.requires.matched c.number.ensures.number)
    c.index-track.ensures (tracks c)
    (ap (λ (b : Bool). if b then c.args.writer else c.self.inside.last_turned) (sym (turns c)))

pub returns-clause-turned : goal.returns-clause-turned
returns-clause-turned c = λ q h given.
    sym (turns c)
    ∙ parted-turns _ q h c.args.writer (c.number.result - 1) c.index-track.result.now
    (stands-as _ _ q h c.self.view_is given) (omega (arith, c.requires.matched.0, c.number.ensures.number))
    (within _ _ c.args.writer c.number.result c.self.view_is c.requires.matched c.number.ensures.number)
    c.index-track.ensures
