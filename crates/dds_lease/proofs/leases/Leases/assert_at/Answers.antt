use Rattle.std.proofs.Common.{◌≡◌, ◌+◌, ◌-◌, set, Bool, sym, ap, ◌∙◌, refl, arith}
use Rattle.std.specs.Prelude.{if◌then◌else◌}
use Rattle.dds_lease.specs.declared.leases.Leases.TheInside.{Inside}
use Rattle.dds_lease.specs.Standing.{Kept}
use Rattle.dds_lease.proofs.TrackLaws.{asserted}
use Rattle.dds_lease.proofs.StandingLaws.{Asserts, came-stands, heard-stands, stands-as, within}
use Rattle.dds_lease.proofs.leases.Leases.assert_at.Goals as goal
use Rattle.dds_lease.proofs.leases.Leases.assert_at.Goals.{then-track, else-track}

-- what is kept of the writers before
abbrev before : Inside → Kept
before inside = record { tracks = inside.tracks.items; last_turned = inside.last_turned }

-- an assertion of a writer that was alive
stays : (c : goal.Then-is_some)
    → Asserts (before c.self.inside)
    (record {
      tracks = set c.self.inside.tracks.items (c.number.result - 1) (asserted c.args.now c.index.result.now);
      last_turned = c.self.inside.last_turned;
    })
    (c.number.result - 1) c.args.now c.index.result.now
stays c = record {
  within = within _ _ c.args.writer c.number.result c.self.view_is c.requires.matched c.number.ensures.number;
  is = c.index.ensures;
  tracks = refl;
  last = ap (λ (b : Bool). if b then c.self.inside.last_turned else 1 + (c.number.result - 1))
      (sym c.if-is_some.true ∙ c.is_some.ensures);
}

pub returns-then-is_some-clause-came : goal.returns-then-is_some-clause-came
returns-then-is_some-clause-came c = λ q h a given writer moment.
    came-stands _ _ q h a c.args.now _ _ (stands-as _ _ q h c.self.view_is given) (stays c)
    (omega (arith, c.requires.matched.0, c.number.ensures.number, writer)) moment

pub returns-then-is_some-clause-heard : goal.returns-then-is_some-clause-heard
returns-then-is_some-clause-heard c = λ q h given.
    heard-stands _ _ q h c.args.writer c.args.now _ _ (stands-as _ _ q h c.self.view_is given) (stays c)
    (omega (arith, c.requires.matched.0, c.number.ensures.number))

-- the tracks after both branches
joined : (c : goal.After-writer-1)
    → c.if-track.self-inside.tracks.items
    ≡ set c.self.inside.tracks.items (c.number.result - 1) (asserted c.args.now c.index.result.now)
joined c = elim c.if-track.branch [
  | then-track w ↦ ap (λ (i : Inside). i.tracks.items) w.self-inside-is
  | else-track w ↦ ap (λ (i : Inside). i.tracks.items) w.self-inside-is
]

-- an assertion of one that was not
turns : (c : goal.After-writer-1)
    → Asserts (before c.self.inside)
    (record { tracks = c.if-track.self-inside.tracks.items; last_turned = c.args.writer })
    (c.number.result - 1) c.args.now c.index.result.now
turns c =
    let here : c.args.writer ≡ 1 + (c.number.result - 1) =
    omega (arith, c.requires.matched.0, c.number.ensures.number) in
    record {
      within = within _ _ c.args.writer c.number.result c.self.view_is c.requires.matched c.number.ensures.number;
      is = c.index.ensures;
      tracks = joined c;
      last = here ∙ ap (λ (b : Bool). if b then c.self.inside.last_turned else 1 + (c.number.result - 1))
          (sym c.if-is_some.false ∙ c.is_some.ensures);
    }

pub returns-clause-came : goal.returns-clause-came
returns-clause-came c = λ q h a given writer moment.
    came-stands _ _ q h a c.args.now _ _ (stands-as _ _ q h c.self.view_is given) (turns c)
    (omega (arith, c.requires.matched.0, c.number.ensures.number, writer)) moment

pub returns-clause-heard : goal.returns-clause-heard
returns-clause-heard c = λ q h given.
    heard-stands _ _ q h c.args.writer c.args.now _ _ (stands-as _ _ q h c.self.view_is given) (turns c)
    (omega (arith, c.requires.matched.0, c.number.ensures.number))
