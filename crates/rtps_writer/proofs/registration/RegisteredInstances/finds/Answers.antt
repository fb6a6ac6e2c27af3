use Rattle.std.proofs.Common.{◌≡◌, ◌+◌, ◌%◌, ◌^◌, true, subst}
use Rattle.std.proofs.lemmas.Map.Keys.{any_passes_from_place}
use Rattle.dds_base.specs.Happening.{same_key}
use Rattle.dds_base.proofs.KeyLaws.{same_key-refl}
use Rattle.rtps_writer.specs.Registered.{Instances, is_among}
use Rattle.rtps_writer.proofs.registration.RegisteredInstances.finds.Goals as goal

pub returns-then-is_at-clause-found : goal.returns-then-is_at-clause-found
returns-then-is_at-clause-found c is =
    subst (λ (a : Instances). is_among a.keys c.args.key ≡ true) c.self.view_is
    (any_passes_from_place (same_key c.args.key) c.self.inside.set.keys c.self.inside.latest c.args.key
    (c.is_at.ensures c.if-is_at.true) (same_key-refl c.args.key))

pub returns-then-is_at-2-clause-found : goal.returns-then-is_at-2-clause-found
returns-then-is_at-2-clause-found c is =
    subst (λ (a : Instances). is_among a.keys c.args.key ≡ true) c.self.view_is
    (any_passes_from_place (same_key c.args.key) c.self.inside.set.keys ((c.self.inside.latest + 1) % 2 ^ 64) c.args.key
    (c.is_at-2.ensures c.if-is_at-2.true) (same_key-refl c.args.key))
