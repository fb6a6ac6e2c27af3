use Rattle.std.proofs.Common.{◌+◌, List, ◌||◌, ap, refl, subst, sym, ◌∙◌}
use Rattle.std.specs.List.{list_any}
use Rattle.dds_base.specs.Happening.{same_key}
use Rattle.dds_instances.specs.declared.track.InstanceTrack.{InstanceTrack}
use Rattle.dds_instances.specs.Track.{held_too}
use Rattle.dds_instances.specs.Table.{Table, Stands, is_held}
use Rattle.dds_instances.specs.Sound.{table_of}
use Rattle.dds_instances.proofs.HoldingLaws.{holds, held-noted, notes-stand, notes-too, sound-noted}
use Rattle.dds_instances.proofs.instances.Instances.hold.Goals as goal

pub invariant_of-self : goal.invariant_of-self
invariant_of-self c =
    sound-noted c.self.inside c.hold.new.tracks c.self.invariant c.hold.ensures.keys
    (c.hold.ensures.fits (c.self.inside.happened + 1) c.self.invariant.fits) c.hold.ensures.len
    c.hold.ensures.capacity

pub returns-clause-same : goal.returns-clause-same
returns-clause-same c = λ q h stands.
    notes-stand q h (held_too c.args.key) (table_of c.self.inside) _ (notes-too c.args.key) refl refl refl refl
    c.hold.ensures.held (subst (λ (t : Table). Stands q t h) (sym c.self.view_is) stands)

pub returns-clause-held : goal.returns-clause-held
returns-clause-held c = λ q h i stands known.
    let s : Stands q (table_of c.self.inside) h = subst (λ (t : Table). Stands q t h) (sym c.self.view_is) stands in
    ap (λ (ts : List InstanceTrack). list_any (holds i) ts) c.hold.ensures.held
    ∙ (held-noted q h c.args.key i c.self.inside.tracks.items s.follows known
    ∙ ap (λ (t : Table). same_key c.args.key i || is_held t i) c.self.view_is)
