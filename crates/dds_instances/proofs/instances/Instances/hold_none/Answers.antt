use Rattle.std.proofs.Common.{◌+◌, List, false, ap, refl, subst, sym, ◌∙◌}
use Rattle.std.specs.List.{list_any}
use Rattle.dds_instances.specs.declared.track.InstanceTrack.{InstanceTrack}
use Rattle.dds_instances.specs.Track.{held_as}
use Rattle.dds_instances.specs.Table.{Table, Stands}
use Rattle.dds_instances.specs.Sound.{table_of}
use Rattle.dds_instances.proofs.HoldingLaws.{holds, none-held, notes-none, notes-stand, sound-noted}
use Rattle.dds_instances.proofs.instances.Instances.hold_none.Goals as goal

pub invariant_of-self : goal.invariant_of-self
invariant_of-self c =
    sound-noted c.self.inside c.hold_none.new.tracks c.self.invariant c.hold_none.ensures.keys
    (c.hold_none.ensures.fits (c.self.inside.happened + 1) c.self.invariant.fits) c.hold_none.ensures.len
    c.hold_none.ensures.capacity

pub returns-clause-same : goal.returns-clause-same
returns-clause-same c = λ q h stands.
    notes-stand q h (held_as false) (table_of c.self.inside) _ notes-none refl refl refl refl
    c.hold_none.ensures.held (subst (λ (t : Table). Stands q t h) (sym c.self.view_is) stands)

pub returns-clause-held : goal.returns-clause-held
returns-clause-held c = λ i.
    ap (λ (ts : List InstanceTrack). list_any (holds i) ts) c.hold_none.ensures.held
    ∙ none-held i c.self.inside.tracks.items
