use Rattle.std.proofs.Common.{◌≡◌, ℤ, Bool, true, false, refl, sym, subst, ap, ◌∙◌, w32, rules}
use Rattle.std.specs.Prelude.{if◌then◌else◌, nat_le}
use Rattle.std.proofs.lemmas.Int.{to_z-of_z}
use Rattle.dds_base.specs.Counts.{is_later}
use Rattle.rtps_reader.specs.Reader.{Tracks}
use Rattle.rtps_reader.specs.Tracked.{Tracked, may_take}
use Rattle.rtps_wire.specs.declared.data.Data.{Data as DataBody}
use Rattle.rtps_wire.specs.declared.gap.Gap.{Gap as GapBody}
use Rattle.rtps_wire.specs.declared.heartbeat.Heartbeat.{Heartbeat as HeartbeatBody}
use Rattle.rtps_wire.specs.declared.submessage.Submessage.{Submessage}
use Rattle.rtps_wire.specs.declared.submessage.Submessage.TheVariants.{Data, Heartbeat, Gap}
use Rattle.dds_protocol.specs.Protocol.{may_do}
use Rattle.dds_ends.specs.Identity.{reliable_in}
use Rattle.dds_ends.specs.Kept.{ReaderKept}
use Rattle.dds_ends.proofs.reader_end.ReaderEnd.may_do.Goals as goal

of_data : (b : Bool) (t : Tracked) (d : DataBody)
    → may_do b t (Data d) ≡ (if b then may_take t d.writer_sn else nat_le t.place d.writer_sn)
of_data true t d = refl
of_data false t d = refl

of_gap : (b : Bool) (t : Tracked) (g : GapBody) → may_do b t (Gap g) ≡ b
of_gap true t g = refl
of_gap false t g = refl

of_heartbeat : (b : Bool) (t : Tracked) (h : HeartbeatBody) → may_do b t (Heartbeat h) ≡ is_later t.count h.count
of_heartbeat true t h = refl
of_heartbeat false t h = refl

of_others : (b : Bool) (t : Tracked) (s : Submessage) → ((x : DataBody) → s ≡ Data x → ⊥)
    → ((x : GapBody) → s ≡ Gap x → ⊥) → ((x : HeartbeatBody) → s ≡ Heartbeat x → ⊥) → false ≡ may_do b t s
of_others b t (Data d) no_data no_gap no_heartbeat = absurd (no_data d refl)
of_others b t (Gap g) no_data no_gap no_heartbeat = absurd (no_gap g refl)
of_others b t (Heartbeat h) no_data no_gap no_heartbeat = absurd (no_heartbeat h refl)
of_others true t s no_data no_gap no_heartbeat = refl
of_others false t s no_data no_gap no_heartbeat = refl

pub returns-in-Data-clause-does : goal.returns-in-Data-clause-does
returns-in-Data-clause-does c = λ t tracks.
    c.may_take.ensures t tracks
    ∙ (sym (of_data (reliable_in c.args.self.now.store) t c.in-Data.body)
    ∙ ap (λ (s : Submessage). may_do (reliable_in c.args.self.now.store) t s) (sym c.in-Data.is))

pub returns-in-Data-clause-known : goal.returns-in-Data-clause-known
returns-in-Data-clause-known c =
    subst (λ (k : ReaderKept). (t : Tracked) × Tracks k.reader c.args.row t) c.self.view_is c.place-place.ensures.known

pub returns-in-Gap-clause-does : goal.returns-in-Gap-clause-does
returns-in-Gap-clause-does c = λ t tracks.
    sym c.self.invariant.policy
    ∙ (ap (λ (k : ReaderKept). reliable_in k.store) c.self.view_is
    ∙ (sym (of_gap (reliable_in c.args.self.now.store) t c.in-Gap.field-0)
    ∙ ap (λ (s : Submessage). may_do (reliable_in c.args.self.now.store) t s) (sym c.in-Gap.is)))

pub returns-in-Gap-clause-known : goal.returns-in-Gap-clause-known
returns-in-Gap-clause-known c =
    subst (λ (k : ReaderKept). (t : Tracked) × Tracks k.reader c.args.row t) c.self.view_is c.place-place.ensures.known

pub returns-in-Heartbeat-clause-does : goal.returns-in-Heartbeat-clause-does
returns-in-Heartbeat-clause-does c = λ t tracks.
    c.is_later.ensures.later t (subst (λ (k : ReaderKept). Tracks k.reader c.args.row t) (sym c.self.view_is) tracks)
    ∙ (ap (λ (n : ℤ). is_later t.count n) (to_z-of_z w32 c.in-Heartbeat.body.count (search rules))
    ∙ (sym (of_heartbeat (reliable_in c.args.self.now.store) t c.in-Heartbeat.body)
    ∙ ap (λ (s : Submessage). may_do (reliable_in c.args.self.now.store) t s) (sym c.in-Heartbeat.is)))

pub returns-in-Heartbeat-clause-known : goal.returns-in-Heartbeat-clause-known
returns-in-Heartbeat-clause-known c =
    subst (λ (k : ReaderKept). (t : Tracked) × Tracks k.reader c.args.row t) c.self.view_is c.place-place.ensures.known

pub returns-in_default : goal.returns-in_default
returns-in_default c = record {
  does = λ t tracks.
      of_others (reliable_in c.args.self.now.store) t c.args.submessage.now c.in_default.not-Data c.in_default.not-Gap
      c.in_default.not-Heartbeat;
  known =
      subst (λ (k : ReaderKept). (t : Tracked) × Tracks k.reader c.args.row t) c.self.view_is c.place-place.ensures.known;
}
