-- What is told is so, by the laws of the table of endpoints.
use Rattle.std.proofs.Common.{◌≡◌, ◌⊎◌, ◌∙◌, ◌++◌, ◌∷◌, ℕ, Bool, true, false, length, List, [], Contains, MatchOption, Option, Some, None, refl, sym, ap, subst, inl, inr, arith}
use Rattle.dds_base.specs.declared.guid.GuidPrefix.{GuidPrefix}
use Rattle.dds_base.specs.declared.mask.Masks.{Masks}
use Rattle.dds_base.specs.declared.sample.Sample.{Sample}
use Rattle.dds_base.specs.Checked.{same_prefix}
use Rattle.rtps_announcements.specs.declared.qos.EndpointKind.{EndpointKind}
use Rattle.rtps_announcements.specs.declared.qos.EndpointKind.TheVariants.{Reader, Writer}
use Rattle.rtps_discovery.specs.declared.packet.Packet.{Packet}
use Rattle.rtps_discovery.specs.declared.row.Row.{Row}
use Rattle.rtps_matching.specs.declared.told.Told.{Told}
use Rattle.rtps_matching.specs.declared.told.Told.TheVariants.{Changed, Matched, Unmatched}
use Rattle.rtps_matching.specs.Matches.{is_far, is_of}
use Rattle.rtps_matching.specs.Steps.{Table, WhereSo, told_of_waking, told_without, turned_all, without}
use Rattle.rtps_matching.specs.Laws.{AddTells, AddsOnce, AnnounceTells, AnnouncesOnce, LeaveTells, LeavesOnce, RemoveTells, RemovesOnce, SleepTells, StandOnce, ToldIsSo, TurnsOnce, WakeTells, WithdrawTells}
use Rattle.rtps_matching.specs.Laws.{OpensOnce as NoneStandsTwice}
use Rattle.dds_builtin.specs.Keys.{guid_of}
use Rattle.dds_builtin.specs.Samples.{HearsSample, LetsGo, Nothing, TakesUp}
use Rattle.dds_discovery.specs.declared.due.Chore.{Chore}
use Rattle.dds_discovery.specs.declared.due.Chore.TheVariants.{Do, Publication, Send, Subscription, Turn}
use Rattle.dds_discovery.specs.declared.due.Due.{Due}
use Rattle.dds_discovery.specs.declared.due.Due.TheVariants.{Forget, Leave, Open, Serve}
use Rattle.dds_discovery.specs.declared.link.Link.{Link}
use Rattle.dds_discovery.specs.Chores.{DoesChore, HearsFirst, IsOpenLink, TurnsTable, CantBeOpened}
use Rattle.dds_discovery.specs.Events.{Takes}
use Rattle.dds_discovery.specs.Laws.{AddsTell, DeliveriesTellNothing, IsTold, OpensOnce, RemovesTell, StepsTell, TicksTellNothing}
use Rattle.dds_discovery.specs.States.{State, having}
use Rattle.dds_discovery.specs.Steps.{Does, with_links}
use Rattle.dds_discovery.specs.Tasks.{Having}

-- the laws of the table
pub record Matching : Type 0 where
  pub announce : AnnounceTells
  pub withdraw : WithdrawTells
  pub leave : LeaveTells
  pub sleep : SleepTells
  pub wake : WakeTells
  pub add : AddTells
  pub remove : RemoveTells
  pub opens : NoneStandsTwice
  pub adds : AddsOnce
  pub removes : RemovesOnce
  pub leaves : LeavesOnce
  pub turns : TurnsOnce
  pub announces : AnnouncesOnce

nothing_in : (x : Told) → Contains [] x → ⊥
nothing_in x c = let l = c.1 in omega (arith, l)

nothing_told : (t : Table) → ToldIsSo t [] t
nothing_told t = record {
  matched = λ a b c. absurd (nothing_in (Matched a b) c);
  unmatched = λ a b c. absurd (nothing_in (Unmatched a b) c);
  changed = λ a b c. absurd (nothing_in (Changed a b) c);
  gained = λ a b c. inl c;
  lost = λ a b c. inl c;
}

moved : (t : Table) (told ts : List Told) (new n : Table) → new ≡ n → told ≡ ts → IsTold t ts n → IsTold t told new
moved t told ts new n e f h =
    subst (λ (x : Table). IsTold t told x) (sym e) (subst (λ (x : List Told). IsTold t x n) (sym f) h)

nothing : (t : Table) (told : List Told) (new : Table) → StandOnce t → new ≡ t → told ≡ [] → IsTold t told new
nothing t told new once e f = moved t told [] new t e f (record { tells = nothing_told t; once = once })

sample_tells : Matching → (prefix : GuidPrefix) (kind : EndpointKind) (sample : Sample) (t new : Table) (told : List Told)
    → StandOnce t → HearsSample prefix kind sample t new told → IsTold t told new
sample_tells m prefix kind sample t new told once h = by_name (same_prefix (guid_of sample.key).prefix prefix) h
  where
    up : TakesUp (guid_of sample.key) kind sample t new told → IsTold t told new
    up (inl x) = record {
      tells = m.announce t (guid_of sample.key) kind sample.value new told once x.1;
      once = m.announces t (guid_of sample.key) kind sample.value new told once x.1;
    }
    up (inr x) = nothing t told new once x.2.0 x.2.1

    by_data : (b : Bool) → WhereSo b (TakesUp (guid_of sample.key) kind sample t new told) (LetsGo (guid_of sample.key) t new told)
        → IsTold t told new
    by_data true x = up x
    by_data false x =
        moved t told (told_without (is_far (guid_of sample.key)) t) new (without (is_far (guid_of sample.key)) t) x.0 x.1
        (record { tells = m.withdraw (guid_of sample.key) t; once = m.leaves (is_far (guid_of sample.key)) t once })

    by_name : (b : Bool) → WhereSo b
        (WhereSo sample.info.valid_data (TakesUp (guid_of sample.key) kind sample t new told) (LetsGo (guid_of sample.key) t new told))
        (Nothing t new told) → IsTold t told new
    by_name true x = by_data sample.info.valid_data x
    by_name false x = nothing t told new once x.0 x.1

first_tells : Matching → (prefix : GuidPrefix) (kind : EndpointKind) (samples : List Sample) (t : Table) (told : List Told)
    (rest : List Sample) (new : Table) → StandOnce t → HearsFirst prefix kind samples t told rest new → IsTold t told new
first_tells m prefix kind samples t told rest new once (inl h) =
    sample_tells m prefix kind h.first t new told once h.hears
first_tells m prefix kind samples t told rest new once (inr x) = nothing t told new once x.3 x.2

turn_tells : Matching → (there : Bool) (prefix : GuidPrefix) (t : Table) (told : List Told) (new : Table) → StandOnce t
    → TurnsTable there prefix t told new → IsTold t told new
turn_tells m true prefix t told new once x =
    moved t told (told_of_waking prefix t) new (turned_all prefix true t) x.0 x.1
    (record { tells = m.wake prefix t once; once = m.turns prefix true t once })
turn_tells m false prefix t told new once x =
    moved t told (told_without (is_of prefix) t) new (turned_all prefix false t) x.0 x.1
    (record { tells = m.sleep prefix t; once = m.turns prefix false t once })

chore_tells : Matching → (o : Having) (rows : List Row) (chore : Option Chore) (l : Link) (t : Table) (told : List Told)
    (packet : Option Packet) (new : Link) (after : Table) → StandOnce t → DoesChore o rows chore l t told packet new after
    → IsTold t told after
chore_tells m o rows None l t told packet new after once h = nothing t told after once h.1 h.2
chore_tells m o rows (Some (Turn there)) l t told packet new after once h =
    turn_tells m there l.network.prefix t told after once h.0.table
chore_tells m o rows (Some Send) l t told packet new after once h = nothing t told after once h.2 h.1
chore_tells m o rows (Some Publication) l t told packet new after once h =
    first_tells m l.network.prefix Writer l.network.publications.items t told new.network.publications.items after once
    h.0.hears
chore_tells m o rows (Some Subscription) l t told packet new after once h =
    first_tells m l.network.prefix Reader l.network.subscriptions.items t told new.network.subscriptions.items after once
    h.0.hears
chore_tells m o rows (Some (Do task)) l t told packet new after once h = nothing t told after once h.3 h.1

does_tell : Matching → (d : Due) (s : State) (told : List Told) (packet : Option Packet) (new : State) → StandOnce s.endpoints
    → Does d s told packet new → IsTold s.endpoints told new.endpoints
does_tell m (Leave place) s told packet new once h =
    let leaves = h.0 in
    moved s.endpoints told (told_without (is_of leaves.link.network.prefix) s.endpoints) new.endpoints
    (without (is_of leaves.link.network.prefix) s.endpoints) (ap (λ (x : State). x.endpoints) leaves.state) leaves.told_is (record {
      tells = m.leave leaves.link.network.prefix s.endpoints;
      once = m.leaves (is_of leaves.link.network.prefix) s.endpoints once;
    })
does_tell m (Forget place) s told packet new once h =
    nothing s.endpoints told new.endpoints once (ap (λ (x : State). x.endpoints) h.0) h.1
does_tell m (Open place) s told packet new once h = by_link h.0.opens
  where
    by_link : ((link : Link) × IsOpenLink s.own h.0.row.participant (length s.removed) link
        × (new ≡ with_links (s.links ++ link ∷ []) s.endpoints s))
        ⊎ (CantBeOpened s.own h.0.row.participant × (new ≡ record s { unopened = s.unopened ++ h.0.row.participant.prefix ∷ [] }))
        → IsTold s.endpoints told new.endpoints
    by_link (inl x) = nothing s.endpoints told new.endpoints once (ap (λ (y : State). y.endpoints) x.2) h.1
    by_link (inr x) = nothing s.endpoints told new.endpoints once (ap (λ (y : State). y.endpoints) x.1) h.1
does_tell m (Serve place) s told packet new once h =
    subst (λ (x : Table). IsTold s.endpoints told x) (sym (ap (λ (x : State). x.endpoints) h.state))
    (chore_tells m (having s) s.participants.rows h.chore h.link s.endpoints told packet h.after h.endpoints once h.does)

pub steps_tell : Matching → StepsTell
steps_tell m s once = does_tell m s.next s.before s.told s.packet s.after once s.does

pub adds_tell : Matching → AddsTell
adds_tell m e s new once = record { tells = m.add e s.endpoints new; once = m.adds e s.endpoints new once }

pub removes_tell : Matching → RemovesTell
removes_tell m guid kind s once = record { tells = m.remove guid s.endpoints; once = m.removes guid s.endpoints once }

pub opens_once : Matching → OpensOnce
opens_once m p domain addresses limits most = m.opens most

pub ticks_tell_nothing : TicksTellNothing
ticks_tell_nothing moment s = refl

taking : (masks : Masks) (bytes : List ℕ) (place : ℕ) (s new : State) → Takes masks bytes place s new → new.endpoints ≡ s.endpoints
taking masks bytes place s new (inl x) = ap (λ (y : State). y.endpoints) x.4.state
taking masks bytes place s new (inr x) = ap (λ (y : State). y.endpoints) x.1

pub deliveries_tell_nothing : DeliveriesTellNothing
deliveries_tell_nothing d =
    by_place d.delivers.place d.delivers.takes ∙ ap (λ (y : State). y.endpoints) d.delivers.hears.state
  where
    by_place : (o : Option ℕ)
        → MatchOption o (d.after ≡ d.delivers.between) (λ i. Takes d.masks d.bytes i d.delivers.between d.after)
        → d.after.endpoints ≡ d.delivers.between.endpoints
    by_place None e = ap (λ (y : State). y.endpoints) e
    by_place (Some i) x = taking d.masks d.bytes i d.delivers.between d.after x
