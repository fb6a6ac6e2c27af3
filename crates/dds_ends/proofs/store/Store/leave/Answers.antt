use Rattle.std.proofs.Common.{◌∙◌, ◌∷◌, ℕ, Bool, true, false, List, ap, sym, subst}
use Rattle.std.specs.Prelude.{if◌then◌else◌}
use Rattle.dds_base.specs.declared.happening.Happening.{Happening}
use Rattle.dds_base.specs.declared.happening.Happening.TheVariants.{Died, Left}
use Rattle.dds_base.specs.declared.qos.ReaderQos.{ReaderQos}
use Rattle.dds_base.specs.Ownership.{IsMatched}
use Rattle.dds_base.proofs.JoinLaws.{still-matched}
use Rattle.dds_lease.proofs.StandingLaws.{counted-matched}
use Rattle.dds_lease.specs.Standing.{writer_count}
use Rattle.rtps_reader.specs.Entering.{IsAmong}
use Rattle.dds_cache.specs.Standing.{qos_of, Stored, StandsFor as CacheStandsFor}
use Rattle.dds_base.specs.Liveliness.{after_parting}
use Rattle.dds_lease.specs.Standing.{StandsFor}
use Rattle.dds_ends.specs.Stored.{StoreKept}
use Rattle.dds_ends.specs.Storing.{Holds}
use Rattle.dds_ends.proofs.Parting.{left_holds, so_done}
use Rattle.dds_ends.proofs.store.Store.leave.Goals as goal

-- who was matched is, whether or not it has died
matched_on : (q : ReaderQos) (w now : ℕ) (h : List Happening) (alive : Bool) → IsMatched q h w
    → IsMatched q (if alive then Died w now ∷ h else h) w
matched_on q w now h true matched = still-matched q (Died w now) h w matched
matched_on q w now h false matched = matched

pub returns-clause-left : goal.returns-clause-left
returns-clause-left c = λ h holds.
    let w = c.args.writer in
    let now = c.args.now in
    let alive = c.is_alive-alive.result in
    let old : StoreKept = record {
      lost = c.self.inside.lost;
      passed = c.self.inside.passed;
      turned = c.self.inside.turned;
      leases = c.self.inside.leases;
      cache = c.self.inside.cache;
    } in
    let here : Holds old h = subst (λ (s : StoreKept). Holds s h) (sym c.self.view_is) holds in
    let among : IsAmong (writer_count old.leases) w =
    subst (λ (s : StoreKept). IsAmong (writer_count s.leases) w) (sym c.self.view_is) c.requires.matched in
    let matched : IsMatched (qos_of old.cache) h w =
    counted-matched old.leases (qos_of old.cache) h w here.leases among in
    let cache : CacheStandsFor c.leave.new.self (Left w now ∷ (if alive then Died w now ∷ h else h)) =
    so_done c.leave.result c.unwrap.result
    ((xs : List Happening) → CacheStandsFor c.die_first.new.cache xs → IsMatched (qos_of c.die_first.new.cache) xs w
    → CacheStandsFor c.leave.new.self (Left w now ∷ xs)) c.unwrap.ensures c.leave.ensures.ok
    (if alive then Died w now ∷ h else h) (c.die_first.ensures.died h here.cache matched)
    (subst (λ (q : ReaderQos). IsMatched q (if alive then Died w now ∷ h else h) w) (sym c.die_first.ensures.qos)
    (matched_on (qos_of old.cache) w now h alive matched)) in
    left_holds old c.turn_if.new.self w now alive c.leave-turns.result h here
    (c.is_alive-alive.ensures.matched (qos_of old.cache) h here.leases matched)
    (subst (λ (x : Stored). CacheStandsFor x (Left w now ∷ (if alive then Died w now ∷ h else h)))
    (sym c.turn_if.ensures.cache) cache)
    (subst (λ x. StandsFor x (qos_of old.cache) (after_parting w now h)) (sym c.turn_if.ensures.leases)
    (c.leave-turns.ensures.left (qos_of old.cache) h here.leases))
    (ap (λ (x : Stored). qos_of x) c.turn_if.ensures.cache
    ∙ (c.leave.ensures.entry.qos ∙ c.die_first.ensures.qos))
    (c.leave-turns.ensures.turned (qos_of old.cache) h here.leases) c.turn_if.ensures.lost c.turn_if.ensures.passed
    (c.turn_if.ensures.turned (Left w now ∷ (if alive then Died w now ∷ h else h)) cache)
