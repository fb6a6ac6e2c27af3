-- What a tick changes.
use Rattle.std.proofs.Common.{◌≡◌, ◌∙◌, ℕ, ◌+◌, ◌<◌, Bool, true, false, cond, get_or, refl, sym, ap, subst}
use Rattle.std.specs.Prelude.{◌&&◌, not, nat_lt}
use Rattle.std.proofs.lemmas.Bool.{ltb-true}
use Rattle.std.proofs.lemmas.List.{get_or-map, length-map}
use Rattle.rtps_discovery.specs.declared.row.Row.{Row}
use Rattle.rtps_discovery.specs.Leases.{taken_lease}
use Rattle.rtps_discovery.specs.Rows.{has_ended, slept_row}
use Rattle.rtps_discovery.specs.Laws.{LeasesEnd, SleepsAtMost, TicksOnlySleep}
use Rattle.rtps_discovery.proofs.Members.{from_map}

not_false : (a : Bool) → not a ≡ false → a ≡ true
not_false true e = refl
not_false false e = absurd cc

-- whose lease has not ended
goes_on_until : (now : ℕ) (r : Row) → has_ended now r ≡ false → r.is_awake ≡ true
    → now < r.heard + taken_lease r.participant.lease
goes_on_until now r e awake =
    let later : not (nat_lt now (r.heard + taken_lease r.participant.lease)) ≡ false =
    ap (λ (b : Bool). b && not (nat_lt now (r.heard + taken_lease r.participant.lease))) (sym awake) ∙ e in
    ltb-true now (r.heard + taken_lease r.participant.lease)
    (not_false (nat_lt now (r.heard + taken_lease r.participant.lease)) later)

in_time : (now : ℕ) (x r : Row) → slept_row now x ≡ r → r.is_awake ≡ true
    → now < r.heard + taken_lease r.participant.lease
in_time now x r made awake = by_test (has_ended now x) refl made
  where
    by_test : (b : Bool) → has_ended now x ≡ b
        → cond b (record {
          participant = x.participant;
          source = x.source;
          heard = x.heard;
          is_awake = false;
        }) x ≡ r → now < r.heard + taken_lease r.participant.lease
    by_test true is made =
        let clash : false ≡ true = ap (λ (z : Row). z.is_awake) made ∙ awake in absurd cc
    by_test false is made =
        subst (λ (z : Row). now < z.heard + taken_lease z.participant.lease) made
        (goes_on_until now x is (ap (λ (z : Row). z.is_awake) made ∙ awake))

pub leases_end : LeasesEnd
leases_end s now r c awake =
    let found = from_map (slept_row now) s.rows r c in in_time now found.0 r found.2 awake

at_most : (now : ℕ) (x : Row) → SleepsAtMost x (slept_row now x)
at_most now x = by_test (has_ended now x)
  where
    by_test : (b : Bool)
        → SleepsAtMost x (cond b (record {
          participant = x.participant;
          source = x.source;
          heard = x.heard;
          is_awake = false;
        }) x)
    by_test true = record { participant = refl; source = refl; heard = refl; awake = λ e. absurd cc }
    by_test false = record { participant = refl; source = refl; heard = refl; awake = λ e. e }

pub ticks_only_sleep : TicksOnlySleep
ticks_only_sleep s now = (
  length-map s.rows (slept_row now),
  λ k d l. subst (λ (z : Row). SleepsAtMost (get_or s.rows k d) z) (sym (get_or-map (slept_row now) s.rows k d d l))
      (at_most now (get_or s.rows k d)),
)
