-- What each submessage makes known to a reader is claimed by its packet, and moving the place makes nothing known.
use Rattle.std.proofs.Common.{◌≡◌, ◌⊎◌, ℕ, ℤ, ◌<◌, ◌≤◌, Bool, true, false, ◌&&◌, ◌==◌, nat_lt, max, List, Option, Some, None, refl, subst, ap, sym, ◌∙◌, inl, inr, ⊎_elim, arith, eqb-true}
use Rattle.std.specs.Prelude.{if◌then◌else◌}
use Rattle.std.proofs.lemmas.Bool.Decides.{nat_tests}
use Rattle.dds_base.specs.declared.change.Change.{Change}
use Rattle.dds_protocol.specs.Roster.{Roster}
use Rattle.rtps_sets.specs.NumberSet.{NumberSet}
use Rattle.rtps_reader.specs.declared.step.AckNackDue.{AckNackDue}
use Rattle.rtps_reader.specs.Tracked.{Slot, Missing, Held, Irrelevant, Tracked, is_passable_slot, is_open, is_named, with_data, with_gap, with_heartbeat}
use Rattle.rtps_reader.specs.Answer.{answered}
use Rattle.dds_base.specs.declared.endpoint.Endpoint.{Endpoint}
use Rattle.dds_protocol.specs.Claims.{ChangeIs, MayPass, Claimed}
use Rattle.dds_protocol.specs.Backed.{reader_at, IsClaimed}
use Rattle.dds_protocol.proofs.Ways.{HasGone}

-- a DATA

held_or : (number n : ℕ) (free : Bool) (new c : Change) (s : Slot)
    → (if (number == n) && free then Held new else s) ≡ Held c → ((number ≡ n) × (new ≡ c)) ⊎ (s ≡ Held c)
held_or number n free new c s h = by (number == n) free refl h
  where
    one_change : Slot → Change
    one_change (Held x) = x
    one_change Missing = new
    one_change Irrelevant = new

    by : (a b : Bool) → (number == n) ≡ a → (if a && b then Held new else s) ≡ Held c
        → ((number ≡ n) × (new ≡ c)) ⊎ (s ≡ Held c)
    by true true e k = inl (eqb-true number n e, ap one_change k)
    by true false e k = inr k
    by false b e k = inr k

passable_or_held : (first n : ℕ) (b : Bool) (new : Change) (s : Slot)
    → is_passable_slot first n (if b then Held new else s) ≡ true → is_passable_slot first n s ≡ true
passable_or_held first n true new s h = cc
passable_or_held first n false new s h = h

pub data_claimed : (roster : Roster) (peer : ℕ) (packets : List (List ℕ)) (w : Endpoint) (r number : ℕ) (c : Change)
    (t : Tracked) → IsClaimed roster peer packets w r t
    → Claimed roster packets (ChangeIs w (reader_at peer r) number c)
    → IsClaimed roster peer packets w r (with_data number c t)
data_claimed roster peer packets w r number c t k says = record {
  from = k.from;
  change = λ n d low h.
      ⊎_elim (λ e. subst (λ (m : ℕ). Claimed roster packets (ChangeIs w (reader_at peer r) m d)) e.0
      (subst (λ (x : Change). Claimed roster packets (ChangeIs w (reader_at peer r) number x)) e.1 says))
      (λ o. k.change n d low o)
      (held_or number n (is_open t n) c d (t.slot n) h);
  pass = λ n low h. k.pass n low (passable_or_held t.first n ((number == n) && is_open t n) c (t.slot n) h);
}

-- a GAP

held_still : (b : Bool) (s : Slot) (c : Change) → (if b then Irrelevant else s) ≡ Held c → s ≡ Held c
held_still true s c h = cc
held_still false s c h = h

passable_or_named : (first n : ℕ) (named free : Bool) (s : Slot)
    → is_passable_slot first n (if named && free then Irrelevant else s) ≡ true
    → (named ≡ true) ⊎ (is_passable_slot first n s ≡ true)
passable_or_named first n true free s h = inl refl
passable_or_named first n false free s h = inr h

pub gap_claimed : (roster : Roster) (peer : ℕ) (packets : List (List ℕ)) (w : Endpoint) (r start : ℕ) (list : NumberSet)
    (t : Tracked) → IsClaimed roster peer packets w r t
    → ((n : ℕ) → 1 ≤ n → is_named start list n ≡ true → Claimed roster packets (MayPass w (reader_at peer r) n))
    → IsClaimed roster peer packets w r (with_gap start list t)
gap_claimed roster peer packets w r start list t k says = record {
  from = k.from;
  change = λ n d low h. k.change n d low (held_still (is_named start list n && is_open t n) (t.slot n) d h);
  pass = λ n low h.
      let from = k.from in
      ⊎_elim (λ e. says n (omega (arith, from, low)) e) (λ o. k.pass n low o)
      (passable_or_named t.first n (is_named start list n) (is_open t n) (t.slot n) h);
}

-- a HEARTBEAT

passable_or_below : (first more n : ℕ) (s : Slot) → is_passable_slot (max first more) n s ≡ true
    → (n < more) ⊎ (is_passable_slot first n s ≡ true)
passable_or_below first more n Missing h = by (nat_lt n first) (nat_lt n more) refl refl
  where
    by : (a b : Bool) → nat_lt n first ≡ a → nat_lt n more ≡ b → (n < more) ⊎ (nat_lt n first ≡ true)
    by true b e f = inr e
    by false true e f = inl (grind (arith, nat_tests))
    by false false e f = absurd (grind (arith, nat_tests))
passable_or_below first more n (Held c) h = cc
passable_or_below first more n Irrelevant h = inr refl

pub heartbeat_claimed : (roster : Roster) (peer : ℕ) (packets : List (List ℕ)) (w : Endpoint) (r first : ℕ) (count : ℤ)
    (t : Tracked) → IsClaimed roster peer packets w r t
    → ((n : ℕ) → 1 ≤ n → n < first → Claimed roster packets (MayPass w (reader_at peer r) n))
    → IsClaimed roster peer packets w r (with_heartbeat first count t)
heartbeat_claimed roster peer packets w r first count t k says = record {
  from = k.from;
  change = k.change;
  pass = λ n low h.
      let from = k.from in
      ⊎_elim (λ e. says n (omega (arith, from, low)) e) (λ o. k.pass n low o)
      (passable_or_below t.first first n (t.slot n) h);
}

-- the place goes on

pub gone_claimed : (roster : Roster) (peer : ℕ) (packets : List (List ℕ)) (w : Endpoint) (r : ℕ) (t : Tracked) (to : ℕ)
    (new : Tracked) → IsClaimed roster peer packets w r t → HasGone t to new → IsClaimed roster peer packets w r new
gone_claimed roster peer packets w r t to new k a =
    let from = k.from in
    let place = a.place in
    let forward = a.forward in
    record {
      from = omega (arith, from, place, forward);
      change = λ n d low e. k.change n d (omega (arith, place, forward, low)) (sym (a.stays.slots n low) ∙ e);
      pass = λ n low e.
          k.pass n (omega (arith, place, forward, low))
          (ap (λ (s : Slot). is_passable_slot t.first n s) (sym (a.stays.slots n low))
          ∙ (ap (λ (f : ℕ). is_passable_slot f n (new.slot n)) (sym a.stays.first) ∙ e));
    }

pub answered_claimed : (roster : Roster) (peer : ℕ) (packets : List (List ℕ)) (w : Endpoint) (r : ℕ)
    (answer : Option AckNackDue) (t : Tracked) → IsClaimed roster peer packets w r t
    → IsClaimed roster peer packets w r (answered answer t)
answered_claimed roster peer packets w r None t k = k
answered_claimed roster peer packets w r (Some due) t k = record { from = k.from; change = k.change; pass = k.pass }

pub answered_same : (answer : Option AckNackDue) (t : Tracked)
    → ((answered answer t).place ≡ t.place) × ((answered answer t).count ≡ t.count)
answered_same None t = (refl, refl)
answered_same (Some due) t = (refl, refl)

-- more packets claim as much
pub claimed_on : (roster : Roster) (peer : ℕ) (packets more : List (List ℕ)) (w : Endpoint) (r : ℕ) (t : Tracked)
    → IsClaimed roster peer packets w r t
    → ((n : ℕ) (c : Change) → Claimed roster packets (ChangeIs w (reader_at peer r) n c)
    → Claimed roster more (ChangeIs w (reader_at peer r) n c))
    → ((n : ℕ) → Claimed roster packets (MayPass w (reader_at peer r) n)
    → Claimed roster more (MayPass w (reader_at peer r) n)) → IsClaimed roster peer more w r t
claimed_on roster peer packets more w r t k f g =
    record { from = k.from; change = λ n c low h. f n c (k.change n c low h); pass = λ n low h. g n (k.pass n low h) }
