-- A tick's deaths at a reader, one after the other.
use Rattle.std.proofs.Common.{◌≡◌, ℕ, zero, suc, ◌+◌, ◌-◌, ◌^◌, ◌<◌, ◌≤◌, List, [], ◌∷◌, Some, length, map, ◌||◌, get_or, set, slice_get, refl, ap, sym, ◌∙◌, subst, arith, ⊎_elim, length-set, Bool, true, false, not, ◌&&◌, cond, nat_lt}
use Rattle.std.specs.Prelude.{filter, find, if◌then◌else◌}
use Rattle.std.specs.List.{list_any}
use Rattle.std.proofs.lemmas.Bool.{cases_Bool, cases_eq}
use Rattle.std.proofs.lemmas.Bool.Decides.{nat_tests}
use Rattle.std.proofs.lemmas.List.{length-map}
use Rattle.std.proofs.lemmas.Option.{same_Some, get_or_from_slice_get, slice_get-get_or}
use Rattle.dds_base.specs.declared.happening.Happening.{Happening}
use Rattle.dds_base.specs.declared.happening.Happening.TheVariants.{Died}
use Rattle.dds_base.specs.declared.qos.ReaderQos.{ReaderQos}
use Rattle.dds_base.specs.Liveliness.{after_deaths, alive_since, dead_at, has_died, is_alive, is_overdue, lease_of}
use Rattle.dds_base.specs.Ownership.{publication_handles, writer_of, writers_of}
use Rattle.dds_base.specs.StatusFlags.{turned_at}
use Rattle.dds_cache.specs.Standing.{qos_of, StandsFor as CacheStandsFor}
use Rattle.dds_lease.specs.Standing.{after_deaths_above, writer_count, StandsFor as LeasesStandFor}
use Rattle.dds_lease.proofs.DeathLaws.{above_none}
use Rattle.dds_machine.specs.Ticks.{is_past_counting, reader_ticked}
use Rattle.dds_lease.proofs.StandingLaws.{over-live}
use Rattle.dds_machine.specs.Part.{Part, Reader, WriterProxy, no_reader}
use Rattle.dds_protocol.specs.Protocol.{Known}
use Rattle.dds_machine.proofs.Tables.{numbered-map}
use Rattle.dds_ends.specs.Expiring.{AllExpire, Expires, HasRoomForDeaths, HaveRoomForDeaths, IsPastCounting}
use Rattle.dds_ends.specs.Kept.{ReaderKept}
use Rattle.dds_ends.specs.Identity.{ReaderIdentity, reader_identity}
use Rattle.dds_ends.proofs.Identities.{same_identity}
use Rattle.dds_ends.specs.Standing.{ReaderStands, ReadersStand}
use Rattle.dds_ends.specs.Stored.{StoreKept}
use Rattle.dds_ends.specs.Storing.{Holds}
use Rattle.dds_ends.proofs.Lists.{get-within}
use Rattle.dds_ends.proofs.Alike.{partner, set-cases}

-- something happened by which the store stands as it does, and after which the deaths that are left lead to the tick's
-- end
pub record LeadsTo (q : ReaderQos) (now after : ℕ) (store : StoreKept) (end : List Happening) : Type 0 where
  pub happened : List Happening
  pub holds : Holds store happened
  pub left : after_deaths_above q now after happened ≡ end

-- those of the handles up to this one have died
pub record Dying (q : ReaderQos) (now after : ℕ) (old new : StoreKept) : Type 0 where
  pub room : HasRoomForDeaths now new
  pub count : writer_count new.leases ≡ writer_count old.leases
  pub qos : qos_of new.cache ≡ q
  pub lost : new.lost ≡ old.lost
  pub passed : new.passed ≡ old.passed
  pub died : (h : List Happening) → Holds old h → LeadsTo q now after new (after_deaths q now h)

-- at first nobody has
pub nobody_yet : (q : ReaderQos) (now : ℕ) (store : StoreKept) (h : List Happening) → Holds store h
    → LeadsTo q now 0 store (after_deaths q now h)
nobody_yet q now store h s = record { happened = h; holds = s; left = above_none q now h }

-- where nobody is left, all have
pub all_died : (q : ReaderQos) (now after : ℕ) (store : StoreKept) (end : List Happening)
    → (l : LeadsTo q now after store end)
    → after_deaths_above q now after l.happened ≡ l.happened → Holds store end
all_died q now after store end l none = subst (λ (h : List Happening). Holds store h) (sym none ∙ l.left) l.holds

-- whoever is found in a filtered list passes the test
found_in : (due above : ℕ → Bool) (w : ℕ) (vs : List ℕ) → Some w ≡ find above (filter due vs) → due w ≡ true
found_in due above w [] is = absurd cc
found_in due above w (v ∷ vs) is = ⊎_elim
    (λ due_here. here (above v) due_here (found_in due above w vs)
    (is ∙ ap (λ (b : Bool). find above (cond b (v ∷ filter due vs) (filter due vs))) due_here))
    (λ not_due. found_in due above w vs
    (is ∙ ap (λ (b : Bool). find above (cond b (v ∷ filter due vs) (filter due vs))) not_due))
    (cases_Bool (due v))
  where
    here : (b : Bool) → due v ≡ true → (Some w ≡ find above (filter due vs) → due w ≡ true)
        → Some w ≡ cond b (Some v) (find above (filter due vs)) → due w ≡ true
    here true v_due rest at = subst (λ (x : ℕ). due x ≡ true) (sym (same_Some w v at)) v_due
    here false v_due rest at = rest at

-- and turns by its death
turned_by_death : (q : ReaderQos) (now after w : ℕ) (h : List Happening)
    → Some w ≡ find (λ v. nat_lt after v) (dead_at q now h)
    → Some (length (Died w now ∷ h)) ≡ turned_at (Died w now ∷ h)
turned_by_death q now after w h first =
    turns (has_died w h) (is_alive w h)
    (over-live (lease_of (writer_of (writers_of q h) w)) (alive_since w h) now
    (found_in (is_overdue q now h) (λ v. nat_lt after v) w (publication_handles q h) first))
  where
    turns : (died alive : Bool) → alive ≡ true
        → Some (suc (length h)) ≡ (if not (died && not alive) then Some (length h + 1) else turned_at h)
    turns true true is = ap Some (omega arith)
    turns false true is = ap Some (omega arith)
    turns died false is = absurd cc

-- one more has
pub next_died : (q : ReaderQos) (now after w : ℕ) (store new : StoreKept) (end : List Happening)
    → (l : LeadsTo q now after store end) → LeasesStandFor new.leases q (Died w now ∷ l.happened)
    → after_deaths_above q now after l.happened ≡ after_deaths_above q now w (Died w now ∷ l.happened)
    → CacheStandsFor new.cache (Died w now ∷ l.happened) → qos_of new.cache ≡ q → new.lost ≡ store.lost → new.passed ≡ store.passed
    → Some w ≡ find (λ v. nat_lt after v) (dead_at q now l.happened) → new.turned ≡ Some (length (Died w now ∷ l.happened))
    → LeadsTo q now w new end
next_died q now after w store new end l leases turn cache same lost passed first turned = record {
  happened = Died w now ∷ l.happened;
  holds = record {
    cache = cache;
    leases = subst (λ (p : ReaderQos). LeasesStandFor new.leases p (Died w now ∷ l.happened)) (sym same) leases;
    lost_is = lost ∙ l.holds.lost_is;
    passed_is = passed ∙ l.holds.passed_is;
    turned_is = turned ∙ turned_by_death q now after w l.happened first;
  };
  left = sym turn ∙ l.left;
}

-- ---- at each reader of a peer

-- a reader whose store went so far
pub expires : (kept : ReaderKept) (now : ℕ) (store : StoreKept) → qos_of store.cache ≡ qos_of kept.store.cache
    → ((h : List Happening) → Holds kept.store h → Holds store (after_deaths (qos_of kept.store.cache) now h))
    → Expires kept now (record kept { store = store })
expires kept now store qos died = record {
  same = same_identity (record kept { store = store }) kept refl refl qos;
  stands = λ proxies r tracked s. record {
    writers_are = s.writers_are;
    places = s.places;
    knows = s.knows;
    others = s.others;
    qos_is = s.qos_is ∙ sym qos;
    holds =
        subst (λ (q : ReaderQos). Holds store (after_deaths q now r.happened)) (sym s.qos_is) (died r.happened s.holds);
    seen_is = s.seen_is;
    hows = s.hows;
    counts = s.counts;
    here_is = s.here_is;
  };
}

-- more would have happened at a reader where it would have at what it stores
pub past_counting : (kept : ReaderKept) (now : ℕ)
    → ((h : List Happening) → Holds kept.store h
    → 2 ^ 64 - 1 < length h + length (dead_at (qos_of kept.store.cache) now h))
    → IsPastCounting kept now
past_counting kept now past proxies r tracked s =
    subst (λ (q : ReaderQos). 2 ^ 64 - 1 < length r.happened + length (dead_at q now r.happened)) (sym s.qos_is)
    (past r.happened s.holds)

-- what lies before the next index, and is not this one, lies before it
pub below : (i index : ℕ) → i < index + 1 → (i ≡ index → ⊥) → i < index
below i index lt other = by (nat_lt i index) refl
  where
    by : (b : Bool) → nat_lt i index ≡ b → i < index
    by true e = grind (arith, nat_tests, e)
    by false e = absurd (other (grind (arith, nat_tests, e, lt)))

-- at one more reader the deaths can be counted
pub counted_more : (now : ℕ) (readers : List ReaderKept) (index : ℕ) (k : ReaderKept)
    → ((i : ℕ) (x : ReaderKept) → i < index → slice_get readers i ≡ Some x → HasRoomForDeaths now x.store)
    → slice_get readers index ≡ Some k → HasRoomForDeaths now k.store → (i : ℕ) (x : ReaderKept) → i < index + 1
    → slice_get readers i ≡ Some x
    → HasRoomForDeaths now x.store
counted_more now readers index k before at_k here i x lt at =
    ⊎_elim
    (λ same. subst (λ (y : ReaderKept). HasRoomForDeaths now y.store)
    (same_Some k x (sym at_k ∙ (ap (λ (n : ℕ). slice_get readers n) (sym same) ∙ at))) here)
    (λ other. before i x (below i index lt other) at) (cases_eq i index)

-- at all of them
pub counted_all : (now : ℕ) (readers : List ReaderKept) (index : ℕ) → length readers ≤ index
    → ((i : ℕ) (k : ReaderKept) → i < index → slice_get readers i ≡ Some k → HasRoomForDeaths now k.store)
    → HaveRoomForDeaths now readers
counted_all now readers index all each i d lt =
    each i (get_or readers i d) (omega (arith, lt, all)) (slice_get-get_or readers i d lt)

-- the readers before this index have come so far, and the others are as they were
pub record ExpiredTo (now index : ℕ) (old new : List ReaderKept) : Type 0 where
  pub count : length new ≡ length old
  pub done : (i : ℕ) (a b : ReaderKept) → i < index → slice_get old i ≡ Some a → slice_get new i ≡ Some b
      → Expires a now b
  pub left : (i : ℕ) (b : ReaderKept) → index ≤ i → slice_get new i ≡ Some b → slice_get old i ≡ Some b

pub none_expired : (now : ℕ) (readers : List ReaderKept) → ExpiredTo now 0 readers readers
none_expired now readers =
    record { count = refl; done = λ i a b lt x y. absurd (omega (arith, lt)); left = λ i b le at. at }

pub expired_more : (now index : ℕ) (old new : List ReaderKept) (k x : ReaderKept)
    → ExpiredTo now index old new → slice_get new index ≡ Some k
    → Expires k now x → ExpiredTo now (index + 1) old (set new index x)
expired_more now index old new k x before at one = record {
  count = length-set new index x ∙ before.count;
  done = λ i a b lt at_a at_b.
      ⊎_elim
      (λ s.
      let same : k ≡ a =
      same_Some k a (sym (before.left index k (omega arith) at) ∙ (ap (λ (n : ℕ). slice_get old n) (sym s.0) ∙ at_a)) in
      subst (λ (y : ReaderKept). Expires a now y) s.1 (subst (λ (y : ReaderKept). Expires y now x) same one))
      (λ o. before.done i a b (below i index lt o.0) at_a o.1) (set-cases new index x i b at_b);
  left = λ i b le at_b.
      ⊎_elim (λ s. let same = s.0 in absurd (omega (arith, le, same))) (λ o. before.left i b (omega (arith, le)) o.1)
      (set-cases new index x i b at_b);
}

pub all_expired : (now index : ℕ) (old new : List ReaderKept) → length new ≤ index
    → ExpiredTo now index old new → AllExpire old now new
all_expired now index old new all h = record {
  count = h.count;
  each = λ i a b at_a at_b. let within = get-within new i b at_b in h.done i a b (omega (arith, within, all)) at_a at_b;
}

-- there is room at the reader that is next
pub room_next : (now index : ℕ) (old new : List ReaderKept) (k : ReaderKept) → HaveRoomForDeaths now old
    → ExpiredTo now index old new
    → slice_get new index ≡ Some k → HasRoomForDeaths now k.store
room_next now index old new k room h at =
    let there = h.left index k (omega arith) at in
    subst (λ (x : ReaderKept). HasRoomForDeaths now x.store) (get_or_from_slice_get old index k k there)
    (room index k (get-within old index k there))

-- the peer's readers stand as before, each with its deaths

pub expired_names : (now : ℕ) (old new : List ReaderKept) → AllExpire old now new
    → map reader_identity new ≡ map reader_identity old
expired_names now [] [] h = refl
expired_names now [] (b ∷ bs) h = let count = h.count in absurd (omega (arith, count))
expired_names now (a ∷ as') [] h = let count = h.count in absurd (omega (arith, count))
expired_names now (a ∷ as') (b ∷ bs) h =
    let count = h.count in
    let rest : AllExpire as' now bs = record {
      count = omega (arith, count);
      each = λ i x y at_x at_y. h.each (suc i) x y at_x at_y;
    } in
    ap (λ (n : ReaderIdentity). n ∷ map reader_identity bs) (h.each zero a b refl refl).same
    ∙ ap (λ (ns : List ReaderIdentity). reader_identity a ∷ ns) (expired_names now as' bs rest)

pub readers_expired : (now : ℕ) (old new : List ReaderKept) (proxies : List (List WriterProxy)) (rs : List Reader)
    (known : Known)
    → AllExpire old now new → ReadersStand old proxies rs known
    → ReadersStand new proxies (map (reader_ticked now) rs) known
readers_expired now old new proxies rs known h s = record {
  rows = s.rows ∙ sym h.count;
  count = length-map rs (reader_ticked now) ∙ (s.count ∙ sym h.count);
  each = λ i k at.
      let before = partner old new i k h.count at in
      let one : ReaderStands k (get_or proxies i []) (reader_ticked now (get_or rs i no_reader))
      (λ w. known.tracked w (suc i)) =
      (h.each i before.0 k before.1 at).stands _ _ _ (s.each i before.0 before.1) in
      subst (λ (r : Reader). ReaderStands k (get_or proxies i []) r (λ w. known.tracked w (suc i)))
      (sym (numbered-map (reader_ticked now) rs (suc i) no_reader)) one;
}

-- so it is at the peer
any_at : {X : Type 0} (test : X → Bool) (xs : List X) (i : ℕ) (d : X) → i < length xs
    → test (get_or xs i d) ≡ true → list_any test xs ≡ true
any_at test [] i d lt is = absurd (omega (arith, lt))
any_at {X = X} test (x ∷ xs) zero d lt is = ap (λ (b : Bool). b || list_any test xs) is
any_at {X = X} test (x ∷ xs) (suc i) d lt is = by (test x) (any_at test xs i d (omega (arith, lt)) is)
  where
    by : (b : Bool) → list_any test xs ≡ true → (b || list_any test xs) ≡ true
    by true e = refl
    by false e = e

pub peer_past_counting : (part : Part) (now i : ℕ) → i < length part.dds.readers
    → 2 ^ 64 - 1 < length (get_or part.dds.readers i no_reader).happened
    + length (dead_at (get_or part.dds.readers i no_reader).qos now (get_or part.dds.readers i no_reader).happened)
    → is_past_counting part now ≡ true
peer_past_counting part now i lt past =
    any_at (λ (r : Reader). nat_lt (2 ^ 64 - 1) (length r.happened + length (dead_at r.qos now r.happened)))
    part.dds.readers i no_reader lt
    (grind (arith, nat_tests, past))
