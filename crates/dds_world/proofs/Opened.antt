-- What the peers of a configuration that is taken stand for at the opening.
use Rattle.std.proofs.Common.{◌≡◌, ◌⊎◌, ℕ, zero, suc, ◌+◌, ◌<◌, ◌≤◌, Bool, true, false, List, [], ◌∷◌, ◌++◌, Option, Some, None, map, length, get_or, slice_get, Contains, refl, ap, sym, ◌∙◌, subst, inl, inr, ⊎_elim, arith, length-append}
use Rattle.std.specs.Prelude.{if◌then◌else◌, ◌&&◌, ◌||◌, ◌==◌, nat_lt, nat_le, is_some, Result, Ok, Err, IfOk, IfErr}
use Rattle.std.proofs.lemmas.Bool.{or_parts, ltb-false}
use Rattle.std.proofs.lemmas.Bool.Decides.{nat_tests}
use Rattle.std.proofs.lemmas.List.{length-map}
use Rattle.std.proofs.lemmas.Option.{same_Some}
use Rattle.dds_base.specs.declared.code.Code.{Code}
use Rattle.dds_base.specs.declared.code.Code.TheVariants.{BadParameter, InconsistentPolicy, Memory}
use Rattle.dds_base.specs.declared.config.Config.{Config}
use Rattle.dds_base.specs.declared.config.PeerConfig.{PeerConfig}
use Rattle.dds_base.specs.Checked.{has_bad_parameter, has_inconsistent_policy, check_refusal}
use Rattle.dds_base.specs.Refusal.{Refuses}
use Rattle.dds_notices.specs.declared.notice.Notice.{Notice}
use Rattle.dds_notices.specs.Listeners.{Slotted, StandsFor as SlotsStandFor}
use Rattle.dds_protocol.specs.declared.event.Packet.{Packet}
use Rattle.dds_machine.specs.Numbered.{has_element, numbered}
use Rattle.dds_protocol.specs.Opening.{opening_peers, opening_world}
use Rattle.dds_protocol.specs.Peer.{no_peer}
use Rattle.dds_protocol.specs.Roster.{AreGood, ComeFirst, Roster, roster_of}
use Rattle.dds_protocol.proofs.Bounded.{opened_bounded}
use Rattle.dds_protocol.proofs.CountsOpened.{opens_used_first}
use Rattle.dds_protocol.proofs.Composed.{parts_at}
use Rattle.dds_protocol.proofs.Opened.{opening_is, opens_sound_first}
use Rattle.dds_protocol.proofs.OpenedPeers.{opens_known}
use Rattle.dds_core.specs.Kept.{PeerKept}
use Rattle.dds_core.specs.Opening.{InRosters, core_refusal, opening_peer}
use Rattle.dds_core.specs.Listening.{CoreKept, StandsFor as CoreStands, no_listeners}
use Rattle.dds_core.specs.Standing.{StandsFor as PeerStandsFor}
use Rattle.dds_protocol.proofs.FiltersKept.{opens_no_filters_at}
use Rattle.dds_world.specs.Holding.{Held, filters_of, kept_of, none_given}
use Rattle.dds_world.specs.WorldStanding.{StandsFor}
use Rattle.dds_world.specs.Acting.{OpensFirst}
use Rattle.dds_machine.specs.Machine.{Machine, part_at}
use Rattle.dds_machine.specs.Opening.{opening}
use Rattle.dds_machine.specs.Part.{Part}

-- how many peers a configuration has that is not refused

not_bad : (bad inconsistent : Bool) (cause other : Code)
    → (if bad then Some cause else (if inconsistent then Some other else None)) ≡ None → bad ≡ false
not_bad true inconsistent cause other h = absurd cc
not_bad false inconsistent cause other h = refl

some_of : {X : Type 0} (xs : List X) → (length xs == 0) ≡ false → 1 ≤ length xs
some_of [] h = absurd cc
some_of (x ∷ xs) h = omega arith

sizes : (peers : List PeerConfig) → check_refusal peers ≡ None
    → ((length peers == 0) ≡ false) × (nat_lt 16 (length peers) ≡ false)
sizes peers checked =
    let good =
    not_bad (has_bad_parameter peers) (has_inconsistent_policy peers) BadParameter InconsistentPolicy checked in
    or_parts (length peers == 0) (nat_lt 16 (length peers))
    (or_parts ((length peers == 0) || nat_lt 16 (length peers)) _ good).0

pub some_peers : (peers : List PeerConfig) → check_refusal peers ≡ None → 1 ≤ length peers
some_peers peers checked = some_of peers (sizes peers checked).0

pub few_peers : (peers : List PeerConfig) → check_refusal peers ≡ None → length peers ≤ 16
few_peers peers checked = ltb-false 16 (length peers) (sizes peers checked).1

-- why a configuration is refused

pub check_refuses : (peers : List PeerConfig) (code : Code) → check_refusal peers ≡ Some code
    → Refuses (check_refusal peers) code
check_refuses peers code is = subst (λ (o : Option Code). Refuses o code) (sym is) refl

-- what the check answers is the answer
checked_alone : (o : Option Code) → (if is_some o then o else None) ≡ o
checked_alone (Some cause) = refl
checked_alone None = refl

-- a peer that there is, is refused as the whole
pub same_refusal : (peers : List PeerConfig) (n : ℕ) → 1 ≤ n → n ≤ length peers
    → core_refusal peers n ≡ check_refusal peers
same_refusal peers n low high =
    let above : nat_lt 0 n ≡ true = grind (arith, nat_tests, low) in
    let within : nat_le n (length peers) ≡ true = grind (arith, nat_tests, high) in
    let has : has_element peers n ≡ true = ap (λ (b : Bool). b && nat_le n (length peers)) above ∙ within in
    ap (λ (b : Bool). if is_some (check_refusal peers) then check_refusal peers
    else (if b then None else Some BadParameter)) has
    ∙ checked_alone (check_refusal peers)

pub peer_refuses : (peers : List PeerConfig) (i n : ℕ) (code : Code) → n ≡ i + 1 → i < length peers
    → Refuses (core_refusal peers n) code → Refuses (check_refusal peers) code
peer_refuses peers i n code is within h =
    subst (λ (o : Option Code). Refuses o code) (same_refusal peers n (omega (arith, is)) (omega (arith, is, within))) h

pub peer_taken : (peers : List PeerConfig) (i n : ℕ) → n ≡ i + 1 → i < length peers → core_refusal peers n ≡ None
    → check_refusal peers ≡ None
peer_taken peers i n is within h = sym (same_refusal peers n (omega (arith, is)) (omega (arith, is, within))) ∙ h

-- what a peer answers at its opening, as the network answers it

pub taken_so : {X : Type 0} (peers : List PeerConfig) (i : ℕ) (r : Result X Code) → i < length peers
    → IfOk r (λ core. core_refusal peers (i + 1) ≡ None) → IfOk r (λ core. check_refusal peers ≡ None)
taken_so peers i (Ok core) within h = peer_taken peers i (i + 1) refl within h
taken_so peers i (Err code) within h = tt

pub refused_so : {X : Type 0} (peers : List PeerConfig) (i : ℕ) (r : Result X Code) → i < length peers
    → IfErr r (Refuses (core_refusal peers (i + 1))) → IfErr r (Refuses (check_refusal peers))
refused_so peers i (Ok core) within h = tt
refused_so peers i (Err code) within h = peer_refuses peers i (i + 1) code refl within h

-- it stands for its opening by each roster, whatever else is so of it there
pub opening_so : {X : Type 0} (P Q : X → Roster → Type 0) (config : Config) (r : Result X Code)
    → IfOk r (λ core. InRosters config (λ roster. P core roster × Q core roster))
    → IfOk r (λ core. InRosters config (λ roster. P core roster))
opening_so P Q config (Ok core) h = λ all first good. (h all first good).0
opening_so P Q config (Err code) h = tt

-- where the configuration is taken, want of memory is the one cause
pub memory_refuses : (peers : List PeerConfig) → check_refusal peers ≡ None → Refuses (check_refusal peers) Memory
memory_refuses peers none = subst (λ (o : Option Code). Refuses o Memory) (sym none) refl

-- the peers, one after the other

pub opens_none : {F L : Type 0} (notices : L → List Notice) (capacity : L → ℕ) (becomes : L → Notice → L → Type 0)
    (config : Config)
    (kept : List (CoreKept F L)) → kept ≡ [] → OpensFirst notices capacity becomes config 0 kept
opens_none {F} {L} notices capacity becomes config kept none =
    subst (λ (ks : List (CoreKept F L)). OpensFirst notices capacity becomes config 0 ks) (sym none)
    (record {
      counted = refl;
      each = λ i k at. absurd cc;
      none = λ i k at. absurd cc;
      taken = λ low.
          absurd (omega (arith, low));
    })

-- an element of a list with one more at its end
pub at_end : {X : Type 0} (xs : List X) (y : X) (j : ℕ) (x : X) → slice_get (xs ++ y ∷ []) j ≡ Some x
    → (slice_get xs j ≡ Some x) ⊎ ((j ≡ length xs) × (y ≡ x))
at_end [] y zero x at = inr (refl, same_Some y x at)
at_end [] y (suc j) x at = absurd cc
at_end (z ∷ zs) y zero x at = inl at
at_end (z ∷ zs) y (suc j) x at = ⊎_elim (λ e. inl e) (λ e. inr (ap suc e.0, e.1)) (at_end zs y j x at)

pub opens_more : {F L : Type 0} (notices : L → List Notice) (capacity : L → ℕ) (becomes : L → Notice → L → Type 0)
    (config : Config) (i n : ℕ)
    (old new : List (CoreKept F L)) (core : CoreKept F L) → n ≡ i + 1
    → OpensFirst notices capacity becomes config i old
    → InRosters config (λ roster. CoreStands notices capacity becomes (no_listeners (opening_peer config n).part) core
    roster (opening_peer config n))
    → core.filtered.filters ≡ []
    → check_refusal config.peers ≡ None → new ≡ old ++ core ∷ [] → OpensFirst notices capacity becomes config (i + 1) new
opens_more {F} {L} notices capacity becomes config i n old new core is so stands none taken items =
    let counted = so.counted in
    let total = length-append old (core ∷ []) in
    let length_is = ap (λ (ks : List (CoreKept F L)). length ks) items in
    let before : (j : ℕ) (k : CoreKept F L) → slice_get new j ≡ Some k
    → (slice_get old j ≡ Some k) ⊎ ((j ≡ length old) × (core ≡ k)) =
    λ j k at. at_end old core j k (subst (λ (ks : List (CoreKept F L)). slice_get ks j ≡ Some k) items at) in
    let each : (j : ℕ) (k : CoreKept F L) → slice_get new j ≡ Some k
    → InRosters config (λ roster. CoreStands notices capacity becomes (no_listeners (opening_peer config (j + 1)).part) k
    roster (opening_peer config (j + 1))) = λ j k at.
    ⊎_elim (λ o. so.each j k o)
    (λ last.
    let j_is = last.0 in
    let same : n ≡ j + 1 = omega (arith, is, j_is, counted) in
    subst (λ (m : ℕ). InRosters config (λ roster. CoreStands notices capacity becomes
    (no_listeners (opening_peer config m).part) k roster (opening_peer config m))) same
    (subst (λ (x : CoreKept F L). InRosters config (λ roster. CoreStands notices capacity becomes
    (no_listeners (opening_peer config n).part) x roster (opening_peer config n))) last.1 stands))
    (before j k at) in
    record {
      counted = omega (arith, counted, total, length_is);
      each = each;
      none =
          λ j k at. ⊎_elim (λ o. so.none j k o)
          (λ last. subst (λ (x : CoreKept F L). x.filtered.filters ≡ []) last.1 none) (before j k at);
      taken = λ low. taken;
    }

-- all of them are the network

peers_count : (peers : List PeerConfig) (n : ℕ) (ps : List PeerConfig) → length (opening_peers peers n ps) ≡ length ps
peers_count peers n [] = refl
peers_count peers n (p ∷ ps) = let rest = peers_count peers (n + 1) ps in omega (arith, rest)

-- an element of a list of what is seen of others is seen of one of them
seen_of : {X Y : Type 0} (f : X → Y) (xs : List X) (i : ℕ) (y : Y) → slice_get (map f xs) i ≡ Some y
    → (x : X) × (slice_get xs i ≡ Some x) × (f x ≡ y)
seen_of f [] i y at = absurd cc
seen_of f (x ∷ xs) zero y at = (x, refl, same_Some (f x) y at)
seen_of f (x ∷ xs) (suc i) y at = seen_of f xs i y at

get_or-none : {X : Type 0} (i : ℕ) (x : X) → get_or [] i x ≡ x
get_or-none zero x = refl
get_or-none (suc i) x = refl

-- no peer has a filter
none_at : {F L : Type 0} (cores : List (CoreKept F L))
    → ((i : ℕ) (k : CoreKept F L) → slice_get cores i ≡ Some k → k.filtered.filters ≡ []) → (i : ℕ)
    → get_or (map (λ (c : CoreKept F L). c.filtered.filters) cores) i [] ≡ []
none_at [] none i = get_or-none i []
none_at (c ∷ cs) none zero = none zero c refl
none_at (c ∷ cs) none (suc i) = none_at cs (λ j k at. none (suc j) k at) i

none_counted : {F L : Type 0} (cores : List (CoreKept F L))
    → ((i : ℕ) (k : CoreKept F L) → slice_get cores i ≡ Some k → k.filtered.filters ≡ []) → (i : ℕ)
    → get_or (map (λ (c : CoreKept F L). length c.filtered.filters) cores) i 0 ≡ 0
none_counted [] none i = get_or-none i 0
none_counted (c ∷ cs) none zero = ap (λ fs. length fs) (none zero c refl)
none_counted (c ∷ cs) none (suc i) = none_counted cs (λ j k at. none (suc j) k at) i

pub no_filters_at : {F L : Type 0} (notices : L → List Notice) (capacity : L → ℕ) (becomes : L → Notice → L → Type 0)
    (config : Config) (count : ℕ)
    (held : Held F L) → OpensFirst notices capacity becomes config count held.cores → (peer : ℕ)
    → numbered (filters_of held) peer [] ≡ []
no_filters_at notices capacity becomes config count held all zero = refl
no_filters_at notices capacity becomes config count held all (suc i) = none_at held.cores all.none i

-- by the roster of each list in which the peers of the configuration come first
pub opened : {F L : Type 0} (notices : L → List Notice) (capacity : L → ℕ) (becomes : L → Notice → L → Type 0)
    (config : Config) (held : Held F L)
    → OpensFirst notices capacity becomes config (length config.peers) held.cores
    → held.sent ≡ [] → held.unsent ≡ 0
    → InRosters config (λ roster. StandsFor (kept_of notices capacity becomes (none_given (opening config)) held) roster
    (opening_world config))
opened {F} {L} notices capacity becomes config held all none quiet whole first good =
    let f : CoreKept F L → PeerKept = λ c. c.filtered.peer in
    let g : CoreKept F L → Slotted L = λ c. c.listeners in
    let parts : (number : ℕ) → part_at (opening config) number ≡ (opening_peer config number).part = λ number.
    ap (λ (m : Machine). part_at m number) (sym (opening_is config)) ∙ parts_at (opening_world config) number in
    record {
      count = peers_count config.peers 1 config.peers ∙ (sym all.counted ∙ sym (length-map held.cores f));
      each = λ i k at.
          let next : i + 1 ≡ suc i = omega arith in
          let own = seen_of f held.cores i k at in
          subst (λ (x : PeerKept). PeerStandsFor x (roster_of whole) (opening_peer config (suc i))) own.2
          (subst (λ (n : ℕ). PeerStandsFor own.0.filtered.peer (roster_of whole) (opening_peer config n)) next
          (all.each i own.0 own.1 whole first good).stands.stands);
      known = λ i k at.
          opens_known config (roster_of whole) i
          (get_or (opening_peers config.peers 1 config.peers) i no_peer).number;
      filters = λ i. opens_no_filters_at config i ∙ sym (none_counted held.cores all.none i);
      listened = peers_count config.peers 1 config.peers ∙ (sym all.counted ∙ sym (length-map held.cores g));
      listeners = λ i k at.
          let next : i + 1 ≡ suc i = omega arith in
          let own = seen_of g held.cores i k at in
          subst (λ (x : Slotted L). SlotsStandFor notices capacity becomes (none_given (opening config) (suc i)) x
          (opening_peer config (suc i)).part.dds.listeners) own.2
          (subst (λ (p : Part). SlotsStandFor notices capacity becomes (no_listeners p) own.0.listeners
          (opening_peer config (suc i)).part.dds.listeners) (sym (parts (suc i)))
          (subst (λ (n : ℕ). SlotsStandFor notices capacity becomes (no_listeners (opening_peer config n).part)
          own.0.listeners (opening_peer config n).part.dds.listeners) next
          (all.each i own.0 own.1 whole first good).listeners));
      sent = sym none;
      sound = opens_sound_first config whole first;
      messages =
          λ packet c. let nowhere = subst (λ (ps : List Packet). Contains ps packet) none c in
          absurd (omega (arith, nowhere.1));
      few = omega (arith, quiet);
      used = opens_used_first config whole first;
      bounded = opened_bounded config;
    }
