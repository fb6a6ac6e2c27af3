-- A network to which a peer came: it stands for the states of its peers with that one more. And why one does not come.
use Rattle.std.proofs.Common.{◌≡◌, ◌≢◌, ℕ, zero, suc, ◌+◌, ◌-◌, ◌^◌, ◌<◌, ◌≤◌, ◌||◌, Bool, true, false, List, [], ◌∷◌, ◌++◌, Option, Some, None, map, length, get_or, slice_get, refl, ap, sym, ◌∙◌, subst, ⊎_elim, arith, length-append, eq-eqb}
use Rattle.std.specs.Prelude.{if◌then◌else◌, ◌&&◌, ◌==◌, is_some, nat_lt, Result, Ok, Err, IfErr}
use Rattle.std.specs.List.{list_any}
use Rattle.std.proofs.lemmas.Bool.{ne_eqb}
use Rattle.std.proofs.lemmas.Bool.Decides.{nat_tests}
use Rattle.std.proofs.lemmas.List.{get_or_append_left, get_or_at, length-map, map-append}
use Rattle.std.proofs.lemmas.Option.{slice_get_within}
use Rattle.dds_base.specs.declared.code.Code.{Code}
use Rattle.dds_base.specs.declared.code.Code.TheVariants.{BadParameter, Memory, OutOfResources}
use Rattle.dds_base.specs.Checked.{check_refusal, same_prefix}
use Rattle.dds_base.specs.Refusal.{Refuses}
use Rattle.dds_base.specs.declared.config.Config.{Config}
use Rattle.dds_base.specs.declared.config.PeerConfig.{PeerConfig}
use Rattle.dds_base.specs.declared.guid.GuidPrefix.{GuidPrefix}
use Rattle.dds_base.proofs.OwnerLaws.{eqb-refl}
use Rattle.dds_notices.specs.declared.notice.Notice.{Notice}
use Rattle.dds_notices.specs.Listeners.{ByEntity, Slotted, StandsFor as SlotsStandFor}
use Rattle.dds_machine.specs.Machine.{Machine}
use Rattle.dds_machine.specs.Opening.{coming_part, machine_with_peer}
use Rattle.dds_protocol.specs.Bounds.{IsBounded}
use Rattle.dds_protocol.specs.Claims.{IsNumbered}
use Rattle.dds_protocol.specs.Coming.{coming_peer, world_with_peer}
use Rattle.dds_protocol.specs.Peer.{Peer, no_peer}
use Rattle.dds_protocol.specs.Roster.{AreGood, Roster, roster_of}
use Rattle.dds_protocol.specs.World.{WorldState, machine_of}
use Rattle.dds_protocol.proofs.Coming.{comes_as_part, comes_bounded, comes_sound, comes_used}
use Rattle.dds_ends.specs.Sending.{AreMessages}
use Rattle.dds_ends.proofs.Lists.{map-get}
use Rattle.dds_core.specs.Kept.{PeerKept}
use Rattle.dds_core.specs.Listening.{CoreKept, StandsFor as CoreStands, no_listeners}
use Rattle.dds_core.specs.Opening.{InRostersAt, coming_refusal}
use Rattle.dds_core.specs.Ruling.{IsSound}
use Rattle.dds_core.specs.Standing.{StandsFor as PeerStandsFor}
use Rattle.dds_world.specs.Coming.{HasNewcomer, RefusesPeer, given_coming, newcomer_refusal, one_refusal}
use Rattle.dds_world.specs.Holding.{Held, MachineStandsFor, filters_of, kept_of}
use Rattle.dds_world.specs.WorldStanding.{StandsFor}
use Rattle.dds_world.proofs.Opened.{at_end}

-- ---- one more, last

-- what is so of each that is kept and its peer is so with one more of both
each_last : {K : Type 0} (R : ℕ → K → Peer → Type 0) (ks : List K) (k : K) (ps : List Peer) (p : Peer)
    → length ps ≡ length ks
    → ((i : ℕ) (x : K) → slice_get ks i ≡ Some x → R i x (get_or ps i no_peer)) → R (length ks) k p
    → (i : ℕ) (x : K) → slice_get (ks ++ k ∷ []) i ≡ Some x → R i x (get_or (ps ++ p ∷ []) i no_peer)
each_last {K} R ks k ps p count each last i x at =
    ⊎_elim
    (λ o.
    let low = slice_get_within ks i x o in
    subst (λ (q : Peer). R i x q) (sym (get_or_append_left ps (p ∷ []) no_peer i (omega (arith, low, count))))
    (each i x o))
    (λ l.
    let index = l.0 in
    let here : get_or (ps ++ p ∷ []) i no_peer ≡ p = get_or_at ps p [] no_peer i (omega (arith, index, count)) in
    subst (λ (q : Peer). R i x q) (sym here)
    (subst (λ (n : ℕ). R n x p) (sym index) (subst (λ (y : K). R (length ks) y p) l.1 last)))
    (at_end ks k i x at)

-- so it is with how many filters there are
count_last : {F L : Type 0} (cores : List (CoreKept F L)) (peers : List Peer) (core : CoreKept F L) (p : Peer)
    → length peers ≡ length cores → p.part.dds.watch.filters ≡ length core.filtered.filters
    → ((j : ℕ) → (get_or peers j no_peer).part.dds.watch.filters
    ≡ get_or (map (λ (c : CoreKept F L). length c.filtered.filters) cores) j 0)
    → (j : ℕ) → (get_or (peers ++ p ∷ []) j no_peer).part.dds.watch.filters
    ≡ get_or (map (λ (c : CoreKept F L). length c.filtered.filters) (cores ++ core ∷ [])) j 0
count_last [] [] core p count is each zero = is
count_last [] [] core p count is each (suc j) = each j
count_last [] (q ∷ qs) core p count is each j = absurd (omega (arith, count))
count_last (c ∷ cs) [] core p count is each j = absurd (omega (arith, count))
count_last (c ∷ cs) (q ∷ qs) core p count is each zero = each zero
count_last (c ∷ cs) (q ∷ qs) core p count is each (suc j) =
    count_last cs qs core p (omega (arith, count)) is (λ k. each (suc k)) j

-- ---- the prefixes of those that are there

any_alike : {X Y : Type 0} (f : X → Bool) (g : Y → Bool) (xs : List X) (ys : List Y) (d : X) → length xs ≡ length ys
    → ((i : ℕ) (y : Y) → slice_get ys i ≡ Some y → f (get_or xs i d) ≡ g y) → list_any f xs ≡ list_any g ys
any_alike f g [] [] d count each = refl
any_alike f g [] (y ∷ ys) d count each = absurd (omega (arith, count))
any_alike f g (x ∷ xs) [] d count each = absurd (omega (arith, count))
any_alike f g (x ∷ xs) (y ∷ ys) d count each =
    ap (λ (b : Bool). b || list_any f xs) (each zero y refl)
    ∙ ap (λ (b : Bool). g y || b) (any_alike f g xs ys d (omega (arith, count)) (λ i z at. each (suc i) z at))

-- one of those that are kept has this prefix
abbrev pub has_prefix : {F L : Type 0} → GuidPrefix → List (CoreKept F L) → Bool
has_prefix {F} {L} prefix cores = list_any (λ (c : CoreKept F L). same_prefix c.filtered.peer.prefix prefix) cores

-- in each state that the network stands for, one of its peers has it exactly then
prefixes_in : {F L : Type 0} (notices : L → List Notice) (capacity : L → ℕ) (becomes : L → Notice → L → Type 0)
    (given : ℕ → ByEntity L) (held : Held F L) (roster : Roster) (network : WorldState) (prefix : GuidPrefix)
    → StandsFor (kept_of notices capacity becomes given held) roster network
    → list_any (λ (q : Peer). same_prefix (roster.prefix q.number) prefix) network.peers ≡ has_prefix prefix held.cores
prefixes_in {F} {L} notices capacity becomes given held roster network prefix s =
    let f : CoreKept F L → PeerKept = λ c. c.filtered.peer in
    any_alike (λ (q : Peer). same_prefix (roster.prefix q.number) prefix)
    (λ (c : CoreKept F L). same_prefix c.filtered.peer.prefix prefix) network.peers held.cores no_peer
    (s.count ∙ length-map held.cores f)
    (λ i c at. ap (λ (x : GuidPrefix). same_prefix x prefix)
    (s.each i (f c) (map-get f held.cores i c at)).is_peer.prefix)

-- ---- the network

module _ {F L : Type 0} (notices : L → List Notice) (capacity : L → ℕ) (becomes : L → Notice → L → Type 0) where
  -- it stands for the peers to which this one came, where what is kept of that one stands for it
  pub stands_coming : (given : ℕ → ByEntity L) (old : Held F L) (core : CoreKept F L) (number : ℕ) (new : Held F L)
      (all : Config) (network : WorldState) (p : PeerConfig) → number ≡ length old.cores + 1
      → new ≡ record old { cores = old.cores ++ core ∷ [] } → core.filtered.filters ≡ []
      → CoreStands notices capacity becomes (no_listeners (coming_part number p)) core (roster_of all)
      (coming_peer number p)
      → IsSound (roster_of all) (coming_peer number p) → IsNumbered all.peers number p
      → StandsFor (kept_of notices capacity becomes given old) (roster_of all) network
      → StandsFor (kept_of notices capacity becomes (given_coming given number p) new) (roster_of all)
      (world_with_peer network p)
  stands_coming given old core number new all network p is same none stands known at s =
      let roster : Roster = roster_of all in
      let f : CoreKept F L → PeerKept = λ c. c.filtered.peer in
      let g : CoreKept F L → ℕ = λ c. length c.filtered.filters in
      let h : CoreKept F L → Slotted L = λ c. c.listeners in
      let cores = ap (λ (x : Held F L). x.cores) same in
      let sent = ap (λ (x : Held F L). x.sent) same in
      let unsent = ap (λ (x : Held F L). x.unsent) same in
      let few = s.few in
      let count : length network.peers ≡ length old.cores = s.count ∙ length-map old.cores f in
      let next : length network.peers + 1 ≡ number = omega (arith, is, count) in
      let own : Peer = coming_peer (length network.peers + 1) p in
      let own_is : coming_peer number p ≡ own = ap (λ (n : ℕ). coming_peer n p) (sym next) in
      let comes : IsNumbered all.peers (length network.peers + 1) p =
      subst (λ (n : ℕ). IsNumbered all.peers n p) (sym next) at in
      let later : ℕ → ByEntity L = given_coming given number p in
      let last : later (suc (length (map h old.cores))) ≡ no_listeners (coming_part number p) =
      let size = length-map old.cores h in
      let number_is : number ≡ suc (length (map h old.cores)) = omega (arith, is, size) in
      subst (λ (n : ℕ). later n ≡ no_listeners (coming_part number p)) number_is
      (ap (λ (b : Bool). if b then no_listeners (coming_part number p) else given number) (eqb-refl number)) in
      let others : (i : ℕ) → i < length old.cores → later (suc i) ≡ given (suc i) = λ i low.
      ap (λ (b : Bool). if b then no_listeners (coming_part number p) else given (suc i))
      (ne_eqb (suc i) number (λ e. omega (arith, e, is, low))) in
      let peers_are : map f new.cores ≡ map f old.cores ++ f core ∷ [] =
      ap (λ (cs : List (CoreKept F L)). map f cs) cores ∙ map-append f old.cores (core ∷ []) in
      let slots_are : map h new.cores ≡ map h old.cores ++ h core ∷ [] =
      ap (λ (cs : List (CoreKept F L)). map h cs) cores ∙ map-append h old.cores (core ∷ []) in
      let more = length-append network.peers (own ∷ []) in
      let all_peers = ap (λ (ks : List PeerKept). length ks) peers_are in
      let all_slots = ap (λ (ks : List (Slotted L)). length ks) slots_are in
      let peers_count = length-append (map f old.cores) (f core ∷ []) in
      let slots_count = length-append (map h old.cores) (h core ∷ []) in
      let counted = s.count in
      let listened = s.listened in
      record {
        count = omega (arith, more, all_peers, peers_count, counted);
        each = λ i k there.
            each_last (λ n (x : PeerKept) (q : Peer). PeerStandsFor x roster q) (map f old.cores) (f core) network.peers
            own s.count s.each (subst (λ (q : Peer). PeerStandsFor (f core) roster q) own_is stands.stands.stands) i k
            (subst (λ (ks : List PeerKept). slice_get ks i ≡ Some k) peers_are there);
        known = λ i k there.
            each_last (λ n (x : PeerKept) (q : Peer). IsSound roster q) (map f old.cores) (f core) network.peers own
            s.count s.known (subst (λ (q : Peer). IsSound roster q) own_is known) i k
            (subst (λ (ks : List PeerKept). slice_get ks i ≡ Some k) peers_are there);
        filters = λ i.
            count_last old.cores network.peers core own count (ap (λ (fs : List F). length fs) (sym none)) s.filters i
            ∙ ap (λ (cs : List (CoreKept F L)). get_or (map g cs) i 0) (sym cores);
        listened = omega (arith, more, all_slots, slots_count, listened);
        listeners = λ i k there.
            each_last (λ n (x : Slotted L) (q : Peer). SlotsStandFor notices capacity becomes (later (suc n)) x
            q.part.dds.listeners) (map h old.cores) (h core) network.peers own s.listened
            (λ n x found.
            let size = length-map old.cores h in
            let low = slice_get_within (map h old.cores) n x found in
            subst (λ (l : ByEntity L). SlotsStandFor notices capacity becomes l x
            (get_or network.peers n no_peer).part.dds.listeners) (sym (others n (omega (arith, low, size))))
            (s.listeners n x found))
            (subst (λ (l : ByEntity L). SlotsStandFor notices capacity becomes l (h core) own.part.dds.listeners)
            (sym last)
            (subst (λ (q : Peer). SlotsStandFor notices capacity becomes (no_listeners (coming_part number p)) (h core)
            q.part.dds.listeners) own_is stands.listeners)) i k
            (subst (λ (ks : List (Slotted L)). slice_get ks i ≡ Some k) slots_are there);
        sent = s.sent ∙ sym sent;
        sound = comes_sound all network p s.sound comes;
        messages = subst (λ ps. AreMessages ps) (sym sent) s.messages;
        few = omega (arith, few, unsent);
        used = comes_used all network p s.used comes;
        bounded = subst (λ (m : Machine). IsBounded m) (sym (comes_as_part network p))
            (comes_bounded (machine_of network) p s.bounded);
      }

-- ---- why a peer does not come

one_at : (peers : List PeerConfig) (d : PeerConfig) → length peers ≡ 1 → peers ≡ get_or peers 0 d ∷ []
one_at [] d one = absurd (omega (arith, one))
one_at (p ∷ []) d one = refl
one_at (p ∷ q ∷ ps) d one = absurd (omega (arith, one))

-- the only one
pub only : (peers : List PeerConfig) (p : PeerConfig) → length peers ≡ 1 → p ≡ get_or peers 0 p → peers ≡ p ∷ []
only peers p one is = one_at peers p one ∙ ap (λ (q : PeerConfig). q ∷ []) (sym is)

not_one : (roster : Roster) (network : WorldState) (peers : List PeerConfig) → length peers ≢ 1
    → one_refusal roster network peers ≡ Some BadParameter
not_one roster network [] many = refl
not_one roster network (p ∷ []) many = absurd (many refl)
not_one roster network (p ∷ q ∷ ps) many = refl

-- what is left to ask of the only one
left : (roster : Roster) (network : WorldState) (peers : List PeerConfig) → check_refusal peers ≡ None
    → newcomer_refusal roster network peers ≡ one_refusal roster network peers
left roster network peers checked =
    ap (λ (o : Option Code). if is_some o then o else one_refusal roster network peers) checked

module _ {F L : Type 0} (notices : L → List Notice) (capacity : L → ℕ) (becomes : L → Notice → L → Type 0)
    (held : Held F L) (peers : List PeerConfig) where
  -- the peers are refused
  pub refuses_all : (code : Code) → check_refusal peers ≡ Some code → RefusesPeer notices capacity becomes held peers code
  refuses_all code is given roster network s =
      subst (λ (o : Option Code). Refuses o code)
      (sym (ap (λ (o : Option Code). if is_some o then o else one_refusal roster network peers) is)) refl

  -- they are more than one
  pub refuses_many : check_refusal peers ≡ None → length peers ≢ 1
      → RefusesPeer notices capacity becomes held peers BadParameter
  refuses_many checked many given roster network s =
      subst (λ (o : Option Code). Refuses o BadParameter)
      (sym (left roster network peers checked ∙ not_one roster network peers many)) refl

  module _ (checked : check_refusal peers ≡ None) (p : PeerConfig) (one : peers ≡ p ∷ []) where
    -- why the only one is refused, by its prefix and by how many there are
    refusal_is : (given : ℕ → ByEntity L) (roster : Roster) (network : WorldState) (a b : Bool)
        → StandsFor (kept_of notices capacity becomes given held) roster network → has_prefix p.prefix held.cores ≡ a
        → nat_lt (length held.cores) (2 ^ 32 - 1) ≡ b
        → newcomer_refusal roster network peers
        ≡ (if a then Some BadParameter else (if b then None else Some OutOfResources))
    refusal_is given roster network a b s has few =
        let count : length network.peers ≡ length held.cores =
        s.count ∙ length-map held.cores (λ (c : CoreKept F L). c.filtered.peer) in
        left roster network peers checked
        ∙ (ap (λ (ps : List PeerConfig). one_refusal roster network ps) one
        ∙ (ap (λ (x : Bool). if x then Some BadParameter
        else (if nat_lt (length network.peers) (2 ^ 32 - 1) then None else Some OutOfResources))
        (prefixes_in notices capacity becomes given held roster network p.prefix s ∙ has)
        ∙ ap (λ (y : Bool). if a then Some BadParameter else (if y then None else Some OutOfResources))
        (ap (λ (n : ℕ). nat_lt n (2 ^ 32 - 1)) count ∙ few)))

    pub refuses_prefix : has_prefix p.prefix held.cores ≡ true
        → RefusesPeer notices capacity becomes held peers BadParameter
    refuses_prefix has given roster network s =
        subst (λ (o : Option Code). Refuses o BadParameter)
        (sym (refusal_is given roster network true (nat_lt (length held.cores) (2 ^ 32 - 1)) s has refl)) refl

    pub refuses_full : has_prefix p.prefix held.cores ≡ false → 2 ^ 32 - 1 ≤ length held.cores
        → RefusesPeer notices capacity becomes held peers OutOfResources
    refuses_full has full given roster network s =
        let few : nat_lt (length held.cores) (2 ^ 32 - 1) ≡ false = grind (arith, nat_tests, full) in
        subst (λ (o : Option Code). Refuses o OutOfResources)
        (sym (refusal_is given roster network false false s has few)) refl

    -- there is no cause
    pub takes : has_prefix p.prefix held.cores ≡ false → length held.cores < 2 ^ 32 - 1
        → (given : ℕ → ByEntity L) (roster : Roster) (network : WorldState)
        → StandsFor (kept_of notices capacity becomes given held) roster network
        → newcomer_refusal roster network peers ≡ None
    takes has room given roster network s =
        let few : nat_lt (length held.cores) (2 ^ 32 - 1) ≡ true = grind (arith, nat_tests, room) in
        refusal_is given roster network false true s has few

    -- so want of memory is one
    pub refuses_memory : has_prefix p.prefix held.cores ≡ false → length held.cores < 2 ^ 32 - 1
        → RefusesPeer notices capacity becomes held peers Memory
    refuses_memory has room given roster network s =
        subst (λ (o : Option Code). Refuses o Memory) (sym (takes has room given roster network s)) refl

  -- or by the cause of an opening, which is none
  pub refuses_so : {A : Type 0} (result : Result A Code) (cause : Option Code) → cause ≡ None
      → RefusesPeer notices capacity becomes held peers Memory → IfErr result (Refuses cause)
      → IfErr result (RefusesPeer notices capacity becomes held peers)
  refuses_so (Ok x) cause none memory h = tt
  refuses_so (Err code) cause none memory h =
      let is : code ≡ Memory = subst (λ (o : Option Code). Refuses o code) none h in
      subst (λ (x : Code). RefusesPeer notices capacity becomes held peers x) (sym is) memory

-- an opening has none
pub opens_so : (peers : List PeerConfig) (number : ℕ) → check_refusal peers ≡ None → length peers ≡ 1 → 1 ≤ number
    → coming_refusal peers number ≡ None
opens_so peers number checked one low =
    let above : nat_lt 0 number ≡ true = grind (arith, nat_tests, low) in
    let alone : (length peers == 1) ≡ true = eq-eqb (length peers) 1 one in
    ap (λ (o : Option Code). if is_some o then o
    else (if (length peers == 1) && nat_lt 0 number then None else Some BadParameter)) checked
    ∙ (ap (λ (b : Bool). if b && nat_lt 0 number then None else Some BadParameter) alone
    ∙ ap (λ (b : Bool). if b then None else Some BadParameter) above)

-- ---- it came

module _ {F L : Type 0} (notices : L → List Notice) (capacity : L → ℕ) (becomes : L → Notice → L → Type 0) where
  pub comes : (old : Held F L) (core : CoreKept F L) (config : Config) (number : ℕ) (new : Held F L) (p : PeerConfig)
      → number ≡ length old.cores + 1 → new ≡ record old { cores = old.cores ++ core ∷ [] }
      → core.filtered.filters ≡ []
      → InRostersAt config number (λ roster q. CoreStands notices capacity becomes (no_listeners (coming_part number q))
      core roster (coming_peer number q) × IsSound roster (coming_peer number q))
      → check_refusal config.peers ≡ None → config.peers ≡ p ∷ [] → has_prefix p.prefix old.cores ≡ false
      → length old.cores < 2 ^ 32 - 1
      → HasNewcomer notices capacity becomes old config.peers number new
  comes old core config number new p is same none stands checked one has room =
      let rules : (given : ℕ → ByEntity L) (all : Config) (network : WorldState) (q : PeerConfig)
      → config.peers ≡ q ∷ [] → AreGood all.peers → IsNumbered all.peers number q
      → StandsFor (kept_of notices capacity becomes given old) (roster_of all) network
      → StandsFor (kept_of notices capacity becomes (given_coming given number q) new) (roster_of all)
      (world_with_peer network q) =
      λ given all network q only_one good at s.
      let h = stands all q only_one good at in
      stands_coming notices capacity becomes given old core number new all network q is same none h.0 h.1 at s in
      record {
        next = is;
        filters =
            ap (λ (x : Held F L). filters_of x) same
            ∙ (map-append (λ (c : CoreKept F L). c.filtered.filters) old.cores (core ∷ [])
            ∙ ap (λ (fs : List F). filters_of old ++ fs ∷ []) none);
        sent = ap (λ (x : Held F L). x.sent) same;
        unsent = ap (λ (x : Held F L). x.unsent) same;
        comes = λ given all m q only_one good at s. (
          world_with_peer s.0 q,
          comes_as_part s.0 q ∙ ap (λ (x : Machine). machine_with_peer x q) s.1,
          rules given all s.0 q only_one good at s.2,
        );
        rules = rules;
        taken = takes notices capacity becomes old config.peers checked p one has room;
      }
