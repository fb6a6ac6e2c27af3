-- An honest order of histories of different peers, begun at an opening, is a run of the machine.
use Rattle.std.proofs.Common.{◌≡◌, ℕ, zero, suc, ◌+◌, ◌<◌, ◌≤◌, ◌==◌, ◌⊎◌, Bool, true, false, List, [], ◌∷◌, ◌++◌, Some, Contains, drop, length, refl, sym, ap, ◌∙◌, subst, inl, inr, ⊎_elim, arith, add-one, eq-eqb}
use Rattle.std.specs.Prelude.{slice_get, slice_index}
use Rattle.std.proofs.Math.ListN.{length-set}
use Rattle.std.proofs.lemmas.Bool.{eqb-true}
use Rattle.std.proofs.lemmas.List.{drop_all, get_or_past, length-replicate}
use Rattle.std.proofs.lemmas.List.Elements.{Contains-append_left, Contains-append_right}
use Rattle.std.proofs.lemmas.Option.{slice_get_within}
use Rattle.dds_base.specs.declared.config.Config.{Config}
use Rattle.dds_notices.specs.Listeners.{Places}
use Rattle.dds_machine.specs.Machine.{AllTests}
use Rattle.dds_protocol.specs.declared.event.Event.{Event}
use Rattle.dds_protocol.specs.declared.event.Event.TheVariants as event
use Rattle.dds_protocol.specs.declared.event.Packet.{Packet}
use Rattle.dds_protocol.specs.Opening.{opening_world}
use Rattle.dds_protocol.specs.Peer.{Peer, no_peer}
use Rattle.dds_protocol.specs.World.{Sound, WorldState, peer_at}
use Rattle.dds_protocol.specs.Roster.{roster_of}
use Rattle.dds_protocol.proofs.Alike.{AlikeParts, alike_by, parts_same}
use Rattle.dds_protocol.proofs.Opened.{opens_sound}
use Rattle.dds_protocol.proofs.SameBeside.{sound_beside}
use Rattle.dds_core.specs.Opening.{opening_peer}
use Rattle.dds_trace.specs.declared.trace.Entry.{Entry}
use Rattle.dds_trace.specs.Entries.{Traced}
use Rattle.dds_trace.specs.History.{IsHistory, opened}
use Rattle.dds_trace.specs.Weaving.{AllPlaced, IsHonest, Reaches, Sends, Sent, none_placed, one_more}
use Rattle.dds_trace.specs.Woven.{AreApart, AreHistories, AreWoven, IsOpening, PeerEntry, RunsHistories}
use Rattle.dds_trace.proofs.HonestRuns.{AreHonest, AreOf, HaveHistories, IsSent, entries_at, entries_other, entries_own, weaves}
use Rattle.dds_trace.proofs.Orders.{below_or_not, count_set, same_or_not, sends_more, set_other, zeros}

abbrev of_peer : ℕ → Entry → PeerEntry
of_peer peer e = record { peer = peer; entry = e }

head_of : (es : List Entry) (k : ℕ) (e : Entry) → slice_get es k ≡ Some e → drop k es ≡ e ∷ drop (suc k) es
head_of [] k e got = cc
head_of (x ∷ es) zero e got = let same : x ≡ e = cc in ap (λ y. y ∷ es) same
head_of (x ∷ es) (suc k) e got = head_of es k e got

is_false : (b : Bool) → (b ≡ true → ⊥) → b ≡ false
is_false true not = absurd (not refl)
is_false false not = refl

-- a trace of this peer, or there is none
nobody_here : (x : Traced) (ts : List Traced) (i : ℕ) → (x.peer ≡ i → ⊥)
    → ((t : ℕ) (trace : Traced) → slice_get ts t ≡ Some trace → trace.peer ≡ i → ⊥)
    → (t : ℕ) (trace : Traced) → slice_get (x ∷ ts) t ≡ Some trace → trace.peer ≡ i → ⊥
nobody_here x ts i not none zero trace got is =
    let same : x ≡ trace = cc in not (ap (λ (y : Traced). y.peer) same ∙ is)
nobody_here x ts i not none (suc t) trace got is = none t trace got is

pub trace_of : (ts : List Traced) (i : ℕ)
    → ((t : ℕ) × (trace : Traced) × (slice_get ts t ≡ Some trace) × (trace.peer ≡ i))
    ⊎ ((t : ℕ) (trace : Traced) → slice_get ts t ≡ Some trace → trace.peer ≡ i → ⊥)
trace_of [] i = inr (λ t trace got is. absurd (let g : slice_get [] t ≡ Some trace = got in cc))
trace_of (x ∷ ts) i =
    elim (same_or_not x.peer i) [
      | inl is ↦ inl (0, x, refl, is)
      | inr not ↦ elim (trace_of ts i) [
        | inl f ↦ inl (suc f.0, f.1, f.2, f.3)
        | inr none ↦ inr (nobody_here x ts i not none)
      ]
    ]

-- ---- the entries of an order

module _ (ts : List Traced) where
  -- the entries that an order names
  abbrev pub woven : (from order to : List ℕ) → Reaches ts from order to → List PeerEntry
  woven from [] to h = []
  woven from (t ∷ order) to h = of_peer h.0.1.0.peer h.0.0 ∷ woven (one_more from t) order to h.1

  pub are_woven : (from order to : List ℕ) (h : Reaches ts from order to) → AreWoven ts from order (woven from order to h)
  are_woven from [] to h = refl
  are_woven from (t ∷ order) to h = (
    h.0.1.0,
    h.0.0,
    woven (one_more from t) order to h.1,
    h.0.1.1,
    h.0.1.2,
    refl,
    are_woven (one_more from t) order to h.1,
  )

  more_fits : (from : List ℕ) (t : ℕ) → length ts ≤ length from → length ts ≤ length (one_more from t)
  more_fits from t fits = omega (arith, fits, length-set from t (slice_index from t + 1))

  -- ---- each packet was sent before it is delivered

  abbrev AreSent : List ℕ → List Packet → Type 0
  AreSent from sent = (q : List ℕ) → Sent ts from q → (p : Packet) × Contains sent p × (p.bytes ≡ q)

  is_sent : (ev : Event) (sent : List Packet)
      → ((q : List ℕ) → ev ≡ event.Deliver q → (p : Packet) × Contains sent p × (p.bytes ≡ q)) → IsSent sent ev
  is_sent (event.Call call) sent f = tt
  is_sent (event.Tick now) sent f = tt
  is_sent (event.Deliver q) sent f = f q refl
  is_sent (event.Resume reader) sent f = tt

  more_sent : (from : List ℕ) (sent : List Packet) (t : ℕ) (trace : Traced) (e : Entry) → length ts ≤ length from
      → slice_get ts t ≡ Some trace → slice_get trace.entries (slice_index from t) ≡ Some e → AreSent from sent
      → AreSent (one_more from t) (sent ++ e.output.packets)
  more_sent from sent t trace e fits got next known q s =
      let here = slice_get_within ts t trace got in
      let inside : t < length from = omega (arith, here, fits) in
      ⊎_elim
      (λ (o : Sent ts from q). let k = known q o in (k.0, Contains-append_left sent e.output.packets k.0 k.1, k.2))
      (λ (n : Sends e q). (n.1, Contains-append_right sent e.output.packets n.1 (n.0, n.2, n.3), n.4))
      ((sends_more ts from t e q inside (trace, got, next)).0 s)

  honest : (from order to : List ℕ) (h : Reaches ts from order to) (sent : List Packet) → length ts ≤ length from
      → AreSent from sent → AreHonest sent (woven from order to h)
  honest from [] to h sent fits known = tt
  honest from (t ∷ order) to h sent fits known = (
    is_sent h.0.0.event sent (λ q is. known q (h.0.2 q is)),
    honest (one_more from t) order to h.1 (sent ++ h.0.0.output.packets) (more_fits from t fits)
        (more_sent from sent t h.0.1.0 h.0.0 fits h.0.1.1 h.0.1.2 known),
  )

  -- ---- the peers of the entries

  are_of : (n : ℕ) → ((t : ℕ) (trace : Traced) → slice_get ts t ≡ Some trace → (1 ≤ trace.peer) × (trace.peer ≤ n))
      → (from order to : List ℕ) (h : Reaches ts from order to) → AreOf n (woven from order to h)
  are_of n within from [] to h = tt
  are_of n within from (t ∷ order) to h =
      let w = within t h.0.1.0 h.0.1.1 in (w.0, w.1, are_of n within (one_more from t) order to h.1)

  -- ---- the entries of one trace are those of its peer

  module _ (apart : AreApart ts) (t : ℕ) (trace : Traced) (got : slice_get ts t ≡ Some trace) where
    own : (from order to : List ℕ) (h : Reaches ts from order to) → AllPlaced ts to → length ts ≤ length from
        → entries_at trace.peer (woven from order to h) ≡ drop (slice_index from t) trace.entries
    own from [] to h all fits =
        let end = all t trace got in
        sym (drop_all (slice_index from t) trace.entries
        (let same = ap (λ (d : List ℕ). slice_index d t) h in omega (arith, end, same)))
    own from (u ∷ order) to h all fits =
        let other : Traced = h.0.1.0 in
        let e : Entry = h.0.0 in
        let first : PeerEntry = of_peer other.peer e in
        let rest : List PeerEntry = woven (one_more from u) order to h.1 in
        let later : entries_at trace.peer rest ≡ drop (slice_index (one_more from u) t) trace.entries =
        own (one_more from u) order to h.1 all (more_fits from u fits) in
        elim (same_or_not u t) [
          | inl is ↦
              let there : slice_get ts t ≡ Some other = ap (slice_get ts) (sym is) ∙ h.0.1.1 in
              let same : other ≡ trace = let g = got in cc in
              let here = slice_get_within ts t trace got in
              let count : slice_index (one_more from u) t ≡ suc (slice_index from t) =
              ap (λ (x : ℕ). slice_index (one_more from x) t) is
              ∙ count_set from t (slice_index from t + 1) (omega (arith, here, fits)) ∙ add-one (slice_index from t) in
              let next : slice_get trace.entries (slice_index from t) ≡ Some e =
              ap (λ (x : Traced). slice_get x.entries (slice_index from t)) (sym same)
              ∙ ap (λ (x : ℕ). slice_get other.entries (slice_index from x)) (sym is) ∙ h.0.1.2 in
              let peer : other.peer ≡ trace.peer = ap (λ (x : Traced). x.peer) same in
              entries_own first rest trace.peer (other.peer == trace.peer) refl (eq-eqb other.peer trace.peer peer)
              ∙ ap (λ (xs : List Entry). e ∷ xs)
              (later ∙ ap (λ (k : ℕ). drop k trace.entries) count)
              ∙ sym (head_of trace.entries (slice_index from t) e next)
          | inr ne ↦
              let not : (other.peer == trace.peer) ≡ true → ⊥ =
              λ yes. ne (apart u t other trace h.0.1.1 got (eqb-true other.peer trace.peer yes)) in
              entries_other first rest trace.peer (is_false (other.peer == trace.peer) not)
              ∙ later
              ∙ ap (λ (k : ℕ). drop k trace.entries) (set_other from u t (slice_index from u + 1) (λ q. ne (sym q)))
        ]

  none_of : (i : ℕ) → ((t : ℕ) (trace : Traced) → slice_get ts t ≡ Some trace → trace.peer ≡ i → ⊥)
      → (from order to : List ℕ) (h : Reaches ts from order to) → entries_at i (woven from order to h) ≡ []
  none_of i nobody from [] to h = refl
  none_of i nobody from (t ∷ order) to h =
      entries_other (of_peer h.0.1.0.peer h.0.0) (woven (one_more from t) order to h.1) i
      (is_false (h.0.1.0.peer == i) (λ yes. nobody t h.0.1.0 h.0.1.1 (eqb-true h.0.1.0.peer i yes)))
      ∙ none_of i nobody (one_more from t) order to h.1

  histories : (config : Config) (tests : AllTests) (start : WorldState) → AreApart ts → AreHistories config tests start ts
      → (order to : List ℕ) (h : Reaches ts (none_placed ts) order to) → AllPlaced ts to
      → HaveHistories (roster_of config) tests start (woven (none_placed ts) order to h)
  histories config tests start apart given order to h all peer within =
      let es : List PeerEntry = woven (none_placed ts) order to h in
      let fits : length ts ≤ length (none_placed ts) = omega (arith, length-replicate {A = ℕ} (length ts) 0) in
      elim (trace_of ts peer) [
        | inl f ↦
            let g = given f.0 f.1 f.2 in
            let all_of : entries_at f.1.peer es ≡ f.1.entries =
            own apart f.0 f.1 f.2 (none_placed ts) order to h all fits
            ∙ ap (λ (k : ℕ). drop k f.1.entries) (zeros (length ts) f.0) in
            subst (λ (i : ℕ). (last : Peer) × IsHistory (roster_of config) (tests i) (peer_at start i) (entries_at i es) last) f.3 (
              g.1.0,
              subst (λ (xs : List Entry). IsHistory (roster_of config) (tests f.1.peer) (peer_at start f.1.peer) xs g.1.0)
                  (sym all_of) g.1.1,
            )
        | inr none ↦ (
          peer_at start peer,
          subst (λ (xs : List Entry). IsHistory (roster_of config) (tests peer) (peer_at start peer) xs (peer_at start peer))
              (sym (none_of peer none (none_placed ts) order to h)) refl,
        )
      ]

-- ---- the opening

opens_alike : (config : Config) (peer filters : ℕ) (places : Places) → AlikeParts (opening_peer config peer).part
    (opened config peer filters places).part
opens_alike config peer filters places =
    alike_by (opening_peer config peer).part (opened config peer filters places).part refl refl refl

record SamePeer (old new : Peer) : Type 0 where
  number : new.number ≡ old.number
  parts : AlikeParts old.part new.part
  known : new.known ≡ old.known
  delivered : new.delivered ≡ old.delivered

same_peer : (p : Peer) → SamePeer p p
same_peer p = record { number = refl; parts = parts_same p.part; known = refl; delivered = refl }

opens_peer : (config : Config) (start : WorldState) → IsOpening config start → (p : ℕ)
    → SamePeer (peer_at (opening_world config) p) (peer_at start p)
opens_peer config start o zero = same_peer no_peer
opens_peer config start o (suc i) =
    elim (below_or_not i (length start.peers)) [
      | inl lt ↦
          let e = o.each (suc i) (omega arith, omega (arith, lt)) in
          subst (λ (p : Peer). SamePeer (peer_at (opening_world config) (suc i)) p) (sym e.2) (record {
            number = refl;
            parts = opens_alike config (suc i) e.0 e.1;
            known = refl;
            delivered = refl;
          })
      | inr ge ↦
          let none : peer_at start (suc i) ≡ no_peer = get_or_past start.peers i no_peer ge in
          let too : peer_at (opening_world config) (suc i) ≡ no_peer =
          get_or_past (opening_world config).peers i no_peer (let c = o.count in omega (arith, ge, c)) in
          subst (λ (p : Peer). SamePeer (peer_at (opening_world config) (suc i)) p) (too ∙ sym none)
          (same_peer (peer_at (opening_world config) (suc i)))
    ]

pub opening_sound : (config : Config) (start : WorldState) → IsOpening config start → Sound (roster_of config) start
opening_sound config start o =
    sound_beside (roster_of config) (opening_world config) start (record {
      count = o.count;
      number = λ p. (opens_peer config start o p).number;
      parts = λ p. (opens_peer config start o p).parts;
      known = λ p. (opens_peer config start o p).known;
      delivered = λ p. (opens_peer config start o p).delivered;
      sent = o.sent;
    }) (opens_sound config)

-- ---- the run

pub runs_histories : (ts : List Traced) (order : List ℕ) → IsHonest ts order → RunsHistories ts order
runs_histories ts order whole config tests start opens apart given =
    let to : List ℕ = whole.0 in
    let h : Reaches ts (none_placed ts) order to = whole.1 in
    let es : List PeerEntry = woven ts (none_placed ts) order to h in
    let fits : length ts ≤ length (none_placed ts) = omega (arith, length-replicate {A = ℕ} (length ts) 0) in
    let of : AreOf (length start.peers) es =
    are_of ts (length start.peers) (λ t trace got. (given t trace got).0) (none_placed ts) order to h in
    let sent : AreHonest start.sent es =
    honest ts (none_placed ts) order to h start.sent fits
    (λ q s. absurd (let lt = s.3.2 in omega (arith, lt, zeros (length ts) s.0))) in (
      es,
      are_woven ts (none_placed ts) order to h,
      weaves (roster_of config) tests start es (opening_sound config start opens) of sent
          (histories ts config tests start apart given order to h whole.2),
    )
