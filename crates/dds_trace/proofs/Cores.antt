-- An honest order of histories of cores is a run of the machine, from the opening with their filters and listeners.
use Rattle.std.proofs.Common.{◌≡◌, ℕ, zero, suc, ◌+◌, ◌<◌, ◌⊎◌, Bool, List, [], ◌∷◌, Some, length, get_or, refl, sym, ap, ◌∙◌, subst, inl, inr, arith}
use Rattle.std.specs.Prelude.{slice_get}
use Rattle.dds_base.specs.declared.config.Config.{Config}
use Rattle.dds_base.specs.declared.key.Key.{Key}
use Rattle.dds_conditions.specs.Filtered.{tests_of}
use Rattle.dds_notices.specs.declared.notice.Notice.{Notice}
use Rattle.dds_notices.specs.Listeners.{ByEntity, Places}
use Rattle.dds_machine.specs.Machine.{AllTests}
use Rattle.dds_machine.specs.Numbered.{HasNumber}
use Rattle.dds_protocol.specs.Opening.{opening_world}
use Rattle.dds_protocol.specs.Peer.{Peer, no_peer}
use Rattle.dds_protocol.specs.World.{WorldState, peer_at}
use Rattle.dds_protocol.specs.Roster.{roster_of}
use Rattle.dds_core.specs.Listening.{CoreKept}
use Rattle.dds_core.specs.Opening.{opening_peer}
use Rattle.dds_trace.specs.Entries.{Traced}
use Rattle.dds_trace.specs.History.{IsHistory, IsHistoryIn, IsHistoryOf, emptied, opened}
use Rattle.dds_trace.specs.Woven.{AreApart, AreHistories, AreHistoriesOf, HonestOrdersRun, IsOpening, MeetByConfig}
use Rattle.dds_trace.proofs.Adding.{first_of_all}
use Rattle.dds_trace.proofs.Interleaved.{runs_histories, trace_of}

-- ---- peers with other filters and places of listeners

abbrev Beside : Type 0
Beside = ℕ → (ℕ × Places)

abbrev with_beside : Peer → ℕ × Places → Peer
with_beside p b = record p {
  part = record p.part { dds = record p.part.dds { watch = record p.part.dds.watch { filters = b.0 }; listeners = b.1 } };
}

abbrev all_with : Beside → ℕ → List Peer → List Peer
all_with f k [] = []
all_with f k (p ∷ ps) = with_beside p (f (suc k)) ∷ all_with f (suc k) ps

as_many : (f : Beside) (k : ℕ) (ps : List Peer) → length (all_with f k ps) ≡ length ps
as_many f k [] = refl
as_many f k (p ∷ ps) = ap suc (as_many f (suc k) ps)

with_at : (f : Beside) (k : ℕ) (ps : List Peer) (i j : ℕ) → i < length ps → j ≡ suc (k + i)
    → get_or (all_with f k ps) i no_peer ≡ with_beside (get_or ps i no_peer) (f j)
with_at f k [] i j lt is = absurd (omega (arith, lt))
with_at f k (p ∷ ps) zero j lt is =
    ap (λ (n : ℕ). with_beside p (f n)) (let e : suc k ≡ j = omega (arith, is) in e)
with_at f k (p ∷ ps) (suc i) j lt is = with_at f (suc k) ps i j (omega (arith, lt)) (omega (arith, is))

abbrev world_with : Config → Beside → WorldState
world_with config f = record { peers = all_with f 0 (opening_world config).peers; sent = [] }

opens_at : (config : Config) (f : Beside) (n : ℕ) → HasNumber (opening_world config).peers n
    → peer_at (world_with config f) n ≡ opened config n (f n).0 (f n).1
opens_at config f zero within = absurd (let low = within.0 in omega (arith, low))
opens_at config f (suc i) within =
    with_at f 0 (opening_world config).peers i (suc i) (let high = within.1 in omega (arith, high)) (omega arith)

is_opening : (config : Config) (f : Beside) → IsOpening config (world_with config f)
is_opening config f = record {
  sent = refl;
  count = as_many f 0 (opening_world config).peers;
  each = λ n within. (
    (f n).0,
    (f n).1,
    opens_at config f n
        (let low = within.0 in let high = within.1 in let many = as_many f 0 (opening_world config).peers in
        (omega (arith, low), omega (arith, high, many))),
  );
}

-- ---- the cores

module _ {F L : Type 0} (meaning : F → Key → List ℕ → Bool) (notices : L → List Notice) (capacity : L → ℕ)
    (becomes : L → Notice → L → Type 0) (given : ℕ → ByEntity L) (config : Config) (cores : ℕ → CoreKept F L) (ts : List Traced) where
  abbrev Found : ℕ → Type 0
  Found n = ((t : ℕ) × (trace : Traced) × (slice_get ts t ≡ Some trace) × (trace.peer ≡ n))
      ⊎ ((t : ℕ) (trace : Traced) → slice_get ts t ≡ Some trace → trace.peer ≡ n → ⊥)

  abbrev Given : Type 0
  Given = AreHistoriesOf meaning notices capacity becomes given config cores ts

  -- of the roster of the configuration
  abbrev in_own : Given → MeetByConfig config ts → (t : ℕ) (trace : Traced) → slice_get ts t ≡ Some trace
      → IsHistoryIn meaning notices capacity becomes (given trace.peer) config (roster_of config) trace.peer
      trace.entries (cores trace.peer)
  in_own known met t trace got =
      let h = (known t trace got).1 in h.in_rosters config (first_of_all config) h.good (met t trace got)

  abbrev beside_of : Given → MeetByConfig config ts → (n : ℕ) → Found n → ℕ × Places
  beside_of known met n (inl f) =
      (length (cores n).filtered.filters, emptied (in_own known met f.0 f.1 f.2).peer.part.dds.listeners)
  beside_of known met n (inr none) = (0, (opening_peer config n).part.dds.listeners)

  abbrev start_of : Given → MeetByConfig config ts → WorldState
  start_of known met = world_with config (λ n. beside_of known met n (trace_of ts n))

  -- where a trace is found it is the one
  begins_so : (known : Given) (met : MeetByConfig config ts) (apart : AreApart ts) (t : ℕ) (trace : Traced)
      → slice_get ts t ≡ Some trace → (found : Found trace.peer)
      → (h : IsHistoryIn meaning notices capacity becomes (given trace.peer) config (roster_of config) trace.peer
      trace.entries (cores trace.peer))
      × (beside_of known met trace.peer found
      ≡ (length (cores trace.peer).filtered.filters, emptied h.peer.part.dds.listeners))
  begins_so known met apart t trace got (inr none) = absurd (none t trace got refl)
  begins_so known met apart t trace got (inl f) =
      let at : f.0 ≡ t = apart f.0 t f.1 trace f.2 got f.3 in
      let there : slice_get ts t ≡ Some f.1 = ap (slice_get ts) (sym at) ∙ f.2 in
      let same : f.1 ≡ trace = let g = got in cc in
      let b : ℕ × Places = beside_of known met trace.peer (inl f) in
      let P : Traced → Type 0 = λ x. (h : IsHistoryIn meaning notices capacity becomes (given x.peer) config
      (roster_of config) x.peer x.entries (cores x.peer))
      × (b ≡ (length (cores trace.peer).filtered.filters, emptied h.peer.part.dds.listeners)) in
      let here : P f.1 = (in_own known met f.0 f.1 f.2, refl) in
      subst P same here

  pub honest_orders_run : HonestOrdersRun meaning notices capacity becomes given config cores ts
  honest_orders_run order apart known met honest =
      let f : Beside = λ n. beside_of known met n (trace_of ts n) in
      let start : WorldState = start_of known met in
      let tests : AllTests = λ n. tests_of meaning (cores n).filtered.filters in
      let begin : (t : ℕ) (trace : Traced) → slice_get ts t ≡ Some trace
      → (h : IsHistoryIn meaning notices capacity becomes (given trace.peer) config (roster_of config) trace.peer
      trace.entries (cores trace.peer))
      × (peer_at start trace.peer
      ≡ opened config trace.peer (length (cores trace.peer).filtered.filters) (emptied h.peer.part.dds.listeners)) =
      λ t trace got.
      let b = begins_so known met apart t trace got (trace_of ts trace.peer) in (
        b.0,
        opens_at config f trace.peer (known t trace got).0
            ∙ ap (λ (x : ℕ × Places). opened config trace.peer x.0 x.1) b.1,
      ) in
      let many : length start.peers ≡ length (opening_world config).peers =
      as_many f 0 (opening_world config).peers in
      let histories : AreHistories config tests start ts = λ t trace got.
      let b = begin t trace got in
      let within = (known t trace got).0 in
      let low = within.0 in
      let high = within.1 in (
        (omega (arith, low), omega (arith, high, many)),
        (b.0.peer, subst (λ (p : Peer). IsHistory (roster_of config) (tests trace.peer) p trace.entries b.0.peer) (sym b.1) b.0.history),
      ) in
      let r = runs_histories ts order honest config tests start (is_opening config f) apart histories in
      record {
        start = start;
        opens = is_opening config f;
        begins = λ t trace got. let b = begin t trace got in (b.0.peer, b.0.stands, b.1);
        es = r.0;
        are_woven = r.1;
        run = r.2;
      }
