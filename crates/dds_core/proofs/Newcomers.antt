-- A peer that comes to a network under some number: without filters and listeners, and nothing of it is known.
use Rattle.std.proofs.Common.{◌≡◌, ℕ, ℤ, zero, suc, ◌<◌, Bool, true, false, cond, List, [], ◌∷◌, Some, None, map, length, refl, ap, sym, ◌∙◌, subst, arith}
use Rattle.std.specs.Prelude.{nat_lt}
use Rattle.std.specs.Option.{option_map}
use Rattle.std.proofs.lemmas.Bool.Decides.{nat_tests}
use Rattle.std.proofs.lemmas.List.{length-map}
use Rattle.std.proofs.lemmas.Option.{same_Some}
use Rattle.dds_base.specs.declared.config.Config.{Config}
use Rattle.dds_base.specs.declared.config.PeerConfig.{PeerConfig}
use Rattle.dds_base.specs.declared.config.ReaderConfig.{ReaderConfig}
use Rattle.dds_base.specs.declared.endpoint.Endpoint.{Endpoint}
use Rattle.dds_notices.specs.declared.notice.Notice.{Notice}
use Rattle.dds_notices.specs.Listeners.{ByEntity, Places, Slotted, StandsFor as SlotsStandFor, nobody}
use Rattle.dds_notices.proofs.ListenerLaws.{nobody_stands}
use Rattle.dds_machine.specs.Numbered.{numbered}
use Rattle.dds_machine.specs.Opening.{coming_part, matched_writers, reader_from, writer_from}
use Rattle.dds_machine.specs.Part.{Part, WriterProxy, heard_of, own_proxies, row_of, same_endpoint}
use Rattle.dds_protocol.specs.Coming.{coming_peer}
use Rattle.dds_protocol.specs.Roster.{Roster, roster_of}
use Rattle.dds_protocol.proofs.OpenedPeers.{AreFresh, fresh_place, fresh_rows}
use Rattle.dds_core.specs.Filtering.{FilteredKept, StandsFor as FilteredStandsFor}
use Rattle.dds_core.specs.Kept.{PeerKept}
use Rattle.dds_core.specs.Listening.{CoreKept, StandsFor, no_listeners}
use Rattle.dds_core.specs.Opening.{InRostersAt}
use Rattle.dds_core.specs.Ruling.{IsSound}
use Rattle.dds_core.specs.Standing.{StandsFor as PeerStandsFor}

-- ---- without filters

pub comes_filtered : {F : Type 0} (kept : PeerKept) (filters : List F) (config : Config) (number : ℕ)
    → InRostersAt config number (λ roster p. PeerStandsFor kept roster (coming_peer number p)) → filters ≡ []
    → InRostersAt config number
    (λ roster p. FilteredStandsFor (record { peer = kept; filters = filters }) roster (coming_peer number p))
comes_filtered kept filters config number s none all p one good at =
    record { stands = s all p one good at; filters = ap (λ fs. length fs) (sym none) }

-- ---- nothing is known

rows_fresh : (number : ℕ) (p : PeerConfig) (r : ℕ) → AreFresh (own_proxies (coming_part number p) r)
rows_fresh number p zero = tt
rows_fresh number p (suc r) = each p.readers r
  where
    each : (rs : List ReaderConfig) (i : ℕ)
        → AreFresh (numbered (map (λ (c : ReaderConfig). matched_writers c.topic number (p ∷ [])) rs) (suc i) [])
    each [] i = tt
    each (c ∷ cs) zero = fresh_rows c.topic number (p ∷ [])
    each (c ∷ cs) (suc i) = each cs i

nothing_heard : (rows : List WriterProxy) (w : Endpoint) (count : ℤ) → AreFresh rows
    → heard_of rows w ≡ Some (Some count) → ⊥
nothing_heard [] w count f h = absurd cc
nothing_heard (p ∷ ps) w count f h =
    by (same_endpoint p.writer w) (λ e. nothing_heard ps w count f.2 e) h
  where
    by : (b : Bool) → (heard_of ps w ≡ Some (Some count) → ⊥)
        → option_map (λ (x : WriterProxy). x.heard)
        (cond b (Some p) (row_of (λ (x : WriterProxy). x.writer) ps w)) ≡ Some (Some count) → ⊥
    by true later e = let some = sym f.1 ∙ same_Some p.heard (Some count) e in absurd cc
    by false later e = later e

none_below : (n : ℕ) → nat_lt n 0 ≡ true → ⊥
none_below n e = let low : n < 0 = grind (arith, nat_tests) in absurd (omega (arith, low))

pub comes_sound_at : (roster : Roster) (number : ℕ) (p : PeerConfig) → IsSound roster (coming_peer number p)
comes_sound_at roster number p = record {
  place = λ w r n h. fresh_place (own_proxies (coming_part number p) r) w n (rows_fresh number p r) h;
  unknown = λ w r h. refl;
  claimed = λ w r.
      record {
        from = omega arith;
        change = λ n c from h. absurd cc;
        pass = λ n from h. absurd (none_below n h);
      };
  newest = λ w r has d count among h. let none = among.1 in absurd (omega (arith, none));
  heard = λ w r count h.
      absurd (nothing_heard (own_proxies (coming_part number p) r) w count (rows_fresh number p r) h);
  then = λ d r w among found. let none = among.1 in absurd (omega (arith, none));
}

-- ---- without listeners

module _ {F L : Type 0} (notices : L → List Notice) (capacity : L → ℕ) (becomes : L → Notice → L → Type 0) where
  comes_heard : (filtered : FilteredKept F) (listeners : Slotted L) (roster : Roster) (p : PeerConfig)
      (number writers readers : ℕ) → FilteredStandsFor filtered roster (coming_peer number p)
      → writers ≡ length filtered.peer.writers → readers ≡ length filtered.peer.readers
      → listeners ≡ nobody writers readers
      → StandsFor notices capacity becomes (no_listeners (coming_part number p))
      (record { filtered = filtered; listeners = listeners }) roster (coming_peer number p)
  comes_heard filtered listeners roster p number writers readers s w r none =
      let part : Part = coming_part number p in
      let of_writers : length part.rtps.writers ≡ writers = s.stands.writers.count ∙ sym w in
      let of_readers : length part.dds.readers ≡ readers = s.stands.readers.count ∙ sym r in
      let writers_are : length part.rtps.writers ≡ length p.writers =
      length-map p.writers (writer_from number (p ∷ [])) in
      let readers_are : length part.dds.readers ≡ length p.readers =
      length-map p.readers (reader_from number (p ∷ [])) in
      let opening : part.dds.listeners ≡ nobody writers readers =
      ap (λ (k : ℕ). nobody k (length p.readers)) (sym writers_are ∙ of_writers)
      ∙ ap (λ (k : ℕ). nobody writers k) (sym readers_are ∙ of_readers) in
      let given : no_listeners {L = L} part ≡ nobody writers readers =
      ap (λ (k : ℕ). nobody k (length part.dds.readers)) of_writers ∙ ap (λ (k : ℕ). nobody writers k) of_readers in
      record {
        stands = s;
        listeners = subst (λ (q : Places). SlotsStandFor notices capacity becomes (no_listeners part) listeners q)
            (sym opening)
            (subst (λ (g : ByEntity L). SlotsStandFor notices capacity becomes g listeners (nobody writers readers))
            (sym given)
            (subst (λ (l : Slotted L). SlotsStandFor notices capacity becomes (nobody writers readers) l
            (nobody writers readers)) (sym none)
            (nobody_stands notices capacity becomes writers readers)));
      }

  pub comes : (filtered : FilteredKept F) (listeners : Slotted L) (config : Config) (number writers readers : ℕ)
      → InRostersAt config number (λ roster p. FilteredStandsFor filtered roster (coming_peer number p))
      → writers ≡ length filtered.peer.writers → readers ≡ length filtered.peer.readers
      → listeners ≡ nobody writers readers
      → InRostersAt config number (λ roster p. StandsFor notices capacity becomes (no_listeners (coming_part number p))
      (record { filtered = filtered; listeners = listeners }) roster (coming_peer number p)
      × IsSound roster (coming_peer number p))
  comes filtered listeners config number writers readers s w r none all p one good at = (
    comes_heard filtered listeners (roster_of all) p number writers readers (s all p one good at) w r none,
    comes_sound_at (roster_of all) number p,
  )
