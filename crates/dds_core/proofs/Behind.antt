-- Peers from a number on: before them stand as many peers without ends as there are numbers before theirs. So they are a
-- part of each list of peers that has them under their numbers.
use Rattle.std.proofs.Common.{◌≡◌, ◌⊎◌, ℕ, zero, suc, ◌+◌, ◌-◌, ◌≤◌, true, Some, List, [], ◌∷◌, refl, ap, sym, ◌∙◌, subst, inl, inr, ⊎_elim, arith, eq-eqb, slice_get}
use Rattle.std.proofs.lemmas.Option.{same_Some}
use Rattle.dds_base.specs.declared.config.Config.{Config}
use Rattle.dds_base.specs.declared.config.PeerConfig.{PeerConfig}
use Rattle.dds_base.specs.declared.config.ReaderConfig.{ReaderConfig}
use Rattle.dds_base.specs.declared.config.WriterConfig.{WriterConfig}
use Rattle.dds_base.specs.declared.endpoint.Endpoint.{Endpoint}
use Rattle.dds_base.specs.declared.guid.EntityId.{EntityId}
use Rattle.dds_base.specs.declared.guid.GuidPrefix.{GuidPrefix}
use Rattle.dds_base.specs.Checked.{same_prefix, unknown_prefix}
use Rattle.dds_machine.specs.Opening.{reader_names, writer_names}
use Rattle.dds_machine.specs.Part.{Name, Names}
use Rattle.dds_protocol.specs.Claims.{IsNumbered, IsReader, IsWriter}
use Rattle.dds_protocol.specs.Roster.{IsRoster, Roster, roster_of}
use Rattle.dds_protocol.proofs.Listed.{StandsIn, lists_both, lists_reader, lists_writer, matched_is, prefix_is, reader_is, reliable_is, writer_is}
use Rattle.dds_ends.proofs.Numbered.{IsRest}
use Rattle.dds_core.specs.Identity.{AreAllNamed, IsWithin}
use Rattle.dds_core.specs.OpeningEnds.{HasFrom}
use Rattle.dds_core.proofs.NamesOpened.{all_are_named, all_named}

-- a peer without ends
abbrev nobody : PeerConfig
nobody = record { prefix = unknown_prefix; writers = []; readers = [] }

-- these, behind so many of them
abbrev behind : ℕ → List PeerConfig → List PeerConfig
behind zero peers = peers
behind (suc n) peers = nobody ∷ behind n peers

-- these, the first of which has this number
abbrev pub from_on : ℕ → List PeerConfig → Config
from_on first peers = record { peers = behind (first - 1) peers }

-- ---- where they stand

get_behind : (n i : ℕ) (peers : List PeerConfig) → slice_get (behind n peers) (n + i) ≡ slice_get peers i
get_behind zero i peers = let same : 0 + i ≡ i = omega arith in ap (λ (k : ℕ). slice_get peers k) same
get_behind (suc n) i peers =
    let same : suc n + i ≡ suc (n + i) = omega arith in
    ap (λ (k : ℕ). slice_get (behind (suc n) peers) k) same ∙ get_behind n i peers

-- what stands there has no ends, or is one of them
where_behind : (n k : ℕ) (peers : List PeerConfig) (p : PeerConfig) → slice_get (behind n peers) k ≡ Some p
    → (nobody ≡ p) ⊎ ((i : ℕ) × (k ≡ n + i) × (slice_get peers i ≡ Some p))
where_behind zero k peers p at = inr (k, omega arith, at)
where_behind (suc n) zero peers p at = inl (same_Some nobody p at)
where_behind (suc n) (suc k) peers p at =
    ⊎_elim (λ e. inl e) (λ f. let is = f.1 in inr (f.0, omega (arith, is), f.2)) (where_behind n k peers p at)

pub rest_from : (first : ℕ) (peers : List PeerConfig) → 1 ≤ first → IsRest (from_on first peers).peers first peers
rest_from first peers low = record {
  low = low;
  there = λ j x at.
      let same : first - 1 + j ≡ first + j - 1 = omega (arith, low) in
      subst (λ (k : ℕ). slice_get (behind (first - 1) peers) k ≡ Some x) same (get_behind (first - 1) j peers ∙ at);
}

-- ---- the names of their ends

module _ (names : ℕ → List PeerConfig → List Name)
    (step : (n : ℕ) (peers : List PeerConfig) → names n (nobody ∷ peers) ≡ names (n + 1) peers) where
  names_behind : (m n : ℕ) (peers : List PeerConfig) → names m (behind n peers) ≡ names (m + n) peers
  names_behind m zero peers = let same : m ≡ m + 0 = omega arith in ap (λ (k : ℕ). names k peers) same
  names_behind m (suc n) peers =
      let same : m + 1 + n ≡ m + suc n = omega arith in
      step m (behind n peers) ∙ (names_behind (m + 1) n peers ∙ ap (λ (k : ℕ). names k peers) same)

  names_from : (first : ℕ) (peers : List PeerConfig) → 1 ≤ first
      → names 1 (from_on first peers).peers ≡ names first peers
  names_from first peers low =
      let same : 1 + (first - 1) ≡ first = omega (arith, low) in
      names_behind 1 (first - 1) peers ∙ ap (λ (k : ℕ). names k peers) same

-- the names of all ends of these peers
abbrev pub named_from : ℕ → List PeerConfig → Names
named_from first peers = record { writers = writer_names first peers; readers = reader_names first peers }

pub are_named_from : (first : ℕ) (peers : List PeerConfig) → 1 ≤ first
    → AreAllNamed (roster_of (from_on first peers)) (named_from first peers)
are_named_from first peers low =
    let all : List PeerConfig = (from_on first peers).peers in
    let same : all_named all ≡ named_from first peers =
    ap (λ (ns : List Name). record { writers = ns; readers = reader_names 1 all })
    (names_from writer_names (λ n ps. refl) first peers low)
    ∙ ap (λ (ns : List Name). record { writers = writer_names first peers; readers = ns })
    (names_from reader_names (λ n ps. refl) first peers low) in
    subst (λ (ns : Names). AreAllNamed (roster_of (from_on first peers)) ns) same
    (all_are_named (from_on first peers))

-- ---- whoever has them under their numbers

some_writer : (p : PeerConfig) (number : ℕ) (w : WriterConfig) → IsNumbered p.writers number w → nobody ≡ p → ⊥
some_writer p number w at e =
    none (number - 1) (subst (λ (q : PeerConfig). slice_get q.writers (number - 1) ≡ Some w) (sym e) at.1)
  where
    none : (k : ℕ) → slice_get [] k ≡ Some w → ⊥
    none k h = absurd cc

some_reader : (p : PeerConfig) (number : ℕ) (r : ReaderConfig) → IsNumbered p.readers number r → nobody ≡ p → ⊥
some_reader p number r at e =
    none (number - 1) (subst (λ (q : PeerConfig). slice_get q.readers (number - 1) ≡ Some r) (sym e) at.1)
  where
    none : (k : ℕ) → slice_get [] k ≡ Some r → ⊥
    none k h = absurd cc

module _ (all : Config) (first : ℕ) (peers : List PeerConfig) (low : 1 ≤ first) (has : HasFrom all first peers) where
  -- one with an end has its number there too
  numbered_there : (n : ℕ) (p : PeerConfig) → (nobody ≡ p → ⊥) → IsNumbered (from_on first peers).peers n p
      → IsNumbered all.peers n p
  numbered_there n p some at =
      ⊎_elim (λ e. absurd (some e))
      (λ f.
      let low_n = at.0 in
      let is = f.1 in
      let same : first + f.0 ≡ n = omega (arith, low, low_n, is) in
      subst (λ (k : ℕ). IsNumbered all.peers k p) same (has f.0 p f.2))
      (where_behind (first - 1) (n - 1) peers p at.1)

  writer_there : (e : Endpoint) (w : WriterConfig)
      → (s : StandsIn (λ (p : PeerConfig). p.writers) (from_on first peers).peers e w)
      → IsNumbered all.peers e.peer s.peer
  writer_there e w s = numbered_there e.peer s.peer (some_writer s.peer e.number w s.at_end) s.at_peer

  reader_there : (e : Endpoint) (r : ReaderConfig)
      → (s : StandsIn (λ (p : PeerConfig). p.readers) (from_on first peers).peers e r)
      → IsNumbered all.peers e.peer s.peer
  reader_there e r s = numbered_there e.peer s.peer (some_reader s.peer e.number r s.at_end) s.at_peer

  prefix_there : (n : ℕ) (p : PeerConfig) → IsNumbered (from_on first peers).peers n p → IsNumbered all.peers n p
      → (roster_of all).prefix n ≡ (roster_of (from_on first peers)).prefix n
  prefix_there n p here there = prefix_is all n p there ∙ sym (prefix_is (from_on first peers) n p here)

  writer_in : (w : Endpoint) (entity : EntityId) → (roster_of (from_on first peers)).writers w ≡ Some entity
      → IsWriter (roster_of all) ((roster_of (from_on first peers)).prefix w.peer) entity w
  writer_in w entity at =
      let x = lists_writer (from_on first peers) w entity at in
      let s = x.stands in
      let there = writer_there w x.end s in
      record {
        same_prefix = prefix_there w.peer s.peer s.at_peer there;
        at_writer = writer_is all w s.peer x.end there s.at_end ∙ ap (λ (e : EntityId). Some e) x.same_entity;
      }

  reader_in : (r : Endpoint) (entity : EntityId) → (roster_of (from_on first peers)).readers r ≡ Some entity
      → IsReader (roster_of all) ((roster_of (from_on first peers)).prefix r.peer) entity r
  reader_in r entity at =
      let x = lists_reader (from_on first peers) r entity at in
      let s = x.stands in
      let there = reader_there r x.end s in
      record {
        same_prefix = prefix_there r.peer s.peer s.at_peer there;
        at_reader = reader_is all r s.peer x.end there s.at_end ∙ ap (λ (e : EntityId). Some e) x.same_entity;
      }

  reliable_in : (r : Endpoint) (entity : EntityId) → (roster_of (from_on first peers)).readers r ≡ Some entity
      → (roster_of all).is_reliable r ≡ (roster_of (from_on first peers)).is_reliable r
  reliable_in r entity at =
      let x = lists_reader (from_on first peers) r entity at in
      let s = x.stands in
      reliable_is all r s.peer x.end (reader_there r x.end s) s.at_end
      ∙ sym (reliable_is (from_on first peers) r s.peer x.end s.at_peer s.at_end)

  both_in : (w r : Endpoint) → (roster_of (from_on first peers)).are_matched w r ≡ true
      → (roster_of all).are_matched w r ≡ true
  both_in w r matched =
      let b = lists_both (from_on first peers) w r matched in
      let s = b.at_writer in
      let u = b.at_reader in
      matched_is all w r s.peer u.peer b.writer b.reader (writer_there w b.writer s) s.at_end
      (reader_there r b.reader u) u.at_end
      ∙ eq-eqb b.writer.topic b.reader.topic b.one_topic

  -- their roster is a part of its roster
  pub within_all : IsWithin (roster_of (from_on first peers)) (roster_of all)
  within_all = record { writers = writer_in; readers = reader_in; reliable = reliable_in; matched = both_in }

-- a part of a roster is one
pub part_is_roster : (part whole : Roster) → IsWithin part whole → IsRoster whole → IsRoster part
part_is_roster part whole is_within good = record {
  writers = record {
    apart = λ a b entity same at_a at_b.
        let x = is_within.writers a entity at_a in
        let y = is_within.writers b entity at_b in
        good.writers.apart a b entity (x.same_prefix ∙ (same ∙ sym y.same_prefix)) x.at_writer y.at_writer;
    known = λ a entity at.
        let x = is_within.writers a entity at in
        ap (λ (p : GuidPrefix). same_prefix p unknown_prefix) (sym x.same_prefix)
        ∙ good.writers.known a entity x.at_writer;
  };
  readers = record {
    apart = λ a b entity same at_a at_b.
        let x = is_within.readers a entity at_a in
        let y = is_within.readers b entity at_b in
        good.readers.apart a b entity (x.same_prefix ∙ (same ∙ sym y.same_prefix)) x.at_reader y.at_reader;
    known = λ a entity at.
        let x = is_within.readers a entity at in
        ap (λ (p : GuidPrefix). same_prefix p unknown_prefix) (sym x.same_prefix)
        ∙ good.readers.known a entity x.at_reader;
  };
  kinds = λ a entity at. good.kinds a entity (is_within.readers a entity at).at_reader;
}
