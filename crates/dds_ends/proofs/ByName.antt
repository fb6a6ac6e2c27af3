-- HEARTBEATs by name, one after the other, and the messages with them.
use Rattle.std.proofs.Common.{◌≡◌, ◌⊎◌, ⊎_elim, ℕ, ◌+◌, ◌<◌, ◌≤◌, ◌==◌, Bool, true, false, cond, ◌&&◌, List, [], ◌∷◌, ◌++◌, map, take, length, get_or, refl, ap, sym, ◌∙◌, subst, arith, append_assoc, append-nil, length-append}
use Rattle.std.specs.Prelude.{filter}
use Rattle.std.specs.List.{AllByRecursion}
use Rattle.std.proofs.lemmas.List.{take_more}
use Rattle.std.proofs.lemmas.List.Elements.{filter-append}
use Rattle.std.proofs.lemmas.List.Sums.{count_by_more_no, count_by_more_yes}
use Rattle.dds_base.specs.declared.endpoint.Endpoint.{Endpoint}
use Rattle.dds_base.specs.declared.guid.GuidPrefix.{GuidPrefix}
use Rattle.rtps_wire.specs.declared.submessage.Submessage.{Submessage}
use Rattle.rtps_wire.specs.declared.submessage.Submessage.TheVariants.{InfoDst}
use Rattle.rtps_wire.specs.Messages.{IsWritable}
use Rattle.rtps_wire.specs.Submessages.{IsSpellable, all_value_octets, value_octets}
use Rattle.rtps_wire.proofs.LengthLaws.{short_writable}
use Rattle.rtps_writer.specs.Standing.{Kept}
use Rattle.dds_machine.specs.Part.{Writer}
use Rattle.dds_protocol.specs.Contact.{Contact}
use Rattle.dds_protocol.specs.DueMessages.{is_told}
use Rattle.dds_ends.specs.declared.heartbeat.Beat.{Beat}
use Rattle.dds_ends.specs.declared.matching.ReaderName.{ReaderName}
use Rattle.dds_ends.specs.Beating.{AddsBare, AreReadersOf, ForEach, beat_for, beats_for, names_at, names_told}
use Rattle.dds_ends.proofs.Beating.{map_if, names_next, no_row}
use Rattle.dds_ends.proofs.FewAt.{is_at, one_if}
use Rattle.dds_ends.proofs.Joining.{no_name}
use Rattle.dds_ends.proofs.Replies.{both_octets, more_spells}

-- ---- one

-- one that has no value
pub bare_one : (s : Submessage) (old new : List Submessage) → IsSpellable s → value_octets s ≡ 0
    → new ≡ old ++ s ∷ [] → AddsBare 1 old new
bare_one s old new spells none is =
    let one : List Submessage = s ∷ [] in
    let count = length-append old one in
    let size = ap (λ (ss : List Submessage). length ss) is in
    let octets = both_octets old one in
    let sum = ap (λ (ss : List Submessage). all_value_octets ss) is in
    record {
      each = λ h.
          subst (λ (ss : List Submessage). AllByRecursion IsSpellable ss) (sym is) (more_spells old one (spells, tt) h);
      more = omega (arith, count, size);
      few = omega (arith, count, size);
      bare = omega (arith, octets, sum, none);
    }

-- ---- what was added so far

-- HEARTBEATs by name to those at a peer of the readers that are told so far, by the writer that is stood for, and by
-- what it knows of its readers
pub record Pushed (beat : Beat) (kept : Kept) (names : List ReaderName)
    (told : Writer → (Endpoint → Contact) → List ReaderName) (count peer : ℕ) (old new : List Submessage) : Type 0 where
  pub bare : AddsBare count old new
  pub adds : ForEach beat.due.first kept names
      (λ w answered. new ≡ old ++ beats_for beat w answered (told w answered) peer)

-- one more
pub pushed_one : (beat : Beat) (kept : Kept) (names : List ReaderName)
    (told more : Writer → (Endpoint → Contact) → List ReaderName) (count next peer : ℕ) (n : ReaderName)
    (old mid new : List Submessage) → count + 1 ≤ next → Pushed beat kept names told count peer old mid
    → AddsBare 1 mid new
    → ForEach beat.due.first kept names (λ w answered. new ≡ mid ++ beat_for beat w answered n ∷ [])
    → ForEach beat.due.first kept names
    (λ w answered. beats_for beat w answered (more w answered) peer
    ≡ beats_for beat w answered (told w answered) peer ++ beat_for beat w answered n ∷ [])
    → Pushed beat kept names more next peer old new
pushed_one beat kept names told more count next peer n old mid new past before one adds are =
    let first = before.bare in
    let longer = first.more in
    let few = first.few in
    let bare = first.bare in
    let then_longer = one.more in
    let then_few = one.few in
    let then_bare = one.bare in
    record {
      bare = record {
        each = λ h. one.each (first.each h);
        more = omega (arith, longer, then_longer);
        few = omega (arith, few, then_few, past);
        bare = omega (arith, bare, then_bare);
      };
      adds = λ w answered b.
          adds w answered b
          ∙ (ap (λ (ss : List Submessage). ss ++ beat_for beat w answered n ∷ []) (before.adds w answered b)
          ∙ (append_assoc old (beats_for beat w answered (told w answered) peer) (beat_for beat w answered n ∷ [])
          ∙ ap (λ (ss : List Submessage). old ++ ss) (sym (are w answered b))));
    }

-- one more that is told nothing
pub pushed_same : (beat : Beat) (kept : Kept) (names : List ReaderName)
    (told more : Writer → (Endpoint → Contact) → List ReaderName) (count next peer : ℕ)
    (old new : List Submessage) → count ≤ next → Pushed beat kept names told count peer old new
    → ForEach beat.due.first kept names
    (λ w answered. beats_for beat w answered (more w answered) peer ≡ beats_for beat w answered (told w answered) peer)
    → Pushed beat kept names more next peer old new
pushed_same beat kept names told more count next peer old new past before are =
    let few = before.bare.few in
    record {
      bare = record {
        each = before.bare.each;
        more = before.bare.more;
        few = omega (arith, few, past);
        bare = before.bare.bare;
      };
      adds = λ w answered b.
          before.adds w answered b ∙ ap (λ (ss : List Submessage). old ++ ss) (sym (are w answered b));
    }

-- how many of these readers are at a peer, with one more
pub names_at_next : (names : List ReaderName) (row peer : ℕ) → row < length names
    → names_at (take row names) peer + one_if (is_at peer (get_or names row no_name))
    ≤ names_at (take (row + 1) names) peer
names_at_next names row peer lt = by (is_at peer (get_or names row no_name)) refl
  where
    by : (b : Bool) → is_at peer (get_or names row no_name) ≡ b
        → names_at (take row names) peer + one_if b ≤ names_at (take (row + 1) names) peer
    by true is = let same = count_by_more_yes (is_at peer) names row no_name lt is in omega (arith, same)
    by false is = let same = count_by_more_no (is_at peer) names row no_name lt is in omega (arith, same)

-- ---- whom they are for

beats_last : (beat : Beat) (w : Writer) (answered : Endpoint → Contact) (ns : List ReaderName) (n : ReaderName)
    (peer : ℕ) (b : Bool) → (n.reader.peer == peer) ≡ b
    → beats_for beat w answered (ns ++ n ∷ []) peer
    ≡ beats_for beat w answered ns peer ++ cond b (beat_for beat w answered n ∷ []) []
beats_last beat w answered ns n peer b is =
    ap (λ (ms : List ReaderName). map (beat_for beat w answered) ms)
    (filter-append (λ (m : ReaderName). m.reader.peer == peer) ns (n ∷ [])
    ∙ ap (λ (c : Bool). filter (λ (m : ReaderName). m.reader.peer == peer) ns ++ cond c (n ∷ []) []) is)
    ∙ map_if (beat_for beat w answered) (filter (λ (m : ReaderName). m.reader.peer == peer) ns) n b

-- the readers that are told, of the rows before this one
abbrev pub told_before : List ReaderName → ℕ → Writer → (Endpoint → Contact) → List ReaderName
told_before names row w answered = names_told (is_told answered w) (take row w.readers) (take row names)

-- one more of the rows
pub more_told : (beat : Beat) (answered : Endpoint → Contact) (w : Writer) (names : List ReaderName)
    (row peer : ℕ) (a b : Bool) → AreReadersOf w names → row < length names
    → ((get_or names row no_name).reader.peer == peer) ≡ a → is_told answered w (get_or w.readers row no_row) ≡ b
    → beats_for beat w answered (told_before names (row + 1) w answered) peer
    ≡ beats_for beat w answered (told_before names row w answered) peer
    ++ cond (a && b) (beat_for beat w answered (get_or names row no_name) ∷ []) []
more_told beat answered w names row peer a b same lt there is =
    ap (λ (ns : List ReaderName). beats_for beat w answered ns peer)
    (names_next (is_told answered w) w names row same lt ∙ ap (λ (c : Bool). before ++ cond c (n ∷ []) []) is)
    ∙ by a b there
  where
    n : ReaderName
    n = get_or names row no_name

    before : List ReaderName
    before = told_before names row w answered

    none : beats_for beat w answered (before ++ []) peer ≡ beats_for beat w answered before peer ++ []
    none =
        ap (λ (ns : List ReaderName). beats_for beat w answered ns peer) (append-nil before)
        ∙ sym (append-nil (beats_for beat w answered before peer))

    by : (a b : Bool) → (n.reader.peer == peer) ≡ a
        → beats_for beat w answered (before ++ cond b (n ∷ []) []) peer
        ≡ beats_for beat w answered before peer ++ cond (a && b) (beat_for beat w answered n ∷ []) []
    by true true is = beats_last beat w answered before n peer true is
    by false true is = beats_last beat w answered before n peer false is
    by true false is = none
    by false false is = none

-- one that is elsewhere, or not told
pub same_told : (beat : Beat) (answered : Endpoint → Contact) (w : Writer) (names : List ReaderName) (row peer : ℕ)
    → AreReadersOf w names → row < length names
    → (((get_or names row no_name).reader.peer == peer) ≡ false)
    ⊎ (is_told answered w (get_or w.readers row no_row) ≡ false)
    → beats_for beat w answered (told_before names (row + 1) w answered) peer
    ≡ beats_for beat w answered (told_before names row w answered) peer
same_told beat answered w names row peer same lt either =
    more_told beat answered w names row peer _ _ same lt refl refl
    ∙ (⊎_elim
    (λ elsewhere. ap (λ (a : Bool). before ++ cond (a && is_told answered w (get_or w.readers row no_row)) one [])
    elsewhere)
    (λ not_so. ap (λ (b : Bool). before ++ cond (((get_or names row no_name).reader.peer == peer) && b) one []) not_so
    ∙ nothing ((get_or names row no_name).reader.peer == peer)) either
    ∙ append-nil before)
  where
    before : List Submessage
    before = beats_for beat w answered (told_before names row w answered) peer

    one : List Submessage
    one = beat_for beat w answered (get_or names row no_name) ∷ []

    nothing : (a : Bool) → before ++ cond (a && false) one [] ≡ before ++ []
    nothing true = refl
    nothing false = refl

-- ---- those of them all that are at a peer

-- one more of them is there
pub matched_one : (beat : Beat) (kept : Kept) (names matched : List ReaderName) (row peer : ℕ) (d : ReaderName)
    (old mid new : List Submessage) → row < length matched → ((get_or matched row d).reader.peer == peer) ≡ true
    → Pushed beat kept names (λ w answered. take row matched) (names_at (take row matched) peer) peer old mid
    → AddsBare 1 mid new
    → ForEach beat.due.first kept names (λ w answered. new ≡ mid ++ beat_for beat w answered (get_or matched row d) ∷ [])
    → Pushed beat kept names (λ w answered. take (row + 1) matched) (names_at (take (row + 1) matched) peer) peer old new
matched_one beat kept names matched row peer d old mid new lt is before one adds =
    pushed_one beat kept names (λ w answered. take row matched) (λ w answered. take (row + 1) matched)
    (names_at (take row matched) peer) (names_at (take (row + 1) matched) peer) peer (get_or matched row d) old mid new
    (let more = count_by_more_yes (is_at peer) matched row d lt is in omega (arith, more)) before one adds
    (λ w answered b.
    ap (λ (ns : List ReaderName). beats_for beat w answered ns peer) (take_more matched row d lt)
    ∙ beats_last beat w answered (take row matched) (get_or matched row d) peer true is)

-- or it is not
pub matched_same : (beat : Beat) (kept : Kept) (names matched : List ReaderName) (row peer : ℕ) (d : ReaderName)
    (old new : List Submessage) → row < length matched → ((get_or matched row d).reader.peer == peer) ≡ false
    → Pushed beat kept names (λ w answered. take row matched) (names_at (take row matched) peer) peer old new
    → Pushed beat kept names (λ w answered. take (row + 1) matched) (names_at (take (row + 1) matched) peer) peer old new
matched_same beat kept names matched row peer d old new lt is before =
    pushed_same beat kept names (λ w answered. take row matched) (λ w answered. take (row + 1) matched)
    (names_at (take row matched) peer) (names_at (take (row + 1) matched) peer) peer old new
    (let more = count_by_more_no (is_at peer) matched row d lt is in omega (arith, more)) before
    (λ w answered b.
    ap (λ (ns : List ReaderName). beats_for beat w answered ns peer) (take_more matched row d lt)
    ∙ (beats_last beat w answered (take row matched) (get_or matched row d) peer false is
    ∙ append-nil (beats_for beat w answered (take row matched) peer)))

-- ---- a message

-- one with no more than 256 of them can be written
pub beats_writable : (prefix to : GuidPrefix) (count : ℕ) (none first all : List Submessage) → length prefix.0 ≡ 12
    → length to.0 ≡ 12 → count ≤ 256 → none ≡ [] → first ≡ none ++ InfoDst to ∷ [] → AddsBare count first all
    → IsWritable (record { prefix = prefix; submessages = all })
beats_writable prefix to count none first all of_prefix of_to most empty begun adds =
    let bare =
    subst (λ (ss : List Submessage). AddsBare count ss all)
    (begun ∙ ap (λ (ss : List Submessage). ss ++ InfoDst to ∷ []) empty) adds in
    let few = bare.few in
    let light = bare.bare in
    short_writable (record { prefix = prefix; submessages = all }) of_prefix (bare.each (of_to, tt))
    (omega (arith, few, light, most))
