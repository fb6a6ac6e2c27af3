-- What is remembered of conditions that found nothing is right in each state that a peer stands for, and stays so.
use Rattle.std.proofs.Common.{◌≡◌, ℕ, zero, suc, ◌≤◌, List, [], length, get_or, Bool, false, refl, ap, sym, ◌∙◌, subst, arith, ⊎_elim}
use Rattle.std.specs.Prelude.{All, Contains, Option, Result, Ok, Err, IfOk, OnErr}
use Rattle.std.proofs.lemmas.List.{get_or_past}
use Rattle.std.proofs.lemmas.List.Elements.{All-nil}
use Rattle.std.proofs.lemmas.Option.{slice_get_cases}
use Rattle.dds_protocol.specs.Roster.{Roster}
use Rattle.dds_base.specs.declared.entity.Entity.{Entity}
use Rattle.dds_base.specs.declared.happening.Happening.{Happening}
use Rattle.dds_base.specs.declared.key.Key.{Key}
use Rattle.dds_base.specs.declared.mask.Masks.{Masks}
use Rattle.dds_base.specs.declared.qos.ReaderQos.{ReaderQos}
use Rattle.dds_base.specs.Access.{has_match}
use Rattle.dds_cache.proofs.SameLaws.{counts-alike, matches-alike}
use Rattle.dds_conditions.specs.Filtered.{tests_of}
use Rattle.dds_notices.specs.declared.mask.StatusMask.{StatusMask}
use Rattle.dds_notices.specs.declared.notice.Notice.{Notice}
use Rattle.dds_notices.specs.Listeners.{ByEntity, listener_place, with_entity}
use Rattle.rtps_reader.specs.Tracked.{Tracked}
use Rattle.dds_base.specs.declared.endpoint.Endpoint.{Endpoint}
use Rattle.dds_machine.specs.Noticing.{at_end}
use Rattle.dds_machine.specs.Part.{Part, Reader, WriterProxy, no_reader, own_reader}
use Rattle.dds_machine.specs.Watching.{Test, Tests, test_of}
use Rattle.dds_protocol.specs.declared.event.Event.{Event}
use Rattle.dds_protocol.specs.declared.event.Output.{Output}
use Rattle.dds_protocol.specs.Filters.{peer_with_filter}
use Rattle.dds_protocol.specs.Noticing.{peer_at_end, peer_with_place}
use Rattle.dds_protocol.specs.Peer.{Peer}
use Rattle.dds_protocol.proofs.GoesOn.{GoesOn, each_goes_on, end_goes_on, longer, no_more}
use Rattle.dds_core.specs.declared.misses.Miss.{Miss}
use Rattle.dds_ends.specs.Kept.{ReaderKept}
use Rattle.dds_core.specs.Kept.{PeerKept}
use Rattle.dds_core.specs.Listening.{Adds, CoreKept, Sets, StandsFor as CoreStandsFor, Steps}
use Rattle.dds_core.specs.Remembering.{AddsMiss, AreMisses, IsMiss, Remembers}
use Rattle.dds_core.specs.Ruling.{IsSound}
use Rattle.dds_ends.specs.Standing.{ReaderStands}
use Rattle.dds_core.specs.Standing.{StandsFor}

-- ---- lists of them

all_of : (P : Miss → Type 0) (misses : List Miss) (miss : Miss) → All P misses → Contains misses miss → P miss
all_of P misses miss all among = subst P among.2 (all among.0 miss among.1)

-- one more is remembered
pub all_added : (P : Miss → Type 0) (old : List Miss) (miss : Miss) (new : List Miss) → All P old → P miss
    → AddsMiss old miss new → All P new
all_added P old miss new before one adds = λ k d within.
    ⊎_elim (λ is. subst P (sym is) one) (λ was. all_of P old (get_or new k d) before was) (adds k d within)

-- one of them is right
pub right_of : (tests : Tests) (kept : PeerKept) (misses : List Miss) (miss : Miss) → AreMisses tests kept misses
    → Contains misses miss → (roster : Roster) (peer : Peer) → StandsFor kept roster peer → IsMiss tests peer.part miss
right_of tests kept misses miss right among roster peer s =
    all_of (IsMiss tests peer.part) misses miss (right roster peer s) among

-- one more that is right is remembered
pub right_added : (tests : Tests) (kept : PeerKept) (old : List Miss) (miss : Miss) (new : List Miss)
    → AreMisses tests kept old
    → ((roster : Roster) (peer : Peer) → StandsFor kept roster peer → IsMiss tests peer.part miss)
    → AddsMiss old miss new → AreMisses tests kept new
right_added tests kept old miss new right one adds = λ roster peer s.
    all_added (IsMiss tests peer.part) old miss new (right roster peer s) (one roster peer s) adds

-- where none is remembered, each is right
pub right_of_none : (tests : Tests) (kept : PeerKept) (misses : List Miss) → misses ≡ [] → AreMisses tests kept misses
right_of_none tests kept misses none = λ roster peer s.
    subst (λ (ms : List Miss). All (IsMiss tests peer.part) ms) (sym none) (All-nil (IsMiss tests peer.part))

-- a condition that found nothing did so, as the newest entry stands
pub found_none : (tests : Tests) (part : Part) (miss : Miss)
    → miss.entries ≡ length (own_reader part miss.reader).happened
    → has_match (own_reader part miss.reader).qos (own_reader part miss.reader).happened miss.masks
    (test_of tests miss.filter) ≡ false → IsMiss tests part miss
found_none tests part miss newest none = record { past = omega (arith, newest); none = λ same. none }

-- ---- the states that a peer stands for

-- as much happened at two readers, and the same conditions are true there
record AreAlike (a b : Reader) : Type 0 where
  pub count : length a.happened ≡ length b.happened
  pub matches : (masks : Masks) (test : Test) → has_match a.qos a.happened masks test
      ≡ has_match b.qos b.happened masks test

alike_same : (r : Reader) → AreAlike r r
alike_same r = record { count = refl; matches = λ masks test. refl }

-- what is kept of a reader stands for both
alike_kept : (kept : ReaderKept) (rows others : List WriterProxy) (a b : Reader) (first second : Endpoint → Tracked)
    → ReaderStands kept rows a first → ReaderStands kept others b second → AreAlike a b
alike_kept kept rows others a b first second s t = record {
  count = counts-alike kept.store.cache a.happened b.happened s.holds.cache t.holds.cache;
  matches = λ masks test.
      ap (λ (q : ReaderQos). has_match q a.happened masks test) s.qos_is
      ∙ (matches-alike kept.store.cache a.happened b.happened masks test s.holds.cache t.holds.cache
      ∙ sym (ap (λ (q : ReaderQos). has_match q b.happened masks test) t.qos_is));
}

readers_alike : (kept : PeerKept) (roster other_roster : Roster) (peer other : Peer) → StandsFor kept roster peer
    → StandsFor kept other_roster other → (n : ℕ) → AreAlike (own_reader peer.part n) (own_reader other.part n)
readers_alike kept roster other_roster peer other s t zero = alike_same no_reader
readers_alike kept roster other_roster peer other s t (suc i) =
    ⊎_elim
    (λ there. alike_kept there.0 _ _ _ _ _ _ (s.readers.each i there.0 there.2) (t.readers.each i there.0 there.2))
    (λ past.
    let end : length kept.readers ≤ i = past.0 in
    let first = s.readers.count in
    let second = t.readers.count in
    subst (λ (r : Reader). AreAlike (get_or peer.part.dds.readers i no_reader) r)
    (sym (get_or_past other.part.dds.readers i no_reader (omega (arith, end, second))))
    (subst (λ (r : Reader). AreAlike r no_reader)
    (sym (get_or_past peer.part.dds.readers i no_reader (omega (arith, end, first)))) (alike_same no_reader)))
    (slice_get_cases kept.readers i).1

-- what is right in one of the states is right in each
pub everywhere : (tests : Tests) (kept : PeerKept) (roster : Roster) (peer : Peer) (misses : List Miss)
    → StandsFor kept roster peer → All (IsMiss tests peer.part) misses → AreMisses tests kept misses
everywhere tests kept roster peer misses s right = λ other_roster other t k d within.
    let miss : Miss = get_or misses k d in
    let is : IsMiss tests peer.part miss = right k d within in
    let alike : AreAlike (own_reader peer.part miss.reader) (own_reader other.part miss.reader) =
    readers_alike kept roster other_roster peer other s t miss.reader in
    record {
      past = subst (λ (n : ℕ). miss.entries ≤ n) alike.count is.past;
      none = λ same. sym (alike.matches miss.masks (test_of tests miss.filter)) ∙ is.none (alike.count ∙ same);
    }

-- ---- what happens

-- what is right stays so as more happens, or nothing
still_nothing : (tests : Tests) (old new : Part) (miss : Miss) → IsMiss tests old miss
    → GoesOn (own_reader old miss.reader) (own_reader new miss.reader) → IsMiss tests new miss
still_nothing tests old new miss is goes =
    let before : Reader = own_reader old miss.reader in
    let after : Reader = own_reader new miss.reader in
    let past : miss.entries ≤ length before.happened = is.past in
    let more : length before.happened ≤ length after.happened =
    longer before.happened after.happened goes.more in
    record {
      past = omega (arith, past, more);
      none = λ same.
          let count : length after.happened ≡ length before.happened = omega (arith, past, more, same) in
          ap (λ (q : ReaderQos). has_match q after.happened miss.masks (test_of tests miss.filter)) goes.qos
          ∙ (ap (λ (h : List Happening). has_match before.qos h miss.masks (test_of tests miss.filter))
          (no_more before.happened after.happened goes.more count) ∙ is.none (sym count ∙ same));
    }

module _ {F L : Type 0} (notices : L → List Notice) (capacity : L → ℕ) (becomes : L → Notice → L → Type 0)
    (meaning : F → Key → List ℕ → Bool) where
  -- what is remembered is right
  pub are_right : (kept : CoreKept F L) (misses : List Miss) → Remembers notices capacity becomes meaning kept misses
      → AreMisses (tests_of meaning kept.filtered.filters) kept.filtered.peer misses
  are_right kept misses r =
      everywhere (tests_of meaning kept.filtered.filters) kept.filtered.peer r.roster r.peer misses
      r.stands.stands.stands r.right

  -- what was right before an event, and is remembered after it
  pub remembers_on : (old : CoreKept F L) (before misses : List Miss) (ev : Event) (output : Output) (new : CoreKept F L)
      → Remembers notices capacity becomes meaning old before
      → AreMisses (tests_of meaning old.filtered.filters) old.filtered.peer misses
      → Steps notices capacity becomes (tests_of meaning old.filtered.filters) old ev output new
      → Remembers notices capacity becomes meaning new misses
  remembers_on old before misses ev output new r right h =
      let tests : Tests = tests_of meaning old.filtered.filters in
      let m = h.meets r.given r.roster r.peer r.stands r.sound in
      let s = h.step r.given m.roster m.alike m.stands m.sound m.has in
      let stepped : Peer = s.0 in
      record {
        given = r.given;
        roster = m.roster;
        peer = peer_at_end m.alike stepped;
        stands = s.3;
        sound = s.4;
        right =
            subst (λ (fs : List F). All (IsMiss (tests_of meaning fs) (at_end m.alike.part stepped.part)) misses)
            (sym h.filters)
            (λ k d within.
            let miss : Miss = get_or misses k d in
            still_nothing tests stepped.part (at_end m.alike.part stepped.part) miss
            (still_nothing tests m.alike.part stepped.part miss
            (right m.roster m.alike m.stands.stands.stands k d within)
            (each_goes_on m.roster tests m.alike ev output stepped s.1 miss.reader))
            (end_goes_on m.alike.part stepped.part miss.reader));
      }

  -- nothing is remembered of a core that has one filter more
  pub remembers_filter : (old : CoreKept F L) (before : List Miss) (filter : F) (number : ℕ) (new : CoreKept F L)
      → Remembers notices capacity becomes meaning old before
      → Adds notices capacity becomes old filter number new → Remembers notices capacity becomes meaning new []
  remembers_filter old before filter number new r h =
      let s = h.adds r.given r.roster r.peer r.stands in
      record {
        given = r.given;
        roster = r.roster;
        peer = peer_with_filter r.peer;
        stands = s.2;
        sound = s.3 r.sound;
        right = All-nil (IsMiss (tests_of meaning new.filtered.filters) (peer_with_filter r.peer).part);
      }

  -- the same is remembered where a listener was set
  pub remembers_listener : (old : CoreKept F L) (misses : List Miss) (entity : Entity) (mask : StatusMask)
      (listener handed : Option L) (new : CoreKept F L) → Remembers notices capacity becomes meaning old misses
      → Sets notices capacity becomes old entity mask listener handed new
      → Remembers notices capacity becomes meaning new misses
  remembers_listener old misses entity mask listener handed new r h =
      let s = h.sets r.given r.roster r.peer r.stands in
      let after : Peer = peer_with_place r.peer entity (listener_place capacity mask listener) in
      record {
        given = with_entity r.given entity listener;
        roster = r.roster;
        peer = after;
        stands = s.2;
        sound = s.3 r.sound;
        right =
            subst (λ (fs : List F). All (IsMiss (tests_of meaning fs) after.part) misses) (sym h.filters)
            (λ k d within. let is = r.right k d within in record { past = is.past; none = is.none });
      }

  -- so it is where one was to be set
  pub remembers_set : {E : Type 0} (old : CoreKept F L) (misses : List Miss) (entity : Entity) (mask : StatusMask)
      (listener : Option L) (new : CoreKept F L) (result : Result (Option L) E)
      → Remembers notices capacity becomes meaning old misses
      → IfOk result (λ handed. Sets notices capacity becomes old entity mask listener handed new)
      → OnErr result (new ≡ old) → Remembers notices capacity becomes meaning new misses
  remembers_set old misses entity mask listener new (Ok handed) r ok err =
      remembers_listener old misses entity mask listener handed new r ok
  remembers_set old misses entity mask listener new (Err e) r ok err =
      subst (λ (k : CoreKept F L). Remembers notices capacity becomes meaning k misses) (sym err) r

  -- nothing is remembered at the opening
  pub remembers_none : (given : ByEntity L) (kept : CoreKept F L) (roster : Roster) (peer : Peer)
      → CoreStandsFor notices capacity becomes given kept roster peer → IsSound roster peer
      → Remembers notices capacity becomes meaning kept []
  remembers_none given kept roster peer s sound = record {
    given = given;
    roster = roster;
    peer = peer;
    stands = s;
    sound = sound;
    right = All-nil (IsMiss (tests_of meaning kept.filtered.filters) peer.part);
  }
