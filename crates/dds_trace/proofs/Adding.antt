-- A history of one step more, and the one of no step.
use Rattle.std.proofs.Common.{◌≡◌, ℕ, Bool, List, [], ◌∷◌, ◌++◌, ◌+◌, length, length-append, append-nil, Option, refl, sym, ap, ◌∙◌, subst}
use Rattle.dds_base.specs.declared.config.Config.{Config}
use Rattle.dds_base.specs.declared.key.Key.{Key}
use Rattle.dds_conditions.specs.Filtered.{tests_of}
use Rattle.dds_notices.specs.declared.notice.Notice.{Notice}
use Rattle.dds_notices.specs.Listeners.{ByEntity, Places, listener_place, with_entity}
use Rattle.dds_protocol.specs.declared.event.Event.{Event}
use Rattle.dds_protocol.specs.declared.event.Output.{Output}
use Rattle.dds_protocol.specs.Noticing.{peer_at_end, peer_with_place}
use Rattle.dds_protocol.specs.Filters.{peer_with_filter}
use Rattle.dds_base.specs.declared.entity.Entity.{Entity}
use Rattle.dds_notices.specs.declared.mask.StatusMask.{StatusMask}
use Rattle.dds_protocol.specs.Peer.{Peer}
use Rattle.dds_protocol.specs.Meetings.{MeetsByRoster}
use Rattle.dds_protocol.specs.Roster.{AreGood, ComeFirst, Roster, roster_of}
use Rattle.dds_machine.specs.Watching.{Tests}
use Rattle.dds_protocol.proofs.FiltersKept.{keeps_listeners, opens_no_filters, opens_nobody}
use Rattle.dds_core.specs.Listening.{Adds, CoreKept, Sets, StandsFor, Steps}
use Rattle.dds_core.specs.Opening.{InRosters, opening_peer}
use Rattle.dds_core.specs.Ruling.{IsSound}
use Rattle.dds_trace.specs.declared.trace.Entry.{Entry}
use Rattle.dds_trace.specs.History.{AllMeetBy, Happens, IsHistory, IsHistoryIn, IsHistoryOf, emptied, entry_of, opened}
use Rattle.dds_trace.proofs.Places.{end_places, nobody_emptied, set_places}

IsHistory-push : (roster : Roster) (tests : Tests) (m : Peer) (es : List Entry) (n : Peer) (e : Entry) (k : Peer)
    → IsHistory roster tests m es n → Happens roster tests n e.event e.output k
    → IsHistory roster tests m (es ++ e ∷ []) k
IsHistory-push roster tests m [] n e k same step =
    (k, subst (λ (x : Peer). Happens roster tests x e.event e.output k) (sym same) step, refl)
IsHistory-push roster tests m (x ∷ es) n e k h step =
    (h.0, h.1, IsHistory-push roster tests h.0 es n e k h.2 step)

-- the last of these entries meets whom the roster has, and so do those before it
met_before : (roster : Roster) (number : ℕ) (es : List Entry) (e : Entry) → AllMeetBy roster number (es ++ e ∷ [])
    → AllMeetBy roster number es × MeetsByRoster roster number e.event e.output.reply
met_before roster number [] e met = (tt, met.0)
met_before roster number (x ∷ xs) e met =
    let r = met_before roster number xs e met.1 in ((met.0, r.0), r.1)

-- the peers of a configuration come first among themselves
pub first_of_all : (config : Config) → ComeFirst config config
first_of_all config = ([], sym (append-nil config.peers))

module _ {F L : Type 0} (meaning : F → Key → List ℕ → Bool) (notices : L → List Notice) (capacity : L → ℕ)
    (becomes : L → Notice → L → Type 0) (given : ByEntity L) (config : Config) (number : ℕ) where
  -- in one roster an event of the core is entered
  extends_in : (roster : Roster) (es : List Entry) (old new : CoreKept F L) (seat : ℕ) (event : Event) (o : Output)
      → IsHistoryIn meaning notices capacity becomes given config roster number es old
      → Steps notices capacity becomes (tests_of meaning old.filtered.filters) old event o new
      → MeetsByRoster roster number event o.reply
      → IsHistoryIn meaning notices capacity becomes given config roster number (es ++ entry_of seat event o ∷ []) new
  extends_in roster es old new seat event o h s met =
      let m : Peer = h.peer in
      let tests : Tests = tests_of meaning old.filtered.filters in
      let r =
      s.step given roster m h.stands h.sound
      (subst (λ (n : ℕ). MeetsByRoster roster n event o.reply) (sym h.is_number) met) in
      let stepped : Peer = r.0 in
      let n : Peer = peer_at_end m stepped in
      let happens : Happens roster tests m event o n =
      record { stepped = stepped; step = r.1; rules = r.2; ended = refl } in
      let places : emptied m.part.dds.listeners ≡ emptied n.part.dds.listeners =
      sym (end_places m.part stepped.part
      ∙ ap (λ (p : Places). emptied p) (keeps_listeners roster tests m event o stepped r.1)) in
      let P : List F → Places → Type 0 =
      λ fs ps. IsHistory roster (tests_of meaning fs) (opened config number (length fs) ps)
      (es ++ entry_of seat event o ∷ []) n in
      let pushed : P old.filtered.filters (emptied m.part.dds.listeners) =
      IsHistory-push roster tests (opened config number (length old.filtered.filters) (emptied m.part.dds.listeners)) es
      m (entry_of seat event o) n h.history happens in
      record {
        peer = n;
        is_number = r.1.same_number ∙ h.is_number;
        history = subst (λ (fs : List F). P fs (emptied n.part.dds.listeners)) (sym s.filters)
            (subst (λ (ps : Places). P old.filtered.filters ps) places pushed);
        stands = r.3;
        sound = r.4;
      }

  -- an event of the core is entered
  pub extends : (es : List Entry) (old new : CoreKept F L) (seat : ℕ) (event : Event) (o : Output)
      → IsHistoryOf meaning notices capacity becomes given config number es old
      → Steps notices capacity becomes (tests_of meaning old.filtered.filters) old event o new
      → IsHistoryOf meaning notices capacity becomes given config number (es ++ entry_of seat event o ∷ []) new
  extends es old new seat event o h s =
      let m = s.meets given h.roster h.peer h.stands h.sound in
      let r = s.step given m.roster m.alike m.stands m.sound m.has in
      record {
        good = h.good;
        in_rosters = λ all first good met.
            let before = met_before (roster_of all) number es (entry_of seat event o) met in
            extends_in (roster_of all) es old new seat event o (h.in_rosters all first good before.0) s before.1;
        roster = m.roster;
        peer = peer_at_end m.alike r.0;
        stands = r.3;
        sound = r.4;
      }

  -- a core that was opened has done nothing
  begins_in : (roster : Roster) (core : CoreKept F L) → (opening_peer config number).number ≡ number
      → StandsFor notices capacity becomes given core roster (opening_peer config number)
      → IsSound roster (opening_peer config number) → core.filtered.filters ≡ []
      → IsHistoryIn meaning notices capacity becomes given config roster number [] core
  begins_in roster core is stands sound none =
      let p : Peer = opening_peer config number in
      let filters : length core.filtered.filters ≡ p.part.dds.watch.filters =
      ap (λ (fs : List F). length fs) none ∙ sym (opens_no_filters config number) in
      let nobody_told : emptied p.part.dds.listeners ≡ p.part.dds.listeners =
      ap (λ (ps : Places). emptied ps) (opens_nobody config number)
      ∙ nobody_emptied (length p.part.rtps.writers) (length p.part.dds.readers)
      ∙ sym (opens_nobody config number) in
      record {
        peer = p;
        is_number = is;
        history =
            ap (λ (k : ℕ). opened config number k (emptied p.part.dds.listeners)) filters
            ∙ ap (λ (ps : Places). opened config number p.part.dds.watch.filters ps) nobody_told;
        stands = stands;
        sound = sound;
      }

  pub begins : (core : CoreKept F L) → AreGood config.peers → (opening_peer config number).number ≡ number
      → InRosters config (λ roster. StandsFor notices capacity becomes given core roster (opening_peer config number)
      × IsSound roster (opening_peer config number))
      → core.filtered.filters ≡ [] → IsHistoryOf meaning notices capacity becomes given config number [] core
  begins core good is opens none =
      let own = opens config (first_of_all config) good in
      record {
        good = good;
        in_rosters = λ all first good met.
            let there = opens all first good in begins_in (roster_of all) core is there.0 there.1 none;
        roster = roster_of config;
        peer = opening_peer config number;
        stands = own.0;
        sound = own.1;
      }

  -- a filter that is added before anything happened
  filtered_in : (roster : Roster) (old new : CoreKept F L) (filter : F) (k : ℕ)
      → IsHistoryIn meaning notices capacity becomes given config roster number [] old
      → Adds notices capacity becomes old filter k new
      → IsHistoryIn meaning notices capacity becomes given config roster number [] new
  filtered_in roster old new filter k h a =
      let m : Peer = h.peer in
      let r = a.adds given roster m h.stands in
      let more : length new.filtered.filters ≡ length old.filtered.filters + 1 =
      ap (λ (fs : List F). length fs) a.filters ∙ length-append old.filtered.filters (filter ∷ []) in
      record {
        peer = peer_with_filter m;
        is_number = h.is_number;
        history =
            ap (λ (n : ℕ). opened config number n (emptied m.part.dds.listeners)) more
            ∙ ap (λ (p : Peer). peer_with_filter p) h.history;
        stands = r.2;
        sound = r.3 h.sound;
      }

  pub filtered : (old new : CoreKept F L) (filter : F) (k : ℕ)
      → IsHistoryOf meaning notices capacity becomes given config number [] old → Adds notices capacity becomes old filter k new
      → IsHistoryOf meaning notices capacity becomes given config number [] new
  filtered old new filter k h a =
      let r = a.adds given h.roster h.peer h.stands in
      record {
        good = h.good;
        in_rosters = λ all first good met.
            filtered_in (roster_of all) old new filter k (h.in_rosters all first good met) a;
        roster = h.roster;
        peer = peer_with_filter h.peer;
        stands = r.2;
        sound = r.3 h.sound;
      }

  -- a listener that is set, or taken away, before anything happened
  listened_in : (roster : Roster) (old new : CoreKept F L) (e : Entity) (mask : StatusMask) (listener handed : Option L)
      → IsHistoryIn meaning notices capacity becomes given config roster number [] old
      → Sets notices capacity becomes old e mask listener handed new
      → IsHistoryIn meaning notices capacity becomes (with_entity given e listener) config roster number [] new
  listened_in roster old new e mask listener handed h s =
      let m : Peer = h.peer in
      let r = s.sets given roster m h.stands in
      record {
        peer = peer_with_place m e (listener_place capacity mask listener);
        is_number = h.is_number;
        history =
            ap (λ (fs : List F). opened config number (length fs)
            (emptied (with_entity m.part.dds.listeners e (listener_place capacity mask listener)))) s.filters
            ∙ ap (λ (ps : Places). opened config number (length old.filtered.filters) ps)
            (set_places capacity m.part.dds.listeners e mask listener)
            ∙ ap (λ (p : Peer). peer_with_place p e (listener_place capacity mask listener)) h.history;
        stands = r.2;
        sound = r.3 h.sound;
      }

  pub listened : (old new : CoreKept F L) (e : Entity) (mask : StatusMask) (listener handed : Option L)
      → IsHistoryOf meaning notices capacity becomes given config number [] old
      → Sets notices capacity becomes old e mask listener handed new
      → IsHistoryOf meaning notices capacity becomes (with_entity given e listener) config number [] new
  listened old new e mask listener handed h s =
      let r = s.sets given h.roster h.peer h.stands in
      record {
        good = h.good;
        in_rosters = λ all first good met.
            listened_in (roster_of all) old new e mask listener handed (h.in_rosters all first good met) s;
        roster = h.roster;
        peer = peer_with_place h.peer e (listener_place capacity mask listener);
        stands = r.2;
        sound = r.3 h.sound;
      }
