-- The end of an event at a peer, and listeners that are set there.
use Rattle.std.proofs.Common.{◌≡◌, ℕ, zero, suc, List, [], Option, Some, None, Bool, false, length, refl, ap, sym, ◌∙◌, subst, arith}
use Rattle.std.specs.Prelude.{if◌then◌else◌, not}
use Rattle.dds_base.specs.declared.code.Code.{Code}
use Rattle.dds_base.specs.declared.config.Config.{Config}
use Rattle.dds_base.specs.declared.code.Code.TheVariants.{BadParameter, PreconditionNotMet}
use Rattle.dds_protocol.specs.Roster.{Roster}
use Rattle.dds_base.specs.declared.entity.Entity.{Entity}
use Rattle.dds_base.specs.declared.entity.Entity.TheVariants as entity
use Rattle.dds_conditions.specs.Watched.{Watched}
use Rattle.dds_notices.specs.declared.mask.StatusMask.{StatusMask}
use Rattle.dds_notices.specs.declared.notice.Notice.{Notice}
use Rattle.dds_base.specs.Number.{is_number}
use Rattle.dds_notices.specs.Listeners.{ByEntity, Places, Sets as SlotsSet, Slotted, StandsFor as SlotsStandFor, has_entity, is_any, is_fresh, listener_refusal, nobody}
use Rattle.dds_notices.proofs.ListenerLaws.{nobody_stands, nobody_takes}
use Rattle.dds_protocol.specs.declared.event.Event.{Event}
use Rattle.dds_protocol.specs.declared.event.Output.{Output}
use Rattle.dds_machine.specs.Noticing.{at_end, each_told, reader_told, writer_told}
use Rattle.dds_protocol.specs.Noticing.{peer_at_end}
use Rattle.dds_machine.specs.Matching.{is_known}
use Rattle.dds_machine.specs.Numbered.{HasNumber, numbered}
use Rattle.dds_machine.specs.Part.{Part, WriterProxy, heard_of, place_of as reader_place}
use Rattle.dds_protocol.specs.Opening.{opening_peers}
use Rattle.dds_protocol.specs.Peer.{Peer, no_peer}
use Rattle.dds_machine.specs.Watching.{Tests}
use Rattle.dds_protocol.proofs.OpenedPeers.{opens_known}
use Rattle.dds_protocol.proofs.AtEnds.{end_rows, end_untold, end_watch}
use Rattle.dds_protocol.proofs.FiltersKept.{keeps_listeners, opens_nobody}
use Rattle.dds_ends.specs.declared.marks.Marks.{Marks}
use Rattle.dds_core.specs.Filtering.{FilteredKept, StandsFor as FilteredStandsFor}
use Rattle.dds_core.specs.FilteredSteps.{Adds as FilteredAdds, RefusesFilter as FilteredRefuses, Steps as FilteredSteps}
use Rattle.dds_core.specs.Kept.{PeerKept}
use Rattle.dds_core.specs.Listening.{Adds, CoreKept, RefusesFilter, RefusesListener, Sets, StandsFor, Steps, no_listeners}
use Rattle.dds_core.specs.Noticing.{AreMarksOf, MarksPeer, Tells}
use Rattle.dds_core.specs.Opening.{opening_peer}
use Rattle.dds_core.specs.Ruling.{IsSound}
use Rattle.dds_core.specs.Somewhere.{Somewhere}
use Rattle.dds_ends.proofs.Lists.{past_end}
use Rattle.dds_core.proofs.Notified.{listeners_apart, tells_as, tells_then}

module _ {L : Type 0} (notices : L → List Notice) (capacity : L → ℕ) (becomes : L → Notice → L → Type 0) where
  -- the writers were told of, and then the readers
  pub tells_end : (before : Part) (old : PeerKept) (slots : Slotted L) (mid : PeerKept) (between : Slotted L)
      (new : PeerKept) (after : Slotted L)
      → length mid.readers ≡ length old.readers
      → Tells notices capacity becomes (each_told (writer_told before) (length old.writers)) old slots mid between
      → Tells notices capacity becomes (each_told (reader_told before) (length mid.readers)) mid between new after
      → Tells notices capacity becomes (at_end before) old slots new after
  unfolding at_end
  tells_end before old slots mid between new after same first second =
      tells_as notices capacity becomes
      (λ part. each_told (reader_told before) (length mid.readers)
      (each_told (writer_told before) (length old.writers) part)) (at_end before)
      old slots new after
      (λ roster peer s.
      ap (λ (n : ℕ). each_told (reader_told before) n (each_told (writer_told before) (length old.writers) peer.part))
      (same ∙ sym s.readers.count)
      ∙ ap (λ (n : ℕ). each_told (reader_told before) (length peer.part.dds.readers)
      (each_told (writer_told before) n peer.part)) (sym s.writers.count))
      (tells_then notices capacity becomes (each_told (writer_told before) (length old.writers))
      (each_told (reader_told before) (length mid.readers)) old slots mid between new after first second)

-- what a peer knows was claimed, also after its listeners were told
sound_at_end : (roster : Roster) (before peer : Peer) → IsSound roster peer → IsSound roster (peer_at_end before peer)
sound_at_end roster before peer sound =
    let rows = end_rows before.part peer.part in
    record {
      place =
          λ w r p h. sound.place w r p
          (ap (λ (xs : List (List WriterProxy)). reader_place (numbered xs r []) w) (sym rows) ∙ h);
      unknown =
          λ w r h. sound.unknown w r
          (ap (λ (xs : List (List WriterProxy)). reader_place (numbered xs r []) w) (sym rows) ∙ h);
      claimed = sound.claimed;
      newest = λ w r h. sound.newest w r (subst (λ (xs : List (List WriterProxy)). HasNumber xs r) rows h);
      heard =
          λ w r count h. sound.heard w r count
          (ap (λ (xs : List (List WriterProxy)). heard_of (numbered xs r []) w) (sym rows) ∙ h);
      then =
          λ d r w among h. ap (λ (xs : List (List WriterProxy)). is_known (numbered xs r []) w) rows
          ∙ sound.then d r w among h;
    }

-- ---- entities

module _ {L : Type 0} (notices : L → List Notice) (capacity : L → ℕ) (becomes : L → Notice → L → Type 0) where
  same_entities : (given : ByEntity L) (slots : Slotted L) (places : Places) → SlotsStandFor notices capacity becomes given slots places → (e : Entity)
      → has_entity places e ≡ has_entity slots e
  same_entities given slots places s entity.Participant = refl
  same_entities given slots places s (entity.Writer n) = ap (λ (k : ℕ). is_number n k) s.writers
  same_entities given slots places s (entity.Reader n) = ap (λ (k : ℕ). is_number n k) s.readers

  same_refusal : (given : ByEntity L) (slots : Slotted L) (places : Places) → SlotsStandFor notices capacity becomes given slots places
      → (e : Entity) (listener : Option L)
      → listener_refusal notices places e listener ≡ listener_refusal notices slots e listener
  same_refusal given slots places s e listener =
      ap (λ (b : Bool). if not b then Some BadParameter
      else (if is_fresh notices listener then None else Some PreconditionNotMet)) (same_entities given slots places s e)

-- ---- the opening of a peer

-- all that is known there was claimed
pub opens_sound : (config : Config) (roster : Roster) (n : ℕ) → IsSound roster (opening_peer config n)
opens_sound config roster zero =
    let peers = opening_peers config.peers 1 config.peers in
    subst (λ (p : Peer). IsSound roster (record p { number = 0 })) (past_end peers (length peers) no_peer (omega arith))
    (opens_known config roster (length peers) 0)
opens_sound config roster (suc i) = opens_known config roster i (opening_peer config (suc i)).number

-- ---- steps

module _ {F L : Type 0} (notices : L → List Notice) (capacity : L → ℕ) (becomes : L → Notice → L → Type 0) where
  -- the listeners are those of the same part
  meets_listening : (old : CoreKept F L) (ev : Event) (output : Output)
      → ((roster : Roster) (peer : Peer) → FilteredStandsFor old.filtered roster peer → IsSound roster peer
      → Somewhere (FilteredStandsFor old.filtered) peer ev output.reply)
      → (given : ByEntity L) (roster : Roster) (peer : Peer)
      → StandsFor notices capacity becomes given old roster peer → IsSound roster peer
      → Somewhere (StandsFor notices capacity becomes given old) peer ev output.reply
  meets_listening old ev output h given roster peer s sound =
      let m = h roster peer s.stands sound in
      record {
        roster = m.roster;
        alike = m.alike;
        number = m.number;
        part = m.part;
        stands = record {
          stands = m.stands;
          listeners =
              subst (λ (p : Part). SlotsStandFor notices capacity becomes given old.listeners p.dds.listeners)
              (sym m.part) s.listeners;
        };
        sound = m.sound;
        has = m.has;
      }

  -- no listener is set
  pub steps_untold : (tests : Tests) (old : CoreKept F L) (ev : Event) (output : Output) (new : FilteredKept F)
      → FilteredSteps tests old.filtered ev output new
      → is_any old.listeners ≡ false → Steps notices capacity becomes tests old ev output
      (record { filtered = new; listeners = old.listeners })
  steps_untold tests old ev output new h none = record {
    step = λ given roster peer s sound met.
        let r = h.step roster peer s.stands sound met in
        let after : Peer = r.0 in
        let kept : after.part.dds.listeners ≡ peer.part.dds.listeners =
        keeps_listeners roster tests peer ev output after r.1 in
        let slots : SlotsStandFor notices capacity becomes given old.listeners after.part.dds.listeners =
        subst (λ (p : Places). SlotsStandFor notices capacity becomes given old.listeners p) (sym kept) s.listeners in
        let same : at_end peer.part after.part ≡ after.part =
        end_untold peer.part after.part
        (λ e status. nobody_takes notices capacity becomes given old.listeners after.part.dds.listeners none slots e status) in
        let stands : StandsFor notices capacity becomes given (record { filtered = new; listeners = old.listeners }) roster after =
        record { stands = r.2; listeners = slots } in (
          after,
          r.1,
          r.4,
          subst (λ (p : Part). StandsFor notices capacity becomes given (record { filtered = new; listeners = old.listeners }) roster
              (record after { part = p })) (sym same) stands,
          sound_at_end roster peer after r.3,
        );
    meets = meets_listening old ev output h.meets;
    filters = h.filters;
  }

  -- listeners are told at its end
  pub steps_told : (tests : Tests) (old : CoreKept F L) (ev : Event) (output : Output) (mid new : FilteredKept F)
      (after : Slotted L) (marks : Marks)
      → FilteredSteps tests old.filtered ev output mid → MarksPeer old.filtered.peer marks
      → ((before : Part) → AreMarksOf marks before
      → Tells notices capacity becomes (at_end before) mid.peer old.listeners new.peer after)
      → new.filters ≡ mid.filters → Steps notices capacity becomes tests old ev output
      (record { filtered = new; listeners = after })
  steps_told tests old ev output mid new after marks h marked tells same = record {
    step = λ given roster peer s sound met.
        let r = h.step roster peer s.stands sound met in
        let stepped : Peer = r.0 in
        let kept : stepped.part.dds.listeners ≡ peer.part.dds.listeners =
        keeps_listeners roster tests peer ev output stepped r.1 in
        let slots : SlotsStandFor notices capacity becomes given old.listeners stepped.part.dds.listeners =
        subst (λ (p : Places). SlotsStandFor notices capacity becomes given old.listeners p) (sym kept) s.listeners in
        let told = tells peer.part (marked roster peer s.stands.stands) given roster stepped r.2.stands slots in (
          stepped,
          r.1,
          r.4,
          record {
            stands = record {
              stands = told.0;
              filters =
                  ap (λ (w : Watched). w.filters) (end_watch peer.part stepped.part)
                  ∙ (r.2.filters ∙ ap (λ (fs : List F). length fs) (sym same));
            };
            listeners = told.1;
          },
          sound_at_end roster peer stepped r.3,
        );
    meets = meets_listening old ev output h.meets;
    filters = same ∙ h.filters;
  }

  -- ---- the opening

  pub opens : (filtered : FilteredKept F) (listeners : Slotted L) (config : Config) (roster : Roster)
      (n writers readers : ℕ) → FilteredStandsFor filtered roster (opening_peer config n)
      → writers ≡ length filtered.peer.writers → readers ≡ length filtered.peer.readers
      → listeners ≡ nobody writers readers
      → StandsFor notices capacity becomes (no_listeners (opening_peer config n).part)
      (record { filtered = filtered; listeners = listeners }) roster (opening_peer config n)
  opens filtered listeners config roster n writers readers s w r none =
      let part : Part = (opening_peer config n).part in
      let of_writers = s.stands.writers.count ∙ sym w in
      let of_readers = s.stands.readers.count ∙ sym r in
      let opening : part.dds.listeners ≡ nobody writers readers =
      opens_nobody config n
      ∙ (ap (λ (k : ℕ). nobody k (length part.dds.readers)) of_writers
      ∙ ap (λ (k : ℕ). nobody writers k) of_readers) in
      let given : no_listeners {L = L} part ≡ nobody writers readers =
      ap (λ (k : ℕ). nobody k (length part.dds.readers)) of_writers ∙ ap (λ (k : ℕ). nobody writers k) of_readers in
      record {
        stands = s;
        listeners = subst (λ (p : Places). SlotsStandFor notices capacity becomes (no_listeners part) listeners p)
            (sym opening)
            (subst (λ (g : ByEntity L). SlotsStandFor notices capacity becomes g listeners (nobody writers readers))
            (sym given)
            (subst (λ (l : Slotted L). SlotsStandFor notices capacity becomes (nobody writers readers) l
            (nobody writers readers)) (sym none)
            (nobody_stands notices capacity becomes writers readers)));
      }

  -- ---- filters

  pub adds : (old : CoreKept F L) (filter : F) (number : ℕ) (new : FilteredKept F)
      → FilteredAdds old.filtered filter number new
      → Adds notices capacity becomes old filter number (record { filtered = new; listeners = old.listeners })
  adds old filter number new h = record {
    filters = h.filters;
    adds = λ given roster peer s.
        let r = h.adds roster peer s.stands in
        (r.0, r.1, record { stands = r.2; listeners = s.listeners }, r.3);
  }

  pub refuses : (old : CoreKept F L) (code : Code) → FilteredRefuses old.filtered code
      → RefusesFilter notices capacity becomes old code
  refuses old code h given roster peer s = h roster peer s.stands

  -- ---- listeners

  pub sets : (old : CoreKept F L) (e : Entity) (mask : StatusMask) (listener handed : Option L) (new : Slotted L)
      → SlotsSet notices capacity becomes old.listeners e mask listener handed new
      → Sets notices capacity becomes old e mask listener handed (record { filtered = old.filtered; listeners = new })
  sets old e mask listener handed new h = record {
    filters = refl;
    sets = λ given roster peer s.
        let r = h.back given peer.part.dds.listeners s.listeners in (
          same_refusal notices capacity becomes given old.listeners peer.part.dds.listeners s.listeners e listener ∙ h.accepted,
          r.0,
          record {
            stands =
                record {
                  stands = listeners_apart old.filtered.peer roster peer _ s.stands.stands;
                  filters = s.stands.filters;
                };
            listeners = r.1;
          },
          λ sound. record {
            place = sound.place;
            unknown = sound.unknown;
            claimed = sound.claimed;
            newest = sound.newest;
            heard = sound.heard;
            then = sound.then;
          },
        );
  }

  pub refuses_listener : (old : CoreKept F L) (e : Entity) (listener : Option L) (code : Code)
      → listener_refusal notices old.listeners e listener ≡ Some code
      → RefusesListener notices capacity becomes old e listener code
  refuses_listener old e listener code h given roster peer s =
      same_refusal notices capacity becomes given old.listeners peer.part.dds.listeners s.listeners e listener ∙ h
