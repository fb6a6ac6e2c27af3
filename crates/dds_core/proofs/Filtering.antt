-- A peer with the filters of its application: how it opens, steps, and has a filter more.
use Rattle.std.proofs.Common.{◌≡◌, ℕ, ◌+◌, List, [], ◌∷◌, ◌++◌, Some, None, length, length-append, arith, ap, sym, ◌∙◌, refl, subst}
use Rattle.std.specs.Prelude.{Option}
use Rattle.dds_base.specs.declared.code.Code.{Code}
use Rattle.dds_base.specs.declared.config.Config.{Config}
use Rattle.dds_base.specs.declared.code.Code.TheVariants.{Memory}
use Rattle.dds_protocol.specs.Roster.{Roster}
use Rattle.dds_base.specs.Refusal.{Refuses}
use Rattle.dds_conditions.specs.Watched.{Watched, filter_refusal, with_filter}
use Rattle.dds_protocol.specs.declared.event.Event.{Event}
use Rattle.dds_protocol.specs.declared.event.Output.{Output}
use Rattle.dds_protocol.specs.Filters.{peer_with_filter}
use Rattle.dds_machine.specs.Part.{Part}
use Rattle.dds_machine.specs.Watching.{Tests}
use Rattle.dds_protocol.proofs.FiltersKept.{keeps_filters, opens_no_filters}
use Rattle.dds_core.specs.Kept.{PeerKept}
use Rattle.dds_core.specs.Filtering.{FilteredKept, StandsFor}
use Rattle.dds_core.specs.FilteredSteps.{Adds, RefusesFilter, Steps}
use Rattle.dds_core.specs.Opening.{opening_peer}
use Rattle.dds_core.specs.Standing.{StandsFor as PeerStandsFor}
use Rattle.dds_core.specs.Stepping.{SoundStepsBy}
use Rattle.dds_core.proofs.Watched.{watches}

-- a peer without filters, at its opening
pub opens : {F : Type 0} (kept : PeerKept) (filters : List F) (config : Config) (roster : Roster) (n : ℕ)
    → PeerStandsFor kept roster (opening_peer config n) → filters ≡ []
    → StandsFor (record { peer = kept; filters = filters }) roster (opening_peer config n)
opens kept filters config roster n s none =
    record { stands = s; filters = opens_no_filters config n ∙ ap (λ fs. length fs) (sym none) }

-- a step adds no filter
pub steps : {F : Type 0} (tests : Tests) (old : FilteredKept F) (ev : Event) (output : Output) (new : PeerKept)
    → SoundStepsBy tests old.peer ev output new
    → Steps tests old ev output (record { peer = new; filters = old.filters })
steps tests old ev output new h = record {
  step = λ roster peer s sound met.
      let r = h.step roster peer s.stands sound met in (
        r.0,
        r.1,
        record {
          stands = r.2;
          filters = keeps_filters roster tests peer ev output r.0 r.1
              ∙ s.filters;
        },
        r.3,
        r.4,
      );
  meets = λ roster peer s sound.
      let m = h.meets roster peer s.stands sound in
      record {
        roster = m.roster;
        alike = m.alike;
        number = m.number;
        part = m.part;
        stands = record {
          stands = m.stands;
          filters = ap (λ (p : Part). p.dds.watch.filters) m.part ∙ s.filters;
        };
        sound = m.sound;
        has = m.has;
      };
  filters = refl;
}

-- one filter more
pub adds : {F : Type 0} (old : FilteredKept F) (filter : F) (number : ℕ) (new : PeerKept) (filters : List F)
    → filter_refusal old.peer.watch ≡ None → number ≡ old.peer.watch.filters + 1
    → new ≡ record old.peer { watch = with_filter old.peer.watch } → filters ≡ old.filters ++ filter ∷ []
    → Adds old filter number (record { peer = new; filters = filters })
adds old filter number new filters left is kept more = record {
  filters = more;
  adds = λ roster peer s.
      let counted = ap (λ (w : Watched). w.filters) s.stands.watch in
      let total = length-append old.filters (filter ∷ []) in
      let longer = ap (λ fs. length fs) more in
      let before = s.filters in
      let stands : PeerStandsFor (record old.peer { watch = with_filter old.peer.watch }) roster
      (peer_with_filter peer) =
      subst (λ (w : Watched). PeerStandsFor (record old.peer { watch = with_filter old.peer.watch }) roster
      (record peer { part = record peer.part { dds = record peer.part.dds { watch = w } } }))
      (ap (λ (w : Watched). with_filter w) (sym s.stands.watch))
      (watches old.peer (with_filter old.peer.watch) roster peer s.stands) in (
        ap (λ (w : Watched). filter_refusal w) s.stands.watch ∙ left,
        omega (arith, is, counted, before),
        record {
          stands = subst (λ (k : PeerKept). PeerStandsFor k roster (peer_with_filter peer))
              (sym kept) stands;
          filters = omega (arith, before, total, longer);
        },
        λ sound. record {
          place = sound.place;
          unknown = sound.unknown;
          claimed = sound.claimed;
          newest = sound.newest;
          heard = sound.heard;
          then = sound.then;
        },
      );
}

-- no number is left
pub no_number : {F : Type 0} (old : FilteredKept F) (code : Code) → filter_refusal old.peer.watch ≡ Some code
    → RefusesFilter old code
no_number old code none roster peer s =
    subst (λ (o : Option Code). Refuses o code)
    (sym (ap (λ (w : Watched). filter_refusal w) s.stands.watch ∙ none)) refl

-- no memory is left for it
pub no_room : {F : Type 0} (old : FilteredKept F) → filter_refusal old.peer.watch ≡ None → RefusesFilter old Memory
no_room old left roster peer s =
    subst (λ (o : Option Code). Refuses o Memory)
    (sym (ap (λ (w : Watched). filter_refusal w) s.stands.watch ∙ left)) refl
