-- The parts of what a writer keeps, and what they stand for.
use Rattle.std.proofs.Common.{◌≡◌, ℕ, ◌+◌, Bool, false, not, List, [], ◌∷◌, ◌++◌, map, Option, Some, None, ℤ, refl, sym, ap, ◌∙◌, subst}
use Rattle.std.specs.Prelude.{if◌then◌else◌}
use Rattle.std.specs.List.{remove}
use Rattle.dds_base.specs.declared.change.Change.{Change}
use Rattle.dds_base.specs.declared.key.Key.{Key}
use Rattle.dds_base.specs.Happening.{same_key, is_unregister}
use Rattle.dds_base.specs.Kept.{appended}
use Rattle.dds_base.specs.Written.{Written, Changed, last_strength, strength_now}
use Rattle.dds_history.specs.Readers.{joined as history_joined, left as history_left}
use Rattle.dds_history.specs.Standing.{Held, StandsFor as HistoryStandsFor}
use Rattle.rtps_writer.specs.declared.liveliness.Liveliness.{Liveliness}
use Rattle.rtps_writer.specs.LivelinessKept.{IsLiveliness}
use Rattle.rtps_writer.specs.Registered.{is_among}
use Rattle.rtps_writer.specs.Standing.{Kept, StandsFor}
use Rattle.rtps_writer.specs.WriterState.{WriterState, entering, history_of, joined, last_of, left, unasked}

-- the same, of another name for what is kept
pub stands_as : (a b : Kept) (s : WriterState) → a ≡ b → StandsFor a s → StandsFor b s
stands_as a b s same given = subst (λ (k : Kept). StandsFor k s) same given

pub history_at : (kept now : Kept) (s : WriterState) → kept ≡ now → StandsFor now s
    → HistoryStandsFor kept.history (history_of s)
history_at kept now s same given = (stands_as now kept s (sym same) given).history

-- an entry that sets no strength leaves it as it was
pub other-strength : (configured : Option ℤ) (c : List Written) (entry : Written)
    → ((z : ℤ) → last_strength z c ≡ last_strength z (entry ∷ c))
    → strength_now configured c ≡ strength_now configured (entry ∷ c)
other-strength None c entry same = refl
other-strength (Some z) c entry same = ap (λ (x : ℤ). Some x) (same z)

-- a writer with one more change
pub changes : (kept now : Kept) (s : WriterState) → kept ≡ now → StandsFor now s
    → (before keys : List Key) (held : Held) (change : Change) → before ≡ kept.registered
    → ((k : Key) → is_among keys k
    ≡ (if same_key change.key k then not (is_unregister change.kind) else is_among before k))
    → HistoryStandsFor held (appended (history_of s) change)
    → (live : Liveliness)
    → (IsLiveliness kept.liveliness s.lease s.written → IsLiveliness live s.lease (Changed change ∷ s.written))
    → StandsFor (record kept { history = held; registered = keys; liveliness = live }) (entering s (Changed change))
changes kept now s same given before keys held change reserved noted more live asserts =
    let here = stands_as now kept s (sym same) given in
    record {
      history = more;
      registered = λ k.
          noted k ∙ (ap (λ (ks : List Key). if same_key change.key k then not (is_unregister change.kind)
          else is_among ks k) reserved
          ∙ ap (λ (b : Bool). if same_key change.key k then not (is_unregister change.kind) else b)
          (here.registered k));
      firsts = here.firsts;
      counts = here.counts;
      asks = here.asks;
      silents = here.silents;
      counts_used = here.counts_used;
      liveliness = asserts here.liveliness;
      strength = here.strength ∙ other-strength s.strength s.written (Changed change) (λ configured. refl);
    }

-- a writer with one matched reader more
pub stands-joined : (kept : Kept) (s : WriterState) (count : Option ℤ) (silent : Bool) (next : ℕ) (held : Held)
    (firsts : List ℕ) (counts : List (Option ℤ)) (asks silents : List Bool) → StandsFor kept s
    → next ≡ last_of s + 1 → HistoryStandsFor held (history_joined (history_of s))
    → firsts ≡ kept.firsts ++ next ∷ [] → counts ≡ kept.counts ++ count ∷ [] → asks ≡ kept.asks ++ false ∷ []
    → silents ≡ kept.silents ++ silent ∷ []
    → StandsFor (record kept { history = held; firsts = firsts; counts = counts; asks = asks; silents = silents })
    (joined s count silent)
stands-joined kept s count silent next held firsts counts asks silents given is more first last quiet mark = record {
  history = more;
  registered = given.registered;
  firsts =
      first
      ∙ (ap (λ (ns : List ℕ). ns ++ next ∷ []) given.firsts ∙ ap (λ (n : ℕ). s.firsts ++ n ∷ []) is);
  counts = last ∙ ap (λ (cs : List (Option ℤ)). cs ++ count ∷ []) given.counts;
  asks = quiet ∙ ap (λ (bs : List Bool). bs ++ false ∷ []) given.asks;
  silents = mark ∙ ap (λ (bs : List Bool). bs ++ silent ∷ []) given.silents;
  counts_used = given.counts_used;
  liveliness = given.liveliness;
  strength = given.strength;
}

-- with one fewer
pub stands-left : (kept : Kept) (s : WriterState) (reader : ℕ) (held : Held) (firsts : List ℕ)
    (counts : List (Option ℤ)) (asks silents : List Bool) → StandsFor kept s
    → HistoryStandsFor held (history_left (history_of s) reader)
    → firsts ≡ remove kept.firsts reader → counts ≡ remove kept.counts reader → asks ≡ remove kept.asks reader
    → silents ≡ remove kept.silents reader
    → StandsFor (record kept { history = held; firsts = firsts; counts = counts; asks = asks; silents = silents })
    (left s reader)
stands-left kept s reader held firsts counts asks silents given fewer first last others marks = record {
  history = fewer;
  registered = given.registered;
  firsts = first ∙ ap (λ (ns : List ℕ). remove ns reader) given.firsts;
  counts = last ∙ ap (λ (cs : List (Option ℤ)). remove cs reader) given.counts;
  asks = others ∙ ap (λ (bs : List Bool). remove bs reader) given.asks;
  silents = marks ∙ ap (λ (bs : List Bool). remove bs reader) given.silents;
  counts_used = given.counts_used;
  liveliness = given.liveliness;
  strength = given.strength;
}

-- with no reader that asks for a HEARTBEAT
pub stands-unasked : (kept : Kept) (s : WriterState) (asks : List Bool) → StandsFor kept s
    → asks ≡ map (λ (b : Bool). false) kept.asks → StandsFor (record kept { asks = asks }) (unasked s)
stands-unasked kept s asks given is = record {
  history = given.history;
  registered = given.registered;
  firsts = given.firsts;
  counts = given.counts;
  asks = is ∙ ap (λ (bs : List Bool). map (λ (b : Bool). false) bs) given.asks;
  silents = given.silents;
  counts_used = given.counts_used;
  liveliness = given.liveliness;
  strength = given.strength;
}
