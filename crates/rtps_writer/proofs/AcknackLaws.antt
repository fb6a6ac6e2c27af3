-- What an ACKNACK does to a writer.
use Rattle.std.proofs.Common.{◌≡◌, ℕ, ◌+◌, ◌<◌, Bool, true, false, ◌&&◌, List, [], get_or, set, Option, Some, None, ℤ, ap, sym, subst, ◌∙◌}
use Rattle.std.specs.Prelude.{if◌then◌else◌, nat_le}
use Rattle.std.proofs.lemmas.List.{get_or_default}
use Rattle.dds_base.specs.Kept.{acknowledge}
use Rattle.dds_base.specs.Counts.{is_later}
use Rattle.dds_history.specs.Standing.{Held, StandsFor as HistoryStandsFor}
use Rattle.rtps_sets.specs.NumberSet.{NumberSet}
use Rattle.rtps_writer.specs.declared.answer.Answer.{Answer}
use Rattle.rtps_writer.specs.Acknack.{acknack_answers, after_acknack, answers_after, applied, is_applied, newly_acknowledged}
use Rattle.rtps_writer.specs.Standing.{Kept, StandsFor, reader_count}
use Rattle.rtps_writer.specs.WriterState.{WriterState, history_of, last_of}

-- whether it is applied, by the last count that is kept
pub is_applied-at : (kept : Kept) (s : WriterState) (reader base : ℕ) (count : ℤ) (last : Option ℤ) → StandsFor kept s
    → reader < reader_count kept → last ≡ get_or kept.counts reader last
    → is_applied s reader base count ≡ (is_later last count && nat_le base (last_of s + 1))
is_applied-at kept s reader base count last given within is =
    let at : get_or s.counts reader None ≡ last =
    ap (λ (cs : List (Option ℤ)). get_or cs reader None) (sym given.counts)
    ∙ (sym (get_or_default kept.counts reader last None within) ∙ sym is) in
    ap (λ (o : Option ℤ). is_later o count && nat_le base (last_of s + 1)) at

after-applied : (s : WriterState) (reader base : ℕ) (count : ℤ) → is_applied s reader base count ≡ true
    → after_acknack s reader base count ≡ applied s reader base count
after-applied s reader base count is = ap (λ (b : Bool). if b then applied s reader base count else s) is

-- a writer to which one was applied
pub acknack-stands : (kept : Kept) (s : WriterState) (reader base : ℕ) (count : ℤ) (held : Held)
    (counts : List (Option ℤ)) → StandsFor kept s
    → HistoryStandsFor held (acknowledge (history_of s) reader base) → counts ≡ set kept.counts reader (Some count)
    → StandsFor (record kept { history = held; counts = counts }) (applied s reader base count)
acknack-stands kept s reader base count held counts given history put =
    record {
      history = history;
      registered = given.registered;
      firsts = given.firsts;
      counts = put ∙ ap (λ (cs : List (Option ℤ)). set cs reader (Some count)) given.counts;
      asks = given.asks;
      silents = given.silents;
      counts_used = given.counts_used;
      liveliness = given.liveliness;
      strength = given.strength;
    }

-- one that is applied, by what came of it
pub stands-applied : (kept : Kept) (s : WriterState) (reader base : ℕ) (count : ℤ)
    → is_applied s reader base count ≡ true
    → StandsFor kept (applied s reader base count) → StandsFor kept (after_acknack s reader base count)
stands-applied kept s reader base count is stands =
    subst (λ (x : WriterState). StandsFor kept x) (sym (after-applied s reader base count is)) stands

pub newly-applied : (s : WriterState) (reader base : ℕ) (count : ℤ) (newly : Option ℕ)
    → is_applied s reader base count ≡ true → newly ≡ newly_acknowledged s (applied s reader base count) reader
    → newly ≡ newly_acknowledged s (after_acknack s reader base count) reader
newly-applied s reader base count newly is same =
    same ∙ ap (λ (x : WriterState). newly_acknowledged s x reader) (sym (after-applied s reader base count is))

pub answers-applied : (s : WriterState) (reader base : ℕ) (set : NumberSet) (count : ℤ) (answers : List Answer)
    → is_applied s reader base count ≡ true → answers ≡ answers_after (applied s reader base count) reader base set
    → answers ≡ acknack_answers s reader base set count
answers-applied s reader base set count answers is same =
    same ∙ ap (λ (b : Bool). if b then answers_after (applied s reader base count) reader base set else []) (sym is)

-- one that is not
pub answers-ignored : (s : WriterState) (reader base : ℕ) (set : NumberSet) (count : ℤ) → is_applied s reader base count
    ≡ false → acknack_answers s reader base set count ≡ []
answers-ignored s reader base set count is =
    ap (λ (b : Bool). if b then answers_after (applied s reader base count) reader base set else []) is
