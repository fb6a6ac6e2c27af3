-- A reader of the peer is told of a writer that it may not know: what it refuses, and what it stands for then.
use Rattle.std.proofs.Common.{◌≡◌, ℕ, zero, suc, ◌+◌, ◌<◌, ◌≤◌, Bool, true, false, not, ◌&&◌, ◌||◌, List, [], ◌∷◌, ◌++◌, Option, Some, None, length, nat_le, slice_get, refl, ap, sym, ◌∙◌, subst, arith, ⊎_elim}
use Rattle.std.specs.Prelude.{is_some, if◌then◌else◌, Result, Ok, Err, IfErr}
use Rattle.std.specs.List.{list_any}
use Rattle.std.specs.Option.{option_or, option_map_or}
use Rattle.std.proofs.lemmas.Option.{same_Some}
use Rattle.std.proofs.lemmas.Bool.Decides.{nat_tests}
use Rattle.std.proofs.lemmas.List.{length-map}
use Rattle.dds_base.specs.declared.code.Code.{Code}
use Rattle.dds_base.specs.declared.code.Code.TheVariants.{Memory, OutOfResources, PreconditionNotMet}
use Rattle.dds_base.specs.declared.endpoint.Endpoint.{Endpoint}
use Rattle.dds_base.specs.declared.qos.MatchedWriter.{MatchedWriter}
use Rattle.dds_base.specs.Refusal.{Refuses}
use Rattle.dds_machine.specs.Matching.{happened_once_met, is_known, matching_refusal, max_known, reader_joined, reader_met, with_how, with_match}
use Rattle.dds_machine.specs.Part.{Away, Reader, Waiting, WriterProxy, how_of, is_attached, publication_among, row_of, same_endpoint}
use Rattle.dds_machine.proofs.Tables.{same_is}
use Rattle.dds_protocol.proofs.InOrder.{same_self}
use Rattle.rtps_reader.specs.Tracked.{Tracked}
use Rattle.dds_ends.specs.declared.matching.WriterName.{WriterName}
use Rattle.dds_ends.specs.Identity.{ReaderIdentity}
use Rattle.dds_ends.specs.Kept.{ReaderKept}
use Rattle.dds_ends.specs.Knowing.{KnowsMore, new_proxy}
use Rattle.dds_ends.specs.Meeting.{MeetsWriter, RefusesWriterSo, has_row}
use Rattle.dds_ends.specs.Parting.{Attaches}
use Rattle.dds_ends.specs.Standing.{HasNoRow, IsFirstRow, ReaderStands}
use Rattle.dds_ends.proofs.Alike.{last-cases}
use Rattle.dds_ends.proofs.Knowing.{none_there}
use Rattle.dds_ends.proofs.Parting.{IsMatchedSo, first_among, known_there}
use Rattle.dds_ends.proofs.Rows.{handle_is, proxied, writers_of}

-- ---- what it refuses

-- why it refuses to meet a writer that it knows or not, is matched with or not, where it knows as many as can be or fewer
abbrev refusal_by : (known matched full : Bool) → Option Code
refusal_by known matched full =
    option_or (matching_refusal true matched) (if not known && full then Some OutOfResources else None)

-- so it is, of one that it knows ..
pub knows_refusal : (kept : ReaderKept) (writer : Endpoint) (row : ℕ) (met : Bool) → IsFirstRow kept.writers writer row
    → IsMatchedSo kept row met
    → RefusesWriterSo kept writer (λ refusal. refusal ≡ (if met then Some PreconditionNotMet else None))
knows_refusal kept writer row met first is proxies r tracked s =
    ap (λ (b : Bool). refusal_by b (is_attached (how_of proxies writer)) (nat_le max_known (length proxies)))
    (known_there proxies writer row (first_among kept proxies r tracked writer row s first))
    ∙ (ap (λ (b : Bool). refusal_by true b (nat_le max_known (length proxies))) (sym (is writer proxies r tracked first s))
    ∙ by met)
  where
    by : (b : Bool) → refusal_by true b (nat_le max_known (length proxies)) ≡ (if b then Some PreconditionNotMet else None)
    by true = refl
    by false = refl

-- .. and of one that it does not know
pub new_refusal : (kept : ReaderKept) (writer : Endpoint) → HasNoRow kept.writers writer
    → RefusesWriterSo kept writer
    (λ refusal. refusal ≡ (if nat_le max_known (length kept.writers) then Some OutOfResources else None))
new_refusal kept writer none proxies r tracked s =
    let there : row_of (λ (p : WriterProxy). p.writer) proxies writer ≡ None =
    none_there kept.writers proxies writer s.writers_are none in
    ap (λ (o : Option WriterProxy). refusal_by (is_some o)
    (is_attached (option_map_or (λ (p : WriterProxy). p.how) o Away)) (nat_le max_known (length proxies))) there
    ∙ ap (λ (n : ℕ). if nat_le max_known n then Some OutOfResources else None) (as_many proxies kept s.writers_are)
  where
    as_many : (rows : List WriterProxy) (k : ReaderKept) → proxied rows ≡ writers_of k.writers
        → length rows ≡ length k.writers
    as_many rows k same =
        sym (length-map rows (λ (p : WriterProxy). p.writer))
        ∙ (ap (λ (es : List Endpoint). length es) same ∙ length-map k.writers (λ (n : WriterName). n.writer))

-- it is refused for its cause
pub refused_for : (kept : ReaderKept) (writer : Endpoint) (cause : Code)
    → RefusesWriterSo kept writer (λ refusal. refusal ≡ Some cause)
    → RefusesWriterSo kept writer (λ refusal. Refuses refusal cause)
refused_for kept writer cause so proxies r tracked s =
    subst (λ (o : Option Code). Refuses o cause) (sym (so proxies r tracked s)) refl

-- or for want of memory
pub refused_memory : {A : Type 0} (result : Result A Code) (kept : ReaderKept) (writer : Endpoint)
    → RefusesWriterSo kept writer (λ refusal. refusal ≡ None) → IfErr result (λ code. code ≡ Memory)
    → IfErr result (λ code. RefusesWriterSo kept writer (λ refusal. Refuses refusal code))
refused_memory (Ok x) kept writer none memory = tt
refused_memory (Err code) kept writer none memory = λ proxies r tracked s.
    subst (λ (o : Option Code). Refuses o code) (sym (none proxies r tracked s)) memory

-- one that is as many as can be, or fewer
pub full_refusal : (kept : ReaderKept) (writer : Endpoint) → HasNoRow kept.writers writer
    → max_known ≤ length kept.writers → RefusesWriterSo kept writer (λ refusal. refusal ≡ Some OutOfResources)
full_refusal kept writer none many proxies r tracked s =
    new_refusal kept writer none proxies r tracked s ∙ by (nat_le max_known (length kept.writers)) refl
  where
    by : (b : Bool) → nat_le max_known (length kept.writers) ≡ b → (if b then Some OutOfResources else None) ≡ Some OutOfResources
    by true e = refl
    by false e = absurd (grind (arith, nat_tests, e, many))

pub new_accepted : (kept : ReaderKept) (writer : Endpoint) → HasNoRow kept.writers writer
    → length kept.writers < max_known → RefusesWriterSo kept writer (λ refusal. refusal ≡ None)
new_accepted kept writer none few proxies r tracked s =
    new_refusal kept writer none proxies r tracked s ∙ by (nat_le max_known (length kept.writers)) refl
  where
    by : (b : Bool) → nat_le max_known (length kept.writers) ≡ b → (if b then Some OutOfResources else None) ≡ None
    by true e = absurd (grind (arith, nat_tests, e, few))
    by false e = refl

-- ---- what is looked through

-- what is so of the rows that were looked through is so of those of the reader
pub on_rows : {kept now : ReaderKept} {names : List WriterName} (P : List WriterName → Type 0) → kept ≡ now
    → names ≡ kept.writers → P names → P now.writers
on_rows P view is h = subst P (is ∙ ap (λ (k : ReaderKept). k.writers) view) h

-- as many as were counted
pub as_many : {kept now : ReaderKept} {len row : ℕ} → kept ≡ now → len ≡ length kept.writers → row ≡ len
    → row ≡ length now.writers
as_many view len is = is ∙ (len ∙ ap (λ (k : ReaderKept). length k.writers) view)

-- ---- what it stands for then

-- some row is of a writer that has one ..
any_row : (names : List WriterName) (w : Endpoint) (k : ℕ) (n : WriterName) → slice_get names k ≡ Some n → n.writer ≡ w
    → has_row names w ≡ true
any_row [] w k n at is = absurd (let nothing : ◌≡◌ {A = Option WriterName} None (Some n) = at in cc)
any_row (x ∷ xs) w zero n at is =
    ap (λ (y : WriterName). same_endpoint y.writer w || list_any (λ (z : WriterName). same_endpoint z.writer w) xs)
    (same_Some x n at)
    ∙ (ap (λ (e : Endpoint). same_endpoint e w || list_any (λ (z : WriterName). same_endpoint z.writer w) xs) is
    ∙ ap (λ (b : Bool). b || list_any (λ (z : WriterName). same_endpoint z.writer w) xs) (same_self w))
any_row (x ∷ xs) w (suc k) n at is = by (same_endpoint x.writer w) (any_row xs w k n at is)
  where
    by : (b : Bool) → has_row xs w ≡ true → (b || has_row xs w) ≡ true
    by true e = refl
    by false e = e

-- .. and none of another
no_row_is : (names : List WriterName) (w : Endpoint) → HasNoRow names w → has_row names w ≡ false
no_row_is [] w none = refl
no_row_is (x ∷ xs) w none =
    by (same_endpoint x.writer w) refl (no_row_is xs w (λ j n at is. none (suc j) n at is))
  where
    by : (b : Bool) → same_endpoint x.writer w ≡ b → has_row xs w ≡ false → (b || has_row xs w) ≡ false
    by true e rest = absurd (none zero x refl (same_is x.writer w e))
    by false e rest = rest

-- it knew the writer
pub meets_known : (old new : ReaderKept) (name : WriterName) (as_writer : MatchedWriter) (row : ℕ)
    → IsFirstRow old.writers name.writer row → Attaches old row new → MeetsWriter old name as_writer row new
meets_known old new name as_writer row first attaches =
    let writers : new.writers ≡ old.writers = ap (λ (i : ReaderIdentity). i.writers) attaches.same in
    record {
      entity = ap (λ (i : ReaderIdentity). i.entity) attaches.same;
      reliable = ap (λ (i : ReaderIdentity). i.reliable) attaches.same;
      writers =
          writers
          ∙ sym (ap (λ (b : Bool). if b then old.writers else old.writers ++ name ∷ [])
          (any_row old.writers name.writer row first.name first.at first.is));
      stands = λ proxies r tracked s.
          let known : is_known proxies name.writer ≡ true =
          known_there proxies name.writer row (first_among old proxies r tracked name.writer row s first) in
          subst (λ (b : Bool). ReaderStands new (with_match proxies name.writer)
          (record (reader_joined r name.writer) { happened = happened_once_met b as_writer r.happened }) tracked)
          (sym known) (attaches.stands name.writer proxies r tracked first s);
      at = subst (λ (ns : List WriterName). IsFirstRow ns name.writer row) (sym writers) first;
    }

-- the last of more rows
last_row : (names : List WriterName) (name : WriterName) → HasNoRow names name.writer
    → IsFirstRow (names ++ name ∷ []) name.writer (length names)
last_row names name none = record {
  name = name;
  at = at_end names;
  is = refl;
  first = λ j n lt at is.
      ⊎_elim (λ last. let end = last.0 in absurd (omega (arith, end, lt))) (λ before. none j n before.1 is)
      (last-cases names name j n at);
}
  where
    at_end : (ns : List WriterName) → slice_get (ns ++ name ∷ []) (length ns) ≡ Some name
    at_end [] = refl
    at_end (x ∷ xs) = at_end xs

-- it did not know the writer
pub meets_new : (old new : ReaderKept) (name : WriterName) (as_writer : MatchedWriter) (row : ℕ)
    → HasNoRow old.writers name.writer → row ≡ length old.writers → KnowsMore old name as_writer new
    → MeetsWriter old name as_writer row new
meets_new old new name as_writer row none last more = record {
  entity = more.entity;
  reliable = more.reliable;
  writers =
      more.writers
      ∙ sym (ap (λ (b : Bool). if b then old.writers else old.writers ++ name ∷ []) (no_row_is old.writers name.writer none));
  stands = λ proxies r tracked s.
      let unknown : is_known proxies name.writer ≡ false =
      ap (λ (o : Option WriterProxy). is_some o) (none_there old.writers proxies name.writer s.writers_are none) in
      subst (λ (b : Bool). ReaderStands new
      (if b then with_how proxies name.writer Waiting else proxies ++ new_proxy name.writer ∷ [])
      (record (reader_joined r name.writer) { happened = happened_once_met b as_writer r.happened }) tracked)
      (sym unknown) (more.stands none proxies r tracked s);
  at =
      subst (λ (ns : List WriterName). IsFirstRow ns name.writer row) (sym more.writers)
      (subst (λ (n : ℕ). IsFirstRow (old.writers ++ name ∷ []) name.writer n) (sym last)
      (last_row old.writers name none));
}

-- the publication handle of the writer that was met
pub handle_once_met : (old new : ReaderKept) (name : WriterName) (as_writer : MatchedWriter) (row : ℕ)
    (proxies : List WriterProxy) (r : Reader) (tracked : Endpoint → Tracked)
    → MeetsWriter old name as_writer row new → ReaderStands old proxies r tracked
    → publication_among (with_match proxies name.writer) name.writer ≡ Some (row + 1)
handle_once_met old new name as_writer row proxies r tracked meets s =
    handle_is (with_match proxies name.writer) name.writer row
    (first_among new (with_match proxies name.writer) (reader_met proxies r name.writer as_writer) tracked name.writer row
    (meets.stands proxies r tracked s) meets.at)
