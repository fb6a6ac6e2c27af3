-- A call that tells does what a telling does: what holds of calls that tell nobody anything, and of tellings, holds of
-- every call. And what a telling leaves of rows.
use Rattle.std.proofs.Common.{◌≡◌, ◌⊎◌, ℕ, Bool, true, false, List, [], ◌∷◌, ◌++◌, Option, None, Some, length, refl, subst, ap, sym, ◌∙◌, inl, inr, ⊎_elim}
use Rattle.std.specs.Prelude.{if◌then◌else◌}
use Rattle.std.specs.Option.{option_map}
use Rattle.std.proofs.lemmas.Option.{same_Some}
use Rattle.dds_base.specs.declared.code.Code.{Code}
use Rattle.dds_base.specs.declared.endpoint.Endpoint.{Endpoint}
use Rattle.dds_machine.specs.declared.call.Call.{Call}
use Rattle.dds_machine.specs.declared.call.Call.TheVariants as call
use Rattle.dds_machine.specs.declared.reply.Reply.{Reply}
use Rattle.dds_machine.specs.declared.reply.Reply.TheVariants.{Done, InstanceHandle, LivelinessLost, Matched}
use Rattle.dds_machine.specs.Calls.{Answers, CallStep, Effect, nothing, writes, tells, looks_at_matches, effect, effect_of, far_reader_told, reader_told, far_writer_told}
use Rattle.dds_machine.specs.Matching.{Telling, MatchReader, UnmatchReader, MatchWriter, UnmatchWriter, MeetReader, MeetWriter, TellStep, after_telling, is_known, joined, left, met, seen_after_telling, telling_refusal, with_how, with_match}
use Rattle.dds_machine.specs.Numbered.{numbered, with_numbered}
use Rattle.dds_machine.specs.Part.{Attachment, Away, Waiting, Dds, Part, Rtps, TopicReader, Writer, WriterProxy, no_writer, place_of, row_of}
use Rattle.dds_machine.specs.Watching.{Tests}
use Rattle.dds_machine.proofs.Tables.{field-stays, length-with_numbered, no_less_same, numbered-cases, row-append}
use Rattle.dds_protocol.proofs.Owing.{Covered, covered_joined, covered_left, covered_met, met_of}
use Rattle.dds_protocol.proofs.Growth.{Grows, Untold, grows_same, new_row, telling-grows}

-- ---- a step

-- what a telling does, or leaves where it is refused
abbrev pub after_told : Part → Telling → Part
after_told old t = record { rtps = after_telling old.rtps t; dds = seen_after_telling old t }

-- so what holds of both holds of a step
pub told_so : (R : Part → Part → Type 0) (old : Part) (t : Telling) → R old old → R old (after_told old t)
    → (refusal : Option Code) (new : Part) → TellStep old t refusal new → R old new
told_so R old t same done None new h = subst (λ (p : Part). R old p) (sym h.1) done
told_so R old t same done (Some code) new h = subst (λ (p : Part). R old p) (sym h.2) same

pub TellStep-grows : (old : Part) (t : Telling) (refusal : Option Code) (new : Part) → TellStep old t refusal new
    → Grows old.rtps new.rtps
TellStep-grows old t refusal new h =
    told_so (λ a b. Grows a.rtps b.rtps) old t (grows_same old.rtps) (telling-grows old.rtps t) refusal new h

-- ---- a call

-- what an effect tells, if it tells something
abbrev told_by : Effect → Option Telling
told_by (tells t) = Some t
told_by e = None

-- what the answer says of a telling, where the effect is to tell this one
abbrev SaysTold : Part → Telling → Dds → Type 0
SaysTold old t new = (telling_refusal old t ≡ None) × (new ≡ seen_after_telling old t)

said : (old : Part) (t : Telling) (new : Dds) (o : Option Telling) → SaysTold old t new → Some t ≡ o
    → (u : Telling) → o ≡ Some u → SaysTold old u new
said old t new o says is u e = subst (λ (x : Telling). SaysTold old x new) (same_Some t u (is ∙ e)) says

answer_says : (tests : Tests) (old : Part) (c : Call) (reply : Reply) (new : Dds) → Answers tests old c reply new
    → (t : Telling) → told_by (effect_of old c reply) ≡ Some t → SaysTold old t new
answer_says tests old (call.MatchReader v r greeted) Done new a t e =
    said old (reader_told old v r) new _ (a.0, a.2) refl t e
answer_says tests old (call.MatchReader v r greeted) reply new a t e = cc
answer_says tests old (call.UnmatchReader v r) Done new a t e = said old (UnmatchReader v r) new _ (a.0, a.2) refl t e
answer_says tests old (call.UnmatchReader v r) reply new a t e = cc
answer_says tests old (call.MatchWriter v w) (InstanceHandle handle) new a t e =
    said old (MatchWriter v w) new _ (a.0, a.2) refl t e
answer_says tests old (call.MatchWriter v w) reply new a t e = cc
answer_says tests old (call.UnmatchWriter v w) Done new a t e = said old (UnmatchWriter v w) new _ (a.0, a.2) refl t e
answer_says tests old (call.UnmatchWriter v w) reply new a t e = cc
answer_says tests old (call.MeetReader v far greeted) Done new a t e =
    said old (far_reader_told v far) new _ (a.0, a.2) refl t e
answer_says tests old (call.MeetReader v far greeted) reply new a t e = cc
answer_says tests old (call.MeetWriter v far) (InstanceHandle handle) new a t e =
    said old (far_writer_told v far) new _ (a.0, a.2) refl t e
answer_says tests old (call.MeetWriter v far) reply new a t e = cc
answer_says tests old (call.Register v key) Done new a t e = cc
answer_says tests old (call.Write v key value) Done new a t e = cc
answer_says tests old (call.Dispose v key) Done new a t e = cc
answer_says tests old (call.Unregister v key) Done new a t e = cc
answer_says tests old (call.AssertLiveliness v) Done new a t e = cc
answer_says tests old (call.SetStrength v strength) Done new a t e = cc
answer_says tests old (call.GetLivelinessLost v) (LivelinessLost status) new a t e = cc
answer_says tests old (call.GetPublicationMatched v) (Matched status) new a t e = cc
answer_says tests old c reply new a t e = cc

-- a call tells nobody anything, or is a telling that is done
pub untold_or_told : (tests : Tests) (old : Part) (c : Call) (reply : Reply) (new : Part)
    → CallStep tests old c reply new
    → Untold (effect_of old c reply) ⊎ ((t : Telling) × TellStep old t None new)
untold_or_told tests old c reply new h = by (effect_of old c reply) refl h.rtps
  where
    by : (e : Effect) → effect_of old c reply ≡ e → new.rtps ≡ effect old.rtps e
        → Untold e ⊎ ((t : Telling) × TellStep old t None new)
    by nothing is rtps = inl tt
    by (writes w entry) is rtps = inl tt
    by (looks_at_matches w) is rtps = inl tt
    by (tells t) is rtps =
        let says : SaysTold old t new.dds =
        answer_says tests old c reply new.dds h.answers t (ap (λ (e : Effect). told_by e) is) in
        inr (
          t,
          (
            says.0,
            ap (λ (r : Rtps). let p : Part = record { rtps = r; dds = new.dds } in p) rtps
                ∙ ap (λ (d : Dds). let p : Part = record { rtps = after_telling old.rtps t; dds = d } in p) says.1,
          ),
        )

-- ---- the rows of a reader

-- what is there of a row was there before, or the row is new
abbrev pub OrNew : {V : Type 0} → Option V → Option V → V → Type 0
OrNew {V} after before fresh = (after ≡ before) ⊎ ((before ≡ None) × (after ≡ Some fresh))

abbrev row : List WriterProxy → Endpoint → Option WriterProxy
row rows w = row_of (λ (p : WriterProxy). p.writer) rows w

appended : {V : Type 0} (field : WriterProxy → V) (rows : List WriterProxy) (w v : Endpoint)
    → OrNew (option_map field (row (rows ++ new_row w ∷ []) v)) (option_map field (row rows v)) (field (new_row w))
appended {V} field rows w v =
    ⊎_elim (λ e. inl (ap (λ (o : Option WriterProxy). option_map field o) e))
    (λ s. inr (ap (λ (o : Option WriterProxy). option_map field o) s.0, ap (λ (o : Option WriterProxy). option_map field o) s.1))
    (row-append (λ (p : WriterProxy). p.writer) rows (new_row w) v)

matched_or_new : {V : Type 0} (field : WriterProxy → V)
    → ((p : WriterProxy) (how : Attachment) → field (record p { how = how }) ≡ field p)
    → (rows : List WriterProxy) (w v : Endpoint)
    → OrNew (option_map field (row (with_match rows w) v)) (option_map field (row rows v)) (field (new_row w))
matched_or_new {V} field kept rows w v = by (is_known rows w)
  where
    by : (b : Bool)
        → OrNew (option_map field (row (if b then with_how rows w Waiting else rows ++ new_row w ∷ []) v))
        (option_map field (row rows v)) (field (new_row w))
    by true =
        inl (field-stays (λ (p : WriterProxy). p.writer) (λ (p : WriterProxy). record p { how = Waiting }) field
        (λ p. refl) (λ p. kept p Waiting) rows w v)
    by false = appended field rows w v

-- the rows of a reader that is told of a writer, among those of all readers
match_rows : {V : Type 0} (field : WriterProxy → V) (fresh : V)
    → ((p : WriterProxy) (how : Attachment) → field (record p { how = how }) ≡ field p)
    → ((w : Endpoint) → field (new_row w) ≡ fresh) → (old : Rtps) (k : ℕ) (v : Endpoint) (r : ℕ) (w : Endpoint)
    → OrNew (option_map field
    (row (numbered (with_numbered old.readers k (with_match (numbered old.readers k []) v)) r []) w))
    (option_map field (row (numbered old.readers r []) w)) fresh
match_rows {V} field fresh kept is old k v r w =
    let rows : List WriterProxy = numbered old.readers k [] in
    let of : List WriterProxy → Option V = λ xs. option_map field (row xs w) in
    ⊎_elim (λ e. inl (ap of e))
    (λ s.
    subst (λ (o : Option V). OrNew o (of (numbered old.readers r [])) fresh) (sym (ap of s.1))
    (subst (λ (j : ℕ). OrNew (of (with_match rows v)) (of (numbered old.readers j [])) fresh) (sym s.0)
    (subst (λ (x : V). OrNew (of (with_match rows v)) (of rows) x) (is v) (matched_or_new field kept rows v w))))
    (numbered-cases old.readers k (with_match rows v) r [])

-- A field of a reader's rows other than how it stands to a writer, and other than the writer, stays at a telling, or the
-- row is new.
pub telling_rows : {V : Type 0} (field : WriterProxy → V) (fresh : V)
    → ((p : WriterProxy) (how : Attachment) → field (record p { how = how }) ≡ field p)
    → ((w : Endpoint) → field (new_row w) ≡ fresh) → (old : Rtps) (t : Telling) (r : ℕ) (w : Endpoint)
    → OrNew (option_map field (row (numbered (after_telling old t).readers r []) w))
    (option_map field (row (numbered old.readers r []) w)) fresh
telling_rows {V} field fresh kept is old (MatchReader k v reliable) r w = inl refl
telling_rows {V} field fresh kept is old (UnmatchReader k v) r w = inl refl
telling_rows {V} field fresh kept is old (MatchWriter k v) r w = match_rows field fresh kept is old k v r w
telling_rows {V} field fresh kept is old (UnmatchWriter k v) r w =
    let rows : List WriterProxy = numbered old.readers k [] in
    let of : List WriterProxy → Option V = λ xs. option_map field (row xs w) in
    ⊎_elim (λ e. inl (ap of e))
    (λ s. inl (ap of s.1
    ∙ (field-stays (λ (p : WriterProxy). p.writer) (λ (p : WriterProxy). record p { how = Away }) field
    (λ p. refl) (λ p. kept p Away) rows v w
    ∙ ap (λ (j : ℕ). of (numbered old.readers j [])) (sym s.0))))
    (numbered-cases old.readers k (with_how rows v Away) r [])
telling_rows {V} field fresh kept is old (MeetReader k v) r w = inl refl
telling_rows {V} field fresh kept is old (MeetWriter k v as_writer) r w = match_rows field fresh kept is old k v r w

-- a place that is there was there, or there was none and it is 1
pub telling_places : (old : Rtps) (t : Telling) (r : ℕ) (w : Endpoint)
    → OrNew (place_of (numbered (after_telling old t).readers r []) w) (place_of (numbered old.readers r []) w) 1
telling_places old t r w = telling_rows (λ (p : WriterProxy). p.place) 1 (λ p how. refl) (λ v. refl) old t r w

-- ---- the writers

-- the number of writers
pub telling_count : (old : Rtps) (t : Telling) → length (after_telling old t).writers ≡ length old.writers
telling_count old (MatchReader w r reliable) =
    length-with_numbered old.writers w (joined (numbered old.writers w no_writer) r reliable)
telling_count old (UnmatchReader w r) =
    length-with_numbered old.writers w (left (numbered old.writers w no_writer) r)
telling_count old (MatchWriter r w) = refl
telling_count old (UnmatchWriter r w) = refl
telling_count old (MeetReader w r) =
    length-with_numbered old.writers w (met (numbered old.writers w no_writer) r.end r.reliable)
telling_count old (MeetWriter r w as_writer) = refl

-- a value of a writer that no match changes
telling_put : {X : Type 0} (f : Writer → X) (ws : List Writer) (k : ℕ) (after : Writer)
    → f after ≡ f (numbered ws k no_writer) → (w : ℕ)
    → f (numbered (with_numbered ws k after) w no_writer) ≡ f (numbered ws w no_writer)
telling_put {X} f ws k after same w =
    ⊎_elim (λ e. ap f e) (λ s. ap f s.1 ∙ (same ∙ ap (λ (j : ℕ). f (numbered ws j no_writer)) (sym s.0)))
    (numbered-cases ws k after w no_writer)

pub telling_keeps : {X : Type 0} (f : Writer → X) → ((w : Writer) (v : Endpoint) (b : Bool) → f (joined w v b) ≡ f w)
    → ((w : Writer) (v : Endpoint) → f (left w v) ≡ f w)
    → ((w : Writer) (ks : List TopicReader) → f (record w { known = ks }) ≡ f w) → (old : Rtps) (t : Telling) (w : ℕ)
    → f (numbered (after_telling old t).writers w no_writer) ≡ f (numbered old.writers w no_writer)
telling_keeps {X} f joining leaving knows old (MatchReader k r reliable) w =
    let before : Writer = numbered old.writers k no_writer in
    telling_put f old.writers k (joined before r reliable) (joining before r reliable) w
telling_keeps {X} f joining leaving knows old (UnmatchReader k r) w =
    let before : Writer = numbered old.writers k no_writer in
    telling_put f old.writers k (left before r) (leaving before r) w
telling_keeps {X} f joining leaving knows old (MatchWriter r v) w = refl
telling_keeps {X} f joining leaving knows old (UnmatchWriter r v) w = refl
telling_keeps {X} f joining leaving knows old (MeetReader k r) w =
    let before : Writer = numbered old.writers k no_writer in
    telling_put f old.writers k (met before r.end r.reliable)
    (met_of (λ x. f x ≡ f before) before r.end r.reliable
    (λ ks b. joining (record before { known = ks }) r.end b ∙ knows before ks)) w
telling_keeps {X} f joining leaving knows old (MeetWriter r v as_writer) w = refl

-- the number of readers with rows
pub telling_readers : (old : Rtps) (t : Telling) → length (after_telling old t).readers ≡ length old.readers
telling_readers old (MatchReader w r reliable) = refl
telling_readers old (UnmatchReader w r) = refl
telling_readers old (MatchWriter r w) =
    length-with_numbered old.readers r (with_match (numbered old.readers r []) w)
telling_readers old (UnmatchWriter r w) =
    length-with_numbered old.readers r (with_how (numbered old.readers r []) w Away)
telling_readers old (MeetReader w r) = refl
telling_readers old (MeetWriter r w as_writer) =
    length-with_numbered old.readers r (with_match (numbered old.readers r []) w)

-- ---- what is acknowledged

set_covered : (ws : List Writer) (w : ℕ) (after : Writer) (r : Endpoint) (place : ℕ → Option ℕ)
    → (Covered (numbered ws w no_writer) r (place w) → Covered after r (place w)) → (k : ℕ)
    → Covered (numbered ws k no_writer) r (place k) → Covered (numbered (with_numbered ws w after) k no_writer) r (place k)
set_covered ws w after r place f k h =
    ⊎_elim (λ e. subst (λ (x : Writer). Covered x r (place k)) (sym e) h)
    (λ s.
    subst (λ (x : Writer). Covered x r (place k)) (sym s.1)
    (subst (λ (j : ℕ). Covered after r (place j)) (sym s.0)
    (f (subst (λ (j : ℕ). Covered (numbered ws j no_writer) r (place j)) s.0 h))))
    (numbered-cases ws w after k no_writer)

-- no reader has acknowledged more than it has or is not owed
pub telling_covered : (old : Rtps) (t : Telling) (r : Endpoint) (place : ℕ → Option ℕ) (k : ℕ)
    → Covered (numbered old.writers k no_writer) r (place k)
    → Covered (numbered (after_telling old t).writers k no_writer) r (place k)
telling_covered old (MatchReader w v reliable) r place k h =
    let before : Writer = numbered old.writers w no_writer in
    set_covered old.writers w (joined before v reliable) r place
    (λ c. covered_joined before v reliable r (place w) (no_less_same (place w)) c) k h
telling_covered old (UnmatchReader w v) r place k h =
    let before : Writer = numbered old.writers w no_writer in
    set_covered old.writers w (left before v) r place
    (λ c. covered_left before v r (place w) (no_less_same (place w)) c) k h
telling_covered old (MatchWriter n w) r place k h = h
telling_covered old (UnmatchWriter n w) r place k h = h
telling_covered old (MeetReader w v) r place k h =
    let before : Writer = numbered old.writers w no_writer in
    set_covered old.writers w (met before v.end v.reliable) r place
    (λ c. covered_met before v.end v.reliable r (place w) (no_less_same (place w)) c) k h
telling_covered old (MeetWriter n w as_writer) r place k h = h
