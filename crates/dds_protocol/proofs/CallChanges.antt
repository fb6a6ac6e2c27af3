-- What a call may change of what its peer's own calls see, whatever it answers. A law about all calls goes by these few
-- cases, and has no rows by call.
use Rattle.std.proofs.Common.{◌≡◌, ℕ, Bool, true, false, List, [], ◌∷◌, ◌++◌, map, refl, sym, subst, inl, inr}
use Rattle.std.specs.Prelude.{Option, Some, None, set}
use Rattle.std.specs.Option.{option_map_or}
use Rattle.dds_base.specs.declared.code.Code.{Code}
use Rattle.dds_base.specs.declared.code.Code.TheVariants.{NoData}
use Rattle.dds_base.specs.declared.entity.Entity.{Entity}
use Rattle.dds_base.specs.declared.entity.Entity.TheVariants.{Participant, Writer, Reader}
use Rattle.dds_base.specs.declared.happening.Happening.{Happening}
use Rattle.dds_base.specs.declared.happening.Happening.TheVariants.{Read as HasRead, Took}
use Rattle.dds_base.specs.declared.happening.SamplePosition.{SamplePosition}
use Rattle.dds_base.specs.declared.selection.Selection.{Selection}
use Rattle.dds_notices.specs.declared.mask.StatusMask.{StatusMask}
use Rattle.dds_conditions.specs.declared.condition.Cond.{Cond}
use Rattle.dds_conditions.specs.declared.waiting.Waiting.{Waiting}
use Rattle.dds_conditions.specs.Watched.{Watched, with_enabled, without}
use Rattle.dds_machine.specs.declared.call.Call.{Call}
use Rattle.dds_machine.specs.declared.call.Call.TheVariants as call
use Rattle.dds_machine.specs.declared.reply.Reply.{Reply}
use Rattle.dds_machine.specs.declared.reply.Reply.TheVariants.{Done, InstanceHandle, Samples, KeyValue, Refused}
use Rattle.dds_machine.specs.Part.{Part, Dds, Seen, own_proxies, publication_among}
use Rattle.dds_machine.specs.Calls.{after_look, after_matches_look, with_happening, IsDoneUnless, IsAnswered, IsAnsweredInMemory, AnswersLook, AnswersAccess, AnswersByCondition, AnswersTelling, Answers, handle_once_met, far_reader_told, reader_told, far_writer_told}
use Rattle.dds_machine.specs.Matching.{Telling, MatchReader, UnmatchReader, MatchWriter, UnmatchWriter, MeetReader, MeetWriter, seen_after_telling}
use Rattle.dds_machine.specs.Watching.{Test, Tests}

-- of the WaitSets: nothing; one of them is another, or none; there is one more; or a condition is detached from each
pub data SetsChange (old new : List (Option Waiting)) : Type 0 where
  as_before : new ≡ old → SetsChange old new
  one_changed : (index : ℕ) (wait_set : Option Waiting) → new ≡ set old index wait_set → SetsChange old new
  one_made : (wait_set : Option Waiting) → new ≡ old ++ wait_set ∷ [] → SetsChange old new
  all_without : (c : Cond) → new ≡ map (without c) old → SetsChange old new

-- nothing; an access is entered at a reader; a reader's statuses were looked at; this is watched from then on, with the
-- filters that there were; an end is told of a match, or that it is over; or a reader's matches were looked at
pub data CallChange (old : Part) (new : Dds) : Type 0 where
  unchanged : new ≡ old.dds → CallChange old new
  reads : (reader : ℕ) (samples : List SamplePosition) → new ≡ with_happening old reader (HasRead samples)
      → CallChange old new
  takes : (reader : ℕ) (samples : List SamplePosition) → new ≡ with_happening old reader (Took samples)
      → CallChange old new
  looks : (reader : ℕ) (seen : Seen) → new ≡ after_look old reader seen → CallChange old new
  watches : (after : Watched) → after.filters ≡ old.dds.watch.filters
      → SetsChange old.dds.watch.wait_sets after.wait_sets → new ≡ record old.dds { watch = after }
      → CallChange old new
  is_told : (telling : Telling) → new ≡ seen_after_telling old telling → CallChange old new
  sees_matches : (reader : ℕ) → new ≡ after_matches_look old reader → CallChange old new

-- a telling leaves what is watched
pub telling_watch : (old : Part) (t : Telling) → (seen_after_telling old t).watch ≡ old.dds.watch
telling_watch old (MatchReader w v reliable) = refl
telling_watch old (UnmatchReader w v) = refl
telling_watch old (MatchWriter r w) = refl
telling_watch old (UnmatchWriter r w) = refl
telling_watch old (MeetReader w v) = refl
telling_watch old (MeetWriter r w as_writer) = refl

-- ---- by what is then there

by_look : (old : Part) (reader : ℕ) (seen : Seen) → CallChange old (after_look old reader seen)
by_look old reader seen = looks reader seen refl

by_matches : (old : Part) (reader : ℕ) → CallChange old (after_matches_look old reader)
by_matches old reader = sees_matches reader refl

by_watch : (old : Part) (after : Watched) → after.filters ≡ old.dds.watch.filters
    → SetsChange old.dds.watch.wait_sets after.wait_sets → CallChange old (record old.dds { watch = after })
by_watch old after filters sets = watches after filters sets refl

enabled_filters : (w : Watched) (e : Entity) (mask : StatusMask) → (with_enabled w e mask).filters ≡ w.filters
enabled_filters w Participant mask = refl
enabled_filters w (Writer n) mask = refl
enabled_filters w (Reader n) mask = refl

enabled_sets : (w : Watched) (e : Entity) (mask : StatusMask)
    → SetsChange w.wait_sets (with_enabled w e mask).wait_sets
enabled_sets w Participant mask = as_before refl
enabled_sets w (Writer n) mask = as_before refl
enabled_sets w (Reader n) mask = as_before refl

by_one : (sets : List (Option Waiting)) (index : ℕ) (wait_set : Option Waiting)
    → SetsChange sets (set sets index wait_set)
by_one sets index wait_set = one_changed index wait_set refl

by_making : (sets : List (Option Waiting)) (wait_set : Option Waiting) → SetsChange sets (sets ++ wait_set ∷ [])
by_making sets wait_set = one_made wait_set refl

by_detaching : (sets : List (Option Waiting)) (c : Cond) → SetsChange sets (map (without c) sets)
by_detaching sets c = all_without c refl

ruleset after_calls = (
  unchanged,
  by_look,
  by_matches,
  by_watch,
  as_before,
  by_one,
  by_making,
  by_detaching,
  enabled_filters,
  enabled_sets,
)

-- ---- by the form of an answer

done_or_not : (refusal : Option Code) (reply : Reply) (old : Part) (new : Dds)
    → IsDoneUnless refusal reply old.dds old.dds new → CallChange old new
done_or_not refusal Done old new a = unchanged a.1
done_or_not refusal (Refused code) old new a = unchanged a.1
done_or_not refusal reply old new a = absurd a

answered : (refusal : Option Code) (answer : Reply) (after : Dds) (old : Part) (reply : Reply) (new : Dds)
    → CallChange old after → IsAnswered refusal answer after old reply new → CallChange old new
answered (Some code) answer after old reply new change a = unchanged a.1
answered None answer after old reply new change a = subst (λ (d : Dds). CallChange old d) (sym a.1) change

in_memory : (needs : Bool) (refusal : Option Code) (answer : Reply) (after : Watched) (old : Part) (reply : Reply)
    (new : Dds) → CallChange old (record old.dds { watch = after })
    → IsAnsweredInMemory needs refusal answer after old reply new → CallChange old new
in_memory needs refusal answer after old reply new change (inl a) =
    answered refusal answer (record old.dds { watch = after }) old reply new change a
in_memory needs refusal answer after old reply new change (inr a) = unchanged a.3

looked : (active : List Cond) (timed_out : Bool) (old : Part) (wait_set : ℕ) (reply : Reply) (new : Dds)
    → AnswersLook active timed_out old wait_set reply new → CallChange old new
looked [] true old wait_set reply new a = answered _ _ _ old reply new (search after_calls) a
looked [] false old wait_set reply new a = answered _ _ _ old reply new (search after_calls) a
looked (c ∷ cs) timed_out old wait_set reply new a = in_memory _ _ _ _ old reply new (search after_calls) a

-- an access, whose entry is a change
accessed : (entry : List SamplePosition → Happening) (old : Part) (k : ℕ) (new : Dds)
    → ((samples : List SamplePosition) → new ≡ with_happening old k (entry samples) → CallChange old new)
    → (test : Test) (selection : Selection) (reply : Reply) → AnswersAccess entry test old k selection reply new
    → CallChange old new
accessed entry old k new enters test selection (Samples samples) a = enters _ a.3
accessed entry old k new enters test selection (Refused NoData) a = enters _ a.2
accessed entry old k new enters test selection (Refused code) a = unchanged a.1
accessed entry old k new enters test selection reply a = absurd a

by_condition : (entry : List SamplePosition → Happening) (old : Part) (k : ℕ) (new : Dds)
    → ((samples : List SamplePosition) → new ≡ with_happening old k (entry samples) → CallChange old new)
    → (refusal : Option Code) (test : Test) (selection : Selection) (reply : Reply)
    → AnswersByCondition entry refusal test old k selection reply new → CallChange old new
by_condition entry old k new enters (Some code) test selection reply a = unchanged a.1
by_condition entry old k new enters None test selection reply a =
    accessed entry old k new enters test selection reply a

-- a telling
told_or_not : (telling : Telling) (answer : Reply) (old : Part) (reply : Reply) (new : Dds)
    → AnswersTelling telling answer old reply new → CallChange old new
told_or_not telling answer old (Refused code) new a = unchanged a.2
told_or_not telling answer old reply new a = is_told telling a.2

-- what any call may change; the last row is for those that need no memory, and are answered in one way
pub changes_of : (tests : Tests) (old : Part) (c : Call) (reply : Reply) (new : Dds)
    → Answers tests old c reply new → CallChange old new
changes_of tests old (call.Register v key) reply new a = in_memory _ _ _ _ old reply new (search after_calls) a
changes_of tests old (call.Write v key value) reply new a = done_or_not _ reply old new a
changes_of tests old (call.Dispose v key) reply new a = done_or_not _ reply old new a
changes_of tests old (call.Unregister v key) reply new a = done_or_not _ reply old new a
changes_of tests old (call.Read v selection) reply new a = accessed HasRead old v new (reads v) _ selection reply a
changes_of tests old (call.Take v selection) reply new a = accessed Took old v new (takes v) _ selection reply a
changes_of tests old (call.GetKeyValue v instance) (KeyValue key) new a = unchanged a.2
changes_of tests old (call.GetKeyValue v instance) (Refused code) new a = unchanged a.1
changes_of tests old (call.GetKeyValue v instance) reply new a = absurd a
changes_of tests old (call.ReadByCondition v scope c) reply new a =
    by_condition HasRead old v new (reads v) _ _ _ reply a
changes_of tests old (call.TakeByCondition v scope c) reply new a =
    by_condition Took old v new (takes v) _ _ _ reply a
changes_of tests old (call.CreateReadCondition v masks) reply new a =
    in_memory _ _ _ _ old reply new (search after_calls) a
changes_of tests old (call.CreateQueryCondition v masks filter) reply new a =
    in_memory _ _ _ _ old reply new (search after_calls) a
changes_of tests old call.CreateGuardCondition reply new a = in_memory _ _ _ _ old reply new (search after_calls) a
changes_of tests old call.CreateWaitSet reply new a = in_memory _ _ _ _ old reply new (search after_calls) a
changes_of tests old (call.AttachCondition s c) reply new a = in_memory _ _ _ _ old reply new (search after_calls) a
changes_of tests old (call.GetConditions s) reply new a = in_memory _ _ _ _ old reply new (search after_calls) a
changes_of tests old (call.WaitLook s) reply new a = looked _ _ old s reply new a
changes_of tests old (call.MatchReader v r greeted) reply new a =
    told_or_not (reader_told old v r) Done old reply new a
changes_of tests old (call.UnmatchReader v r) reply new a = told_or_not (UnmatchReader v r) Done old reply new a
changes_of tests old (call.MatchWriter v w) reply new a =
    told_or_not (MatchWriter v w) (InstanceHandle (option_map_or (λ handle. handle) (publication_among (own_proxies old v) w) 0)) old reply new a
changes_of tests old (call.UnmatchWriter v w) reply new a = told_or_not (UnmatchWriter v w) Done old reply new a
changes_of tests old (call.MeetReader v far greeted) reply new a =
    told_or_not (far_reader_told v far) Done old reply new a
changes_of tests old (call.MeetWriter v far) reply new a =
    told_or_not (far_writer_told v far) (InstanceHandle (handle_once_met old v far.endpoint)) old reply new a
changes_of tests old c reply new a = answered _ _ _ old reply new (search after_calls) a
