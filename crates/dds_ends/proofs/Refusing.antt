-- Why a writer refuses that it is matched with a reader from now on, or no longer.
use Rattle.std.proofs.Common.{◌≡◌, Bool, not, List, Option, Some, None, refl, subst, ap, sym, ◌∙◌}
use Rattle.std.specs.Prelude.{is_some, Result, Ok, Err, IfErr}
use Rattle.std.specs.List.{list_any}
use Rattle.dds_base.specs.declared.code.Code.{Code}
use Rattle.dds_base.specs.declared.code.Code.TheVariants.{BadParameter, Memory}
use Rattle.dds_base.specs.declared.endpoint.Endpoint.{Endpoint}
use Rattle.dds_base.specs.Refusal.{Refuses}
use Rattle.dds_machine.specs.Matching.{is_matched, knows_reader, matching_refusal}
use Rattle.dds_machine.specs.Part.{TopicReader, Writer, row_of, same_endpoint}
use Rattle.dds_protocol.specs.Contact.{Contact}
use Rattle.dds_ends.specs.declared.matching.TopicName.{TopicName}
use Rattle.dds_ends.specs.Coming.{RefusesSo, joining_refusal, leaving_refusal}
use Rattle.dds_ends.specs.Kept.{WriterKept}
use Rattle.dds_ends.specs.MatchedEnds.{is_named, known_as}
use Rattle.dds_ends.specs.Standing.{WriterStands}
use Rattle.dds_ends.proofs.Among.{row_known}
use Rattle.dds_ends.proofs.Leaving.{named_alike}

-- the refusal is this
abbrev pub Is : Option Code → Option Code → Type 0
Is refusal given = given ≡ refusal

-- a call is refused with its cause, or for want of memory where there is none
pub for_cause : (refusal : Option Code) (cause : Code) → refusal ≡ Some cause → Refuses refusal cause
for_cause refusal cause is = subst (λ (o : Option Code). Refuses o cause) (sym is) refl

for_memory : (refusal : Option Code) (code : Code) → refusal ≡ None → code ≡ Memory → Refuses refusal code
for_memory refusal code is memory = subst (λ (o : Option Code). Refuses o code) (sym is) memory

-- a writer of the machine knows a reader where it is known
pub knows_as : (kept : WriterKept) (reader : Endpoint) (found : Option TopicName) (w : Writer)
    (answered : Endpoint → Contact) → WriterStands kept w answered → known_as kept.known reader ≡ found
    → knows_reader w reader ≡ is_some found
knows_as kept reader found w answered s is =
    ap (λ (ks : List TopicReader). is_some (row_of (λ (k : TopicReader). k.reader) ks reader)) s.known
    ∙ (row_known kept.known reader found is).0

-- and is matched with one that is named
pub matched_as : (kept : WriterKept) (reader : Endpoint) (w : Writer) (answered : Endpoint → Contact)
    → WriterStands kept w answered → is_matched w reader ≡ is_named kept.matched reader
matched_as kept reader w answered s =
    ap (λ (es : List Endpoint). list_any (λ e. same_endpoint e reader) es) s.matched ∙ named_alike kept.matched reader

-- by both, where it is told that it is matched ..
pub joining_by : (kept now : WriterKept) (reader : Endpoint) (found : Option TopicName) (b : Bool) → kept ≡ now
    → known_as kept.known reader ≡ found → is_named kept.matched reader ≡ b
    → RefusesSo joining_refusal now reader (Is (matching_refusal (is_some found) b))
joining_by kept now reader found b same known named = λ w answered given.
    let s : WriterStands kept w answered =
    subst (λ (x : WriterKept). WriterStands x w answered) (sym same) given in
    ap (λ (x : Bool). matching_refusal x (is_matched w reader)) (knows_as kept reader found w answered s known)
    ∙ ap (λ (x : Bool). matching_refusal (is_some found) x) (matched_as kept reader w answered s ∙ named)

-- .. or no longer
pub leaving_by : (kept now : WriterKept) (reader : Endpoint) (found : Option TopicName) (b : Bool) → kept ≡ now
    → known_as kept.known reader ≡ found → is_named kept.matched reader ≡ b
    → RefusesSo leaving_refusal now reader (Is (matching_refusal (is_some found) (not b)))
leaving_by kept now reader found b same known named = λ w answered given.
    let s : WriterStands kept w answered =
    subst (λ (x : WriterKept). WriterStands x w answered) (sym same) given in
    ap (λ (x : Bool). matching_refusal x (not (is_matched w reader))) (knows_as kept reader found w answered s known)
    ∙ ap (λ (x : Bool). matching_refusal (is_some found) (not x)) (matched_as kept reader w answered s ∙ named)

-- one that is none of its topic
pub joining_unknown : (kept now : WriterKept) (reader : Endpoint) → kept ≡ now → known_as kept.known reader ≡ None
    → RefusesSo joining_refusal now reader (Is (Some BadParameter))
joining_unknown kept now reader same known = joining_by kept now reader None (is_named kept.matched reader) same known refl

pub leaving_unknown : (kept now : WriterKept) (reader : Endpoint) → kept ≡ now → known_as kept.known reader ≡ None
    → RefusesSo leaving_refusal now reader (Is (Some BadParameter))
leaving_unknown kept now reader same known = leaving_by kept now reader None (is_named kept.matched reader) same known refl

-- where there is no cause, a growth was refused
pub memory_refused : {A : Type 0} (refusal_of : Writer → Endpoint → Option Code) (result : Result A Code)
    (kept : WriterKept) (reader : Endpoint)
    → RefusesSo refusal_of kept reader (Is None) → IfErr result (λ code. code ≡ Memory)
    → IfErr result (λ code. RefusesSo refusal_of kept reader (λ refusal. Refuses refusal code))
memory_refused refusal_of (Ok x) kept reader none memory = tt
memory_refused refusal_of (Err code) kept reader none memory = λ w answered s.
    for_memory (refusal_of w reader) code (none w answered s) memory
