-- The HEARTBEATs that tell a writer's assertion claim only what is true of the writer that has entered it, and can be
-- written.
use Rattle.std.proofs.Common.{◌≡◌, ℕ, suc, ◌+◌, ◌-◌, ◌^◌, ◌<◌, Bool, true, false, not, List, [], ◌∷◌, ◌++◌, length, get_or, map, refl, subst, ap, sym, ◌∙◌, ⊎_elim, arith, nat_le}
use Rattle.std.specs.Prelude.{if◌then◌else◌, pos, Option, Some, None}
use Rattle.std.specs.List.{All}
use Rattle.std.proofs.lemmas.Bool.Decides.{nat_tests}
use Rattle.std.proofs.lemmas.List.Elements.{All-map, All-nil}
use Rattle.dds_base.specs.declared.code.Code.{Code}
use Rattle.dds_base.specs.declared.code.Code.TheVariants.{BadParameter, OutOfResources}
use Rattle.dds_protocol.specs.Roster.{IsRoster, Roster}
use Rattle.dds_base.specs.declared.guid.GuidPrefix.{GuidPrefix}
use Rattle.dds_base.specs.Written.{Asserted, counts_of}
use Rattle.rtps_wire.specs.declared.heartbeat.Heartbeat.{Heartbeat as HeartbeatBody}
use Rattle.dds_machine.specs.declared.call.Call.TheVariants.{AssertLiveliness}
use Rattle.dds_base.specs.declared.endpoint.Endpoint.{Endpoint}
use Rattle.dds_machine.specs.declared.reply.Reply.TheVariants.{Done}
use Rattle.dds_machine.specs.Numbered.{numbered, HasNumber, has_element}
use Rattle.dds_machine.specs.Part.{Dds, Part, ReaderProxy, Rtps, Writer, acknowledged_of, has_readers, heartbeats_used, is_assertion, no_writer, own_writer, peers_of, NoLess}
use Rattle.dds_machine.specs.Calls.{CallStep, IsAnswered, effect, with_written, writes}
use Rattle.dds_machine.specs.Refusals.{assert_refusal}
use Rattle.dds_machine.specs.Watching.{Tests}
use Rattle.dds_protocol.specs.Claims.{Claim, ChangeIs, MayPass, PlaceReached, Asserts}
use Rattle.dds_protocol.specs.Peer.{IsTrueAt}
use Rattle.dds_protocol.specs.Contact.{Contact}
use Rattle.dds_protocol.specs.DueMessages.{Due, heartbeats_due_to, assertions_due}
use Rattle.dds_protocol.specs.Dues.{IsPartOf, IsTruthful, AreTruthful, IsSized, HasSmallChanges, HasFewMatches, CanBeWritten}
use Rattle.dds_protocol.proofs.DuesFew.{matched_few}
use Rattle.dds_protocol.proofs.DuesGrowth.{true_on}
use Rattle.dds_protocol.proofs.DuesHeartbeats.{Beating, IsBeatOf, SaysAt, all_of, due_says, due_writable, first_says, names_writer}
use Rattle.dds_protocol.proofs.DuesMatched.{OwnName, own_name}
use Rattle.dds_protocol.proofs.Growth.{CallStep-grows, CallStep-readers}
use Rattle.dds_machine.proofs.Tables.{no_less_same, number_there, numbered-same}

-- the message that tells an assertion of the peer's writer to the peer of this number
abbrev pub assertion_due : Roster → (Endpoint → Contact) → ℕ → Part → ℕ → ℕ → Due
assertion_due roster contacts peer part number to =
    heartbeats_due_to roster true true peer number contacts (own_writer part number) (own_writer part number).matched to

-- it is so of each message that tells an assertion of a writer that is there and has readers
abbrev pub OfEachTold : Roster → (Endpoint → Contact) → ℕ → Part → ℕ → (Due → Type 0) → Type 0
OfEachTold roster contacts peer part number P =
    HasNumber part.rtps.writers number → has_readers (own_writer part number) ≡ true → (to : ℕ)
    → P (assertion_due roster contacts peer part number to)

pub told_each : (roster : Roster) (contacts : Endpoint → Contact) (peer : ℕ) (part : Part) (number : ℕ)
    (P : Due → Type 0) → OfEachTold roster contacts peer part number P
    → All P (assertions_due roster contacts (record { peer = peer; number = number }) (own_writer part number))
told_each roster contacts peer part number P each = by (own_writer part number).matched refl
  where
    tell : ℕ → Due
    tell = assertion_due roster contacts peer part number

    there : (e : Endpoint) (es : List Endpoint) → (own_writer part number).matched ≡ e ∷ es
        → HasNumber part.rtps.writers number
    there e es some =
        ⊎_elim (λ h. h)
        (λ none.
        let empty : (own_writer part number).matched ≡ [] = ap (λ (w : Writer). w.matched) none in
        let lengths = ap (λ (all : List Endpoint). length all) (sym some ∙ empty) in
        absurd (omega (arith, lengths)))
        (number_there part.rtps.writers number no_writer)

    by : (es : List Endpoint) → (own_writer part number).matched ≡ es
        → All P (map tell (peers_of (own_writer part number).matched))
    by [] none =
        subst (λ (es : List Endpoint). All P (map tell (peers_of es))) (sym none) (All-nil P)
    by (e ∷ es) some =
        let lengths = ap (λ (all : List Endpoint). length all) some in
        let matched : has_readers (own_writer part number) ≡ true = grind (arith, nat_tests, lengths) in
        All-map P tell (peers_of (own_writer part number).matched)
        (all_of (λ to. P (tell to)) (peers_of (own_writer part number).matched)
        (λ to among. each (there e es some) matched to))

-- ---- the count of an assertion

last_is : (xs : List Bool) (x d : Bool) → get_or (xs ++ x ∷ []) (length xs) d ≡ x
last_is [] x d = refl
last_is (y ∷ xs) x d = last_is xs x d

last_numbered : (xs : List Bool) (n : ℕ) → n ≡ suc (length xs) → numbered (xs ++ true ∷ []) n false ≡ true
last_numbered xs n is =
    ap (λ (k : ℕ). numbered (xs ++ true ∷ []) k false) is ∙ last_is xs true false

-- the next count of a writer is that of its assertion
pub next_asserts : (w : Writer) (moment : ℕ)
    → is_assertion (with_written w (Asserted moment)) (pos (heartbeats_used w + 1)) ≡ true
next_asserts w moment = last_numbered (counts_of w.written) (heartbeats_used w + 1) (omega arith)

-- the writer of a peer that has asserted
pub asserted_writer : (old new : Part) (number moment : ℕ) → HasNumber old.rtps.writers number
    → new.rtps ≡ effect old.rtps (writes number (Asserted moment))
    → own_writer new number ≡ with_written (own_writer old number) (Asserted moment)
asserted_writer old new number moment there after =
    ap (λ (r : Rtps). numbered r.writers number no_writer) after
    ∙ numbered-same old.rtps.writers number (with_written (own_writer old number) (Asserted moment)) no_writer there

-- ---- what it claims

-- a writer of a peer that asserts, and its part afterwards
record HasAsserted (b : Beating) (tests : Tests) (new : Part) : Type 0 where
  there : HasNumber b.part.rtps.writers b.number
  matched : has_readers (own_writer b.part b.number) ≡ true
  step : CallStep tests b.part (AssertLiveliness b.number) Done new

told_says : (b : Beating) (tests : Tests) (new : Part) → HasAsserted b tests new
    → (to : ℕ) (h : HeartbeatBody) → IsBeatOf b true true to h → (far : GuidPrefix) (claim : Claim)
    → SaysAt b far to h claim → IsTrueAt b.peer new claim
told_says b tests new t to h is far (ChangeIs v r n c) says = absurd says
told_says b tests new t to h is far (PlaceReached v r base) says = absurd says
told_says b tests new t to h is far (MayPass v r n) says =
    true_on b.peer b.part new (CallStep-grows tests b.part (AssertLiveliness b.number) Done new t.step)
    (λ w e.
    subst (λ (rows : List ReaderProxy). NoLess (acknowledged_of (own_writer b.part w).readers e)
    (acknowledged_of rows e))
    (sym (CallStep-readers tests b.part (AssertLiveliness b.number) Done new t.step tt w))
    (no_less_same (acknowledged_of (own_writer b.part w).readers e)))
    (MayPass v r n) (first_says b true true to h is far v r n says)
told_says b tests new t to h is far (Asserts v r k) says =
    let same = names_writer b true true to h is v says.0.from in
    let w : Writer = own_writer b.part b.number in
    let after = asserted_writer b.part new b.number b.part.dds.moment t.there t.step.rtps in
    let count = says.2 ∙ ap (λ (x : HeartbeatBody). x.count) is.is in
    let asserts : is_assertion (own_writer new b.number) k ≡ true =
    ap (λ c. is_assertion (own_writer new b.number) c) count
    ∙ (ap (λ (x : Writer). is_assertion x (pos (heartbeats_used w + 1))) after
    ∙ next_asserts w b.part.dds.moment) in (
      ap (λ (e : Endpoint). e.peer) same,
      ap (λ (e : Endpoint). is_assertion (own_writer new e.number) k) same ∙ asserts,
    )

pub assertions_true : (roster : Roster) (tests : Tests) (contacts : Endpoint → Contact) (peer writer : ℕ)
    (old new : Part) → IsRoster roster → IsPartOf roster peer old
    → CallStep tests old (AssertLiveliness writer) Done new
    → AreTruthful roster peer new
    (assertions_due roster contacts (record { peer = peer; number = writer }) (own_writer old writer))
assertions_true roster tests contacts peer writer old new checked of step =
    told_each roster contacts peer old writer (IsTruthful roster peer new)
    (λ there matched to claim writable says.
    let own : OwnName roster peer old writer = own_name roster peer old of writer there in
    let b : Beating =
    record {
      roster = roster;
      checked = checked;
      peer = peer;
      part = old;
      number = writer;
      contacts = contacts;
      own = own;
    } in
    let t = due_says b true true (own_writer old writer).matched to claim writable says in
    told_says b tests new (record { there = there; matched = matched; step = step }) to t.body t.is t.far claim t.says)

-- ---- its written form

-- what is done, and needs no memory, has no cause to be refused
none_if_done : (refusal : Option Code) (after : Dds) (old : Part) (dds : Dds)
    → IsAnswered refusal Done after old Done dds → refusal ≡ None
none_if_done None after old dds h = refl
none_if_done (Some code) after old dds h = let is = h.0 in absurd cc

left_if_done : (a b : Bool)
    → (if not a then Some BadParameter else (if b then Some OutOfResources else None)) ≡ None → b ≡ false
left_if_done true true h = cc
left_if_done true false h = refl
left_if_done false b h = cc

pub assertions_writable : (roster : Roster) (tests : Tests) (contacts : Endpoint → Contact) (peer writer : ℕ)
    (old new : Part) → IsPartOf roster peer old → CallStep tests old (AssertLiveliness writer) Done new
    → IsSized roster → HasSmallChanges old → HasFewMatches old
    → All CanBeWritten
    (assertions_due roster contacts (record { peer = peer; number = writer }) (own_writer old writer))
assertions_writable roster tests contacts peer writer old new of step sized small few =
    told_each roster contacts peer old writer CanBeWritten
    (λ there matched to places. due_writable roster true true peer old writer to contacts
    (own_writer old writer).matched of sized small there (matched_few (own_writer old writer) (few writer)) left)
  where
    used : nat_le (2 ^ 31 - 1) (heartbeats_used (own_writer old writer)) ≡ false
    used =
        left_if_done (has_element old.rtps.writers writer)
        (nat_le (2 ^ 31 - 1) (heartbeats_used (own_writer old writer)))
        (none_if_done (assert_refusal old writer) old.dds old new.dds step.answers)

    left : heartbeats_used (own_writer old writer) < 2 ^ 31 - 1
    left = grind (arith, nat_tests, used)
