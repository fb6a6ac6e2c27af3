-- A sweep leaves each sample that is present, and none of a life that has ended.
use Rattle.std.proofs.Common.{◌≡◌, ℕ, ◌≤◌, List, [], ◌∷◌, length, filter, get_or, subst, cond, Bool, true, false, ◌&&◌, ◌||◌, sym, ap, ◌∙◌, refl, Option, None, ⊎_elim, arith}
use Rattle.std.specs.Prelude.{if◌then◌else◌, is_some, nat_lt}
use Rattle.std.specs.List.{list_any, All, items_where_true}
use Rattle.std.specs.List.Retain.{IsFiltered}
use Rattle.std.proofs.lemmas.Bool.{and_parts, cases_Bool, le-ltb, ltb-false}
use Rattle.std.proofs.lemmas.List.Elements.{All-weaker, All-nil, All-cons, All-filter, All-head, All-tail}
use Rattle.dds_base.specs.declared.key.Key.{Key}
use Rattle.dds_base.specs.declared.change.ChangeKind.{ChangeKind}
use Rattle.dds_base.specs.declared.happening.SamplePosition.{SamplePosition}
use Rattle.dds_base.specs.declared.happening.Happening.{Happening}
use Rattle.dds_base.specs.declared.qos.ReaderQos.{ReaderQos}
use Rattle.dds_base.specs.Happening.{same_key, same_sample, read_by, taken_by}
use Rattle.dds_base.specs.Instance.{instance_state_of, is_known, known_instances}
use Rattle.dds_base.specs.Life.{ends_life, is_nobody, last_accepted, last_marker}
use Rattle.dds_base.specs.Ownership.{registered_writers}
use Rattle.dds_base.specs.Presence.{is_present}
use Rattle.dds_base.proofs.KeyLaws.{key-same}
use Rattle.dds_instances.specs.declared.known.KnownInstance.{KnownInstance}
use Rattle.dds_instances.specs.Known.{IsKnown, writes_in_life}
use Rattle.dds_instances.proofs.KnownLaws.{known}
use Rattle.dds_cache.specs.declared.kept.Kept.{Kept}
use Rattle.dds_cache.specs.Kept.{IsKept, is_here, is_live, is_live_by, position_of, positions_in}
use Rattle.dds_cache.specs.Sweeping.{left_since, stays}
use Rattle.dds_cache.proofs.EndLaws.{still-known, still-known-by}
use Rattle.dds_cache.proofs.KeptLaws.{kept-next, known-stated, live-by-present, live-known}
use Rattle.dds_cache.proofs.PresenceLaws.{ended-absent, present-dropped, unstated}

-- by what is known of its instance
pub live-stays : (q : ReaderQos) (h : List Happening) (known_is : KnownInstance) (k : Kept) → IsKnown q h known_is
    → known_is.key ≡ k.sample.key → is_live q known_is k ≡ stays q h k
live-stays q h known_is k is_known_is key =
    let there : is_known q h k.sample.key ≡ true =
    ap (λ (x : Key). is_known q h x) (sym key)
    ∙ (sym (known q h known_is.key) ∙ known-stated q h known_is.key known_is.state is_known_is.state_is) in
    live-known q h known_is k is_known_is key
    ∙ sym (ap (λ (b : Bool). b && is_live_by q (writes_in_life q k.sample.key h) (last_marker q k.sample.key h) k)
    there)

-- one of an unknown instance does not stay
pub unknown-goes : (q : ReaderQos) (h : List Happening) (k : Kept) → instance_state_of q k.sample.key h ≡ None
    → false ≡ stays q h k
unknown-goes q h k none =
    sym (ap (λ (l : Option ChangeKind). is_some l && is_live_by q (writes_in_life q k.sample.key h)
    (last_marker q k.sample.key h) k)
    (unstated (last_accepted q k.sample.key h) (is_nobody (registered_writers q k.sample.key h)) none))

-- what is kept stays exactly where it is present
pub stays-present : (q : ReaderQos) (h : List Happening) (k : Kept) → IsKept q h k
    → stays q h k ≡ is_present q h k.sample.key k.sample.position
stays-present q h k kept =
    ap (λ (b : Bool). b && is_live_by q (writes_in_life q k.sample.key h) (last_marker q k.sample.key h) k)
    (sym (known q h k.sample.key) ∙ kept.is_known)
    ∙ live-by-present q h k kept

pub here-stays : (q : ReaderQos) (h : List Happening) (i : Key) (k : Kept) → IsKept q h k → is_here q h i k ≡ true
    → stays q h k ≡ true
here-stays q h i k kept here =
    let both = and_parts (same_key k.sample.key i) (is_present q h i k.sample.position) here in
    stays-present q h k kept ∙ (ap (λ (x : Key). is_present q h x k.sample.position) (key-same k.sample.key i both.0)
    ∙ both.1)

-- what is kept passes the test
pub all-filtered : (p : Kept → Bool) (P : Kept → Type 0) (ks : List Kept) → All P ks
    → All (λ (k : Kept). P k × (p k ≡ true)) (filter p ks)
all-filtered p P [] all = All-nil (λ (k : Kept). P k × (p k ≡ true))
all-filtered p P (k ∷ ks) all =
    let rest : All (λ (x : Kept). P x × (p x ≡ true)) (filter p ks) = all-filtered p P ks (All-tail P k ks all) in
    ⊎_elim
    (λ passes. subst (λ (b : Bool). All (λ (x : Kept). P x × (p x ≡ true)) (cond b (k ∷ filter p ks) (filter p ks)))
    (sym passes) (All-cons (λ (x : Kept). P x × (p x ≡ true)) k (filter p ks) (All-head P k ks all, passes) rest))
    (λ fails. subst (λ (b : Bool). All (λ (x : Kept). P x × (p x ≡ true)) (cond b (k ∷ filter p ks) (filter p ks)))
    (sym fails) rest)
    (cases_Bool (p k))

-- ---- what is left after one more entry

-- of the samples that were kept these are left: what they say is still true, and each present one is among them
pub record Leaves (q : ReaderQos) (e : Happening) (h : List Happening) (old left : List Kept) : Type 0 where
  pub each : All (IsKept q (e ∷ h)) left
  pub past : All (λ (k : Kept). position_of k ≤ length h) left
  pub same : (i : Key) → positions_in q (e ∷ h) i left ≡ positions_in q (e ∷ h) i old

-- the samples of what has happened
pub past-kept : (q : ReaderQos) (h : List Happening) (ks : List Kept) → All (IsKept q h) ks
    → All (λ (k : Kept). position_of k ≤ length h) ks
past-kept q h ks each =
    All-weaker (IsKept q h) (λ (k : Kept). position_of k ≤ length h) (λ k kept. kept.in_past) ks each

-- the entry returned no such sample
pub record IsApart (e : Happening) (k : Kept) : Type 0 where
  pub untaken : list_any (same_sample k.sample) (taken_by e) ≡ false
  pub unread : list_any (same_sample k.sample) (read_by e) ≡ false

-- so of each sample, where it is no access
pub apart-quiet : (e : Happening) (k : Kept) → taken_by e ≡ [] → read_by e ≡ [] → IsApart e k
apart-quiet e k taken read = record {
  untaken = ap (λ (ss : List SamplePosition). list_any (same_sample k.sample) ss) taken;
  unread = ap (λ (ss : List SamplePosition). list_any (same_sample k.sample) ss) read;
}

kept-apart : (q : ReaderQos) (e : Happening) (h : List Happening) (k : Kept) → IsApart e k
    → is_known q (e ∷ h) k.sample.key ≡ true → IsKept q h k → IsKept q (e ∷ h) k
kept-apart q e h k apart lives kept =
    kept-next q e h k k.is_read k.is_out k.value lives (sym (ap (λ (b : Bool). b || k.is_read) apart.unread))
    (sym (ap (λ (b : Bool). b || k.is_out) apart.untaken)) (λ _. refl) kept

-- a sample of the past, of an instance that was known: if that still is, what is kept of it is so after the entry
pub record IsRipe (q : ReaderQos) (e : Happening) (h : List Happening) (k : Kept) : Type 0 where
  pub past : k.sample.position ≤ length h
  pub was_known : is_known q h k.sample.key ≡ true
  pub kept : is_known q (e ∷ h) k.sample.key ≡ true → IsKept q (e ∷ h) k

-- so one that was kept, where the entry did not return it
pub ripe-one : (q : ReaderQos) (e : Happening) (h : List Happening) (k : Kept) → IsApart e k → IsKept q h k
    → IsRipe q e h k
ripe-one q e h k apart kept = record {
  past = kept.in_past;
  was_known = sym (known q h k.sample.key) ∙ kept.is_known;
  kept = λ lives. kept-apart q e h k apart lives kept;
}

ripe-apart : (q : ReaderQos) (e : Happening) (h : List Happening) (ks : List Kept) → All (IsApart e) ks
    → All (IsKept q h) ks → All (IsRipe q e h) ks
ripe-apart q e h ks apart each =
    λ n d within. ripe-one q e h (get_or ks n d) (apart n d within) (each n d within)

past-ripe : (q : ReaderQos) (e : Happening) (h : List Happening) (ks : List Kept) → All (IsRipe q e h) ks
    → All (λ (k : Kept). position_of k ≤ length h) ks
past-ripe q e h ks ripe =
    All-weaker (IsRipe q e h) (λ (k : Kept). position_of k ≤ length h) (λ k is. is.past) ks ripe

-- where no life has ended, all are left
ripe-all : (q : ReaderQos) (e : Happening) (h : List Happening) (ks now : List Kept)
    → ((i : Key) → is_known q h i ≡ true → is_known q (e ∷ h) i ≡ true) → All (IsRipe q e h) now
    → ((i : Key) → positions_in q (e ∷ h) i now ≡ positions_in q (e ∷ h) i ks) → Leaves q e h ks now
ripe-all q e h ks now lives ripe same = record {
  each =
      All-weaker (IsRipe q e h) (IsKept q (e ∷ h)) (λ k is. is.kept (lives k.sample.key is.was_known)) now ripe;
  past = past-ripe q e h now ripe;
  same = same;
}

-- a sample that is present after the entry stays in a sweep
pub present-stays : (q : ReaderQos) (e : Happening) (h : List Happening) (i : Key) (k : Kept) → IsRipe q e h k
    → is_here q (e ∷ h) i k ≡ true → stays q (e ∷ h) k ≡ true
present-stays q e h i k ripe here =
    let x : Key = k.sample.key in
    let both = and_parts (same_key x i) (is_present q (e ∷ h) i k.sample.position) here in
    let present : is_present q (e ∷ h) x k.sample.position ≡ true =
    ap (λ (y : Key). is_present q (e ∷ h) y k.sample.position) (key-same x i both.0) ∙ both.1 in
    ⊎_elim
    (λ over. absurd (let clash : false ≡ true =
    sym (ended-absent q e h x k.sample.position over (omega (arith, ripe.past))) ∙ present in cc))
    (λ goes_on. stays-present q (e ∷ h) k (ripe.kept (still-known q e h x goes_on ripe.was_known)) ∙ present)
    (cases_Bool (ends_life q x h e))

-- and a sweep leaves each that is present
ripe-swept : (q : ReaderQos) (e : Happening) (h : List Happening) (ks now : List Kept) → All (IsRipe q e h) now
    → ((i : Key) → positions_in q (e ∷ h) i now ≡ positions_in q (e ∷ h) i ks)
    → Leaves q e h ks (filter (stays q (e ∷ h)) now)
ripe-swept q e h ks now ripe same = record {
  each =
      All-weaker (λ (k : Kept). IsRipe q e h k × (stays q (e ∷ h) k ≡ true)) (IsKept q (e ∷ h))
      (λ k is. is.0.kept (and_parts (is_known q (e ∷ h) k.sample.key) _ is.1).0) (filter (stays q (e ∷ h)) now)
      (all-filtered (stays q (e ∷ h)) (IsRipe q e h) now ripe);
  past = All-filter (stays q (e ∷ h)) (λ (k : Kept). position_of k ≤ length h) now (past-ripe q e h now ripe);
  same = λ i. present-dropped q (e ∷ h) i (stays q (e ∷ h)) now
      (All-weaker (IsRipe q e h) (λ (k : Kept). is_here q (e ∷ h) i k ≡ true → stays q (e ∷ h) k ≡ true)
      (λ k is. present-stays q e h i k is) now ripe)
      ∙ same i;
}

-- what is left, by how many instances were known before
pub ripe-since : (q : ReaderQos) (e : Happening) (h : List Happening) (before : ℕ) (ks now : List Kept)
    → before ≡ length (known_instances q h) → All (IsRipe q e h) now
    → ((i : Key) → positions_in q (e ∷ h) i now ≡ positions_in q (e ∷ h) i ks)
    → Leaves q e h ks (left_since q (e ∷ h) before now)
ripe-since q e h before ks now counted ripe same =
    ⊎_elim
    (λ fewer. subst (λ (b : Bool). Leaves q e h ks (if b then filter (stays q (e ∷ h)) now else now)) (sym fewer)
    (ripe-swept q e h ks now ripe same))
    (λ many. let no_fewer : before ≤ length (known_instances q (e ∷ h)) =
    ltb-false (length (known_instances q (e ∷ h))) before many in
    subst (λ (b : Bool). Leaves q e h ks (if b then filter (stays q (e ∷ h)) now else now)) (sym many)
    (ripe-all q e h ks now (λ i. still-known-by q e h i (omega (arith, no_fewer, counted))) ripe same))
    (cases_Bool (nat_lt (length (known_instances q (e ∷ h))) before))

-- the same where the entry returned none of them
pub leaves-all : (q : ReaderQos) (e : Happening) (h : List Happening) (ks : List Kept)
    → ((i : Key) → is_known q h i ≡ true → is_known q (e ∷ h) i ≡ true) → All (IsApart e) ks → All (IsKept q h) ks
    → Leaves q e h ks ks
leaves-all q e h ks lives apart each = ripe-all q e h ks ks lives (ripe-apart q e h ks apart each) (λ i. refl)

pub leaves-swept : (q : ReaderQos) (e : Happening) (h : List Happening) (ks : List Kept) → All (IsApart e) ks
    → All (IsKept q h) ks → Leaves q e h ks (filter (stays q (e ∷ h)) ks)
leaves-swept q e h ks apart each = ripe-swept q e h ks ks (ripe-apart q e h ks apart each) (λ i. refl)

pub leaves-since : (q : ReaderQos) (e : Happening) (h : List Happening) (before : ℕ) (ks : List Kept)
    → before ≡ length (known_instances q h) → All (IsApart e) ks → All (IsKept q h) ks
    → Leaves q e h ks (left_since q (e ∷ h) before ks)
leaves-since q e h before ks counted apart each =
    ripe-since q e h before ks ks counted (ripe-apart q e h ks apart each) (λ i. refl)

-- ---- samples that are let go

chosen : (P : Kept → Type 0) (bs : List Bool) (ks : List Kept) → All P ks → All P (items_where_true bs ks)
chosen P [] ks all = All-nil P
chosen P (b ∷ bs) [] all = All-nil P
chosen P (true ∷ bs) (k ∷ ks) all =
    All-cons P k (items_where_true bs ks) (All-head P k ks all) (chosen P bs ks (All-tail P k ks all))
chosen P (false ∷ bs) (k ∷ ks) all = chosen P bs ks (All-tail P k ks all)

-- what holds of each holds of those that some test leaves
pub chosen-all : {F : Type 0} (P : Kept → Type 0) (R : F → Kept → Bool → F → Type 0) (f : F) (xs ys : List Kept)
    → IsFiltered R f xs ys → All P xs → All P ys
chosen-all P R f xs ys filtered all = subst (λ (ks : List Kept). All P ks) (sym filtered.4) (chosen P filtered.0 xs all)

-- all are left where the same instances are known
pub none-since : (q : ReaderQos) (h : List Happening) (e : Happening) (ks : List Kept)
    → known_instances q (e ∷ h) ≡ known_instances q h
    → left_since q (e ∷ h) (length (known_instances q h)) ks ≡ ks
none-since q h e ks same =
    let no_fewer : nat_lt (length (known_instances q (e ∷ h))) (length (known_instances q h)) ≡ false =
    le-ltb (length (known_instances q (e ∷ h))) (length (known_instances q h))
    (omega (arith, ap (λ (is : List Key). length is) same)) in
    ap (λ (b : Bool). if b then filter (stays q (e ∷ h)) ks else ks) no_fewer
