-- A cache stands for one entry more.
use Rattle.std.proofs.Common.{◌≡◌, Option, Some, None, ℕ, ◌+◌, ◌-◌, ◌^◌, min, ◌≤◌, ◌<◌, List, [], ◌∷◌, ◌++◌, length, map, filter, Bool, true, false, ◌&&◌, ◌||◌, sym, ap, ◌∙◌, refl, subst, cond, arith, ⊎_elim, ◌⊎◌, not, get_or}
use Rattle.std.specs.Prelude.{if◌then◌else◌, nat_lt}
use Rattle.std.specs.List.{list_any, All}
use Rattle.std.proofs.lemmas.Bool.{cases_Bool, and_parts, and_right}
use Rattle.std.proofs.lemmas.List.{append-nil}
use Rattle.std.proofs.lemmas.List.Elements.{All-append, All-nil, All-cons, All-weaker, All-filter, All-head, All-tail, All-map}
use Rattle.dds_base.specs.declared.key.Key.{Key}
use Rattle.dds_base.specs.declared.happening.SamplePosition.{SamplePosition}
use Rattle.dds_base.specs.declared.happening.Arrival.{Arrival}
use Rattle.dds_base.specs.declared.happening.Happening.{Happening}
use Rattle.dds_base.specs.declared.happening.Happening.TheVariants.{Came, Read, Took}
use Rattle.dds_base.specs.declared.qos.ReaderQos.{ReaderQos}
use Rattle.dds_base.specs.Happening.{same_key, is_read, is_taken, read_by, taken_by, same_sample, arrivals}
use Rattle.dds_base.specs.Presence.{is_present}
use Rattle.dds_base.specs.Life.{is_write, up_to}
use Rattle.dds_base.proofs.KeyLaws.{key-same, same_key-comm}
use Rattle.dds_base.specs.declared.selection.Selection.{Selection}
use Rattle.dds_base.specs.StatusFlags.{brings_sample, data_available_at}
use Rattle.dds_instances.specs.Table.{Table, Stands}
use Rattle.dds_instances.specs.Known.{IsReturnable}
use Rattle.dds_instances.proofs.KnownLaws.{known}
use Rattle.dds_cache.specs.declared.access.Candidate.{Candidate}
use Rattle.dds_cache.specs.declared.collection.Access.{Access}
use Rattle.dds_cache.specs.Finding.{AreApart, Holds, HoldsBut, IsCandidate, IsOfOrUpToDate, sample_in}
use Rattle.dds_cache.specs.Picking.{Picks, IsAccess, collected}
use Rattle.dds_cache.specs.declared.kept.Kept.{Kept}
use Rattle.dds_cache.specs.Kept.{IsKept, IsKeptAt, IsFresh, IsNewAt, IsUpToDate, Adds, has_data, sample_at, is_here, is_in, position_of, positions_in, is_among, marked, taken}
use Rattle.dds_cache.specs.declared.access_kind.AccessKind.{AccessKind}
use Rattle.dds_cache.specs.declared.access_kind.AccessKind.TheVariants.{Read as Reading, Take as Taking}
use Rattle.dds_cache.specs.Sweeping.{AreIn, left_since, stays}
use Rattle.dds_base.specs.Instance.{known_instances}
use Rattle.dds_cache.specs.Standing.{Stored, StandsFor, entry_of}
use Rattle.dds_cache.proofs.PresenceLaws.{here-append, present-next, present-dropped, quiet-absent, other-absent}
use Rattle.dds_cache.proofs.EndLaws.{still-quiet}
use Rattle.dds_cache.proofs.KeptLaws.{kept-next, not-true, present-in, some_kept}
use Rattle.dds_cache.proofs.SweepLaws.{IsApart, IsRipe, Leaves, all-filtered, apart-quiet, here-stays, leaves-all, past-kept, ripe-since}
use Rattle.dds_cache.proofs.GroupLaws.{unequal}
use Rattle.dds_cache.proofs.PlaceLaws.{apart-picked}
use Rattle.dds_cache.proofs.DataLaws.{brings-added, none-noted}
use Rattle.dds_base.specs.declared.change.ChangeKind.{ChangeKind}
use Rattle.dds_base.specs.Ownership.{AreOfMatched, accepted_kind, registered_writers}
use Rattle.std.specs.List.Sorted.{IsNonDecreasingBy}
use Rattle.std.proofs.lemmas.List.Kept.{IsNonDecreasingBy-filter}
use Rattle.dds_cache.proofs.ExactLaws.{added-each, order-added, order-map, order-since, other-stays, since-each, write-stays}

-- no access returned what has not happened yet
pub fresh : (stored : Stored) (h : List Happening) (i : Key) → StandsFor stored h → IsFresh h i
fresh stored h i stands =
    record {
      unread = stands.unread i (length h + 1) (omega arith);
      untaken = stands.untaken i (length h + 1)
          (omega arith);
    }

-- what is kept holds for what it stands for
pub holds : (stored : Stored) (h : List Happening) → StandsFor stored h
    → Holds stored.qos stored.instances stored.samples h
holds stored h stands = record {
  instances = stands.instances;
  each = stands.each;
  present = stands.present;
  in_order = stands.in_order;
  up_to_date = stands.up_to_date;
}

-- one more change is counted
pub counts-more : (n m : ℕ) → n ≡ min m (2 ^ 64 - 1) → min (n + 1) (2 ^ 64 - 1) ≡ min (m + 1) (2 ^ 64 - 1)
counts-more n m is = omega (arith, is)

-- what is kept says what is true after one more entry
pub each-after : (q : ReaderQos) (e : Happening) (h : List Happening) (old left new : List Kept)
    → Leaves q e h old left → Adds q e h left new → All (IsKept q (e ∷ h)) new
each-after q e h old left new leaves adds =
    subst (λ (ks : List Kept). All (IsKept q (e ∷ h)) ks) (sym adds.are)
    (All-append (IsKept q (e ∷ h)) left adds.added leaves.each adds.each)

-- and each present sample is kept
pub present-after : (q : ReaderQos) (e : Happening) (h : List Happening) (old left new : List Kept)
    → Leaves q e h old left → Adds q e h left new → All (IsKept q h) old
    → ((i : Key) → filter (is_present q h i) (up_to (length h)) ≡ positions_in q h i old) → (i : Key)
    → filter (is_present q (e ∷ h) i) (up_to (length (e ∷ h))) ≡ positions_in q (e ∷ h) i new
present-after q e h old left new leaves adds each present i =
    present-next q e h i old adds.added (past-kept q h old each) (present i) (adds.present i)
    ∙ (here-append q (e ∷ h) i old adds.added
    ∙ (ap (λ (ps : List ℕ). ps ++ positions_in q (e ∷ h) i adds.added) (sym (leaves.same i))
    ∙ (sym (here-append q (e ∷ h) i left adds.added)
    ∙ ap (λ (ks : List Kept). positions_in q (e ∷ h) i ks) (sym adds.are))))

-- what is kept holds after one more entry, once the samples that it leaves are added to those that are left, which are in
-- order and up to date
pub holds-next : (q : ReaderQos) (e : Happening) (h : List Happening) (before table : Table) (old left new : List Kept)
    → Stands q table (e ∷ h) → Leaves q e h old left → IsNonDecreasingBy position_of left
    → All (IsUpToDate q (e ∷ h)) left → Adds q e h left new → Holds q before old h → Holds q table new (e ∷ h)
holds-next q e h before table old left new stands leaves order up adds holds = record {
  instances = stands;
  each = each-after q e h old left new leaves adds;
  present = present-after q e h old left new leaves adds holds.each holds.present;
  in_order = order-added q e h left new adds leaves.past order;
  up_to_date = added-each (IsUpToDate q (e ∷ h)) q e h left new adds (λ k is. is) up;
}

-- so it does after a change, but for what that pushes out
pub holds-came : (q : ReaderQos) (a : Arrival) (h : List Happening) (before table : Table) (known : ℕ)
    (old left new : List Kept) → Stands q table (Came a ∷ h)
    → left ≡ left_since q (Came a ∷ h) known old → Leaves q (Came a) h old left → Adds q (Came a) h left new
    → Holds q before old h → HoldsBut q table new (Came a ∷ h) a.change.key
holds-came q a h before table known old left new stands is leaves adds holds =
    let g : List Happening = Came a ∷ h in
    record {
      instances = stands;
      each = each-after q (Came a) h old left new leaves adds;
      present = present-after q (Came a) h old left new leaves adds holds.each holds.present;
      in_order =
          order-added q (Came a) h left new adds leaves.past
          (subst (λ (ks : List Kept). IsNonDecreasingBy position_of ks) (sym is)
          (order-since q g known old holds.in_order));
      others =
          added-each (IsOfOrUpToDate q g a.change.key) q (Came a) h left new adds (λ k up other. up)
          (subst (λ (ks : List Kept). All (IsOfOrUpToDate q g a.change.key) ks) (sym is)
          (since-each (IsOfOrUpToDate q g a.change.key) q g known old
          (λ j d within other. other-stays q a h (get_or old j d) holds.instances.follows.matched (holds.each j d within)
          (holds.up_to_date j d within)
          (same_key-comm a.change.key (get_or old j d).sample.key ∙ other))));
    }

-- after an entry that is no write of any instance each sample that it did not return is up to date as before
up-quiet : (q : ReaderQos) (e : Happening) (h : List Happening) (f : Kept → Kept) (ks : List Kept)
    → ((i : Key) → is_write (accepted_kind q i h e) ≡ false) → ((k : Kept) → (f k).sample ≡ k.sample)
    → ((k : Kept) → has_data (f k) ≡ true
    → (has_data k ≡ true) × (list_any (same_sample k.sample) (taken_by e) ≡ false))
    → AreOfMatched q h → All (IsKept q h) ks → All (IsUpToDate q h) ks → All (IsUpToDate q (e ∷ h)) (map f ks)
up-quiet q e h f ks unwritten same filled matched each up =
    All-map (IsUpToDate q (e ∷ h)) f ks (λ j d within now.
    let k : Kept = get_or ks j d in
    let parts = filled k now in
    ap (λ (s : SamplePosition). is_present q (e ∷ h) s.key s.position) (same k)
    ∙ write-stays q e h k matched (each j d within) parts.0 (up j d within) parts.1 (unwritten k.sample.key))

-- a cache stands for one entry more, once what it keeps holds after it: the samples that the entry leaves were added to those
-- that were left
pub stands-added : (q : ReaderQos) (e : Happening) (h : List Happening) (left mid : List Kept) (old new : Stored)
    → old.qos ≡ q → new.qos ≡ q → taken_by e ≡ [] → read_by e ≡ [] → new.arrivals ≡ min (arrivals (e ∷ h)) (2 ^ 64 - 1)
    → data_available_at q (e ∷ h) ≡ (if brings_sample q (e ∷ h) then Some (length h + 1) else data_available_at q h)
    → new.data_at ≡ (if nat_lt (length left) (length mid) then Some (length h + 1) else old.data_at)
    → Leaves q e h old.samples left → Adds q e h left mid → Holds q new.instances new.samples (e ∷ h)
    → StandsFor old h → StandsFor new (e ∷ h)
stands-added q e h left mid old new old_qos new_qos taken read counted raised noted leaves adds next stands =
    let before : Holds q old.instances old.samples h =
    subst (λ (r : ReaderQos). Holds r old.instances old.samples h) old_qos (holds old h stands) in
    let brings : brings_sample q (e ∷ h) ≡ nat_lt (length left) (length mid) =
    brings-added q e h left mid leaves.past adds (each-after q e h old.samples left mid leaves adds)
    (present-after q e h old.samples left mid leaves adds before.each before.present) in
    let known : old.data_at ≡ data_available_at q h =
    subst (λ (r : ReaderQos). old.data_at ≡ data_available_at r h) old_qos stands.data_is in
    let is : new.data_at ≡ data_available_at q (e ∷ h) =
    noted
    ∙ (ap (λ (n : Option ℕ). if nat_lt (length left) (length mid) then Some (length h + 1) else n) known
    ∙ (ap (λ (b : Bool). if b then Some (length h + 1) else data_available_at q h) (sym brings) ∙ sym raised)) in
    let now : Holds new.qos new.instances new.samples (e ∷ h) =
    subst (λ (r : ReaderQos). Holds r new.instances new.samples (e ∷ h)) (sym new_qos) next in
    record {
      instances = now.instances;
      each = now.each;
      present = now.present;
      unread =
          λ i j later. ap (λ (ss : List SamplePosition). list_any (same_sample (sample_at i j)) ss || is_read
          (sample_at i j) h) read ∙ stands.unread i j (omega (arith, later));
      untaken =
          λ i j later. ap (λ (ss : List SamplePosition). list_any (same_sample (sample_at i j)) ss || is_taken
          (sample_at i j) h) taken ∙ stands.untaken i j (omega (arith, later));
      arrivals_are = counted;
      data_is = subst (λ (r : ReaderQos). new.data_at ≡ data_available_at r (e ∷ h)) (sym new_qos) is;
      in_order = now.in_order;
      up_to_date = now.up_to_date;
    }

-- an entry that leaves none
pub adds-none : (q : ReaderQos) (e : Happening) (h : List Happening) (ks : List Kept)
    → ((i : Key) → is_present q (e ∷ h) i (length h + 1) ≡ false) → Adds q e h ks ks
adds-none q e h ks absent = record {
  added = [];
  are = sym (append-nil ks);
  each = All-nil (IsKept q (e ∷ h));
  present = λ i. ap (λ (b : Bool). cond b ((length h + 1) ∷ []) []) (absent i);
  new_are = All-nil (IsNewAt q (e ∷ h) (length h + 1));
}

-- an entry that says nothing of any instance leaves what is kept
pub stands-quiet : (q : ReaderQos) (e : Happening) (h : List Happening) (old new : Stored) → old.qos ≡ q → new.qos ≡ q
    → taken_by e ≡ [] → read_by e ≡ [] → ((i : Key) → accepted_kind q i h e ≡ None)
    → ((i : Key) → registered_writers q i (e ∷ h) ≡ registered_writers q i h)
    → new.arrivals ≡ min (arrivals (e ∷ h)) (2 ^ 64 - 1)
    → data_available_at q (e ∷ h) ≡ (if brings_sample q (e ∷ h) then Some (length h + 1) else data_available_at q h)
    → new.data_at ≡ old.data_at → new.samples ≡ old.samples → Stands q new.instances (e ∷ h) → StandsFor old h
    → StandsFor new (e ∷ h)
stands-quiet q e h old new old_qos new_qos taken read refused writers counted raised noted samples instances
    stands =
    let ks : List Kept = old.samples in
    let before : Holds q old.instances ks h =
    subst (λ (r : ReaderQos). Holds r old.instances ks h) old_qos (holds old h stands) in
    let leaves : Leaves q e h ks ks =
    leaves-all q e h ks (λ i. still-quiet q e h i (refused i) (writers i)
    (ap (λ (ss : List SamplePosition). list_any (λ (s : SamplePosition). same_key s.key i) ss) taken))
    (λ n d within. apart-quiet e (get_or ks n d) taken read) before.each in
    let adds : Adds q e h ks ks = adds-none q e h ks (λ i. quiet-absent q e h i (refused i) (writers i)) in
    stands-added q e h ks ks old new old_qos new_qos taken read counted raised
    (noted ∙ none-noted (length ks) (Some (length h + 1)) old.data_at) leaves adds
    (subst (λ (xs : List Kept). Holds q new.instances xs (e ∷ h)) (sym samples)
    (holds-next q e h old.instances new.instances ks ks ks instances leaves before.in_order
    (λ j d within filled. write-stays q e h (get_or ks j d) before.instances.follows.matched (before.each j d within) filled
    (before.up_to_date j d within)
    (ap (λ (ss : List SamplePosition). list_any (same_sample (get_or ks j d).sample) ss) taken)
    (ap (λ (kind : Option ChangeKind). is_write kind) (refused (get_or ks j d).sample.key))) adds before)) stands

map-one : (b : Bool) (k : Kept) (n : ℕ) → position_of k ≡ n → map position_of (cond b (k ∷ []) []) ≡ cond b (n ∷ []) []
map-one true k n is = ap (λ (m : ℕ). m ∷ []) is
map-one false k n is = refl

pub one-position : (q : ReaderQos) (g : List Happening) (x i : Key) (n : ℕ) (k : Kept) → k.sample ≡ sample_at x n
    → positions_in q g i (k ∷ []) ≡ cond (same_key x i && is_present q g i n) (n ∷ []) []
one-position q g x i n k sample =
    ap (λ (s : SamplePosition). map position_of (cond (same_key s.key i && is_present q g i s.position) (k ∷ []) []))
    sample
    ∙ map-one (same_key x i && is_present q g i n) k n (ap (λ (s : SamplePosition). s.position) sample)

-- a sample that is kept and present at a position
pub new-at : (q : ReaderQos) (g : List Happening) (x : Key) (n : ℕ) (k : Kept) → IsKeptAt q g x n k → IsNewAt q g n k
new-at q g x n k at = (
  ap (λ (s : SamplePosition). s.position) at.sample_is,
  ap (λ (s : SamplePosition). is_present q g s.key n) at.sample_is ∙ at.present,
)

-- a change that leaves one
pub adds-one : (q : ReaderQos) (a : Arrival) (h : List Happening) (ks : List Kept) (k : Kept)
    → IsKeptAt q (Came a ∷ h) a.change.key (length h + 1) k → Adds q (Came a) h ks (ks ++ k ∷ [])
adds-one q a h ks k at = record {
  added = k ∷ [];
  are = refl;
  each = All-cons (IsKept q (Came a ∷ h)) k [] at.kept (All-nil (IsKept q (Came a ∷ h)));
  present =
      λ i. sym (one-position q (Came a ∷ h) a.change.key i (length h + 1) k at.sample_is
      ∙ own q a h i (cases_Bool (same_key a.change.key i)));
  new_are =
      All-cons (IsNewAt q (Came a ∷ h) (length h + 1)) k [] (new-at q (Came a ∷ h) a.change.key (length h + 1) k at)
      (All-nil (IsNewAt q (Came a ∷ h) (length h + 1)));
}
  where
    own : (q : ReaderQos) (a : Arrival) (h : List Happening) (i : Key)
        → (same_key a.change.key i ≡ true) ⊎ (same_key a.change.key i ≡ false)
        → cond (same_key a.change.key i && is_present q (Came a ∷ h) i (length h + 1)) ((length h + 1) ∷ []) []
        ≡ cond (is_present q (Came a ∷ h) i (length h + 1)) ((length h + 1) ∷ []) []
    own q a h i which = ⊎_elim
        (λ same. ap (λ (b : Bool). cond (b && is_present q (Came a ∷ h) i (length h + 1)) ((length h + 1) ∷ []) [])
        same)
        (λ other. ap (λ (b : Bool). cond (b && is_present q (Came a ∷ h) i (length h + 1)) ((length h + 1) ∷ []) [])
        other ∙ sym (ap (λ (b : Bool). cond b ((length h + 1) ∷ []) []) (other-absent q a h i other)))
        which

-- a change that leaves none
pub adds-nothing : (q : ReaderQos) (a : Arrival) (h : List Happening) (ks : List Kept)
    → is_present q (Came a ∷ h) a.change.key (length h + 1) ≡ false → Adds q (Came a) h ks ks
adds-nothing q a h ks absent = adds-none q (Came a) h ks (λ i. ⊎_elim
    (λ same. ap (λ (x : Key). is_present q (Came a ∷ h) x (length h + 1)) (sym (key-same a.change.key i same)) ∙ absent)
    (λ other. other-absent q a h i other)
    (cases_Bool (same_key a.change.key i)))

-- what changes nothing that is kept
pub stands-still : (h : List Happening) (old new : Stored) → new.qos ≡ old.qos → new.samples ≡ old.samples
    → new.arrivals ≡ old.arrivals → new.data_at ≡ old.data_at
    → ((q : ReaderQos) → Stands q old.instances h → Stands q new.instances h) → StandsFor old h → StandsFor new h
stands-still h old new qos samples counted noted instances stands =
    record {
      instances = subst (λ (r : ReaderQos). Stands r new.instances h) (sym qos) (instances old.qos stands.instances);
      each =
          subst (λ (r : ReaderQos). All (IsKept r h) new.samples) (sym qos)
          (subst (λ (ks : List Kept). All (IsKept old.qos h) ks) (sym samples) stands.each);
      present =
          λ i. subst (λ (r : ReaderQos). filter (is_present r h i) (up_to (length h)) ≡ positions_in r h i new.samples)
          (sym qos) (subst (λ (ks : List Kept). filter (is_present old.qos h i) (up_to (length h))
          ≡ positions_in old.qos h i ks) (sym samples) (stands.present i));
      unread = stands.unread;
      untaken = stands.untaken;
      arrivals_are = counted ∙ stands.arrivals_are;
      data_is = noted ∙ (stands.data_is ∙ ap (λ (r : ReaderQos). data_available_at r h) (sym qos));
      in_order = subst (λ (ks : List Kept). IsNonDecreasingBy position_of ks) (sym samples) stands.in_order;
      up_to_date =
          subst (λ (r : ReaderQos). All (IsUpToDate r h) new.samples) (sym qos)
          (subst (λ (ks : List Kept). All (IsUpToDate old.qos h) ks) (sym samples) stands.up_to_date);
    }

-- ---- a read

-- a mark leaves the positions
positions-marked : (q : ReaderQos) (g : List Happening) (i : Key) (mark : Kept → Kept) (ks : List Kept)
    → ((k : Kept) → (mark k).sample ≡ k.sample) → positions_in q g i (map mark ks) ≡ positions_in q g i ks
positions-marked q g i mark [] same = refl
positions-marked q g i mark (k ∷ ks) same =
    ap (λ (s : SamplePosition). map position_of (cond (same_key s.key i && is_present q g i s.position)
    (mark k ∷ filter (is_here q g i) (map mark ks)) (filter (is_here q g i) (map mark ks)))) (same k)
    ∙ one (is_here q g i k) (positions-marked q g i mark ks same)
  where
    one : (b : Bool) → positions_in q g i (map mark ks) ≡ positions_in q g i ks
        → map position_of (cond b (mark k ∷ filter (is_here q g i) (map mark ks))
        (filter (is_here q g i) (map mark ks)))
        ≡ map position_of (cond b (k ∷ filter (is_here q g i) ks) (filter (is_here q g i) ks))
    one true rest =
        ap (λ (s : SamplePosition). s.position ∷ positions_in q g i (map mark ks)) (same k)
        ∙ ap (λ (ps : List ℕ). position_of k ∷ ps) rest
    one false rest = rest

-- samples of the past are none of what has not happened
none-later : (h : List Happening) (i : Key) (j : ℕ) (ss : List SamplePosition) → length h < j
    → All (λ (s : SamplePosition). s.position ≤ length h) ss → list_any (same_sample (sample_at i j)) ss ≡ false
none-later h i j [] later past = refl
none-later h i j (s ∷ ss) later past =
    let first : s.position ≤ length h = All-head (λ (x : SamplePosition). x.position ≤ length h) s ss past in
    ap (λ (b : Bool). (same_key i s.key && b) || list_any (same_sample (sample_at i j)) ss)
    (unequal j s.position (λ same. omega (arith, same, first, later)))
    ∙ (ap (λ (b : Bool). b || list_any (same_sample (sample_at i j)) ss) (and_right (same_key i s.key) false refl)
    ∙ none-later h i j ss later (All-tail (λ (x : SamplePosition). x.position ≤ length h) s ss past))

-- the samples that a read returned are marked
pub holds-read : (q : ReaderQos) (ss : List SamplePosition) (h : List Happening) (before table : Table) (ks : List Kept)
    → Stands q table (Read ss ∷ h) → Holds q before ks h → Holds q table (map (marked ss) ks) (Read ss ∷ h)
holds-read q ss h before table ks stands kept =
    let e : Happening = Read ss in
    holds-next q e h before table ks (map (marked ss) ks) (map (marked ss) ks) stands
    (record {
      each =
          All-map (IsKept q (e ∷ h)) (marked ss) ks
          (All-weaker (IsKept q h) (λ (k : Kept). IsKept q (e ∷ h) (marked ss k))
          (λ k is. kept-next q e h k (is_among ss k || k.is_read) k.is_out k.value
          (still-quiet q e h k.sample.key refl refl refl (sym (known q h k.sample.key) ∙ is.is_known)) refl refl
          (λ _. refl) is) ks kept.each);
      past =
          All-map (λ (k : Kept). position_of k ≤ length h) (marked ss) ks
          (All-weaker (λ (k : Kept). position_of k ≤ length h) (λ (k : Kept). position_of (marked ss k) ≤ length h)
          (λ k is. is) ks (past-kept q h ks kept.each));
      same = λ i. positions-marked q (e ∷ h) i (marked ss) ks (λ k. refl);
    })
    (order-map (marked ss) ks (λ k. refl) kept.in_order)
    (up-quiet q e h (marked ss) ks (λ i. refl) (λ k. refl) (λ k filled. (filled, refl)) kept.instances.follows.matched kept.each
    kept.up_to_date)
    (adds-none q e h (map (marked ss) ks) (λ i. quiet-absent q e h i refl refl))
    kept

-- ---- a take

-- a sample that is there after a take was not among those it returned
here-untaken : (q : ReaderQos) (ss : List SamplePosition) (h : List Happening) (i : Key) (k : Kept)
    → is_here q (Took ss ∷ h) i k ≡ true → not (is_among ss k) ≡ true
here-untaken q ss h i k here =
    let both = and_parts (same_key k.sample.key i) (is_present q (Took ss ∷ h) i k.sample.position) here in
    let key : k.sample.key ≡ i = key-same k.sample.key i both.0 in
    let parts = and_parts (not (is_taken (sample_at i k.sample.position) (Took ss ∷ h))) _ both.1 in
    let none : is_taken (sample_at i k.sample.position) (Took ss ∷ h) ≡ false =
    not-true (is_taken (sample_at i k.sample.position) (Took ss ∷ h)) parts.0 in
    ap (λ (b : Bool). not b) (ap (λ (x : Key). list_any (same_sample (sample_at x k.sample.position)) ss) key
    ∙ first-false (list_any (same_sample (sample_at i k.sample.position)) ss)
    (is_taken (sample_at i k.sample.position) h) none)
  where
    first-false : (a b : Bool) → (a || b) ≡ false → a ≡ false
    first-false true b e = e
    first-false false b e = refl

-- those that a take did not return are apart from it
pub apart-taken : (ss : List SamplePosition) (ks : List Kept)
    → All (IsApart (Took ss)) (filter (λ k. not (is_among ss k)) ks)
apart-taken ss ks =
    All-weaker (λ (k : Kept). Unit × (not (is_among ss k) ≡ true)) (IsApart (Took ss))
    (λ k is. record { untaken = not-true (is_among ss k) is.1; unread = refl }) (filter (λ k. not (is_among ss k)) ks)
    (all-filtered (λ k. not (is_among ss k)) (λ (k : Kept). Unit) ks (λ n d within. tt))

-- of the present samples of an instance after a take, none is among those that it returned
pub holds-apart : (q : ReaderQos) (ss : List SamplePosition) (h : List Happening) (table : Table) (i : Key)
    (ks : List Kept) → Holds q table ks h
    → filter (is_present q (Took ss ∷ h) i) (up_to (length (Took ss ∷ h)))
    ≡ positions_in q (Took ss ∷ h) i (filter (λ k. not (is_among ss k)) ks)
holds-apart q ss h table i ks kept =
    present-next q (Took ss) h i ks [] (past-kept q h ks kept.each) (kept.present i)
    (ap (λ (b : Bool). cond b ((length h + 1) ∷ []) []) (quiet-absent q (Took ss) h i refl refl))
    ∙ (ap (λ (xs : List Kept). positions_in q (Took ss ∷ h) i xs) (append-nil ks)
    ∙ sym (present-dropped q (Took ss ∷ h) i (λ k. not (is_among ss k)) ks
    (λ k d within. here-untaken q ss h i (get_or ks k d))))

-- a sample is marked as one that a take returned, if it was returned, and is then what is kept of it
ripe-taken : (q : ReaderQos) (ss : List SamplePosition) (h : List Happening) (k : Kept) → IsKept q h k
    → IsRipe q (Took ss) h (taken ss k)
ripe-taken q ss h k kept = record {
  past = kept.in_past;
  was_known = sym (known q h k.sample.key) ∙ kept.is_known;
  kept = λ lives.
      kept-next q (Took ss) h k k.is_read (is_among ss k || k.is_out) (if is_among ss k then [] else k.value) lives refl
      refl (value-stays (is_among ss k)) kept;
}
  where
    value-stays : (b : Bool) → (b || k.is_out) ≡ false → (if b then [] else k.value) ≡ k.value
    value-stays true e = absurd (let clash : true ≡ false = e in cc)
    value-stays false e = refl

-- the samples that a take returned are marked, and those of the lives that it ended are gone
pub holds-took : (q : ReaderQos) (ss : List SamplePosition) (h : List Happening) (before table : Table) (known : ℕ)
    (ks : List Kept) → known ≡ length (known_instances q h) → Stands q table (Took ss ∷ h) → Holds q before ks h
    → Holds q table (left_since q (Took ss ∷ h) known (map (taken ss) ks)) (Took ss ∷ h)
holds-took q ss h before table known ks counted stands kept =
    let e : Happening = Took ss in
    let left : List Kept = left_since q (e ∷ h) known (map (taken ss) ks) in
    holds-next q e h before table ks left left stands
    (ripe-since q e h known ks (map (taken ss) ks) counted
    (All-map (IsRipe q e h) (taken ss) ks
    (All-weaker (IsKept q h) (λ (k : Kept). IsRipe q e h (taken ss k)) (λ k is. ripe-taken q ss h k is) ks kept.each))
    (λ i. positions-marked q (e ∷ h) i (taken ss) ks (λ k. refl)))
    (order-since q (e ∷ h) known (map (taken ss) ks) (order-map (taken ss) ks (λ k. refl) kept.in_order))
    (since-each (IsUpToDate q (e ∷ h)) q (e ∷ h) known (map (taken ss) ks)
    (up-quiet q e h (taken ss) ks (λ i. refl) (λ k. refl) (λ k filled. left-in k (is_among ss k) filled) kept.instances.follows.matched kept.each
    kept.up_to_date))
    (adds-none q e h left (λ i. quiet-absent q e h i refl refl)) kept
  where
    left-in : (k : Kept) (b : Bool) → (not (b || k.is_out) && k.valid_data) ≡ true → (has_data k ≡ true) × (b ≡ false)
    left-in k true filled = absurd (let clash : false ≡ true = filled in cc)
    left-in k false filled = (filled, refl)

-- those that are gone can be swept out
pub holds-in : (q : ReaderQos) (table : Table) (h : List Happening) (ks left : List Kept) → AreIn ks left
    → Holds q table ks h → Holds q table left h
holds-in q table h ks left are kept =
    ⊎_elim
    (λ same. subst (λ (xs : List Kept). Holds q table xs h) (sym same) kept)
    (λ fewer. subst (λ (xs : List Kept). Holds q table xs h) (sym fewer) (record {
      instances = kept.instances;
      each = All-filter is_in (IsKept q h) ks kept.each;
      present = λ i.
          kept.present i
          ∙ sym (present-dropped q h i is_in ks
          (All-weaker (IsKept q h) (λ (k : Kept). is_here q h i k ≡ true → is_in k ≡ true) (λ k is. here-in i k is) ks
          kept.each));
      in_order = IsNonDecreasingBy-filter position_of is_in ks kept.in_order;
      up_to_date = All-filter is_in (IsUpToDate q h) ks kept.up_to_date;
    }))
    are
  where
    here-in : (i : Key) (k : Kept) → IsKept q h k → is_here q h i k ≡ true → is_in k ≡ true
    here-in i k is here =
        let both = and_parts (same_key k.sample.key i) (is_present q h i k.sample.position) here in
        ap (λ (b : Bool). not b) (present-in q h k is
        (ap (λ (x : Key). is_present q h x k.sample.position) (key-same k.sample.key i both.0) ∙ both.1))

-- samples that are no longer present can be swept out
pub stands-swept : (h : List Happening) (old new : Stored) (keep : Kept → Bool) → new.qos ≡ old.qos
    → new.instances ≡ old.instances → new.samples ≡ filter keep old.samples → new.arrivals ≡ old.arrivals
    → new.data_at ≡ old.data_at
    → ((i : Key) → All (λ (k : Kept). is_here old.qos h i k ≡ true → keep k ≡ true) old.samples) → StandsFor old h
    → StandsFor new h
stands-swept h old new keep qos instances samples counted noted kept stands =
    let q : ReaderQos = old.qos in
    record {
      instances =
          subst (λ (r : ReaderQos). Stands r new.instances h) (sym qos)
          (subst (λ (t : Table). Stands q t h) (sym instances) stands.instances);
      each =
          subst (λ (r : ReaderQos). All (IsKept r h) new.samples) (sym qos)
          (subst (λ (ks : List Kept). All (IsKept q h) ks) (sym samples)
          (All-weaker (λ (k : Kept). IsKept q h k × (keep k ≡ true)) (IsKept q h) (λ k both. both.0)
          (filter keep old.samples) (all-filtered keep (IsKept q h) old.samples stands.each)));
      present =
          λ i. subst (λ (r : ReaderQos). filter (is_present r h i) (up_to (length h)) ≡ positions_in r h i new.samples)
          (sym qos) (stands.present i
          ∙ (sym (present-dropped q h i keep old.samples (kept i))
          ∙ ap (λ (ks : List Kept). positions_in q h i ks) (sym samples)));
      unread = stands.unread;
      untaken = stands.untaken;
      arrivals_are = counted ∙ stands.arrivals_are;
      data_is = noted ∙ (stands.data_is ∙ ap (λ (r : ReaderQos). data_available_at r h) (sym qos));
      in_order =
          subst (λ (ks : List Kept). IsNonDecreasingBy position_of ks) (sym samples)
          (IsNonDecreasingBy-filter position_of keep old.samples stands.in_order);
      up_to_date =
          subst (λ (r : ReaderQos). All (IsUpToDate r h) new.samples) (sym qos)
          (subst (λ (ks : List Kept). All (IsUpToDate q h) ks) (sym samples)
          (All-filter keep (IsUpToDate q h) old.samples stands.up_to_date));
    }

-- a cache that is swept stands for what it stood for
pub stands-stays : (h : List Happening) (old new : Stored) → new.qos ≡ old.qos → new.instances ≡ old.instances
    → new.samples ≡ filter (stays old.qos h) old.samples → new.arrivals ≡ old.arrivals → new.data_at ≡ old.data_at
    → StandsFor old h → StandsFor new h
stands-stays h old new qos instances samples counted noted stands =
    stands-swept h old new (stays old.qos h) qos instances samples counted noted
    (λ i. All-weaker (IsKept old.qos h) (λ (k : Kept). is_here old.qos h i k ≡ true → stays old.qos h k ≡ true)
    (λ k kept. here-stays old.qos h i k kept) old.samples stands.each)
    stands

-- ---- an access

-- a candidate is a sample of a known instance, of what has happened
returnable : (q : ReaderQos) (h : List Happening) (ks : List Kept) (c : Candidate) → All (IsKept q h) ks
    → IsCandidate q h ks c → IsReturnable q h c.sample
returnable q h ks c kept is =
    let k : Kept = get_or ks c.at (some_kept c.sample) in
    let past : k.sample.position ≤ length h = (kept c.at (some_kept c.sample) is.within).in_past in
    let same : k.sample.position ≡ c.sample.position = ap (λ (s : SamplePosition). s.position) (is.there (some_kept c.sample)) in
    record { in_past = omega (arith, past, same); is_known = is.is_known }

-- what was gathered of what an access picks
pub accessed : (kind : AccessKind) (stored : Stored) (h : List Happening) (selection : Selection) (test : Key → List ℕ → Bool)
    (cs : List Candidate) (access : Access) → StandsFor stored h
    → Picks stored.qos h selection test stored.samples cs → access.found.items ≡ cs
    → access.positions.items ≡ map sample_in access.found.items
    → access.samples.items ≡ collected kind stored.samples cs
    → IsAccess kind stored.qos h selection test stored.samples access
accessed kind stored h selection test cs access stands picks found_are positions_in_found collection_is =
    let positions_are : access.positions.items ≡ map sample_in cs =
    positions_in_found ∙ ap (λ (xs : List Candidate). map sample_in xs) found_are in
    record {
      good = picks.good;
      positions_are = positions_are ∙ picks.samples_are;
      collection_is = collection_is ∙ ap (λ (xs : List Candidate). collected kind stored.samples xs) (sym found_are);
      found = record {
        returnable =
            subst (λ (ss : List SamplePosition). All (IsReturnable stored.qos h) ss) (sym positions_are)
            (All-map (IsReturnable stored.qos h) sample_in cs
            (All-weaker (IsCandidate stored.qos h stored.samples) (λ (c : Candidate). IsReturnable stored.qos h c.sample)
            (λ c is. returnable stored.qos h stored.samples c stands.each is) cs picks.each));
        candidates =
            subst (λ (xs : List Candidate). All (IsCandidate stored.qos h stored.samples) xs) (sym found_are) picks.each;
      };
      apart =
          subst AreApart (sym found_are)
          (apart-picked stored.qos stored.instances h stored.samples selection test cs (holds stored h stands) picks);
    }

-- what may be returned is of the past
pub past-all : (q : ReaderQos) (h : List Happening) (ss : List SamplePosition) → All (IsReturnable q h) ss
    → All (λ (s : SamplePosition). s.position ≤ length h) ss
past-all q h ss each =
    All-weaker (IsReturnable q h) (λ (s : SamplePosition). s.position ≤ length h) (λ s is. is.in_past) ss each

-- what had not happened was not returned, also not by an access of what had
later-apart : (kind : AccessKind) (ss : List SamplePosition) (h : List Happening) (i : Key) (j : ℕ) → length h < j
    → All (λ (s : SamplePosition). s.position ≤ length h) ss
    → (list_any (same_sample (sample_at i j)) (read_by (entry_of kind ss)) ≡ false)
    × (list_any (same_sample (sample_at i j)) (taken_by (entry_of kind ss)) ≡ false)
later-apart Reading ss h i j later past = (none-later h i j ss later past, refl)
later-apart Taking ss h i j later past = (refl, none-later h i j ss later past)

arrivals-access : (kind : AccessKind) (ss : List SamplePosition) (h : List Happening)
    → arrivals (entry_of kind ss ∷ h) ≡ arrivals h
arrivals-access Reading ss h = refl
arrivals-access Taking ss h = refl

data-access : (kind : AccessKind) (q : ReaderQos) (ss : List SamplePosition) (h : List Happening)
    → data_available_at q (entry_of kind ss ∷ h) ≡ None
data-access Reading q ss h = refl
data-access Taking q ss h = refl

-- a cache stands for one access more, once what it keeps holds after it
pub stands-entered : (kind : AccessKind) (ss : List SamplePosition) (h : List Happening) (old new : Stored)
    → new.qos ≡ old.qos → new.arrivals ≡ old.arrivals → new.data_at ≡ None
    → All (λ (s : SamplePosition). s.position ≤ length h) ss
    → Holds new.qos new.instances new.samples (entry_of kind ss ∷ h) → StandsFor old h
    → StandsFor new (entry_of kind ss ∷ h)
stands-entered kind ss h old new qos counted lowered past now stands = record {
  instances = now.instances;
  each = now.each;
  present = now.present;
  unread = λ i j later.
      ap (λ (b : Bool). b || is_read (sample_at i j) h)
      (later-apart kind ss h i j (omega (arith, later)) past).0 ∙ stands.unread i j (omega (arith, later));
  untaken = λ i j later.
      ap (λ (b : Bool). b || is_taken (sample_at i j) h)
      (later-apart kind ss h i j (omega (arith, later)) past).1 ∙ stands.untaken i j (omega (arith, later));
  arrivals_are =
      counted
      ∙ (stands.arrivals_are ∙ ap (λ (n : ℕ). min n (2 ^ 64 - 1)) (sym (arrivals-access kind ss h)));
  data_is = lowered ∙ sym (data-access kind new.qos ss h);
  in_order = now.in_order;
  up_to_date = now.up_to_date;
}
