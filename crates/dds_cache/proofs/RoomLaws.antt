-- How many writes are present after a change.
use Rattle.std.proofs.Common.{◌≡◌, ◌≢◌, ℕ, ◌+◌, ◌-◌, ◌^◌, ◌≤◌, ◌<◌, min, List, [], ◌∷◌, ◌++◌, length, filter, Bool, true, false, not, ◌==◌, ◌&&◌, ◌||◌, sym, ap, ◌∙◌, refl, subst, cond, Option, Some, None, arith, ⊎_elim, get_or, take, zero, suc}
use Rattle.std.specs.Prelude.{if◌then◌else◌}
use Rattle.std.specs.List.{list_any, All, count_by}
use Rattle.std.proofs.lemmas.Bool.{and_from, and_parts, and_right, cases_Bool, le-leb, leb-true}
use Rattle.std.proofs.lemmas.Bool.Decides.{nat_tests}
use Rattle.std.proofs.lemmas.List.{append-nil, get_or_default, length-append, take_all}
use Rattle.std.proofs.lemmas.List.Sums.{sum_by-append, sum_by-cons, length-filter}
use Rattle.std.proofs.lemmas.List.Elements.{All-head, All-tail, All-weaker}
use Rattle.dds_base.specs.declared.key.Key.{Key}
use Rattle.dds_base.specs.declared.change.ChangeKind.{ChangeKind}
use Rattle.dds_base.specs.declared.happening.Arrival.{Arrival}
use Rattle.dds_base.specs.declared.happening.SamplePosition.{SamplePosition}
use Rattle.dds_base.specs.declared.happening.Happening.{Happening}
use Rattle.dds_base.specs.declared.happening.Happening.TheVariants.{Came}
use Rattle.dds_base.specs.declared.qos.ReaderQos.{ReaderQos}
use Rattle.dds_base.specs.Happening.{arrivals, same_key, as_of, read_by, taken_by}
use Rattle.dds_base.specs.Ownership.{AreOfMatched, accepted_kind}
use Rattle.dds_base.specs.Instance.{instance_state_of, introduces, is_known, known_instances, disposed_generations, no_writers_generations}
use Rattle.dds_base.specs.Life.{is_write, accepted_writes, ends_life, ends_with_write, is_at, is_kept_write, keeps, last_marker, later_writes, up_to}
use Rattle.dds_base.specs.Presence.{has_room, is_accepted, is_present, is_within, marks, present_writes}
use Rattle.dds_base.specs.Access.{timestamp_of, publication_of, newest_value}
use Rattle.dds_base.proofs.KeyLaws.{key-same, same_key-comm, same_key-refl}
use Rattle.dds_base.proofs.LifeLaws.{accepted-other, as_of-newest, as_of-older, marker-next}
use Rattle.dds_instances.specs.declared.known.KnownInstance.{KnownInstance}
use Rattle.dds_instances.specs.Known.{IsKnown, writes_in_life}
use Rattle.dds_instances.specs.Track.{one_if}
use Rattle.dds_instances.proofs.KnownLaws.{known}
use Rattle.dds_cache.specs.declared.kept.Kept.{Kept}
use Rattle.dds_cache.specs.Kept.{Adds, IsFresh, IsUpToDate, IsKept, IsKeptAt, IsOf, has_data, position_of, positions_in, sample_at}
use Rattle.dds_cache.specs.Pushing.{is_pushed}
use Rattle.dds_cache.specs.Room.{is_present_write, is_write_after}
use Rattle.dds_cache.proofs.ExactLaws.{after-behind, data-parts, other-stays}
use Rattle.dds_cache.proofs.KeptLaws.{kept-stated}
use Rattle.dds_cache.proofs.PushLaws.{AreNoneBefore}
use Rattle.dds_instances.specs.Table.{Table}
use Rattle.dds_cache.specs.Finding.{Holds}
use Rattle.dds_cache.specs.Sweeping.{stays}
use Rattle.dds_cache.proofs.EndLaws.{known-accepted, short}
use Rattle.dds_cache.proofs.PresenceLaws.{absent-after, count-grew, ended-absent, filter-narrow, marker-older, present-reached, reached, unmarked-other}
use Rattle.dds_cache.proofs.StandingLaws.{adds-nothing, adds-one, each-after, present-after}
use Rattle.dds_cache.proofs.SweepLaws.{Leaves, apart-quiet, leaves-swept, present-stays, ripe-one}
use Rattle.dds_cache.proofs.CountLaws.{present-count}

-- ---- what is kept, after a change

write-table : (o v k m : Bool) → (not o && (v && (k || m))) ≡ ((not o && ((v && k) || m)) && v)
write-table true v k m = refl
write-table false true true m = refl
write-table false true false true = refl
write-table false true false false = refl
write-table false false k true = refl
write-table false false k false = refl

-- a kept sample is a present write after an entry that is no access
write-next : (q : ReaderQos) (a : Arrival) (h : List Happening) (known : KnownInstance) (k : Kept) → IsKnown q h known
    → known.key ≡ k.sample.key → IsKept q h k
    → is_write_after q known (is_write (accepted_kind q k.sample.key h (Came a))) (marks q k.sample.key h (Came a)) k
    ≡ is_present_write q (Came a ∷ h) k
write-next q a h known k is_known key kept =
    let e : Happening = Came a in
    let i : Key = k.sample.key in
    let j : ℕ = k.sample.position in
    let w : Bool = is_write (accepted_kind q i h e) in
    let m : Bool = marks q i h e in
    let writes : known.accepted_writes ≡ writes_in_life q i h =
    is_known.writes_are ∙ ap (λ (x : Key). writes_in_life q x h) key in
    let marker : known.last_marker ≡ last_marker q i h = is_known.marker_is ∙ ap (λ (x : Key). last_marker q x h) key in
    let past : as_of j (e ∷ h) ≡ as_of j h = as_of-older e h j kept.in_past in
    let grew : accepted_writes q i (as_of j h) ≤ accepted_writes q i h =
    count-grew (λ g. accepted_writes q i g) (λ e g. omega arith) j h in
    let later : (known.accepted_writes - k.number) + one_if w
    ≡ accepted_writes q i (e ∷ h) - accepted_writes q i
    (as_of j h) = ap (λ (n : ℕ). (n - k.number) + one_if w) writes
    ∙ (let sum : (writes_in_life q i h - k.number) + one_if w
    ≡ (accepted_writes q i h + one_if w) - accepted_writes q i (as_of j h) = omega (arith, kept.numbered, grew) in sum)
    in
    let m' : Option ℕ = reached q i h e in
    let at : (not m && is_at known.last_marker j) ≡ is_at m' j =
    ap (λ (x : Option ℕ). not m && is_at x j) marker ∙ sym (marker-older q e h i j kept.in_past) in
    let valid : k.valid_data ≡ ends_with_write q i (as_of j h) = kept.is_of.valid_is in
    ⊎_elim
    (λ out. ap (λ (b : Bool). not b && (k.valid_data && (keeps q.history
    ((known.accepted_writes - k.number) + one_if w) || (not m && is_at known.last_marker j)))) out
    ∙ sym (ap (λ (b : Bool). b && ends_with_write q i (as_of j (e ∷ h)))
    (absent-after q e h i j kept.in_past (kept.out_is out))))
    (λ stays. ap (λ (n : ℕ). not k.is_out && (k.valid_data && (keeps q.history n || (not m && is_at known.last_marker j)))) later
    ∙ (ap (λ (b : Bool). not k.is_out && (k.valid_data && (keeps q.history
    (accepted_writes q i (e ∷ h) - accepted_writes q i (as_of j h)) || b))) at
    ∙ (ap (λ (b : Bool). not k.is_out && (b && (keeps q.history
    (accepted_writes q i (e ∷ h) - accepted_writes q i (as_of j h)) || is_at m' j))) valid
    ∙ (write-table k.is_out (ends_with_write q i (as_of j h))
    (keeps q.history (accepted_writes q i (e ∷ h) - accepted_writes q i (as_of j h))) (is_at m' j)
    ∙ (ap (λ (g : List Happening). (not k.is_out
    && ((ends_with_write q i g && keeps q.history (accepted_writes q i (e ∷ h) - accepted_writes q i g)) || is_at m' j))
    && ends_with_write q i g) (sym past)
    ∙ (ap (λ (b : Bool). (not b && (is_kept_write q (e ∷ h) i j || is_at m' j))
    && ends_with_write q i (as_of j (e ∷ h))) (stays ∙ sym (kept.in_is stays))
    ∙ sym (ap (λ (b : Bool). b && ends_with_write q i (as_of j (e ∷ h)))
    (present-reached q e h i j (omega (arith, kept.in_past))))))))))
    (cases_Bool k.is_out)

-- the same, by whether the change is of its instance
pub write-after : (q : ReaderQos) (a : Arrival) (h : List Happening) (known : KnownInstance) (k : Kept) (w m : Bool)
    → w ≡ ends_with_write q a.change.key (Came a ∷ h) → m ≡ marks q a.change.key h (Came a) → IsKnown q h known
    → known.key ≡ k.sample.key → IsKept q h k
    → is_write_after q known (same_key k.sample.key a.change.key && w) (same_key k.sample.key a.change.key && m) k
    ≡ is_present_write q (Came a ∷ h) k
write-after q a h known k w m written marked is_known key kept =
    let i : Key = k.sample.key in
    let own_write : (same_key i a.change.key && w) ≡ is_write (accepted_kind q i h (Came a)) = ⊎_elim
    (λ same. ap (λ (b : Bool). b && w) same
    ∙ (written ∙ ap (λ (x : Key). is_write (accepted_kind q x h (Came a))) (sym (key-same i a.change.key same))))
    (λ other. ap (λ (b : Bool). b && w) other
    ∙ sym (ap (λ (x : Option ChangeKind). is_write x) (accepted-other q i h a (flipped i a.change.key other))))
    (cases_Bool (same_key i a.change.key)) in
    let own_mark : (same_key i a.change.key && m) ≡ marks q i h (Came a) = ⊎_elim
    (λ same. ap (λ (b : Bool). b && m) same
    ∙ (marked ∙ ap (λ (x : Key). marks q x h (Came a)) (sym (key-same i a.change.key same))))
    (λ other. ap (λ (b : Bool). b && m) other ∙ sym (unmarked-other q a h i (flipped i a.change.key other)))
    (cases_Bool (same_key i a.change.key)) in
    ap (λ (b : Bool). is_write_after q known b (same_key i a.change.key && m) k) own_write
    ∙ (ap (λ (b : Bool). is_write_after q known (is_write (accepted_kind q i h (Came a))) b k) own_mark
    ∙ write-next q a h known k is_known key kept)
  where
    flipped : (x y : Key) → same_key x y ≡ false → same_key y x ≡ false
    flipped x y other = same_key-comm y x ∙ other

-- ---- what the change leaves

-- what would be kept of it
newest : ReaderQos → Happening → List Happening → Key → Kept
newest q e h i = record {
  sample = sample_at i (length h + 1);
  number = writes_in_life q i (e ∷ h);
  is_read = false;
  is_out = false;
  valid_data = ends_with_write q i (e ∷ h);
  disposed_generation_count = disposed_generations q i (e ∷ h);
  no_writers_generation_count = no_writers_generations q i (e ∷ h);
  source_timestamp = timestamp_of (e ∷ h);
  publication_handle = publication_of (e ∷ h);
  value = newest_value q i (e ∷ h);
}

newest-kept : (q : ReaderQos) (a : Arrival) (h : List Happening) → IsFresh h a.change.key
    → list_any (λ k. same_key k a.change.key) (known_instances q (Came a ∷ h)) ≡ true
    → is_present q (Came a ∷ h) a.change.key (length h + 1) ≡ true
    → IsKeptAt q (Came a ∷ h) a.change.key (length h + 1) (newest q (Came a) h a.change.key)
unfolding newest
newest-kept q a h fresh known present =
    let k : Kept = newest q (Came a) h a.change.key in
    let g : List Happening = Came a ∷ h in
    let now : IsOf q g k =
    record {
      valid_is = refl;
      disposed_is = refl;
      no_writers_is = refl;
      timestamp_is = refl;
      publication_is = refl;
      value_is = λ _. refl;
    } in
    record {
      sample_is = refl;
      kept = record {
        in_past = omega arith;
        is_known = known;
        out_is = λ out. absurd (let clash : false ≡ true = out in cc);
        in_is = λ _. fresh.untaken;
        read_is = sym fresh.unread;
        numbered =
            (let sum : accepted_writes q a.change.key g + writes_in_life q a.change.key g
            ≡ writes_in_life q a.change.key g + accepted_writes q a.change.key g = omega arith in sum)
            ∙ ap (λ (x : List Happening). writes_in_life q a.change.key g + accepted_writes q a.change.key x)
            (sym (as_of-newest (Came a) h));
        is_of = subst (λ (x : List Happening). IsOf q x k) (sym (as_of-newest (Came a) h)) now;
      };
      present = present;
    }

-- whether the change leaves a present write
abbrev pub leaves_write : ReaderQos → Arrival → List Happening → Bool
leaves_write q a h =
    is_present q (Came a ∷ h) a.change.key (length h + 1) && ends_with_write q a.change.key (Came a ∷ h)

count-one : (p : Kept → Bool) (k : Kept) → count_by p (k ∷ []) ≡ one_if (p k)
count-one p k =
    sum_by-cons (λ x. cond (p x) 1 0) k [] ∙ (let none : cond (p k) 1 0 + 0 ≡ one_if (p k) = omega arith in none)

-- samples that are not present need not be counted
count-swept : (q : ReaderQos) (e : Happening) (h : List Happening) (ks : List Kept) → taken_by e ≡ [] → read_by e ≡ []
    → All (IsKept q h) ks
    → count_by (is_present_write q (e ∷ h)) (filter (stays q (e ∷ h)) ks) ≡ count_by (is_present_write q (e ∷ h)) ks
count-swept q e h ks taken read each =
    let p : Kept → Bool = is_present_write q (e ∷ h) in
    sym (length-filter p (filter (stays q (e ∷ h)) ks))
    ∙ (ap length (filter-narrow (stays q (e ∷ h)) p ks
    (All-weaker (IsKept q h) (λ (k : Kept). p k ≡ true → stays q (e ∷ h) k ≡ true)
    (λ k kept there. present-stays q e h k.sample.key k (ripe-one q e h k (apart-quiet e k taken read) kept)
    (ap (λ (b : Bool). b && is_present q (e ∷ h) k.sample.key k.sample.position) (same_key-refl k.sample.key)
    ∙ (and_parts (is_present q (e ∷ h) k.sample.key k.sample.position) _ there).0)) ks each))
    ∙ length-filter p ks)

-- the present writes after a change, among what is then kept
added-count : (q : ReaderQos) (a : Arrival) (h : List Happening) (ks ns added : List Kept) → All (IsKept q h) ks
    → ((i : Key) → filter (is_present q h i) (up_to (length h)) ≡ positions_in q h i ks)
    → ns ≡ filter (stays q (Came a ∷ h)) ks ++ added → Adds q (Came a) h (filter (stays q (Came a ∷ h)) ks) ns
    → present_writes q (Came a ∷ h)
    ≡ count_by (is_present_write q (Came a ∷ h)) ks + count_by (is_present_write q (Came a ∷ h)) added
added-count q a h ks ns added each present are adds =
    let g : List Happening = Came a ∷ h in
    let left : List Kept = filter (stays q g) ks in
    let leaves : Leaves q (Came a) h ks left =
    leaves-swept q (Came a) h ks (λ n d within. record { untaken = refl; unread = refl }) each in
    let all : All (IsKept q g) ns = each-after q (Came a) h ks left ns leaves adds in
    present-count q g (λ (s : SamplePosition). ends_with_write q s.key (as_of s.position g)) ns
    (All-weaker (IsKept q g) (λ (k : Kept). list_any (λ i. same_key i k.sample.key) (known_instances q g) ≡ true)
    (λ k kept. kept.is_known) ns all)
    (present-after q (Came a) h ks left ns leaves adds each present)
    ∙ (ap (λ (xs : List Kept). count_by (is_present_write q g) xs) are
    ∙ (sum_by-append (λ x. cond (is_present_write q g x) 1 0) left added
    ∙ ap (λ (n : ℕ). n + count_by (is_present_write q g) added) (count-swept q (Came a) h ks refl refl each)))

-- the present writes after a change are those kept that still are, and its own
pub writes-after : (q : ReaderQos) (a : Arrival) (h : List Happening) (ks : List Kept) → All (IsKept q h) ks
    → ((i : Key) → filter (is_present q h i) (up_to (length h)) ≡ positions_in q h i ks) → IsFresh h a.change.key
    → is_accepted q h (Came a) ≡ true
    → present_writes q (Came a ∷ h) ≡ count_by (is_present_write q (Came a ∷ h)) ks + one_if (leaves_write q a h)
writes-after q a h ks each present fresh accepted =
    let p : Kept → Bool = is_present_write q (Came a ∷ h) in
    let left : List Kept = filter (stays q (Came a ∷ h)) ks in
    ⊎_elim
    (λ there. let k : Kept = newest q (Came a) h a.change.key in
    let known_then : list_any (λ x. same_key x a.change.key) (known_instances q (Came a ∷ h)) ≡ true =
    known q (Came a ∷ h) a.change.key ∙ (known-accepted q (Came a) h a.change.key accepted
    ∙ ap (λ (b : Bool). not b) (⊎_elim
    (λ over. absurd (let clash : false ≡ true =
    sym (ended-absent q (Came a) h a.change.key (length h + 1) over (omega arith)) ∙ there in cc))
    (λ goes_on. goes_on)
    (cases_Bool (ends_life q a.change.key h (Came a))))) in
    let at : IsKeptAt q (Came a ∷ h) a.change.key (length h + 1) k = newest-kept q a h fresh known_then there in
    added-count q a h ks (left ++ k ∷ []) (k ∷ []) each present refl (adds-one q a h left k at)
    ∙ ap (λ (n : ℕ). count_by p ks + n) (count-one p k ∙ own q a h k at.sample_is))
    (λ gone. added-count q a h ks left [] each present (sym (append-nil left)) (adds-nothing q a h left gone)
    ∙ ap (λ (b : Bool). count_by p ks + one_if (b && ends_with_write q a.change.key (Came a ∷ h))) (sym gone))
    (cases_Bool (is_present q (Came a ∷ h) a.change.key (length h + 1)))
  where
    own : (q : ReaderQos) (a : Arrival) (h : List Happening) (k : Kept)
        → k.sample ≡ sample_at a.change.key (length h + 1) → one_if (is_present_write q (Came a ∷ h) k)
        ≡ one_if (leaves_write q a h)
    own q a h k sample =
        ap (λ (s : SamplePosition). one_if
        (is_present q (Came a ∷ h) s.key s.position && ends_with_write q s.key (as_of s.position (Came a ∷ h))))
        sample
        ∙ ap (λ (g : List Happening). one_if
        (is_present q (Came a ∷ h) a.change.key (length h + 1) && ends_with_write q a.change.key g))
        (as_of-newest (Came a) h)

-- a write is present where the history keeps it, or where it is a marker
pub leaves-write : (q : ReaderQos) (a : Arrival) (h : List Happening) (w m : Bool)
    → w ≡ ends_with_write q a.change.key (Came a ∷ h) → m ≡ marks q a.change.key h (Came a) → IsFresh h a.change.key
    → (w && (keeps q.history 0 || m)) ≡ leaves_write q a h
leaves-write q a h w m written marked fresh =
    let i : Key = a.change.key in
    let n : ℕ = length h + 1 in
    let g : List Happening = Came a ∷ h in
    let m' : Option ℕ = reached q i h (Came a) in
    let marker : m ≡ is_at m' n = marked ∙ marker-newest q (Came a) h i in
    let later : later_writes q g i n ≡ 0 =
    ap (λ (x : List Happening). accepted_writes q i g - accepted_writes q i x) (as_of-newest (Came a) h)
    ∙ (let none : accepted_writes q i g - accepted_writes q i g ≡ 0 = omega arith in none) in
    ap (λ (b : Bool). b && (keeps q.history 0 || m)) written
    ∙ (ap (λ (b : Bool). ends_with_write q i g && (keeps q.history 0 || b)) marker
    ∙ (write-table false (ends_with_write q i g) (keeps q.history 0) (is_at m' n)
    ∙ (ap (λ (x : ℕ). ((ends_with_write q i g && keeps q.history x) || is_at m' n) && ends_with_write q i g) (sym later)
    ∙ (ap (λ (x : List Happening).
    ((ends_with_write q i x && keeps q.history (later_writes q g i n)) || is_at m' n) && ends_with_write q i g)
    (sym (as_of-newest (Came a) h))
    ∙ (sym (ap (λ (b : Bool). (not b && (is_kept_write q g i n || is_at m' n)) && ends_with_write q i g) fresh.untaken)
    ∙ sym (ap (λ (b : Bool). b && ends_with_write q i g) (present-reached q (Came a) h i n (omega arith))))))))
  where
    eqb-refl : (n : ℕ) → true ≡ (n == n)
    eqb-refl n = grind (arith, nat_tests)

    marker-newest : (q : ReaderQos) (e : Happening) (h : List Happening) (i : Key)
        → marks q i h e ≡ is_at (reached q i h e) (length h + 1)
    marker-newest q e h i =
        ⊎_elim
        (λ marked. marked ∙ (eqb-refl (length h + 1)
        ∙ sym (ap (λ (b : Bool). is_at (if b then Some (length h + 1) else last_marker q i h) (length h + 1))
        marked)))
        (λ unmarked. unmarked
        ∙ (sym (marker-next q i h)
        ∙ sym (ap (λ (b : Bool). is_at (if b then Some (length h + 1) else last_marker q i h) (length h + 1))
        unmarked)))
        (cases_Bool (marks q i h e))

-- a write that is present after a change is not gone, and has data
writes-in : (q : ReaderQos) (a : Arrival) (h : List Happening) (k : Kept) → IsKept q h k
    → is_present_write q (Came a ∷ h) k ≡ true → has_data k ≡ true
writes-in q a h k kept is =
    let parts = and_parts (is_present q (Came a ∷ h) k.sample.key k.sample.position) _ is in
    and_from (not k.is_out) k.valid_data
    (⊎_elim
    (λ out. absurd (let clash : true ≡ false = sym parts.0
    ∙ absent-after q (Came a) h k.sample.key k.sample.position kept.in_past (kept.out_is out) in cc))
    (λ stays. ap (λ (b : Bool). not b) stays)
    (cases_Bool k.is_out))
    (kept.is_of.valid_is
    ∙ (ap (λ (g : List Happening). ends_with_write q k.sample.key g)
    (sym (as_of-older (Came a) h k.sample.position kept.in_past)) ∙ parts.1))

-- ---- those that the change pushes out

-- they and the present writes are those that have data and are not gone
pub pushed-or-present : (q : ReaderQos) (a : Arrival) (h : List Happening) (ks : List Kept) → All (IsKept q h) ks
    → count_by (is_present_write q (Came a ∷ h)) ks + count_by (is_pushed q a h) ks ≡ count_by has_data ks
pushed-or-present q a h [] each = grind arith
pushed-or-present q a h (k ∷ ks) each =
    let p : Kept → Bool = is_present_write q (Came a ∷ h) in
    let present : count_by p (k ∷ ks) ≡ cond (p k) 1 0 + count_by p ks = sum_by-cons (λ x. cond (p x) 1 0) k ks in
    let pushed : count_by (is_pushed q a h) (k ∷ ks) ≡ cond (is_pushed q a h k) 1 0 + count_by (is_pushed q a h) ks =
    sum_by-cons (λ x. cond (is_pushed q a h x) 1 0) k ks in
    let all : count_by has_data (k ∷ ks) ≡ cond (has_data k) 1 0 + count_by has_data ks =
    sum_by-cons (λ x. cond (has_data x) 1 0) k ks in
    let rest = pushed-or-present q a h ks (All-tail (IsKept q h) k ks each) in
    let one : cond {A = ℕ} (p k) 1 0 + cond {A = ℕ} (has_data k && not (p k)) 1 0 ≡ cond {A = ℕ} (has_data k) 1 0 =
    either (p k) (has_data k) (λ there. writes-in q a h k (All-head (IsKept q h) k ks each) there) in
    omega (arith, present, pushed, all, rest, one)
  where
    either : (p d : Bool) → (p ≡ true → d ≡ true)
        → cond {A = ℕ} p 1 0 + cond {A = ℕ} (d && not p) 1 0 ≡ cond {A = ℕ} d 1 0
    either true true more = omega arith
    either true false more = absurd (let clash : false ≡ true = more refl in cc)
    either false true more = omega arith
    either false false more = omega arith

-- one of another instance, or that is gone or has no data, is none of them
pub unpushed-other : (q : ReaderQos) (a : Arrival) (h : List Happening) (k : Kept) → AreOfMatched q h → IsKept q h k
    → IsUpToDate q h k → same_key k.sample.key a.change.key ≡ false → is_pushed q a h k ≡ false
unpushed-other q a h k matched kept up other =
    ⊎_elim
    (λ filled. ap (λ (b : Bool). has_data k && not b)
    (and_from (is_present q (Came a ∷ h) k.sample.key k.sample.position)
    (ends_with_write q k.sample.key (as_of k.sample.position (Came a ∷ h)))
    (other-stays q a h k matched kept up (same_key-comm a.change.key k.sample.key ∙ other) filled)
    (ap (λ (g : List Happening). ends_with_write q k.sample.key g) (as_of-older (Came a) h k.sample.position kept.in_past)
    ∙ (data-parts q h k kept filled).1))
    ∙ and_right (has_data k) false refl)
    (λ none. ap (λ (b : Bool). b && not (is_present_write q (Came a ∷ h) k)) none)
    (cases_Bool (has_data k))

pub unpushed-empty : (q : ReaderQos) (a : Arrival) (h : List Happening) (k : Kept) → has_data k ≡ false
    → is_pushed q a h k ≡ false
unpushed-empty q a h k none = ap (λ (b : Bool). b && not (is_present_write q (Came a ∷ h) k)) none

-- nor one behind a write of the instance that stays
pub unpushed-behind : (q : ReaderQos) (a : Arrival) (h : List Happening) (j k : Kept) → AreOfMatched q h → IsKept q h j
    → IsKept q h k → k.sample.key ≡ j.sample.key → position_of j ≤ position_of k
    → is_present_write q (Came a ∷ h) j ≡ true → is_pushed q a h k ≡ false
unpushed-behind q a h j k matched former kept same le there =
    ⊎_elim
    (λ filled. ap (λ (b : Bool). has_data k && not b) (after-behind q a h j k matched former kept same le there filled)
    ∙ and_right (has_data k) false refl)
    (λ none. unpushed-empty q a h k none)
    (cases_Bool (has_data k))

-- as many are counted up to a place where none is counted between
pub count-further : (p : Kept → Bool) (ks : List Kept) (m n : ℕ) → m ≤ n
    → ((j : ℕ) (d : Kept) → m ≤ j → j < n → j < length ks → p (get_or ks j d) ≡ false)
    → count_by p (take n ks) ≡ count_by p (take m ks)
count-further p [] zero n le none = taken-none n
  where
    taken-none : (n : ℕ) → count_by p (take n []) ≡ 0
    taken-none zero = refl
    taken-none (suc n) = refl
count-further p [] (suc m) (suc n) le none = refl
count-further p [] (suc m) zero le none = absurd (omega (arith, le))
count-further p (k ∷ ks) zero zero le none = refl
count-further p (k ∷ ks) zero (suc n) le none =
    sum_by-cons (λ x. cond (p x) 1 0) k (take n ks)
    ∙ (ap (λ (b : Bool). cond b 1 0 + count_by p (take n ks)) (none 0 k (omega arith) (omega arith) (omega arith))
    ∙ (let rest : count_by p (take n ks) ≡ 0 = count-further p ks zero n (omega arith)
    (λ j d from below within. none (suc j) d (omega arith) (omega (arith, below)) (omega (arith, within))) in
    omega (arith, rest)))
count-further p (k ∷ ks) (suc m) zero le none = absurd (omega (arith, le))
count-further p (k ∷ ks) (suc m) (suc n) le none =
    sum_by-cons (λ x. cond (p x) 1 0) k (take n ks)
    ∙ (ap (λ (c : ℕ). cond (p k) 1 0 + c)
    (count-further p ks m n (omega (arith, le))
    (λ j d from below within. none (suc j) d (omega (arith, from)) (omega (arith, below)) (omega (arith, within))))
    ∙ sym (sum_by-cons (λ x. cond (p x) 1 0) k (take m ks)))

-- none of those before a place is one, where none of the instance has data there, but for those that are gone
pub unpushed-before : (q : ReaderQos) (table : Table) (a : Arrival) (h : List Happening) (known : KnownInstance)
    (ks : List Kept) (place : ℕ) → known.key ≡ a.change.key → Holds q table ks h → AreNoneBefore known ks place
    → (j : ℕ) (d : Kept) → j < place → j < length ks → is_pushed q a h (get_or ks j d) ≡ false
unpushed-before q table a h known ks place key holds none j d before within =
    let k : Kept = get_or ks j d in
    ⊎_elim
    (λ own. unpushed-empty q a h k (none j d before within own))
    (λ other. unpushed-other q a h k holds.instances.follows.matched (holds.each j d within) (holds.up_to_date j d within)
    (ap (λ (i : Key). same_key k.sample.key i) (sym key) ∙ other))
    (cases_Bool (same_key k.sample.key known.key))

-- and none from a write of the instance on that stays
pub unpushed-from : (q : ReaderQos) (table : Table) (a : Arrival) (h : List Happening) (known : KnownInstance)
    (ks : List Kept) (place : ℕ) (x : Kept) → known.key ≡ a.change.key → Holds q table ks h → place < length ks
    → x ≡ get_or ks place x → (same_key x.sample.key known.key && is_present_write q (Came a ∷ h) x) ≡ true
    → (j : ℕ) (d : Kept) → place ≤ j → j < length ks → is_pushed q a h (get_or ks j d) ≡ false
unpushed-from q table a h known ks place x key holds there x_is stays j d from within =
    let k : Kept = get_or ks j d in
    let parts = and_parts (same_key x.sample.key known.key) (is_present_write q (Came a ∷ h) x) stays in
    let kept : IsKept q h x = subst (λ (y : Kept). IsKept q h y) (sym x_is) (holds.each place x there) in
    ⊎_elim
    (λ own. unpushed-behind q a h x k holds.instances.follows.matched kept (holds.each j d within)
    (key-same k.sample.key known.key own ∙ sym (key-same x.sample.key known.key parts.0))
    (subst (λ (y : Kept). position_of y ≤ position_of k) (sym (x_is ∙ get_or_default ks place x d there))
    (holds.in_order place j d from within)) parts.1)
    (λ other. unpushed-other q a h k holds.instances.follows.matched (holds.each j d within) (holds.up_to_date j d within)
    (ap (λ (i : Key). same_key k.sample.key i) (sym key) ∙ other))
    (cases_Bool (same_key k.sample.key known.key))

-- and one of another instance is none
pub unpushed-apart : (q : ReaderQos) (table : Table) (a : Arrival) (h : List Happening) (known : KnownInstance)
    (ks : List Kept) → known.key ≡ a.change.key → Holds q table ks h → (j : ℕ) (d : Kept) → j < length ks
    → (get_or ks j d).sample.key ≢ known.key → is_pushed q a h (get_or ks j d) ≡ false
unpushed-apart q table a h known ks key holds j d within apart =
    let k : Kept = get_or ks j d in
    ⊎_elim
    (λ own. absurd (apart (key-same k.sample.key a.change.key own ∙ sym key)))
    (λ other. unpushed-other q a h k holds.instances.follows.matched (holds.each j d within) (holds.up_to_date j d within) other)
    (cases_Bool (same_key k.sample.key a.change.key))

-- one of the instance that has data, is not gone and does not stay is one
pub pushed-own : (q : ReaderQos) (table : Table) (a : Arrival) (h : List Happening) (known : KnownInstance)
    (ks : List Kept) (place : ℕ) (x : Kept) → known.key ≡ a.change.key → Holds q table ks h → place < length ks
    → x ≡ get_or ks place x → (same_key x.sample.key known.key && is_present_write q (Came a ∷ h) x) ≡ false
    → is_pushed q a h x ≡ (same_key x.sample.key known.key && has_data x)
pushed-own q table a h known ks place x key holds there x_is goes =
    let p : Bool = is_present_write q (Came a ∷ h) x in
    ⊎_elim
    (λ own. ap (λ (b : Bool). has_data x && not b)
    (sym (ap (λ (b : Bool). b && p) own) ∙ goes)
    ∙ (whole (has_data x) ∙ sym (ap (λ (b : Bool). b && has_data x) own)))
    (λ other. unpushed-other q a h x holds.instances.follows.matched
    (subst (λ (y : Kept). IsKept q h y) (sym x_is) (holds.each place x there))
    (subst (λ (y : Kept). IsUpToDate q h y) (sym x_is) (holds.up_to_date place x there))
    (ap (λ (i : Key). same_key x.sample.key i) (sym key) ∙ other)
    ∙ sym (ap (λ (b : Bool). b && has_data x) other))
    (cases_Bool (same_key x.sample.key known.key))
  where
    whole : (b : Bool) → (b && true) ≡ b
    whole true = refl
    whole false = refl

-- of an instance that is not known none is one
pub unpushed-unknown : (q : ReaderQos) (table : Table) (a : Arrival) (h : List Happening) (ks : List Kept)
    → instance_state_of q a.change.key h ≡ None → Holds q table ks h → count_by (is_pushed q a h) ks ≡ 0
unpushed-unknown q table a h ks unknown holds =
    ap (λ (xs : List Kept). count_by (is_pushed q a h) xs) (sym (take_all (length ks) ks (omega arith)))
    ∙ count-further (is_pushed q a h) ks 0 (length ks) (omega arith)
    (λ j d from below within. let k : Kept = get_or ks j d in
    ⊎_elim
    (λ own. absurd (kept-stated q h k (holds.each j d within)
    (ap (λ (i : Key). instance_state_of q i h) (key-same k.sample.key a.change.key own) ∙ unknown)))
    (λ other. unpushed-other q a h k holds.instances.follows.matched (holds.each j d within) (holds.up_to_date j d within) other)
    (cases_Bool (same_key k.sample.key a.change.key)))

-- what is no more than what keeps to the limit does too
pub within-less : (limit : Option ℕ) (n m : ℕ) → n ≤ m → is_within limit m ≡ true → is_within limit n ≡ true
within-less None n m less within = refl
within-less (Some most) n m less within = le-leb n most (omega (arith, less, leb-true m most within))

-- with fewer samples than may be present that have data and are not gone, there is room for one more
spare-fits : (q : ReaderQos) (a : Arrival) (h : List Happening) (ks : List Kept) → All (IsKept q h) ks
    → ((i : Key) → filter (is_present q h i) (up_to (length h)) ≡ positions_in q h i ks) → IsFresh h a.change.key
    → is_accepted q h (Came a) ≡ true → is_within q.max_samples (count_by has_data ks + 1) ≡ true
    → is_within q.max_samples (present_writes q (Came a ∷ h)) ≡ true
spare-fits q a h ks each present fresh accepted within =
    let count = writes-after q a h ks each present fresh accepted in
    let few = pushed-or-present q a h ks each in
    let one = at-most-one (leaves_write q a h) in
    within-less q.max_samples (present_writes q (Came a ∷ h)) (count_by has_data ks + 1) (omega (arith, count, few, one))
    within
  where
    at-most-one : (b : Bool) → one_if b ≤ 1
    at-most-one true = omega arith
    at-most-one false = omega arith

-- one instance more is known after a change, at most
pub instances-spare : (q : ReaderQos) (a : Arrival) (h : List Happening) (before : ℕ)
    → before ≡ length (known_instances q h) → is_within q.max_instances (before + 1) ≡ true
    → is_within q.max_instances (length (known_instances q (Came a ∷ h))) ≡ true
instances-spare q a h before counted within =
    within-less q.max_instances (length (known_instances q (Came a ∷ h))) (before + 1)
    (one-more (introduces q a.change.key h (Came a)) (is_known q (Came a ∷ h)) (known_instances q h) a.change.key before
    counted) within
  where
    one-more : (b : Bool) (p : Key → Bool) (ks : List Key) (k : Key) (n : ℕ) → n ≡ length ks
        → length (filter p (ks ++ (if b then k ∷ [] else []))) ≤ n + 1
    one-more b p ks k n is =
        let sum : length (ks ++ (if b then k ∷ [] else [])) ≡ length ks + length (if b then k ∷ [] else []) =
        length-append ks (if b then k ∷ [] else []) in
        omega (arith, is, sum, one b k, short p (ks ++ (if b then k ∷ [] else [])))
      where
        one : (b : Bool) (k : Key) → length (if b then k ∷ [] else []) ≤ 1
        one true k = omega arith
        one false k = omega arith

-- where one sample and one instance more keep to the limits, there is room for each change
pub spare-is-room : (q : ReaderQos) (a : Arrival) (h : List Happening) (ks : List Kept) (came known : ℕ)
    → All (IsKept q h) ks → ((i : Key) → filter (is_present q h i) (up_to (length h)) ≡ positions_in q h i ks)
    → IsFresh h a.change.key → came ≡ min (arrivals h) (2 ^ 64 - 1) → came < q.max_arrivals → q.max_arrivals < 2 ^ 64
    → known ≡ length (known_instances q h) → is_within q.max_samples (count_by has_data ks + 1) ≡ true
    → is_within q.max_instances (known + 1) ≡ true → true ≡ has_room q h (Came a)
spare-is-room q a h ks came known each present fresh counted few wide known_is samples instances =
    sym (ap (λ (b : Bool). b && fits (is_accepted q h (Came a))) (le-leb (arrivals h + 1) q.max_arrivals
    (omega (arith, counted, few, wide)))
    ∙ ⊎_elim
    (λ accepted. ap fits accepted
    ∙ (ap (λ (b : Bool). b && is_within q.max_instances (length (known_instances q (Came a ∷ h))))
    (spare-fits q a h ks each present fresh accepted samples)
    ∙ instances-spare q a h known known_is instances))
    (λ refused. ap fits refused)
    (cases_Bool (is_accepted q h (Came a))))
  where
    fits : Bool → Bool
    fits accepted = not accepted || (is_within q.max_samples (present_writes q (Came a ∷ h))
        && is_within q.max_instances (length (known_instances q (Came a ∷ h))))
