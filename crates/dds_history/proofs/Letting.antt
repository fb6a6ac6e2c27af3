-- What is held after one more change, or after an acknowledgement.
use Rattle.std.proofs.Common.{◌≡◌, ℕ, zero, suc, ◌+◌, ◌-◌, ◌^◌, ◌<◌, ◌≤◌, Bool, true, false, ◌&&◌, ◌||◌, cond, Option, Some, None, List, [], ◌∷◌, ◌++◌, map, length, count_by, slice_get, get_or, set, max, refl, ap, sym, subst, ◌∙◌, arith, length-append}
use Rattle.std.specs.Borrow.{Bor}
use Rattle.std.specs.Prelude.{if◌then◌else◌, is_some, nat_lt, nat_le, filter, find}
use Rattle.std.specs.Option.{option_copied, option_map, unwrap_or}
use Rattle.std.proofs.lemmas.Bool.Decides.{nat_tests}
use Rattle.std.proofs.lemmas.List.{map-append, set-get_or}
use Rattle.std.proofs.lemmas.List.Elements.{filter-append}
use Rattle.std.proofs.lemmas.List.Sums.{length-filter}
use Rattle.dds_base.specs.declared.key.Key.{Key}
use Rattle.dds_base.specs.declared.change.Change.{Change}
use Rattle.dds_base.specs.declared.code.Code.{Code}
use Rattle.dds_base.specs.declared.code.Code.TheVariants.{OutOfResources, Timeout}
use Rattle.dds_base.specs.declared.qos.HistoryQos.{HistoryQos}
use Rattle.dds_base.specs.declared.qos.HistoryQos.TheVariants.{KeepAll, KeepLast}
use Rattle.dds_base.specs.Happening.{same_key}
use Rattle.dds_base.specs.Kept.{WriterHistory, acknowledge, appended, append_refusal, exceeds, first_kept, is_kept, kept_change}
use Rattle.dds_base.proofs.KeyLaws.{same_key-refl}
use Rattle.dds_history.specs.declared.held.Entry.{Entry}
use Rattle.dds_history.specs.Entries.{Counted, Holds, KeptState, held_as, parts, shown}
use Rattle.dds_history.specs.Held.{HeldChange, IsNext, aged, aged_by, all_from, awaits, granted, held_of, is_held, kept_after, older_after, with_change}
use Rattle.dds_history.specs.Standing.{Held, StandsFor, kept_in}
use Rattle.dds_history.proofs.Aging.{all-more, entry_as, one_more}
use Rattle.dds_history.proofs.Keeping.{first_kept-held, is_kept-found, kept_change-found, kept_count-held}
use Rattle.dds_history.proofs.Numbering.{at_number, count_cons}
use Rattle.dds_history.proofs.Runs.{is_next}

-- what passes two tests, where the second agrees with a third on what passes the first, and nothing else passes that
pub filter-narrower : {X : Type 0} (h p q : X → Bool) → ((x : X) → h x ≡ false → q x ≡ false)
    → ((x : X) → h x ≡ true → p x ≡ q x) → (xs : List X) → filter p (filter h xs) ≡ filter q xs
filter-narrower h p q out within [] = refl
filter-narrower {X = X} h p q out within (x ∷ xs) = step (h x) refl (filter-narrower h p q out within xs)
  where
    step : (b : Bool) → h x ≡ b → filter p (filter h xs) ≡ filter q xs
        → filter p (cond b (x ∷ filter h xs) (filter h xs)) ≡ cond (q x) (x ∷ filter q xs) (filter q xs)
    step true is rest =
        ap (λ (b : Bool). cond b (x ∷ filter p (filter h xs)) (filter p (filter h xs))) (within x is)
        ∙ ap (λ (zs : List X). cond (q x) (x ∷ zs) zs) rest
    step false is rest = rest ∙ sym (ap (λ (b : Bool). cond b (x ∷ filter q xs) (filter q xs)) (out x is))

filter-mapped : {X : Type 0} (p : X → Bool) (f : X → X) (xs : List X) → filter p (map f xs)
    ≡ map f (filter (λ x. p (f x)) xs)
filter-mapped p f [] = refl
filter-mapped {X = X} p f (x ∷ xs) = step (p (f x)) (filter-mapped p f xs)
  where
    step : (b : Bool) → filter p (map f xs) ≡ map f (filter (λ y. p (f y)) xs)
        → cond b (f x ∷ filter p (map f xs)) (filter p (map f xs))
        ≡ map f (cond b (x ∷ filter (λ y. p (f y)) xs) (filter (λ y. p (f y)) xs))
    step true rest = ap (λ (zs : List X). f x ∷ zs) rest
    step false rest = rest

-- the same, where the tests come after a change of each
pub filter-changed : {X : Type 0} (h p : X → Bool) (f : X → X) → ((x : X) → h x ≡ false → h (f x) ≡ false)
    → ((x : X) → h x ≡ true → p (f x) ≡ h (f x)) → (xs : List X)
    → filter p (map f (filter h xs)) ≡ filter h (map f xs)
filter-changed {X = X} h p f out within xs =
    filter-mapped p f (filter h xs)
    ∙ (ap (λ (zs : List X). map f zs) (filter-narrower h (λ x. p (f x)) (λ x. h (f x)) out within xs)
    ∙ sym (filter-mapped h f xs))

-- what is dropped stays so
still_dropped : (b awaited : Bool) (remaining : ℕ) → (nat_lt 0 remaining && awaited) ≡ false
    → (nat_lt 0 (if b then remaining - 1 else remaining) && awaited) ≡ false
still_dropped true true remaining h = grind (arith, nat_tests)
still_dropped true false remaining h = none (nat_lt 0 (remaining - 1))
  where
    none : (b : Bool) → (b && false) ≡ false
    none true = refl
    none false = refl
still_dropped false awaited remaining h = h

aged_apart : (acks : List ℕ) (key : Key) (e : HeldChange) → is_held acks e ≡ false → is_held acks (aged key e) ≡ false
aged_apart acks key e h = still_dropped (same_key key e.change.key) (awaits acks e.number) e.remaining h

both_left : (a b : Bool) → (a && b) ≡ true → a ≡ true
both_left true b h = refl
both_left false b h = h

both_right : (a b : Bool) → (a && b) ≡ true → b ≡ true
both_right true b h = h
both_right false b h = absurd cc

and_true : (a b : Bool) → b ≡ true → a ≡ (a && b)
and_true true b h = sym h
and_true false b h = refl

true_and : (a b : Bool) → a ≡ true → b ≡ (a && b)
true_and a b h = sym (ap (λ (v : Bool). v && b) h)

-- of all changes and one more, those are held that it leaves of those that were, and the new one, if some reader awaits
-- it
held-with : (policy : HistoryQos) (acks : List ℕ) (es : List HeldChange) (n : ℕ) (c : Change)
    → filter (is_held acks) (one_more policy es n c)
    ≡ with_change policy (filter (is_held acks) es) n c (awaits acks n)
held-with KeepAll acks es n c =
    filter-append (is_held acks) es (record { number = n; change = c; remaining = 1 } ∷ [])
held-with (KeepLast depth) acks es n c =
    let h : HeldChange → Bool = is_held acks in
    let f : HeldChange → HeldChange = aged c.key in
    let new : HeldChange = record { number = n; change = c; remaining = depth + 1 } in
    let own = ap (λ (b : Bool). cond b (depth + 1 - 1) (depth + 1)) (same_key-refl c.key) in
    let last : f new ≡ record { number = n; change = c; remaining = depth } =
    entry_as n n c _ depth refl (omega (arith, own)) in
    ap (λ (xs : List HeldChange). filter h xs) (map-append f es (new ∷ []))
    ∙ (filter-append h (map f es) (f new ∷ [])
    ∙ (ap (λ (xs : List HeldChange). xs ++ filter h (f new ∷ []))
    (sym (filter-changed h (λ e. nat_lt 0 e.remaining) f (aged_apart acks c.key)
    (λ e held. and_true (nat_lt 0 (f e).remaining) (awaits acks e.number)
    (both_right (nat_lt 0 e.remaining) (awaits acks e.number) held)) es))
    ∙ ap (λ (e : HeldChange). aged_by (KeepLast depth) c.key (filter h es) ++ filter h (e ∷ [])) last))

-- what is held with one more change
pub held-more : (w : WriterHistory) (c : Change)
    → held_of (appended w c)
    ≡ with_change w.policy (held_of w) (length w.changes + 1) c (awaits w.acknowledged (length w.changes + 1))
held-more w c =
    ap (λ (es : List HeldChange). filter (is_held w.acknowledged) es)
    (all-more w.policy 1 (length w.changes + 1) w.changes c (omega arith))
    ∙ held-with w.policy w.acknowledged (all_from w.policy 1 w.changes) (length w.changes + 1) c

-- so many are held with one more change

pub count_mapped : (p : HeldChange → Bool) (f : HeldChange → HeldChange) (es : List HeldChange) → count_by p (map f es)
    ≡ count_by (λ e. p (f e)) es
count_mapped p f [] = refl
count_mapped p f (e ∷ es) =
    omega (arith, count_mapped p f es, count_cons p (f e) (map f es), count_cons (λ x. p (f x)) e es)

length_if : (b : Bool) (e : HeldChange) → length (cond b (e ∷ []) []) ≡ (if b then 1 else 0)
length_if true e = refl
length_if false e = refl

length-older : (policy : HistoryQos) (es : List HeldChange) (key : Key) → length (aged_by policy key es)
    ≡ older_after policy es key
length-older KeepAll es key = refl
length-older (KeepLast depth) es key =
    length-filter (λ (e : HeldChange). nat_lt 0 e.remaining) (map (aged key) es)
    ∙ count_mapped (λ e. nat_lt 0 e.remaining) (aged key) es

pub length-more : (policy : HistoryQos) (es : List HeldChange) (n : ℕ) (c : Change) (awaited : Bool)
    → length (with_change policy es n c awaited) ≡ kept_after policy es c.key awaited
length-more policy es n c awaited =
    let new : HeldChange = record { number = n; change = c; remaining = granted policy } in
    let is_new : Bool = nat_lt 0 (granted policy) && awaited in
    length-append (aged_by policy c.key es) (cond is_new (new ∷ []) [])
    ∙ (ap (λ (k : ℕ). k + length (cond is_new (new ∷ []) [])) (length-older policy es c.key)
    ∙ ap (λ (k : ℕ). older_after policy es c.key + k) (length_if is_new new))

-- ---- what is held stands for the history

-- why one more change is refused, by what is held
abbrev pub refusal_held : Held → WriterHistory → Change → Option Code
refusal_held h w c =
    if nat_le (2 ^ 48) h.last then Some OutOfResources
    else (if exceeds h.max_samples
    (kept_after w.policy (held_of w) c.key (awaits w.acknowledged (h.last + 1))) then Some Timeout
    else None)

pub refusal-is : (h : Held) (w : WriterHistory) (c : Change) → StandsFor h w → append_refusal w c
    ≡ refusal_held h w c
refusal-is h w c s =
    let count = kept_count-held (appended w c)
    ∙ (ap length (held-more w c)
    ∙ length-more w.policy (held_of w) (length w.changes + 1) c (awaits w.acknowledged (length w.changes + 1))) in
    ap (λ (n : ℕ). if nat_le (2 ^ 48) (length w.changes) then Some OutOfResources
    else (if exceeds w.max_samples n then Some Timeout else None)) count
    ∙ (ap (λ (n : ℕ). if nat_le (2 ^ 48) n then Some OutOfResources
    else (if exceeds w.max_samples (kept_after w.policy (held_of w) c.key (awaits w.acknowledged (n + 1)))
    then Some Timeout else None)) (sym s.last)
    ∙ ap (λ (m : Option ℕ). if nat_le (2 ^ 48) h.last then Some OutOfResources
    else (if exceeds m (kept_after w.policy (held_of w) c.key (awaits w.acknowledged (h.last + 1)))
    then Some Timeout else None)) (sym s.max_samples))

-- what is shown after one more change stands for the history with it
pub stands-more : (h : Held) (w : WriterHistory) (c : Change) (k : KeptState) → StandsFor h w → h.last < 2 ^ 48
    → k.policy ≡ h.policy
    → shown k ≡ with_change h.policy (shown (kept_in h)) (h.last + 1) c (awaits h.acknowledged (h.last + 1))
    → Holds (h.last + 1) k
    → StandsFor (record h { policy = k.policy; kept = parts k; last = h.last + 1 }) (appended w c)
stands-more h w c k s few same more holds = record {
  policy = same ∙ s.policy;
  max_samples = s.max_samples;
  last = let n = length-append w.changes (c ∷ []) in omega (arith, n, s.last);
  few = omega (arith, few);
  acknowledged = s.acknowledged;
  shown =
      more
      ∙ (ap (λ (p : HistoryQos). with_change p (shown (kept_in h)) (h.last + 1) c (awaits h.acknowledged (h.last + 1)))
      s.policy
      ∙ (ap (λ (es : List HeldChange). with_change w.policy es (h.last + 1) c (awaits h.acknowledged (h.last + 1)))
      s.shown
      ∙ (ap (λ (a : List ℕ). with_change w.policy (held_of w) (h.last + 1) c (awaits a (h.last + 1))) s.acknowledged
      ∙ (ap (λ (n : ℕ). with_change w.policy (held_of w) (n + 1) c (awaits w.acknowledged (n + 1))) s.last
      ∙ sym (held-more w c)))));
  holds = holds;
}

-- one more change may come
pub next_of : (h : Held) (w : WriterHistory) → StandsFor h w
    → IsNext h.policy (shown (kept_in h)) (awaits h.acknowledged (h.last + 1))
next_of h w s =
    subst (λ (p : HistoryQos). IsNext p (shown (kept_in h)) (awaits h.acknowledged (h.last + 1))) (sym s.policy)
    (subst (λ (es : List HeldChange). IsNext w.policy es (awaits h.acknowledged (h.last + 1))) (sym s.shown)
    (subst (λ (a : List ℕ). IsNext w.policy (held_of w) (awaits a (h.last + 1))) (sym s.acknowledged)
    (subst (λ (n : ℕ). IsNext w.policy (held_of w) (awaits w.acknowledged (n + 1))) (sym s.last) (is_next w))))

-- how many would be kept
pub kept_after_is : (h : Held) (w : WriterHistory) (key : Key) → StandsFor h w
    → kept_after h.policy (shown (kept_in h)) key (awaits h.acknowledged (h.last + 1))
    ≡ kept_after w.policy (held_of w) key (awaits w.acknowledged (h.last + 1))
kept_after_is h w key s =
    ap (λ (p : HistoryQos). kept_after p (shown (kept_in h)) key (awaits h.acknowledged (h.last + 1))) s.policy
    ∙ (ap (λ (es : List HeldChange). kept_after w.policy es key (awaits h.acknowledged (h.last + 1))) s.shown
    ∙ ap (λ (a : List ℕ). kept_after w.policy (held_of w) key (awaits a (h.last + 1))) s.acknowledged)

-- ---- an acknowledgement

or_false : (a b c d : Bool) → (a || b) ≡ false → (a ≡ false → c ≡ false) → (b ≡ false → d ≡ false) → (c || d) ≡ false
or_false true b c d h f g = absurd cc
or_false false true c d h f g = absurd cc
or_false false false c d h f g = let e = f refl in let k = g refl in cc

-- what nobody awaits stays so
still_unawaited : (acks : List ℕ) (reader to n : ℕ) → get_or acks reader 0 ≤ to → awaits acks n ≡ false
    → awaits (set acks reader to) n ≡ false
still_unawaited [] reader to n le h = h
still_unawaited (a ∷ acks) zero to n le h =
    or_false (nat_le a n) (awaits acks n) (nat_le to n) (awaits acks n) h (λ e. grind (arith, nat_tests)) (λ e. e)
still_unawaited (a ∷ acks) (suc reader) to n le h =
    or_false (nat_le a n) (awaits acks n) (nat_le a n) (awaits (set acks reader to) n) h (λ e. e)
    (still_unawaited acks reader to n le)

and_false : (a b c : Bool) → (a && b) ≡ false → (b ≡ false → c ≡ false) → (a && c) ≡ false
and_false true b c h f = f h
and_false false b c h f = refl

-- what is held once an acknowledgement moved
pub stands-acked : (h : Held) (w : WriterHistory) (reader to : ℕ) (k : KeptState) → StandsFor h w
    → get_or h.acknowledged reader 0 < to → k.policy ≡ h.policy
    → shown k ≡ filter (λ e. awaits (set h.acknowledged reader to) e.number) (shown (kept_in h)) → Holds h.last k
    → StandsFor (record h { policy = k.policy; kept = parts k; acknowledged = set h.acknowledged reader to }) (acknowledge w reader to)
stands-acked h w reader to k s lt same rest holds =
    let old = ap (λ (a : List ℕ). get_or a reader 0) s.acknowledged in
    let moved : to ≡ max (get_or w.acknowledged reader 0) to = omega (arith, old, lt) in
    let acks : set h.acknowledged reader to ≡ set w.acknowledged reader (max (get_or w.acknowledged reader 0) to) =
    ap (λ (a : List ℕ). set a reader to) s.acknowledged ∙ ap (λ (k : ℕ). set w.acknowledged reader k) moved in
    let after : List ℕ = set w.acknowledged reader (max (get_or w.acknowledged reader 0) to) in
    record {
      policy = same ∙ s.policy;
      max_samples = s.max_samples;
      last = s.last;
      few = s.few;
      acknowledged = acks;
      shown =
          rest
          ∙ (ap (λ (a : List ℕ). filter (λ (e : HeldChange). awaits a e.number) (shown (kept_in h))) acks
          ∙ (ap (λ (es : List HeldChange). filter (λ e. awaits after e.number) es) s.shown
          ∙ filter-narrower (is_held w.acknowledged) (λ e. awaits after e.number) (is_held after)
          (λ e out. and_false (nat_lt 0 e.remaining) (awaits w.acknowledged e.number) (awaits after e.number) out
          (still_unawaited w.acknowledged reader (max (get_or w.acknowledged reader 0) to) e.number (omega arith)))
          (λ e held. true_and (nat_lt 0 e.remaining) (awaits after e.number)
          (both_left (nat_lt 0 e.remaining) (awaits w.acknowledged e.number) held))
          (all_from w.policy 1 w.changes)));
      holds = holds;
    }

-- an acknowledgement that doesn't move changes nothing
pub stands-unmoved : (held : Held) (w : WriterHistory) (reader to : ℕ) → StandsFor held w
    → to ≤ get_or held.acknowledged reader 0 → StandsFor held (acknowledge w reader to)
stands-unmoved held w reader to s le =
    let old = ap (λ (a : List ℕ). get_or a reader 0) s.acknowledged in
    let stays : max (get_or w.acknowledged reader 0) to ≡ get_or w.acknowledged reader 0 = omega (arith, old, le) in
    let acks : w.acknowledged ≡ set w.acknowledged reader (max (get_or w.acknowledged reader 0) to) =
    sym (ap (λ (k : ℕ). set w.acknowledged reader k) stays ∙ set-get_or w.acknowledged reader 0) in
    subst (λ (a : List ℕ). StandsFor held (record w { acknowledged = a })) acks s

-- ---- what is read of it

below_limit : (h : Held) (w : WriterHistory) (c : Change) (b : Bool) → h.last < 2 ^ 48
    → exceeds h.max_samples (kept_after w.policy (held_of w) c.key (awaits w.acknowledged (h.last + 1))) ≡ b
    → refusal_held h w c ≡ (if b then Some Timeout else None)
below_limit h w c b few is =
    let few_enough : nat_le (2 ^ 48) h.last ≡ false = grind (arith, nat_tests) in
    ap (λ (x : Bool). if x then Some OutOfResources
    else (if exceeds h.max_samples (kept_after w.policy (held_of w) c.key (awaits w.acknowledged (h.last + 1)))
    then Some Timeout else None)) few_enough
    ∙ ap (λ (x : Bool). if x then Some Timeout else None) is

pub refuses_by : (h : Held) (w : WriterHistory) (c : Change) (b : Bool) → StandsFor h w → h.last < 2 ^ 48
    → exceeds h.max_samples (kept_after w.policy (held_of w) c.key (awaits w.acknowledged (h.last + 1))) ≡ b
    → append_refusal w c ≡ (if b then Some Timeout else None)
refuses_by h w c b s few is = refusal-is h w c s ∙ below_limit h w c b few is

pub stands_as : (a b : Held) (w : WriterHistory) → a ≡ b → StandsFor a w → StandsFor b w
stands_as a b w e s = subst (λ (h : Held). StandsFor h w) e s

pub kept_is : (h : Held) (w : WriterHistory) (number : ℕ) → StandsFor h w → is_kept w number
    ≡ is_some (find (at_number number) (shown (kept_in h)))
kept_is h w number s = is_kept-found w number
    ∙ ap (λ (es : List HeldChange). is_some (find (at_number number) es)) (sym s.shown)

pub get_is : (h : Held) (w : WriterHistory) (number : ℕ) → StandsFor h w → kept_change w number
    ≡ option_map (λ (e : HeldChange). e.change) (find (at_number number) (shown (kept_in h)))
get_is h w number s = kept_change-found w number
    ∙ ap (λ (es : List HeldChange). option_map (λ (e : HeldChange). e.change) (find (at_number number) es))
    (sym s.shown)

pub first_is : (h : Held) (w : WriterHistory) → StandsFor h w → first_kept w
    ≡ unwrap_or (option_map (λ (e : HeldChange). e.number) (slice_get (shown (kept_in h)) 0)) (h.last + 1)
first_is h w s =
    first_kept-held w
    ∙ (ap (λ (es : List HeldChange). unwrap_or (option_map (λ (e : HeldChange). e.number) (slice_get es 0))
    (length w.changes + 1)) (sym s.shown)
    ∙ ap (λ (n : ℕ). unwrap_or (option_map (λ (e : HeldChange). e.number) (slice_get (shown (kept_in h)) 0)) (n + 1))
    (sym s.last))

-- ---- what an entry is shown as

pub number_as : (policy : HistoryQos) (counted : Counted) (o : Option Entry)
    → option_map (λ (e : HeldChange). e.number) (option_map (held_as policy counted) o)
    ≡ option_map (λ (e : Entry). e.number) o
number_as policy counted None = refl
number_as policy counted (Some e) = refl

pub change_as : (policy : HistoryQos) (counted : Counted) (o : Option Entry)
    → option_map (λ (e : HeldChange). e.change) (option_map (held_as policy counted) o)
    ≡ option_map (λ (e : Entry). e.change) o
change_as policy counted None = refl
change_as policy counted (Some e) = refl

pub some_as : (policy : HistoryQos) (counted : Counted) (o : Option (Bor Entry))
    → is_some o ≡ is_some (option_map (held_as policy counted) (option_copied o))
some_as policy counted None = refl
some_as policy counted (Some x) = refl
