-- Rows that stay, and rows that are new.
use Rattle.std.proofs.Common.{◌≡◌, ◌⊎◌, ◌∙◌, ℕ, ◌<◌, Bool, true, false, cond, List, [], ◌∷◌, ◌++◌, length, get_or, set, Contains, max, Option, Some, None, refl, sym, ap, subst, inl, inr, ⊎_elim}
use Rattle.std.specs.Prelude.{◌&&◌, not, nat_eq, nat_lt, is_some, remove, unwrap_or, MatchOption}
use Rattle.std.specs.List.{count_by, list_any, position, position_or_len}
use Rattle.std.specs.Option.{option_map, option_map_or}
use Rattle.std.specs.Str.{bytes_eq}
use Rattle.std.proofs.lemmas.Bool.{ltb-true}
use Rattle.std.proofs.lemmas.Bool.Decides.{Decides-eqb}
use Rattle.std.proofs.lemmas.Slice.Eq.{bytes_eq-Decides, slice_eq-Decides}
use Rattle.std.proofs.lemmas.List.Elements.{Contains-append_left, Contains-push_cases}
use Rattle.std.proofs.lemmas.List.Quantifiers.{position-Some}
use Rattle.dds_base.specs.declared.guid.GuidPrefix.{GuidPrefix}
use Rattle.dds_base.specs.Checked.{same_prefix}
use Rattle.dds_base.proofs.FieldLaws.{some_is}
use Rattle.rtps_wire.specs.Messages.{HasHeader}
use Rattle.rtps_wire.proofs.MessageLaws.{header_again}
use Rattle.rtps_announcements.specs.declared.participant.Participant.{Participant}
use Rattle.rtps_discovery.specs.declared.row.Row.{Row}
use Rattle.rtps_discovery.specs.declared.row.Limits.{Limits}
use Rattle.rtps_discovery.specs.declared.spdp.Said.{Said}
use Rattle.rtps_discovery.specs.declared.spdp.Said.TheVariants.{Announces, Leaves}
use Rattle.rtps_discovery.specs.Rows.{among, announced, entered, has_row, heard, heard_row, is_asleep, is_asleep_longest, is_from, is_row_at, new_row, parted, with_room, without_one}
use Rattle.rtps_discovery.specs.Spdp.{Begins, IsSaid, Part, SaysFirst, first_said, for_us_after}
use Rattle.rtps_discovery.specs.Steps.{State, Delivers, rows_after}
use Rattle.rtps_discovery.specs.Laws.{OthersStay, NothingChanges}
use Rattle.rtps_discovery.proofs.Members.{into_map, from_map, into_filter, from_filter, into_removed, from_removed, into_set, from_set}

pub both : (a b : Bool) → (a && b) ≡ true → (a ≡ true) × (b ≡ true)
both true b e = (refl, e)
both false b e = absurd cc

pub not_true : (a : Bool) → not a ≡ true → a ≡ false
not_true true e = absurd cc
not_true false e = refl

pub same_address : (a b : List ℕ) → bytes_eq a b ≡ true → a ≡ b
same_address a b e = (bytes_eq-Decides a b).0 e

pub address_is : (a : List ℕ) → bytes_eq a a ≡ true
address_is a = (bytes_eq-Decides a a).1 refl

pub prefix_is : (a : GuidPrefix) → same_prefix a a ≡ true
prefix_is a = (slice_eq-Decides {E = nat_eq} Decides-eqb a.0 a.0 (same_prefix a a) refl).1 refl

-- ---- who says it

-- an announcement is of its sender
pub sender_is : (source own : GuidPrefix) (domain : ℕ) (bytes : List ℕ) (b : Bool) (ps : List Part) (rest : List ℕ)
    (p : Participant) → Begins source domain bytes ps rest → first_said own b ps ≡ Some (Announces p) → p.prefix ≡ source
sender_is source own domain bytes b [] rest p begins e = absurd cc
sender_is source own domain bytes b (q ∷ qs) rest p begins e =
    by_test (λ f. sender_is source own domain begins.0 (for_us_after own b q.read) qs rest p begins.4 f)
    (b && is_some q.said) e
  where
    by_test : (first_said own (for_us_after own b q.read) qs ≡ Some (Announces p) → p.prefix ≡ source) → (t : Bool)
        → cond t q.said (first_said own (for_us_after own b q.read) qs) ≡ Some (Announces p) → p.prefix ≡ source
    by_test later true e =
        let said =
        subst (λ (o : Option Said). MatchOption o ((s : Said) → IsSaid source domain q.id q.flags q.body s → ⊥)
        (λ s. IsSaid source domain q.id q.flags q.body s)) e begins.3 in
        said.3.sender
    by_test later false e = later e

pub first_sender : (own source : GuidPrefix) (domain : ℕ) (body : List ℕ) (o : Option Said)
    → SaysFirst own source domain body o → (p : Participant) → o ≡ Some (Announces p) → p.prefix ≡ source
first_sender own source domain body o s p e = sender_is source own domain body true s.parts s.rest p s.begins (s.first ∙ e)

pub one_source : (bytes : List ℕ) (a b : GuidPrefix) (x y : List ℕ) → HasHeader bytes a x → HasHeader bytes b y → a ≡ b
one_source bytes a b x y h k =
    ap (λ (z : GuidPrefix × List ℕ). z.0) (some_is (a, x) (b, y) (sym (header_again bytes a x h) ∙ header_again bytes b y k))

-- ---- room

-- The row at a place makes room: it sleeps.
pub record Removed (limits : Limits) (address : List ℕ) (rows kept : List Row) : Type 0 where
  pub place : ℕ
  pub within : place < length rows
  pub is : kept ≡ remove rows place
  pub sleeps : (d : Row) → (get_or rows place d).is_awake ≡ false
  pub counts : (d : Row) → (count_by (is_from address) rows < limits.of_one_address)
      ⊎ (is_from address (get_or rows place d) ≡ true)

-- The rows that a newcomer's stands behind: all, or all but one that sleeps.
pub record Whole (limits : Limits) (address : List ℕ) (rows kept : List Row) : Type 0 where
  pub is : kept ≡ rows
  pub few_at : count_by (is_from address) rows < limits.of_one_address
  pub few : length rows < limits.of_all

pub position_within : {X : Type 0} (p : X → Bool) (xs : List X) (i : ℕ) → position p xs ≡ Some i → i < length xs
position_within p xs i e = by_test (nat_lt (position_or_len p xs) (length xs)) refl e
  where
    by_test : (b : Bool) → nat_lt (position_or_len p xs) (length xs) ≡ b → cond b (Some (position_or_len p xs)) None ≡ Some i
        → i < length xs
    by_test true is e =
        subst (λ (j : ℕ). j < length xs) (some_is (position_or_len p xs) i e)
        (ltb-true (position_or_len p xs) (length xs) is)
    by_test false is e = absurd cc

pub position_passes : {X : Type 0} (p : X → Bool) (xs : List X) (i : ℕ) → position p xs ≡ Some i → (d : X)
    → p (get_or xs i d) ≡ true
position_passes p xs i e d = (position-Some p xs i d e).1

asleep : (f : Option (List ℕ)) (rows : List Row) (r : Row) → is_asleep_longest f rows r ≡ true
    → (among f r ≡ true) × (r.is_awake ≡ false)
asleep f rows r e =
    let first = both (is_asleep f r) (not (list_any (λ (o : Row). is_asleep f o && nat_lt o.heard r.heard) rows)) e in
    let second = both (among f r) (not r.is_awake) first.0 in (second.0, not_true r.is_awake second.1)

removed_by : (f : Option (List ℕ)) (limits : Limits) (address : List ℕ) (rows kept : List Row)
    → ((r : Row) → among f r ≡ true
    → (count_by (is_from address) rows < limits.of_one_address) ⊎ (is_from address r ≡ true))
    → without_one f rows ≡ Some kept → Removed limits address rows kept
removed_by f limits address rows kept counts e = by_place (position (is_asleep_longest f rows) rows) refl e
  where
    by_place : (o : Option ℕ) → position (is_asleep_longest f rows) rows ≡ o → option_map (remove rows) o ≡ Some kept
        → Removed limits address rows kept
    by_place None is e = absurd cc
    by_place (Some i) is e = record {
      place = i;
      within = position_within (is_asleep_longest f rows) rows i is;
      is = sym (some_is (remove rows i) kept e);
      sleeps = λ d. (asleep f rows (get_or rows i d) (position_passes (is_asleep_longest f rows) rows i is d)).1;
      counts = λ d.
          counts (get_or rows i d)
          (asleep f rows (get_or rows i d) (position_passes (is_asleep_longest f rows) rows i is d)).0;
    }

pub room_is : (limits : Limits) (address : List ℕ) (rows kept : List Row) → with_room limits address rows ≡ Some kept
    → Whole limits address rows kept ⊎ Removed limits address rows kept
room_is limits address rows kept e =
    by_tests (nat_lt (count_by (is_from address) rows) limits.of_one_address) (nat_lt (length rows) limits.of_all) refl refl e
  where
    by_tests : (b c : Bool) → nat_lt (count_by (is_from address) rows) limits.of_one_address ≡ b
        → nat_lt (length rows) limits.of_all ≡ c
        → cond (not b) (without_one (Some address) rows) (cond (not c) (without_one None rows) (Some rows)) ≡ Some kept
        → Whole limits address rows kept ⊎ Removed limits address rows kept
    by_tests false c at all e = inr (removed_by (Some address) limits address rows kept (λ r is. inr is) e)
    by_tests true false at all e =
        let few = ltb-true (count_by (is_from address) rows) limits.of_one_address at in
        inr (removed_by None limits address rows kept (λ r is. inl few) e)
    by_tests true true at all e =
        inl (record {
          is = sym (some_is rows kept e);
          few_at = ltb-true (count_by (is_from address) rows) limits.of_one_address at;
          few = ltb-true (length rows) limits.of_all all;
        })

-- ---- the rows of others

-- It stays where it is awake, and it is not new.
abbrev pub Stays : List Row → List Row → Row → Type 0
Stays old new r = (Contains old r → r.is_awake ≡ true → Contains new r) × (Contains new r → Contains old r)

pub heard_other : (prefix : GuidPrefix) (address : List ℕ) (now : ℕ) (r : Row) → is_row_at prefix address r ≡ false
    → heard_row prefix address now r ≡ r
heard_other prefix address now r e = rw e refl

-- whose row it is stays
pub heard_at : (prefix : GuidPrefix) (address : List ℕ) (now : ℕ) (r : Row)
    → is_row_at prefix address (heard_row prefix address now r) ≡ is_row_at prefix address r
heard_at prefix address now r = by_test (is_row_at prefix address r)
  where
    by_test : (b : Bool)
        → is_row_at prefix address (cond b (record {
          participant = r.participant;
          source = r.source;
          heard = now;
          is_awake = true;
        }) r) ≡ is_row_at prefix address r
    by_test true = refl
    by_test false = refl

heard_stays : (prefix : GuidPrefix) (address : List ℕ) (now : ℕ) (rows : List Row) (r : Row)
    → is_row_at prefix address r ≡ false → Stays rows (heard prefix address now rows) r
heard_stays prefix address now rows r other = (
  λ c awake. subst (λ (z : Row). Contains (heard prefix address now rows) z) (heard_other prefix address now r other)
      (into_map (heard_row prefix address now) rows r c),
  λ c. let found = from_map (heard_row prefix address now) rows r c in
      let not_its : is_row_at prefix address found.0 ≡ false =
      sym (heard_at prefix address now found.0) ∙ (ap (is_row_at prefix address) found.2 ∙ other) in
      subst (λ (z : Row). Contains rows z) (sym (heard_other prefix address now found.0 not_its) ∙ found.2) found.1,
)

parted_stays : (prefix : GuidPrefix) (address : List ℕ) (rows : List Row) (r : Row)
    → is_row_at prefix address r ≡ false → Stays rows (parted prefix address rows) r
parted_stays prefix address rows r other = (
  λ c awake. into_filter (λ (r : Row). not (is_row_at prefix address r)) rows r c (ap not other),
  λ c. from_filter (λ (r : Row). not (is_row_at prefix address r)) rows r c,
)

pub new_row_at : (p : Participant) (address : List ℕ) (now : ℕ)
    → is_row_at p.prefix address (new_row p address now) ≡ true
new_row_at p address now = rw (prefix_is p.prefix, address_is address) refl

not_both : (prefix : GuidPrefix) (address : List ℕ) (a r : Row) → is_row_at prefix address a ≡ true
    → is_row_at prefix address r ≡ false → a ≡ r → ⊥
not_both prefix address a r its other same =
    let clash : true ≡ false = sym its ∙ (ap (is_row_at prefix address) same ∙ other) in absurd cc

announced_stays : (p : Participant) (address : List ℕ) (now : ℕ) (rows : List Row) (r : Row)
    → is_row_at p.prefix address r ≡ false → Stays rows (announced p address now rows) r
announced_stays p address now rows r other = by_place (position (is_row_at p.prefix address) rows) refl
  where
    by_place : (o : Option ℕ) → position (is_row_at p.prefix address) rows ≡ o
        → Stays rows (option_map_or (λ i. set rows i (new_row p address now)) o rows) r
    by_place None is = (λ c awake. c, λ c. c)
    by_place (Some i) is =
        let l = position_within (is_row_at p.prefix address) rows i is in (
          λ c awake. ⊎_elim
              (λ e. absurd (not_both p.prefix address (get_or rows i r) r
              (position_passes (is_row_at p.prefix address) rows i is r) other e))
              (λ m. m) (into_set rows i (new_row p address now) r r l c),
          λ c. ⊎_elim
              (λ e. absurd (not_both p.prefix address (new_row p address now) r (new_row_at p address now) other e))
              (λ m. m) (from_set rows i (new_row p address now) r l c),
        )

entered_stays : (limits : Limits) (p : Participant) (address : List ℕ) (now : ℕ) (rows : List Row) (r : Row)
    → is_row_at p.prefix address r ≡ false → Stays rows (entered limits p address now rows) r
entered_stays limits p address now rows r other = by_room (with_room limits address rows) refl
  where
    newcomer : Row
    newcomer = new_row p address now

    old_one : (kept : List Row) → Contains (kept ++ new_row p address now ∷ []) r → Contains kept r
    old_one kept c =
        ⊎_elim (λ m. m)
        (λ e. absurd (not_both p.prefix address (new_row p address now) r (new_row_at p address now) other e))
        (Contains-push_cases kept (new_row p address now) r c)

    by_kept : (kept : List Row) → Whole limits address rows kept ⊎ Removed limits address rows kept
        → Stays rows (kept ++ new_row p address now ∷ []) r
    by_kept kept (inl w) = (
      λ c awake. Contains-append_left kept (new_row p address now ∷ []) r
          (subst (λ (z : List Row). Contains z r) (sym w.is) c),
      λ c. subst (λ (z : List Row). Contains z r) w.is (old_one kept c),
    )
    by_kept kept (inr m) = (
      λ c awake. Contains-append_left kept (new_row p address now ∷ []) r
          (subst (λ (z : List Row). Contains z r) (sym m.is)
          (⊎_elim
          (λ e. let clash : true ≡ false = sym awake ∙ (ap (λ (z : Row). z.is_awake) (sym e) ∙ m.sleeps r) in absurd cc)
          (λ n. n) (into_removed rows m.place r r m.within c))),
      λ c. from_removed rows m.place r m.within (subst (λ (z : List Row). Contains z r) m.is (old_one kept c)),
    )

    by_room : (o : Option (List Row)) → with_room limits address rows ≡ o
        → Stays rows (unwrap_or (option_map (λ (kept : List Row). kept ++ new_row p address now ∷ []) o) rows) r
    by_room None is = (λ c awake. c, λ c. c)
    by_room (Some kept) is = by_kept kept (room_is limits address rows kept is)

stays_twice : (old between new : List Row) (r : Row) → Stays old between r → Stays between new r → Stays old new r
stays_twice old between new r a b = (λ c awake. b.0 (a.0 c awake) awake, λ c. a.1 (b.1 c))

rows_stay : (s : State) (source : GuidPrefix) (address : List ℕ) (now : ℕ) (o : Option Said)
    → ((p : Participant) → o ≡ Some (Announces p) → p.prefix ≡ source) → (r : Row)
    → is_row_at source address r ≡ false → Stays s.rows (rows_after s source address now o) r
rows_stay s source address now None says r other = heard_stays source address now s.rows r other
rows_stay s source address now (Some Leaves) says r other =
    stays_twice s.rows (heard source address now s.rows) (parted source address (heard source address now s.rows)) r
    (heard_stays source address now s.rows r other)
    (parted_stays source address (heard source address now s.rows) r other)
rows_stay s source address now (Some (Announces p)) says r other = by_test (has_row source s.rows)
  where
    not_its : is_row_at p.prefix address r ≡ false
    not_its = ap (λ (z : GuidPrefix). is_row_at z address r) (says p refl) ∙ other

    by_test : (b : Bool)
        → Stays s.rows (cond b (announced p address now (heard source address now s.rows))
        (entered s.limits p address now s.rows)) r
    by_test true =
        stays_twice s.rows (heard source address now s.rows) (announced p address now (heard source address now s.rows)) r
        (heard_stays source address now s.rows r other)
        (announced_stays p address now (heard source address now s.rows) r not_its)
    by_test false = entered_stays s.limits p address now s.rows r not_its

pub others_stay : OthersStay
others_stay d source body header r other = by_delivery d.delivers
  where
    by_delivery : Delivers d.before d.moment d.address d.bytes d.after d.told d.packet → Stays d.before.rows d.after.rows r
    by_delivery (inl h) =
        let says = first_sender d.before.own h.source d.before.domain h.body h.said h.says in
        let its : is_row_at h.source d.address r ≡ false =
        ap (λ (z : GuidPrefix). is_row_at z d.address r) (one_source d.bytes h.source source h.body body h.header header)
        ∙ other in
        subst (λ (z : List Row). Stays d.before.rows z r) (sym (ap (λ (z : State). z.rows) h.state))
        (rows_stay d.before h.source d.address (max d.before.time d.moment) h.said says r its)
    by_delivery (inr p) =
        subst (λ (z : List Row). Stays d.before.rows z r) (sym (ap (λ (z : State). z.rows) p.state))
        (λ c awake. c, λ c. c)

pub nothing_changes : NothingChanges
nothing_changes d nobody = by_delivery d.delivers
  where
    by_delivery : Delivers d.before d.moment d.address d.bytes d.after d.told d.packet → d.after.rows ≡ d.before.rows
    by_delivery (inl h) =
        let clash : true ≡ false = sym h.other ∙ nobody h.source h.body h.header in absurd cc
    by_delivery (inr p) = ap (λ (z : State). z.rows) p.state
