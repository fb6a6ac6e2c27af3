-- Who is there.
use Rattle.std.proofs.Common.{◌≡◌, ◌≢◌, ◌⊎◌, ◌∙◌, ℕ, suc, ◌<◌, Bool, true, false, cond, List, [], ◌∷◌, ◌++◌, length, take, drop, map, get_or, set, max, Option, Some, None, refl, sym, ap, subst, inl, inr}
use Rattle.std.specs.Prelude.{◌&&◌, ◌||◌, filter, nat_eq, not, remove, unwrap_or}
use Rattle.std.specs.List.{list_any, position}
use Rattle.std.specs.Option.{option_map, option_map_or}
use Rattle.std.specs.Str.{bytes_eq}
use Rattle.std.proofs.lemmas.Bool.Decides.{Decides-eqb}
use Rattle.std.proofs.lemmas.Slice.Eq.{slice_eq-Decides}
use Rattle.std.proofs.lemmas.List.{set_split}
use Rattle.std.proofs.lemmas.List.Folds.{list_any-append}
use Rattle.dds_base.specs.declared.guid.GuidPrefix.{GuidPrefix}
use Rattle.dds_base.specs.Checked.{same_prefix}
use Rattle.rtps_announcements.specs.declared.participant.Participant.{Participant}
use Rattle.rtps_discovery.specs.declared.row.Row.{Row}
use Rattle.rtps_discovery.specs.declared.row.Limits.{Limits}
use Rattle.rtps_discovery.specs.declared.row.Told.{Told}
use Rattle.rtps_discovery.specs.declared.spdp.Said.{Said}
use Rattle.rtps_discovery.specs.declared.spdp.Said.TheVariants.{Announces, Leaves}
use Rattle.rtps_discovery.specs.Rows.{announced, difference, entered, has_row, heard, heard_row, is_row, is_row_at, is_there, new_row, parted, with_room}
use Rattle.rtps_discovery.specs.Steps.{State, Delivers, rows_after}
use Rattle.rtps_discovery.specs.Laws.{IsSo, OthersAreThere, ToldIsSo}
use Rattle.rtps_discovery.proofs.Members.{parts_at}
use Rattle.rtps_discovery.proofs.Standing.{Removed, Whole, both, first_sender, one_source, position_passes, position_within, room_is}

-- ---- the sender

difference_so : (source : GuidPrefix) (was is : Bool) → IsSo source was is (difference source was is)
difference_so source true true = refl
difference_so source true false = (refl, refl, refl)
difference_so source false true = (refl, refl, refl)
difference_so source false false = refl

pub told_is_so : ToldIsSo
told_is_so d source body header = by_delivery d.delivers
  where
    by_delivery : Delivers d.before d.moment d.address d.bytes d.after d.told d.packet
        → IsSo source (is_there source d.before.rows) (is_there source d.after.rows) d.told
    by_delivery (inl h) =
        let same : h.source ≡ source = one_source d.bytes h.source source h.body body h.header header in
        let told : d.told ≡ difference source (is_there source d.before.rows) (is_there source d.after.rows) =
        h.told_is
        ∙ ap (λ (z : GuidPrefix). difference z (is_there z d.before.rows) (is_there z d.after.rows)) same in
        subst (λ (z : Option Told). IsSo source (is_there source d.before.rows) (is_there source d.after.rows) z) (sym told)
        (difference_so source (is_there source d.before.rows) (is_there source d.after.rows))
    by_delivery (inr p) =
        let same : is_there source d.after.rows ≡ is_there source d.before.rows =
        ap (λ (z : State). is_there source z.rows) p.state in
        subst (λ (z : Option Told). IsSo source (is_there source d.before.rows) (is_there source d.after.rows) z)
        (sym p.told_is) same

-- ---- a test of lists that are made of others

any_map : {X : Type 0} (p : X → Bool) (f : X → X) → ((x : X) → p (f x) ≡ p x) → (xs : List X)
    → list_any p (map f xs) ≡ list_any p xs
any_map p f same [] = refl
any_map p f same (x ∷ xs) =
    ap (λ (b : Bool). b || list_any p (map f xs)) (same x) ∙ ap (λ (b : Bool). p x || b) (any_map p f same xs)

any_filter : {X : Type 0} (p keep : X → Bool) → ((x : X) → keep x ≡ false → p x ≡ false) → (xs : List X)
    → list_any p (filter keep xs) ≡ list_any p xs
any_filter p keep none [] = refl
any_filter {X} p keep none (x ∷ xs) = by_test (any_filter p keep none xs) (keep x) refl
  where
    by_test : list_any p (filter keep xs) ≡ list_any p xs → (b : Bool) → keep x ≡ b
        → list_any p (cond b (x ∷ filter keep xs) (filter keep xs)) ≡ list_any p (x ∷ xs)
    by_test rest true is = ap (λ (b : Bool). p x || b) rest
    by_test rest false is = rest ∙ ap (λ (b : Bool). b || list_any p xs) (sym (none x is))

any_around : {X : Type 0} (p : X → Bool) (a b : List X) (x y : X) → p x ≡ p y
    → list_any p (a ++ x ∷ b) ≡ list_any p (a ++ y ∷ b)
any_around p a b x y same =
    list_any-append p a (x ∷ b) ∙ (ap (λ (t : Bool). list_any p a || (t || list_any p b)) same
    ∙ sym (list_any-append p a (y ∷ b)))

any_set : {X : Type 0} (p : X → Bool) (xs : List X) (i : ℕ) (y : X) → i < length xs → p y ≡ p (get_or xs i y)
    → list_any p (set xs i y) ≡ list_any p xs
any_set p xs i y l same =
    ap (list_any p) (set_split xs i y l)
    ∙ (any_around p (take i xs) (drop (suc i) xs) y (get_or xs i y) same ∙ ap (list_any p) (sym (parts_at xs i y l)))

any_removed : {X : Type 0} (p : X → Bool) (xs : List X) (i : ℕ) (d : X) → i < length xs → p (get_or xs i d) ≡ false
    → list_any p (remove xs i) ≡ list_any p xs
any_removed p xs i d l none =
    list_any-append p (take i xs) (drop (suc i) xs)
    ∙ (ap (λ (t : Bool). list_any p (take i xs) || (t || list_any p (drop (suc i) xs))) (sym none)
    ∙ (sym (list_any-append p (take i xs) (get_or xs i d ∷ drop (suc i) xs)) ∙ ap (list_any p) (sym (parts_at xs i d l))))

or_false : (b : Bool) → (b || false) ≡ b
or_false true = refl
or_false false = refl

any_pushed : {X : Type 0} (p : X → Bool) (xs : List X) (y : X) → p y ≡ false
    → list_any p (xs ++ y ∷ []) ≡ list_any p xs
any_pushed p xs y none =
    list_any-append p xs (y ∷ []) ∙ (ap (λ (t : Bool). list_any p xs || (t || false)) none ∙ or_false (list_any p xs))

-- ---- the others

-- it is the participant's, and awake
abbrev there : GuidPrefix → Row → Bool
there prefix r = is_row prefix r && r.is_awake

prefix_of : (a b : GuidPrefix) → same_prefix a b ≡ true → a ≡ b
prefix_of a b e =
    let octets : a.0 ≡ b.0 = (slice_eq-Decides {E = nat_eq} Decides-eqb a.0 b.0 (same_prefix a b) refl).0 e in
    let made : (record { 0 = a.0 }) ≡ b = ap (λ (z : List ℕ). record { 0 = z }) octets in made

false_unless : (b : Bool) → (b ≡ true → ⊥) → b ≡ false
false_unless true no_way = absurd (no_way refl)
false_unless false no_way = refl

-- the row of one is no row of another
row_of_one : (source prefix : GuidPrefix) (r : Row) → source ≢ prefix → is_row source r ≡ true → is_row prefix r ≡ false
row_of_one source prefix r other its =
    false_unless (is_row prefix r)
    (λ also. other (sym (prefix_of r.participant.prefix source its) ∙ prefix_of r.participant.prefix prefix also))

not_there : (source prefix : GuidPrefix) (r : Row) → source ≢ prefix → is_row source r ≡ true → there prefix r ≡ false
not_there source prefix r other its = ap (λ (b : Bool). b && r.is_awake) (row_of_one source prefix r other its)

its_row : (source : GuidPrefix) (address : List ℕ) (r : Row) → is_row_at source address r ≡ true → is_row source r ≡ true
its_row source address r e = (both (is_row source r) (bytes_eq r.source address) e).0

heard_there : (source prefix : GuidPrefix) (address : List ℕ) (now : ℕ) → source ≢ prefix → (r : Row)
    → there prefix (heard_row source address now r) ≡ there prefix r
heard_there source prefix address now other r = by_test (is_row_at source address r) refl
  where
    by_test : (b : Bool) → is_row_at source address r ≡ b
        → there prefix (cond b (record {
          participant = r.participant;
          source = r.source;
          heard = now;
          is_awake = true;
        }) r) ≡ there prefix r
    by_test true is =
        let none = row_of_one source prefix r other (its_row source address r is) in
        ap (λ (b : Bool). b && true) none ∙ sym (ap (λ (b : Bool). b && r.is_awake) none)
    by_test false is = refl

there_heard : (source prefix : GuidPrefix) (address : List ℕ) (now : ℕ) → source ≢ prefix → (rows : List Row)
    → is_there prefix (heard source address now rows) ≡ is_there prefix rows
there_heard source prefix address now other rows =
    any_map (there prefix) (heard_row source address now) (heard_there source prefix address now other) rows

there_parted : (source prefix : GuidPrefix) (address : List ℕ) → source ≢ prefix → (rows : List Row)
    → is_there prefix (parted source address rows) ≡ is_there prefix rows
there_parted source prefix address other rows =
    any_filter (there prefix) (λ (r : Row). not (is_row_at source address r))
    (λ r e. not_there source prefix r other (its_row source address r (true_of (is_row_at source address r) e))) rows
  where
    true_of : (b : Bool) → not b ≡ false → b ≡ true
    true_of true e = refl
    true_of false e = absurd cc

-- the row of a newcomer is its own
newcomer_there : (p : Participant) (prefix : GuidPrefix) (address : List ℕ) (now : ℕ) → p.prefix ≢ prefix
    → there prefix (new_row p address now) ≡ false
newcomer_there p prefix address now other =
    ap (λ (b : Bool). b && true)
    (false_unless (same_prefix p.prefix prefix) (λ also. other (prefix_of p.prefix prefix also)))

there_announced : (p : Participant) (prefix : GuidPrefix) (address : List ℕ) (now : ℕ) → p.prefix ≢ prefix
    → (rows : List Row) → is_there prefix (announced p address now rows) ≡ is_there prefix rows
there_announced p prefix address now other rows = by_place (position (is_row_at p.prefix address) rows) refl
  where
    by_place : (o : Option ℕ) → position (is_row_at p.prefix address) rows ≡ o
        → is_there prefix (option_map_or (λ i. set rows i (new_row p address now)) o rows) ≡ is_there prefix rows
    by_place None is = refl
    by_place (Some i) is =
        let its =
        its_row p.prefix address (get_or rows i (new_row p address now))
        (position_passes (is_row_at p.prefix address) rows i is (new_row p address now)) in
        any_set (there prefix) rows i (new_row p address now) (position_within (is_row_at p.prefix address) rows i is)
        (newcomer_there p prefix address now other
        ∙ sym (not_there p.prefix prefix (get_or rows i (new_row p address now)) other its))

and_false : (b : Bool) → (b && false) ≡ false
and_false true = refl
and_false false = refl

there_entered : (limits : Limits) (p : Participant) (prefix : GuidPrefix) (address : List ℕ) (now : ℕ)
    → p.prefix ≢ prefix → (rows : List Row) → is_there prefix (entered limits p address now rows) ≡ is_there prefix rows
there_entered limits p prefix address now other rows = by_room (with_room limits address rows) refl
  where
    by_kept : (kept : List Row) → Whole limits address rows kept ⊎ Removed limits address rows kept
        → is_there prefix kept ≡ is_there prefix rows
    by_kept kept (inl w) = ap (is_there prefix) w.is
    by_kept kept (inr m) =
        let gone = get_or rows m.place (new_row p address now) in
        let asleep : there prefix gone ≡ false =
        ap (λ (b : Bool). is_row prefix gone && b) (m.sleeps (new_row p address now)) ∙ and_false (is_row prefix gone) in
        ap (is_there prefix) m.is
        ∙ any_removed (there prefix) rows m.place (new_row p address now) m.within asleep

    by_room : (o : Option (List Row)) → with_room limits address rows ≡ o
        → is_there prefix (unwrap_or (option_map (λ (kept : List Row). kept ++ new_row p address now ∷ []) o) rows)
        ≡ is_there prefix rows
    by_room None is = refl
    by_room (Some kept) is =
        any_pushed (there prefix) kept (new_row p address now) (newcomer_there p prefix address now other)
        ∙ by_kept kept (room_is limits address rows kept is)

there_after : (s : State) (source prefix : GuidPrefix) (address : List ℕ) (now : ℕ) (o : Option Said)
    → ((p : Participant) → o ≡ Some (Announces p) → p.prefix ≡ source) → source ≢ prefix
    → is_there prefix (rows_after s source address now o) ≡ is_there prefix s.rows
there_after s source prefix address now None says other = there_heard source prefix address now other s.rows
there_after s source prefix address now (Some Leaves) says other =
    there_parted source prefix address other (heard source address now s.rows)
    ∙ there_heard source prefix address now other s.rows
there_after s source prefix address now (Some (Announces p)) says other = by_test (has_row source s.rows)
  where
    also : p.prefix ≢ prefix
    also same = other (sym (says p refl) ∙ same)

    by_test : (b : Bool)
        → is_there prefix
        (cond b (announced p address now (heard source address now s.rows)) (entered s.limits p address now s.rows))
        ≡ is_there prefix s.rows
    by_test true =
        there_announced p prefix address now also (heard source address now s.rows)
        ∙ there_heard source prefix address now other s.rows
    by_test false = there_entered s.limits p prefix address now also s.rows

pub others_are_there : OthersAreThere
others_are_there d prefix other = by_delivery d.delivers
  where
    by_delivery : Delivers d.before d.moment d.address d.bytes d.after d.told d.packet
        → is_there prefix d.after.rows ≡ is_there prefix d.before.rows
    by_delivery (inl h) =
        ap (λ (z : State). is_there prefix z.rows) h.state
        ∙ there_after d.before h.source prefix d.address (max d.before.time d.moment) h.said
        (first_sender d.before.own h.source d.before.domain h.body h.said h.says) (other h.source h.body h.header)
    by_delivery (inr p) = ap (λ (z : State). is_there prefix z.rows) p.state
