-- What a parameter says is read, and what is read is what it says.
use Rattle.std.proofs.Common.{◌≡◌, ℕ, zero, suc, ◌+◌, ◌-◌, ◌<◌, ◌≤◌, ◌^◌, Bool, true, false, cond, eqb, ltb, List, [], ◌∷◌, ◌++◌, length, get_or, take, drop, Option, Some, None, refl, sym, ap, subst, ◌∙◌, append_assoc, arith, Contains}
use Rattle.std.specs.Int.{w32}
use Rattle.std.specs.List.{list_any}
use Rattle.std.specs.Option.{option_map}
use Rattle.std.specs.Str.{bytes_eq}
use Rattle.std.proofs.lemmas.Bool.{eq-eqb, eqb-true, ltb-true, ltb-false, le-ltb, lt-ltb}
use Rattle.std.proofs.lemmas.List.{take_at, take-append-drop, length-append, length-take, length-drop}
use Rattle.std.proofs.lemmas.List.Folds.{Any-from_list_any, list_any_at}
use Rattle.std.proofs.lemmas.Slice.Eq.{bytes_eq-Decides}
use Rattle.dds_base.specs.declared.endianness.Endianness.{Endianness}
use Rattle.dds_base.specs.declared.guid.Guid.{Guid}
use Rattle.dds_base.specs.declared.guid.GuidPrefix.{GuidPrefix}
use Rattle.dds_base.specs.declared.qos.OwnershipQos.{OwnershipQos}
use Rattle.dds_base.specs.declared.qos.OwnershipQos.TheVariants.{Shared, Exclusive}
use Rattle.dds_base.specs.declared.qos.ReliabilityQos.{ReliabilityQos}
use Rattle.dds_base.specs.declared.qos.ReliabilityQos.TheVariants.{BestEffort, Reliable}
use Rattle.dds_base.specs.Fields.{number, number_at, octets_at, ◌>>=◌}
use Rattle.dds_base.proofs.FieldLaws.{AreOctets, Takes, IsField, bind_some, guard_some, some_is, cond_is, field_u32, field_octets, field_both, field_mapped}
use Rattle.dds_base.specs.Policies.{reliability_code, durability_code, ownership_code, liveliness_code, destination_order_code, scope_code}
use Rattle.dds_base.specs.declared.policies.DestinationOrderQos.{DestinationOrderQos}
use Rattle.dds_base.specs.declared.policies.DestinationOrderQos.TheVariants.{ByReceptionTimestamp, BySourceTimestamp}
use Rattle.dds_base.specs.declared.policies.DurabilityQos.{DurabilityQos}
use Rattle.dds_base.specs.declared.policies.DurabilityQos.TheVariants.{Volatile, TransientLocal, Transient, Persistent}
use Rattle.dds_base.specs.declared.duration.Duration.{Duration}
use Rattle.dds_base.specs.declared.policies.LivelinessKind.{LivelinessKind}
use Rattle.dds_base.specs.declared.policies.LivelinessKind.TheVariants.{Automatic, ManualByParticipant, ManualByTopic}
use Rattle.dds_base.specs.declared.policies.PresentationScope.{PresentationScope}
use Rattle.dds_base.specs.declared.policies.PresentationScope.TheVariants.{Instance, Topic, Group}
use Rattle.rtps_wire.specs.Fields.{BeginsWith}
use Rattle.rtps_announcements.specs.ValueAt.{said, partly, reliability_of, durability_of, ownership_of, liveliness_of, destination_order_of, scope_of, duration_of, duration_at, liveliness_at, flag_at, presentation_at, zero_at, name_at, guid_of, guid_at, octet_at, vendor_at}
use Rattle.rtps_announcements.specs.Values.{Says, Always, IsDuration, duration_text, liveliness_text, flag_text, presentation_text, IsName, name_text, guid_text, IsGuidOf}
use Rattle.rtps_announcements.specs.declared.participant.VendorId.{VendorId}

-- ---- the first field of a value

pub map_some : {A B : Type 0} (f : A → B) (o : Option A) (y : B) → option_map f o ≡ Some y
    → (x : A) × (o ≡ Some x) × (f x ≡ y)
map_some f None y e = absurd cc
map_some f (Some x) y e = (x, refl, some_is (f x) y e)

pub said_found : {X : Type 0} {text : X → List ℕ} {Fits : X → Type 0} {at : List ℕ → Option (X × List ℕ)}
    → IsField text Fits at → (default : Option X) (value : Option (List ℕ)) (x : X)
    → ((v : List ℕ) → value ≡ Some v → AreOctets v) → said default at value ≡ Some x → Says default text Fits value x
said_found field default None x octets e = e
said_found {X = X} {text = text} {Fits = Fits} {at = at} field default (Some v) x octets e =
    let m = map_some (λ (y : X × List ℕ). y.0) (at v) x e in
    let t = field.takes v m.0.0 m.0.1 (octets v refl) m.1 in
    subst (λ (y : X). Fits y × BeginsWith v (text y)) m.2 (t.1, (m.0.1, t.0.parts))

pub said_only : {X : Type 0} {text : X → List ℕ} {Fits : X → Type 0} {at : List ℕ → Option (X × List ℕ)}
    → IsField text Fits at → (default : Option X) (value : Option (List ℕ)) (x : X)
    → Says default text Fits value x → said default at value ≡ Some x
said_only field default None x h = h
said_only {X = X} {at = at} field default (Some v) x h =
    ap (λ (bytes : List ℕ). option_map (λ (y : X × List ℕ). y.0) (at bytes)) h.1.1
    ∙ ap (option_map (λ (y : X × List ℕ). y.0)) (field.again x h.1.0 h.0)

-- ---- a field seen as another type, where it has such a value

partly_takes : {X Y : Type 0} (text : X → List ℕ) (P : X → Type 0) (r : List ℕ → Option (X × List ℕ))
    (table : X → Option Y) (code : Y → X) (Q : Y → Type 0) → IsField text P r
    → ((x : X) (y : Y) → P x → table x ≡ Some y → (code y ≡ x) × Q y)
    → (bytes : List ℕ) (y : Y) (rest : List ℕ) → AreOctets bytes → partly table r bytes ≡ Some (y, rest)
    → Takes bytes (text (code y)) rest × Q y
partly_takes {X = X} {Y = Y} text P r table code Q field back bytes y rest octets e =
    let a = bind_some (r bytes) (λ x. table x.0 >>= λ z. Some (z, x.1)) (y, rest) e in
    let b = bind_some (table a.0.0) (λ z. Some (z, a.0.1)) (y, rest) a.2 in
    let t = field.takes bytes a.0.0 a.0.1 octets a.1 in
    let same = back a.0.0 b.0 t.1 b.1 in
    let made : Y × List ℕ = (b.0, a.0.1) in
    let whole : Takes bytes (text (code b.0)) a.0.1 =
    subst (λ (x : X). Takes bytes (text x) a.0.1) (sym same.0) t.0 in
    subst (λ (p : Y × List ℕ). Takes bytes (text (code p.0)) p.1 × Q p.0) (some_is made (y, rest) b.2)
    (whole, same.1)

partly_again : {X Y : Type 0} (text : X → List ℕ) (P : X → Type 0) (r : List ℕ → Option (X × List ℕ))
    (table : X → Option Y) (code : Y → X) (Q : Y → Type 0) → IsField text P r
    → ((y : Y) → Q y → (table (code y) ≡ Some y) × P (code y))
    → (y : Y) (rest : List ℕ) → Q y → partly table r (text (code y) ++ rest) ≡ Some (y, rest)
partly_again text P r table code Q field forth y rest fits =
    let same = forth y fits in rw (field.again (code y) rest same.1, same.0) refl

pub field_partly : {X Y : Type 0} {text : X → List ℕ} {P : X → Type 0} {r : List ℕ → Option (X × List ℕ)}
    → IsField text P r → (table : X → Option Y) (code : Y → X) (Q : Y → Type 0)
    → ((x : X) (y : Y) → P x → table x ≡ Some y → (code y ≡ x) × Q y)
    → ((y : Y) → Q y → (table (code y) ≡ Some y) × P (code y))
    → IsField (λ y. text (code y)) Q (partly table r)
field_partly {text = text} {P = P} {r = r} field table code Q back forth = record {
  takes = partly_takes text P r table code Q field back;
  again = partly_again text P r table code Q field forth;
}

-- ---- kinds

-- one of a table's rows, or one of the others
row : {K : Type 0} (code : K → ℕ) (n m : ℕ) (j k : K) (others : Option K) → code j ≡ m
    → (others ≡ Some k → code k ≡ n) → cond (eqb n m) (Some j) others ≡ Some k → code k ≡ n
row {K = K} code n m j k others is later e =
    cond_is {P = code k ≡ n} (eqb n m) (Some j) others (Some k) e
    (λ t s. subst (λ (x : K). code x ≡ n) (some_is j k s) (is ∙ sym (eqb-true n m t))) (λ f s. later s)

field_kind : {K : Type 0} (table : ℕ → Option K) (code : K → ℕ) → ((n : ℕ) (k : K) → table n ≡ Some k → code k ≡ n)
    → ((k : K) → (table (code k) ≡ Some k) × (code k < 2 ^ 32)) → (order : Endianness)
    → IsField (λ k. number order w32 (code k)) Always (partly table (number_at order w32))
field_kind table code back forth order =
    field_partly (field_u32 order) table code Always (λ n k small e. (back n k e, tt)) (λ k any. forth k)

reliability_back : (n : ℕ) (k : ReliabilityQos) → reliability_of n ≡ Some k → reliability_code k ≡ n
unfolding reliability_of
reliability_back n k =
    row reliability_code n 1 BestEffort k _ refl (row reliability_code n 2 Reliable k None refl (λ e. absurd cc))

reliability_forth : (k : ReliabilityQos) → (reliability_of (reliability_code k) ≡ Some k) × (reliability_code k < 2 ^ 32)
unfolding reliability_of
reliability_forth BestEffort = (refl, omega arith)
reliability_forth Reliable = (refl, omega arith)

pub field_reliability : (order : Endianness)
    → IsField (λ k. number order w32 (reliability_code k)) Always (partly reliability_of (number_at order w32))
field_reliability = field_kind reliability_of reliability_code reliability_back reliability_forth

durability_back : (n : ℕ) (k : DurabilityQos) → durability_of n ≡ Some k → durability_code k ≡ n
unfolding durability_of
durability_back n k =
    row durability_code n 0 Volatile k _ refl (row durability_code n 1 TransientLocal k _ refl
    (row durability_code n 2 Transient k _ refl (row durability_code n 3 Persistent k None refl (λ e. absurd cc))))

durability_forth : (k : DurabilityQos) → (durability_of (durability_code k) ≡ Some k) × (durability_code k < 2 ^ 32)
unfolding durability_of
durability_forth Volatile = (refl, omega arith)
durability_forth TransientLocal = (refl, omega arith)
durability_forth Transient = (refl, omega arith)
durability_forth Persistent = (refl, omega arith)

pub field_durability : (order : Endianness)
    → IsField (λ k. number order w32 (durability_code k)) Always (partly durability_of (number_at order w32))
field_durability = field_kind durability_of durability_code durability_back durability_forth

ownership_back : (n : ℕ) (k : OwnershipQos) → ownership_of n ≡ Some k → ownership_code k ≡ n
unfolding ownership_of
ownership_back n k =
    row ownership_code n 0 Shared k _ refl (row ownership_code n 1 Exclusive k None refl (λ e. absurd cc))

ownership_forth : (k : OwnershipQos) → (ownership_of (ownership_code k) ≡ Some k) × (ownership_code k < 2 ^ 32)
unfolding ownership_of
ownership_forth Shared = (refl, omega arith)
ownership_forth Exclusive = (refl, omega arith)

pub field_ownership : (order : Endianness)
    → IsField (λ k. number order w32 (ownership_code k)) Always (partly ownership_of (number_at order w32))
field_ownership = field_kind ownership_of ownership_code ownership_back ownership_forth

destination_order_back : (n : ℕ) (k : DestinationOrderQos) → destination_order_of n ≡ Some k
    → destination_order_code k ≡ n
unfolding destination_order_of
destination_order_back n k =
    row destination_order_code n 0 ByReceptionTimestamp k _ refl
    (row destination_order_code n 1 BySourceTimestamp k None refl (λ e. absurd cc))

destination_order_forth : (k : DestinationOrderQos)
    → (destination_order_of (destination_order_code k) ≡ Some k) × (destination_order_code k < 2 ^ 32)
unfolding destination_order_of
destination_order_forth ByReceptionTimestamp = (refl, omega arith)
destination_order_forth BySourceTimestamp = (refl, omega arith)

pub field_destination_order : (order : Endianness)
    → IsField (λ k. number order w32 (destination_order_code k)) Always
    (partly destination_order_of (number_at order w32))
field_destination_order =
    field_kind destination_order_of destination_order_code destination_order_back destination_order_forth

liveliness_back : (n : ℕ) (k : LivelinessKind) → liveliness_of n ≡ Some k → liveliness_code k ≡ n
unfolding liveliness_of
liveliness_back n k =
    row liveliness_code n 0 Automatic k _ refl (row liveliness_code n 1 ManualByParticipant k _ refl
    (row liveliness_code n 2 ManualByTopic k None refl (λ e. absurd cc)))

liveliness_forth : (k : LivelinessKind) → (liveliness_of (liveliness_code k) ≡ Some k) × (liveliness_code k < 2 ^ 32)
unfolding liveliness_of
liveliness_forth Automatic = (refl, omega arith)
liveliness_forth ManualByParticipant = (refl, omega arith)
liveliness_forth ManualByTopic = (refl, omega arith)

scope_back : (n : ℕ) (k : PresentationScope) → scope_of n ≡ Some k → scope_code k ≡ n
unfolding scope_of
scope_back n k =
    row scope_code n 0 Instance k _ refl (row scope_code n 1 Topic k _ refl
    (row scope_code n 2 Group k None refl (λ e. absurd cc)))

scope_forth : (k : PresentationScope) → (scope_of (scope_code k) ≡ Some k) × (scope_code k < 2 ^ 32)
unfolding scope_of
scope_forth Instance = (refl, omega arith)
scope_forth Topic = (refl, omega arith)
scope_forth Group = (refl, omega arith)

-- ---- policies of several fields

duration_back : (x : ℕ × ℕ) (d : Duration) → (x.0 < 2 ^ 32) × (x.1 < 2 ^ 32) → duration_of x ≡ Some d
    → ((d.seconds, d.fraction) ≡ x) × IsDuration d
unfolding duration_of
duration_back x d small e =
    cond_is {P = ((d.seconds, d.fraction) ≡ x) × IsDuration d} (ltb x.0 (2 ^ 31))
    (Some (record { seconds = x.0; fraction = x.1 })) None (Some d) e
    (λ t s. subst (λ (y : Duration). ((y.seconds, y.fraction) ≡ x) × IsDuration y) (some_is _ d s)
    (refl, record { seconds = ltb-true _ _ t; fraction = small.1 })) (λ f s. absurd cc)

duration_forth : (d : Duration) → IsDuration d
    → (duration_of (d.seconds, d.fraction) ≡ Some d) × ((d.seconds < 2 ^ 32) × (d.fraction < 2 ^ 32))
unfolding duration_of
duration_forth d fits =
    let small : ltb d.seconds (2 ^ 31) ≡ true = lt-ltb _ _ fits.seconds in
    (rw small refl, (omega (arith, fits.seconds), fits.fraction))

pub field_duration : (order : Endianness) → IsField (duration_text order) IsDuration (duration_at order)
unfolding duration_at
field_duration order =
    field_partly (field_both (field_u32 order) (field_u32 order)) duration_of (λ d. (d.seconds, d.fraction)) IsDuration
    duration_back duration_forth

pub field_liveliness : (order : Endianness)
    → IsField (liveliness_text order) (λ l. IsDuration l.lease) (liveliness_at order)
unfolding liveliness_at
field_liveliness order =
    field_mapped (field_both (field_kind liveliness_of liveliness_code liveliness_back liveliness_forth order)
    (field_duration order)) (λ x. record { kind = x.0; lease = x.1 }) (λ l. (l.kind, l.lease)) (λ l. IsDuration l.lease)
    (λ x h. (refl, h.1)) (λ l h. (refl, (tt, h)))

flag_takes : (bytes : List ℕ) (b : Bool) (rest : List ℕ) → AreOctets bytes → flag_at bytes ≡ Some (b, rest)
    → Takes bytes (flag_text b) rest × Always b
unfolding flag_at
flag_takes (zero ∷ bytes) b rest octets e = (
  subst (λ (p : Bool × List ℕ). Takes (0 ∷ bytes) (flag_text p.0) p.1) (some_is (false, bytes) (b, rest) e)
      (record { parts = refl; octets = λ i. octets (suc i) }),
  tt,
)
flag_takes (suc zero ∷ bytes) b rest octets e = (
  subst (λ (p : Bool × List ℕ). Takes (1 ∷ bytes) (flag_text p.0) p.1) (some_is (true, bytes) (b, rest) e)
      (record { parts = refl; octets = λ i. octets (suc i) }),
  tt,
)
flag_takes _ b rest octets e = absurd cc

flag_again : (b : Bool) (rest : List ℕ) → Always b → flag_at (flag_text b ++ rest) ≡ Some (b, rest)
unfolding flag_at
flag_again false rest any = refl
flag_again true rest any = refl

field_flag : IsField flag_text Always flag_at
field_flag = record { takes = flag_takes; again = flag_again }

pub field_presentation : (order : Endianness)
    → IsField (presentation_text order) Always (presentation_at order)
unfolding presentation_at
field_presentation order =
    field_mapped (field_both (field_both (field_kind scope_of scope_code scope_back scope_forth order) field_flag)
    field_flag) (λ x. record { scope = x.0.0; coherent_access = x.0.1; ordered_access = x.1 })
    (λ p. ((p.scope, p.coherent_access), p.ordered_access)) Always (λ x h. (refl, tt)) (λ p h. (refl, ((tt, tt), tt)))

-- ---- names

no_zero : (xs : List ℕ) → list_any (λ octet. eqb octet 0) xs ≡ false → Contains xs 0 → ⊥
no_zero xs e h =
    let there : list_any (λ octet. eqb octet 0) xs ≡ true =
    list_any_at (λ octet. eqb octet 0) xs h.0 0 h.1 (eq-eqb _ 0 h.2) in cc

none_is_zero : (xs : List ℕ) → (Contains xs 0 → ⊥) → list_any (λ octet. eqb octet 0) xs ≡ false
none_is_zero xs none = by_test (list_any (λ octet. eqb octet 0) xs) refl
  where
    there : (ys : List ℕ) (k x : ℕ) → k < length ys → get_or ys k x ≡ x → x ≡ 0 → Contains ys 0
    there ys k x lt same is =
        (k, lt, subst (λ (y : ℕ). get_or ys k y ≡ y) is same)

    by_test : (b : Bool) → list_any (λ octet. eqb octet 0) xs ≡ b → list_any (λ octet. eqb octet 0) xs ≡ false
    by_test false e = e
    by_test true e =
        let h = Any-from_list_any (λ octet. eqb octet 0) xs e in
        absurd (none (there xs h.0 h.1 h.2 h.3 (eqb-true h.1 0 h.4)))

zero_takes : (bytes rest : List ℕ) → AreOctets bytes → zero_at bytes ≡ Some rest → Takes bytes (0 ∷ []) rest
unfolding zero_at
zero_takes (zero ∷ bytes) rest octets e =
    subst (λ (r : List ℕ). Takes (0 ∷ bytes) (0 ∷ []) r) (some_is bytes rest e)
    (record { parts = refl; octets = λ i. octets (suc i) })
zero_takes _ rest octets e = absurd cc

name_takes : (order : Endianness) (bytes name rest : List ℕ) → AreOctets bytes
    → name_at order bytes ≡ Some (name, rest) → Takes bytes (name_text order name) rest × IsName name
unfolding name_at
name_takes order bytes name rest octets e =
    let a = bind_some (number_at order w32 bytes) (λ n.
    cond (ltb n.0 1) None (cond (ltb 256 (n.0 - 1)) None (octets_at (n.0 - 1) n.1)) >>= λ t.
    zero_at t.1 >>= λ r. cond (list_any (λ octet. eqb octet 0) t.0) None (Some (t.0, r))) (name, rest) e in
    let t0 = (field_u32 order).takes bytes a.0.0 a.0.1 octets a.1 in
    let b = bind_some (cond (ltb a.0.0 1) None (cond (ltb 256 (a.0.0 - 1)) None (octets_at (a.0.0 - 1) a.0.1))) (λ t.
    zero_at t.1 >>= λ r. cond (list_any (λ octet. eqb octet 0) t.0) None (Some (t.0, r))) (name, rest) a.2 in
    let g1 = guard_some (ltb a.0.0 1) _ b.0 b.1 in
    let g2 = guard_some (ltb 256 (a.0.0 - 1)) _ b.0 g1.1 in
    let t1 = (field_octets (a.0.0 - 1)).takes a.0.1 b.0.0 b.0.1 t0.0.octets g2.1 in
    let d = bind_some (zero_at b.0.1) (λ r.
    cond (list_any (λ octet. eqb octet 0) b.0.0) None (Some (b.0.0, r))) (name, rest) b.2 in
    let t2 = zero_takes b.0.1 d.0 t1.0.octets d.1 in
    let g3 = guard_some (list_any (λ octet. eqb octet 0) b.0.0) (Some (b.0.0, d.0)) (name, rest) d.2 in
    let least : 1 ≤ a.0.0 = ltb-false _ _ g1.0 in
    let most : a.0.0 - 1 ≤ 256 = ltb-false _ _ g2.0 in
    let len : length b.0.0 + 1 ≡ a.0.0 = omega (arith, least, t1.1) in
    let text : bytes ≡ name_text order b.0.0 ++ d.0 =
    t0.0.parts ∙ ap (λ (n : ℕ). number order w32 n ++ a.0.1) (sym len)
    ∙ ap (λ (z : List ℕ). number order w32 (length b.0.0 + 1) ++ z) (t1.0.parts ∙ ap (λ (z : List ℕ). b.0.0 ++ z) t2.parts)
    ∙ regroup (number order w32 (length b.0.0 + 1)) b.0.0 d.0 in
    let made : List ℕ × List ℕ = (b.0.0, d.0) in
    subst (λ (p : List ℕ × List ℕ). Takes bytes (name_text order p.0) p.1 × IsName p.0) (some_is made (name, rest) g3.1) (
      record { parts = text; octets = t2.octets },
      record { short = omega (arith, most, t1.1); no_zero = no_zero b.0.0 g3.0 },
    )
  where
    regroup : (x y z : List ℕ) → x ++ (y ++ (0 ∷ z)) ≡ (x ++ y ++ 0 ∷ []) ++ z
    regroup x y z = simp append_assoc

name_again : (order : Endianness) (name rest : List ℕ) → IsName name
    → name_at order (name_text order name ++ rest) ≡ Some (name, rest)
unfolding name_at zero_at
name_again order name rest fits =
    let least : ltb (length name + 1) 1 ≡ false = le-ltb _ _ (omega arith) in
    let most : ltb 256 (length name + 1 - 1) ≡ false = le-ltb _ _ (omega (arith, fits.short)) in
    let len : length name ≡ length name + 1 - 1 = omega arith in
    ap (name_at order) (regroup (number order w32 (length name + 1)) name rest)
    ∙ rw (
      (field_u32 order).again (length name + 1) (name ++ (0 ∷ rest)) (omega (arith, fits.short)),
      least,
      most,
      (field_octets (length name + 1 - 1)).again name (0 ∷ rest) len,
      none_is_zero name fits.no_zero,
    ) refl
  where
    regroup : (x y z : List ℕ) → (x ++ y ++ 0 ∷ []) ++ z ≡ x ++ (y ++ (0 ∷ z))
    regroup x y z = simp append_assoc

pub field_name : (order : Endianness) → IsField (name_text order) IsName (name_at order)
field_name order = record { takes = name_takes order; again = name_again order }

-- ---- GUIDs and vendors

guid_back : (source : GuidPrefix) (x : List ℕ × List ℕ) (g : Guid)
    → (length x.0 ≡ 12) × (length x.1 ≡ 4) → guid_of source x ≡ Some g
    → ((g.prefix.0, g.entity.0) ≡ x) × IsGuidOf source g
unfolding guid_of
guid_back source x g len e =
    let G : Guid → Type 0 = λ (y : Guid). ((y.prefix.0, y.entity.0) ≡ x) × IsGuidOf source y in
    cond_is {P = G g} (bytes_eq x.0 source.0) (Some (record { prefix = source; entity = record { 0 = x.1 } })) None
    (Some g) e (λ t s. subst G (some_is _ g s) (
      ap (λ (p : List ℕ). (p, x.1)) (sym ((bytes_eq-Decides x.0 source.0).0 t)),
      record { sender = refl; len = len.1 },
    )) (λ t s. absurd cc)

guid_forth : (source : GuidPrefix) → length source.0 ≡ 12 → (g : Guid) → IsGuidOf source g
    → (guid_of source (g.prefix.0, g.entity.0) ≡ Some g) × ((length g.prefix.0 ≡ 12) × (length g.entity.0 ≡ 4))
unfolding guid_of
guid_forth source twelve g is =
    let same : g.prefix.0 ≡ source.0 = ap (λ (p : GuidPrefix). p.0) is.sender in
    let t : bytes_eq g.prefix.0 source.0 ≡ true = (bytes_eq-Decides g.prefix.0 source.0).1 same in (
      rw t (ap (λ (p : GuidPrefix). Some (record { prefix = p; entity = g.entity })) (sym is.sender)),
      (ap length same ∙ twelve, is.len),
    )

pub field_guid : (source : GuidPrefix) → length source.0 ≡ 12
    → IsField guid_text (IsGuidOf source) (guid_at source)
unfolding guid_at
field_guid source twelve =
    field_partly (field_both (field_octets 12) (field_octets 4)) (guid_of source) (λ g. (g.prefix.0, g.entity.0))
    (IsGuidOf source) (guid_back source) (guid_forth source twelve)

pub field_vendor : IsField (λ (v : VendorId). v.0) (λ v. length v.0 ≡ 2) vendor_at
unfolding vendor_at
field_vendor =
    field_mapped (field_octets 2) (λ x. record { 0 = x }) (λ v. v.0) (λ v. length v.0 ≡ 2) (λ x h. (refl, h))
    (λ v h. (refl, h))

octet_takes : (bytes : List ℕ) (n : ℕ) (rest : List ℕ) → AreOctets bytes → octet_at bytes ≡ Some (n, rest)
    → Takes bytes (n ∷ []) rest × Always n
unfolding octet_at
octet_takes [] n rest octets e = absurd cc
octet_takes (x ∷ bytes) n rest octets e = (
  subst (λ (p : ℕ × List ℕ). Takes (x ∷ bytes) (p.0 ∷ []) p.1) (some_is (x, bytes) (n, rest) e)
      (record { parts = refl; octets = λ i. octets (suc i) }),
  tt,
)

octet_again : (n : ℕ) (rest : List ℕ) → Always n → octet_at ((n ∷ []) ++ rest) ≡ Some (n, rest)
unfolding octet_at
octet_again n rest any = refl

pub field_octet : IsField (λ n. n ∷ []) Always octet_at
field_octet = record { takes = octet_takes; again = octet_again }

-- ---- the participant's GUID

pub sender_found : (source v : List ℕ) → length source ≡ 12 → 16 ≤ length v → take 12 v ≡ source
    → (entity : List ℕ) × (length entity ≡ 4) × BeginsWith v (source ++ entity)
sender_found source v twelve long same = (
  take 4 (drop 12 v),
  omega (arith, length-take 4 (drop 12 v), length-drop 12 v),
  (
    drop 4 (drop 12 v),
    sym (append_assoc source (take 4 (drop 12 v)) (drop 4 (drop 12 v))
        ∙ ap (λ (t : List ℕ). source ++ t) (take-append-drop 4 (drop 12 v))
        ∙ ap (λ (t : List ℕ). t ++ drop 12 v) (sym same) ∙ take-append-drop 12 v),
  ),
)

pub sender_only : (source v : List ℕ) → length source ≡ 12
    → (entity : List ℕ) × (length entity ≡ 4) × BeginsWith v (source ++ entity)
    → (16 ≤ length v) × (take 12 v ≡ source)
sender_only source v twelve h = (
  omega (arith, ap length h.2.1, length-append (source ++ h.0) h.2.0, length-append source h.0, h.1),
  ap (take 12) (h.2.1 ∙ append_assoc source h.0 h.2.0) ∙ take_at source (h.0 ++ h.2.0) 12 twelve,
)
