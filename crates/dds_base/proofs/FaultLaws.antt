-- What the search for a fault finds is a rule that is broken, and it finds one exactly where a configuration is
-- refused.
use Rattle.std.proofs.Common.{◌≡◌, ℕ, suc, ◌+◌, ◌-◌, ◌==◌, Bool, true, false, not, ◌||◌, Option, Some, None, List, [], ◌∷◌, length, slice_get, is_some, IfSome, IfNone, refl, subst, ap, sym, ◌∙◌, arith}
use Rattle.std.specs.Prelude.{if◌then◌else◌, nat_lt}
use Rattle.std.specs.List.{list_any}
use Rattle.std.specs.Option.{option_map_or}
use Rattle.std.proofs.lemmas.Bool.Decides.{nat_tests}
use Rattle.std.proofs.lemmas.Option.{same_Some}
use Rattle.dds_base.specs.declared.code.Code.{Code}
use Rattle.dds_base.specs.declared.code.Code.TheVariants.{BadParameter, InconsistentPolicy}
use Rattle.dds_base.specs.declared.config.PeerConfig.{PeerConfig}
use Rattle.dds_base.specs.declared.config.WriterConfig.{WriterConfig}
use Rattle.dds_base.specs.declared.config.ReaderConfig.{ReaderConfig}
use Rattle.dds_base.specs.declared.config_rules.Pass.{Pass}
use Rattle.dds_base.specs.declared.config_rules.Pass.TheVariants.{Parameters, Policies}
use Rattle.dds_base.specs.declared.config_fault.ConfigRule.{ConfigRule}
use Rattle.dds_base.specs.declared.config_fault.ConfigPlace.{ConfigPlace}
use Rattle.dds_base.specs.declared.config_fault.ConfigPlace.TheVariants.{Whole, Peer, Writer, Reader}
use Rattle.dds_base.specs.declared.config_fault.ConfigFault.{ConfigFault}
use Rattle.dds_base.specs.Matched.{matched_writers_of}
use Rattle.dds_base.specs.Checked.{same_prefix, unknown_prefix, has_kind, prefix_count, entity_count, has_no_depth, is_maximum, is_bad_life, is_bad_lease, is_bad_value, is_bad_writer, is_bad_reader, is_bad_peer, has_bad_parameter, exceeds_limit, differ, asks_for_more, is_longer, are_incompatible, is_inconsistent_peer, has_inconsistent_policy, check_refusal}
use Rattle.dds_base.specs.Faults.{code_of_rule, breaks_as_peer, breaks_as_writer, breaks_as_reader, passes_at, breaks_at, Breaks}
use Rattle.dds_base.specs.FaultAt.{first_broken, writer_rules, reader_rules, peer_rules, whole_rules, fault_at, first_at, writer_fault, reader_fault, writers_fault, readers_fault, peer_fault, pass_fault, config_fault}
use Rattle.dds_base.specs.Life.{or_else}
use Rattle.dds_base.proofs.PairLaws.{incompatible-is}

-- ---- tests

or_false : (a : Bool) → (a || false) ≡ a
or_false true = refl
or_false false = refl

or_swap : (a b c d : Bool) → ((a || b) || (c || d)) ≡ ((a || c) || (b || d))
or_swap true b c d = refl
or_swap false true true d = refl
or_swap false true false d = refl
or_swap false false c d = refl

any_same : {X : Type 0} (p q : X → Bool) (xs : List X) → ((x : X) → p x ≡ q x) → list_any p xs ≡ list_any q xs
any_same p q [] same = refl
any_same p q (x ∷ xs) same =
    ap (λ (b : Bool). b || list_any p xs) (same x) ∙ ap (λ (b : Bool). q x || b) (any_same p q xs same)

any_or : {X : Type 0} (p q : X → Bool) (xs : List X) → list_any (λ x. p x || q x) xs ≡ (list_any p xs || list_any q xs)
any_or p q [] = refl
any_or p q (x ∷ xs) =
    ap (λ (b : Bool). (p x || q x) || b) (any_or p q xs) ∙ or_swap (p x) (q x) (list_any p xs) (list_any q xs)

some_if : (b : Bool) (rule : ConfigRule) (later : Option ConfigRule)
    → is_some (if b then Some rule else later) ≡ (b || is_some later)
some_if true rule later = refl
some_if false rule later = refl

-- one of these rules is broken
abbrev any_broken : List (ConfigRule × Bool) → Bool
any_broken ts = list_any (λ (t : ConfigRule × Bool). t.1) ts

some_broken : (ts : List (ConfigRule × Bool)) → is_some (first_broken ts) ≡ any_broken ts
some_broken [] = refl
some_broken (t ∷ ts) = some_if t.1 t.0 (first_broken ts) ∙ ap (λ (b : Bool). t.1 || b) (some_broken ts)

some_fault : (place : ConfigPlace) (o : Option ConfigRule) → is_some (fault_at place o) ≡ is_some o
some_fault place None = refl
some_fault place (Some rule) = refl

some_or : (a b : Option ConfigFault) → is_some (or_else a b) ≡ (is_some a || is_some b)
some_or None b = refl
some_or (Some fault) b = refl

some_first : {X : Type 0} (tell : ℕ → X → Option ConfigFault) (test : X → Bool) (number : ℕ) (xs : List X)
    → ((n : ℕ) (x : X) → is_some (tell n x) ≡ test x) → is_some (first_at tell number xs) ≡ list_any test xs
some_first tell test number [] h = refl
some_first tell test number (x ∷ xs) h =
    some_or (tell number x) (first_at tell (number + 1) xs)
    ∙ (ap (λ (b : Bool). b || is_some (first_at tell (number + 1) xs)) (h number x)
    ∙ ap (λ (b : Bool). test x || b) (some_first tell test (number + 1) xs h))

-- ---- where a fault is found

some_writer : (pass : Pass) (p : PeerConfig) (peer n : ℕ) (w : WriterConfig)
    → is_some (writer_fault pass peer p n w) ≡ any_broken (writer_rules pass p w)
some_writer pass p peer n w =
    some_fault (Writer peer n) (first_broken (writer_rules pass p w)) ∙ some_broken (writer_rules pass p w)

some_reader : (pass : Pass) (peers : List PeerConfig) (p : PeerConfig) (peer n : ℕ) (r : ReaderConfig)
    → is_some (reader_fault pass peers peer p n r) ≡ any_broken (reader_rules pass peers p r)
some_reader pass peers p peer n r =
    some_fault (Reader peer n) (first_broken (reader_rules pass peers p r)) ∙ some_broken (reader_rules pass peers p r)

bad_writer : (p : PeerConfig) (peer n : ℕ) (w : WriterConfig)
    → is_some (writer_fault Parameters peer p n w) ≡ (nat_lt 1 (entity_count p w.entity) || is_bad_writer w)
bad_writer p peer n w =
    some_writer Parameters p peer n w
    ∙ ap (λ (b : Bool). nat_lt 1 (entity_count p w.entity) ||
    (not (has_kind 2 w.entity) || (has_no_depth w.history || (not (is_maximum w.max_samples)
    || (is_bad_lease w.lease || b)))))
    (or_false (is_bad_value w.max_value))

bad_reader : (peers : List PeerConfig) (p : PeerConfig) (peer n : ℕ) (r : ReaderConfig)
    → is_some (reader_fault Parameters peers peer p n r) ≡ (nat_lt 1 (entity_count p r.entity) || is_bad_reader r)
bad_reader peers p peer n r =
    some_reader Parameters peers p peer n r
    ∙ ap (λ (b : Bool). nat_lt 1 (entity_count p r.entity) ||
    (not (has_kind 7 r.entity)
    || (has_no_depth r.history || (not (is_maximum r.max_samples)
    || (not (is_maximum r.max_instances) || (is_bad_life r.max_arrivals || (is_bad_lease r.lease || b)))))))
    (or_false (is_bad_value r.max_value))

exceeding_writer : (p : PeerConfig) (peer n : ℕ) (w : WriterConfig)
    → is_some (writer_fault Policies peer p n w) ≡ exceeds_limit w.history w.max_samples
exceeding_writer p peer n w = some_writer Policies p peer n w ∙ or_false (exceeds_limit w.history w.max_samples)

unfit_reader : (peers : List PeerConfig) (p : PeerConfig) (peer n : ℕ) (r : ReaderConfig)
    → is_some (reader_fault Policies peers peer p n r)
    ≡ (exceeds_limit r.history r.max_samples || list_any (are_incompatible r) (matched_writers_of peers r))
unfit_reader peers p peer n r =
    let other : WriterConfig → Bool = λ w. differ w.ownership r.ownership in
    let more : WriterConfig → Bool = λ w. asks_for_more r.reliability w.reliability in
    let longer : WriterConfig → Bool = λ w. is_longer w.lease r.lease in
    let greater : WriterConfig → Bool = λ w. nat_lt r.max_value w.max_value in
    let matched : List WriterConfig = matched_writers_of peers r in
    some_reader Policies peers p peer n r
    ∙ ap (λ (b : Bool). exceeds_limit r.history r.max_samples || b)
    (ap (λ (b : Bool). list_any other matched || (list_any more matched || (list_any longer matched || b)))
    (or_false (list_any greater matched))
    ∙ (ap (λ (b : Bool). list_any other matched || (list_any more matched || b)) (sym (any_or longer greater matched))
    ∙ (ap (λ (b : Bool). list_any other matched || b) (sym (any_or more (λ w. longer w || greater w) matched))
    ∙ (sym (any_or other (λ w. more w || (longer w || greater w)) matched)
    ∙ sym (any_same (are_incompatible r) (λ w. other w || (more w || (longer w || greater w))) matched
    (λ w. incompatible-is w r))))))

some_peer : (pass : Pass) (peers : List PeerConfig) (n : ℕ) (p : PeerConfig)
    → is_some (peer_fault pass peers n p) ≡
    (any_broken (peer_rules pass peers p) || (is_some (writers_fault pass n p) || is_some
    (readers_fault pass peers n p)))
some_peer pass peers n p =
    some_or (fault_at (Peer n) (first_broken (peer_rules pass peers p)))
    (or_else (writers_fault pass n p) (readers_fault pass peers n p))
    ∙ (ap (λ (b : Bool). b || is_some (or_else (writers_fault pass n p) (readers_fault pass peers n p)))
    (some_fault (Peer n) (first_broken (peer_rules pass peers p)) ∙ some_broken (peer_rules pass peers p))
    ∙ ap (λ (b : Bool). any_broken (peer_rules pass peers p) || b)
    (some_or (writers_fault pass n p) (readers_fault pass peers n p)))

regroup : (a b c d e f g h : Bool)
    → ((a || (b || (c || (d || false)))) || ((e || f) || (g || h))) ≡ ((a || b) || ((c || d) || ((e || g) || (f || h))))
regroup true b c d e f g h = refl
regroup false true c d e f g h = refl
regroup false false true d e f g h = refl
regroup false false false true e f g h = refl
regroup false false false false e f g h = or_swap e f g h

both_or : (a b c d x : Bool) → a ≡ b → c ≡ d → (x || (a || c)) ≡ (x || (b || d))
both_or a b c d x e f = cc

bad_peer : (peers : List PeerConfig) (n : ℕ) (p : PeerConfig)
    → is_some (peer_fault Parameters peers n p)
    ≡ ((same_prefix p.prefix unknown_prefix || nat_lt 1 (prefix_count peers p.prefix)) || is_bad_peer p)
bad_peer peers n p =
    let writers : is_some (writers_fault Parameters n p) ≡
    (list_any (λ (w : WriterConfig). nat_lt 1 (entity_count p w.entity)) p.writers || list_any is_bad_writer
    p.writers) =
    some_first (writer_fault Parameters n p) (λ w. nat_lt 1 (entity_count p w.entity) || is_bad_writer w) 1 p.writers
    (bad_writer p n)
    ∙ any_or (λ w. nat_lt 1 (entity_count p w.entity)) is_bad_writer p.writers in
    let readers : is_some (readers_fault Parameters peers n p) ≡
    (list_any (λ (r : ReaderConfig). nat_lt 1 (entity_count p r.entity)) p.readers || list_any is_bad_reader
    p.readers) =
    some_first (reader_fault Parameters peers n p)
    (λ r. nat_lt 1 (entity_count p r.entity) || is_bad_reader r) 1 p.readers (bad_reader peers p n)
    ∙ any_or (λ r. nat_lt 1 (entity_count p r.entity)) is_bad_reader p.readers in
    some_peer Parameters peers n p
    ∙ (both_or _ _ _ _ (any_broken (peer_rules Parameters peers p)) writers readers
    ∙ regroup (same_prefix p.prefix unknown_prefix) (nat_lt 1 (prefix_count peers p.prefix))
    (nat_lt 16 (length p.writers)) (nat_lt 16 (length p.readers))
    (list_any (λ (w : WriterConfig). nat_lt 1 (entity_count p w.entity)) p.writers) (list_any is_bad_writer p.writers)
    (list_any (λ (r : ReaderConfig). nat_lt 1 (entity_count p r.entity)) p.readers) (list_any is_bad_reader p.readers))

inconsistent_peer : (peers : List PeerConfig) (n : ℕ) (p : PeerConfig)
    → is_some (peer_fault Policies peers n p) ≡ is_inconsistent_peer peers p
inconsistent_peer peers n p =
    some_peer Policies peers n p
    ∙ both_or _ _ _ _ false
    (some_first (writer_fault Policies n p) (λ w. exceeds_limit w.history w.max_samples) 1 p.writers
    (exceeding_writer p n))
    (some_first (reader_fault Policies peers n p)
    (λ r. exceeds_limit r.history r.max_samples || list_any (are_incompatible r) (matched_writers_of peers r)) 1
    p.readers (unfit_reader peers p n))

abbrev parameter_fault : List PeerConfig → Option ConfigFault
parameter_fault peers = or_else (fault_at Whole (first_broken (whole_rules peers))) (pass_fault Parameters peers)

some_parameter : (peers : List PeerConfig) → is_some (parameter_fault peers) ≡ has_bad_parameter peers
some_parameter peers =
    let count = (length peers == 0) || nat_lt 16 (length peers) in
    some_or (fault_at Whole (first_broken (whole_rules peers))) (pass_fault Parameters peers)
    ∙ (ap (λ (b : Bool). b || is_some (pass_fault Parameters peers))
    (some_fault Whole (first_broken (whole_rules peers)) ∙ (some_broken (whole_rules peers) ∙ or_false count))
    ∙ ap (λ (b : Bool). count || b)
    (some_first (peer_fault Parameters peers)
    (λ p. (same_prefix p.prefix unknown_prefix || nat_lt 1 (prefix_count peers p.prefix)) || is_bad_peer p) 1 peers
    (bad_peer peers)
    ∙ any_or (λ (p : PeerConfig). same_prefix p.prefix unknown_prefix || nat_lt 1 (prefix_count peers p.prefix))
    is_bad_peer peers))

some_policy : (peers : List PeerConfig) → is_some (pass_fault Policies peers) ≡ has_inconsistent_policy peers
some_policy peers =
    some_first (peer_fault Policies peers) (is_inconsistent_peer peers) 1 peers (inconsistent_peer peers)

-- ---- what is found

abbrev Each : (ConfigRule → Type 0) → List (ConfigRule × Bool) → Type 0
Each Q [] = Unit {0}
Each Q (t ∷ ts) = (t.1 ≡ true → Q t.0) × Each Q ts

broken_head : (Q : ConfigRule → Type 0) (rule : ConfigRule) (b : Bool) (later : Option ConfigRule) (r : ConfigRule)
    → (b ≡ true → Q rule)
    → (later ≡ Some r → Q r) → (if b then Some rule else later) ≡ Some r → Q r
broken_head Q rule true later r here rest e = subst Q (same_Some rule r e) (here refl)
broken_head Q rule false later r here rest e = rest e

broken_is : (Q : ConfigRule → Type 0) (ts : List (ConfigRule × Bool)) (r : ConfigRule) → Each Q ts
    → first_broken ts ≡ Some r → Q r
broken_is Q [] r each e = absurd (cc)
broken_is Q (t ∷ ts) r each e = broken_head Q t.0 t.1 (first_broken ts) r each.0 (λ g. broken_is Q ts r each.1 g) e

fault_is : (Q : ConfigFault → Type 0) (place : ConfigPlace) (o : Option ConfigRule) (fault : ConfigFault)
    → ((rule : ConfigRule) → o ≡ Some rule → Q (record { place = place; rule = rule })) → fault_at place o ≡ Some fault
    → Q fault
fault_is Q place None fault h e = absurd (cc)
fault_is Q place (Some rule) fault h e =
    subst Q (same_Some (record { place = place; rule = rule }) fault e) (h rule refl)

-- of the rules of one place
broken_at : (Q : ConfigFault → Type 0) (place : ConfigPlace) (ts : List (ConfigRule × Bool)) (fault : ConfigFault)
    → Each (λ rule. Q (record { place = place; rule = rule })) ts → fault_at place (first_broken ts) ≡ Some fault
    → Q fault
broken_at Q place ts fault each e = fault_is Q place (first_broken ts) fault
    (λ rule g. broken_is (λ r. Q (record { place = place; rule = r })) ts rule each g) e

of_either : (Q : ConfigFault → Type 0) (a b : Option ConfigFault) (fault : ConfigFault) → (a ≡ Some fault → Q fault)
    → (b ≡ Some fault → Q fault) → or_else a b ≡ Some fault → Q fault
of_either Q None b fault first later e = later e
of_either Q (Some f) b fault first later e = first e

-- what is found in a list is told of an element of it
of_first : {X : Type 0} (Q : ConfigFault → Type 0) (tell : ℕ → X → Option ConfigFault) (number : ℕ) (xs : List X)
    (fault : ConfigFault)
    → ((i : ℕ) (x : X) → slice_get xs i ≡ Some x → tell (number + i) x ≡ Some fault → Q fault)
    → first_at tell number xs ≡ Some fault → Q fault
of_first Q tell number [] fault h e = absurd (cc)
of_first Q tell number (x ∷ xs) fault h e =
    let here : number + 0 ≡ number = omega arith in
    of_either Q (tell number x) (first_at tell (number + 1) xs) fault
    (λ g. h 0 x refl (ap (λ (n : ℕ). tell n x) here ∙ g))
    (λ g. of_first Q tell (number + 1) xs fault
    (λ i y at told. let next : number + suc i
    ≡ number + 1 + i = omega arith in h (suc i) y at (ap (λ (n : ℕ). tell n y) next ∙ told)) g) e

passes : {X : Type 0} (test : X → Bool) (xs : List X) (i : ℕ) (x : X) → slice_get xs i ≡ Some x → test x ≡ true
    → passes_at test (1 + i) xs ≡ true
passes {X = X} test xs i x at is =
    let positive : nat_lt 0 (1 + i) ≡ true = grind (arith, nat_tests) in
    let index : 1 + i - 1 ≡ i = omega arith in
    ap (λ (b : Bool). if b then option_map_or test (slice_get xs (1 + i - 1)) false else false) positive
    ∙ (ap (λ (k : ℕ). option_map_or test (slice_get xs k) false) index
    ∙ (ap (λ (o : Option X). option_map_or test o false) at ∙ is))

-- a fault that is true, and has this code
abbrev Found : List PeerConfig → Code → ConfigFault → Type 0
Found peers code fault = (breaks_at peers fault.place fault.rule ≡ true) × (code_of_rule fault.rule ≡ code)

abbrev pass_code : Pass → Code
pass_code Parameters = BadParameter
pass_code Policies = InconsistentPolicy

writer_each : (Q : ConfigRule → Type 0) (pass : Pass) (p : PeerConfig) (w : WriterConfig)
    → ((rule : ConfigRule) → breaks_as_writer p rule w ≡ true → code_of_rule rule ≡ pass_code pass → Q rule)
    → Each Q (writer_rules pass p w)
writer_each Q Parameters p w h =
    (λ e. h _ e refl, (λ e. h _ e refl, (λ e. h _ e refl, (λ e. h _ e refl, (λ e. h _ e refl, (λ e. h _ e refl, tt))))))
writer_each Q Policies p w h = (λ e. h _ e refl, tt)

reader_each : (Q : ConfigRule → Type 0) (pass : Pass) (peers : List PeerConfig) (p : PeerConfig) (r : ReaderConfig)
    → ((rule : ConfigRule) → breaks_as_reader peers p rule r ≡ true → code_of_rule rule ≡ pass_code pass → Q rule)
    → Each Q (reader_rules pass peers p r)
reader_each Q Parameters peers p r h = (
  λ e. h _ e refl,
  (
    λ e. h _ e refl,
    (λ e. h _ e refl, (λ e. h _ e refl, (λ e. h _ e refl, (λ e. h _ e refl, (λ e. h _ e refl, (λ e. h _ e refl, tt)))))),
  ),
)
reader_each Q Policies peers p r h =
    (λ e. h _ e refl, (λ e. h _ e refl, (λ e. h _ e refl, (λ e. h _ e refl, (λ e. h _ e refl, tt)))))

peer_each : (Q : ConfigRule → Type 0) (pass : Pass) (peers : List PeerConfig) (p : PeerConfig)
    → ((rule : ConfigRule) → breaks_as_peer peers rule p ≡ true → code_of_rule rule ≡ pass_code pass → Q rule)
    → Each Q (peer_rules pass peers p)
peer_each Q Parameters peers p h = (λ e. h _ e refl, (λ e. h _ e refl, (λ e. h _ e refl, (λ e. h _ e refl, tt))))
peer_each Q Policies peers p h = tt

peer_found : (pass : Pass) (peers : List PeerConfig) (fault : ConfigFault) (j : ℕ) (p : PeerConfig)
    → slice_get peers j ≡ Some p
    → peer_fault pass peers (1 + j) p ≡ Some fault → Found peers (pass_code pass) fault
peer_found pass peers fault j p at e =
    let Q : ConfigFault → Type 0 = Found peers (pass_code pass) in
    of_either Q (fault_at (Peer (1 + j)) (first_broken (peer_rules pass peers p)))
    (or_else (writers_fault pass (1 + j) p) (readers_fault pass peers (1 + j) p)) fault
    (λ g. broken_at Q (Peer (1 + j)) (peer_rules pass peers p) fault
    (peer_each (λ rule. Q (record { place = Peer (1 + j); rule = rule })) pass peers p
    (λ rule is code. (passes (breaks_as_peer peers rule) peers j p at is, code))) g)
    (λ g. of_either Q (writers_fault pass (1 + j) p) (readers_fault pass peers (1 + j) p) fault
    (λ told. of_first Q (writer_fault pass (1 + j) p) 1 p.writers fault
    (λ i w there broken. broken_at Q (Writer (1 + j) (1 + i)) (writer_rules pass p w) fault
    (writer_each (λ rule. Q (record { place = Writer (1 + j) (1 + i); rule = rule })) pass p w
    (λ rule is code. (
      passes (λ (q : PeerConfig). passes_at (breaks_as_writer q rule) (1 + i) q.writers) peers j p at
          (passes (breaks_as_writer p rule) p.writers i w there is),
      code,
    ))) broken) told)
    (λ told. of_first Q (reader_fault pass peers (1 + j) p) 1 p.readers fault
    (λ i r there broken. broken_at Q (Reader (1 + j) (1 + i)) (reader_rules pass peers p r) fault
    (reader_each (λ rule. Q (record { place = Reader (1 + j) (1 + i); rule = rule })) pass peers p r
    (λ rule is code. (
      passes (λ (q : PeerConfig). passes_at (breaks_as_reader peers q rule) (1 + i) q.readers) peers j p at
          (passes (breaks_as_reader peers p rule) p.readers i r there is),
      code,
    ))) broken) told) g) e

pass_found : (pass : Pass) (peers : List PeerConfig) (fault : ConfigFault) → pass_fault pass peers ≡ Some fault
    → Found peers (pass_code pass) fault
pass_found pass peers fault e = of_first (Found peers (pass_code pass)) (peer_fault pass peers) 1 peers fault
    (λ j p at told. peer_found pass peers fault j p at told) e

parameter_found : (peers : List PeerConfig) (fault : ConfigFault) → parameter_fault peers ≡ Some fault
    → Found peers BadParameter fault
parameter_found peers fault e =
    let Q : ConfigFault → Type 0 = Found peers BadParameter in
    of_either Q (fault_at Whole (first_broken (whole_rules peers))) (pass_fault Parameters peers) fault
    (λ g. broken_at Q Whole (whole_rules peers) fault ((λ is. (is, refl)), tt) g) (pass_found Parameters peers fault) e

-- ---- the two passes

or_else-assoc : (a b c : Option ConfigFault) → or_else a (or_else b c) ≡ or_else (or_else a b) c
or_else-assoc None b c = refl
or_else-assoc (Some fault) b c = refl

refusal_by : (peers : List PeerConfig) (a b : Bool) → has_bad_parameter peers ≡ a → has_inconsistent_policy peers ≡ b
    → check_refusal peers ≡ (if a then Some BadParameter else (if b then Some InconsistentPolicy else None))
refusal_by peers a b bad inconsistent =
    ap (λ (x : Bool). if x then Some BadParameter
    else (if has_inconsistent_policy peers then Some InconsistentPolicy else None)) bad
    ∙ ap (λ (x : Bool). if a then Some BadParameter else (if x then Some InconsistentPolicy else None)) inconsistent

none_of : (peers : List PeerConfig) (a b : Option ConfigFault) → is_some a ≡ has_bad_parameter peers
    → is_some b ≡ has_inconsistent_policy peers → or_else a b ≡ None → check_refusal peers ≡ None
none_of peers None None bad inconsistent e = refusal_by peers false false (sym bad) (sym inconsistent)
none_of peers None (Some fault) bad inconsistent e = absurd (cc)
none_of peers (Some fault) b bad inconsistent e = absurd (cc)

some_of : (peers : List PeerConfig) (a b : Option ConfigFault) (fault : ConfigFault)
    → is_some a ≡ has_bad_parameter peers
    → is_some b ≡ has_inconsistent_policy peers
    → (a ≡ Some fault → Found peers BadParameter fault) → (b ≡ Some fault → Found peers InconsistentPolicy fault)
    → or_else a b ≡ Some fault
    → (check_refusal peers ≡ Some (code_of_rule fault.rule)) × Breaks peers fault
some_of peers None None fault bad inconsistent first later e = absurd (cc)
some_of peers None (Some f) fault bad inconsistent first later e =
    let found : Found peers InconsistentPolicy fault = later e in
    (refusal_by peers false true (sym bad) (sym inconsistent) ∙ ap (λ (c : Code). Some c) (sym found.1), found.0)
some_of peers (Some f) b fault bad inconsistent first later e =
    let found : Found peers BadParameter fault = first e in
    (refusal_by peers true (is_some b) (sym bad) (sym inconsistent) ∙ ap (λ (c : Code). Some c) (sym found.1), found.0)

of_none : (peers : List PeerConfig) → config_fault peers ≡ None → check_refusal peers ≡ None
of_none peers e =
    none_of peers (parameter_fault peers) (pass_fault Policies peers) (some_parameter peers) (some_policy peers)
    (sym (or_else-assoc (fault_at Whole (first_broken (whole_rules peers))) (pass_fault Parameters peers)
    (pass_fault Policies peers)) ∙ e)

of_some : (peers : List PeerConfig) (fault : ConfigFault) → config_fault peers ≡ Some fault
    → (check_refusal peers ≡ Some (code_of_rule fault.rule)) × Breaks peers fault
of_some peers fault e =
    some_of peers (parameter_fault peers) (pass_fault Policies peers) fault (some_parameter peers) (some_policy peers)
    (parameter_found peers fault) (pass_found Policies peers fault)
    (sym (or_else-assoc (fault_at Whole (first_broken (whole_rules peers))) (pass_fault Parameters peers)
    (pass_fault Policies peers)) ∙ e)

pub fault-none : (peers : List PeerConfig) (o : Option ConfigFault) → o ≡ config_fault peers
    → IfNone o (check_refusal peers ≡ None)
fault-none peers None e = of_none peers (sym e)
fault-none peers (Some fault) e = tt

pub fault-code : (peers : List PeerConfig) (o : Option ConfigFault) → o ≡ config_fault peers
    → IfSome o (λ fault. check_refusal peers ≡ Some (code_of_rule fault.rule))
fault-code peers None e = tt
fault-code peers (Some fault) e = (of_some peers fault (sym e)).0

pub fault-broken : (peers : List PeerConfig) (o : Option ConfigFault) → o ≡ config_fault peers
    → IfSome o (λ fault. Breaks peers fault)
fault-broken peers None e = tt
fault-broken peers (Some fault) e = (of_some peers fault (sym e)).1
