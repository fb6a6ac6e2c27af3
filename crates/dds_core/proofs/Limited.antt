-- How many ends a good peer has, and how long the values of its writers may be.
use Rattle.std.proofs.Common.{◌≡◌, ℕ, zero, suc, ◌≤◌, ◌==◌, Bool, true, false, not, ◌||◌, length, List, [], ◌∷◌, Some, slice_get, refl, subst, arith}
use Rattle.std.specs.Prelude.{nat_lt}
use Rattle.std.specs.List.{list_any}
use Rattle.std.proofs.lemmas.Bool.Decides.{nat_tests}
use Rattle.std.proofs.lemmas.Option.{same_Some}
use Rattle.dds_base.specs.declared.config.PeerConfig.{PeerConfig}
use Rattle.dds_base.specs.declared.config.WriterConfig.{WriterConfig}
use Rattle.dds_base.specs.declared.config.ReaderConfig.{ReaderConfig}
use Rattle.dds_base.specs.Bounds.{max_ends}
use Rattle.dds_base.specs.Checked.{entity_count, has_kind, has_no_depth, is_bad_lease, is_bad_peer, is_bad_reader, is_bad_writer, is_maximum}
use Rattle.dds_protocol.specs.Roster.{AreGood}

or_left : (a b : Bool) → (a || b) ≡ false → a ≡ false
or_left true b h = absurd cc
or_left false b h = refl

or_right : (a b : Bool) → (a || b) ≡ false → b ≡ false
or_right true b h = absurd cc
or_right false b h = h

none_passes : {X : Type 0} (test : X → Bool) (xs : List X) (i : ℕ) (x : X) → list_any test xs ≡ false
    → slice_get xs i ≡ Some x → test x ≡ false
none_passes test [] i x none at = absurd cc
none_passes test (y ∷ ys) zero x none at =
    subst (λ z. test z ≡ false) (same_Some y x at) (or_left (test y) (list_any test ys) none)
none_passes test (y ∷ ys) (suc i) x none at =
    none_passes test ys i x (or_right (test y) (list_any test ys) none) at

third : (a b c : Bool) → (a || (b || c)) ≡ false → c ≡ false
third a b c h = or_right b c (or_right a (b || c) h)

third_of_four : (a b c d : Bool) → (a || (b || (c || d))) ≡ false → c ≡ false
third_of_four a b c d h = or_left c d (third a b (c || d) h)

last_of_six : (a b c d e f : Bool) → (a || (b || (c || (d || (e || f))))) ≡ false → f ≡ false
last_of_six a b c d e f h = third d e f (or_right c (d || (e || f)) (third a b (c || (d || (e || f))) h))

-- one of good peers has few writers, and few readers
pub few_ends : (peers : List PeerConfig) → AreGood peers → (n : ℕ) (p : PeerConfig) → slice_get peers n ≡ Some p
    → (length p.writers ≤ 16) × (length p.readers ≤ 16)
few_ends peers good n p at =
    let peer : is_bad_peer p ≡ false = none_passes is_bad_peer peers n p good.each at in
    let sizes : (nat_lt 16 (length p.writers) || nat_lt 16 (length p.readers)) ≡ false =
    or_left (nat_lt 16 (length p.writers) || nat_lt 16 (length p.readers))
    ((list_any (λ (v : WriterConfig). nat_lt 1 (entity_count p v.entity)) p.writers
    || list_any (λ (r : ReaderConfig). nat_lt 1 (entity_count p r.entity)) p.readers)
    || (list_any is_bad_writer p.writers || list_any is_bad_reader p.readers)) peer in
    let writers : nat_lt 16 (length p.writers) ≡ false =
    or_left (nat_lt 16 (length p.writers)) (nat_lt 16 (length p.readers)) sizes in
    let readers : nat_lt 16 (length p.readers) ≡ false =
    or_right (nat_lt 16 (length p.writers)) (nat_lt 16 (length p.readers)) sizes in
    (grind (arith, nat_tests, writers), grind (arith, nat_tests, readers))

-- the values of a writer are no longer than a datagram takes
pub limited : (peers : List PeerConfig) → AreGood peers → (n : ℕ) (p : PeerConfig) → slice_get peers n ≡ Some p
    → (i : ℕ) (w : WriterConfig) → slice_get p.writers i ≡ Some w → w.max_value ≤ 65000
limited peers good n p at i w there =
    let peer : is_bad_peer p ≡ false = none_passes is_bad_peer peers n p good.each at in
    let writer : is_bad_writer w ≡ false =
    none_passes is_bad_writer p.writers i w
    (third_of_four (nat_lt max_ends (length p.writers) || nat_lt max_ends (length p.readers))
    (list_any (λ (v : WriterConfig). nat_lt 1 (entity_count p v.entity)) p.writers
    || list_any (λ (r : ReaderConfig). nat_lt 1 (entity_count p r.entity)) p.readers) (list_any is_bad_writer p.writers)
    (list_any is_bad_reader p.readers) peer) there in
    let most : nat_lt 65000 w.max_value ≡ false =
    last_of_six (not (has_kind 2 w.entity)) (has_no_depth w.history) (not (is_maximum w.max_samples))
    (is_bad_lease w.lease) (w.max_value == 0) (nat_lt 65000 w.max_value) writer in
    grind (arith, nat_tests)
