-- What is read of a DATA_FRAG is what it says, and what it says is read.
use Rattle.std.proofs.Common.{◌≡◌, ℕ, ◌+◌, ◌-◌, ◌^◌, ◌<◌, ◌≤◌, Bool, true, false, cond, ltb, List, [], ◌++◌, length, take, Option, Some, None, refl, sym, ap, subst, ◌∙◌, arith, append_assoc}
use Rattle.std.specs.Prelude.{MatchBool}
use Rattle.std.specs.Int.{w16, w32}
use Rattle.std.proofs.lemmas.Bool.{ltb-false, le-ltb}
use Rattle.std.proofs.lemmas.List.{take_at, length-append}
use Rattle.std.proofs.lemmas.Option.{option_and_then_some}
use Rattle.dds_base.specs.declared.endianness.Endianness.{Endianness}
use Rattle.dds_base.specs.declared.guid.EntityId.{EntityId}
use Rattle.dds_base.specs.Fields.{number, number_at, octets_at, ◌>>=◌}
use Rattle.dds_base.specs.FieldPairs.{both}
use Rattle.dds_base.proofs.FieldLaws.{AreOctets, guard_some, some_is, cond_is, field_u16, field_u32, field_octets, field_both}
use Rattle.rtps_wire.specs.Data.{data_head}
use Rattle.rtps_wire.specs.DataAt.{data_head_at}
use Rattle.rtps_wire.specs.Fields.{has_flag, order_of}
use Rattle.rtps_wire.specs.Parameters.{Parameter, ReadsParameters}
use Rattle.rtps_wire.specs.ParametersAt.{parameters_at}
use Rattle.rtps_wire.proofs.DataLaws.{head_found, head_only}
use Rattle.rtps_wire.proofs.ParameterLaws.{parameters_found, parameters_only}
use Rattle.rtps_wire.proofs.TestLaws.{neither, match_true, match_false}
use Rattle.rtps_fragments.specs.DataFrag.{Fragment, ReadsFragment, count_of, data_flags, extent_of, frag_head}
use Rattle.rtps_fragments.specs.DataFragAt.{said, counts_at, inline_at, is_impossible, fragment_with, fragment_at}
use Rattle.rtps_fragments.proofs.Parting.{EndsWith, parameters_part}

-- ---- the numbers of the fragments

abbrev Counts : Type 0
Counts = ℕ × ℕ × ℕ × ℕ × List ℕ

abbrev counts_text : Endianness → ℕ → ℕ → ℕ → ℕ → List ℕ
counts_text order first count size whole =
    number order w32 first ++ (number order w16 count ++ number order w16 size) ++ number order w32 whole

record HasCounts (order : Endianness) (bytes : List ℕ) (x : Counts) : Type 0 where
  first : x.0 < 2 ^ 32
  count : x.1 < 2 ^ 16
  size : x.2 < 2 ^ 16
  text : bytes ≡ counts_text order x.0 x.1 x.2 x.3 ++ x.4
  octets : AreOctets x.4

counts_found : (order : Endianness) (bytes : List ℕ) (x : Counts) → AreOctets bytes → counts_at order bytes ≡ Some x
    → HasCounts order bytes x
unfolding counts_at
counts_found order bytes x octets e =
    option_and_then_some (λ y. Some (y.0.0.0, y.0.0.1.0, y.0.0.1.1, y.0.1, y.1))
    (both (both (number_at order w32) (both (number_at order w16) (number_at order w16))) (number_at order w32) bytes) x e
    (λ y q r.
    let t =
    (field_both (field_both (field_u32 order) (field_both (field_u16 order) (field_u16 order))) (field_u32 order)).takes
    bytes y.0 y.1 octets q in
    let made : Counts = (y.0.0.0, y.0.0.1.0, y.0.0.1.1, y.0.1, y.1) in
    subst (λ (z : Counts). HasCounts order bytes z) (some_is made x r) (record {
      first = t.1.0.0;
      count = t.1.0.1.0;
      size = t.1.0.1.1;
      text = t.0.parts;
      octets = t.0.octets;
    }))

counts_only : (order : Endianness) (first count size whole : ℕ) (rest : List ℕ)
    → first < 2 ^ 32 → count < 2 ^ 16 → size < 2 ^ 16 → whole < 2 ^ 32
    → counts_at order (counts_text order first count size whole ++ rest) ≡ Some (first, count, size, whole, rest)
unfolding counts_at
counts_only order first count size whole rest p q r s =
    rw ((field_both (field_both (field_u32 order) (field_both (field_u16 order) (field_u16 order)))
    (field_u32 order)).again ((first, (count, size)), whole) rest ((p, (q, r)), s)) refl

-- ---- the parameters

record HasInline (flags : ℕ) (bytes : List ℕ) (x : List ℕ × List ℕ) : Type 0 where
  parameters : List Parameter
  inline : MatchBool (has_flag flags 2) (ReadsParameters (order_of flags) (x.0 ++ x.1) parameters x.1) (x.0 ≡ [])
  text : bytes ≡ x.0 ++ x.1
  octets : AreOctets x.1

front_is : (front rest : List ℕ) → take (length (front ++ rest) - length rest) (front ++ rest) ≡ front
front_is front rest =
    let n : length front ≡ length (front ++ rest) - length rest = omega (arith, length-append front rest) in
    take_at front rest (length (front ++ rest) - length rest) n

front_of : (bytes front rest : List ℕ) → bytes ≡ front ++ rest → take (length bytes - length rest) bytes ≡ front
front_of bytes front rest e =
    subst (λ (z : List ℕ). take (length z - length rest) z ≡ front) (sym e) (front_is front rest)

inline_found : (flags : ℕ) (bytes : List ℕ) (x : List ℕ × List ℕ) → AreOctets bytes → inline_at flags bytes ≡ Some x
    → HasInline flags bytes x
unfolding inline_at
inline_found flags bytes x octets e =
    let order = order_of flags in
    let plain : List ℕ × List ℕ = ([], bytes) in
    cond_is {P = HasInline flags bytes x} (has_flag flags 2)
    (parameters_at (order_of flags) bytes >>= λ y. Some (take (length bytes - length y.1) bytes, y.1)) (Some plain)
    (Some x) e
    (λ set p. option_and_then_some (λ y. Some (take (length bytes - length y.1) bytes, y.1))
    (parameters_at (order_of flags) bytes) x p (λ y q r.
    let found = parameters_found order bytes y octets q in
    let part : EndsWith bytes y.1 = parameters_part order bytes found.parameters y.1 found.reads in
    let front : take (length bytes - length y.1) bytes ≡ part.front = front_of bytes part.front y.1 part.parts in
    let made : List ℕ × List ℕ = (take (length bytes - length y.1) bytes, y.1) in
    let text : bytes ≡ take (length bytes - length y.1) bytes ++ y.1 =
    part.parts ∙ ap (λ (z : List ℕ). z ++ y.1) (sym front) in
    subst (λ (z : List ℕ × List ℕ). HasInline flags bytes z) (some_is made x r) (record {
      parameters = found.parameters;
      inline = match_true (has_flag flags 2)
          (ReadsParameters (order_of flags) (take (length bytes - length y.1) bytes ++ y.1) found.parameters y.1)
          (take (length bytes - length y.1) bytes ≡ []) set
          (subst (λ (z : List ℕ). ReadsParameters (order_of flags) z found.parameters y.1) text found.reads);
      text = text;
      octets = found.octets;
    })))
    (λ clear p. subst (λ (z : List ℕ × List ℕ). HasInline flags bytes z) (some_is plain x p) (record {
      parameters = [];
      inline = match_false (has_flag flags 2) (ReadsParameters (order_of flags) ([] ++ bytes) [] bytes)
          ([] ≡ []) clear refl;
      text = refl;
      octets = octets;
    }))

inline_by : (b : Bool) (order : Endianness) (parameters rest : List ℕ) (ps : List Parameter)
    → MatchBool b (ReadsParameters order (parameters ++ rest) ps rest) (parameters ≡ [])
    → cond {A = Option (List ℕ × List ℕ)} b (parameters_at order (parameters ++ rest) >>= λ y. Some
    (take (length (parameters ++ rest) - length y.1) (parameters ++ rest), y.1)) (Some ([], parameters ++ rest))
    ≡ Some (parameters, rest)
inline_by true order parameters rest ps i =
    rw (parameters_only order (parameters ++ rest) ps rest i, front_is parameters rest) refl
inline_by false order parameters rest ps i = rw i refl

inline_only : (flags : ℕ) (parameters rest : List ℕ) (ps : List Parameter)
    → MatchBool (has_flag flags 2) (ReadsParameters (order_of flags) (parameters ++ rest) ps rest) (parameters ≡ [])
    → inline_at flags (parameters ++ rest) ≡ Some (parameters, rest)
unfolding inline_at
inline_only flags parameters rest ps i = inline_by (has_flag flags 2) (order_of flags) parameters rest ps i

-- ---- the fragments

record IsPossible (f : Fragment) : Type 0 where
  sn : 1 ≤ f.writer_sn
  first : 1 ≤ f.fragment_starting_num
  some : 1 ≤ f.fragments_in_submessage
  sized : 1 ≤ f.fragment_size
  within : f.fragment_starting_num - 1 + f.fragments_in_submessage ≤ count_of f.sample_size f.fragment_size
  carried : length f.parameters + f.sample_size ≤ 65435

possible : (f : Fragment) → is_impossible f ≡ false → IsPossible f
possible f e =
    let h = neither _ _ e in
    let g = neither _ _ h.0 in
    let n = neither _ _ g.0 in
    let d = neither _ _ n.0 in
    let c = neither _ _ d.0 in
    let b = neither _ _ c.0 in
    let short : length f.parameters ≤ 65435 - f.sample_size = ltb-false _ _ h.1 in
    let small : f.sample_size ≤ 65435 = ltb-false _ _ g.1 in
    record {
      sn = ltb-false _ _ b.0;
      first = ltb-false _ _ b.1;
      some = ltb-false _ _ c.1;
      sized = ltb-false _ _ d.1;
      within = ltb-false _ _ n.1;
      carried = omega arith;
    }

not_impossible : (f : Fragment) → IsPossible f → is_impossible f ≡ false
not_impossible f p =
    let a : ltb f.writer_sn 1 ≡ false = le-ltb _ _ p.sn in
    let b : ltb f.fragment_starting_num 1 ≡ false = le-ltb _ _ p.first in
    let c : ltb f.fragments_in_submessage 1 ≡ false = le-ltb _ _ p.some in
    let d : ltb f.fragment_size 1 ≡ false = le-ltb _ _ p.sized in
    let n : ltb (count_of f.sample_size f.fragment_size) (f.fragment_starting_num - 1 + f.fragments_in_submessage)
    ≡ false = le-ltb _ _ p.within in
    let g : ltb 65435 f.sample_size ≡ false = le-ltb _ _ (omega (arith, p.carried)) in
    let h : ltb (65435 - f.sample_size) (length f.parameters) ≡ false = le-ltb _ _ (omega (arith, p.carried)) in
    rw (a, b, c, d, n, g, h) refl

record HasFragments (f : Fragment) (bytes : List ℕ) (g : Fragment) : Type 0 where
  possible : IsPossible f
  octets : List ℕ
  after : List ℕ
  text : bytes ≡ octets ++ after
  len : length octets ≡ extent_of f
  is : g ≡ said f.flags f.reader_id f.writer_id f.writer_sn f.fragment_starting_num f.fragments_in_submessage
      f.fragment_size f.sample_size f.parameters octets

fragments_found : (f : Fragment) (bytes : List ℕ) (g : Fragment) → AreOctets bytes → fragment_with f bytes ≡ Some g
    → HasFragments f bytes g
unfolding fragment_with
fragments_found f bytes g octets e =
    let with_octets : List ℕ → Fragment = λ xs. said f.flags f.reader_id f.writer_id f.writer_sn
    f.fragment_starting_num f.fragments_in_submessage f.fragment_size f.sample_size f.parameters xs in
    let h = guard_some (is_impossible f) (octets_at (extent_of f) bytes >>= λ x. Some (with_octets x.0)) g e in
    option_and_then_some (λ x. Some (with_octets x.0)) (octets_at (extent_of f) bytes) g h.1 (λ x q r.
    let t = (field_octets (extent_of f)).takes bytes x.0 x.1 octets q in
    record {
      possible = possible f h.0;
      octets = x.0;
      after = x.1;
      text = t.0.parts;
      len = t.1;
      is = sym (some_is (with_octets x.0) g r);
    })

fragments_only : (f : Fragment) (octets after : List ℕ) → IsPossible f → length octets ≡ extent_of f
    → fragment_with f (octets ++ after) ≡ Some (said f.flags f.reader_id f.writer_id f.writer_sn
    f.fragment_starting_num f.fragments_in_submessage f.fragment_size f.sample_size f.parameters octets)
unfolding fragment_with
fragments_only f octets after p len =
    rw (not_impossible f p, (field_octets (extent_of f)).again octets after len) refl

-- ---- the whole

pub fragment_found : (flags : ℕ) (body : List ℕ) (f : Fragment) → AreOctets body → fragment_at flags body ≡ Some f
    → ReadsFragment flags body f
unfolding fragment_at
fragment_found flags body f octets e =
    let order = order_of flags in
    let last : (ℕ × EntityId × EntityId × ℕ × List ℕ) → Counts → List ℕ × List ℕ → Option Fragment =
    λ n c p. fragment_with (said (data_flags flags) n.1 n.2 n.3 c.0 c.1 c.2 c.3 p.0 []) p.1 in
    let third : (ℕ × EntityId × EntityId × ℕ × List ℕ) → Counts → List ℕ × List ℕ → Option Fragment =
    λ n c s. inline_at flags s.1 >>= last n c in
    let second : (ℕ × EntityId × EntityId × ℕ × List ℕ) → Counts → Option Fragment =
    λ n c. cond (ltb n.0 28) None (octets_at (n.0 - 28) c.4) >>= third n c in
    let first : (ℕ × EntityId × EntityId × ℕ × List ℕ) → Option Fragment =
    λ n. counts_at (order_of flags) n.4 >>= second n in
    let g = guard_some (has_flag flags 8) (data_head_at (order_of flags) body >>= first) f e in
    option_and_then_some first (data_head_at (order_of flags) body) f g.1 (λ n q1 r1.
    let names = head_found order body n octets q1 in
    option_and_then_some (second n) (counts_at (order_of flags) n.4) f r1 (λ c q2 r2.
    let counts = counts_found order n.4 c names.octets q2 in
    option_and_then_some (third n c) (cond (ltb n.0 28) None (octets_at (n.0 - 28) c.4)) f r2 (λ s q3 r3.
    let long = guard_some (ltb n.0 28) (octets_at (n.0 - 28) c.4) s q3 in
    let way : 28 ≤ n.0 = ltb-false _ _ long.0 in
    let skipped = (field_octets (n.0 - 28)).takes c.4 s.0 s.1 counts.octets long.1 in
    option_and_then_some (last n c) (inline_at flags s.1) f r3 (λ p q4 r4.
    let inline = inline_found flags s.1 p skipped.0.octets q4 in
    let bare : Fragment = said (data_flags flags) n.1 n.2 n.3 c.0 c.1 c.2 c.3 p.0 [] in
    let frag = fragments_found bare p.1 f inline.octets r4 in
    let way-is : n.0 ≡ 28 + length s.0 = omega (arith, skipped.1) in
    let made : Fragment = said (data_flags flags) n.1 n.2 n.3 c.0 c.1 c.2 c.3 p.0 frag.octets in
    let tail : List ℕ = s.0 ++ (p.0 ++ p.1) in
    let rest : c.4 ≡ s.0 ++ (p.0 ++ p.1) =
    skipped.0.parts ∙ ap (λ (z : List ℕ). s.0 ++ z) inline.text in
    let whole : body ≡ frag_head order names.extra (28 + length s.0) made ++ (s.0 ++ (p.0 ++ p.1)) =
    names.text
    ∙ ap (λ (z : List ℕ). data_head order names.extra n.0 n.1 n.2 n.3 ++ z)
    (counts.text ∙ ap (λ (z : List ℕ). counts_text order c.0 c.1 c.2 c.3 ++ z) rest)
    ∙ sym (append_assoc (data_head order names.extra n.0 n.1 n.2 n.3) (counts_text order c.0 c.1 c.2 c.3) tail)
    ∙ ap (λ (w : ℕ). (data_head order names.extra w n.1 n.2 n.3 ++ counts_text order c.0 c.1 c.2 c.3) ++ tail) way-is in
    subst (λ (y : Fragment). ReadsFragment flags body y) (sym frag.is) (record {
      extra = names.extra;
      skipped = s.0;
      from_fragments = p.1;
      parameters = inline.parameters;
      after = frag.after;
      standard = g.0;
      flags_are = refl;
      extra_small = names.extra_small;
      skipped_small = rw (← way-is) names.way_small;
      small_num = counts.first;
      small_count = counts.count;
      text = whole;
      inline = inline.inline;
      fragments = frag.text;
      valid = record {
        reader = names.reader;
        writer = names.writer;
        first_sn = frag.possible.sn;
        small_sn = names.small;
        first = frag.possible.first;
        some = frag.possible.some;
        sized = frag.possible.sized;
        small_size = counts.size;
        within = frag.possible.within;
        carried = frag.possible.carried;
        extent = frag.len;
      };
    })))))

pub fragment_only : (flags : ℕ) (body : List ℕ) (f : Fragment) → ReadsFragment flags body f
    → fragment_at flags body ≡ Some f
unfolding fragment_at
fragment_only flags body f x =
    let order = order_of flags in
    let way : ltb (28 + length x.skipped) 28 ≡ false = le-ltb _ _ (omega arith) in
    let sub : 28 + length x.skipped - 28 ≡ length x.skipped = omega arith in
    let v = x.valid in
    let tail : List ℕ = x.skipped ++ (f.parameters ++ x.from_fragments) in
    let bare : Fragment = said (data_flags flags) f.reader_id f.writer_id f.writer_sn f.fragment_starting_num
    f.fragments_in_submessage f.fragment_size f.sample_size f.parameters [] in
    let can : IsPossible bare = record {
      sn = v.first_sn;
      first = v.first;
      some = v.some;
      sized = v.sized;
      within = v.within;
      carried = v.carried;
    } in
    let row : body ≡ data_head order x.extra (28 + length x.skipped) f.reader_id f.writer_id f.writer_sn
    ++ (counts_text order f.fragment_starting_num f.fragments_in_submessage f.fragment_size f.sample_size ++ tail) =
    x.text ∙ append_assoc (data_head order x.extra (28 + length x.skipped) f.reader_id f.writer_id f.writer_sn)
    (counts_text order f.fragment_starting_num f.fragments_in_submessage f.fragment_size f.sample_size) tail in
    ap (fragment_at flags) row
    ∙ rw (
      x.standard,
      head_only (order_of flags) x.extra (28 + length x.skipped) f.reader_id f.writer_id f.writer_sn
          (counts_text order f.fragment_starting_num f.fragments_in_submessage f.fragment_size f.sample_size ++ tail)
          x.extra_small x.skipped_small v.reader v.writer v.small_sn,
      counts_only (order_of flags) f.fragment_starting_num f.fragments_in_submessage f.fragment_size f.sample_size tail
          x.small_num x.small_count v.small_size (omega (arith, v.carried)),
      way,
      sub,
      (field_octets (length x.skipped)).again x.skipped (f.parameters ++ x.from_fragments) refl,
      inline_only flags f.parameters x.from_fragments x.parameters x.inline,
    ) (ap (λ (z : List ℕ). fragment_with bare z) x.fragments ∙ fragments_only bare f.octets x.after can v.extent
    ∙ ap (λ (z : ℕ). Some (said z f.reader_id f.writer_id f.writer_sn f.fragment_starting_num
    f.fragments_in_submessage f.fragment_size f.sample_size f.parameters f.octets)) (sym x.flags_are))

pub one_is_read : (flags : ℕ) (body : List ℕ) (f g : Fragment) → ReadsFragment flags body f → ReadsFragment flags body g
    → f ≡ g
one_is_read flags body f g x y = some_is f g (sym (fragment_only flags body f x) ∙ fragment_only flags body g y)
