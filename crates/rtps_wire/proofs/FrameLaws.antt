-- Where a frame is read there is one and no other, and where none is read, reading ends.
use Rattle.std.proofs.Common.{◌≡◌, ℕ, suc, ◌+◌, ◌<◌, Bool, true, false, cond, eqb, ◌&&◌, not, List, [], ◌∷◌, ◌++◌, length, Option, Some, None, refl, sym, ap, subst, ◌∙◌, append_assoc, arith, inl, inr}
use Rattle.std.specs.Prelude.{MatchBool}
use Rattle.std.specs.Int.{w16}
use Rattle.std.proofs.lemmas.Bool.{eqb-true, lt-ltb}
use Rattle.std.proofs.lemmas.List.{append-nil, length-append}
use Rattle.std.proofs.lemmas.Option.{option_and_then_some}
use Rattle.dds_base.specs.Fields.{number, number_at, octets_at, ◌>>=◌}
use Rattle.dds_base.proofs.FieldLaws.{AreOctets, AreOctets-front, bind_none, cond_is, some_is, field_u16, field_octets, u16_none, octets_none}
use Rattle.rtps_wire.specs.Fields.{order_of}
use Rattle.rtps_wire.specs.Frames.{runs_to_end, IsFrame, IsTooLong, IsEnd}
use Rattle.rtps_wire.specs.FrameAt.{frame_at}
use Rattle.rtps_wire.proofs.WireFields.{len_16}
use Rattle.rtps_wire.proofs.TestLaws.{both_hold, match_true, match_false}

abbrev Parts : Type 0
Parts = ℕ × ℕ × List ℕ × List ℕ

-- a frame of octets, with octets after it
pub record Frames (bytes : List ℕ) (f : ℕ × ℕ × List ℕ × List ℕ) : Type 0 where
  pub frame : IsFrame bytes f.0 f.1 f.2 f.3
  pub body : AreOctets f.2
  pub octets : AreOctets f.3

pub frame_length : (bytes : List ℕ) (id flags : ℕ) (body rest : List ℕ) → IsFrame bytes id flags body rest
    → length bytes ≡ 4 + length body + length rest
frame_length bytes id flags body rest f =
    rw f.text
    (omega (
      arith,
      length-append (number (order_of flags) w16 f.len ++ body) rest,
      length-append
          (number (order_of flags) w16 f.len) body,
      len_16 (order_of flags) f.len,
    ))

pub frame_found : (bytes : List ℕ) (f : ℕ × ℕ × List ℕ × List ℕ) → AreOctets bytes → frame_at bytes ≡ Some f
    → Frames bytes f
unfolding frame_at
frame_found (id ∷ flags ∷ bytes) f octets e =
    option_and_then_some (λ len. cond (runs_to_end id len.0) (Some (id, flags, len.1, []))
    (octets_at len.0 len.1 >>= λ body. Some (id, flags, body.0, body.1))) (number_at (order_of flags) w16 bytes) f e
    (λ n q r.
    let t = (field_u16 (order_of flags)).takes bytes n.0 n.1 (λ i. octets (suc (suc i))) q in
    let order = order_of flags in
    let whole : Parts = (id, flags, n.1, []) in
    cond_is {P = Frames (id ∷ flags ∷ bytes) f} (runs_to_end id n.0) (Some whole)
    (octets_at n.0 n.1 >>= λ body. Some (id, flags, body.0, body.1)) (Some f) r
    (λ to_end p. subst (λ (g : Parts). Frames (id ∷ flags ∷ bytes) g) (some_is whole f p) (record {
      frame =
          record {
            len = n.0;
            small = t.1;
            text = ap (λ (z : List ℕ). id ∷ flags ∷ z)
                (t.0.parts ∙ sym (append-nil (number order w16 n.0 ++ n.1)));
            extent = match_true (runs_to_end id n.0)
                ([] ≡ []) (length n.1 ≡ n.0) to_end refl;
          };
      body = t.0.octets;
      octets = λ i. omega arith;
    }))
    (λ of_len p. option_and_then_some (λ body. Some (id, flags, body.0, body.1)) (octets_at n.0 n.1) f p (λ b q' r'.
    let u = (field_octets n.0).takes n.1 b.0 b.1 t.0.octets q' in
    let part : Parts = (id, flags, b.0, b.1) in
    subst (λ (g : Parts). Frames (id ∷ flags ∷ bytes) g) (some_is part f r') (record {
      frame =
          record {
            len = n.0;
            small = t.1;
            text = ap (λ (z : List ℕ). id ∷ flags ∷ z)
                (t.0.parts ∙ ap (λ (z : List ℕ). number order w16 n.0 ++ z) u.0.parts
                ∙ sym (append_assoc (number order w16 n.0) b.0 b.1));
            extent = match_false (runs_to_end id n.0) (b.1 ≡ [])
                (length b.0 ≡ n.0) of_len u.1;
          };
      body = AreOctets-front b.0 b.1 (subst (λ (z : List ℕ). AreOctets z) u.0.parts t.0.octets);
      octets = u.0.octets;
    }))))
frame_found [] f octets e = absurd cc
frame_found (x ∷ []) f octets e = absurd cc

rest_of_frame : (b : Bool) (id flags len : ℕ) (body rest : List ℕ) → MatchBool b (rest ≡ []) (length body ≡ len)
    → cond {A = Option Parts} b (Some (id, flags, body ++ rest, []))
    (octets_at len (body ++ rest) >>= λ x. Some (id, flags, x.0, x.1)) ≡ Some (id, flags, body, rest)
rest_of_frame true id flags len body rest e =
    let made : body ++ rest ≡ body = rw e (append-nil body) in
    ap (λ (z : List ℕ × List ℕ). Some (id, flags, z.0, z.1)) (rw (made, e) refl)
rest_of_frame false id flags len body rest e = rw ((field_octets len).again body rest e) refl

pub frame_only : (bytes : List ℕ) (id flags : ℕ) (body rest : List ℕ) → IsFrame bytes id flags body rest
    → frame_at bytes ≡ Some (id, flags, body, rest)
unfolding frame_at
frame_only bytes id flags body rest f =
    let order = order_of flags in
    let regrouped : bytes ≡ id ∷ flags ∷ (number (order_of flags) w16 f.len ++ (body ++ rest)) =
    f.text ∙ ap (λ (z : List ℕ). id ∷ flags ∷ z) (append_assoc (number (order_of flags) w16 f.len) body rest) in
    ap frame_at regrouped ∙ rw ((field_u16 (order_of flags)).again f.len (body ++ rest) f.small)
    (rest_of_frame (runs_to_end id f.len) id flags f.len body rest f.extent)

pub to_end_len : (id len : ℕ) → runs_to_end id len ≡ true → len ≡ 0
to_end_len id len e =
    eqb-true len 0 (both_hold (eqb len 0) (not (eqb id 1))
    (both_hold (eqb len 0 && not (eqb id 1)) (not (eqb id 9)) e).0).0

pub frame_none : (bytes : List ℕ) → AreOctets bytes → frame_at bytes ≡ None → IsEnd bytes
unfolding frame_at
frame_none [] octets e = inl (omega arith)
frame_none (x ∷ []) octets e = inl (omega arith)
frame_none (id ∷ flags ∷ bytes) octets e =
    let order = order_of flags in
    bind_none {P = IsEnd (id ∷ flags ∷ bytes)}
    (λ len. cond (runs_to_end id len.0) (Some (id, flags, len.1, []))
    (octets_at len.0 len.1 >>= λ body. Some (id, flags, body.0, body.1))) (number_at (order_of flags) w16 bytes) e
    (λ none. inl (omega (arith, u16_none (order_of flags) bytes none)))
    (λ n q r.
    let t = (field_u16 (order_of flags)).takes bytes n.0 n.1 (λ i. octets (suc (suc i))) q in
    let whole : Parts = (id, flags, n.1, []) in
    cond_is {P = IsEnd (id ∷ flags ∷ bytes)} (runs_to_end id n.0) (Some whole)
    (octets_at n.0 n.1 >>= λ body. Some (id, flags, body.0, body.1)) None r
    (λ to_end p. absurd cc)
    (λ of_len p. bind_none {P = IsEnd (id ∷ flags ∷ bytes)} (λ body. Some (id, flags, body.0, body.1))
    (octets_at n.0 n.1) p
    (λ none. inr (record {
      id = id;
      flags = flags;
      len = n.0;
      body = n.1;
      small = t.1;
      text = ap (λ (z : List ℕ). id
          ∷ flags ∷ z) t.0.parts;
      passes = octets_none n.0 n.1 none;
    }))
    (λ b q' r'. absurd cc)))

not_to_end : (id len : ℕ) (b : Bool) → 0 < len → runs_to_end id len ≡ b → b ≡ false
not_to_end id len true lt e = absurd (omega (arith, to_end_len id len e))
not_to_end id len false lt e = refl

past : (n : ℕ) (xs : List ℕ) → length xs < n → octets_at n xs ≡ None
unfolding octets_at
past n xs lt = rw (lt-ltb (length xs) n lt) refl

-- what begins with a frame is no end
too_long : (bytes : List ℕ) → IsTooLong bytes → frame_at bytes ≡ None
unfolding frame_at
too_long bytes t =
    let positive : runs_to_end t.id t.len ≡ false =
    not_to_end t.id t.len (runs_to_end t.id t.len) (omega (arith, t.passes)) refl in
    let short : octets_at t.len t.body ≡ None = past t.len t.body t.passes in
    ap frame_at t.text ∙ rw ((field_u16 (order_of t.flags)).again t.len t.body t.small, positive, short) refl

pub frame_apart : (bytes : List ℕ) (id flags : ℕ) (body rest : List ℕ) → IsFrame bytes id flags body rest → IsEnd bytes
    → ⊥
frame_apart bytes id flags body rest f (inl short) = omega (arith, frame_length bytes id flags body rest f)
frame_apart bytes id flags body rest f (inr long) =
    let made = frame_only bytes id flags body rest f in
    let none = too_long bytes long in
    cc
