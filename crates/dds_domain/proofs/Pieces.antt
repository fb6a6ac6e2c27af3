-- Submessages that were gone over.
use Rattle.std.proofs.Common.{◌≡◌, ◌∙◌, ℕ, Bool, true, false, List, [], ◌∷◌, ◌++◌, refl, sym, subst}
use Rattle.std.specs.Prelude.{◌||◌}
use Rattle.std.specs.List.{list_any}
use Rattle.rtps_wire.specs.Frames.{IsEnd, IsFrame}
use Rattle.dds_discovery.specs.Again.{Begins, Piece}
use Rattle.dds_domain.specs.Fragmented.{HasOne, is_fragment}

-- what was gone over has none
pub record HasNone (body left : List ℕ) : Type 0 where
  pub pieces : List Piece
  pub begins : Begins body pieces left
  pub none : list_any is_fragment pieces ≡ false

pub none_at_first : (body : List ℕ) → HasNone body body
none_at_first body = record { pieces = []; begins = refl; none = refl }

begins_more : (body : List ℕ) (ps : List Piece) (left : List ℕ) (p : Piece) (rest : List ℕ) → Begins body ps left
    → IsFrame left p.id p.flags p.body rest → Begins body (ps ++ p ∷ []) rest
begins_more body [] left p rest b f = (rest, subst (λ (x : List ℕ). IsFrame x p.id p.flags p.body rest) (sym b) f, refl)
begins_more body (q ∷ ps) left p rest b f = (b.0, b.1, begins_more b.0 ps left p rest b.2 f)

any_more : (ps : List Piece) (p : Piece) → list_any is_fragment ps ≡ false
    → list_any is_fragment (ps ++ p ∷ []) ≡ is_fragment p
any_more [] p e = or_false (is_fragment p)
  where
    or_false : (b : Bool) → (b || false) ≡ b
    or_false true = refl
    or_false false = refl
any_more (q ∷ ps) p e = by_test (is_fragment q) (any_more ps p) e
  where
    by_test : (b : Bool) → (list_any is_fragment ps ≡ false → list_any is_fragment (ps ++ p ∷ []) ≡ is_fragment p)
        → (b || list_any is_fragment ps) ≡ false → (b || list_any is_fragment (ps ++ p ∷ [])) ≡ is_fragment p
    by_test true later e = absurd cc
    by_test false later e = later e

pub none_more : (body left : List ℕ) (p : Piece) (rest : List ℕ) (b : Bool) → HasNone body left
    → IsFrame left p.id p.flags p.body rest → b ≡ is_fragment p → b ≡ false → HasNone body rest
none_more body left p rest b s f is e = record {
  pieces = s.pieces ++ p ∷ [];
  begins = begins_more body s.pieces left p rest s.begins f;
  none = any_more s.pieces p s.none ∙ (sym is ∙ e);
}

pub has_it : (body left : List ℕ) (p : Piece) (rest : List ℕ) (b : Bool) → HasNone body left
    → IsFrame left p.id p.flags p.body rest → b ≡ is_fragment p → b ≡ true → HasOne body true
has_it body left p rest b s f is e = record {
  pieces = s.pieces ++ p ∷ [];
  rest = rest;
  begins = begins_more body s.pieces left p rest s.begins f;
  one = any_more s.pieces p s.none ∙ (sym is ∙ e);
  ends = λ no. absurd cc;
}

pub has_none : (body left : List ℕ) → HasNone body left → IsEnd left → HasOne body false
has_none body left s end = record {
  pieces = s.pieces;
  rest = left;
  begins = s.begins;
  one = s.none;
  ends = λ no. end;
}
