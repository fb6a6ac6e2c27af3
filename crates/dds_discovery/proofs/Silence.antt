-- Submessages that were gone over.
use Rattle.std.proofs.Common.{◌≡◌, ◌∙◌, ℕ, Bool, true, false, List, [], ◌∷◌, ◌++◌, refl, sym, subst}
use Rattle.std.specs.Prelude.{◌||◌}
use Rattle.std.specs.List.{list_any}
use Rattle.rtps_wire.specs.Frames.{IsEnd, IsFrame}
use Rattle.dds_discovery.specs.Again.{Begins, Piece, SaysAgain, is_beginning}

abbrev pub begins_piece : Piece → Bool
begins_piece p = is_beginning p.id p.flags p.body

-- what was gone over says nothing
pub record Silent (body left : List ℕ) : Type 0 where
  pub pieces : List Piece
  pub begins : Begins body pieces left
  pub none : list_any begins_piece pieces ≡ false

pub silent_at_first : (body : List ℕ) → Silent body body
silent_at_first body = record { pieces = []; begins = refl; none = refl }

begins_more : (body : List ℕ) (ps : List Piece) (left : List ℕ) (p : Piece) (rest : List ℕ) → Begins body ps left
    → IsFrame left p.id p.flags p.body rest → Begins body (ps ++ p ∷ []) rest
begins_more body [] left p rest b f = (rest, subst (λ (x : List ℕ). IsFrame x p.id p.flags p.body rest) (sym b) f, refl)
begins_more body (q ∷ ps) left p rest b f = (b.0, b.1, begins_more b.0 ps left p rest b.2 f)

any_more : (ps : List Piece) (p : Piece) → list_any begins_piece ps ≡ false
    → list_any begins_piece (ps ++ p ∷ []) ≡ begins_piece p
any_more [] p e = or_false (begins_piece p)
  where
    or_false : (b : Bool) → (b || false) ≡ b
    or_false true = refl
    or_false false = refl
any_more (q ∷ ps) p e = by_test (begins_piece q) (any_more ps p) e
  where
    by_test : (b : Bool)
        → (list_any begins_piece ps ≡ false → list_any begins_piece (ps ++ p ∷ []) ≡ begins_piece p)
        → (b || list_any begins_piece ps) ≡ false
        → (b || list_any begins_piece (ps ++ p ∷ [])) ≡ begins_piece p
    by_test true later e = absurd cc
    by_test false later e = later e

pub silent_more : (body left : List ℕ) (id flags : ℕ) (text rest : List ℕ) (b : Bool) → Silent body left
    → IsFrame left id flags text rest → b ≡ is_beginning id flags text → b ≡ false → Silent body rest
silent_more body left id flags text rest b s f is e =
    let p : Piece = record { id = id; flags = flags; body = text } in record {
      pieces = s.pieces ++ p ∷ [];
      begins = begins_more body s.pieces left p rest s.begins f;
      none = any_more s.pieces p s.none ∙ (sym is ∙ e);
    }

pub says_it : (body left : List ℕ) (id flags : ℕ) (text rest : List ℕ) (b : Bool) → Silent body left
    → IsFrame left id flags text rest → b ≡ is_beginning id flags text → b ≡ true → SaysAgain body true
says_it body left id flags text rest b s f is e =
    let p : Piece = record { id = id; flags = flags; body = text } in record {
      pieces = s.pieces ++ p ∷ [];
      rest = rest;
      begins = begins_more body s.pieces left p rest s.begins f;
      one = any_more s.pieces p s.none ∙ (sym is ∙ e);
      ends = λ no. absurd cc;
    }

pub says_nothing : (body left : List ℕ) → Silent body left → IsEnd left → SaysAgain body false
says_nothing body left s end = record {
  pieces = s.pieces;
  rest = left;
  begins = s.begins;
  one = s.none;
  ends = λ no. end;
}
