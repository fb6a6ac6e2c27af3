-- The submessages whose kinds were turned, while a body is gone over.
use Rattle.std.proofs.Common.{◌≡◌, ℕ, ◌-◌, List, [], ◌∷◌, ◌++◌, length, take, sym, ap, ◌∙◌, append_assoc, inl, refl}
use Rattle.std.specs.List.{flat_map}
use Rattle.std.proofs.lemmas.List.{append-nil, flat_map_more}
use Rattle.dds_base.specs.declared.guid.GuidPrefix.{GuidPrefix}
use Rattle.rtps_wire.specs.Frames.{IsFrame, IsEnd}
use Rattle.rtps_wire.specs.Messages.{HasHeader}
use Rattle.rtps_adapter.specs.Adapting.{StandsIn}
use Rattle.rtps_adapter.specs.Turning.{Piece}
use Rattle.rtps_adapter.proofs.Standing.{message_of, piece_at, stands_first}
use Rattle.dds_builtin.specs.Kinds.{Kinds, WithTheirKinds, ids_at, turned_text, with_kinds_at}
use Rattle.dds_builtin.specs.Turned.{PutsTurned}

-- those so far were appended, and the others are left
pub record Turning (reader writer : Kinds) (start left begun out : List ℕ) : Type 0 where
  pub before : List Piece
  pub on : (ps : List Piece) (end : List ℕ) → StandsIn left ps end → StandsIn start (before ++ ps) end
  pub text : out ≡ begun ++ flat_map (turned_text reader writer) before

pub turning_none : (reader writer : Kinds) (start begun : List ℕ) → Turning reader writer start start begun begun
turning_none reader writer start begun = record { before = []; on = λ ps end s. s; text = sym (append-nil begun) }

pub turning_more : (reader writer : Kinds) (start left begun out next : List ℕ) (id flags : ℕ) (body rest : List ℕ)
    → Turning reader writer start left begun out → IsFrame left id flags body rest
    → next ≡ out ++ with_kinds_at reader writer id (ids_at id) (take (length left - length rest) left)
    → Turning reader writer start rest begun next
turning_more reader writer start left begun out next id flags body rest t frame is =
    let p : Piece = piece_at left id flags body rest in
    record {
      before = t.before ++ piece_at left id flags body rest ∷ [];
      on = λ ps end r. rw append_assoc (t.on (piece_at left id flags body rest ∷ ps) end
          (stands_first left id flags body rest ps end frame r));
      text = is ∙ ap (λ (z : List ℕ). z ++ turned_text reader writer (piece_at left id flags body rest)) t.text
          ∙ flat_map_more (turned_text reader writer) begun t.before (piece_at left id flags body rest);
    }

pub turning_all : (reader writer : Kinds) (start left begun out new : List ℕ) → Turning reader writer start left begun out → IsEnd left → new ≡ out ++ left
    → PutsTurned reader writer start begun new
turning_all reader writer start left begun out new t end is =
    let all : StandsIn start t.before left = rw (← append-nil t.before) (t.on [] left (end, refl)) in
    record {
      pieces = t.before;
      left = left;
      stands = all;
      text = is ∙ ap (λ (z : List ℕ). z ++ left) t.text
          ∙ append_assoc begun (flat_map (turned_text reader writer) t.before) left;
    }

-- the header, and the body that follows it
pub turned_message : (reader writer : Kinds) (bytes : List ℕ) (source : GuidPrefix) (body begun out : List ℕ) → HasHeader bytes source body
    → begun ≡ take (length bytes - length body) bytes → PutsTurned reader writer body begun out → WithTheirKinds reader writer bytes out
turned_message reader writer bytes source body begun out header is p =
    inl (record {
      source = source;
      pieces = p.pieces;
      left = p.left;
      message = message_of bytes source body p.pieces p.left header p.stands;
      text = p.text ∙ ap (λ (z : List ℕ). z ++ (flat_map (turned_text reader writer) p.pieces ++ p.left)) is;
    })
