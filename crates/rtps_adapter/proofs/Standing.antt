-- The submessages of bytes, while they are gone over.
use Rattle.std.proofs.Common.{◌≡◌, ℕ, ◌+◌, ◌-◌, ◌<◌, ◌≤◌, Bool, true, false, ◌||◌, List, [], ◌∷◌, ◌++◌, length, take, drop, map, refl, sym, ap, subst, ◌∙◌, append_assoc, arith, Option, None, Some, inl}
use Rattle.std.specs.Prelude.{is_some}
use Rattle.std.specs.List.{list_any}
use Rattle.std.proofs.lemmas.List.{append-nil, length-append, take_at, drop_at}
use Rattle.std.proofs.lemmas.List.Folds.{list_any-append}
use Rattle.dds_base.specs.declared.guid.GuidPrefix.{GuidPrefix}
use Rattle.dds_base.proofs.FieldLaws.{AreOctets, AreOctets-drop}
use Rattle.rtps_wire.specs.declared.submessage.Submessage.{Submessage}
use Rattle.rtps_wire.specs.Frames.{IsFrame, IsEnd, frame_text}
use Rattle.rtps_wire.specs.Messages.{ReadsAll, HasHeader, header_text}
use Rattle.rtps_wire.specs.Names.{max_message}
use Rattle.rtps_wire.proofs.MessageLaws.{reading}
use Rattle.rtps_adapter.specs.declared.direction.Direction.{Direction}
use Rattle.rtps_adapter.specs.declared.direction.Direction.TheVariants.{Inward}
use Rattle.rtps_adapter.specs.declared.direction.Way.{Way}
use Rattle.rtps_adapter.specs.declared.direction.Way.TheVariants.{Turning, Filling}
use Rattle.rtps_adapter.specs.declared.kinds.WriterKind.{WriterKind}
use Rattle.rtps_adapter.specs.Turning.{Piece, changed, foreign_payload, turned}
use Rattle.rtps_adapter.specs.Filling.{lost}
use Rattle.rtps_adapter.specs.Adapting.{StandsIn, texts_of, becomes, is_foreign, is_touched, IsMessage, Makes, Stays}
use Rattle.rtps_adapter.specs.PayloadText.{Puts}

-- one more submessage of those that are left
pub stands_on : (bytes : List ℕ) (p : Piece) (rest : List ℕ) (ps : List Piece) (left : List ℕ)
    → IsFrame bytes p.id p.flags p.body rest → bytes ≡ p.text ++ rest → StandsIn rest ps left
    → StandsIn bytes (p ∷ ps) left
stands_on bytes p rest ps left frame text on = (rest, frame, text, on)

-- what stands before the rest
pub front_of : (bytes front rest : List ℕ) → bytes ≡ front ++ rest
    → bytes ≡ take (length bytes - length rest) bytes ++ rest
front_of bytes front rest e =
    let many : length bytes - length rest ≡ length front = omega (arith, ap length e, length-append front rest) in
    let first : take (length bytes - length rest) bytes ≡ front =
    rw (many, e) (take_at front rest (length front) refl) in
    rw first e

-- the submessage at the front, in its octets
abbrev pub piece_at : List ℕ → ℕ → ℕ → List ℕ → List ℕ → Piece
piece_at bytes id flags body rest =
    record { id = id; flags = flags; body = body; text = take (length bytes - length rest) bytes }

pub stands_first : (bytes : List ℕ) (id flags : ℕ) (body rest : List ℕ) (ps : List Piece) (left : List ℕ)
    → IsFrame bytes id flags body rest → StandsIn rest ps left
    → StandsIn bytes (piece_at bytes id flags body rest ∷ ps) left
stands_first bytes id flags body rest ps left frame on =
    stands_on bytes (piece_at bytes id flags body rest) rest ps left frame
    (front_of bytes (frame_text id flags frame.len body) rest frame.text) on

-- what was gone over so far, with whether one of it has to be turned
pub record Seeks (way : Way) (kinds : List WriterKind) (source : GuidPrefix) (start left : List ℕ) (has : Bool) : Type 0 where
  pub before : List Piece
  pub on : (ps : List Piece) (end : List ℕ) → StandsIn left ps end → StandsIn start (before ++ ps) end
  pub is : has ≡ list_any (is_touched way kinds source) before

pub seeks_none : (way : Way) (kinds : List WriterKind) (source : GuidPrefix) (start : List ℕ) → Seeks way kinds source start start false
seeks_none way kinds source start = record { before = []; on = λ ps end s. s; is = refl }

any_more : (f : Piece → Bool) (xs : List Piece) (y : Piece) → list_any f (xs ++ y ∷ []) ≡ (list_any f xs || f y)
any_more f xs y = list_any-append f xs (y ∷ []) ∙ ap (λ (z : Bool). list_any f xs || z) (any_one (f y))
  where
    any_one : (b : Bool) → (b || false) ≡ b
    any_one true = refl
    any_one false = refl

pub seeks_more : (way : Way) (kinds : List WriterKind) (source : GuidPrefix) (start left : List ℕ) (has here : Bool) (id flags : ℕ)
    (body rest : List ℕ) → Seeks way kinds source start left has → IsFrame left id flags body rest
    → here ≡ is_touched way kinds source (piece_at left id flags body rest)
    → Seeks way kinds source start rest (has || here)
seeks_more way kinds source start left has here id flags body rest s frame is =
    let p = piece_at left id flags body rest in
    record {
      before = s.before ++ piece_at left id flags body rest ∷ [];
      on = λ ps end r. rw append_assoc (s.on (piece_at left id flags body rest ∷ ps) end
          (stands_first left id flags body rest ps end frame r));
      is = rw (s.is, is) (sym (any_more (is_touched way kinds source) s.before (piece_at left id flags body rest)));
    }

pub sought_all : (way : Way) (kinds : List WriterKind) (source : GuidPrefix) (start left : List ℕ) (has : Bool)
    → Seeks way kinds source start left has → IsEnd left
    → (ps : List Piece) × (end : List ℕ) × StandsIn start ps end × (has ≡ list_any (is_touched way kinds source) ps)
sought_all way kinds source start left has s end =
    let all : StandsIn start s.before left = rw (← append-nil s.before) (s.on [] left (end, refl)) in
    (s.before, left, all, s.is)

-- ---- all octets are submessages, up to where reading ends

pub octets_after : (bytes front rest : List ℕ) → bytes ≡ front ++ rest → AreOctets bytes → AreOctets rest
octets_after bytes front rest e octets =
    subst (λ (z : List ℕ). AreOctets z) (ap (drop (length front)) e ∙ drop_at front rest (length front) refl)
    (AreOctets-drop (length front) bytes octets)

-- the submessages of some octets
pub record Standing (bytes : List ℕ) : Type 0 where
  pub pieces : List Piece
  pub left : List ℕ
  pub stands : StandsIn bytes pieces left

stands_of : (bytes : List ℕ) (ss : List Submessage) (left : List ℕ) → ReadsAll bytes ss left → Standing bytes
stands_of bytes [] left r = record { pieces = []; left = left; stands = r }
stands_of bytes (s ∷ ss) left r =
    let more : Standing r.0 = stands_of r.0 ss left r.2 in
    record {
      pieces = piece_at bytes r.1.0 r.1.1 r.1.2 r.0 ∷ more.pieces;
      left = more.left;
      stands = stands_first bytes r.1.0 r.1.1 r.1.2 r.0 more.pieces more.left r.1.3 more.stands;
    }

pub standing : (bytes : List ℕ) → AreOctets bytes → Standing bytes
standing bytes octets = let r = reading bytes octets in stands_of bytes r.submessages r.left r.is_read

-- ---- what was appended

pub puts_true : (old new octets : List ℕ) (fits : Bool) → fits ≡ true → Puts old new octets fits
    → (new ≡ old ++ octets) × (length new ≤ max_message)
puts_true old new octets true is p = p
puts_true old new octets false is p = absurd cc

pub puts_false : (old new octets : List ℕ) (fits : Bool) → fits ≡ false → Puts old new octets fits
    → max_message < length old + length octets
puts_false old new octets true is p = absurd cc
puts_false old new octets false is p = p

-- the octets of what submessages turn into
abbrev pub turned_texts : Way → List WriterKind → GuidPrefix → List Piece → List ℕ
turned_texts way kinds source ps = texts_of (map (becomes way kinds source) ps)

pub texts_more : (way : Way) (kinds : List WriterKind) (source : GuidPrefix) (ps qs : List Piece)
    → turned_texts way kinds source (ps ++ qs)
    ≡ turned_texts way kinds source ps ++ turned_texts way kinds source qs
texts_more way kinds source [] qs = refl
texts_more way kinds source (p ∷ ps) qs =
    let first = (becomes way kinds source p).text in
    ap (λ (z : List ℕ). (becomes way kinds source p).text ++ z) (texts_more way kinds source ps qs)
    ∙ sym (append_assoc ((becomes way kinds source p).text) (turned_texts way kinds source ps)
    (turned_texts way kinds source qs))

-- what was appended so far is what was gone over so far turns into
pub record Goes (way : Way) (kinds : List WriterKind) (source : GuidPrefix) (start left begun out : List ℕ)
    : Type 0 where
  pub before : List Piece
  pub on : (ps : List Piece) (end : List ℕ) → StandsIn left ps end → StandsIn start (before ++ ps) end
  pub text : out ≡ begun ++ turned_texts way kinds source before
  pub octets : AreOctets left

pub goes_none : (way : Way) (kinds : List WriterKind) (source : GuidPrefix) (start begun : List ℕ)
    → AreOctets start → Goes way kinds source start start begun begun
goes_none way kinds source start begun octets =
    record { before = []; on = λ ps end s. s; text = sym (append-nil begun); octets = octets }

pub goes_more : (way : Way) (kinds : List WriterKind) (source : GuidPrefix) (start left begun old new : List ℕ)
    (id flags : ℕ) (body rest : List ℕ) (fits : Bool) → Goes way kinds source start left begun old
    → IsFrame left id flags body rest
    → Puts old new ((becomes way kinds source (piece_at left id flags body rest)).text) fits → fits ≡ true
    → Goes way kinds source start rest begun new
goes_more way kinds source start left begun old new id flags body rest fits g frame put has =
    let e = (puts_true old new ((becomes way kinds source (piece_at left id flags body rest)).text) fits has put).0 in
    let p : Piece = piece_at left id flags body rest in
    let one : List ℕ = (becomes way kinds source (piece_at left id flags body rest)).text in
    let texts = turned_texts way kinds source in
    record {
      before = g.before ++ piece_at left id flags body rest ∷ [];
      on = λ ps end r. rw append_assoc (g.on (piece_at left id flags body rest ∷ ps) end
          (stands_first left id flags body rest ps end frame r));
      text = e ∙ ap (λ (z : List ℕ). z ++ one) g.text ∙ append_assoc begun (turned_texts way kinds source g.before) one
          ∙ ap (λ (z : List ℕ). begun ++ z)
          (ap (λ (z : List ℕ). turned_texts way kinds source g.before ++ z) (sym (append-nil one))
          ∙ sym (texts_more way kinds source g.before (p ∷ [])));
      octets = octets_after left (frame_text_of left id flags body rest frame) rest frame.text g.octets;
    }
  where
    frame_text_of : (left : List ℕ) (id flags : ℕ) (body rest : List ℕ) → IsFrame left id flags body rest → List ℕ
    frame_text_of left id flags body rest frame = frame_text id flags frame.len body

-- what one body turns into
pub record Turned (way : Way) (kinds : List WriterKind) (source : GuidPrefix) (start begun new : List ℕ)
    (fits : Bool) : Type 0 where
  pub pieces : List Piece
  pub left : List ℕ
  pub stands : StandsIn start pieces left
  pub puts : Puts begun new (turned_texts way kinds source pieces ++ left) fits

-- the next submessage has no place
pub goes_no_further : (way : Way) (kinds : List WriterKind) (source : GuidPrefix)
    (start left begun old new : List ℕ) (id flags : ℕ) (body rest : List ℕ) (fits : Bool)
    → Goes way kinds source start left begun old
    → IsFrame left id flags body rest
    → Puts old new ((becomes way kinds source (piece_at left id flags body rest)).text) fits → fits ≡ false
    → Turned way kinds source start begun new false
goes_no_further way kinds source start left begun old new id flags body rest fits g frame put has =
    let past =
    puts_false old new ((becomes way kinds source (piece_at left id flags body rest)).text) fits has put in
    let p : Piece = piece_at left id flags body rest in
    let more : Standing rest =
    standing rest (octets_after left (frame_text id flags frame.len body) rest frame.text g.octets) in
    let early = turned_texts way kinds source g.before in
    let one = (becomes way kinds source (piece_at left id flags body rest)).text in
    let late = turned_texts way kinds source more.pieces in
    record {
      pieces = g.before ++ (piece_at left id flags body rest ∷ more.pieces);
      left = more.left;
      stands = g.on (piece_at left id flags body rest ∷ more.pieces) more.left
          (stands_first left id flags body rest more.pieces more.left frame more.stands);
      puts = omega (
        arith,
        past,
        ap length g.text,
        length-append begun early,
        ap length (texts_more way kinds source g.before (piece_at left id flags body rest ∷ more.pieces)),
        length-append early (one ++ late),
        length-append one late,
        length-append (turned_texts way kinds source (g.before ++ (piece_at left id flags body rest ∷ more.pieces)))
            more.left,
      );
    }

-- all of it was gone over, and what is left has a place or not
pub goes_to_end : (way : Way) (kinds : List WriterKind) (source : GuidPrefix)
    (start left begun old new : List ℕ) (fits : Bool) → Goes way kinds source start left begun old → IsEnd left
    → Puts old new left fits → Turned way kinds source start begun new fits
goes_to_end way kinds source start left begun old new fits g end p =
    let all : StandsIn start g.before left = rw (← append-nil g.before) (g.on [] left (end, refl)) in
    record { pieces = g.before; left = left; stands = all; puts = moved fits p }
  where
    early : List ℕ
    early = turned_texts way kinds source g.before

    moved : (fits : Bool) → Puts old new left fits → Puts begun new (early ++ left) fits
    moved true p = (p.0 ∙ ap (λ (z : List ℕ). z ++ left) g.text ∙ append_assoc begun early left, p.1)
    moved false p = omega (arith, p, ap length g.text, length-append begun early, length-append early left)

-- ---- messages

-- what stands in the octets of the submessages, and behind them
pub texts_whole : (bytes : List ℕ) (ps : List Piece) (left : List ℕ) → StandsIn bytes ps left
    → bytes ≡ texts_of ps ++ left
texts_whole bytes [] left s = sym s.1
texts_whole bytes (p ∷ ps) left s =
    s.2 ∙ ap (λ (z : List ℕ). p.text ++ z) (texts_whole s.0 ps left s.3) ∙ sym (append_assoc p.text (texts_of ps) left)

stays_none : {A : Type 0} (o : Option A) → is_some o ≡ false → o ≡ None
stays_none None e = refl
stays_none (Some x) e = absurd cc

turned_same : (direction : Direction) (kinds : List WriterKind) (source : GuidPrefix) (p : Piece)
    → is_foreign kinds source p ≡ false → turned direction kinds source p ≡ p
unfolding changed
turned_same direction kinds source p e =
    let none = stays_none (foreign_payload kinds source p.id p.flags p.body) e in
    rw none refl

neither : (a b : Bool) → (a || b) ≡ false → (a ≡ false) × (b ≡ false)
neither true b e = absurd cc
neither false b e = (refl, e)

becomes_same : (way : Way) (kinds : List WriterKind) (source : GuidPrefix) (p : Piece)
    → is_touched way kinds source p ≡ false → becomes way kinds source p ≡ p
becomes_same (Turning direction) kinds source p e = turned_same direction kinds source p e
becomes_same Filling kinds source p e =
    let both = neither (is_foreign kinds source p) (is_some (lost kinds source p.id p.flags p.body)) e in
    let none = stays_none (lost kinds source p.id p.flags p.body) both.1 in
    rw none (turned_same Inward kinds source p both.0)

pub all_same : (way : Way) (kinds : List WriterKind) (source : GuidPrefix) (ps : List Piece)
    → list_any (is_touched way kinds source) ps ≡ false → map (becomes way kinds source) ps ≡ ps
all_same way kinds source [] e = refl
all_same way kinds source (p ∷ ps) e =
    let both = neither (is_touched way kinds source p) (list_any (is_touched way kinds source) ps) e in
    let first = becomes_same way kinds source p both.0 in
    let rest = all_same way kinds source ps both.1 in
    cc

abbrev pub message_of : (bytes : List ℕ) (source : GuidPrefix) (body : List ℕ) (ps : List Piece) (left : List ℕ)
    → HasHeader bytes source body → StandsIn body ps left → IsMessage bytes source ps left
message_of bytes source body ps left h s = record {
  header = take (length bytes - length body) bytes;
  body = body;
  begins = h;
  parts = front_of bytes (header_text h.minor h.vendor source) body h.header;
  stands = s;
}

-- a message turns into this
pub turns_into : (way : Way) (kinds : List WriterKind) (bytes : List ℕ) (source : GuidPrefix) (body : List ℕ)
    (ps : List Piece) (left : List ℕ) → HasHeader bytes source body → StandsIn body ps left
    → Makes way kinds bytes
    (take (length bytes - length body) bytes ++ (turned_texts way kinds source ps ++ left))
turns_into way kinds bytes source body ps left h s =
    inl (record {
      source = source;
      pieces = ps;
      left = left;
      message = message_of bytes source body ps left h s;
      text = refl;
    })

-- where none has to be turned the message stays
pub stays_as_it_is : (way : Way) (kinds : List WriterKind) (bytes : List ℕ) (source : GuidPrefix)
    (body : List ℕ) (ps : List Piece) (left : List ℕ) → HasHeader bytes source body → StandsIn body ps left
    → list_any (is_touched way kinds source) ps ≡ false → Makes way kinds bytes bytes
stays_as_it_is way kinds bytes source body ps left h s none =
    let parts = front_of bytes (header_text h.minor h.vendor source) body h.header in
    let same = all_same way kinds source ps none in
    let whole : bytes ≡ take (length bytes - length body) bytes ++ (turned_texts way kinds source ps ++ left) =
    parts ∙ ap (λ (z : List ℕ). take (length bytes - length body) bytes ++ z)
    (texts_whole body ps left s ∙ ap (λ (qs : List Piece). texts_of qs ++ left) (sym same)) in
    subst (λ (z : List ℕ). Makes way kinds bytes z) (sym whole)
    (turns_into way kinds bytes source body ps left h s)

-- something has to be turned
pub needs_it : (way : Way) (kinds : List WriterKind) (bytes : List ℕ) (source : GuidPrefix) (body : List ℕ) (ps : List Piece)
    (left : List ℕ) (has : Bool) → HasHeader bytes source body → StandsIn body ps left
    → has ≡ list_any (is_touched way kinds source) ps → has ≡ true → Stays way kinds bytes → ⊥
needs_it way kinds bytes source body ps left has h s is one none =
    let no = none source ps left (message_of bytes source body ps left h s) in
    let both : true ≡ false = sym one ∙ is ∙ no in
    absurd cc

-- what was appended to the header
pub rewritten : (way : Way) (kinds : List WriterKind) (bytes : List ℕ) (source : GuidPrefix) (body : List ℕ)
    (ps : List Piece) (left begun new : List ℕ) (fits : Bool) → HasHeader bytes source body → StandsIn body ps left
    → begun ≡ take (length bytes - length body) bytes
    → Puts begun new (turned_texts way kinds source ps ++ left) fits → fits ≡ true
    → Makes way kinds bytes new × (length new ≤ max_message)
rewritten way kinds bytes source body ps left begun new fits h s is put has =
    let p = puts_true begun new (turned_texts way kinds source ps ++ left) fits has put in
    let whole : new ≡ take (length bytes - length body) bytes ++ (turned_texts way kinds source ps ++ left) =
    p.0 ∙ ap (λ (z : List ℕ). z ++ (turned_texts way kinds source ps ++ left)) is in (
      subst (λ (z : List ℕ). Makes way kinds bytes z) (sym whole)
          (turns_into way kinds bytes source body ps left h s),
      p.1,
    )

-- what had no place behind the header
pub too_long : (way : Way) (kinds : List WriterKind) (bytes : List ℕ) (source : GuidPrefix) (body : List ℕ)
    (ps : List Piece) (left begun new : List ℕ) (fits : Bool) → HasHeader bytes source body → StandsIn body ps left
    → begun ≡ take (length bytes - length body) bytes
    → Puts begun new (turned_texts way kinds source ps ++ left) fits → fits ≡ false
    → (out : List ℕ) × Makes way kinds bytes out × (max_message < length out)
too_long way kinds bytes source body ps left begun new fits h s is put has =
    let texts = turned_texts way kinds source ps ++ left in
    let past = puts_false begun new (turned_texts way kinds source ps ++ left) fits has put in (
      take (length bytes - length body) bytes ++ (turned_texts way kinds source ps ++ left),
      turns_into way kinds bytes source body ps left h s,
      omega (arith, past, ap length is, length-append (take (length bytes - length body) bytes) texts),
    )
