-- What a peer wrote comes back as it was.
use Rattle.std.proofs.Common.{◌≡◌, ℕ, ◌+◌, ◌≤◌, false, List, [], ◌∷◌, ◌++◌, length, map, refl, sym, ap, subst, ◌∙◌, arith, inl, inr}
use Rattle.std.specs.List.{flat_map, AllByRecursion}
use Rattle.std.specs.Int.{w16}
use Rattle.std.proofs.lemmas.List.{append-nil, length-append, append_cancel_right}
use Rattle.dds_base.specs.declared.guid.GuidPrefix.{GuidPrefix}
use Rattle.dds_base.specs.Fields.{number}
use Rattle.dds_base.proofs.FieldLaws.{some_is}
use Rattle.rtps_wire.specs.declared.submessage.Submessage.{Submessage}
use Rattle.rtps_wire.specs.Fields.{order_of}
use Rattle.rtps_wire.specs.Frames.{runs_to_end, frame_text}
use Rattle.rtps_wire.specs.Messages.{header_text, IsWritable, spelling_of}
use Rattle.rtps_wire.specs.Names.{max_message}
use Rattle.rtps_wire.specs.Submessages.{IsSpellable, spelling_of_submessage}
use Rattle.rtps_wire.proofs.FrameLaws.{frame_only, frame_apart}
use Rattle.rtps_wire.proofs.MessageLaws.{header_again}
use Rattle.rtps_wire.proofs.WireFields.{len_16}
use Rattle.rtps_wire.proofs.TestLaws.{match_false}
use Rattle.rtps_adapter.specs.declared.direction.Way.{Way}
use Rattle.rtps_adapter.specs.declared.direction.Way.TheVariants.{Turning, Filling}
use Rattle.rtps_adapter.specs.Filling.{filled}
use Rattle.rtps_wire.specs.declared.message.Message.{Message}
use Rattle.rtps_adapter.specs.declared.direction.Direction.TheVariants.{Inward, Outward}
use Rattle.rtps_adapter.specs.declared.kinds.WriterKind.{WriterKind}
use Rattle.rtps_adapter.specs.Turning.{Piece, piece_of, turned}
use Rattle.rtps_adapter.specs.Adapting.{StandsIn, IsMessage, Becomes, becomes, Makes, Adapts, texts_of}
use Rattle.rtps_adapter.specs.ComesBack.{Fits, IsShort, IsWithin, ComesBack, ComesBackWithGaps}
use Rattle.rtps_adapter.proofs.Rounds.{Round, round, spelled, filled_back}

-- ---- bytes have one reading

stands_one : (bytes : List ℕ) (ps qs : List Piece) (l m : List ℕ) → StandsIn bytes ps l → StandsIn bytes qs m
    → (ps ≡ qs) × (l ≡ m)
stands_one bytes [] [] l m a b = (refl, a.1 ∙ sym b.1)
stands_one bytes [] (q ∷ qs) l m a b = absurd (frame_apart bytes q.id q.flags q.body b.0 b.1 a.0)
stands_one bytes (p ∷ ps) [] l m a b = absurd (frame_apart bytes p.id p.flags p.body a.0 a.1 b.0)
stands_one bytes (p ∷ ps) (q ∷ qs) l m a b =
    let same =
    some_is (p.id, p.flags, p.body, a.0) (q.id, q.flags, q.body, b.0)
    (sym (frame_only bytes p.id p.flags p.body a.0 a.1) ∙ frame_only bytes q.id q.flags q.body b.0 b.1) in
    let id : p.id ≡ q.id = ap (λ (x : ℕ × ℕ × List ℕ × List ℕ). x.0) same in
    let flags : p.flags ≡ q.flags = ap (λ (x : ℕ × ℕ × List ℕ × List ℕ). x.1) same in
    let body : p.body ≡ q.body = ap (λ (x : ℕ × ℕ × List ℕ × List ℕ). x.2) same in
    let rest : a.0 ≡ b.0 = ap (λ (x : ℕ × ℕ × List ℕ × List ℕ). x.3) same in
    let text : p.text ≡ q.text =
    append_cancel_right p.text q.text a.0
    (sym a.2 ∙ b.2 ∙ ap (λ (z : List ℕ). q.text ++ z) (sym rest)) in
    let more = stands_one a.0 ps qs l m a.3 (subst (λ (z : List ℕ). StandsIn z qs m) (sym rest) b.3) in
    let piece : p ≡ q = piece_one p q id flags body text in
    (two p q ps qs piece more.0, more.1)
  where
    piece_one : (p q : Piece) → p.id ≡ q.id → p.flags ≡ q.flags → p.body ≡ q.body → p.text ≡ q.text → p ≡ q
    piece_one p q a b c d =
        ap (λ (x : ℕ). record { id = x; flags = p.flags; body = p.body; text = p.text }) a
        ∙ ap (λ (x : ℕ). record { id = q.id; flags = x; body = p.body; text = p.text }) b
        ∙ ap (λ (x : List ℕ). record { id = q.id; flags = q.flags; body = x; text = p.text }) c
        ∙ ap (λ (x : List ℕ). record { id = q.id; flags = q.flags; body = q.body; text = x }) d

    two : (p q : Piece) (ps qs : List Piece) → p ≡ q → ps ≡ qs → p ∷ ps ≡ q ∷ qs
    two p q ps qs a b = cc

-- what a message becomes
abbrev assembled : Way → List WriterKind → GuidPrefix → List ℕ → List Piece → List ℕ → List ℕ
assembled way kinds source header pieces left =
    header ++ (texts_of (map (becomes way kinds source) pieces) ++ left)

-- a message becomes one
turns_one : (way : Way) (kinds : List WriterKind) (bytes out : List ℕ) (source : GuidPrefix)
    (pieces : List Piece) (left : List ℕ) (m : IsMessage bytes source pieces left) → Becomes way kinds bytes out
    → out ≡ assembled way kinds source m.header pieces left
turns_one way kinds bytes out source pieces left m t =
    let n = t.message in
    let same =
    some_is (t.source, n.body) (source, m.body)
    (sym (header_again bytes t.source n.body n.begins) ∙ header_again bytes source m.body m.begins) in
    let whose : t.source ≡ source = ap (λ (x : GuidPrefix × List ℕ). x.0) same in
    let body : n.body ≡ m.body = ap (λ (x : GuidPrefix × List ℕ). x.1) same in
    let header : n.header ≡ m.header =
    append_cancel_right n.header m.header n.body
    (sym n.parts ∙ m.parts ∙ ap (λ (z : List ℕ). m.header ++ z) (sym body)) in
    let all =
    stands_one m.body t.pieces pieces t.left left (subst (λ (z : List ℕ). StandsIn z t.pieces t.left) body n.stands)
    m.stands in
    t.text ∙ ap (λ (z : GuidPrefix). assembled way kinds z n.header t.pieces t.left) whose
    ∙ ap (λ (z : List ℕ). assembled way kinds source z t.pieces t.left) header
    ∙ ap (λ (z : List Piece). assembled way kinds source m.header z t.left) all.0
    ∙ ap (λ (z : List ℕ). assembled way kinds source m.header pieces z) all.1

-- ---- submessages that were written

texts_spelled : (ss : List Submessage) → texts_of (map spelled ss) ≡ flat_map spelling_of_submessage ss
texts_spelled [] = refl
texts_spelled (s ∷ ss) = ap (λ (z : List ℕ). spelling_of_submessage s ++ z) (texts_spelled ss)

frame_length : (id flags : ℕ) (body : List ℕ) → length (frame_text id flags (length body) body) ≡ 4 + length body
frame_length id flags body =
    omega (
      arith,
      length-append (number (order_of flags) w16 (length body)) body,
      len_16 (order_of flags) (length body),
    )

-- a submessage that was written, and others behind it
stands_written : (id flags : ℕ) (body rest : List ℕ) (ps : List Piece) → runs_to_end id (length body) ≡ false
    → length (frame_text id flags (length body) body) ≤ 65507 → StandsIn rest ps []
    → StandsIn (frame_text id flags (length body) body ++ rest) (piece_of id flags body ∷ ps) []
stands_written id flags body rest ps within short on = (
  rest,
  record {
    len = length body;
    small = omega (arith, short, length-append (number (order_of flags) w16 (length body)) body);
    text = refl;
    extent = match_false (runs_to_end id (length body)) (rest ≡ []) (length body ≡ length body) within refl;
  },
  refl,
  on,
)

-- what submessages turn into on their way out, and that they come back
record Rounds (kinds : List WriterKind) (source : GuidPrefix) (ss : List Submessage) : Type 0 where
  outs : List Piece
  out_is : map (turned Outward kinds source) (map spelled ss) ≡ outs
  back_is : map (turned Inward kinds source) outs ≡ map spelled ss
  filled_is : AllByRecursion (IsWithin kinds source) ss → map (filled kinds source) outs ≡ map spelled ss
  shorter : AllByRecursion (IsShort kinds source) ss → length (texts_of outs) ≤ length (texts_of (map spelled ss))
  stands : length (texts_of outs) ≤ 65507 → StandsIn (texts_of outs) outs []
  stood : length (texts_of (map spelled ss)) ≤ 65507 → StandsIn (texts_of (map spelled ss)) (map spelled ss) []

rounds : (kinds : List WriterKind) (source : GuidPrefix) (ss : List Submessage) → AllByRecursion IsSpellable ss
    → AllByRecursion (Fits kinds source) ss → Rounds kinds source ss
rounds kinds source [] valid fits = record {
  outs = [];
  out_is = refl;
  back_is = refl;
  filled_is = λ within. refl;
  shorter = λ all. omega arith;
  stands = λ short. (inl (omega arith), refl);
  stood = λ short. (inl (omega arith), refl);
}
rounds kinds source (s ∷ ss) valid fits =
    let r : Round kinds source (spelled s) (IsWithin kinds source s) (IsShort kinds source s) =
    round kinds source s valid.0 fits.0 in
    let more : Rounds kinds source ss = rounds kinds source ss valid.1 fits.1 in
    let out : Piece = piece_of (spelled s).id r.flags r.body in
    record {
      outs = piece_of (spelled s).id r.flags r.body ∷ more.outs;
      out_is = two (turned Outward kinds source (spelled s)) out
          (map (turned Outward kinds source) (map spelled ss)) more.outs r.out_is more.out_is;
      back_is = two (turned Inward kinds source out) (spelled s) (map (turned Inward kinds source) more.outs)
          (map spelled ss) r.back_is more.back_is;
      filled_is = λ within. two (filled kinds source out) (spelled s) (map (filled kinds source) more.outs) (map spelled ss)
          (filled_back kinds source (spelled s) (IsWithin kinds source s) (IsShort kinds source s) r within.0)
          (more.filled_is within.1);
      shorter = λ all. omega (
        arith,
        r.shorter all.0,
        more.shorter all.1,
        length-append out.text (texts_of more.outs),
        length-append (spelled s).text (texts_of (map spelled ss)),
        frame_length (spelled s).id r.flags r.body,
        frame_length (spelled s).id (spelled s).flags (spelled s).body,
      );
      stands = λ short.
          let len = length-append out.text (texts_of more.outs) in
          stands_written (spelled s).id r.flags r.body (texts_of more.outs) more.outs r.within (omega (arith, len, short))
          (more.stands (omega (arith, len, short)));
      stood = λ short.
          let len = length-append (spelled s).text (texts_of (map spelled ss)) in
          stands_written (spelled s).id (spelled s).flags (spelled s).body (texts_of (map spelled ss)) (map spelled ss)
          r.was_within (omega (arith, len, short)) (more.stood (omega (arith, len, short)));
    }
  where
    two : (p q : Piece) (ps qs : List Piece) → p ≡ q → ps ≡ qs → p ∷ ps ≡ q ∷ qs
    two p q ps qs a b = cc

-- ---- messages

-- a header, and submessages that were written
abbrev message_of : (prefix : GuidPrefix) (bytes : List ℕ) (ps : List Piece) → length prefix.0 ≡ 12
    → bytes ≡ header_text 5 (0 ∷ 0 ∷ []) prefix ++ texts_of ps → length bytes ≤ 65507
    → StandsIn (texts_of ps) ps [] → IsMessage bytes prefix ps []
message_of prefix bytes ps len parts short stands = record {
  header = header_text 5 (0 ∷ 0 ∷ []) prefix;
  body = texts_of ps;
  begins =
      record { minor = 5; vendor = 0 ∷ 0 ∷ []; two = refl; prefix = len; header = parts; short = short };
  parts = parts;
  stands = stands;
}

texts_le : (prefix : GuidPrefix) (bytes texts : List ℕ) → bytes ≡ header_text 5 (0 ∷ 0 ∷ []) prefix ++ texts
    → length bytes ≤ 65507 → length texts ≤ 65507
texts_le prefix bytes texts parts short =
    omega (arith, short, ap length parts, length-append (header_text 5 (0 ∷ 0 ∷ []) prefix) texts)

-- what a message becomes, where what its submessages become is known
adapts_to : (way : Way) (kinds : List WriterKind) (prefix : GuidPrefix) (bytes out : List ℕ)
    (ps qs : List Piece) (m : IsMessage bytes prefix ps []) → Makes way kinds bytes out
    → map (becomes way kinds prefix) ps ≡ qs → out ≡ m.header ++ texts_of qs
adapts_to way kinds prefix bytes out ps qs m (inl t) same =
    turns_one way kinds bytes out prefix ps [] m t
    ∙ ap (λ (z : List Piece). m.header ++ (texts_of z ++ [])) same
    ∙ ap (λ (z : List ℕ). m.header ++ z) (append-nil (texts_of qs))
adapts_to way kinds prefix bytes out ps qs m (inr none) same = absurd (none.0 prefix m.body m.begins)

-- what went out, and what it becomes on its way back
returned : (kinds : List WriterKind) (m : Message) (out : List ℕ) → IsWritable m
    → (r : Rounds kinds m.prefix m.submessages) → Adapts Outward kinds (spelling_of m) out
    → (AllByRecursion (IsShort kinds m.prefix) m.submessages → length out ≤ length (spelling_of m))
    × ((way : Way) (back : List ℕ) → map (becomes way kinds m.prefix) r.outs ≡ map spelled m.submessages
    → Makes way kinds out back → length out ≤ max_message → back ≡ spelling_of m)
returned kinds m out w r there =
    let header = header_text 5 (0 ∷ 0 ∷ []) m.prefix in
    let parts : spelling_of m ≡ header_text 5 (0 ∷ 0 ∷ []) m.prefix ++ texts_of (map spelled m.submessages) =
    ap (λ (z : List ℕ). header_text 5 (0 ∷ 0 ∷ []) m.prefix ++ z) (sym (texts_spelled m.submessages)) in
    let out_is : out ≡ header_text 5 (0 ∷ 0 ∷ []) m.prefix ++ texts_of r.outs =
    adapts_to (Turning Outward) kinds m.prefix (spelling_of m) out (map spelled m.submessages) r.outs
    (message_of m.prefix (spelling_of m) (map spelled m.submessages) w.prefix parts w.short
    (r.stood (texts_le m.prefix (spelling_of m) (texts_of (map spelled m.submessages)) parts w.short))) there r.out_is in
    let len = length-append (header_text 5 (0 ∷ 0 ∷ []) m.prefix) (texts_of r.outs) in
    let long = length-append (header_text 5 (0 ∷ 0 ∷ []) m.prefix) (texts_of (map spelled m.submessages)) in (
      λ all. omega (arith, len, long, ap length out_is, ap length parts, r.shorter all),
      λ way back same here short.
          adapts_to way kinds m.prefix out back r.outs (map spelled m.submessages)
          (message_of m.prefix out r.outs w.prefix out_is short (r.stands (texts_le m.prefix out (texts_of r.outs) out_is short)))
          here same
          ∙ sym parts,
    )

-- it gets no longer on its way out
pub no_longer : (kinds : List WriterKind) (m : Message) (out : List ℕ) → IsWritable m
    → AllByRecursion (Fits kinds m.prefix) m.submessages → Adapts Outward kinds (spelling_of m) out
    → AllByRecursion (IsShort kinds m.prefix) m.submessages → length out ≤ length (spelling_of m)
no_longer kinds m out w fits there =
    (returned kinds m out w (rounds kinds m.prefix m.submessages w.submessages fits) there).0

pub comes_back : ComesBack
comes_back kinds m out back w fits there here =
    let r : Rounds kinds m.prefix m.submessages = rounds kinds m.prefix m.submessages w.submessages fits in
    let known = returned kinds m out w r there in (known.0, known.1 (Turning Inward) back r.back_is here)

pub comes_back_filled : ComesBackWithGaps
comes_back_filled kinds m out back w fits within there here short =
    let r : Rounds kinds m.prefix m.submessages = rounds kinds m.prefix m.submessages w.submessages fits in
    (returned kinds m out w r there).1 Filling back (r.filled_is within) here short
