-- What of a message stays as it was.
use Rattle.std.proofs.Common.{◌≡◌, ℕ, zero, suc, ◌+◌, ◌-◌, ◌≤◌, Bool, true, false, cond, eqb, ltb, ◌&&◌, List, [], ◌∷◌, ◌++◌, length, take, drop, map, Option, Some, None, refl, sym, ap, subst, ◌∙◌, append_assoc, arith, ◌⊎◌, inl, inr}
use Rattle.std.specs.Prelude.{MatchBool}
use Rattle.std.specs.Int.{w16}
use Rattle.std.specs.Int.RustNames.{bit_or}
use Rattle.std.proofs.lemmas.Bool.{ltb-false}
use Rattle.std.proofs.lemmas.List.{length-append, length-take, length-drop, take-append-drop, take-append-le, append_cancel_right}
use Rattle.dds_base.specs.declared.endianness.Endianness.{Endianness}
use Rattle.dds_base.specs.declared.guid.EntityId.{EntityId}
use Rattle.dds_base.specs.declared.guid.GuidPrefix.{GuidPrefix}
use Rattle.dds_base.specs.Fields.{number, number_at, number_of, octets_at, ◌>>=◌}
use Rattle.dds_base.proofs.FieldLaws.{bind_some, guard_some, cond_is, some_is}
use Rattle.rtps_wire.specs.Fields.{has_flag, order_of}
use Rattle.rtps_wire.specs.FieldAt.{entity_id_at}
use Rattle.rtps_wire.specs.ParametersAt.{parameter_at}
use Rattle.rtps_wire.specs.Frames.{runs_to_end, IsFrame, IsEnd, frame_text}
use Rattle.rtps_wire.specs.Messages.{header_text}
use Rattle.rtps_wire.proofs.FrameLaws.{frame_length}
use Rattle.rtps_wire.specs.declared.submessage.Submessage.TheVariants as submessages
use Rattle.rtps_wire.specs.Submessages.{Reads, padding}
use Rattle.std.proofs.lemmas.Nat.{and_or_self}
use Rattle.rtps_wire.proofs.TestLaws.{match_false}
use Rattle.rtps_adapter.specs.declared.direction.Direction.{Direction}
use Rattle.rtps_adapter.specs.declared.direction.Way.TheVariants.{Turning}
use Rattle.rtps_adapter.specs.declared.kinds.WriterKind.{WriterKind}
use Rattle.rtps_adapter.specs.declared.kinds.Kind.TheVariants as kinds_of
use Rattle.rtps_adapter.specs.Kinds.{kind_of, rule_of}
use Rattle.rtps_adapter.specs.Opened.{after_first, after_parameters, after_inline, payload_at}
use Rattle.rtps_adapter.specs.Turning.{Piece, piece_of, Payload, foreign_payload, turned_payload, changed, turned, has_payload, aligned}
use Rattle.rtps_adapter.specs.Adapting.{StandsIn}
use Rattle.rtps_adapter.proofs.Rounds.{positive_within}
use Rattle.rtps_adapter.proofs.Standing.{turned_texts}
use Rattle.rtps_adapter.specs.Same.{HasSameHead, Same, StrangersStay, NoneIsRead}

-- ---- how much is left behind a field

octets_left : (n : ℕ) (bytes x rest : List ℕ) → octets_at n bytes ≡ Some (x, rest) → length rest + n ≡ length bytes
unfolding octets_at
octets_left n bytes x rest e =
    let g = guard_some (ltb (length bytes) n) (Some (take n bytes, drop n bytes)) (x, rest) e in
    let same = some_is (take n bytes, drop n bytes) (x, rest) g.1 in
    let is : drop n bytes ≡ rest = ap (λ (z : List ℕ × List ℕ). z.1) same in
    omega (arith, ltb-false (length bytes) n g.0, ap length is, length-drop n bytes)

number_left : (order : Endianness) (bytes : List ℕ) (x : ℕ) (rest : List ℕ) → number_at order w16 bytes ≡ Some (x, rest)
    → length rest + 2 ≡ length bytes
unfolding number_at
number_left order bytes x rest e =
    let g =
    guard_some (ltb (length bytes) 2) (Some (number_of order w16 (take 2 bytes), drop 2 bytes)) (x, rest) e in
    let same = some_is (number_of order w16 (take 2 bytes), drop 2 bytes) (x, rest) g.1 in
    let is : drop 2 bytes ≡ rest = ap (λ (z : ℕ × List ℕ). z.1) same in
    omega (arith, ltb-false (length bytes) 2 g.0, ap length is, length-drop 2 bytes)

parameter_left : (order : Endianness) (bytes : List ℕ) (id : ℕ) (value rest : List ℕ)
    → parameter_at order bytes ≡ Some (id, value, rest) → length rest ≤ length bytes
unfolding parameter_at
parameter_left order bytes id value rest e =
    let a =
    bind_some (number_at order w16 bytes) (λ id. number_at order w16 id.1 >>= λ len. octets_at
    (cond (eqb id.0 1) 0 len.0) len.1 >>= λ value. Some (id.0, value.0, value.1)) (id, value, rest) e in
    let b =
    bind_some (number_at order w16 a.0.1) (λ len. octets_at
    (cond (eqb a.0.0 1) 0 len.0) len.1 >>= λ value. Some (a.0.0, value.0, value.1)) (id, value, rest) a.2 in
    let c =
    bind_some (octets_at (cond (eqb a.0.0 1) 0 b.0.0) b.0.1) (λ value. Some (a.0.0, value.0, value.1)) (id, value, rest)
    b.2 in
    let made : ℕ × List ℕ × List ℕ = (a.0.0, c.0.0, c.0.1) in
    let is : c.0.1 ≡ rest = ap (λ (z : ℕ × List ℕ × List ℕ). z.2) (some_is made (id, value, rest) c.2) in
    omega (
      arith,
      number_left order bytes a.0.0 a.0.1 a.1,
      number_left order a.0.1 b.0.0 b.0.1 b.1,
      octets_left (cond (eqb a.0.0 1) 0 b.0.0) b.0.1 c.0.0 c.0.1 c.1,
      ap length is,
    )

first_left : (count : ℕ) (order : Endianness) (bytes rest : List ℕ) → after_first count order bytes ≡ Some rest
    → length rest ≤ length bytes
unfolding after_first
first_left zero order bytes rest e = absurd cc
first_left (suc count) order bytes rest e =
    let a =
    bind_some (parameter_at order bytes) (λ p. cond (eqb p.0 1) (Some p.2) (after_first count order p.2)) rest e in
    let le = parameter_left order bytes a.0.0 a.0.1 a.0.2 a.1 in
    cond_is {P = length rest ≤ length bytes} (eqb a.0.0 1) (Some a.0.2) (after_first count order a.0.2) (Some rest) a.2
    (λ is e. omega (arith, le, ap length (some_is a.0.2 rest e)))
    (λ no e. omega (arith, le, first_left count order a.0.2 rest e))

inline_left : (flags : ℕ) (bytes rest : List ℕ) → after_inline flags bytes ≡ Some rest → length rest ≤ length bytes
unfolding after_inline after_parameters
inline_left flags bytes rest e =
    cond_is {P = length rest ≤ length bytes} (has_flag flags 2) (after_parameters (order_of flags) bytes) (Some bytes)
    (Some rest) e
    (λ is e. first_left (suc (length bytes)) (order_of flags) bytes rest e)
    (λ no e. omega (arith, ap length (some_is bytes rest e)))

-- what stands before the payload of a DATA is its head at least
payload_left : (flags : ℕ) (body : List ℕ) (w : EntityId) (q : List ℕ) → payload_at flags body ≡ Some (w, q)
    → length q + 20 ≤ length body
unfolding payload_at
payload_left flags body w q e =
    let order = order_of flags in
    let g =
    guard_some (has_flag flags 16) (number_at (order_of flags) w16 body >>= λ extra. number_at (order_of flags) w16 extra.1
    >>= λ way. entity_id_at way.1 >>= λ reader. entity_id_at reader.1 >>= λ writer. cond (ltb way.0 16) None
    (octets_at way.0 way.1) >>= λ head. after_inline flags head.1 >>= λ payload. Some (writer.0, payload)) (w, q) e in
    let a =
    bind_some (number_at (order_of flags) w16 body) (λ extra. number_at (order_of flags) w16 extra.1
    >>= λ way. entity_id_at way.1 >>= λ reader. entity_id_at reader.1 >>= λ writer. cond (ltb way.0 16) None
    (octets_at way.0 way.1) >>= λ head. after_inline flags head.1 >>= λ payload. Some (writer.0, payload)) (w, q) g.1 in
    let b =
    bind_some (number_at (order_of flags) w16 a.0.1) (λ way. entity_id_at way.1 >>= λ reader. entity_id_at reader.1
    >>= λ writer. cond (ltb way.0 16) None (octets_at way.0 way.1) >>= λ head. after_inline flags head.1
    >>= λ payload. Some (writer.0, payload)) (w, q) a.2 in
    let c =
    bind_some (entity_id_at b.0.1) (λ reader. entity_id_at reader.1
    >>= λ writer. cond (ltb b.0.0 16) None (octets_at b.0.0 b.0.1) >>= λ head. after_inline flags head.1
    >>= λ payload. Some (writer.0, payload)) (w, q) b.2 in
    let d =
    bind_some (entity_id_at c.0.1) (λ writer. cond (ltb b.0.0 16) None (octets_at b.0.0 b.0.1)
    >>= λ head. after_inline flags head.1 >>= λ payload. Some (writer.0, payload)) (w, q) c.2 in
    let h =
    bind_some (cond (ltb b.0.0 16) None (octets_at b.0.0 b.0.1)) (λ head. after_inline flags head.1
    >>= λ payload. Some (d.0.0, payload)) (w, q) d.2 in
    let k = guard_some (ltb b.0.0 16) (octets_at b.0.0 b.0.1) h.0 h.1 in
    let m = bind_some (after_inline flags h.0.1) (λ payload. Some (d.0.0, payload)) (w, q) h.2 in
    let made : EntityId × List ℕ = (d.0.0, m.0) in
    let is : m.0 ≡ q = ap (λ (z : EntityId × List ℕ). z.1) (some_is made (w, q) m.2) in
    omega (
      arith,
      number_left order body a.0.0 a.0.1 a.1,
      number_left order a.0.1 b.0.0 b.0.1 b.1,
      octets_left b.0.0 b.0.1 h.0.0 h.0.1 k.1,
      ltb-false b.0.0 16 k.0,
      inline_left flags h.0.1 m.0 m.1,
      ap length is,
    )

-- what stands before a payload that has to be turned
record Fronts (body : List ℕ) (x : Payload) : Type 0 where
  behind : List ℕ
  parts : body ≡ x.front ++ behind
  long : 20 ≤ length x.front

foreign_front : (kinds : List WriterKind) (source : GuidPrefix) (id flags : ℕ) (body : List ℕ) (x : Payload)
    → foreign_payload kinds source id flags body ≡ Some x → Fronts body x
unfolding foreign_payload
foreign_front kinds source id flags body x e =
    cond_is {P = Fronts body x} (eqb id 21 && has_payload flags) (payload_at flags body
    >>= λ y. rule_of (kind_of kinds source y.0) >>= λ rule. Some (record {
      rule = rule;
      is_key = has_flag flags 8;
      front = take (length body - length y.1) body;
      octets = y.1;
    })) None (Some x) e
    (λ is e.
    let a =
    bind_some (payload_at flags body) (λ y. rule_of (kind_of kinds source y.0) >>= λ rule. Some (record {
      rule = rule;
      is_key = has_flag flags 8;
      front = take (length body - length y.1) body;
      octets = y.1;
    })) x e in
    let b =
    bind_some (rule_of (kind_of kinds source a.0.0)) (λ rule. Some (record {
      rule = rule;
      is_key = has_flag flags 8;
      front = take (length body - length a.0.1) body;
      octets = a.0.1;
    })) x a.2 in
    let made : Payload =
    record {
      rule = b.0;
      is_key = has_flag flags 8;
      front = take (length body - length a.0.1) body;
      octets = a.0.1;
    } in
    let left = payload_left flags body a.0.0 a.0.1 a.1 in
    subst (λ (y : Payload). Fronts body y) (some_is made x b.2) (record {
      behind = drop (length body - length a.0.1) body;
      parts = sym (take-append-drop (length body - length a.0.1) body);
      long = omega (arith, left, length-take (length body - length a.0.1) body);
    }))
    (λ no e. absurd cc)

-- ---- what a submessage turns into

-- it stays, or it is written anew with the same id and head
abbrev Shape : Direction → List WriterKind → GuidPrefix → Piece → Type 0
Shape direction kinds source p =
    (turned direction kinds source p ≡ p) ⊎ ((flags : ℕ) × (body : List ℕ)
    × (turned direction kinds source p ≡ piece_of p.id flags body) × (20 ≤ length body)
    × (take 20 body ≡ take 20 p.body))

same_front : (front a b : List ℕ) → 20 ≤ length front → take 20 (front ++ a) ≡ take 20 (front ++ b)
same_front front a b long =
    rw (take-append-le 20 front a long, take-append-le 20 front b long) refl

shape_of : (direction : Direction) (kinds : List WriterKind) (source : GuidPrefix) (p : Piece) (o : Option Payload)
    → foreign_payload kinds source p.id p.flags p.body ≡ o → Shape direction kinds source p
unfolding changed
shape_of direction kinds source p None e = inl (rw e refl)
shape_of direction kinds source p (Some x) e =
    let f = foreign_front kinds source p.id p.flags p.body x e in
    by_payload (turned_payload direction x) f refl
  where
    by_payload : (t : Option (List ℕ)) → Fronts p.body x → turned_payload direction x ≡ t → Shape direction kinds source p
    by_payload None f is = inr (
      bit_or p.flags 16,
      p.body,
      rw (e, is) refl,
      omega (arith, f.long, ap length f.parts, length-append x.front f.behind),
      refl,
    )
    by_payload (Some new) f is = inr (
      p.flags,
      aligned (x.front ++ new),
      rw (e, is) refl,
      omega (
        arith,
        f.long,
        length-append (x.front ++ new) (padding (length (x.front ++ new))),
        length-append x.front new,
      ),
      ap (take 20) (append_assoc x.front new (padding (length (x.front ++ new))))
          ∙ same_front x.front (new ++ padding (length (x.front ++ new))) f.behind f.long
          ∙ ap (take 20) (sym f.parts),
    )

shape : (direction : Direction) (kinds : List WriterKind) (source : GuidPrefix) (p : Piece)
    → Shape direction kinds source p
shape direction kinds source p =
    shape_of direction kinds source p (foreign_payload kinds source p.id p.flags p.body) refl

-- ---- messages

-- where nothing is left to be read no submessage stands
nothing_stands : (ps : List Piece) (left : List ℕ) → StandsIn [] ps left → (ps ≡ []) × (left ≡ [])
nothing_stands [] left s = (refl, s.1)
nothing_stands (p ∷ ps) left s = absurd (omega (arith, frame_length [] p.id p.flags p.body s.0 s.1))

nothing_turned : (direction : Direction) (kinds : List WriterKind) (source : GuidPrefix) (rest : List ℕ) (ps : List Piece)
    (left : List ℕ) → StandsIn rest ps left → rest ≡ [] → turned_texts (Turning direction) kinds source ps ++ left ≡ []
nothing_turned direction kinds source rest ps left s e =
    let n = nothing_stands ps left (subst (λ (z : List ℕ). StandsIn z ps left) e s) in
    ap (λ (qs : List Piece). turned_texts (Turning direction) kinds source qs ++ left) n.0 ∙ n.1

extent_again : (b : Bool) (rest other body : List ℕ) (len : ℕ) → MatchBool b (rest ≡ []) (length body ≡ len)
    → (rest ≡ [] → other ≡ []) → MatchBool b (other ≡ []) (length body ≡ len)
extent_again true rest other body len e go = go e
extent_again false rest other body len e go = e

-- a submessage that stays, before other octets
frame_again : (bytes rest other : List ℕ) (p : Piece) → IsFrame bytes p.id p.flags p.body rest → bytes ≡ p.text ++ rest
    → (rest ≡ [] → other ≡ []) → IsFrame (p.text ++ other) p.id p.flags p.body other
frame_again bytes rest other p frame text go =
    let same : p.text ≡ frame_text p.id p.flags frame.len p.body =
    append_cancel_right p.text (frame_text p.id p.flags frame.len p.body) rest (sym text ∙ frame.text) in
    record {
      len = frame.len;
      small = frame.small;
      text = ap (λ (z : List ℕ). z ++ other) same;
      extent = extent_again (runs_to_end p.id frame.len) rest other p.body frame.len frame.extent go;
    }

-- a submessage that is written anew, before other octets
frame_anew : (id flags : ℕ) (body other : List ℕ) → 20 ≤ length body
    → length (frame_text id flags (length body) body) ≤ 65507
    → IsFrame (frame_text id flags (length body) body ++ other) id flags body other
frame_anew id flags body other long short = record {
  len = length body;
  small = omega (arith, short, length-append (number (order_of flags) w16 (length body)) body);
  text = refl;
  extent = match_false (runs_to_end id (length body)) (other ≡ []) (length body ≡ length body)
      (positive_within id (length body) (omega (arith, long))) refl;
}

frame_turned : (direction : Direction) (kinds : List WriterKind) (source : GuidPrefix) (bytes rest other : List ℕ)
    (p : Piece) → IsFrame bytes p.id p.flags p.body rest → bytes ≡ p.text ++ rest → (rest ≡ [] → other ≡ [])
    → length ((turned direction kinds source p).text) ≤ 65507
    → (q : Piece) → turned direction kinds source p ≡ q → Shape direction kinds source p
    → IsFrame (q.text ++ other) q.id q.flags q.body other
frame_turned direction kinds source bytes rest other p frame text go short q is (inl same) =
    subst (λ (z : Piece). IsFrame (z.text ++ other) z.id z.flags z.body other) (sym same ∙ is)
    (frame_again bytes rest other p frame text go)
frame_turned direction kinds source bytes rest other p frame text go short q is (inr s) =
    let short_text : length (frame_text p.id s.0 (length s.1) s.1) ≤ 65507 =
    omega (arith, short, ap (λ (z : Piece). length z.text) s.2) in
    subst (λ (z : Piece). IsFrame (z.text ++ other) z.id z.flags z.body other) (sym s.2 ∙ is)
    (frame_anew p.id s.0 s.1 other s.3 short_text)

stands_turned : (direction : Direction) (kinds : List WriterKind) (source : GuidPrefix) (bytes : List ℕ)
    (ps : List Piece) (left : List ℕ) → StandsIn bytes ps left
    → length (turned_texts (Turning direction) kinds source ps ++ left) ≤ 65507
    → StandsIn (turned_texts (Turning direction) kinds source ps ++ left) (map (turned direction kinds source) ps) left
stands_turned direction kinds source bytes [] left s short =
    (subst (λ (z : List ℕ). IsEnd z) (sym s.1) s.0, refl)
stands_turned direction kinds source bytes (p ∷ ps) left s short =
    let q = turned direction kinds source p in
    let texts = turned_texts (Turning direction) kinds source ps in
    let other = turned_texts (Turning direction) kinds source ps ++ left in
    let parts : turned_texts (Turning direction) kinds source (p ∷ ps) ++ left
    ≡ (turned direction kinds source p).text ++ (turned_texts (Turning direction) kinds source ps ++ left) =
    append_assoc ((turned direction kinds source p).text) (turned_texts (Turning direction) kinds source ps) left in
    let len = length-append q.text other in
    let whole = ap length parts in (
      turned_texts (Turning direction) kinds source ps ++ left,
      subst (λ (z : List ℕ). IsFrame z (turned direction kinds source p).id (turned direction kinds source p).flags
          (turned direction kinds source p).body (turned_texts (Turning direction) kinds source ps ++ left)) (sym parts)
          (frame_turned direction kinds source bytes s.0 (turned_texts (Turning direction) kinds source ps ++ left) p s.1 s.2
          (nothing_turned direction kinds source s.0 ps left s.3) (omega (arith, short, len, whole))
          (turned direction kinds source p) refl (shape direction kinds source p)),
      parts,
      stands_turned direction kinds source s.0 ps left s.3 (omega (arith, short, len, whole)),
    )

head_same : (direction : Direction) (kinds : List WriterKind) (source : GuidPrefix) (p : Piece)
    → Shape direction kinds source p → HasSameHead p (turned direction kinds source p)
head_same direction kinds source p (inl same) =
    record { id = ap (λ (z : Piece). z.id) same; head = ap (λ (z : Piece). take 20 z.body) same }
head_same direction kinds source p (inr s) = record {
  id = ap (λ (z : Piece). z.id) s.2;
  head = ap (λ (z : Piece). take 20 z.body) s.2 ∙ s.4;
}

pub same_places : Same
same_places direction kinds bytes out t short =
    let m = t.message in
    let h = m.begins in
    let header : m.header ≡ header_text m.begins.minor m.begins.vendor t.source =
    append_cancel_right m.header (header_text h.minor h.vendor t.source) m.body (sym m.parts ∙ h.header) in
    let texts = turned_texts (Turning direction) kinds t.source t.pieces ++ t.left in
    let few : length (turned_texts (Turning direction) kinds t.source t.pieces ++ t.left) ≤ 65507 =
    omega (arith, short, ap length t.text, length-append m.header texts) in
    record {
      source = t.source;
      pieces = t.pieces;
      left = t.left;
      was = t.message;
      is =
          record {
            header = m.header;
            body = turned_texts (Turning direction) kinds t.source t.pieces ++ t.left;
            begins =
                record {
                  minor = h.minor;
                  vendor = h.vendor;
                  two = h.two;
                  prefix = h.prefix;
                  header = t.text
                      ∙ ap (λ (z : List ℕ). z ++ (turned_texts (Turning direction) kinds t.source t.pieces ++ t.left)) header;
                  short = short;
                };
            parts = t.text;
            stands = stands_turned direction kinds t.source m.body t.pieces t.left m.stands few;
          };
      heads = λ p. head_same direction kinds t.source p (shape direction kinds t.source p);
    }

-- ---- the datum

not_foreign : (kinds : List WriterKind) (source : GuidPrefix) (id flags : ℕ) (body : List ℕ) (w : EntityId)
    (q : List ℕ) (b : Bool) → (eqb id 21 && has_payload flags) ≡ b → payload_at flags body ≡ Some (w, q)
    → kind_of kinds source w ≡ kinds_of.Datum → foreign_payload kinds source id flags body ≡ None
unfolding foreign_payload
not_foreign kinds source id flags body w q true test opens is = rw (test, opens, is) refl
not_foreign kinds source id flags body w q false test opens is = rw test refl

pub strangers_stay : StrangersStay
unfolding changed
strangers_stay direction kinds source p w q opens is =
    let none =
    not_foreign kinds source p.id p.flags p.body w q (eqb p.id 21 && has_payload p.flags) refl opens is in
    rw none refl

-- ---- what can't be turned

pub none_is_read : NoneIsRead
unfolding changed
none_is_read direction kinds source p x d found none reads =
    let is : turned direction kinds source p ≡ piece_of p.id (bit_or p.flags 16) p.body = rw (found, none) refl in
    let known : Reads p.id (bit_or p.flags 16) p.body (submessages.Data d) =
    subst (λ (q : Piece). Reads q.id q.flags q.body (submessages.Data d)) is reads in
    let no_flag : has_flag (bit_or p.flags 16) 16 ≡ false = known.flags_are in
    let flag : has_flag (bit_or p.flags 16) 16 ≡ true = rw (and_or_self 16 p.flags) refl in
    let both : true ≡ false = sym flag ∙ no_flag in
    absurd cc
