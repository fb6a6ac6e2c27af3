-- A message has one reading, and all octets have one.
use Rattle.std.proofs.Common.{◌≡◌, ℕ, zero, suc, ◌+◌, ◌-◌, ◌≤◌, ◌<◌, eqb, ◌&&◌, List, [], ◌∷◌, ◌++◌, length, Option, Some, None, refl, sym, ap, subst, ◌∙◌, arith}
use Rattle.std.specs.Option.{unwrap_or}
use Rattle.std.proofs.lemmas.Bool.{eqb-true}
use Rattle.std.proofs.lemmas.List.{length-append}
use Rattle.dds_base.specs.declared.guid.GuidPrefix.{GuidPrefix}
use Rattle.dds_base.proofs.FieldLaws.{AreOctets, cond_is, some_is}
use Rattle.rtps_wire.specs.declared.message.Message.{Message}
use Rattle.rtps_wire.specs.declared.submessage.Submessage.{Submessage}
use Rattle.rtps_wire.specs.declared.submessage.Submessage.TheVariants as submessages
use Rattle.rtps_wire.specs.FieldAt.{prefix_at}
use Rattle.rtps_wire.specs.FrameAt.{frame_at}
use Rattle.rtps_wire.specs.SubmessageAt.{known_at}
use Rattle.rtps_wire.specs.Submessages.{Reads}
use Rattle.rtps_wire.specs.Messages.{ReadsFirst, ReadsAll, header_text, HasHeader, ReadsMessage}
use Rattle.rtps_wire.specs.HeaderAt.{header_at}
use Rattle.rtps_wire.proofs.WireFields.{field_prefix}
use Rattle.rtps_wire.proofs.TestLaws.{both_hold}
use Rattle.rtps_wire.proofs.FrameLaws.{Frames, frame_length, frame_found, frame_none, frame_only, frame_apart}
use Rattle.rtps_wire.proofs.SubmessageLaws.{Reads-found, reads_one}

pub left_le : (bytes : List ℕ) (ss : List Submessage) (left : List ℕ) → ReadsAll bytes ss left
    → length left ≤ length bytes
left_le bytes [] left r = omega (arith, ap length r.1)
left_le bytes (s ∷ ss) left r = omega (arith, left_le r.0 ss left r.2, frame_length bytes r.1.0 r.1.1 r.1.2 r.0 r.1.3)

-- the submessage at the front, and those that follow it
pub reads_on : (bytes : List ℕ) (s : Submessage) (rest : List ℕ) (ss : List Submessage) (left : List ℕ)
    → ReadsFirst bytes s rest → ReadsAll rest ss left → ReadsAll bytes (s ∷ ss) left
reads_on bytes s rest ss left f r = (rest, f, r)

-- the submessages of some bytes, up to where reading ends
pub record Reading (bytes : List ℕ) : Type 0 where
  pub submessages : List Submessage
  pub left : List ℕ
  pub is_read : ReadsAll bytes submessages left

pub all_one : (bytes : List ℕ) (ss ts : List Submessage) (l m : List ℕ) → ReadsAll bytes ss l → ReadsAll bytes ts m
    → (ss ≡ ts) × (l ≡ m)
all_one bytes [] [] l m p q = (refl, p.1 ∙ sym q.1)
all_one bytes [] (t ∷ ts) l m p q = absurd (frame_apart bytes q.1.0 q.1.1 q.1.2 q.0 q.1.3 p.0)
all_one bytes (s ∷ ss) [] l m p q = absurd (frame_apart bytes p.1.0 p.1.1 p.1.2 p.0 p.1.3 q.0)
all_one bytes (s ∷ ss) (t ∷ ts) l m p q =
    let same =
    some_is (p.1.0, p.1.1, p.1.2, p.0) (q.1.0, q.1.1, q.1.2, q.0)
    (sym (frame_only bytes p.1.0 p.1.1 p.1.2 p.0 p.1.3) ∙ frame_only bytes q.1.0 q.1.1 q.1.2 q.0 q.1.3) in
    let turned : Reads p.1.0 p.1.1 p.1.2 t × ReadsAll p.0 ts m =
    subst (λ (f : ℕ × ℕ × List ℕ × List ℕ). Reads f.0 f.1 f.2 t × ReadsAll f.3 ts m) (sym same) (q.1.4, q.2) in
    let head = reads_one p.1.0 p.1.1 p.1.2 s t p.1.4 turned.0 in
    let rest = all_one p.0 ss ts l m p.2 turned.1 in
    (cc, rest.1)

-- what a frame is read as
pub first_found : (bytes : List ℕ) (id flags : ℕ) (body rest : List ℕ) → Frames bytes (id, flags, body, rest)
    → ReadsFirst bytes (unwrap_or (known_at id flags body) (submessages.Other id)) rest
first_found bytes id flags body rest f =
    (id, flags, body, f.frame, Reads-found (known_at id flags body) id flags body f.body refl)

-- any octets are read, up to where reading ends
pub reading : (bytes : List ℕ) → AreOctets bytes → Reading bytes
reading bytes octets = within (length bytes) bytes octets (omega arith)
  where
    read_from : (bytes : List ℕ) (o : Option (ℕ × ℕ × List ℕ × List ℕ)) → AreOctets bytes → frame_at bytes ≡ o
        → ((rest : List ℕ) → AreOctets rest → length rest < length bytes → Reading rest) → Reading bytes
    read_from bytes None octets none more =
        record { submessages = []; left = bytes; is_read = (frame_none bytes octets none, refl) }
    read_from bytes (Some (id, flags, body, rest)) octets found more =
        let f = frame_found bytes (id, flags, body, rest) octets found in
        let fewer = frame_length bytes id flags body rest f.frame in
        let one : Submessage = unwrap_or (known_at id flags body) (submessages.Other id) in
        let r : Reading rest = more rest f.octets (omega arith) in
        record {
          submessages = one ∷ r.submessages;
          left = r.left;
          is_read = reads_on bytes one rest r.submessages r.left (first_found bytes id flags body rest f) r.is_read;
        }

    within : (n : ℕ) (bytes : List ℕ) → AreOctets bytes → length bytes ≤ n → Reading bytes
    within zero bytes octets few = read_from bytes (frame_at bytes) octets refl (λ rest all fewer. absurd (omega arith))
    within (suc n) bytes octets few =
        read_from bytes (frame_at bytes) octets refl (λ rest all fewer. within n rest all (omega arith))

pub header_found : (bytes : List ℕ) (x : GuidPrefix × List ℕ) → AreOctets bytes → length bytes ≤ 65507
    → header_at bytes ≡ Some x → HasHeader bytes x.0 x.1
unfolding header_at
header_found (r ∷ t ∷ p ∷ s ∷ major ∷ minor ∷ v ∷ w ∷ rest) x octets short e =
    cond_is {P = HasHeader (r ∷ t ∷ p ∷ s ∷ major ∷ minor ∷ v ∷ w ∷ rest) x.0 x.1}
    (eqb r 82 && eqb t 84 && eqb p 80 && eqb s 83 && eqb major 2) (prefix_at rest) None (Some x) e
    (λ all q.
    let a = both_hold (eqb r 82 && eqb t 84 && eqb p 80 && eqb s 83) (eqb major 2) all in
    let b = both_hold (eqb r 82 && eqb t 84 && eqb p 80) (eqb s 83) a.0 in
    let c = both_hold (eqb r 82 && eqb t 84) (eqb p 80) b.0 in
    let d = both_hold (eqb r 82) (eqb t 84) c.0 in
    let e0 : r ≡ 82 = eqb-true r 82 d.0 in
    let e1 : t ≡ 84 = eqb-true t 84 d.1 in
    let e2 : p ≡ 80 = eqb-true p 80 c.1 in
    let e3 : s ≡ 83 = eqb-true s 83 b.1 in
    let e4 : major ≡ 2 = eqb-true major 2 a.1 in
    let k = field_prefix.takes rest x.0 x.1 (λ i. octets (suc (suc (suc (suc (suc (suc (suc (suc i))))))))) q in
    let e5 : rest ≡ x.0.0 ++ x.1 = k.0.parts in
    record {
      minor = minor;
      vendor = v ∷ w ∷ [];
      two = refl;
      prefix = k.1;
      header = rw (e0, e1, e2, e3, e4, e5) refl;
      short = short;
    })
    (λ _ q. absurd cc)
header_found _ x octets short e = absurd cc

pub header_only : (minor : ℕ) (vendor : List ℕ) (prefix : GuidPrefix) (rest : List ℕ) → length vendor ≡ 2
    → length prefix.0 ≡ 12
    → header_at (header_text minor vendor prefix ++ rest) ≡ Some (prefix, rest)
unfolding header_at
header_only minor (v ∷ w ∷ []) prefix rest two len = field_prefix.again prefix rest len
header_only minor [] prefix rest two len = absurd (omega arith)
header_only minor (v ∷ []) prefix rest two len = absurd (omega arith)
header_only minor (v ∷ w ∷ x ∷ xs) prefix rest two len = absurd (omega arith)

-- what begins a message is read as its header
pub header_again : (bytes : List ℕ) (source : GuidPrefix) (body : List ℕ) → HasHeader bytes source body
    → header_at bytes ≡ Some (source, body)
header_again bytes source body h =
    ap header_at h.header ∙ header_only h.minor h.vendor source body h.two h.prefix

pub message_one : (bytes : List ℕ) (m n : Message) (o p : ℕ) → ReadsMessage bytes m o → ReadsMessage bytes n p
    → (m ≡ n) × (o ≡ p)
message_one bytes m n o p a b =
    let first = header_again bytes m.prefix a.body a.header in
    let second = header_again bytes n.prefix b.body b.header in
    let same = some_is (m.prefix, a.body) (n.prefix, b.body) (sym first ∙ second) in
    let turned : ReadsAll a.body n.submessages b.left =
    subst (λ (z : List ℕ). ReadsAll z n.submessages b.left)
    (sym (ap (λ (y : GuidPrefix × List ℕ). y.1) same)) b.submessages in
    let all = all_one a.body m.submessages n.submessages a.left b.left a.submessages turned in
    let prefix : m.prefix ≡ n.prefix = ap (λ (y : GuidPrefix × List ℕ). y.0) same in (
      ap (λ (y : GuidPrefix). record { prefix = y; submessages = m.submessages }) prefix
          ∙ ap (λ (y : List Submessage). record { prefix = n.prefix; submessages = y }) all.0,
      omega (arith, a.stop, b.stop, ap length all.1),
    )

pub header_length : (minor : ℕ) (vendor : List ℕ) (prefix : GuidPrefix) → length vendor ≡ 2 → length prefix.0 ≡ 12
    → length (header_text minor vendor prefix) ≡ 20
header_length minor vendor prefix two len =
    omega (arith, length-append (82 ∷ 84 ∷ 80 ∷ 83 ∷ 2 ∷ minor ∷ vendor) prefix.0)

-- a header, and submessages up to where reading ends, are a message
pub message_read : (bytes body left : List ℕ) (prefix : GuidPrefix) (ss : List Submessage)
    → HasHeader bytes prefix body → ReadsAll body ss left
    → ReadsMessage bytes (record { prefix = prefix; submessages = ss }) (length bytes - length left)
message_read bytes body left prefix ss h r =
    let le = left_le body ss left r in
    let len : length bytes ≡ length (header_text h.minor h.vendor prefix) + length body =
    ap length h.header ∙ length-append (header_text h.minor h.vendor prefix) body in
    record {
      body = body;
      left = left;
      header = h;
      submessages = r;
      stop = omega arith;
    }
