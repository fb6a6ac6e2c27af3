use Rattle.std.proofs.Common.{◌≡◌, ◌∙◌, ◌/◌, ◌%◌, ap, refl, sym, length, List, ℕ, [], ◌∷◌, ◌++◌, append-nil, append_assoc, Some}
use Rattle.std.specs.Int.{w32}
use Rattle.dds_base.specs.declared.endianness.Endianness.TheVariants.{Little}
use Rattle.dds_base.specs.declared.key.Key.{Key}
use Rattle.dds_base.specs.DatumText.{spelling_of_key}
use Rattle.dds_base.specs.Fields.{number}
use Rattle.rtps_wire.specs.declared.submessage.Submessage.TheVariants.{InfoTs}
use Rattle.rtps_wire.specs.Data.{content_flags, data_head}
use Rattle.rtps_wire.specs.Frames.{frame_text}
use Rattle.rtps_wire.specs.Messages.{header_text}
use Rattle.rtps_wire.specs.Names.{extra_flags, half_range, id_data, least_octets_to_inline_qos, minor_version, vendor_unknown}
use Rattle.rtps_wire.specs.Submessages.{spelling_of_submessage}
use Rattle.rtps_wire.proofs.ArrayLaws.{in_three, info_dst_is}
use Rattle.rtps_wire.proofs.announcement.put_before_value.Goals as goal

-- parts of a list, and what follows them
one_and : (a a' x y : List ℕ) → a ≡ a' → x ≡ y → a ++ x ≡ a' ++ y
one_and a a' x y p e = rw (p, e) refl

in_two : (a b a' b' x y : List ℕ) → a ≡ a' → b ≡ b' → x ≡ y → a ++ (b ++ x) ≡ (a' ++ b') ++ y
in_two a b a' b' x y p q e = rw (p, q, e) (sym (append_assoc a' b' y))

three_and : (a b c whole x y : List ℕ) → (a ++ b) ++ c ≡ whole → x ≡ y → a ++ (b ++ (c ++ x)) ≡ whole ++ y
three_and a b c whole x y p e = in_three a b c whole x p ∙ ap (λ (z : List ℕ). whole ++ z) e

in_pairs : (r w h l h' l' x y : List ℕ) → h ≡ h' → l ≡ l' → x ≡ y
    → r ++ (w ++ (h ++ (l ++ x))) ≡ ((r ++ w) ++ (h' ++ l')) ++ y
in_pairs r w h l h' l' x y p q e = rw (p, q, e) (simp append_assoc)

four_and : (a b c d whole n n' : List ℕ) → ((a ++ b) ++ c) ++ d ≡ whole → n ≡ n'
    → a ++ (b ++ (c ++ (d ++ (n ++ [])))) ≡ whole ++ n'
four_and a b c d whole n n' p e = rw (← p, e) (simp (append_assoc, append-nil))

-- the words in one row are the texts of the fields in one row
before_is : (a1 a2 a3 b1 b2 b3 s f d r w h l k1 k2 k3 k4 n from to key s' f' d' h' l' n' : List ℕ)
    → (a1 ++ a2) ++ a3 ≡ from → (b1 ++ b2) ++ b3 ≡ to → ((k1 ++ k2) ++ k3) ++ k4 ≡ key
    → s ≡ s' → f ≡ f' → d ≡ d' → h ≡ h' → l ≡ l' → n ≡ n'
    → 82 ∷ 84 ∷ 80 ∷ 83 ∷ 2 ∷ 5 ∷ 0 ∷ 0 ∷ (a1 ++ (a2 ++ (a3 ++ (14 ∷ 1 ∷ 12 ∷ 0 ∷ (b1 ++ (b2 ++ (b3
    ++ (9 ∷ 1 ∷ 8 ∷ 0 ∷ (s ++ (f ++ (d ++ (0 ∷ 0 ∷ 16 ∷ 0 ∷ (r ++ (w ++ (h ++ (l
    ++ (0 ∷ 1 ∷ 0 ∷ 0 ∷ (k1 ++ (k2 ++ (k3 ++ (k4 ++ (n ++ []))))))))))))))))))))))
    ≡ (82 ∷ 84 ∷ 80 ∷ 83 ∷ 2 ∷ 5 ∷ 0 ∷ 0 ∷ from) ++ ((14 ∷ 1 ∷ 12 ∷ 0 ∷ to) ++ ((9 ∷ 1 ∷ 8 ∷ 0 ∷ (s' ++ f'))
    ++ (d' ++ ((0 ∷ 0 ∷ 16 ∷ 0 ∷ ((r ++ w) ++ (h' ++ l'))) ++ ((0 ∷ 1 ∷ 0 ∷ 0 ∷ key) ++ n')))))
before_is a1 a2 a3 b1 b2 b3 s f d r w h l k1 k2 k3 k4 n from to key s' f' d' h' l' n' p q t es ef ed eh el en =
    ap (λ (z : List ℕ). 82 ∷ 84 ∷ 80 ∷ 83 ∷ 2 ∷ 5 ∷ 0 ∷ 0 ∷ z)
    (three_and a1 a2 a3 from _ _ p (ap (λ (z : List ℕ). 14 ∷ 1 ∷ 12 ∷ 0 ∷ z)
    (three_and b1 b2 b3 to _ _ q (ap (λ (z : List ℕ). 9 ∷ 1 ∷ 8 ∷ 0 ∷ z)
    (in_two s f s' f' _ _ es ef (one_and d d' _ _ ed (ap (λ (z : List ℕ). 0 ∷ 0 ∷ 16 ∷ 0 ∷ z)
    (in_pairs r w h l h' l' _ _ eh el (ap (λ (z : List ℕ). 0 ∷ 1 ∷ 0 ∷ 0 ∷ z) (four_and k1 k2 k3 k4 key n n' t en))))))))))

pub returns-clause-ok : goal.returns-clause-ok
returns-clause-ok c =
    let a = c.words_of.result in
    let b = c.words_of-2.result in
    let k = c.words_of-3.result in
    let change = c.args.change.now in
    let rest : List ℕ = spelling_of_submessage (InfoTs (Some c.args.moment))
    ++ (frame_text id_data (content_flags c.args.change.now.content) c.args.len []
    ++ (data_head Little extra_flags least_octets_to_inline_qos c.args.change.now.reader_id c.args.change.now.writer_id
    c.args.change.now.writer_sn
    ++ (spelling_of_key c.args.datum.now.key ++ number Little w32 (length c.args.datum.now.value)))) in
    let row = before_is a.0 a.1 a.2 b.0 b.1 b.2 c.halves_of-2.result.0 c.halves_of-2.result.1 c.data_header.result
    change.reader_id.0 change.writer_id.0 c.halves_of.result.0 c.halves_of.result.1 k.0 k.1 k.2 k.3
    c.to_le_bytes.result c.args.prefix.now.0 c.args.to.now.0 c.args.datum.now.key.0
    (number Little w32 (c.args.moment / half_range)) (number Little w32 (c.args.moment % half_range))
    (frame_text id_data (content_flags c.args.change.now.content) c.args.len [])
    (number Little w32 (c.args.change.now.writer_sn / half_range))
    (number Little w32 (c.args.change.now.writer_sn % half_range))
    (number Little w32 (length c.args.datum.now.value))
    c.words_of.ensures.octets c.words_of-2.ensures.octets
    (c.words_of-3.ensures ∙ ap (λ (key : Key). key.0) c.key.ensures.key)
    c.halves_of-2.ensures.high c.halves_of-2.ensures.low c.data_header.ensures
    (c.halves_of.ensures.high ∙ ap (λ (n : ℕ). number Little w32 (n / half_range)) c.number.ensures.number)
    (c.halves_of.ensures.low ∙ ap (λ (n : ℕ). number Little w32 (n % half_range)) c.number.ensures.number)
    (c.to_le_bytes.ensures ∙ ap (λ (value : List ℕ). number Little w32 (length value)) c.value.ensures.value) in
    c.in_ok-extend_from_slice.ensures.items
    ∙ ap (λ (octets : List ℕ). c.args.out.now.items ++ octets)
    (c.as_flattened.ensures.value ∙ (row
    ∙ ap (λ (octets : List ℕ). header_text minor_version vendor_unknown c.args.prefix.now ++ (octets ++ rest))
    (sym (info_dst_is c.args.to.now c.words_of-2.ensures.len))))
