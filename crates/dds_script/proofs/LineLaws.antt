-- Laws of lines that are written piece by piece.
use Rattle.std.proofs.Common.{◌<◌, ◌+◌, ◌-◌, ◌^◌, ℕ, List, [], ◌++◌, take, length, get_or, ap, sym, subst, ◌∙◌, false, append_assoc}
use Rattle.std.proofs.lemmas.List.{flat_map_more, take_more}
use Rattle.std.proofs.lemmas.Fmt.{hex_byte}
use Rattle.std.specs.Fmt.{padded_integral, format_spec, digits}
use Rattle.std.specs.List.{flat_map}
use Rattle.dds_script.specs.Lines.{Adds, octet_text, octets_text}
use Rattle.dds_script.specs.declared.printing.TranscriptLine.{TranscriptLine}

-- two pieces are one
pub adds_more : (a b c : TranscriptLine) (x y : List ℕ) → Adds a x b → Adds b y c → Adds a (x ++ y) c
adds_more a b c x y first second whole =
    let last = second whole in
    let before = first last.0 in
    (before.0, last.1 ∙ ap (λ text. text ++ y) before.1 ∙ append_assoc _ x y)

-- one octet more, as a format prints it
pub octet_more : (a b c : TranscriptLine) (octets : List ℕ) (i : ℕ) → i < length octets → get_or octets i 0 < 256
    → Adds a (octets_text (take i octets)) b
    → Adds b (padded_integral (format_spec 32 0 4 2 (2 ^ 64 - 1)) false [] (digits 16 false (get_or octets i 0))) c
    → Adds a (octets_text (take (i + 1) octets)) c
octet_more a b c octets i within small first second =
    subst (λ text. Adds a text c)
    (ap (λ text. octets_text (take i octets) ++ text) (hex_byte false (get_or octets i 0) small)
    ∙ flat_map_more octet_text [] (take i octets) (get_or octets i 0)
    ∙ ap (flat_map octet_text) (sym (take_more octets i 0 within)))
    (adds_more a b c _ _ first second)
