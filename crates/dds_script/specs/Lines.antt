-- Lines that are printed, as they are written piece by piece.
use Rattle.std.specs.Prelude.{◌≡◌, ℕ, ◌/◌, ◌%◌, List, [], ◌∷◌, ◌++◌, IsTrue, false, codes}
use Rattle.std.specs.String.{string_bytes}
use Rattle.std.specs.List.{flat_map}
use Rattle.std.specs.Fmt.{digit_glyph}
use Rattle.dds_script.specs.declared.printing.TranscriptLine.{TranscriptLine}

-- nothing is written in it, and memory was found for that
pub record IsNewLine (line : TranscriptLine) : Type 0 where
  pub found : IsTrue line.is_whole
  pub none : string_bytes line.text ≡ []

-- where memory was found for all of the new line, it was for the old one, at whose end the piece was written
abbrev pub Adds : TranscriptLine → List ℕ → TranscriptLine → Type 0
Adds old piece new =
    IsTrue new.is_whole → IsTrue old.is_whole × (string_bytes new.text ≡ string_bytes old.text ++ piece)

-- memory was found for all of the line, and the text is what is written in it, and a line feed
pub record IsWhole (line : TranscriptLine) (text : List ℕ) : Type 0 where
  pub found : IsTrue line.is_whole
  pub same : text ≡ string_bytes line.text ++ codes "\n"

-- an octet in two hexadecimal digits
abbrev pub octet_text : ℕ → List ℕ
octet_text octet = digit_glyph false (octet / 16) ∷ digit_glyph false (octet % 16) ∷ []

-- octets in hexadecimal digits, two each
abbrev pub octets_text : List ℕ → List ℕ
octets_text octets = flat_map octet_text octets
