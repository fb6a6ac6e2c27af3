use Rattle.std.proofs.Common.{◌≡◌, ℕ, List, Option, Some, None, IfSome, ◌∙◌, arith}
use Rattle.std.specs.Option.{option_map}
use Rattle.dds_base.specs.declared.datum.Datum.{Datum}
use Rattle.dds_base.specs.declared.key.Key.{Key}
use Rattle.dds_base.specs.DatumText.{ReadsDatum}
use Rattle.dds_base.specs.DatumAt.{datum_at}
use Rattle.dds_base.proofs.FieldLaws.{AreOctets}
use Rattle.dds_base.proofs.DatumLaws.{datum_key_found, datum_key_only}
use Rattle.dds_base.proofs.datum.decode_datum_key.Goals as goal

found : (o : Option Key) (bytes : List ℕ) → AreOctets bytes → o ≡ option_map (λ (d : Datum). d.key) (datum_at bytes)
    → IfSome o (λ k. (value : List ℕ) × ReadsDatum bytes (record { key = k; value = value }))
found None bytes octets h = tt
found (Some k) bytes octets h = datum_key_found bytes k octets h

pub returns-clause-found : goal.returns-clause-found
returns-clause-found c =
    found c.datum_key_of.result c.args.bytes.now (λ i. omega (arith, c.type_inv.bytes i)) c.datum_key_of.ensures

pub returns-clause-only : goal.returns-clause-only
returns-clause-only c = λ d reads. c.datum_key_of.ensures ∙ datum_key_only c.args.bytes.now d reads
