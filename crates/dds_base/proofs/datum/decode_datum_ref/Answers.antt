use Rattle.std.proofs.Common.{◌≡◌, ℕ, List, Option, Some, None, IfSome, sym, ◌∙◌, arith}
use Rattle.dds_base.specs.declared.datum.Datum.{Datum}
use Rattle.dds_base.specs.DatumText.{ReadsDatum}
use Rattle.dds_base.specs.DatumAt.{datum_at}
use Rattle.dds_base.proofs.FieldLaws.{AreOctets}
use Rattle.dds_base.proofs.DatumLaws.{datum_found, datum_only}
use Rattle.dds_base.proofs.datum.decode_datum_ref.Goals as goal

found : (read : Option Datum) (bytes : List ℕ) → AreOctets bytes → read ≡ datum_at bytes
    → IfSome read (λ d. ReadsDatum bytes d)
found None bytes octets h = tt
found (Some d) bytes octets h = datum_found bytes d octets (sym h)

pub returns-clause-found : goal.returns-clause-found
returns-clause-found c =
    found c.datum_ref_of.result c.args.bytes.now (λ i. omega (arith, c.type_inv.bytes i)) c.datum_ref_of.ensures

pub returns-clause-only : goal.returns-clause-only
returns-clause-only c = λ d reads. c.datum_ref_of.ensures ∙ datum_only c.args.bytes.now d reads
