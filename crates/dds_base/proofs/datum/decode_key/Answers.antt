use Rattle.std.proofs.Common.{◌≡◌, ℕ, List, Option, Some, None, IfSome, sym, ◌∙◌, arith}
use Rattle.dds_base.specs.declared.key.Key.{Key}
use Rattle.dds_base.specs.DatumText.{ReadsKey}
use Rattle.dds_base.specs.DatumAt.{key_form_at}
use Rattle.dds_base.proofs.FieldLaws.{AreOctets}
use Rattle.dds_base.proofs.DatumLaws.{key_form_found, key_form_only}
use Rattle.dds_base.proofs.datum.decode_key.Goals as goal

found : (o : Option Key) (bytes : List ℕ) → AreOctets bytes → o ≡ key_form_at bytes → IfSome o (λ k. ReadsKey bytes k)
found None bytes octets h = tt
found (Some k) bytes octets h = key_form_found bytes k octets (sym h)

pub returns-clause-found : goal.returns-clause-found
returns-clause-found c =
    found c.key_of.result c.args.bytes.now (λ i. omega (arith, c.type_inv.bytes i)) c.key_of.ensures

pub returns-clause-only : goal.returns-clause-only
returns-clause-only c = λ k reads. c.key_of.ensures ∙ key_form_only c.args.bytes.now k reads
