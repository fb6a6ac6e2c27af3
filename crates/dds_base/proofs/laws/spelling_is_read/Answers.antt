use Rattle.std.proofs.Common.{[], ◌∷◌, refl, sym, ◌∙◌}
use Rattle.std.proofs.lemmas.List.{append-nil}
use Rattle.dds_base.specs.declared.endianness.Endianness.TheVariants.{Little}
use Rattle.dds_base.specs.DatumText.{spelling_of_datum, spelling_of_key}
use Rattle.dds_base.proofs.FieldLaws.{some_is}
use Rattle.dds_base.proofs.DatumLaws.{datum_only, key_form_only}
use Rattle.dds_base.proofs.laws.spelling_is_read.Goals as goal

pub returns-clause-datum : goal.returns-clause-datum
returns-clause-datum c =
    λ d valid. record {
      order = Little;
      options = 0 ∷ 0 ∷ [];
      rest = [];
      two = refl;
      text = sym (append-nil (spelling_of_datum d));
      valid = valid;
    }

pub returns-clause-key : goal.returns-clause-key
returns-clause-key c =
    λ k valid. record {
      order = Little;
      options = 0 ∷ 0 ∷ [];
      rest = [];
      two = refl;
      text = sym (append-nil (spelling_of_key k));
      valid = valid;
    }

pub returns-clause-one_datum : goal.returns-clause-one_datum
returns-clause-one_datum c = λ bytes d e p q. some_is d e (sym (datum_only bytes d p) ∙ datum_only bytes e q)

pub returns-clause-one_key : goal.returns-clause-one_key
returns-clause-one_key c = λ bytes k l p q. some_is k l (sym (key_form_only bytes k p) ∙ key_form_only bytes l q)
