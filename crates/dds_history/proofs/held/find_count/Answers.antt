use Rattle.std.proofs.Common.{◌≡◌, Option, Some, slice_get, sym, ap, subst}
use Rattle.std.specs.Option.{unwrap_or}
use Rattle.std.proofs.lemmas.Map.Made.{lookup_key_same}
use Rattle.dds_base.specs.declared.key.Key.{Key}
use Rattle.dds_base.proofs.KeyLaws.{key-Decides}
use Rattle.dds_history.specs.declared.held.KeyCount.{KeyCount}
use Rattle.dds_history.proofs.held.find_count.Goals as goal

pub returns : goal.returns
returns c =
    let counted = c.args.keys.now.entries in
    let found = c.in_ok-place.ensures in
    let own : c.args.key ≡ c.in_ok-place.field-0-1.now =
    lookup_key_same key-Decides c.args.key counted _ (sym found.key) in
    record {
      stands = subst (λ (k : Key). slice_get counted c.in_ok-place.place ≡ Some (k, c.in_ok-place.count.now)) (sym own) found.entry;
      counts = ap (λ (o : Option KeyCount). unwrap_or o (record { turns = 0; kept = 0 })) (sym found.value);
    }
