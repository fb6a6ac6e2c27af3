use Rattle.std.proofs.Common.{◌≡◌, ◌∷◌, Bool, ◌&&◌, sym, ap, ◌∙◌, ⊎_elim}
use Rattle.std.proofs.lemmas.Bool.{cases_Bool}
use Rattle.dds_base.specs.declared.happening.Happening.TheVariants.{Came}
use Rattle.dds_base.specs.declared.key.Key.{Key}
use Rattle.dds_base.specs.declared.qos.ReaderQos.{ReaderQos}
use Rattle.dds_base.specs.Happening.{same_key}
use Rattle.dds_base.proofs.KeyLaws.{key-same}
use Rattle.dds_instances.specs.declared.known.KnownInstance.{KnownInstance}
use Rattle.dds_cache.specs.declared.kept.Kept.{Kept}
use Rattle.dds_cache.specs.Room.{is_present_write, is_write_after}
use Rattle.dds_cache.proofs.RoomLaws.{write-after}
use Rattle.dds_cache.proofs.room.stays_after.Goals as goal

pub returns : goal.returns
returns c = λ a h awaits kept.
    let q : ReaderQos = c.args.qos.now in
    let known : KnownInstance = c.args.known.now in
    let k : Kept = c.args.kept.now in
    let w : Bool = c.args.is_write in
    let m : Bool = c.args.is_marked in
    ⊎_elim
    (λ own. let same : same_key k.sample.key a.change.key ≡ same_key k.sample.key known.key =
    ap (λ (i : Key). same_key k.sample.key i) (sym awaits.key) in
    ap (λ (b : Bool). b && c.is_write_after.result) (c.eq-is_own.ensures ∙ own)
    ∙ (c.is_write_after.ensures
    ∙ (sym (ap (λ (b : Bool). is_write_after q known (b && w) (b && m) k) (same ∙ own))
    ∙ (write-after q a h known k w m awaits.written awaits.marked awaits.is_known
    (sym (key-same k.sample.key known.key own)) kept
    ∙ sym (ap (λ (b : Bool). b && is_present_write q (Came a ∷ h) k) own)))))
    (λ other. ap (λ (b : Bool). b && c.is_write_after.result) (c.eq-is_own.ensures ∙ other)
    ∙ sym (ap (λ (b : Bool). b && is_present_write q (Came a ∷ h) k) other))
    (cases_Bool (same_key k.sample.key known.key))
