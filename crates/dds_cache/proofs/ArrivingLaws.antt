-- What a change leaves of its instance, by what is known of that once the change has come.
use Rattle.std.proofs.Common.{◌≡◌, ℕ, ◌+◌, ◌-◌, List, [], ◌∷◌, ◌++◌, length, Bool, true, ◌||◌, sym, ap, ◌∙◌, refl, subst, arith}
use Rattle.dds_base.specs.declared.happening.Arrival.{Arrival}
use Rattle.dds_base.specs.declared.happening.Happening.{Happening}
use Rattle.dds_base.specs.declared.happening.Happening.TheVariants.{Came}
use Rattle.dds_base.specs.declared.qos.ReaderQos.{ReaderQos}
use Rattle.dds_base.specs.Life.{ends_with_write, is_at, keeps}
use Rattle.dds_instances.specs.declared.known.KnownInstance.{KnownInstance}
use Rattle.dds_instances.specs.Known.{IsKnown}
use Rattle.dds_cache.specs.declared.kept.Kept.{Kept}
use Rattle.dds_cache.specs.Arriving.{LeavesWrite, kept_of}
use Rattle.dds_cache.specs.Kept.{Adds, IsFresh, IsKept, is_live, sample_at}
use Rattle.dds_cache.proofs.KeptLaws.{kept-newest, live-at, newest-came}
use Rattle.dds_cache.proofs.StandingLaws.{adds-one}

-- it says what is kept of the newest entry
pub record IsLeft (q : ReaderQos) (a : Arrival) (h : List Happening) (k : Kept) : Type 0 where
  pub sample : k.sample ≡ sample_at a.change.key (length h + 1)
  pub kept : IsKept q (Came a ∷ h) k

pub left-is : (q : ReaderQos) (a : Arrival) (h : List Happening) (known : KnownInstance) (n : ℕ) (w : Bool) (k : Kept)
    → k ≡ kept_of known n a w → n ≡ length h + 1 → IsKnown q (Came a ∷ h) known → known.key ≡ a.change.key
    → w ≡ ends_with_write q a.change.key (Came a ∷ h) → IsFresh h a.change.key → IsLeft q a h k
left-is q a h known n w k is at is_known key valid fresh =
    let left : Kept = kept_of known n a w in
    let sample : left.sample ≡ sample_at a.change.key (length h + 1) = ap (λ (m : ℕ). sample_at a.change.key m) at in
    subst (λ (x : Kept). IsLeft q a h x) (sym is)
    (record {
      sample = sample;
      kept = kept-newest q (Came a) h a.change.key known left refl refl fresh sample refl is_known key
          (newest-came q a h known left is_known key refl valid refl refl refl refl refl refl refl);
    })

-- a write that the history keeps is present
pub adds-write : (q : ReaderQos) (a : Arrival) (h : List Happening) (known : KnownInstance) (n : ℕ) (ks : List Kept)
    → LeavesWrite q known n a h → Adds q (Came a) h ks (ks ++ kept_of known n a true ∷ [])
adds-write q a h known n ks leaves =
    let k : Kept = kept_of known n a true in
    let is : IsLeft q a h k =
    left-is q a h known n true k refl leaves.position_is leaves.is_known leaves.key (sym leaves.written) leaves.fresh in
    let none : known.accepted_writes - known.accepted_writes ≡ 0 = omega arith in
    let live : is_live q known k ≡ true =
    ap (λ (later : ℕ). keeps q.history later || is_at known.last_marker n) none
    ∙ ap (λ (b : Bool). b || is_at known.last_marker n) leaves.keeps_some in
    adds-one q a h ks k (record {
      sample_is = is.sample;
      kept = is.kept;
      present = live-at q (Came a ∷ h) a.change.key (length h + 1) known k true leaves.is_known leaves.key is.sample is.kept
          live;
    })
