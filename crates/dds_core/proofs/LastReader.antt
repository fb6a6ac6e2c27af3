-- A submessage that the peer's last reader alone may be told, by the rules of the protocol.
use Rattle.std.proofs.Common.{◌≡◌, ◌≤◌, ◌<◌, ◌+◌, ℕ, zero, suc, List, Option, Some, None, length, slice_get, get_or, set, length-set, refl, ap, sym, ◌∙◌, subst, arith, ⊎_elim}
use Rattle.std.proofs.lemmas.Option.{same_Some, get_or_from_slice_get, slice_get_within}
use Rattle.std.proofs.lemmas.Bool.{cases_lt}
use Rattle.dds_base.specs.declared.guid.GuidPrefix.{GuidPrefix}
use Rattle.rtps_wire.specs.declared.submessage.Submessage.{Submessage}
use Rattle.dds_protocol.specs.Claims.{Receiver}
use Rattle.dds_core.specs.declared.delivery.FirstNamed.{FirstNamed}
use Rattle.dds_core.specs.declared.effects.Effects.{Effects}
use Rattle.dds_ends.specs.declared.reader_told.Ready.{Ready}
use Rattle.dds_ends.specs.Kept.{ReaderKept}
use Rattle.dds_core.specs.Kept.{PeerKept}
use Rattle.dds_ends.specs.Readiness.{IsAlike, IsPrepared, IsReadyFor}
use Rattle.dds_core.specs.Readiness.{AreReady, IsFirstNamed}
use Rattle.dds_core.specs.Receiving.{TakesAll, TakesAt, StandsAsWell, only_last}
use Rattle.dds_core.proofs.TakenSoFar.{TakesSome}
use Rattle.dds_ends.proofs.Alike.{set-cases}
use Rattle.dds_core.proofs.Ready.{all_alike_self, alike_core, alike_more, named_here, ready_for, takes_all}
use Rattle.dds_core.proofs.Turns.{takes_none, takes_skip, takes_more}

last_count : (index : ℕ) (one : Option Ready) → length (only_last index one) ≡ index + 1
last_count zero one = refl
last_count (suc index) one = let count = last_count index one in omega (arith, count)

pub last_there : (index : ℕ) (one : Option Ready) → slice_get (only_last index one) index ≡ Some one
last_there zero one = refl
last_there (suc index) one = last_there index one

last_before : (index i : ℕ) (one : Option Ready) → i < index → slice_get (only_last index one) i ≡ Some None
last_before zero i one lt = absurd (omega (arith, lt))
last_before (suc index) zero one lt = refl
last_before (suc index) (suc i) one lt = last_before index i one (omega (arith, lt))

-- nobody before the last one is told anything
none_before : (old : PeerKept) (index i : ℕ) (one : Option Ready) (effects : Effects) → i ≤ index
    → index < length old.readers → TakesSome old (only_last index one) i effects old effects
none_before old index zero one effects le within = takes_none old (only_last index one) effects
none_before old index (suc i) one effects le within =
    let before : i < index = omega (arith, le) in
    subst (λ (n : ℕ). TakesSome old (only_last index one) n effects old effects) (omega arith)
    (takes_skip old old (only_last index one) i effects effects
    (none_before old index i one effects (omega (arith, le)) within) (omega (arith, before, within))
    (last_before index i one before))

-- so many were told
ends : (old new : PeerKept) (index : ℕ) (one : Option Ready) (effects after : Effects)
    → TakesSome old (only_last index one) (index + 1) effects new after
    → TakesAll old (only_last index one) effects new after
ends old new index one effects after takes =
    let count = last_count index one in
    takes_all old new (only_last index one) effects after (index + 1) (omega (arith, count)) (omega (arith, count)) takes

-- the last one was told what was ready
pub last_told : (old new : PeerKept) (index : ℕ) (one : Ready) (effects after : Effects)
    → index + 1 ≡ length old.readers → TakesAt old index one effects new after
    → TakesAll old (only_last index (Some one)) effects new after
last_told old new index one effects after last took =
    let within : index < length old.readers = omega (arith, last) in
    ends old new index (Some one) effects after
    (takes_more old old new (only_last index (Some one)) index one effects effects after
    (none_before old index index (Some one) effects (omega arith) within) within (last_there index (Some one)) took)

-- nothing was ready
pub last_idle : (old : PeerKept) (index : ℕ) (effects : Effects) → index + 1 ≡ length old.readers
    → TakesAll old (only_last index None) effects old effects
last_idle old index effects last =
    let within : index < length old.readers = omega (arith, last) in
    ends old old index None effects effects
    (takes_skip old old (only_last index None) index effects effects
    (none_before old index index None effects (omega arith) within) within (last_there index None))

-- what was made ready for the last one, and for nobody before it
pub last_ready : (own : GuidPrefix) (at : Receiver) (s : Submessage) (readers now : List ReaderKept) (first : FirstNamed)
    (k k' : ReaderKept) (one : Option Ready) → IsFirstNamed own at s readers first
    → first.index + 1 ≡ length readers → slice_get readers first.index ≡ Some k → now ≡ set readers first.index k'
    → IsAlike k k' → IsPrepared (Some first.row) at s k' one
    → AreReady own at s now (only_last first.index one)
last_ready own at s readers now first k k' one h last there is alike prepared = record {
  count =
      last_count first.index one
      ∙ (last ∙ (sym (length-set readers first.index k') ∙ sym (ap (λ (rs : List ReaderKept). length rs) is)));
  each = λ i x r at_x at_r.
      ⊎_elim
      (λ e.
      let same : one ≡ r =
      same_Some one r
      (sym (last_there first.index one)
      ∙ (ap (λ (n : ℕ). slice_get (only_last first.index one) n) (sym e.0) ∙ at_r)) in
      subst (λ (o : Option Ready). IsReadyFor own at s x o) same
      (subst (λ (y : ReaderKept). IsReadyFor own at s y one) e.1
      (ready_for own at s k k' (Some first.row) one alike
      (named_here own at s readers first first.index k h there refl) prepared)))
      (λ o.
      let within = slice_get_within readers i x o.1 in
      let before : i < first.index =
      ⊎_elim (λ lt. lt) (λ le. absurd (o.0 (omega (arith, le, within, last)))) (cases_lt i first.index) in
      let none : None ≡ r = same_Some None r (sym (last_before first.index i one before) ∙ at_r) in
      subst (λ (y : Option Ready). IsReadyFor own at s x y) none (h.before i x before o.1))
      (set-cases readers first.index k' i x (subst (λ (rs : List ReaderKept). slice_get rs i ≡ Some x) is at_x));
}

-- more memory for one reader leaves all that the peer stands for
pub last_stands : (old inside : PeerKept) → inside ≡ old → (index : ℕ) (k now k' : ReaderKept)
    → slice_get old.readers index ≡ Some k → now ≡ k → IsAlike now k'
    → StandsAsWell old (record inside { readers = set inside.readers index k' })
last_stands old inside view index k now k' at is alike =
    let there : slice_get inside.readers index ≡ Some k =
    subst (λ (q : PeerKept). slice_get q.readers index ≡ Some k) (sym view) at in
    subst (λ (q : PeerKept). StandsAsWell q (record inside { readers = set inside.readers index k' })) view
    (alike_core inside (set inside.readers index k')
    (alike_more inside.readers inside.readers index k k' (all_alike_self inside.readers)
    (slice_get_within inside.readers index k there) (get_or_from_slice_get inside.readers index k k there)
    (subst (λ (x : ReaderKept). IsAlike x k') is alike)))

-- the reader that is at hand is the one that is there
pub here_now : (old inside : PeerKept) → inside ≡ old → (index : ℕ) (k now d : ReaderKept)
    → slice_get old.readers index ≡ Some k → now ≡ get_or inside.readers index d → now ≡ k
here_now old inside view index k now d at is =
    is ∙ get_or_from_slice_get inside.readers index k d
    (subst (λ (q : PeerKept). slice_get q.readers index ≡ Some k) (sym view) at)
