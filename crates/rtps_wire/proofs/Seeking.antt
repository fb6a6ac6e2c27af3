-- A submessage that is looked for, while a message is gone over.
use Rattle.std.proofs.Common.{◌≡◌, ℕ, zero, suc, ◌-◌, ◌↔◌, IsTrue, Bool, true, false, ◌||◌, List, [], ◌∷◌, ◌++◌, length, Contains, refl, sym, subst, ⊎_elim, append_assoc, arith}
use Rattle.std.proofs.lemmas.List.{append-nil}
use Rattle.std.proofs.lemmas.List.Elements.{Contains-append_left, Contains-append_right, Contains-append_cases}
use Rattle.dds_base.specs.declared.guid.GuidPrefix.{GuidPrefix}
use Rattle.rtps_wire.specs.declared.message.Message.{Message}
use Rattle.rtps_wire.specs.declared.seek.Sought.{Sought}
use Rattle.rtps_wire.specs.declared.submessage.Submessage.{Submessage}
use Rattle.rtps_wire.specs.Frames.{IsEnd}
use Rattle.rtps_wire.specs.Messages.{ReadsFirst, ReadsAll, HasHeader}
use Rattle.rtps_wire.specs.Sought.{IsSought, HasSought, Has}
use Rattle.rtps_wire.proofs.MessageLaws.{reads_on, message_one, message_read}

-- what was gone over so far, and whether it has one

pub record Seeks (start left : List ℕ) (wanted : Sought) (has : Bool) : Type 0 where
  pub before : List Submessage
  pub on : (ss : List Submessage) (end : List ℕ) → ReadsAll left ss end → ReadsAll start (before ++ ss) end
  pub is : IsTrue has ↔ HasSought wanted before

pub seeks_none : (start : List ℕ) (wanted : Sought) → Seeks start start wanted false
seeks_none start wanted =
    record {
      before = [];
      on = λ ss end r. r;
      is = (λ t. absurd cc, λ h. absurd (let none = h.1 in omega (arith, none.1)));
    }

-- one of a list with one more at its end
has_more : (wanted : Sought) (before : List Submessage) (s : Submessage) (has here : Bool)
    → IsTrue has ↔ HasSought wanted before → IsTrue here ↔ IsSought wanted s
    → IsTrue (has || here) ↔ HasSought wanted (before ++ s ∷ [])
has_more wanted before s true here was is =
    let h = was.0 refl in (λ t. (h.0, Contains-append_left before (s ∷ []) h.0 h.1, h.2), λ t. refl)
has_more wanted before s false true was is = (
  λ t. (
    s,
    Contains-append_right before (s ∷ []) s
        (let first : Contains (s ∷ []) s = (0, omega arith, refl) in first),
    is.0 refl,
  ),
  λ t. refl,
)
has_more wanted before s false false was is = (
  λ t. absurd cc,
  λ h. ⊎_elim (λ early. was.1 (h.0, early, h.2))
      (λ last. is.1 (subst (λ (x : Submessage). IsSought wanted x) (sym (only s h.0 last)) h.2))
      (Contains-append_cases before (s ∷ []) h.0 h.1),
)
  where
    only : (s x : Submessage) → Contains (s ∷ []) x → s ≡ x
    only s x (zero, low, same) = same
    only s x (suc k, low, same) = absurd (omega (arith, low))

pub seeks_more : (start left : List ℕ) (wanted : Sought) (has here : Bool) (s : Submessage) (rest : List ℕ)
    → Seeks start left wanted has → ReadsFirst left s rest → IsTrue here ↔ IsSought wanted s
    → Seeks start rest wanted (has || here)
seeks_more start left wanted has here s rest sought first is =
    record {
      before = sought.before ++ s ∷ [];
      on = λ ss end r. rw append_assoc (sought.on (s ∷ ss) end (reads_on left s rest ss end first r));
      is = has_more wanted sought.before s has here sought.is is;
    }

-- all of it was gone over
pub sought_all : (start left : List ℕ) (wanted : Sought) (has : Bool) → Seeks start left wanted has → IsEnd left
    → (ss : List Submessage) × (end : List ℕ) × ReadsAll start ss end × (IsTrue has ↔ HasSought wanted ss)
sought_all start left wanted has s end =
    let all : ReadsAll start s.before left = rw (← append-nil s.before) (s.on [] left (end, refl)) in
    (s.before, left, all, s.is)

pub in_message : (bytes body left : List ℕ) (prefix : GuidPrefix) (ss : List Submessage) (wanted : Sought) (has : Bool)
    → HasHeader bytes prefix body → ReadsAll body ss left → IsTrue has ↔ HasSought wanted ss
    → IsTrue has ↔ Has bytes wanted
in_message bytes body left prefix ss wanted has h all is =
    let read = message_read bytes body left prefix ss h all in (
      λ t. record {
        message = record { prefix = prefix; submessages = ss };
        offset = length bytes - length left;
        is_read = read;
        has = is.0 t;
      },
      λ x. is.1 (subst (λ (m : Message). HasSought wanted m.submessages)
          (message_one bytes x.message (record { prefix = prefix; submessages = ss }) x.offset
          (length bytes - length left) x.is_read read).0 x.has),
    )
