-- Laws of what is printed piece by piece.
use Rattle.std.proofs.Common.{◌≡◌, ◌<◌, ◌+◌, ℕ, List, [], ◌∷◌, ◌++◌, add-one, append_assoc, append-nil, ap, get_or, inr, length, refl, subst, sym, take, ◌∙◌, Option, Some, None, Result, Ok, Err, IfOk, IfSome}
use Rattle.std.specs.Io.KnownBytes.{Appends}
use Rattle.std.specs.List.{flat_map}
use Rattle.std.specs.Option.{option_to_list}
use Rattle.std.proofs.lemmas.List.{flat_map_more, take_more}
use Rattle.dds_base.specs.declared.code.Code.{Code}
use Rattle.dds_base.specs.declared.guid.Guid.{Guid}
use Rattle.dds_base.specs.declared.mask.Masks.{Masks}
use Rattle.rtps_discovery.specs.declared.packet.Packet.{Packet}
use Rattle.rtps_discovery.specs.declared.row.Told.{Told as Presence}
use Rattle.rtps_matching.specs.Steps.{told_without_own}
use Rattle.dds_discovery.specs.declared.serving.Done.{Done as Doing}
use Rattle.dds_discovery.specs.declared.discovery.Step.TheVariants.{Done}
use Rattle.dds_discovery.specs.Events.{Delivers, kind_of, removed}
use Rattle.dds_discovery.specs.States.{State}
use Rattle.dds_discovery.specs.Steps.{IsStep}
use Rattle.dds_discover.specs.Session.{Delivered, Happens, Prints, Removes, Runs, Settles, done_lines, more, packet_lines, presence_lines, told_lines}

-- nothing is printed
pub appends_none : (known : Option (List ℕ)) → Appends known known []
appends_none None = tt
appends_none (Some xs) = sym (append-nil xs)

-- two pieces are one
pub appends_more : (a b c : Option (List ℕ)) (x y : List ℕ) → Appends a b x → Appends b c y → Appends a c (x ++ y)
appends_more None b c x y first second = tt
appends_more (Some xs) None c x y first second = absurd first
appends_more (Some xs) (Some ys) None x y first second = absurd second
appends_more (Some xs) (Some ys) (Some zs) x y first second =
    second ∙ ap (λ (t : List ℕ). t ++ y) first ∙ append_assoc xs x y

-- the line of one more
pub one_more : {X : Type 0} (f : X → List ℕ) (xs : List X) (i : ℕ) (x : X) (a b c : Option (List ℕ)) → i < length xs
    → x ≡ get_or xs i x → Appends a b (flat_map f (take i xs)) → Appends b c (f x) → Appends a c (flat_map f (take (i + 1) xs))
one_more {X} f xs i x a b c lt at so_far step =
    subst (λ (t : List ℕ). Appends a c t)
    (flat_map_more f [] (take i xs) x
    ∙ ap (flat_map f) (ap (λ (y : X). take i xs ++ y ∷ []) at ∙ sym (take_more xs i x lt)))
    (appends_more a b c (flat_map f (take i xs)) (f x) so_far step)

-- one step more
pub step_more : (a b c : Option (List ℕ)) (n : ℕ) (s t u : State) (done : Doing) → Prints a b (λ text. Runs n s text t)
    → IsStep t u (Done done) → Appends b c (done_lines done) → Prints a c (λ text. Runs (n + 1) s text u)
step_more a b c n s t u done so_far step printed = (
  so_far.0 ++ done_lines done,
  appends_more a b c so_far.0 (done_lines done) so_far.1 printed,
  subst (λ (m : ℕ). Runs m s (so_far.0 ++ done_lines done) u) (sym (add-one n))
      (more n s so_far.0 t done u so_far.2 step),
)

-- ---- what an event told, and then what it leaves to do

pub happens : {E : Type 0} (a b c : Option (List ℕ)) (told printed : List ℕ) (s between d t : State)
    (r : Result (Result (Unit {0}) Code) E) → printed ≡ told → d ≡ between → Appends a b printed
    → IfOk r (λ answered. Prints b c (λ rest. Settles d rest t answered))
    → IfOk r (λ answered. Prints a c (λ text. Happens told s between text t answered))
happens a b c told printed s between d t (Ok answered) is_told is_between first rest = (
  printed ++ rest.0,
  appends_more a b c printed rest.0 first rest.1,
  inr (record {
    rest = rest.0;
    lines = ap (λ (x : List ℕ). x ++ rest.0) is_told;
    settles = subst (λ (x : State). Settles x rest.0 t answered) is_between rest.2;
  }),
)
happens a b c told printed s between d t (Err e) is_told is_between first rest = rest

pub removes : {E : Type 0} (a b c : Option (List ℕ)) (printed : List ℕ) (guid : Guid) (s d t : State)
    (r : Result (Result (Unit {0}) Code) E) → printed ≡ told_lines (told_without_own guid s.endpoints)
    → IfSome (kind_of guid s.endpoints.own) (λ kind. d ≡ removed guid kind s) → Appends a b printed
    → IfOk r (λ answered. Prints b c (λ rest. Settles d rest t answered))
    → IfOk r (λ answered. Prints a c (λ text. Removes guid s text t answered))
removes a b c printed guid s d t (Ok answered) is_told goes first rest = (
  printed ++ rest.0,
  appends_more a b c printed rest.0 first rest.1,
  inr (d, goes, record { rest = rest.0; lines = ap (λ (x : List ℕ). x ++ rest.0) is_told; settles = rest.2 }),
)
removes a b c printed guid s d t (Err e) is_told goes first rest = rest

pub delivered : {E : Type 0} (a b c : Option (List ℕ)) (masks : Masks) (moment : ℕ) (address bytes : List ℕ)
    (told : Option Presence) (packet : Option Packet) (s d t : State) (r : Result (Result (Unit {0}) Code) E)
    → Delivers masks s moment address bytes d told packet
    → Appends a b (presence_lines (option_to_list told) ++ packet_lines (option_to_list packet))
    → IfOk r (λ answered. Prints b c (λ rest. Settles d rest t answered))
    → IfOk r (λ answered. Prints a c (λ text. Delivered masks moment address bytes s text t answered))
delivered a b c masks moment address bytes told packet s d t (Ok answered) delivers first rest =
    let lines : List ℕ = presence_lines (option_to_list told) ++ packet_lines (option_to_list packet) in (
      lines ++ rest.0,
      appends_more a b c lines rest.0 first rest.1,
      inr (record {
        told = told;
        packet = packet;
        between = d;
        delivers = delivers;
        done = record { rest = rest.0; lines = refl; settles = rest.2 };
      }),
    )
delivered a b c masks moment address bytes told packet s d t (Err e) delivers first rest = rest
