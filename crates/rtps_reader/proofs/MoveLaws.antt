-- How the place of a reader moves: it goes over what can be passed over, a change comes, and so on until it stops.
use Rattle.std.proofs.Common.{◌≡◌, ℕ, ◌<◌, ◌≤◌, ◌+◌, ◌-◌, Bool, true, false, List, [], ◌∷◌, ◌++◌, refl, sym, ap, ◌∙◌}
use Rattle.std.proofs.Common.{subst, inl, arith, append-nil}
use Rattle.std.specs.Prelude.{nat_lt, if◌then◌else◌}
use Rattle.std.proofs.lemmas.Bool.Decides.{nat_tests}
use Rattle.dds_base.specs.declared.change.Change.{Change}
use Rattle.dds_base.specs.declared.happening.Happening.{Happening}
use Rattle.dds_base.specs.declared.happening.Happening.TheVariants.{Came, Passed}
use Rattle.dds_base.specs.declared.happening.PassedRun.{PassedRun}
use Rattle.dds_base.specs.declared.qos.ReaderQos.{ReaderQos}
use Rattle.dds_base.specs.Places.{Match, PlaceWith, coming, Comes, Passes, GoesTo}
use Rattle.dds_base.proofs.PlaceLaws.{EndBelow, end_below_on, end_below_more, come_more, pass_more}
use Rattle.rtps_reader.specs.declared.step.HeartbeatSeen.{HeartbeatSeen}
use Rattle.rtps_reader.specs.declared.step.Step.{Step}
use Rattle.rtps_reader.specs.Answer.{AnswersHeartbeat, answered, heard_after}
use Rattle.rtps_reader.specs.Moving.{HeartbeatMoves, ArePassable, FindsNoRoom, PassesOver, HandsOn, Moves, match_of}
use Rattle.rtps_reader.specs.Jump.{passed_from}
use Rattle.rtps_reader.specs.Tracked.{Tracked, is_passable, with_heartbeat, SameTracked}
use Rattle.rtps_reader.specs.Advance.{known, Stays, Advances}
use Rattle.rtps_reader.specs.declared.writer_proxy.Source.{Source}

-- the same is known
pub same_is : (old new : Tracked) → SameTracked old new → new ≡ old
same_is old new s = λ i. record
    { place = s.place i; slot = λ n. s.slots n i; first = s.first i; count = s.count i; acknacks = s.acknacks i }

-- how far the place came so far, over which runs, each of which ends below a bound
pub record Progress (match : Match) (t : Tracked) (h : List Happening) (runs : List PassedRun) (now : Tracked)
    (stands : List Happening → Type 0) (bound : ℕ) : Type 0 where
  pub happened : List Happening
  pub goes : GoesTo (known t) match (record { place = t.place; happened = h }) runs now.place
      (record { place = now.place; happened = happened })
  pub entered : stands happened
  pub stays : Stays t now
  pub below : EndBelow runs bound

-- nothing moved yet
pub begun : (match : Match) (t : Tracked) (h : List Happening) (runs : List PassedRun)
    (stands : List Happening → Type 0) → runs ≡ [] → stands h → Progress match t h runs t stands t.place
begun match t h runs stands none st =
    subst (λ (rs : List PassedRun). Progress match t h rs t stands t.place) (sym none) (record {
      happened = h;
      goes = ([], refl, refl);
      entered = st;
      stays = record { slots = λ n le. refl; first = refl; count = refl; acknacks = refl };
      below = tt;
    })

-- a run is passed over, if there is one
step_over : (match : Match) (t : Tracked) (h : List Happening) (runs : List PassedRun) (now mid : ℕ)
    (happened : List Happening) (b : Bool) → (b ≡ true → now < mid) → (b ≡ false → mid ≡ now) → EndBelow runs now
    → ((n : ℕ) → now ≤ n → n < mid → is_passable t n ≡ true)
    → GoesTo (known t) match (record { place = t.place; happened = h }) runs now
    (record { place = now; happened = happened })
    → (let longer : List PassedRun = runs ++ (if b then record { first = now; last = mid - 1 } ∷ [] else []) in
    GoesTo (known t) match (record { place = t.place; happened = h }) longer mid
    (record { place = mid; happened = if b then Passed match.publication now (mid - 1) ∷ happened else happened })
    × EndBelow longer (mid + 1))
step_over match t h runs now mid happened true forward back below passable way =
    let lt : now < mid = forward refl in
    let run : PassedRun = record { first = now; last = mid - 1 } in
    let ends : mid - 1 + 1 ≡ mid = omega (arith, lt) in
    let start : PlaceWith = record { place = t.place; happened = h } in
    let passes : Passes (known t) match (record { place = now; happened = happened }) run
    (record { place = mid - 1 + 1; happened = Passed match.publication now (mid - 1) ∷ happened }) = record {
      begins = refl;
      ordered = omega (arith, lt);
      may_pass = λ n above under. inl (passable n above (omega (arith, under, lt)));
      after = refl;
    } in (
      subst (λ (n : ℕ). GoesTo (known t) match start (runs ++ run ∷ []) n
          (record { place = n; happened = Passed match.publication now (mid - 1) ∷ happened })) ends
          (pass_more (known t) match start runs now (record { place = now; happened = happened }) run
          (record { place = mid - 1 + 1; happened = Passed match.publication now (mid - 1) ∷ happened }) refl below
          way passes),
      end_below_more runs run (mid + 1) (end_below_on runs now (mid + 1) (omega (arith, lt)) below) (omega (arith, lt)),
    )
step_over match t h runs now mid happened false forward back below passable way =
    let same : mid ≡ now = back refl in
    let start : PlaceWith = record { place = t.place; happened = h } in
    let none : runs ≡ runs ++ [] = sym (append-nil runs) in (
      subst (λ (rs : List PassedRun). GoesTo (known t) match start rs mid
          (record { place = mid; happened = happened })) none
          (subst (λ (n : ℕ). GoesTo (known t) match start runs n (record { place = n; happened = happened }))
          (sym same) way),
      subst (λ (rs : List PassedRun). EndBelow rs (mid + 1)) none
          (end_below_on runs now (mid + 1) (omega (arith, same)) below),
    )

pub stays_on : (t now new : Tracked) → now.place ≤ new.place → Stays t now → Stays now new → Stays t new
stays_on t now new forward first second = record {
  slots = λ n high. second.slots n high ∙ first.slots n (omega (arith, forward, high));
  first = second.first ∙ first.first;
  count = second.count ∙ first.count;
  acknacks = second.acknacks ∙ first.acknacks;
}

-- what can be passed over now could be at the start
passable_since : (t now : Tracked) (to : ℕ) → Stays t now → ArePassable now now.place to → ArePassable t now.place to
passable_since t now to s passable n low high = rw (← s.first, ← s.slots n low) (passable n low high)

-- the place goes over all that can be passed over
pub over : (match : Match) (t : Tracked) (h : List Happening) (runs longer : List PassedRun) (now mid : Tracked)
    (before after : List Happening → Type 0)
    → Progress match t h runs now before now.place → PassesOver match.publication before after now mid runs longer
    → Progress match t h longer mid after (mid.place + 1)
over match t h runs longer now mid before after p o =
    let forward = o.forward in
    let step = step_over match t h runs now.place mid.place p.happened (nat_lt now.place mid.place)
    (λ e. grind (arith, nat_tests)) (λ e. grind (arith, nat_tests)) p.below
    (passable_since t now mid.place p.stays o.passable) p.goes in
    record {
      happened = passed_from match.publication now.place mid.place p.happened;
      goes = subst (λ (rs : List PassedRun). GoesTo (known t) match
          (record { place = t.place; happened = h }) rs mid.place
          (record { place = mid.place; happened = passed_from match.publication now.place mid.place p.happened }))
          (sym o.runs_is) step.0;
      entered = o.entered p.happened p.entered;
      stays = stays_on t now mid o.forward p.stays o.stays;
      below = subst (λ (rs : List PassedRun). EndBelow rs (mid.place + 1)) (sym o.runs_is) step.1;
    }

-- and then it is where nothing can be passed over
pub not_passable_after : (publication : ℕ) (before after : List Happening → Type 0) (now mid : Tracked)
    (runs longer : List PassedRun) → PassesOver publication before after now mid runs longer
    → is_passable mid mid.place ≡ false
not_passable_after publication before after now mid runs longer o = rw
    (o.stays.first, o.stays.slots mid.place (omega arith)) o.not_passable

-- the change that is held at the place comes
pub handed : (match : Match) (t : Tracked) (h : List Happening) (runs : List PassedRun) (mid new : Tracked)
    (before after : List Happening → Type 0)
    → Progress match t h runs mid before (mid.place + 1) → HandsOn match before after mid new
    → Progress match t h runs new after new.place
handed match t h runs mid new before after p o =
    let at : PlaceWith = record { place = mid.place; happened = p.happened } in
    let entries : List Happening = coming match at o.change ∷ p.happened in
    let comes : Comes (known t) match at o.change (record { place = mid.place + 1; happened = entries }) = record {
      is_change = sym (p.stays.slots mid.place (omega arith)) ∙ o.is_held;
      room = o.room p.happened p.entered;
      after = refl;
    } in
    let next = o.place in
    record {
      happened = entries;
      goes = subst (λ (n : ℕ). GoesTo (known t) match (record { place = t.place; happened = h }) runs n
          (record { place = n; happened = entries })) (sym o.place)
          (come_more (known t) match (record { place = t.place; happened = h }) runs mid.place at o.change
          (record { place = mid.place + 1; happened = entries }) refl p.goes comes);
      entered = o.entered p.happened p.entered;
      stays = stays_on t mid new (omega (arith, next)) p.stays o.stays;
      below = subst (λ (n : ℕ). EndBelow runs n) (sym o.place) p.below;
    }

-- the place stops
pub stopped : (match : Match) (t : Tracked) (h : List Happening) (runs : List PassedRun) (mid new : Tracked)
    (stands : List Happening → Type 0)
    → Progress match t h runs mid stands (mid.place + 1) → is_passable mid mid.place ≡ false
    → FindsNoRoom match stands mid → SameTracked mid new
    → (happened : List Happening) × Advances match t h new.place runs new happened × stands happened
stopped match t h runs mid new stands p not_passable full same =
    let here : mid.slot mid.place ≡ t.slot mid.place = p.stays.slots mid.place (omega arith) in
    let found : (happened : List Happening) × Advances match t h mid.place runs mid happened × stands happened = (
      p.happened,
      record {
        goes = p.goes;
        stops = record {
          not_passable = rw (← p.stays.first, ← here) not_passable;
          no_room = λ change is. full change p.happened (here ∙ is) p.entered;
        };
        place = refl;
        stays = p.stays;
      },
      p.entered,
    ) in
    subst (λ (u : Tracked). (happened : List Happening) × Advances match t h u.place runs u happened × stands happened)
    (sym (same_is mid new same)) found

-- the change that is held at the place comes here and now
pub comes_now : (q : ReaderQos) (source : Source) (change : Change) (number place : ℕ) (h : List Happening)
    → number ≡ place
    → Came (record { writer = source.publication; number = number; change = change; moment = source.moment })
    ≡ coming (match_of q source) (record { place = place; happened = h }) change
comes_now q source change number place h same =
    ap (λ (n : ℕ). Came (record {
      writer = source.publication;
      number = n;
      change = change;
      moment = source.moment;
    })) same

-- a move from what is known as before, at a sink of the same policies
pub carried : (q0 q : ReaderQos) (source : Source) (before0 before after : List Happening → Type 0) (t0 t : Tracked)
    (to : ℕ) (passed : List PassedRun) (new : Tracked)
    → q ≡ q0 → ((h : List Happening) → before0 h → before h) → t ≡ t0
    → Moves (match_of q source) before after t to passed new
    → Moves (match_of q0 source) before0 after t0 to passed new
carried q0 q source before0 before after t0 t to passed new same stands is moves h was =
    let r = moves h (stands h was) in (
      r.0,
      subst (λ (u : Tracked). Advances (match_of q0 source) u h to passed new r.0) is
          (subst (λ (p : ReaderQos). Advances (match_of p source) t h to passed new r.0) same r.1),
      r.2,
    )

-- a later HEARTBEAT, from what is known as before, at a sink of the same policies
pub accepted : (q0 q : ReaderQos) (source : Source) (before0 before after : List Happening → Type 0) (t0 t : Tracked)
    (heartbeat : HeartbeatSeen) (step : Step) (mid new : Tracked)
    → q ≡ q0 → ((h : List Happening) → before0 h → before (heard_after (match_of q0 source) heartbeat.liveliness h))
    → t ≡ with_heartbeat heartbeat.first heartbeat.count t0
    → step.heard ≡ heartbeat.liveliness → Moves (match_of q source) before after t step.to step.passed mid
    → AnswersHeartbeat mid heartbeat.last heartbeat.is_final step.acknack → new ≡ answered step.acknack mid
    → HeartbeatMoves (match_of q0 source) before0 after t0 heartbeat step new
accepted q0 q source before0 before after t0 t heartbeat step mid new same stands is heard moves answers counted later h
    was =
    let r = moves (heard_after (match_of q0 source) heartbeat.liveliness h) (stands h was) in (
      r.0,
      record {
        mid = mid;
        heard = heard;
        advances = subst (λ (u : Tracked). Advances (match_of q0 source) u
            (heard_after (match_of q0 source) heartbeat.liveliness h) step.to step.passed mid r.0) is
            (subst (λ (p : ReaderQos). Advances (match_of p source) t
            (heard_after (match_of q0 source) heartbeat.liveliness h) step.to step.passed mid r.0) same r.1);
        answers = answers;
        counted = counted;
      },
      r.2,
    )
