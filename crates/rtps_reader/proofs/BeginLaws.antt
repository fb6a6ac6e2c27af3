-- How the place of a reader that waits begins: from there it goes on as one that stood there, whatever was known of the
-- numbers below.
use Rattle.std.proofs.Common.{◌≡◌, ℕ, ◌<◌, ◌≤◌, Bool, true, false, ◌&&◌, List, [], ◌∷◌, inl, inr, refl, sym, ap, ◌∙◌, subst, arith}
use Rattle.std.specs.Prelude.{ℤ, Option, None, Some, max, nat_le, Result, Ok, Err, IfOk}
use Rattle.std.proofs.lemmas.Bool.{le-leb, lt-leb}
use Rattle.dds_base.specs.declared.change.Change.{Change}
use Rattle.dds_base.specs.declared.happening.Arrival.{Arrival}
use Rattle.dds_base.specs.declared.happening.Happening.{Happening}
use Rattle.dds_base.specs.declared.happening.PassedRun.{PassedRun}
use Rattle.dds_base.specs.declared.qos.ReaderQos.{ReaderQos}
use Rattle.dds_base.specs.Counts.{is_later}
use Rattle.dds_base.specs.Places.{Match, PlaceWith, coming, Comes, AllCome, ComeTo, MayPassOver, GoesTo}
use Rattle.rtps_reader.specs.declared.attachment.Attachment.{Attachment}
use Rattle.rtps_reader.specs.declared.attachment.Attachment.TheVariants.{Waiting, Begun}
use Rattle.rtps_reader.specs.declared.step.HeartbeatSeen.{HeartbeatSeen}
use Rattle.rtps_reader.specs.declared.step.Step.{Step}
use Rattle.rtps_reader.specs.declared.writer_proxy.Source.{Source}
use Rattle.rtps_reader.specs.Tracked.{Tracked, SameTracked, is_passable, with_heartbeat}
use Rattle.rtps_reader.specs.Advance.{known, Stays, Advances}
use Rattle.rtps_reader.specs.Answer.{Accepts, IsIdle, heard_after}
use Rattle.rtps_reader.specs.Jump.{HasJumped, JumpsIf, comes, jumped_to, run_of}
use Rattle.rtps_reader.specs.Moving.{HasMoved, HeartbeatMoves, JumpMoves, match_of}
use Rattle.rtps_reader.specs.Reader.{JumpsOn, TakesHeartbeat}
use Rattle.rtps_reader.specs.Attached.{begun_at, BeginsIf, MeetsChange}
use Rattle.rtps_reader.proofs.JumpLaws.{arriving}
use Rattle.rtps_reader.proofs.MoveLaws.{stays_on}
use Rattle.rtps_reader.proofs.ReaderLaws.{same_back, same_self}

-- ---- a way goes by what is known from the place on

-- from this number on two know the same
record IsSameFrom (from : ℕ) (t u : Tracked) : Type 0 where
  slots : (n : ℕ) → from ≤ n → t.slot n ≡ u.slot n
  first : t.first ≡ u.first

all_come_on : (t u : Tracked) (from : ℕ) → IsSameFrom from t u → (match : Match) (old : PlaceWith)
    (changes : List Change) (new : PlaceWith) → from ≤ old.place → AllCome (known t) match old changes new
    → AllCome (known u) match old changes new × (from ≤ new.place)
all_come_on t u from same match old [] new le is = (is, subst (λ (p : PlaceWith). from ≤ p.place) (sym is) le)
all_come_on t u from same match old (change ∷ changes) new le c =
    let comes : Comes (known t) match old change c.0 = c.1 in
    let next : from ≤ c.0.place = subst (λ (p : PlaceWith). from ≤ p.place) (sym comes.after) (omega (arith, le)) in
    let rest = all_come_on t u from same match c.0 changes new next c.2 in (
      (
        c.0,
        record {
          is_change = sym (same.slots old.place le) ∙ comes.is_change;
          room = comes.room;
          after = comes.after;
        },
        rest.0,
      ),
      rest.1,
    )

come_to_on : (t u : Tracked) (from : ℕ) → IsSameFrom from t u → (match : Match) (old : PlaceWith) (to : ℕ)
    (new : PlaceWith) → from ≤ old.place → ComeTo (known t) match old to new
    → ComeTo (known u) match old to new × (from ≤ to)
come_to_on t u from same match old to new le c =
    let all = all_come_on t u from same match old c.0 new le c.1 in
    ((c.0, all.0, c.2), subst (λ (n : ℕ). from ≤ n) c.2 all.1)

passable_on : (t u : Tracked) (from n : ℕ) (b : Bool) → IsSameFrom from t u → from ≤ n → is_passable t n ≡ b
    → is_passable u n ≡ b
passable_on t u from n b same le is = rw (← same.first, ← same.slots n le) is

may_pass_on : (t u : Tracked) (from n : ℕ) (qos : ReaderQos) → IsSameFrom from t u → from ≤ n
    → MayPassOver (known t) qos n → MayPassOver (known u) qos n
may_pass_on t u from n qos same le (inl passable) = inl (passable_on t u from n true same le passable)
may_pass_on t u from n qos same le (inr (unreliable, before)) =
    let later = before.before in
    inr (
      unreliable,
      record {
        later = before.later;
        change = before.change;
        is_change = sym (same.slots before.later (omega (arith, le, later))) ∙ before.is_change;
        before = later;
      },
    )

goes_on : (t u : Tracked) (from : ℕ) → IsSameFrom from t u → (match : Match) (old : PlaceWith)
    (passed : List PassedRun) (to : ℕ) (new : PlaceWith) → from ≤ old.place → GoesTo (known t) match old passed to new
    → GoesTo (known u) match old passed to new × (from ≤ to)
goes_on t u from same match old [] to new le g = come_to_on t u from same match old to new le g
goes_on t u from same match old (run ∷ runs) to new le (before, after, come, passes, apart, rest) =
    let there = come_to_on t u from same match old run.first before le come in
    let low : from ≤ run.first = there.1 in
    let ordered = passes.ordered in
    let next : from ≤ after.place =
    subst (λ (p : PlaceWith). from ≤ p.place) (sym passes.after) (omega (arith, low, ordered)) in
    let last = goes_on t u from same match after runs to new next rest in (
      (
        before,
        after,
        there.0,
        record {
          begins = passes.begins;
          ordered = ordered;
          may_pass = λ n above under.
              may_pass_on t u from n match.qos same (omega (arith, low, above)) (passes.may_pass n above under);
          after = passes.after;
        },
        apart,
        last.0,
      ),
      last.1,
    )

-- the place goes as far from where the same is known from the place on
advances_on : (match : Match) (t u : Tracked) (h : List Happening) (to : ℕ) (passed : List PassedRun) (new : Tracked)
    (after : List Happening) → t.place ≡ u.place → Stays u t → Advances match t h to passed new after
    → Advances match u h to passed new after
advances_on match t u h to passed new after place stays a =
    let same : IsSameFrom t.place t u = record { slots = λ n le. stays.slots n le; first = stays.first } in
    let way = goes_on t u t.place same match (record { place = t.place; happened = h }) passed to
    (record { place = to; happened = after }) (omega arith) a.goes in
    let far : t.place ≤ to = way.1 in
    let there = a.place in
    record {
      goes = subst (λ (n : ℕ). GoesTo (known u) match (record { place = n; happened = h }) passed to
          (record { place = to; happened = after })) place way.0;
      stops = record {
        not_passable = passable_on t u t.place to false same far a.stops.not_passable;
        no_room = λ change is. a.stops.no_room change (stays.slots to far ∙ is);
      };
      place = a.place;
      stays = stays_on u t new (omega (arith, far, there)) stays a.stays;
    }

-- ---- the place begins

-- what was known where the place began is known from there on
begun_stays : (number : ℕ) (t0 t1 t2 : Tracked) → SameTracked t0 t1 → Stays t1 t2 → t2.place ≡ max t1.place number
    → (t2.place ≡ (begun_at number t0).place) × Stays (begun_at number t0) t2
begun_stays number t0 t1 t2 same stays at = (
  at ∙ ap (λ (n : ℕ). max n number) same.place,
  record {
    slots = λ n le. stays.slots n le ∙ same.slots n;
    first = stays.first ∙ same.first;
    count = stays.count ∙ same.count;
    acknacks = stays.acknacks ∙ same.acknacks;
  },
)

pub begun_heartbeat : (q0 q : ReaderQos) (source : Source) (before0 before after : List Happening → Type 0)
    (t0 t1 t2 new : Tracked) (heartbeat : HeartbeatSeen) (step : Step) (at : ℕ)
    → q ≡ q0 → ((h : List Happening) → before0 h → before h) → SameTracked t0 t1 → Stays t1 t2
    → t2.place ≡ max t1.place heartbeat.first
    → HeartbeatMoves (match_of q source) before after t2 heartbeat step new
    → (h : List Happening) → before0 h → is_later t0.count heartbeat.count ≡ true
    → TakesHeartbeat (match_of q0 source) (begun_at heartbeat.first t0) h heartbeat
    (record step { begun = Some at }) (SameTracked new) after
begun_heartbeat q0 q source before0 before after t0 t1 t2 new heartbeat step at same stands known stays place moves h
    was later =
    let begun = begun_stays heartbeat.first t0 t1 t2 known stays place in
    let count : t2.count ≡ t0.count = stays.count ∙ known.count in
    let r = moves (ap (λ (c : Option ℤ). is_later c heartbeat.count) count ∙ later) h (stands h was) in
    let a = r.1 in
    let told : Tracked = with_heartbeat heartbeat.first heartbeat.count t2 in
    let first : Tracked = with_heartbeat heartbeat.first heartbeat.count (begun_at heartbeat.first t0) in
    let kept : Stays first told = record {
      slots = begun.1.slots;
      first = ap (λ (n : ℕ). max n heartbeat.first) begun.1.first;
      count = refl;
      acknacks = begun.1.acknacks;
    } in
    record {
      new = new;
      after = r.0;
      accepts = subst (λ (p : ReaderQos). Accepts (match_of p source) (begun_at heartbeat.first t0) h heartbeat
          (record step { begun = Some at }) new
          r.0) same (record {
            mid = a.mid;
            heard = a.heard;
            advances = advances_on (match_of q source) told first
                (heard_after (match_of q source) heartbeat.liveliness h) step.to step.passed a.mid r.0 begun.0 kept
                a.advances;
            answers = a.answers;
            counted = a.counted;
          });
      known = same_self new;
      stands = r.2;
    }

-- a change comes where the place began
pub begun_change : (q0 q : ReaderQos) (source : Source) (before0 before after : List Happening → Type 0)
    (t0 t1 t2 new : Tracked) (a : Arrival) (number : ℕ) (change : Change) (step : Step)
    → q ≡ q0 → ((h : List Happening) → before0 h → before h) → SameTracked t0 t1 → Stays t1 t2
    → t2.place ≡ max t1.place number → t0.place ≤ number → a ≡ arriving source number change
    → ((h : List Happening) → before0 h → comes (match_of q0 source) number h number change ≡ true)
    → HasMoved (match_of q source) before after t2 a.number a.change step.to step.passed new
    → step.begun ≡ Some number → (step.heard ≡ false) × (step.acknack ≡ None) → (h : List Happening) → before0 h
    → MeetsChange Waiting (match_of q0 source) t0 h number change step (SameTracked new) after
begun_change q0 q source before0 before after t0 t1 t2 new a number change step same stands known stays at le is taken
    moved began quiet h was =
    let begun = begun_stays number t0 t1 t2 known stays at in
    let match : Match = match_of q0 source in
    let u : Tracked = begun_at number t0 in
    let here : u.place ≡ number = max_is t0.place number le in
    let r = moved h (stands h was) in
    let j : HasJumped match t2 h number change step.to step.passed new r.0 =
    subst (λ (p : ReaderQos). HasJumped (match_of p source) t2 h number change step.to step.passed new r.0) same
    (subst (λ (x : Arrival). HasJumped (match_of q source) t2 h x.number x.change step.to step.passed new r.0) is r.1) in
    let beyond = j.beyond in
    let there = j.place in
    let place = begun.0 in
    let jumped : HasJumped match u h number change step.to step.passed new r.0 = record {
      beyond = j.beyond;
      over = j.over ∙ ap (λ (p : ℕ). run_of p number) begun.0;
      entered = j.entered ∙ ap (λ (p : ℕ). coming match (jumped_to match p h number) change
          ∷ (jumped_to match p h number).happened) begun.0;
      place = j.place;
      stays = stays_on u t2 new (omega (arith, beyond, there, place, here)) begun.1 j.stays;
    } in
    let came : comes match u.place h number change ≡ true =
    ap (λ (p : ℕ). comes match p h number change) here ∙ taken h was in
    let on : JumpsOn match u h number change step (SameTracked new) after = record {
      new = new;
      after = r.0;
      jumps = subst (λ (b : Bool). JumpsIf b match u h number change step.to step.passed new r.0) (sym came) jumped;
      known = same_self new;
      stands = r.2;
      heard = quiet.0;
      acknack = quiet.1;
    } in
    subst (λ (b : Bool). BeginsIf b match t0 h number change step (SameTracked new) after)
    (sym (both_true (nat_le t0.place number) (comes match number h number change) (le-leb t0.place number le)
    (taken h was))) (began, on)
  where
    max_is : (m n : ℕ) → m ≤ n → max m n ≡ n
    max_is m n below = omega (arith, below)

    both_true : (b c : Bool) → b ≡ true → c ≡ true → (b && c) ≡ true
    both_true true true first second = refl
    both_true true false first second = second
    both_true false c first second = first

-- nothing was done where the change does not come
pub rests_change : (match : Match) (before0 after : List Happening → Type 0) (t0 t1 : Tracked) (number : ℕ)
    (change : Change) (step : Step)
    → ((h : List Happening) → before0 h → after h) → SameTracked t0 t1 → IsIdle t1.place step
    → ((h : List Happening) → before0 h
    → (nat_le t0.place number && comes match number h number change) ≡ false) → (h : List Happening) → before0 h
    → MeetsChange Waiting match t0 h number change step (SameTracked t1) after
rests_change match before0 after t0 t1 number change step stands known idle refused h was =
    subst (λ (b : Bool). BeginsIf b match t0 h number change step (SameTracked t1) after) (sym (refused h was)) (
      subst (λ (n : ℕ). IsIdle n step) known.place idle,
      same_back t0 t1 known,
      stands h was,
    )

pub below_refuses : (match : Match) (t : Tracked) (h : List Happening) (number : ℕ) (change : Change) → number < t.place
    → (nat_le t.place number && comes match number h number change) ≡ false
below_refuses match t h number change lt =
    ap (λ (b : Bool). b && comes match number h number change) (lt-leb t.place number lt)

pub room_refuses : (match : Match) (t : Tracked) (h : List Happening) (number : ℕ) (change : Change)
    → comes match number h number change ≡ false
    → (nat_le t.place number && comes match number h number change) ≡ false
room_refuses match t h number change none =
    ap (λ (b : Bool). nat_le t.place number && b) none ∙ and_false (nat_le t.place number)
  where
    and_false : (b : Bool) → (b && false) ≡ false
    and_false true = refl
    and_false false = refl

-- ---- where it has begun

pub change_begun : {E : Type 0} (how : Attachment) (match : Match) (before after : List Happening → Type 0)
    (t new : Tracked) (number : ℕ) (change : Change) (r : Result Step E) → how ≡ Begun
    → IfOk r (λ step. JumpMoves match before after t number change step.to step.passed new)
    → IfOk r (λ step. (step.heard ≡ false) × (step.acknack ≡ None) × (step.begun ≡ None))
    → IfOk r (λ step. (h : List Happening) → before h
    → MeetsChange how match t h number change step (SameTracked new) after)
change_begun how match before after t new number change (Ok step) is moves quiet = λ h was.
    let r = moves h was in
    subst (λ (a : Attachment). MeetsChange a match t h number change step (SameTracked new) after) (sym is) (
      quiet.2,
      record {
        new = new;
        after = r.0;
        jumps = r.1;
        known = same_self new;
        stands = r.2;
        heard = quiet.0;
        acknack = quiet.1;
      },
    )
change_begun how match before after t new number change (Err e) is moves quiet = tt
