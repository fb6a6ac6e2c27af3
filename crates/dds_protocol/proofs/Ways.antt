-- The two ways on which a place goes on: over what is held as far as it can, or by a jump to one change. What both leave
-- as it was, and how a reader's reliability chooses between them.
use Rattle.std.proofs.Common.{◌≡◌, ◌⊎◌, ℕ, ◌+◌, ◌-◌, ◌<◌, ◌≤◌, ◌&&◌, Bool, true, false, nat_lt, nat_le, List, [], ◌∷◌, refl, subst, ap, sym, ◌∙◌, inl, inr, arith}
use Rattle.std.specs.Prelude.{if◌then◌else◌}
use Rattle.std.proofs.lemmas.Bool.Decides.{nat_tests}
use Rattle.dds_base.specs.declared.change.Change.{Change}
use Rattle.dds_base.specs.declared.guid.EntityId.{EntityId}
use Rattle.dds_base.specs.declared.guid.GuidPrefix.{GuidPrefix}
use Rattle.dds_base.specs.declared.happening.Happening.{Happening}
use Rattle.dds_base.specs.declared.happening.Happening.TheVariants.{Passed}
use Rattle.dds_base.specs.declared.happening.PassedRun.{PassedRun}
use Rattle.dds_base.specs.Matched.{is_reliable}
use Rattle.dds_base.specs.Places.{WriterGrounds, Match, PlaceWith, coming, Comes, GoesTo}
use Rattle.dds_base.specs.Presence.{has_room}
use Rattle.dds_base.proofs.PlaceLaws.{goes_forward}
use Rattle.rtps_reader.specs.Tracked.{Tracked, with_data, with_gap}
use Rattle.rtps_reader.specs.Advance.{known, Stays, Advances}
use Rattle.rtps_reader.specs.Jump.{run_of, jumped_to, comes, JumpsIf, Jumps}
use Rattle.rtps_wire.specs.declared.gap.Gap.{Gap as GapBody}
use Rattle.rtps_wire.specs.declared.heartbeat.Heartbeat.{Heartbeat as HeartbeatBody}
use Rattle.dds_base.specs.declared.endpoint.Endpoint.{Endpoint}
use Rattle.dds_machine.specs.declared.reply.Move.{Move}
use Rattle.dds_machine.specs.Part.{Attachment, Away, Waiting, Begun}
use Rattle.dds_protocol.specs.Claims.{Receiver}
use Rattle.dds_protocol.specs.DueMessages.{Due}
use Rattle.dds_protocol.specs.Protocol.{BeginsIf, BeginsWith, GoesBy, Goes, HearsAlone, Idles, MeetsChange, MeetsGap, MeetsHeartbeat, Starts, StartsAt, State, TakesChange, TakesGap, TakesHeartbeat, heard_as}

-- the place does not go back, and from it on the same is known
pub record HasGone (t : Tracked) (to : ℕ) (new : Tracked) : Type 0 where
  pub forward : t.place ≤ to
  pub place : new.place ≡ to
  pub stays : Stays t new

pub advances_gone : (match : Match) (t : Tracked) (h : List Happening) (to : ℕ) (passed : List PassedRun)
    (new : Tracked) (after : List Happening) → Advances match t h to passed new after → HasGone t to new
advances_gone match t h to passed new after a = record {
  forward = (goes_forward (known t) match (record { place = t.place; happened = h }) passed to
      (record { place = to; happened = after }) a.goes).0;
  place = a.place;
  stays = a.stays;
}

pub both_true : (a b : Bool) → a && b ≡ true → (a ≡ true) × (b ≡ true)
both_true true true e = (refl, refl)
both_true true false e = cc
both_true false b e = cc

pub jumps_gone : (match : Match) (t : Tracked) (h : List Happening) (number : ℕ) (change : Change) (to : ℕ)
    (passed : List PassedRun) (new : Tracked) (after : List Happening)
    → Jumps match t h number change to passed new after → HasGone t to new
jumps_gone match t h number change to passed new after = by (comes match t.place h number change) refl
  where
    by : (b : Bool) → comes match t.place h number change ≡ b
        → JumpsIf b match t h number change to passed new after → HasGone t to new
    by true e j =
        let low : nat_le t.place number ≡ true = (both_true (nat_le t.place number) _ e).0 in
        let beyond = j.beyond in
        record { forward = grind (arith, nat_tests); place = j.place; stays = j.stays }
    by false e j = record {
      forward = let there = j.there in omega (arith, there);
      place = j.same.place ∙ sym j.there;
      stays = record {
        slots = λ n low. j.same.slots n;
        first = j.same.first;
        count = j.same.count;
        acknacks = j.same.acknacks;
      };
    }

-- a jump is a way over one run, and a change that comes, for a best-effort reader that may rest on the change
pub jumps_go : (g : WriterGrounds) (match : Match) (t : Tracked) (h : List Happening) (number : ℕ) (change : Change)
    (to : ℕ) (passed : List PassedRun) (new : Tracked) (after : List Happening)
    → is_reliable match.qos.reliability ≡ false → g.is_change number change
    → Jumps match t h number change to passed new after
    → GoesTo g match (record { place = t.place; happened = h }) passed to (record { place = to; happened = after })
jumps_go g match t h number change to passed new after other is =
    by (comes match t.place h number change) refl
  where
    old : PlaceWith
    old = record { place = t.place; happened = h }

    there : PlaceWith
    there = jumped_to match t.place h number

    end : PlaceWith
    end = record { place = number + 1; happened = coming match there change ∷ there.happened }

    arrives : has_room match.qos there.happened (coming match there change) ≡ true → Comes g match there change end
    arrives room = record { is_change = is; room = room; after = refl }

    jump : (b : Bool) → nat_lt t.place number ≡ b → t.place ≤ number
        → has_room match.qos there.happened (coming match there change) ≡ true
        → GoesTo g match old (run_of t.place number) (number + 1) end
    jump true lt low room =
        let less : t.place < number = grind (arith, nat_tests) in
        let run : PassedRun = record { first = t.place; last = number - 1 } in
        let runs : run_of t.place number ≡ run ∷ [] =
        ap (λ (b : Bool). if b then run ∷ [] else []) lt in
        let next : number ≡ number - 1 + 1 = omega (arith, less) in
        let happened : there.happened ≡ Passed match.publication t.place (number - 1) ∷ h =
        ap (λ (b : Bool). if b then Passed match.publication t.place (number - 1) ∷ h else h) lt in
        subst (λ (rs : List PassedRun). GoesTo g match old rs (number + 1) end) (sym runs) (
          old,
          there,
          ([], refl, refl),
          record {
            begins = refl;
            ordered = omega (arith, less);
            may_pass = λ n above below.
                inr (
                  other,
                  record {
                    later = number;
                    change = change;
                    is_change = is;
                    before = omega (arith, below, less);
                  },
                );
            after = ap (λ (n : ℕ). record { place = n; happened = there.happened }) next
                ∙ ap (λ (xs : List Happening). record { place = number - 1 + 1; happened = xs }) happened;
          },
          tt,
          (change ∷ [], (end, arrives room, refl), refl),
        )
    jump false lt low room =
        let same : number ≡ t.place = grind (arith, nat_tests) in
        let runs : run_of t.place number ≡ [] =
        ap (λ (b : Bool). if b then record { first = t.place; last = number - 1 } ∷ [] else []) lt in
        let happened : there.happened ≡ h =
        ap (λ (b : Bool). if b then Passed match.publication t.place (number - 1) ∷ h else h) lt in
        let at : there ≡ old =
        ap (λ (n : ℕ). record { place = n; happened = there.happened }) same
        ∙ ap (λ (xs : List Happening). record { place = t.place; happened = xs }) happened in
        subst (λ (rs : List PassedRun). GoesTo g match old rs (number + 1) end) (sym runs)
        (subst (λ (p : PlaceWith). GoesTo g match p [] (number + 1) end) at
        (change ∷ [], (end, arrives room, refl), refl))

    by : (b : Bool) → comes match t.place h number change ≡ b
        → JumpsIf b match t h number change to passed new after
        → GoesTo g match old passed to (record { place = to; happened = after })
    by true e j =
        let both = both_true (nat_le t.place number) _ e in
        let low : t.place ≤ number = let le = both.0 in grind (arith, nat_tests) in
        subst (λ (n : ℕ). GoesTo g match old passed n (record { place = n; happened = after })) (sym j.beyond)
        (subst (λ (xs : List Happening). GoesTo g match old passed (number + 1)
        (record { place = number + 1; happened = xs })) (sym j.entered)
        (subst (λ (rs : List PassedRun). GoesTo g match old rs (number + 1) end) (sym j.over)
        (jump (nat_lt t.place number) refl low both.1)))
    by false e j =
        subst (λ (rs : List PassedRun). GoesTo g match old rs to (record { place = to; happened = after })) (sym j.none) (
          [],
          ap (λ (n : ℕ). record { place = n; happened = after }) j.there
              ∙ ap (λ (xs : List Happening). record { place = t.place; happened = xs }) j.idle,
          refl,
        )

-- a way of which one thing is told is one of which less is
pub goes_so : {Way Less : Match → List Happening → ℕ → List PassedRun → Tracked → List Happening → Type 0}
    → ((match : Match) (h : List Happening) (to : ℕ) (passed : List PassedRun) (new : Tracked) (after : List Happening)
    → Way match h to passed new after → Less match h to passed new after)
    → (old : State) (w : Endpoint) (r : ℕ) (moves : List Move) (new : State) → GoesBy Way old w r moves new
    → GoesBy Less old w r moves new
goes_so less old w r moves new g = record {
  publication = g.publication;
  place = g.place;
  matched = g.matched;
  to = g.to;
  passed = g.passed;
  known = g.known;
  happened = g.happened;
  advances = less _ _ g.to g.passed g.known g.happened g.advances;
  moves_are = g.moves_are;
  after = g.after;
}

-- the place went on, by the one or the other
abbrev pub Went : State → Endpoint → ℕ → Tracked → List Move → State → Type 0
Went old w r t moves new = GoesBy (λ match h to passed known after. HasGone t to known) old w r moves new

pub goes_went : (old : State) (w : Endpoint) (r : ℕ) (t : Tracked) (moves : List Move) (new : State)
    → Goes old w r t moves new → Went old w r t moves new
goes_went old w r t moves new g =
    goes_so (λ match h to passed known after a. advances_gone match t h to passed known after a) old w r moves new g

-- what a change leaves to know, before the place goes on
abbrev pub after_change : Bool → ℕ → Change → Tracked → Tracked
after_change true number change t = with_data number change t
after_change false number change t = t

pub change_went : (b : Bool) (old : State) (w : Endpoint) (r number : ℕ) (change : Change) (moves : List Move)
    (new : State) → TakesChange b old w r number change moves new
    → Went old w r (after_change b number change (old.known.tracked w r)) moves new
change_went true old w r number change moves new g = goes_went old w r _ moves new g
change_went false old w r number change moves new g =
    goes_so (λ match h to passed known after j. jumps_gone match _ h number change to passed known after j) old w r
    moves new g.1

-- it changes no count
pub after_change-same : (b : Bool) (number : ℕ) (change : Change) (t : Tracked)
    → ((after_change b number change t).place ≡ t.place) × ((after_change b number change t).count ≡ t.count)
    × ((after_change b number change t).acknacks ≡ t.acknacks)
after_change-same true number change t = (refl, refl, refl)
after_change-same false number change t = (refl, refl, refl)

-- a GAP is taken, or does nothing
pub gap_went : (b : Bool) (old : State) (w : Endpoint) (r : ℕ) (g : GapBody) (moves : List Move) (new : State)
    → TakesGap b old w r g moves new
    → ((b ≡ true) × Goes old w r (with_gap g.gap_start g.gap_list (old.known.tracked w r)) moves new)
    ⊎ ((moves ≡ []) × (new ≡ old))
gap_went true old w r g moves new h = inl (refl, h)
gap_went false old w r g moves new h = inr h

-- ---- by how a reader stands to the writer

-- nothing is moved
abbrev pub StaysAs : State → List Move → State → Type 0
StaysAs old moves new = (moves ≡ []) × (new ≡ old)

-- a place begins, or it is where it was
pub started : (how : Attachment) (old : State) (w : Endpoint) (r number : ℕ) (moves : List Move) (new : State)
    → Starts how old w r number moves new → StartsAt old w r number moves new ⊎ StaysAs old moves new
started Waiting old w r number moves new h = inl h
started Away old w r number moves new h = inr h
started Begun old w r number moves new h = inr h

begun_if : (b : Bool) (old : State) (w : Endpoint) (r number : ℕ) (change : Change) (moves : List Move) (new : State)
    → BeginsIf b old w r number change moves new
    → BeginsWith old w r number change moves new ⊎ StaysAs old moves new
begun_if true old w r number change moves new h = inl h
begun_if false old w r number change moves new h = inr h

-- a change is taken, or a place begins with it, or it does nothing
pub met_change : (how : Attachment) (reliable : Bool) (old : State) (w : Endpoint) (r number : ℕ) (change : Change)
    (moves : List Move) (new : State) → MeetsChange how reliable old w r number change moves new
    → TakesChange reliable old w r number change moves new
    ⊎ BeginsWith old w r number change moves new ⊎ StaysAs old moves new
met_change Begun reliable old w r number change moves new h = inl h
met_change Waiting false old w r number change moves new h =
    inr (begun_if _ old w r number change moves new h.2)
met_change Waiting true old w r number change moves new h = inr (inr h)
met_change Away reliable old w r number change moves new h = inr (inr h)

-- a GAP is taken, or does nothing
pub met_gap : (how : Attachment) (reliable : Bool) (old : State) (w : Endpoint) (r : ℕ) (g : GapBody)
    (moves : List Move) (new : State) → MeetsGap how reliable old w r g moves new
    → TakesGap reliable old w r g moves new ⊎ StaysAs old moves new
met_gap Begun reliable old w r g moves new h = inl h
met_gap Waiting reliable old w r g moves new h = inr h
met_gap Away reliable old w r g moves new h = inr h

-- a HEARTBEAT is taken, or the writer is heard by it alone, or it does nothing
pub met_heartbeat : (how : Attachment) (reliable : Bool) (own : GuidPrefix) (at : Receiver) (old : State) (w : Endpoint)
    (r : ℕ) (entity : EntityId) (h : HeartbeatBody) (moves : List Move) (dues : List Due) (new : State)
    → MeetsHeartbeat how reliable own at old w r entity h moves dues new
    → TakesHeartbeat own at old w r entity (heard_as reliable h) moves dues new
    ⊎ (HearsAlone old w r h moves new × (dues ≡ [])) ⊎ Idles old moves dues new
met_heartbeat Away reliable own at old w r entity h moves dues new x = inr (inr x)
met_heartbeat Waiting false own at old w r entity h moves dues new (inl x) = inr (inl x)
met_heartbeat Waiting false own at old w r entity h moves dues new (inr x) = inr (inr x.1)
met_heartbeat Waiting true own at old w r entity h moves dues new (inl x) = inl x
met_heartbeat Waiting true own at old w r entity h moves dues new (inr x) = inr (inr x.1)
met_heartbeat Begun reliable own at old w r entity h moves dues new (inl x) = inl x
met_heartbeat Begun reliable own at old w r entity h moves dues new (inr x) = inr (inr x.1)
