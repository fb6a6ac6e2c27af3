-- A submessage that a peer takes up by the rules of the protocol makes moves that rest on what packets claim.
use Rattle.std.proofs.Common.{◌≡◌, ◌⊎◌, ℕ, ℤ, ◌<◌, ◌≤◌, Bool, true, false, List, [], ◌∷◌, Option, Some, None, refl, subst, ap, sym, ◌∙◌, inl, inr, ⊎_elim, arith, int_lt, ◌<ℤ◌}
use Rattle.std.specs.Prelude.{if◌then◌else◌, nat_lt}
use Rattle.std.proofs.lemmas.Bool.Decides.{nat_tests}
use Rattle.std.proofs.lemmas.Int.{ints}
use Rattle.std.proofs.lemmas.Option.{same_Some}
use Rattle.dds_protocol.specs.Roster.{Roster}
use Rattle.dds_base.specs.declared.happening.Happening.{Happening}
use Rattle.dds_base.specs.declared.happening.PassedRun.{PassedRun}
use Rattle.dds_base.specs.Places.{Match, PlaceWith, GoesTo}
use Rattle.dds_base.proofs.PlaceLaws.{SayAsMuch, goes_on, goes_nowhere}
use Rattle.dds_base.specs.Counts.{is_later}
use Rattle.rtps_reader.specs.Tracked.{Tracked}
use Rattle.rtps_reader.specs.Advance.{known}
use Rattle.dds_base.specs.declared.endpoint.Endpoint.{Endpoint}
use Rattle.dds_machine.specs.declared.reply.Move.{Move}
use Rattle.dds_machine.specs.declared.reply.Move.TheVariants.{Place}
use Rattle.dds_machine.specs.Matching.{is_known}
use Rattle.dds_machine.specs.Numbered.{HasNumber}
use Rattle.dds_machine.specs.Part.{WriterProxy, own_proxies, own_reader, place_of, with_place, heard_of, at_reader}
use Rattle.dds_machine.specs.Moves.{Grounds, as_to, match_of, position_at, IsMove, AreMoves}
use Rattle.dds_protocol.specs.Peer.{Delivery, claimed, packets_of}
use Rattle.dds_protocol.specs.Protocol.{State, GoesBy, Goes, with_tracked}
use Rattle.dds_protocol.specs.Backed.{IsClaimed, TookNone, IsBacked}
use Rattle.dds_protocol.proofs.Framing.{Frames, frames_at, pair_or_not, number_or_not, has_reader, at_reader_same, tracked_here, tracked_elsewhere, heard_still}
use Rattle.dds_protocol.proofs.KnownRows.{known_by_handle}
use Rattle.dds_protocol.proofs.Knowing.{gone_claimed}
use Rattle.dds_protocol.proofs.Ways.{Went}
use Rattle.dds_machine.proofs.Tables.{numbered-same, place-hits}

-- ---- what is known after a step at one reader, as to one writer

-- what has to hold of that writer and that reader
pub record BackedAt (roster : Roster) (peer : ℕ) (packets : List (List ℕ)) (deliveries : List Delivery) (w : Endpoint)
    (r : ℕ) (state : State) : Type 0 where
  pub place : (p : ℕ) → place_of (own_proxies state.part r) w ≡ Some p → (state.known.tracked w r).place ≡ p
  pub unknown : place_of (own_proxies state.part r) w ≡ None → (state.known.tracked w r).place ≡ 1
  pub claimed : IsClaimed roster peer packets w r (state.known.tracked w r)
  pub newest : TookNone roster peer deliveries w r (state.known.tracked w r)
  pub heard : (count : ℤ) → heard_of (own_proxies state.part r) w ≡ Some (Some count)
      → is_later (state.known.tracked w r).count count ≡ false

-- all else is as it was
pub backed_on : (roster : Roster) (peer : ℕ) (packets : List (List ℕ)) (deliveries : List Delivery) (v : Endpoint)
    (k : ℕ) (old new : State) → Frames old v k new → IsBacked roster peer packets deliveries old
    → BackedAt roster peer packets deliveries v k new → IsBacked roster peer packets deliveries new
backed_on roster peer packets deliveries v k old new f b h = record {
  place = λ w r p e.
      ⊎_elim (λ same. subst (λ (x : Endpoint). (new.known.tracked x r).place ≡ p) (sym same.0)
      (subst (λ (n : ℕ). (new.known.tracked v n).place ≡ p) (sym same.1)
      (h.place p (subst (λ (n : ℕ). place_of (own_proxies new.part n) v ≡ Some p) same.1
      (subst (λ (x : Endpoint). place_of (own_proxies new.part r) x ≡ Some p) same.0 e)))))
      (λ apart. ap (λ (t : Tracked). t.place) (f.tracked w r apart)
      ∙ b.place w r p (before (λ xs. place_of xs w) w r (f.places w) apart (number_or_not r k) ∙ e))
      (pair_or_not w r v k);
  unknown = λ w r e.
      ⊎_elim (λ same. subst (λ (x : Endpoint). (new.known.tracked x r).place ≡ 1) (sym same.0)
      (subst (λ (n : ℕ). (new.known.tracked v n).place ≡ 1) (sym same.1)
      (h.unknown (subst (λ (n : ℕ). place_of (own_proxies new.part n) v ≡ None) same.1
      (subst (λ (x : Endpoint). place_of (own_proxies new.part r) x ≡ None) same.0 e)))))
      (λ apart. ap (λ (t : Tracked). t.place) (f.tracked w r apart)
      ∙ b.unknown w r (before (λ xs. place_of xs w) w r (f.places w) apart (number_or_not r k) ∙ e))
      (pair_or_not w r v k);
  claimed = λ w r.
      ⊎_elim (λ same. subst (λ (x : Endpoint). IsClaimed roster peer packets x r (new.known.tracked x r)) (sym same.0)
      (subst (λ (n : ℕ). IsClaimed roster peer packets v n (new.known.tracked v n)) (sym same.1) h.claimed))
      (λ apart. subst (λ (t : Tracked). IsClaimed roster peer packets w r t) (sym (f.tracked w r apart))
      (b.claimed w r))
      (pair_or_not w r v k);
  newest = λ w r there.
      ⊎_elim (λ same. subst (λ (x : Endpoint). TookNone roster peer deliveries x r (new.known.tracked x r)) (sym same.0)
      (subst (λ (n : ℕ). TookNone roster peer deliveries v n (new.known.tracked v n)) (sym same.1) h.newest))
      (λ apart.
      let count = f.count in
      let least = there.0 in
      let most = there.1 in
      let there_before : HasNumber old.part.rtps.readers r = (least, omega (arith, count, most)) in
      subst (λ (t : Tracked). TookNone roster peer deliveries w r t) (sym (f.tracked w r apart))
      (b.newest w r there_before))
      (pair_or_not w r v k);
  heard = λ w r count e.
      ⊎_elim (λ same. subst (λ (x : Endpoint). is_later (new.known.tracked x r).count count ≡ false) (sym same.0)
      (subst (λ (n : ℕ). is_later (new.known.tracked v n).count count ≡ false) (sym same.1)
      (h.heard count (subst (λ (n : ℕ). heard_of (own_proxies new.part n) v ≡ Some (Some count)) same.1
      (subst (λ (x : Endpoint). heard_of (own_proxies new.part r) x ≡ Some (Some count)) same.0 e)))))
      (λ apart. ap (λ (t : Tracked). is_later t.count count) (f.tracked w r apart)
      ∙ b.heard w r count (before (λ xs. heard_of xs w) w r (f.heard w) apart (number_or_not r k) ∙ e))
      (pair_or_not w r v k);
  then = λ d r w among found. still r w (b.then d r w among found) (number_or_not r k);
}
  where
    still : (r : ℕ) (w : Endpoint) → is_known (own_proxies old.part r) w ≡ true → (r ≡ k) ⊎ (r ≡ k → ⊥)
        → is_known (own_proxies new.part r) w ≡ true
    still r w known (inl e) =
        subst (λ (n : ℕ). is_known (own_proxies new.part n) w ≡ true) (sym e)
        (known_by_handle (own_proxies old.part k) (own_proxies new.part k) w (f.handles w)
        (subst (λ (n : ℕ). is_known (own_proxies old.part n) w ≡ true) e known))
    still r w known (inr n) = ap (λ (rows : List WriterProxy). is_known rows w) (f.proxies r n) ∙ known

    before : {X : Type 0} (of : List WriterProxy → X) (w : Endpoint) (r : ℕ)
        → ((w ≡ v → ⊥) → of (own_proxies new.part k) ≡ of (own_proxies old.part k)) → ((w ≡ v) × (r ≡ k) → ⊥)
        → (r ≡ k) ⊎ (r ≡ k → ⊥) → of (own_proxies old.part r) ≡ of (own_proxies new.part r)
    before of w r same apart (inl e) =
        subst (λ (n : ℕ). of (own_proxies old.part n) ≡ of (own_proxies new.part n)) (sym e)
        (sym (same (λ is. apart (is, e))))
    before of w r same apart (inr n) = ap of (sym (f.proxies r n))

-- ---- the place goes on

-- what the reader may rest on, the packets claim
pub says_as_much : (roster : Roster) (before : List Delivery) (packet : List ℕ) (rows : List (List WriterProxy))
    (peer index : ℕ) (w : Endpoint) (r : ℕ) (t : Tracked) → IsClaimed roster peer (packet ∷ packets_of before) w r t
    → SayAsMuch (known t) (as_to (claimed roster before packet rows peer index) w r) t.place
says_as_much roster before packet rows peer index w r t k =
    record { is_change = λ n c low h. k.change n c low h; may_pass = λ n low h. k.pass n low h }

-- the moves that a way makes are legal, where its changes and runs may rest on these grounds
pub way_moves : {Way : Match → List Happening → ℕ → List PassedRun → Tracked → List Happening → Type 0}
    → (g : Grounds) (old : State) (w : Endpoint) (r : ℕ) (moves : List Move) (new : State)
    → (h : GoesBy Way old w r moves new)
    → GoesTo (as_to g w r) (match_of old.part r h.publication) (position_at old.part r h.place) h.passed h.to
    (record { place = h.to; happened = h.happened })
    → AreMoves g old.part moves new.part
way_moves g old w r moves new h way = by (nat_lt h.place h.to) refl
  where
    from : PlaceWith
    from = position_at old.part r h.place

    end : PlaceWith
    end = record { place = h.to; happened = h.happened }

    part_is : new.part ≡ at_reader old.part r (with_place (own_proxies old.part r) w h.to) h.happened
    part_is = ap (λ (s : State). s.part) h.after

    legal : h.place < h.to → IsMove g old.part (Place w r h.to h.passed) new.part
    legal lt = record {
      publication = h.publication;
      place = h.place;
      matched = h.matched;
      forward = lt;
      end = end;
      goes = way;
      after = part_is;
    }

    stays : h.to ≤ h.place → new.part ≡ old.part
    stays low =
        let still = goes_nowhere (as_to g w r) (match_of old.part r h.publication) from h.passed h.to end way low in
        let to : h.to ≡ h.place = ap (λ (p : PlaceWith). p.place) still.0 in
        let happened : h.happened ≡ (own_reader old.part r).happened = ap (λ (p : PlaceWith). p.happened) still.0 in
        part_is
        ∙ (ap (λ (n : ℕ). at_reader old.part r (with_place (own_proxies old.part r) w n) h.happened) to
        ∙ (ap (λ (xs : List Happening). at_reader old.part r (with_place (own_proxies old.part r) w h.place) xs)
        happened ∙ at_reader_same old.part r w h.place h.matched.at))

    by : (b : Bool) → nat_lt h.place h.to ≡ b → AreMoves g old.part moves new.part
    by true e =
        let made : moves ≡ Place w r h.to h.passed ∷ [] =
        h.moves_are ∙ ap (λ (b : Bool). if b then Place w r h.to h.passed ∷ [] else []) e in
        subst (λ (ms : List Move). AreMoves g old.part ms new.part) (sym made)
        (new.part, legal (grind (arith, nat_tests)), refl)
    by false e =
        let made : moves ≡ [] = h.moves_are ∙ ap (λ (b : Bool). if b then Place w r h.to h.passed ∷ [] else []) e in
        subst (λ (ms : List Move). AreMoves g old.part ms new.part) (sym made) (stays (grind (arith, nat_tests)))

-- so are those of a place that goes as far as it can, where these say as much as what the reader knows
pub goes_moves_on : (g : Grounds) (old : State) (w : Endpoint) (r : ℕ) (t : Tracked) (moves : List Move) (new : State)
    → SayAsMuch (known t) (as_to g w r) t.place → (h : Goes old w r t moves new) → t.place ≡ h.place
    → AreMoves g old.part moves new.part
goes_moves_on g old w r t moves new says h at =
    way_moves g old w r moves new h
    (goes_on (known t) (as_to g w r) h.place (subst (λ (n : ℕ). SayAsMuch (known t) (as_to g w r) n) at says)
    (match_of old.part r h.publication) (position_at old.part r h.place) h.passed h.to
    (record { place = h.to; happened = h.happened }) (omega arith)
    (subst (λ (n : ℕ). GoesTo (known t) (match_of old.part r h.publication)
    (record { place = n; happened = (own_reader old.part r).happened }) h.passed h.to
    (record { place = h.to; happened = h.happened })) at h.advances.goes))

-- so they are where packets claim what it knows
pub goes_moves : (roster : Roster) (before : List Delivery) (packet : List ℕ) (rows : List (List WriterProxy))
    (peer index : ℕ) (old : State) (w : Endpoint) (r : ℕ) (t : Tracked) (moves : List Move) (new : State)
    → IsClaimed roster peer (packet ∷ packets_of before) w r t → (h : Goes old w r t moves new) → t.place ≡ h.place
    → AreMoves (claimed roster before packet rows peer index) old.part moves new.part
goes_moves roster before packet rows peer index old w r t moves new k h at =
    goes_moves_on (claimed roster before packet rows peer index) old w r t moves new
    (says_as_much roster before packet rows peer index w r t k) h at

-- other readers and writers see nothing of it
pub way_frames : {Way : Match → List Happening → ℕ → List PassedRun → Tracked → List Happening → Type 0}
    → (old : State) (w : Endpoint) (r : ℕ) (moves : List Move) (new : State)
    → GoesBy Way old w r moves new → Frames old w r new
way_frames old w r moves new h =
    subst (λ (s : State). Frames old w r s) (sym h.after)
    (frames_at old w r (λ (p : WriterProxy). record p { place = h.to }) (λ p. refl) h.happened
    (with_tracked old.known w r h.known) (has_reader old.part r h.place w h.matched.at)
    (λ v k apart. tracked_elsewhere old.known w r h.known v k apart))

-- what is known stays backed
pub goes_backed : (roster : Roster) (peer : ℕ) (packets : List (List ℕ)) (deliveries : List Delivery) (old : State)
    (w : Endpoint) (r : ℕ) (t : Tracked) (moves : List Move) (new : State)
    → IsClaimed roster peer packets w r t → TookNone roster peer deliveries w r t
    → ((count : ℤ) → heard_of (own_proxies old.part r) w ≡ Some (Some count) → is_later t.count count ≡ false)
    → Went old w r t moves new → BackedAt roster peer packets deliveries w r new
goes_backed roster peer packets deliveries old w r t moves new k newest heard h =
    subst (λ (s : State). BackedAt roster peer packets deliveries w r s) (sym h.after) (record {
      place = λ p e.
          let at : Some h.to ≡ Some p =
          sym (ap (λ (xs : List WriterProxy). place_of xs w) rows
          ∙ place-hits (own_proxies old.part r) w h.place h.to h.matched.at) ∙ e in
          ap (λ (x : Tracked). x.place) here ∙ (h.advances.place ∙ same_Some h.to p at);
      unknown = λ e.
          absurd (let no : Some h.to ≡ None =
          sym (ap (λ (xs : List WriterProxy). place_of xs w) rows
          ∙ place-hits (own_proxies old.part r) w h.place h.to h.matched.at) ∙ e in cc);
      claimed = subst (λ (x : Tracked). IsClaimed roster peer packets w r x) (sym here)
          (gone_claimed roster peer packets w r t h.to h.known k h.advances);
      newest = λ d count among applied. ap (λ (x : Option ℤ). is_later x count) counts ∙ newest d count among applied;
      heard = λ count e.
          ap (λ (x : Option ℤ). is_later x count) counts
          ∙ heard count (sym (heard_still (own_proxies old.part r) w h.to)
          ∙ (ap (λ (xs : List WriterProxy). heard_of xs w) (sym rows) ∙ e));
    })
  where
    here : (with_tracked old.known w r h.known).tracked w r ≡ h.known
    here = tracked_here old.known w r h.known

    counts : ((with_tracked old.known w r h.known).tracked w r).count ≡ t.count
    counts = ap (λ (x : Tracked). x.count) here ∙ h.advances.stays.count

    rows : own_proxies (at_reader old.part r (with_place (own_proxies old.part r) w h.to) h.happened) r
        ≡ with_place (own_proxies old.part r) w h.to
    rows =
        numbered-same old.part.rtps.readers r (with_place (own_proxies old.part r) w h.to) []
        (has_reader old.part r h.place w h.matched.at)

-- so all that the peer knows does, where the place goes on and no HEARTBEAT is told
pub went_backed : (roster : Roster) (peer : ℕ) (packets : List (List ℕ)) (deliveries : List Delivery) (old : State)
    (w : Endpoint) (r : ℕ) (t : Tracked) (moves : List Move) (new : State)
    → IsBacked roster peer packets deliveries old → t.count ≡ (old.known.tracked w r).count
    → IsClaimed roster peer packets w r t → Went old w r t moves new → IsBacked roster peer packets deliveries new
went_backed roster peer packets deliveries old w r t moves new b count k h =
    let newest : TookNone roster peer deliveries w r t =
    λ d n among applied. ap (λ (o : Option ℤ). is_later o n) count
    ∙ b.newest w r (has_reader old.part r h.place w h.matched.at) d n among applied in
    backed_on roster peer packets deliveries w r old new (way_frames old w r moves new h) b
    (goes_backed roster peer packets deliveries old w r t moves new k newest
    (λ n e. ap (λ (o : Option ℤ). is_later o n) count ∙ b.heard w r n e) h)

-- ---- counts of HEARTBEATs

-- what is no later than one is no later than a later one
pub later_on : (o : Option ℤ) (new c : ℤ) → is_later o new ≡ true → is_later o c ≡ false → is_later (Some new) c ≡ false
later_on None new c l n = cc
later_on (Some last) new c l n = by (int_lt new c) refl
  where
    by : (b : Bool) → int_lt new c ≡ b → int_lt new c ≡ false
    by true e = absurd (omega (arith, ints))
    by false e = e

pub not_later_than_itself : (c : ℤ) → is_later (Some c) c ≡ false
not_later_than_itself c = by (int_lt c c) refl
  where
    by : (b : Bool) → int_lt c c ≡ b → int_lt c c ≡ false
    by true e = absurd (omega (arith, ints))
    by false e = e

pub earlier : (o : Option ℤ) (new c : ℤ) → is_later o new ≡ true → is_later o c ≡ false → c <ℤ new
earlier None new c l n = cc
earlier (Some last) new c l n = omega (arith, ints)
