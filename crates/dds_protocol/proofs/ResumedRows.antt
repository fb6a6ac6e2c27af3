-- What a peer does where the places of a reader are tried again rests on what packets claimed.
use Rattle.std.proofs.Common.{◌≡◌, ℕ, ◌+◌, Bool, true, false, nat_lt, List, [], ◌∷◌, Option, refl, subst, ap, sym, inl, inr}
use Rattle.std.specs.Prelude.{if◌then◌else◌}
use Rattle.dds_protocol.specs.Roster.{Roster}
use Rattle.dds_base.specs.declared.endpoint.Endpoint.{Endpoint}
use Rattle.rtps_reader.specs.Tracked.{Tracked}
use Rattle.dds_machine.specs.declared.reply.Move.{Move}
use Rattle.dds_machine.specs.declared.reply.Move.TheVariants.{Place}
use Rattle.dds_machine.specs.declared.reply.Report.{Report}
use Rattle.dds_machine.specs.Part.{Attachment, Away, Waiting, Begun, WriterProxy, own_proxies}
use Rattle.dds_machine.specs.Moves.{AreMoves, ArePlaces}
use Rattle.dds_protocol.specs.Backed.{IsBacked}
use Rattle.dds_protocol.specs.Peer.{Delivery, claimed_by}
use Rattle.dds_protocol.specs.Protocol.{State, Goes, stands_to}
use Rattle.dds_protocol.specs.Resuming.{GoesAgain, GoAgain, Resumes}
use Rattle.dds_protocol.proofs.Composed.{moves_on}
use Rattle.dds_protocol.proofs.Resumed.{places_on}
use Rattle.dds_protocol.proofs.Ruled.{goes_moves_on, went_backed}
use Rattle.dds_protocol.proofs.Ways.{goes_went}

-- a place that goes on is all that moves
goes_places : (old : State) (w : Endpoint) (r : ℕ) (t : Tracked) (moves : List Move) (new : State)
    → Goes old w r t moves new → ArePlaces r moves
goes_places old w r t moves new h = subst (λ (ms : List Move). ArePlaces r ms) (sym h.moves_are) (by (nat_lt h.place h.to))
  where
    by : (b : Bool) → ArePlaces r (if b then Place w r h.to h.passed ∷ [] else [])
    by true = (refl, tt)
    by false = tt

-- the places of a reader were tried again at some of its writers
pub record Tried (roster : Roster) (peer : ℕ) (packets : List (List ℕ)) (deliveries : List Delivery) (reader : ℕ)
    (old : State) (moves : List Move) (new : State) : Type 0 where
  pub places : ArePlaces reader moves
  pub moved : AreMoves (claimed_by roster packets peer) old.part moves new.part
  pub backed : IsBacked roster peer packets deliveries new

module _ (roster : Roster) (peer : ℕ) (packets : List (List ℕ)) (deliveries : List Delivery) (reader : ℕ) where
  nothing_tried : (old : State) (moves : List Move) (new : State) → IsBacked roster peer packets deliveries old
      → moves ≡ [] → new ≡ old → Tried roster peer packets deliveries reader old moves new
  nothing_tried old moves new b none same = record {
    places = subst (λ (ms : List Move). ArePlaces reader ms) (sym none) tt;
    moved = subst (λ (ms : List Move). AreMoves (claimed_by roster packets peer) old.part ms new.part) (sym none)
        (ap (λ (s : State). s.part) same);
    backed = subst (λ (s : State). IsBacked roster peer packets deliveries s) (sym same) b;
  }

  again_tried : (how : Attachment) (old : State) (w : Endpoint) (moves : List Move) (new : State)
      → IsBacked roster peer packets deliveries old → GoesAgain how old w reader moves new
      → Tried roster peer packets deliveries reader old moves new
  again_tried Begun old w moves new b h = record {
    places = goes_places old w reader (old.known.tracked w reader) moves new h;
    moved = goes_moves_on (claimed_by roster packets peer) old w reader (old.known.tracked w reader) moves new
        (record {
          is_change = λ n c low held. (b.claimed w reader).change n c low held;
          may_pass = λ n low can. (b.claimed w reader).pass n low can;
        }) h (b.place w reader h.place h.matched.at);
    backed = went_backed roster peer packets deliveries old w reader (old.known.tracked w reader) moves new b refl
        (b.claimed w reader) (goes_went old w reader (old.known.tracked w reader) moves new h);
  }
  again_tried Waiting old w moves new b h = nothing_tried old moves new b h.0 h.1
  again_tried Away old w moves new b h = nothing_tried old moves new b h.0 h.1

  pub rows_tried : (index : ℕ) (rows : List WriterProxy) (old : State) (moves : List Move) (refused : Option ℕ)
      (new : State) → IsBacked roster peer packets deliveries old → GoAgain reader index rows old moves refused new
      → Tried roster peer packets deliveries reader old moves new
  rows_tried index [] old moves refused new b h = nothing_tried old moves new b h.0 h.2
  rows_tried index (row ∷ rows) old moves refused new b (inl h) = nothing_tried old moves new b h.0 h.2
  rows_tried index (row ∷ rows) old moves refused new b (inr h) =
      let mid : State = h.2 in
      let one : Tried roster peer packets deliveries reader old h.0 mid =
      again_tried (stands_to old row.writer reader) old row.writer h.0 mid b h.4 in
      let rest : Tried roster peer packets deliveries reader mid h.1 new =
      rows_tried (index + 1) rows mid h.1 refused new one.backed h.5 in
      record {
        places = subst (λ (ms : List Move). ArePlaces reader ms) (sym h.3)
            (places_on reader h.0 h.1 one.places rest.places);
        moved = subst (λ (ms : List Move). AreMoves (claimed_by roster packets peer) old.part ms new.part) (sym h.3)
            (moves_on (claimed_by roster packets peer) old.part h.0 mid.part h.1 new.part one.moved rest.moved);
        backed = rest.backed;
      }

-- the places of a reader are tried again
pub resumes_tried : (roster : Roster) (peer : ℕ) (packets : List (List ℕ)) (deliveries : List Delivery) (reader : ℕ)
    (old : State) (report : Report) (new : State) → IsBacked roster peer packets deliveries old
    → Resumes reader old report new → Tried roster peer packets deliveries reader old report.moves new
resumes_tried roster peer packets deliveries reader old report new b h =
    rows_tried roster peer packets deliveries reader 0 (own_proxies old.part reader) old report.moves report.refused new
    b h
