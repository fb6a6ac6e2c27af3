-- The peer's readers take a submessage up one after the other.
use Rattle.std.proofs.Common.{◌≡◌, ◌⊎◌, ℕ, zero, suc, ◌+◌, ◌<◌, ◌≤◌, Bool, false, List, [], ◌∷◌, ◌++◌, subst, ap, sym, ◌∙◌, inl, inr, ⊎_elim, arith, length}
use Rattle.dds_base.specs.declared.change.Change.{Change}
use Rattle.dds_base.specs.Kept.{numbers_from}
use Rattle.dds_base.specs.Places.{coming}
use Rattle.dds_base.specs.Presence.{has_room}
use Rattle.dds_base.specs.Counts.{is_later}
use Rattle.rtps_reader.specs.Tracked.{Tracked}
use Rattle.rtps_wire.specs.declared.submessage.Submessage.{Submessage}
use Rattle.rtps_wire.specs.declared.submessage.Submessage.TheVariants.{Pad, InfoDst, InfoTs, Data, Heartbeat, AckNack, Gap, Other}
use Rattle.dds_base.specs.declared.endpoint.Endpoint.{Endpoint}
use Rattle.dds_machine.specs.declared.reply.Move.{Move}
use Rattle.dds_machine.specs.declared.reply.Move.TheVariants.{Place, Acknowledged, Heard, Begun as HasBegun, Strange}
use Rattle.dds_machine.specs.Part.{how_of, Reader, WriterProxy, own_proxies, own_reader, place_of, publication_among}
use Rattle.dds_machine.specs.Moves.{AreMoves}
use Rattle.dds_protocol.specs.Receipt.{GoesOver}
use Rattle.dds_protocol.specs.DueMessages.{Due}
use Rattle.dds_protocol.specs.Protocol.{State, InTurn, ReaderTakes}
use Rattle.dds_protocol.proofs.Attached.{moves_met}
use Rattle.dds_protocol.proofs.Composed.{moves_on}
use Rattle.dds_protocol.proofs.Framing.{Frames, number_or_not}
use Rattle.dds_protocol.proofs.RuledHeartbeats.{heartbeat_taken}
use Rattle.dds_protocol.proofs.RuledReaders.{Coming, grounds, Backs, Met, IsPast, MovesIt, IsTakenAt, nothing_taken, data_taken, gap_taken}

pub goes_first : (w : Endpoint) (r n : ℕ) (xs ys : List Move) → GoesOver w r n xs → GoesOver w r n (xs ++ ys)
goes_first w r n [] ys h = absurd h
goes_first w r n (Place v s to passed ∷ xs) ys h = ⊎_elim (λ f. inl f) (λ g. inr (goes_first w r n xs ys g)) h
goes_first w r n (Heard v s ∷ xs) ys h = goes_first w r n xs ys h
goes_first w r n (Strange v s ∷ xs) ys h = goes_first w r n xs ys h
goes_first w r n (Acknowledged v s to ∷ xs) ys h = goes_first w r n xs ys h
goes_first w r n (HasBegun v s from to ∷ xs) ys h = goes_first w r n xs ys h

pub goes_last : (w : Endpoint) (r n : ℕ) (xs ys : List Move) → GoesOver w r n ys → GoesOver w r n (xs ++ ys)
goes_last w r n [] ys h = h
goes_last w r n (Place v s to passed ∷ xs) ys h = inr (goes_last w r n xs ys h)
goes_last w r n (Heard v s ∷ xs) ys h = goes_last w r n xs ys h
goes_last w r n (Strange v s ∷ xs) ys h = goes_last w r n xs ys h
goes_last w r n (Acknowledged v s to ∷ xs) ys h = goes_last w r n xs ys h
goes_last w r n (HasBegun v s from to ∷ xs) ys h = goes_last w r n xs ys h

-- this reader is as it was
pub record SameAt (old new : State) (r : ℕ) : Type 0 where
  pub moment : new.part.dds.moment ≡ old.part.dds.moment
  pub proxies : own_proxies new.part r ≡ own_proxies old.part r
  pub reader : own_reader new.part r ≡ own_reader old.part r
  pub tracked : (w : Endpoint) → new.known.tracked w r ≡ old.known.tracked w r

pub same_on : (a b c : State) (r : ℕ) → SameAt a b r → SameAt b c r → SameAt a c r
same_on a b c r f g =
    record {
      moment = g.moment ∙ f.moment;
      proxies = g.proxies ∙ f.proxies;
      reader = g.reader
          ∙ f.reader;
      tracked = λ w. g.tracked w ∙ f.tracked w;
    }

pub same_by : (old new : State) (v : Endpoint) (k r : ℕ) → Frames old v k new → (r ≡ k → ⊥) → SameAt old new r
same_by old new v k r f n =
    record {
      moment = f.moment;
      proxies = f.proxies r n;
      reader = f.readers r n;
      tracked = λ w. f.tracked w r
          (λ p. n p.1);
    }

past_on : (c : Coming) (s : Submessage) (r : ℕ) (old new : State) → SameAt old new r → IsPast c s r old
    → IsPast c s r new
past_on c (Heartbeat h) r old new f p =
    λ w to met. ap (λ (t : Tracked). is_later t.count h.count) (f.tracked w) ∙ p w to met
past_on c Pad r old new f p = tt
past_on c (InfoDst d) r old new f p = tt
past_on c (InfoTs d) r old new f p = tt
past_on c (Data d) r old new f p = tt
past_on c (AckNack d) r old new f p = tt
past_on c (Gap d) r old new f p = tt
past_on c (Other d) r old new f p = tt

-- what moves a reader's place later moves it, while the reader is as it was
moves_it_on : (c : Coming) (s : Submessage) (r : ℕ) (old mid : State) (made later : List Move) → SameAt old mid r
    → MovesIt c s r mid later → MovesIt c s r old (made ++ later)
moves_it_on c s r old mid made later f m = λ w publication number change told matched.
    ⊎_elim (λ o. inl (goes_last w r number made later o))
    (λ o. inr (record {
      change = o.change;
      is_change = o.is_change;
      no_room = subst (λ (t : ℕ). room_at (own_reader old.part r) t publication number o.change ≡ false) f.moment
          (subst (λ (x : Reader). room_at x mid.part.dds.moment publication number o.change
          ≡ false) f.reader o.no_room);
    }))
    (m w publication number change told
    (record {
      handle = ap (λ (xs : List WriterProxy). publication_among xs w) f.proxies
          ∙ matched.handle;
      at = ap (λ (xs : List WriterProxy). place_of xs w) f.proxies ∙ matched.at;
      begun = ap (λ (xs : List WriterProxy). how_of xs w) f.proxies ∙ matched.begun;
    }))
  where
    room_at : Reader → ℕ → ℕ → ℕ → Change → Bool
    room_at x t publication number change =
        has_room x.qos x.happened
        (coming (record { qos = x.qos; publication = publication; moment = t })
        (record { place = number; happened = x.happened }) change)

moves_it_first : (c : Coming) (s : Submessage) (r : ℕ) (old : State) (made later : List Move) → MovesIt c s r old made
    → MovesIt c s r old (made ++ later)
moves_it_first c s r old made later m =
    λ w publication number change told matched. ⊎_elim (λ o. inl (goes_first w r number made later o)) (λ o. inr o)
    (m w publication number change told matched)

-- a submessage that tells readers something
abbrev pub IsTelling : Submessage → Type 0
IsTelling (AckNack a) = ⊥
IsTelling other = Unit {0}

-- the readers from this number on took it up
pub record Turn (c : Coming) (s : Submessage) (first count : ℕ) (old : State) (made : List Move)
    (new : State) : Type 0 where
  pub moves : AreMoves (grounds c) old.part made new.part
  pub backed : Backs c new
  pub readers : length new.part.rtps.readers ≡ length old.part.rtps.readers
  pub below : (r : ℕ) → r < first → SameAt old new r
  pub past : (r : ℕ) → first ≤ r → r < first + count → IsPast c s r new
  pub over : (r : ℕ) → first ≤ r → r < first + count → MovesIt c s r old made

turn_none : (c : Coming) (s : Submessage) (first : ℕ) (old : State) (made : List Move) (new : State) → Backs c old
    → made ≡ [] → new ≡ old → Turn c s first 0 old made new
turn_none c s first old made new b m n = record {
  moves = subst (λ (ms : List Move). AreMoves (grounds c) old.part ms new.part) (sym m) (ap (λ (x : State). x.part) n);
  backed = subst (λ (x : State). Backs c x) (sym n) b;
  readers = ap (λ (x : State). length x.part.rtps.readers) n;
  below =
      λ r lt. record {
        moment = ap (λ (x : State). x.part.dds.moment) n;
        proxies = ap (λ (x : State). own_proxies x.part r) n;
        reader = ap (λ (x : State). own_reader x.part r) n;
        tracked = λ w.
            ap (λ (x : State). x.known.tracked w r) n;
      };
  past = λ r low high. absurd (omega (arith, low, high));
  over = λ r low high. absurd (omega (arith, low, high));
}

turn_more : (c : Coming) (s : Submessage) (first count : ℕ) (old mid new : State) (made later all : List Move)
    → all ≡ made ++ later → IsTakenAt c s first old made mid → Turn c s (first + 1) count mid later new
    → Turn c s first (suc count) old all new
turn_more c s first count old mid new made later all is one rest = record {
  moves =
      subst (λ (ms : List Move). AreMoves (grounds c) old.part ms new.part) (sym is)
      (moves_on (grounds c) old.part made mid.part later new.part one.moves rest.moves);
  backed = rest.backed;
  readers = rest.readers ∙ one.frames.count;
  below =
      λ r lt. same_on old mid new r (same_by old mid one.writer first r one.frames (λ e. omega (arith, lt, e)))
      (rest.below r (omega (arith, lt)));
  past =
      λ r low high. ⊎_elim (λ e. subst (λ (k : ℕ). IsPast c s k new) (sym e)
      (past_on c s first mid new (rest.below first (omega arith)) one.past))
      (λ n. rest.past r (above r low n) (omega (arith, high))) (number_or_not r first);
  over = λ r low high.
      subst (λ (ms : List Move). MovesIt c s r old ms) (sym is)
      (⊎_elim (λ e. subst (λ (k : ℕ). MovesIt c s k old (made ++ later)) (sym e)
      (moves_it_first c s first old made later one.over))
      (λ n. moves_it_on c s r old mid made later (same_by old mid one.writer first r one.frames n)
      (rest.over r (above r low n) (omega (arith, high))))
      (number_or_not r first));
}
  where
    above : (r : ℕ) → first ≤ r → (r ≡ first → ⊥) → first + 1 ≤ r
    above r low n = by (le_or first r)
      where
        le_or : (a b : ℕ) → (b ≤ a) ⊎ (a + 1 ≤ b)
        le_or zero zero = inl (omega arith)
        le_or zero (suc b) = inr (omega arith)
        le_or (suc a) zero = inl (omega arith)
        le_or (suc a) (suc b) = ⊎_elim (λ l. inl (omega (arith, l))) (λ g. inr (omega (arith, g))) (le_or a b)

        by : (r ≤ first) ⊎ (first + 1 ≤ r) → first + 1 ≤ r
        by (inl l) = absurd (n (omega (arith, l, low)))
        by (inr g) = g

pub reader_taken : (c : Coming) (s : Submessage) → c.submessage ≡ s → IsTelling s
    → (r : ℕ) (old : State) (made : List Move) (dues : List Due) (new : State) → Backs c old → Met c old
    → ReaderTakes c.roster c.own c.peer c.at s r old made dues new → IsTakenAt c s r old made new
reader_taken c (Data d) is telling r old made dues new b met h = data_taken c d is r old made dues new b h
reader_taken c (Gap g) is telling r old made dues new b met h = gap_taken c g is r old made dues new b h
reader_taken c (Heartbeat h) is telling r old made dues new b met k = heartbeat_taken c h is r old made dues new b met k
reader_taken c (AckNack a) is telling r old made dues new b met h = absurd telling
reader_taken c Pad is telling r old made dues new b met h =
    nothing_taken c Pad r old made dues new b h tt (λ w p n ch told m. absurd told)
reader_taken c (InfoDst x) is telling r old made dues new b met h =
    nothing_taken c (InfoDst x) r old made dues new b h tt (λ w p n ch told m. absurd told)
reader_taken c (InfoTs x) is telling r old made dues new b met h =
    nothing_taken c (InfoTs x) r old made dues new b h tt (λ w p n ch told m. absurd told)
reader_taken c (Other x) is telling r old made dues new b met h =
    nothing_taken c (Other x) r old made dues new b h tt (λ w p n ch told m. absurd told)

-- who is matched with whom stays
pub met_on : (c : Coming) (old : State) (made : List Move) (new : State) → Met c old
    → AreMoves (grounds c) old.part made new.part → Met c new
met_on c old made new met moves r w = moves_met (grounds c) old.part made new.part moves r w ∙ met r w

pub readers_taken : (c : Coming) (s : Submessage) → c.submessage ≡ s → IsTelling s
    → (first count : ℕ) (old : State) (made : List Move) (dues : List Due) (new : State) → Backs c old → Met c old
    → InTurn (ReaderTakes c.roster c.own c.peer c.at s) (numbers_from first count) old made dues new
    → Turn c s first count old made new
readers_taken c s is telling first zero old made dues new b met h = turn_none c s first old made new b h.0 h.2
readers_taken c s is telling first (suc count) old made dues new b met h =
    let mid : State = h.4 in
    let one : IsTakenAt c s first old h.0 mid = reader_taken c s is telling first old h.0 h.2 mid b met h.7 in
    turn_more c s first count old mid new h.0 h.1 made h.5 one
    (readers_taken c s is telling (first + 1) count mid h.1 h.3 new one.backed
    (met_on c old h.0 mid met one.moves) h.8)
