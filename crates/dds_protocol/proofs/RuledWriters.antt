-- What the peer's writers do with an ACKNACK rests on what its packet claims.
use Rattle.std.proofs.Common.{◌≡◌, ℕ, ◌<◌, ◌≤◌, max, Bool, true, false, List, [], ◌∷◌, ◌++◌, refl, subst, ap, sym, ◌∙◌, inl, inr, ⊎_elim, arith, length, nat_lt}
use Rattle.std.specs.Prelude.{if◌then◌else◌}
use Rattle.std.proofs.lemmas.Bool.Decides.{nat_tests}
use Rattle.rtps_wire.specs.declared.acknack.AckNack.{AckNack as AckNackBody}
use Rattle.rtps_wire.specs.declared.submessage.Submessage.{Submessage}
use Rattle.rtps_wire.specs.declared.submessage.Submessage.TheVariants.{AckNack}
use Rattle.dds_base.specs.declared.endpoint.Endpoint.{Endpoint}
use Rattle.dds_machine.specs.declared.reply.Move.{Move}
use Rattle.dds_machine.specs.declared.reply.Move.TheVariants.{Acknowledged, Strange}
use Rattle.dds_machine.specs.Part.{ReaderProxy, Writer, own_writer, at_writer}
use Rattle.dds_machine.specs.Moves.{IsMove, AreMoves}
use Rattle.dds_protocol.specs.Claims.{IsToWriter, PlaceReached, Says}
use Rattle.dds_protocol.specs.DueMessages.{Due}
use Rattle.dds_protocol.specs.Protocol.{State, InTurn, IsStranger, TakesAckNack, WriterTakes, acknowledging}
use Rattle.dds_protocol.proofs.Composed.{moves_on}
use Rattle.dds_protocol.proofs.Framing.{at_writer_same}
use Rattle.dds_protocol.proofs.RuledReaders.{Coming, grounds, Backs}

-- a writer took an ACKNACK: the peer's readers see nothing of it
pub record IsTaken (c : Coming) (old : State) (made : List Move) (new : State) : Type 0 where
  pub moves : AreMoves (grounds c) old.part made new.part
  pub backed : Backs c new
  pub readers : length new.part.rtps.readers ≡ length old.part.rtps.readers

pub taken_none : (c : Coming) (old : State) (made : List Move) (new : State) → Backs c old → made ≡ [] → new ≡ old
    → IsTaken c old made new
taken_none c old made new b m n = record {
  moves = subst (λ (ms : List Move). AreMoves (grounds c) old.part ms new.part) (sym m) (ap (λ (x : State). x.part) n);
  backed = subst (λ (x : State). Backs c x) (sym n) b;
  readers = ap (λ (x : State). length x.part.rtps.readers) n;
}

pub taken_on : (c : Coming) (old mid new : State) (made later all : List Move) → all ≡ made ++ later
    → IsTaken c old made mid → IsTaken c mid later new → IsTaken c old all new
taken_on c old mid new made later all is one rest = record {
  moves =
      subst (λ (ms : List Move). AreMoves (grounds c) old.part ms new.part) (sym is)
      (moves_on (grounds c) old.part made mid.part later new.part one.moves rest.moves);
  backed = rest.backed;
  readers = rest.readers ∙ one.readers;
}

acknack_takes : (c : Coming) (a : AckNackBody) → c.submessage ≡ AckNack a
    → (writer : ℕ) (reader : Endpoint) (old : State) (made : List Move) (dues : List Due) (new : State) → Backs c old
    → (is : IsToWriter c.roster c.own c.at a.reader_id a.writer_id (record { peer = c.peer; number = writer }) reader)
    → TakesAckNack c.own c.at old writer reader is.entity a made dues new → IsTaken c old made new
acknack_takes c a this writer reader old made dues new b is h = record {
  moves = by (nat_lt h.acknowledged base) refl;
  backed =
      subst (λ (x : State). Backs c x) (sym h.after)
      (record {
        place = b.place;
        unknown = b.unknown;
        claimed = b.claimed;
        newest = b.newest;
        heard = b.heard;
        then = b.then;
      });
  readers = ap (λ (x : State). length x.part.rtps.readers) h.after;
}
  where
    base : ℕ
    base = a.reader_sn_state.base

    w : Writer
    w = own_writer old.part writer

    part : new.part ≡ at_writer old.part writer (acknowledging w reader (max h.acknowledged base))
    part = ap (λ (s : State). s.part) h.after ∙ ap (λ (x : Writer). at_writer old.part writer x) h.there_is

    made_by : (b : Bool) → nat_lt h.acknowledged base ≡ b
        → made ≡ (if b then Acknowledged writer reader base ∷ [] else [])
    made_by b e = h.moves_are ∙ ap (λ (b : Bool). if b then Acknowledged writer reader base ∷ [] else []) e

    by : (b : Bool) → nat_lt h.acknowledged base ≡ b → AreMoves (grounds c) old.part made new.part
    by true e =
        let forward : h.acknowledged < base = grind (arith, nat_tests) in
        let most : max h.acknowledged base ≡ base = omega (arith, forward) in
        let legal : IsMove (grounds c) old.part (Acknowledged writer reader base) new.part = record {
          acknowledged = h.acknowledged;
          matched = h.matched;
          forward = forward;
          has_place = c.says (PlaceReached (record { peer = c.peer; number = writer }) reader base)
              (subst (λ (s : Submessage). Says c.roster c.own c.at s
              (PlaceReached (record { peer = c.peer; number = writer }) reader base)) (sym this) (is, refl));
          after = part ∙ ap (λ (n : ℕ). at_writer old.part writer (acknowledging w reader n)) most;
        } in
        subst (λ (ms : List Move). AreMoves (grounds c) old.part ms new.part) (sym (made_by true e))
        (new.part, legal, refl)
    by false e =
        let low : base ≤ h.acknowledged = grind (arith, nat_tests) in
        let most : max h.acknowledged base ≡ h.acknowledged = omega (arith, low) in
        subst (λ (ms : List Move). AreMoves (grounds c) old.part ms new.part) (sym (made_by false e))
        (part ∙ (ap (λ (n : ℕ). at_writer old.part writer (acknowledging w reader n)) most
        ∙ at_writer_same old.part writer reader h.acknowledged h.matched))

-- one that acknowledges what was never made claims that place
stranger_said : (c : Coming) (a : AckNackBody) → c.submessage ≡ AckNack a
    → (writer : ℕ) (reader : Endpoint) (old : State) (made : List Move) (new : State) → Backs c old
    → IsStranger c.roster c.own c.peer c.at a writer reader old → made ≡ Strange writer reader ∷ [] → new ≡ old
    → IsTaken c old made new
stranger_said c a this writer reader old made new b s m n =
    let claim = PlaceReached (record { peer = c.peer; number = writer }) reader a.reader_sn_state.base in
    let legal : IsMove (grounds c) old.part (Strange writer reader) old.part = record {
      acknowledged = s.acknowledged;
      matched = s.matched;
      base = a.reader_sn_state.base;
      has_place = c.says claim (subst (λ (x : Submessage). Says c.roster c.own c.at x claim) (sym this) (s.is, refl));
      beyond = s.beyond;
      after = refl;
    } in
    record {
      moves = subst (λ (ms : List Move). AreMoves (grounds c) old.part ms new.part) (sym m)
          (old.part, legal, ap (λ (x : State). x.part) n);
      backed = subst (λ (x : State). Backs c x) (sym n) b;
      readers = ap (λ (x : State). length x.part.rtps.readers) n;
    }

pub writer_taken : (c : Coming) (a : AckNackBody) → c.submessage ≡ AckNack a
    → (writer : ℕ) (reader : Endpoint) (old : State) (made : List Move) (dues : List Due) (new : State) → Backs c old
    → WriterTakes c.roster c.own c.peer c.at a writer reader old made dues new → IsTaken c old made new
writer_taken c a this writer reader old made dues new b (inl h) =
    acknack_takes c a this writer reader old made dues new b h.0 h.2
writer_taken c a this writer reader old made dues new b (inr h) =
    ⊎_elim (λ s. stranger_said c a this writer reader old made new b s.0 s.1 h.1.2)
    (λ n. taken_none c old made new b n.1 h.1.2) h.1.0

rows_taken : (c : Coming) (a : AckNackBody) → c.submessage ≡ AckNack a
    → (writer : ℕ) (rows : List ReaderProxy) (old : State) (made : List Move) (dues : List Due) (new : State)
    → Backs c old
    → InTurn (λ (p : ReaderProxy). WriterTakes c.roster c.own c.peer c.at a writer p.reader) rows old made dues new
    → IsTaken c old made new
rows_taken c a this writer [] old made dues new b h = taken_none c old made new b h.0 h.2
rows_taken c a this writer (p ∷ ps) old made dues new b h =
    let one : IsTaken c old h.0 h.4 = writer_taken c a this writer p.reader old h.0 h.2 h.4 b h.7 in
    taken_on c old h.4 new h.0 h.1 made h.5 one (rows_taken c a this writer ps h.4 h.1 h.3 new one.backed h.8)

pub writers_taken : (c : Coming) (a : AckNackBody) → c.submessage ≡ AckNack a
    → (start : State) (writers : List ℕ) (old : State) (made : List Move) (dues : List Due) (new : State) → Backs c old
    → InTurn (λ (writer : ℕ). InTurn (λ (p : ReaderProxy). WriterTakes c.roster c.own c.peer c.at a writer p.reader)
    (own_writer start.part writer).readers) writers old made dues new → IsTaken c old made new
writers_taken c a this start [] old made dues new b h = taken_none c old made new b h.0 h.2
writers_taken c a this start (w ∷ ws) old made dues new b h =
    let one : IsTaken c old h.0 h.4 = rows_taken c a this w (own_writer start.part w).readers old h.0 h.2 h.4 b h.7 in
    taken_on c old h.4 new h.0 h.1 made h.5 one (writers_taken c a this start ws h.4 h.1 h.3 new one.backed h.8)
