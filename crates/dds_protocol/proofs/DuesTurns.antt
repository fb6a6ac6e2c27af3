-- What is due while the peer's readers, or its writers, take a submessage up one after the other is true.
use Rattle.std.proofs.Common.{◌≡◌, ℕ, ◌≤◌, List, [], ◌∷◌, ◌++◌, subst, sym, length}
use Rattle.std.specs.List.{All}
use Rattle.std.proofs.lemmas.List.Elements.{All-append}
use Rattle.dds_base.specs.Kept.{numbers_from}
use Rattle.rtps_wire.specs.declared.acknack.AckNack.{AckNack as AckNackBody}
use Rattle.rtps_wire.specs.declared.submessage.Submessage.{Submessage}
use Rattle.rtps_wire.specs.declared.submessage.Submessage.TheVariants.{Pad, InfoDst, InfoTs, Data, Heartbeat, AckNack, Gap, Other}
use Rattle.dds_machine.specs.declared.reply.Move.{Move}
use Rattle.dds_machine.specs.Part.{ReaderProxy, own_writer}
use Rattle.dds_machine.specs.Moves.{AreMoves}
use Rattle.dds_protocol.specs.DueMessages.{Due}
use Rattle.dds_protocol.specs.Protocol.{State, InTurn, ReaderTakes, WriterTakes, Takes}
use Rattle.dds_protocol.specs.Dues.{AreTellable, IsTruthful, AreTruthful, IsSized, HasSmallChanges, CanBeWritten}
use Rattle.dds_protocol.proofs.DuesAcknacks.{none_due, reader_truthful}
use Rattle.dds_protocol.proofs.DuesAnswers.{writer_truthful}
use Rattle.dds_protocol.proofs.DuesGrowth.{small_gained, Gains, gains_same, gains_on, AreMoves-gains, truthful_gained, tellable_gained}
use Rattle.dds_protocol.proofs.DuesWritten.{none_written, reader_written, writer_written}
use Rattle.dds_protocol.proofs.RuledReaders.{Coming, grounds, Backs, Met, IsTakenAt}
use Rattle.dds_protocol.proofs.RuledTurns.{IsTelling, met_on, reader_taken}
use Rattle.dds_protocol.proofs.RuledWriters.{IsTaken, writer_taken}

-- what a step rests on: what is known is backed, the same are matched as when the packet came, and the changes of the
-- writers can be told
pub record Rests (c : Coming) (s : State) : Type 0 where
  pub backed : Backs c s
  pub met : Met c s
  pub tellable : AreTellable s.part

-- a step leaves what the next one rests on, and what is due then is true
pub record Keeps (c : Coming) (old : State) (dues : List Due) (new : State) : Type 0 where
  pub rests : Rests c new
  pub gains : Gains old.part new.part
  pub truthful : AreTruthful c.roster c.peer new.part dues
  pub writable : IsSized c.roster → HasSmallChanges old.part → All CanBeWritten dues

-- legal moves, after which what is due is true
keeps_moves : (c : Coming) (old : State) (made : List Move) (dues : List Due) (new : State) → Rests c old
    → AreMoves (grounds c) old.part made new.part → Backs c new → AreTruthful c.roster c.peer new.part dues
    → (IsSized c.roster → HasSmallChanges old.part → All CanBeWritten dues) → Keeps c old dues new
keeps_moves c old made dues new r moves backed truthful writable =
    let gains : Gains old.part new.part = AreMoves-gains (grounds c) old.part made new.part moves in
    record {
      rests = record {
        backed = backed;
        met = met_on c old made new r.met moves;
        tellable = tellable_gained old.part new.part gains r.tellable;
      };
      gains = gains;
      truthful = truthful;
      writable = writable;
    }

keeps_none : (c : Coming) (old : State) (dues : List Due) (new : State) → Rests c old → dues ≡ [] → new ≡ old
    → Keeps c old dues new
keeps_none c old dues new r none same = record {
  rests = subst (λ (s : State). Rests c s) (sym same) r;
  gains = subst (λ (s : State). Gains old.part s.part) (sym same) (gains_same old.part);
  truthful = none_due c new.part dues none;
  writable = λ sized small. none_written dues none;
}

keeps_on : (c : Coming) (old mid new : State) (first rest all : List Due) → all ≡ first ++ rest → Keeps c old first mid
    → Keeps c mid rest new → Keeps c old all new
keeps_on c old mid new first rest all is f g = record {
  rests = g.rests;
  gains = gains_on old.part mid.part new.part f.gains g.gains;
  truthful = subst (λ (ds : List Due). AreTruthful c.roster c.peer new.part ds) (sym is)
      (All-append (IsTruthful c.roster c.peer new.part) first rest
      (truthful_gained c.roster c.peer mid.part new.part g.gains first f.truthful) g.truthful);
  writable = λ sized small. subst (λ (ds : List Due). All CanBeWritten ds) (sym is)
      (All-append CanBeWritten first rest (f.writable sized small)
      (g.writable sized (small_gained old.part mid.part f.gains small)));
}

-- steps in turn keep what each of them keeps
in_turn : {X : Type 0} (c : Coming) (step : X → State → List Move → List Due → State → Type 0)
    → ((x : X) (old : State) (made : List Move) (dues : List Due) (new : State) → Rests c old
    → step x old made dues new → Keeps c old dues new)
    → (xs : List X) (old : State) (moves : List Move) (dues : List Due) (new : State) → Rests c old
    → InTurn step xs old moves dues new → Keeps c old dues new
in_turn c step each [] old moves dues new r h = keeps_none c old dues new r h.1 h.2
in_turn c step each (x ∷ xs) old moves dues new r h =
    let one : Keeps c old h.2 h.4 = each x old h.0 h.2 h.4 r h.7 in
    keeps_on c old h.4 new h.2 h.3 dues h.6 one (in_turn c step each xs h.4 h.1 h.3 new one.rests h.8)

-- a reader
reader_kept : (c : Coming) (s : Submessage) → c.submessage ≡ s → IsTelling s
    → (reader : ℕ) (old : State) (made : List Move) (dues : List Due) (new : State) → Rests c old
    → ReaderTakes c.roster c.own c.peer c.at s reader old made dues new → Keeps c old dues new
reader_kept c s is telling reader old made dues new r h =
    let one : IsTakenAt c s reader old made new = reader_taken c s is telling reader old made dues new r.backed r.met h in
    keeps_moves c old made dues new r one.moves one.backed (reader_truthful c s reader old made dues new h)
    (λ sized small. reader_written c s reader old made dues new sized one.backed h)

readers_kept : (c : Coming) (s : Submessage) → c.submessage ≡ s → IsTelling s
    → (old : State) (made : List Move) (dues : List Due) (new : State) → Rests c old
    → InTurn (ReaderTakes c.roster c.own c.peer c.at s)
    (numbers_from 1 (length old.part.rtps.readers)) old made dues new → Keeps c old dues new
readers_kept c s is telling old made dues new r h =
    in_turn c (ReaderTakes c.roster c.own c.peer c.at s) (reader_kept c s is telling)
    (numbers_from 1 (length old.part.rtps.readers)) old made dues new r h

-- a writer, as to one of its matched readers
writer_kept : (c : Coming) (a : AckNackBody) → c.submessage ≡ AckNack a → 1 ≤ a.reader_sn_state.base
    → (writer : ℕ) (p : ReaderProxy) (old : State) (made : List Move) (dues : List Due) (new : State) → Rests c old
    → WriterTakes c.roster c.own c.peer c.at a writer p.reader old made dues new → Keeps c old dues new
writer_kept c a is low writer p old made dues new r h =
    let one : IsTaken c old made new = writer_taken c a is writer p.reader old made dues new r.backed h in
    keeps_moves c old made dues new r one.moves one.backed
    (writer_truthful c a low writer p.reader old made dues new r.tellable h)
    (λ sized small. writer_written c a low writer p.reader old made dues new sized r.tellable small h)

writers_kept : (c : Coming) (a : AckNackBody) → c.submessage ≡ AckNack a → 1 ≤ a.reader_sn_state.base
    → (old : State) (made : List Move) (dues : List Due) (new : State) → Rests c old
    → Takes c.roster c.own c.peer c.at (AckNack a) old made dues new → Keeps c old dues new
writers_kept c a is low old made dues new r h =
    in_turn c (λ (writer : ℕ). InTurn (λ (p : ReaderProxy). WriterTakes c.roster c.own c.peer c.at a writer p.reader)
    (own_writer old.part writer).readers)
    (λ writer. in_turn c (λ (p : ReaderProxy). WriterTakes c.roster c.own c.peer c.at a writer p.reader)
    (writer_kept c a is low writer) (own_writer old.part writer).readers)
    (numbers_from 1 (length old.part.rtps.writers)) old made dues new r h

-- the base of an ACKNACK's set is a number of a change
abbrev pub HasBase : Submessage → Type 0
HasBase (AckNack a) = 1 ≤ a.reader_sn_state.base
HasBase other = Unit {0}

-- What is due once a submessage was taken up is true.
pub takes_kept : (c : Coming) (s : Submessage) → c.submessage ≡ s → HasBase s
    → (old : State) (made : List Move) (dues : List Due) (new : State) → Rests c old
    → Takes c.roster c.own c.peer c.at s old made dues new → Keeps c old dues new
takes_kept c (AckNack a) is low old made dues new r h = writers_kept c a is low old made dues new r h
takes_kept c (Data d) is low old made dues new r h = readers_kept c (Data d) is tt old made dues new r h
takes_kept c (Gap g) is low old made dues new r h = readers_kept c (Gap g) is tt old made dues new r h
takes_kept c (Heartbeat b) is low old made dues new r h = readers_kept c (Heartbeat b) is tt old made dues new r h
takes_kept c Pad is low old made dues new r h = readers_kept c Pad is tt old made dues new r h
takes_kept c (InfoDst x) is low old made dues new r h = readers_kept c (InfoDst x) is tt old made dues new r h
takes_kept c (InfoTs x) is low old made dues new r h = readers_kept c (InfoTs x) is tt old made dues new r h
takes_kept c (Other x) is low old made dues new r h = readers_kept c (Other x) is tt old made dues new r h
