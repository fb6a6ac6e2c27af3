-- A reader that is not behind, and that no HEARTBEAT told of its writer: the two stand as before the tick.
use Rattle.std.proofs.Common.{◌≡◌, ◌⊎◌, ℕ, ◌+◌, ◌<◌, ◌≤◌, true, false, nat_le, List, [], Option, Some, None, length, refl, subst, ap, sym, ◌∙◌, inl, inr, ⊎_elim, arith}
use Rattle.std.specs.Option.{option_map, option_map_or}
use Rattle.std.proofs.lemmas.Bool.Decides.{nat_tests}
use Rattle.dds_protocol.specs.Roster.{Roster}
use Rattle.dds_base.specs.declared.endpoint.Endpoint.{Endpoint}
use Rattle.dds_machine.specs.declared.event.WorldEvent.TheVariants as world
use Rattle.dds_machine.specs.Machine.{part_at, writer_at}
use Rattle.dds_machine.specs.Numbered.{numbered}
use Rattle.dds_machine.specs.Part.{Attachment, Away, Waiting, Begun as HasBegun, IsCovered, NoLess, Part, ReaderProxy, Writer, WriterProxy, own_proxies, own_writer, acknowledged_of, how_of, is_attached, is_reader_behind, owed_from, place_of, row_of, writer_changes}
use Rattle.rtps_reader.specs.Tracked.{Tracked}
use Rattle.dds_protocol.specs.Bounds.{IsBounded}
use Rattle.dds_protocol.specs.Closed.{IsClosed}
use Rattle.dds_protocol.specs.Fresh.{tracked_at}
use Rattle.dds_protocol.specs.Protocol.{Known}
use Rattle.dds_protocol.specs.Repair.{HasCaughtUp, StandsAt}
use Rattle.dds_protocol.specs.World.{Sound, WorldState, machine_of, peer_at}
use Rattle.dds_protocol.proofs.Alike.{AlikeParts}
use Rattle.dds_protocol.proofs.ClosedSteps.{acknowledges_no_more}
use Rattle.dds_protocol.proofs.Composed.{parts_at}
use Rattle.dds_protocol.proofs.EndsBeside.{world_beside}
use Rattle.dds_protocol.proofs.PairBegun.{Begun, Missed, left as ticked_left, noted_beat, noted_tick, place_is, rows_heard, writer_is}
use Rattle.dds_protocol.proofs.PairEnded.{known_ended}
use Rattle.dds_protocol.proofs.PairTicked.{TickLeaves}

-- what the two have of each other is as it was
pub record LeavesPair (old new : WorldState) (writer reader : Endpoint) : Type 0 where
  pub readers : length (peer_at new reader.peer).part.dds.readers ≡ length (peer_at old reader.peer).part.dds.readers
  pub proxies : own_proxies (peer_at new reader.peer).part reader.number
      ≡ own_proxies (peer_at old reader.peer).part reader.number
  pub known : (tracked_at new writer reader).place ≡ (tracked_at old writer reader).place
  pub rows : (own_writer (peer_at new writer.peer).part writer.number).readers
      ≡ (own_writer (peer_at old writer.peer).part writer.number).readers

-- so it is after a tick
pub tick_leaves_pair : (old new : WorldState) (writer reader : Endpoint) → ((p : ℕ) → TickLeaves old new p)
    → LeavesPair old new writer reader
tick_leaves_pair old new writer reader left = record {
  readers = (left reader.peer).readers;
  proxies = ap (λ (rows : List (List WriterProxy)). numbered rows reader.number []) (left reader.peer).rows;
  known = ap (λ (t : Tracked). t.place) ((left reader.peer).known.tracked writer reader.number);
  rows = (left writer.peer).acknowledged writer.number;
}

-- and after a HEARTBEAT that did not tell the reader
pub missed_leaves_pair : (c : Begun) → Missed c → LeavesPair c.old (noted_beat c) c.writer c.reader
missed_leaves_pair c m =
    record {
      readers = alike.readers ∙ (m.of.spares.keeps.readers ∙ ticked.readers);
      proxies =
          ap (λ (rows : List (List WriterProxy)). numbered rows c.reader.number []) alike.rows
          ∙ (m.of.spares.same.proxies ∙ ticked.proxies);
      known =
          ap (λ (k : Known). (k.tracked c.writer c.reader.number).place)
          (known_ended (noted_tick c) (world.Deliver c.reader.peer c.begins.hears.number) c.heard c.reader.peer)
          ∙ (ap (λ (t : Tracked). t.place) (m.of.spares.same.tracked c.writer) ∙ ticked.known);
      rows = rows_heard c;
    }
  where
    alike : AlikeParts (peer_at c.heard c.reader.peer).part (peer_at (noted_beat c) c.reader.peer).part
    alike =
        (world_beside (noted_tick c) (world.Deliver c.reader.peer c.begins.hears.number) c.heard).parts c.reader.peer

    ticked : LeavesPair c.old (noted_tick c) c.writer c.reader
    ticked = tick_leaves_pair c.old (noted_tick c) c.writer c.reader (ticked_left c)

-- ---- they stand as before

pub still_stands : (old new : WorldState) (writer reader : Endpoint) (place acknowledged : ℕ)
    → LeavesPair old new writer reader → StandsAt old writer reader place acknowledged
    → StandsAt new writer reader place acknowledged
still_stands old new writer reader place acknowledged left s = record {
  here =
      subst (λ (n : ℕ). (1 ≤ reader.number) × (reader.number ≤ n)) (sym left.readers) s.here;
  place_is =
      place_is new reader writer
      ∙ (ap (λ (rows : List WriterProxy). place_of rows writer) left.proxies
      ∙ (sym (place_is old reader writer) ∙ s.place_is));
  attached = ap (λ (rows : List WriterProxy). is_attached (how_of rows writer)) left.proxies ∙ s.attached;
  known = left.known ∙ s.known;
  acknowledged_is =
      ap (λ (w : Writer). acknowledged_of w.readers reader) (writer_is new writer)
      ∙ (ap (λ (rows : List ReaderProxy). acknowledged_of rows reader) left.rows
      ∙ (sym (ap (λ (w : Writer). acknowledged_of w.readers reader) (writer_is old writer)) ∙ s.acknowledged_is));
}

-- where the reader has begun, is not behind, and the writer has no more of it than its place, it has caught up already
pub had_caught_up : (old new : WorldState) (writer reader : Endpoint) (place acknowledged last : ℕ)
    → LeavesPair old new writer reader → StandsAt old writer reader place acknowledged
    → how_of (own_proxies (peer_at old reader.peer).part reader.number) writer ≡ HasBegun → last < acknowledged
    → acknowledged ≤ place → place ≤ last + 1 → HasCaughtUp new writer reader place last
had_caught_up old new writer reader place acknowledged last left s begun past low high = record {
  place = place;
  acknowledged = acknowledged;
  stands = still_stands old new writer reader place acknowledged left s;
  begun = ap (λ (rows : List WriterProxy). how_of rows writer) left.proxies ∙ begun;
  reached = inl (omega (arith, past, low));
  told = omega (arith, past, high);
}

-- ---- a reader that is not behind

-- a place that is there has begun, where nobody has come or left
begun_where_placed : (rows : List WriterProxy) (writer : Endpoint) (place : ℕ) → place_of rows writer ≡ Some place
    → ((row : WriterProxy) → row_of (λ (p : WriterProxy). p.writer) rows writer ≡ Some row → row.how ≡ HasBegun)
    → how_of rows writer ≡ HasBegun
begun_where_placed rows writer place at begun = by (row_of (λ (p : WriterProxy). p.writer) rows writer) refl
  where
    by : (o : Option WriterProxy) → row_of (λ (p : WriterProxy). p.writer) rows writer ≡ o
        → how_of rows writer ≡ HasBegun
    by None e =
        let none : ◌≡◌ {A = Option ℕ} None (Some place) =
        sym (ap (λ (x : Option WriterProxy). option_map (λ (p : WriterProxy). p.place) x) e) ∙ at in
        cc
    by (Some row) e =
        ap (λ (x : Option WriterProxy). option_map_or (λ (p : WriterProxy). p.how) x Away) e ∙ begun row e

module _ (roster : Roster) (old new : WorldState) (writer reader : Endpoint) (place acknowledged : ℕ)
    (sound : Sound roster old) (bounded : IsBounded (machine_of old)) (left : LeavesPair old new writer reader)
    (s : StandsAt old writer reader place acknowledged)
    (past : length (writer_changes (writer_at (machine_of old) writer)) < acknowledged) where
  abbrev w : Writer
  w = writer_at (machine_of old) writer

  abbrev last : ℕ
  last = length (writer_changes w)

  abbrev how : Attachment
  how = how_of (own_proxies (part_at (machine_of old) reader.peer) reader.number) writer

  -- the writer has no more of it than its place, or than it owes
  covered : (acknowledged ≤ owed_from w reader) ⊎ (acknowledged ≤ place)
  covered =
      subst (λ (o : Option ℕ). IsCovered o (owed_from w reader) (Some place)) s.acknowledged_is
      (subst (λ (o : Option ℕ). IsCovered (acknowledged_of w.readers reader) (owed_from w reader) o) s.place_is
      (sound.acknowledged writer reader))

  acknowledged_all : is_reader_behind w reader ≡ false
  acknowledged_all =
      ap (λ (o : Option ℕ). option_map_or (λ a. nat_le a last) o false) s.acknowledged_is
      ∙ is_past acknowledged last past
    where
      is_past : (a b : ℕ) → b < a → nat_le a b ≡ false
      is_past a b past = grind (arith, nat_tests, past)

  caught : how ≡ HasBegun → acknowledged ≤ place → HasCaughtUp new writer reader place last
  caught begun low =
      had_caught_up old new writer reader place acknowledged last left s
      (ap (λ (p : Part). how_of (own_proxies p reader.number) writer) (sym (parts_at old reader.peer)) ∙ begun) past low
      (bounded reader writer place s.place_is)

  -- so it has where nobody has come or left
  closed_caught : IsClosed (machine_of old) → HasCaughtUp new writer reader place last
  closed_caught closed =
      caught
      (begun_where_placed (own_proxies (part_at (machine_of old) reader.peer) reader.number) writer place s.place_is
      (closed.begun reader writer))
      (subst (λ (o : Option ℕ). NoLess o (Some place)) s.acknowledged_is
      (subst (λ (o : Option ℕ). NoLess (acknowledged_of w.readers reader) o) s.place_is
      (acknowledges_no_more roster old writer reader sound closed)))

  -- it is owed nothing, or waits; or it has caught up
  abbrev pub IsOwedNoneOrWaits : Type 0
  IsOwedNoneOrWaits = (is_reader_behind w reader ≡ false) × ((last < owed_from w reader) ⊎ (how ≡ Waiting))

  pub not_behind : (IsOwedNoneOrWaits × (IsClosed (machine_of old) → HasCaughtUp new writer reader place last))
      ⊎ HasCaughtUp new writer reader place last
  not_behind =
      ⊎_elim (λ low. inl ((acknowledged_all, inl (omega (arith, past, low))), closed_caught)) (λ low. by how refl low)
      covered
    where
      by : (x : Attachment) → how ≡ x → acknowledged ≤ place
          → (IsOwedNoneOrWaits × (IsClosed (machine_of old) → HasCaughtUp new writer reader place last))
          ⊎ HasCaughtUp new writer reader place last
      by Away e low =
          let met : is_attached how ≡ true =
          ap (λ (p : Part). is_attached (how_of (own_proxies p reader.number) writer)) (parts_at old reader.peer)
          ∙ s.attached in
          let no = sym (ap (λ (x : Attachment). is_attached x) e) ∙ met in absurd cc
      by Waiting e low = inl ((acknowledged_all, inr e), closed_caught)
      by HasBegun e low = inr (caught e low)
