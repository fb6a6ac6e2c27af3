-- What a round of repair rests on stays at the end of an event.
use Rattle.std.proofs.Common.{◌≡◌, ◌≤◌, ℕ, List, [], Some, ap, sym, ◌∙◌, subst}
use Rattle.dds_base.specs.declared.happening.Happening.{Happening}
use Rattle.dds_base.specs.Places.{Match}
use Rattle.dds_base.specs.declared.endpoint.Endpoint.{Endpoint}
use Rattle.dds_machine.specs.declared.event.WorldEvent.{WorldEvent}
use Rattle.dds_protocol.specs.Noticing.{world_ended}
use Rattle.dds_machine.specs.Numbered.{HasNumber, numbered}
use Rattle.dds_machine.specs.Part.{how_of, WriterProxy, own_reader, own_writer, place_of, publication_among, writer_changes}
use Rattle.dds_protocol.specs.Peer.{state_of}
use Rattle.dds_protocol.specs.Protocol.{Known}
use Rattle.dds_protocol.specs.World.{WorldState, peer_at}
use Rattle.dds_protocol.proofs.Alike.{AlikeParts, alike_readers}
use Rattle.dds_protocol.proofs.Contacts.{knows_on, knows_same}
use Rattle.dds_protocol.proofs.EndsBeside.{world_beside}
use Rattle.dds_protocol.proofs.PairReader.{Seat, standing, standing_of}
use Rattle.dds_protocol.proofs.PairTicked.{TickLeaves}

module _ (before : WorldState) (e : WorldEvent) (world : WorldState) (p : ℕ) where
  alike : AlikeParts (peer_at world p).part (peer_at (world_ended before e world) p).part
  alike = (world_beside before e world).parts p

  pub known_ended : (peer_at (world_ended before e world) p).known ≡ (peer_at world p).known
  known_ended = (world_beside before e world).known p

  -- a writer's matched readers, and its changes
  pub rows_ended : (k : ℕ) → (own_writer (peer_at (world_ended before e world) p).part k).readers
      ≡ (own_writer (peer_at world p).part k).readers
  rows_ended k =
      alike_readers (own_writer (peer_at world p).part k) (own_writer (peer_at (world_ended before e world) p).part k)
      (alike.writers k)

  pub changes_ended : (k : ℕ) → writer_changes (own_writer (peer_at (world_ended before e world) p).part k)
      ≡ writer_changes (own_writer (peer_at world p).part k)
  changes_ended k = (alike.writers k).changes

  -- how long its values may be
  pub values_ended : (k : ℕ) → (own_writer (peer_at (world_ended before e world) p).part k).max_value
      ≡ (own_writer (peer_at world p).part k).max_value
  values_ended k = (alike.writers k).grows.values

  -- what a tick leaves
  pub leaves_ended : (old : WorldState) → TickLeaves old world p → TickLeaves old (world_ended before e world) p
  leaves_ended old left = record {
    known =
        knows_on (peer_at old p).known (peer_at world p).known (peer_at (world_ended before e world) p).known left.known
        (knows_same (peer_at world p).known (peer_at (world_ended before e world) p).known known_ended);
    rows = alike.rows ∙ left.rows;
    readers = alike.readers ∙ left.readers;
    changes = λ k. changes_ended k ∙ left.changes k;
    acknowledged = λ k. rows_ended k ∙ left.acknowledged k;
    values = λ k. values_ended k ∙ left.values k;
  }

  -- the reader of a round
  pub seat_ended : (m : Match) (w : Endpoint) (r : ℕ) → Seat m w r (state_of (peer_at world p))
      → Seat m w r (state_of (peer_at (world_ended before e world) p))
  seat_ended m w r s = record {
    rows = subst (λ (xs : List (List WriterProxy)). HasNumber xs r) (sym alike.rows) s.rows;
    there = subst (λ (n : ℕ). (1 ≤ r) × (r ≤ n)) (sym alike.readers) s.there;
    handle = ap (λ (xs : List (List WriterProxy)). publication_among (numbered xs r []) w) alike.rows ∙ s.handle;
    qos = alike.qos r ∙ s.qos;
    moment = alike.moment ∙ s.moment;
    place = ap (λ (xs : List (List WriterProxy)). place_of (numbered xs r []) w) alike.rows
        ∙ (s.place ∙ ap (λ (k : Known). Some (k.tracked w r).place) (sym known_ended));
    stands = ap (λ (xs : List (List WriterProxy)). how_of (numbered xs r []) w) alike.rows ∙ s.stands;
  }

  pub standing_ended : (w : Endpoint) (r : ℕ) → standing_of (state_of (peer_at (world_ended before e world) p)) w r
      ≡ standing_of (state_of (peer_at world p)) w r
  standing_ended w r =
      ap (λ (k : Known). standing (k.tracked w r) (own_reader (peer_at (world_ended before e world) p).part r).happened)
      known_ended
      ∙ ap (λ (h : List Happening). standing ((peer_at world p).known.tracked w r) h) (alike.happened r)
