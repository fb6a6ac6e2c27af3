-- What a peer knows is what the packets that came to it claim.
--
-- A notion of this project, of what a reader knows by RTPS 2.5, 8.4.10 (WriterProxy, ChangeFromWriter), and a
-- packet says by 8.3.8.
use Rattle.std.specs.Prelude.{◌≡◌, ℕ, ◌≤◌, true, false, List, [], None, Some, ℤ, Contains}
use Rattle.dds_base.specs.declared.change.Change.{Change}
use Rattle.dds_protocol.specs.Roster.{Roster}
use Rattle.dds_base.specs.Counts.{is_later}
use Rattle.rtps_reader.specs.Tracked.{Held, Tracked, is_passable}
use Rattle.dds_base.specs.declared.endpoint.Endpoint.{Endpoint}
use Rattle.dds_protocol.specs.Claims.{ChangeIs, MayPass, Claimed}
use Rattle.dds_machine.specs.Matching.{is_known}
use Rattle.dds_machine.specs.Numbered.{HasNumber, numbered}
use Rattle.dds_machine.specs.declared.call.Call.{Call}
use Rattle.dds_machine.specs.declared.reply.Reply.{Reply}
use Rattle.dds_machine.specs.Calls.{CallStep}
use Rattle.dds_machine.specs.Part.{Part, own_proxies, place_of, heard_of}
use Rattle.dds_machine.specs.Watching.{Tests}
use Rattle.dds_protocol.specs.Peer.{Delivery, IsApplied}
use Rattle.dds_protocol.specs.Protocol.{State}

-- the peer's reader of this number
abbrev pub reader_at : ℕ → ℕ → Endpoint
reader_at peer reader = record { peer = peer; number = reader }

-- from its place on, these packets claim what a reader holds of a writer, and what it may pass over
pub record IsClaimed (roster : Roster) (peer : ℕ) (packets : List (List ℕ)) (writer : Endpoint) (reader : ℕ)
    (t : Tracked) : Type 0 where
  pub from : 1 ≤ t.place
  pub change : (n : ℕ) (c : Change) → t.place ≤ n → t.slot n ≡ Held c
      → Claimed roster packets (ChangeIs writer (reader_at peer reader) n c)
  pub pass : (n : ℕ) → t.place ≤ n → is_passable t n ≡ true
      → Claimed roster packets (MayPass writer (reader_at peer reader) n)

-- the reader took no HEARTBEAT of a greater count of the writer, by these deliveries
abbrev pub TookNone : Roster → ℕ → List Delivery → Endpoint → ℕ → Tracked → Type 0
TookNone roster peer deliveries writer reader t =
    (delivery : Delivery) (count : ℤ) → Contains deliveries delivery
    → IsApplied roster delivery writer (reader_at peer reader) count → is_later t.count count ≡ false

-- all that a peer knows is claimed by these packets, and these deliveries told nothing newer; the place that it knows
-- is that of the row, and 1 where there is none; and a writer that a reader knew when one of these deliveries came is
-- still known to it
pub record IsBacked (roster : Roster) (peer : ℕ) (packets : List (List ℕ)) (deliveries : List Delivery)
    (state : State) : Type 0 where
  pub place : (w : Endpoint) (r p : ℕ) → place_of (own_proxies state.part r) w ≡ Some p
      → (state.known.tracked w r).place ≡ p
  pub unknown : (w : Endpoint) (r : ℕ) → place_of (own_proxies state.part r) w ≡ None
      → (state.known.tracked w r).place ≡ 1
  pub claimed : (w : Endpoint) (r : ℕ) → IsClaimed roster peer packets w r (state.known.tracked w r)
  pub newest : (w : Endpoint) (r : ℕ) → HasNumber state.part.rtps.readers r
      → TookNone roster peer deliveries w r (state.known.tracked w r)
  pub heard : (w : Endpoint) (r : ℕ) (count : ℤ) → heard_of (own_proxies state.part r) w ≡ Some (Some count)
      → is_later (state.known.tracked w r).count count ≡ false
  pub then : (d : Delivery) (r : ℕ) (w : Endpoint) → Contains deliveries d → is_known (numbered d.rows r []) w ≡ true
      → is_known (own_proxies state.part r) w ≡ true

-- so it is after a call, whoever is told by it that a writer and a reader are matched, or no longer
abbrev pub CallsBacked : Type 0
CallsBacked = (roster : Roster) (peer : ℕ) (packets : List (List ℕ)) (deliveries : List Delivery) (old : State)
    (tests : Tests) (call : Call) (reply : Reply) (after : Part) → CallStep tests old.part call reply after
    → IsBacked roster peer packets deliveries old
    → IsBacked roster peer packets deliveries (record old { part = after })
