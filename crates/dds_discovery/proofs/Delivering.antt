-- A datagram speaks for its sender, and then comes at a link.
use Rattle.std.proofs.Common.{ℕ, List, Option, Some, None, sym, ap, subst, inl, inr}
use Rattle.dds_base.specs.declared.mask.Masks.{Masks}
use Rattle.rtps_discovery.specs.declared.packet.Packet.{Packet}
use Rattle.rtps_discovery.specs.declared.row.Told.{Told}
use Rattle.dds_discovery.specs.declared.link.Link.{Link}
use Rattle.dds_discovery.specs.Events.{Delivers, Hears, IsFor, IsTurnedAt, Takes, TakesTurned}
use Rattle.dds_discovery.specs.States.{State}

pub delivered : (masks : Masks) (s between new : State) (moment : ℕ) (address bytes : List ℕ) (told : Option Told)
    (packet : Option Packet) (place : ℕ) (turned : Option (List ℕ)) → Hears s moment address bytes between told packet
    → IsFor s address bytes (Some place) → IsTurnedAt s.links place bytes turned
    → TakesTurned masks bytes place turned between new → Delivers masks s moment address bytes new told packet
delivered masks s between new moment address bytes told packet place turned hears is_for is takes = record {
  between = between;
  place = Some place;
  hears = hears;
  is_for = is_for;
  takes = by_turned turned
      (subst (λ (ls : List Link). IsTurnedAt ls place bytes turned) (sym (ap (λ (x : State). x.links) hears.state)) is) takes;
}
  where
    by_turned : (o : Option (List ℕ)) → IsTurnedAt between.links place bytes o
        → TakesTurned masks bytes place o between new → Takes masks bytes place between new
    by_turned None t e = inr (t, e)
    by_turned (Some x) t k = inl (x, k.0, k.1, t, k.2)
