-- With whom our endpoints are matched (DDS 1.4, 2.2.2.4: get_matched_subscriptions, 2.2.2.5: get_matched_publications).
use Rattle.std.specs.Prelude.{◌≡◌, ℕ, Bool, false, List, filter, find, Option, Some}
use Rattle.std.specs.Option.{option_and_then, option_map_or}
use Rattle.rtps_announcements.specs.declared.qos.EndpointKind.{EndpointKind}
use Rattle.rtps_matching.specs.declared.end.End.{End}
use Rattle.rtps_matching.specs.declared.far.Far.{Far}
use Rattle.rtps_matching.specs.Matches.{is_far, is_matched, is_named}
use Rattle.dds_exchange.specs.declared.naming.NamedEnd.{NamedEnd}
use Rattle.dds_exchange.specs.Naming.{guid_at}
use Rattle.dds_domain.specs.Participants.{State}

-- our writer or our reader of a number, as it is announced
abbrev pub own_at : State → EndpointKind → ℕ → Option End
own_at a kind number = option_and_then (λ guid. find (is_named guid) a.discovery.endpoints.own)
    (guid_at a.sharing.exchange.own kind number a.sharing.exchange.writers a.sharing.exchange.readers)

-- one of others that has a name is matched with one of ours: its participant is there, and what it announced last fits
abbrev pub is_matched_end : End → List Far → NamedEnd → Bool
is_matched_end own far end = option_map_or (is_matched own) (find (is_far end.guid) far) false

-- These are those that one of ours is matched with, in the order of their names.
pub record AreMatched (a : State) (kind : EndpointKind) (number : ℕ) (ends : List NamedEnd) : Type 0 where
  pub own : End
  pub is : own_at a kind number ≡ Some own
  pub ends_are : ends ≡ filter (is_matched_end own a.discovery.endpoints.far) a.sharing.exchange.named
