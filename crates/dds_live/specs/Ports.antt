-- The ports of a domain (RTPS 2.5, 9.6.2: PB = 7400, DG = 250, PG = 2, d0 = 0, d1 = 10).
use Rattle.std.specs.Prelude.{ℕ, ◌+◌, ◌*◌, ◌&&◌, Bool, List, min, nat_le, slice_index}

-- PB + DG * domainId + offset; 65535 where that is no port
abbrev pub port_at : ℕ → ℕ → ℕ
port_at domain offset = min (7400 + 250 * domain + offset) 65535

-- where the group of all participants hears announcements: d0
abbrev pub group_port : ℕ → ℕ
group_port domain = port_at domain 0

-- where the participant of an index hears them: d1 + PG * participantId
abbrev pub unicast_port : ℕ → ℕ → ℕ
unicast_port domain index = port_at domain (10 + 2 * index)

-- an address of a group: its first octet is 224 to 239
abbrev pub is_group : List ℕ → Bool
is_group address = nat_le 224 (slice_index address 0) && nat_le (slice_index address 0) 239
