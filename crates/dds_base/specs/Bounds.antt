-- The bounds that definitions of several places name. Where a line cites no standard, the bound is this project's.
use Rattle.std.specs.Prelude.{ℕ, ◌-◌, ◌^◌}

-- the most peers of a configuration
abbrev pub max_peers : ℕ
max_peers = 16

-- the most writers of a peer, and the most readers of a peer
abbrev pub max_ends : ℕ
max_ends = 16

-- the most readers of all peers: `max_ends` at each of `max_peers`
abbrev pub max_readers : ℕ
max_readers = 256

-- the last number of a change that a writer makes
abbrev pub max_changes : ℕ
max_changes = 2 ^ 48

-- The greatest sequence number that a message names. The standard's type ends below 2^63 (RTPS 2.5, 8.3.5.4), which no
-- sum of such a number and a place of a set passes.
abbrev pub max_sn : ℕ
max_sn = 2 ^ 62

-- the greatest count of a HEARTBEAT, and of an ACKNACK: a count has 32 bits with a sign (RTPS 2.5, 8.3.8 and 9.4.2)
abbrev pub max_count : ℕ
max_count = 2 ^ 31 - 1

-- how many changes come at a reader in its life, unless its policy says another number: one less than the greatest that
-- RESOURCE_LIMITS can say (DDS 1.4, 2.2.3: a long)
abbrev pub usual_arrivals : ℕ
usual_arrivals = 2 ^ 31 - 2

-- the greatest number of them that its policy can say
abbrev pub most_arrivals : ℕ
most_arrivals = 2 ^ 63

-- From here on, in units of 2^-32 second, there are no moments and no leases: the seconds of a Time_t have 32 bits with
-- a sign (DDS 1.4, 2.3.3).
abbrev pub end_of_moments : ℕ
end_of_moments = 2 ^ 63

-- the width of a reader's window, and of a set: the members of one lie within so many numbers (RTPS 2.5, 8.3.5.5)
abbrev pub window_width : ℕ
window_width = 256

-- the octets of a key: as many as a KeyHash has (RTPS 2.5, 9.6: PID_KEY_HASH)
abbrev pub key_octets : ℕ
key_octets = 16

-- The longest value, in octets. With a message around it, it stands in a datagram of UDP over IPv4; clause 10 of RTPS 2.5
-- has a length of 4 octets, and no other bound.
abbrev pub greatest_value : ℕ
greatest_value = 65000

-- the longest value of a writer and of a reader, unless its policy says another number
abbrev pub usual_value : ℕ
usual_value = 1024
