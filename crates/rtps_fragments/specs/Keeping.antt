-- What is kept of a writer: its numbers of which some fragments came, and not all (RTPS 2.5, 8.3.8.3 and 8.4.14.1).
use Rattle.std.specs.Prelude.{◌≡◌, ℕ, ◌+◌, ◌-◌, ◌≤◌, ◌==◌, ◌&&◌, Bool, true, false, List, [], ◌∷◌, ◌++◌, length, take, drop, replicate, remove, Option, Some, None, nat_lt, slice_index_or, slice_set, if◌then◌else◌}
use Rattle.std.specs.Option.{option_map_or}
use Rattle.std.specs.List.{list_all, position}
use Rattle.rtps_fragments.specs.DataFrag.{Fragment, count_of, max_carried, place_of}

-- A payload of which some fragments came: its octets, zeros where none came, and which fragments did.
pub record Kept : Type 0 where
  pub writer_sn : ℕ
  pub fragment_size : ℕ
  pub sample_size : ℕ
  pub flags : ℕ
  pub timestamp : Option ℕ
  pub parameters : List ℕ
  pub octets : List ℕ
  pub came : List Bool

-- a payload by what is kept of it
abbrev pub kept_of : ℕ → ℕ → ℕ → ℕ → Option ℕ → List ℕ → List ℕ → List Bool → Kept
kept_of sn size whole flags timestamp parameters octets came = record {
  writer_sn = sn;
  fragment_size = size;
  sample_size = whole;
  flags = flags;
  timestamp = timestamp;
  parameters = parameters;
  octets = octets;
  came = came;
}

-- It has as many octets as the payload, and is told of each fragment whether it came. A DATA can carry it.
pub record IsKept (k : Kept) : Type 0 where
  pub octets : length k.octets ≡ k.sample_size
  pub came : length k.came ≡ count_of k.sample_size k.fragment_size
  pub carried : length k.parameters + k.sample_size ≤ max_carried

-- a list with others in place of as many of its own
abbrev pub overlaid : {A : Type 0} → List A → ℕ → List A → List A
overlaid xs place ys = take place xs ++ ys ++ drop (place + length ys) xs

-- the payload of a DATA_FRAG's number, before a fragment came
abbrev pub nothing_of : Fragment → Kept
nothing_of f =
    kept_of f.writer_sn f.fragment_size f.sample_size f.flags None [] (replicate f.sample_size 0)
    (replicate (count_of f.sample_size f.fragment_size) false)

-- The flags, the timestamp and the parameters of the DATA are those that came with the first fragment: a product need
-- not say them with the others.
abbrev pub opened : Kept → Fragment → Option ℕ → Kept
opened k f timestamp =
    kept_of k.writer_sn k.fragment_size k.sample_size (if f.fragment_starting_num == 1 then f.flags else k.flags)
    (if f.fragment_starting_num == 1 then timestamp else k.timestamp)
    (if f.fragment_starting_num == 1 then f.parameters else k.parameters) k.octets k.came

-- The fragments stand in their places, and are marked as come.
abbrev pub placed : Kept → Fragment → Kept
placed k f =
    kept_of k.writer_sn k.fragment_size k.sample_size k.flags k.timestamp k.parameters
    (overlaid k.octets (place_of f) f.octets)
    (overlaid k.came (f.fragment_starting_num - 1) (replicate f.fragments_in_submessage true))

-- what is kept once these fragments have come too, at this timestamp
abbrev pub with_fragments : Kept → Fragment → Option ℕ → Kept
with_fragments k f timestamp = placed (opened k f timestamp) f

-- every fragment came
abbrev pub is_whole : Kept → Bool
is_whole k = list_all (λ came. came) k.came

-- it is this number
abbrev pub is_number : ℕ → Kept → Bool
is_number sn k = k.writer_sn == sn

-- a DATA_FRAG is of the same fragment size and the same whole length
abbrev pub is_alike : Kept → Fragment → Bool
is_alike k f = k.fragment_size == f.fragment_size && k.sample_size == f.sample_size

-- How many numbers of a writer are kept at a time. The bound is this project's: so many payloads of the longest that a
-- DATA carries have less than 2^20 octets.
abbrev pub max_numbers : ℕ
max_numbers = 16

-- the numbers that stay where one came in: the first of too many makes room
abbrev pub latest : List Kept → List Kept
latest kept = if nat_lt max_numbers (length kept) then drop 1 kept else kept

-- What is kept after a DATA_FRAG, and the payload that it made whole.
pub record Heard : Type 0 where
  pub kept : List Kept
  pub whole : Option Kept

-- a number that was not kept: it comes in behind the others, unless it is whole at once
abbrev pub begun : List Kept → Kept → Heard
begun kept k =
    if is_whole k then record { kept = kept; whole = Some k }
    else record { kept = latest (kept ++ k ∷ []); whole = None }

-- the number at a place, with more fragments: it stays there until it is whole
abbrev pub gone_on : List Kept → ℕ → Kept → Heard
gone_on kept i k =
    if is_whole k then record { kept = remove kept i; whole = Some k }
    else record { kept = slice_set kept i k; whole = None }

-- what is kept at a place hears a DATA_FRAG of its number, which is taken in if it is alike
abbrev pub heard_at : List Kept → ℕ → Kept → Fragment → Option ℕ → Heard
heard_at kept i k f timestamp =
    if is_alike k f then gone_on kept i (with_fragments k f timestamp) else record { kept = kept; whole = None }

-- A DATA_FRAG goes to its number where that is kept, and begins it where not.
abbrev pub heard : List Kept → Fragment → Option ℕ → Heard
heard kept f timestamp =
    option_map_or (λ i. heard_at kept i (slice_index_or kept i (nothing_of f)) f timestamp)
    (position (is_number f.writer_sn) kept) (begun kept (with_fragments (nothing_of f) f timestamp))
