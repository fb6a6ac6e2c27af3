-- The inline parameters of a DATA (RTPS 2.5, 9.4.2: ParameterList; 9.6: strength, key hash and status info).
--
-- 0...............8...............16..............24.............31
-- |              id               |            length             |
-- |            value: as many octets, a multiple of 4             |
-- |                             ...                               |
-- |         PID_SENTINEL          |        not looked at          |
use Rattle.std.specs.Prelude.{◌≡◌, ◌≢◌, ℕ, ◌<◌, ◌%◌, ◌^◌, ◌==◌, List, [], ◌∷◌, ◌++◌, length, Option, Some, None, if◌then◌else◌, slice_index, unwrap_or}
use Rattle.std.specs.Int.{w16}
use Rattle.dds_base.specs.declared.endianness.Endianness.{Endianness}
use Rattle.dds_base.specs.Fields.{number}
use Rattle.rtps_wire.specs.Names.{len_aligned, len_key, len_ownership_strength, len_status_info, pid_key_hash, pid_ownership_strength, pid_sentinel, pid_status_info}

-- a parameter before the sentinel
pub record Parameter : Type 0 where
  pub id : ℕ
  pub value : List ℕ

-- id, length, value
abbrev pub parameter_text : Endianness → Parameter → List ℕ
parameter_text order p = number order w16 p.id ++ number order w16 (length p.value) ++ p.value

-- A length is a multiple of 4. PID_KEY_HASH has the 16 octets of a key, PID_STATUS_INFO and
-- PID_OWNERSHIP_STRENGTH have 4.
pub record IsParameter (p : Parameter) : Type 0 where
  pub small : p.id < 2 ^ 16
  pub no_sentinel : p.id ≢ pid_sentinel
  pub short : length p.value < 2 ^ 16
  pub whole : length p.value % len_aligned ≡ 0
  pub key_hash : p.id ≡ pid_key_hash → length p.value ≡ len_key
  pub status : p.id ≡ pid_status_info → length p.value ≡ len_status_info
  pub strength : p.id ≡ pid_ownership_strength → length p.value ≡ len_ownership_strength

-- The bytes begin with these parameters and the sentinel, whose length is not looked at; rest follows.
abbrev pub ReadsParameters : Endianness → List ℕ → List Parameter → List ℕ → Type 0
ReadsParameters order bytes [] rest =
    (len : ℕ) × (len < 2 ^ 16) × (bytes ≡ number order w16 pid_sentinel ++ number order w16 len ++ rest)
ReadsParameters order bytes (p ∷ ps) rest =
    (after : List ℕ) × IsParameter p × (bytes ≡ parameter_text order p ++ after) × ReadsParameters order after ps rest

-- Of a repeated parameter the first counts.
abbrev pub parameter_value : ℕ → List Parameter → Option (List ℕ)
parameter_value id [] = None
parameter_value id (p ∷ ps) = if p.id == id then Some p.value else parameter_value id ps

-- the last octet of the status info, 0 where there is none
abbrev pub status_of : List Parameter → ℕ
status_of ps = slice_index (unwrap_or (parameter_value pid_status_info ps) []) 3
