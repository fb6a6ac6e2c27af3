-- What the filters and the listeners of a session mean.
--
-- DDS 1.4, 2.2.2.5 (QueryCondition), 2.2.4.3 (access through listeners).
use Rattle.std.specs.Prelude.{◌≡◌, ℕ, List, Bool, nat_eq}
use Rattle.std.specs.List.{starts_with}
use Rattle.dds_base.specs.declared.key.Key.{Key}
use Rattle.dds_notices.specs.Notices.{Recording, told}
use Rattle.dds_notices.specs.declared.notice.Notice.{Notice}
use Rattle.dds_script.specs.declared.prefix.Prefix.{Prefix}

-- a value passes that begins with the octets of the filter
abbrev pub prefix_meaning : Prefix → Key → List ℕ → Bool
prefix_meaning p key value = starts_with nat_eq value p.0

-- the notices that a recorder keeps
abbrev pub recorder_notices : Recording → List Notice
recorder_notices r = r.notices

-- how many it can keep
abbrev pub recorder_capacity : Recording → ℕ
recorder_capacity r = r.room

-- it becomes what has kept the notice
abbrev pub recorder_becomes : Recording → Notice → Recording → Type 0
recorder_becomes r notice after = after ≡ record r { notices = told r.room r.notices notice }
