-- What a handle that C keeps of a participant owns: a box with a member, or nothing.
use base.Fml.{Fml, ftrue}
use base.Stored.{Coded}
use denote.RawPtr.{Ptr}
use Rattle.std.specs.Box.Ownership.{box_owns}
use Rattle.std.specs.Coded.{coded_option}
use Rattle.std.specs.Global.{Global}
use Rattle.std.specs.Prelude.{Bool, true, false}
use Rattle.std.specs.declared.option.Option.{Option}
use Rattle.std.specs.declared.option.Option.TheVariants.{None, Some}
use Rattle.std_heap.specs.contracts.GlobalAllocator.TheImpl.{ghosts}
use Rattle.dds_c.specs.contracts.member.Member.{the_row}

-- what an address owns: nothing, or the box of a member
abbrev pub member_owns : Global → Ptr → Option the_row.Denot → Fml
member_owns alloc p None = ftrue
member_owns alloc p (Some s) = box_owns (ghosts.dealloc_token alloc) the_row p s

-- how a member that may be there is coded
abbrev pub member_coded : Coded (Option the_row.Denot)
member_coded = coded_option the_row.coded

-- whether a handle has a member
abbrev pub has_member : Option the_row.Denot → Bool
has_member None = false
has_member (Some s) = true
