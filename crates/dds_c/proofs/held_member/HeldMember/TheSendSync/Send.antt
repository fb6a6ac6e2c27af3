-- A member that is held may go to another thread.
use mir.Raw.{raw}
use base.Shift.{Keyless}
use denote.Memory.{lone}
use denote.RawPtr.{Ptr}
use denote.Struct.Struct.{exits_of}
use denote.Struct.Owning.{shape, fields, to}
use denote.Param.Send.{IsSend, AllSend, owning_send, struct_send, sendable}
use Rattle.std.proofs.Crossing as heap
use Rattle.std_alloc.proofs.SendSync.{quiet, lies}
use Rattle.std_heap.proofs.Global.TheSendSync as handle
use Rattle.std.specs.Global.{Global}
use Rattle.std.specs.declared.option.Option.{Option}
use Rattle.std.specs.declared.option.Option.TheVariants.{None, Some}
use Rattle.dds_c.specs.HeldMember.{member_owns}
use Rattle.dds_c.specs.contracts.member.Member as Member
use Rattle.dds_c.proofs.member.Member.TheSendSync.{the_send as member}
use Rattle.dds_c.specs.contracts.held_member.HeldMember.{the_row, the_type}

-- what is held is bound to no thread
anywhere : (a : Global) (p : Ptr) (o : Option (Member.the_row).Denot) → Keyless (member_owns a p o)
anywhere a p None = tt
anywhere a p (Some s) = (lies Member.the_row member p s, heap.frees.frees a (raw (lone Member.the_row.mir)) p)

pub send : IsSend the_row
send =
    let all : AllSend (fields the_type) = (search sendable, (handle.the_field_send, tt)) in
    owning_send the_type all (λ d. anywhere d.alloc d.at d.member)
    (λ k. quiet (to the_type) (exits_of k (fields the_type)) ((struct_send (shape the_type) all).leaving k))
