-- A held box of a member and its parts own what a box at the same types owns.
use mir.Syntax.{impl, tnil, dnil}
use mathlib.Core.List.{[]}
use denote.Signature.{Slot, plain}
use Rattle.std_alloc.proofs.BoxSteps.Form.{Bx}
use Rattle.std_heap.specs.contracts.Global as Heap
use Rattle.std_heap.specs.contracts.GlobalAllocator.TheImpl.{ghosts, dict}
use Rattle.std_heap.proofs.Global.TheLaws as heap
use Rattle.dds_c.specs.contracts.member.Member as Member
use Rattle.dds_c.proofs.member.Member.TheLaws as member
use Rattle.dds_c.specs.contracts.parts.Parts as Parts
use Rattle.dds_c.specs.contracts.held_member.HeldMember as Held

abbrev pub E : Bx
E = record { row = Member.the_row; laws = member.the_row_laws; al = record { row = Heap.the_row; laws = heap.the_row_laws; g = ghosts; d = dict; drops = impl [] tnil dnil } }

abbrev pub FromParts : Slot 0
FromParts = plain (λ _. Parts.the_row Member.the_row Heap.the_row ghosts)

abbrev pub FromHeld : Slot 0
FromHeld = plain (λ _. Held.the_row)

abbrev pub FromHeap : Slot 0
FromHeap = plain (λ _. Heap.the_row)
