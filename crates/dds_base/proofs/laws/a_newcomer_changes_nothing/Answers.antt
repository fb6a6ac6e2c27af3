use Rattle.dds_base.proofs.JoinLaws.{alive-joined, dead-joined, kept-writer, newcomer-strength, next-writer, nobody-joined, registered-joined, state-joined}
use Rattle.dds_base.proofs.laws.a_newcomer_changes_nothing.Goals as goal

pub returns-clause-opening : goal.returns-clause-opening
returns-clause-opening c = nobody-joined

pub returns-clause-next : goal.returns-clause-next
returns-clause-next c = next-writer

pub returns-clause-kept : goal.returns-clause-kept
returns-clause-kept c = kept-writer

pub returns-clause-strength : goal.returns-clause-strength
returns-clause-strength c = newcomer-strength

pub returns-clause-registered : goal.returns-clause-registered
returns-clause-registered c = registered-joined

pub returns-clause-state : goal.returns-clause-state
returns-clause-state c = state-joined

pub returns-clause-alive : goal.returns-clause-alive
returns-clause-alive c = alive-joined

pub returns-clause-not_alive : goal.returns-clause-not_alive
returns-clause-not_alive c = dead-joined
