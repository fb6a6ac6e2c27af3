use Rattle.dds_base.proofs.LifeLaws.{handle-given, handle-kept, handle-new}
use Rattle.dds_base.proofs.laws.no_handle_is_given_again.Goals as goal

pub returns-clause-kept : goal.returns-clause-kept
returns-clause-kept c = λ q i h e before now. handle-kept q i h e now before

pub returns-clause-given : goal.returns-clause-given
returns-clause-given c = λ q i h. handle-given q i h

pub returns-clause-new : goal.returns-clause-new
returns-clause-new c = λ q i h e new known. handle-new q i h e new known
