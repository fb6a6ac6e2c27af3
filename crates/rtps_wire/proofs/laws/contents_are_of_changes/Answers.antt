use Rattle.rtps_wire.proofs.ContentLaws.{change_in-content_of, content_of-change_in}
use Rattle.rtps_wire.proofs.laws.contents_are_of_changes.Goals as goal

pub returns-clause-change : goal.returns-clause-change
returns-clause-change c = change_in-content_of

pub returns-clause-content : goal.returns-clause-content
returns-clause-content c = content_of-change_in
