use Rattle.std.proofs.Common.{◌<◌, length, rules}
use Rattle.dds_core.proofs.Accessing.{accessed_at, is_access}
use Rattle.dds_core.proofs.peer.Peer.access.Goals as goal

pub returns-clause-step : goal.returns-clause-step
returns-clause-step c = λ roster peer given.
    let within : c.in-Some.index < length c.self.inside.readers.items = search rules in
    let done = c.access-samples in
    accessed_at c.in-Some.index c.index_mut.result.now done.new.self roster peer c.self.view_is given
    (is_access c.args.kind peer.part c.args.reader c.args.selection) c.in-Some.ensures.index.0 within
    c.index_mut.ensures.value
    done.ensures.same done.result done.ensures.answer done.ensures.after _ _ c.answered.ensures
    c.reply_to_access.ensures
