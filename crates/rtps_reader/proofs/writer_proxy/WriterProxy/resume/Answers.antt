use Rattle.rtps_reader.proofs.MoveLaws.{carried, same_is}
use Rattle.rtps_reader.proofs.writer_proxy.WriterProxy.resume.Goals as goal

pub returns-clause-moves : goal.returns-clause-moves
returns-clause-moves g c =
    let made = c.in_ok-reserve.ensures in
    carried _ _ c.args.source.now _ _ _ _ _ c.moved.result.to c.moved.result.passed _ made.qos made.stands
    (same_is _ _ made.same) c.moved.ensures.moves
