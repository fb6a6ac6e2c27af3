use Rattle.dds_ends.proofs.ByName.{bare_one}
use Rattle.dds_ends.proofs.heartbeat.push_beat.Goals as goal

pub returns-clause-bare : goal.returns-clause-bare
returns-clause-bare c =
    bare_one c.beat_for.result c.args.submessages.now c.push.new.self c.beat_for.ensures.spells
    c.beat_for.ensures.bare c.in_ok-push.ensures.ok
