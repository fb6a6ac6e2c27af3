use Rattle.std.proofs.Common.{subst}
use Rattle.rtps_reader.specs.Attached.{HasOneMore}
use Rattle.rtps_reader.specs.Reader.{Proxies}
use Rattle.rtps_reader.proofs.ReaderLaws.{one_more, sound_more}
use Rattle.rtps_reader.proofs.stateful_reader.StatefulReader.append.Goals as goal

pub invariant_of-self-2 : goal.invariant_of-self-2
invariant_of-self-2 c =
    let items = c.in_ok-push.ensures.items in
    rw items (sound_more c.self.inside.writers.items c.open.result c.self.invariant c.open.ensures.sound)

pub returns-clause-ok : goal.returns-clause-ok
returns-clause-ok c =
    let items = c.in_ok-push.ensures.items in
    subst (λ (u : Proxies). HasOneMore u (record { writers = c.push.new.self.items })) c.self.view_is
    (rw items (one_more c.self.inside.writers.items c.open.result c.open.ensures.how
    c.open.ensures.tracked))
