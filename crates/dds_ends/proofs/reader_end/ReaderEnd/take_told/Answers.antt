use Rattle.dds_ends.specs.declared.reader_told.Told.TheVariants as told
use Rattle.dds_ends.proofs.Fitting.{fits_on}
use Rattle.dds_ends.proofs.Results.{ok_if}
use Rattle.dds_ends.proofs.TellingLaws.{answer_told, beat_told, heartbeat_told, nothing_told, room_here}
use Rattle.dds_ends.proofs.reader_end.ReaderEnd.take_told.Goals as goal

pub invariant_of-self : goal.invariant_of-self
invariant_of-self c = fits_on c.self.invariant c.on_data.ensures.keeps.qos c.on_data.ensures.keeps.writers c.on_data.ensures.keeps.count

pub invariant_of-self-in-Jump : goal.invariant_of-self-in-Jump
invariant_of-self-in-Jump c = fits_on c.self.invariant c.on_best_effort_data.ensures.keeps.qos c.on_best_effort_data.ensures.keeps.writers c.on_best_effort_data.ensures.keeps.count

pub invariant_of-self-in-Gap : goal.invariant_of-self-in-Gap
invariant_of-self-in-Gap c = fits_on c.self.invariant c.on_gap.ensures.keeps.qos c.on_gap.ensures.keeps.writers c.on_gap.ensures.keeps.count

pub invariant_of-self-in-Heartbeat : goal.invariant_of-self-in-Heartbeat
invariant_of-self-in-Heartbeat c = fits_on c.self.invariant c.on_heartbeat.ensures.keeps.qos c.on_heartbeat.ensures.keeps.writers c.on_heartbeat.ensures.keeps.count

pub invariant_of-self-in-Beat : goal.invariant_of-self-in-Beat
invariant_of-self-in-Beat c = fits_on c.self.invariant c.on_best_effort_heartbeat.ensures.keeps.qos c.on_best_effort_heartbeat.ensures.keeps.writers c.on_best_effort_heartbeat.ensures.keeps.count

pub returns-in-Change-clause-told : goal.returns-in-Change-clause-told
returns-in-Change-clause-told c =
    let keeps = c.on_data.ensures.keeps in
    ok_if c.on_data.result
    (λ step ok. answer_told c.self.view_is c.args.ready c.args.moment c.on_data.result step
    (told.Change c.in-Change.number c.in-Change.change) c.in-Change.is ok c.on_data.ensures.meets keeps.others keeps.how
    keeps.others_how)

pub returns-in-Gap-clause-told : goal.returns-in-Gap-clause-told
returns-in-Gap-clause-told c =
    let keeps = c.on_gap.ensures.keeps in
    ok_if c.on_gap.result
    (λ step ok. answer_told c.self.view_is c.args.ready c.args.moment c.on_gap.result step
    (told.Gap c.in-Gap.start c.in-Gap.list) c.in-Gap.is ok c.on_gap.ensures.meets keeps.others keeps.how
    keeps.others_how)

pub returns-in-Jump-clause-told : goal.returns-in-Jump-clause-told
returns-in-Jump-clause-told c =
    let keeps = c.on_best_effort_data.ensures.keeps in
    ok_if c.on_best_effort_data.result
    (λ step ok. answer_told c.self.view_is c.args.ready c.args.moment c.on_best_effort_data.result step
    (told.Jump c.in-Jump.number c.in-Jump.change) c.in-Jump.is ok c.on_best_effort_data.ensures.meets keeps.others keeps.how
    keeps.others_how)

pub returns-in-Heartbeat-clause-told : goal.returns-in-Heartbeat-clause-told
returns-in-Heartbeat-clause-told c =
    let keeps = c.on_heartbeat.ensures.keeps in
    ok_if c.on_heartbeat.result
    (λ step ok. heartbeat_told c.self.view_is c.args.ready c.args.moment c.on_heartbeat.result step
    c.in-Heartbeat.heartbeat c.in-Heartbeat.is ok c.on_heartbeat.ensures.accepted c.on_heartbeat.ensures.repeated
    keeps.others keeps.how keeps.others_how)

pub returns-in-Beat-clause-told : goal.returns-in-Beat-clause-told
returns-in-Beat-clause-told c =
    let keeps = c.on_best_effort_heartbeat.ensures.keeps in
    ok_if c.on_best_effort_heartbeat.result
    (λ step ok. beat_told c.self.view_is c.args.ready c.args.moment c.on_best_effort_heartbeat.result step
    c.in-Beat.heartbeat c.in-Beat.is ok c.on_best_effort_heartbeat.ensures.accepted c.on_best_effort_heartbeat.ensures.repeated
    keeps.others keeps.how keeps.others_how)

pub returns-in-Nothing-clause-told : goal.returns-in-Nothing-clause-told
returns-in-Nothing-clause-told c =
    nothing_told c.args.self.now c.args.ready c.args.moment c.idle.result c.in-Nothing.is c.idle.ensures.idle
    c.idle.ensures.begun

pub invariant_of-self-in-Again : goal.invariant_of-self-in-Again
invariant_of-self-in-Again c = fits_on c.self.invariant c.resume.ensures.keeps.qos c.resume.ensures.keeps.writers c.resume.ensures.keeps.count

pub returns-in-Again-clause-told : goal.returns-in-Again-clause-told
returns-in-Again-clause-told c =
    let keeps = c.resume.ensures.keeps in
    ok_if c.resume.result
    (λ step ok. answer_told c.self.view_is c.args.ready c.args.moment c.resume.result step told.Again c.in-Again.is ok
    c.resume.ensures.meets keeps.others keeps.how keeps.others_how)

pub returns-in-Change-clause-succeeds : goal.returns-in-Change-clause-succeeds
returns-in-Change-clause-succeeds c = c.on_data.ensures.keeps.succeeds (room_here c.args.ready.row c.self.view_is c.requires.can.room)

pub returns-in-Jump-clause-succeeds : goal.returns-in-Jump-clause-succeeds
returns-in-Jump-clause-succeeds c = c.on_best_effort_data.ensures.keeps.succeeds (room_here c.args.ready.row c.self.view_is c.requires.can.room)

pub returns-in-Again-clause-succeeds : goal.returns-in-Again-clause-succeeds
returns-in-Again-clause-succeeds c = c.resume.ensures.keeps.succeeds (room_here c.args.ready.row c.self.view_is c.requires.can.room)

pub returns-in-Gap-clause-succeeds : goal.returns-in-Gap-clause-succeeds
returns-in-Gap-clause-succeeds c = c.on_gap.ensures.keeps.succeeds (room_here c.args.ready.row c.self.view_is c.requires.can.room)

pub returns-in-Heartbeat-clause-succeeds : goal.returns-in-Heartbeat-clause-succeeds
returns-in-Heartbeat-clause-succeeds c = c.on_heartbeat.ensures.keeps.succeeds (room_here c.args.ready.row c.self.view_is c.requires.can.room)

pub returns-in-Beat-clause-succeeds : goal.returns-in-Beat-clause-succeeds
returns-in-Beat-clause-succeeds c = c.on_best_effort_heartbeat.ensures.keeps.succeeds (room_here c.args.ready.row c.self.view_is c.requires.can.room)
