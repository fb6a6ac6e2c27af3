use Rattle.std.proofs.Common.{rules, ◌-◌, length}
use Rattle.rtps_wire.specs.Messages.{ReadsMessage, HasSubmessage}
use Rattle.rtps_wire.proofs.MessageLaws.{message_one, message_read}
use Rattle.rtps_wire.proofs.read.read_message.Goals as goal

pub returns-in_default-clause-only : goal.returns-in_default-clause-only
returns-in_default-clause-only c = λ m stop r.
    absurd (c.in_default.ensures.none m.prefix r.body r.header)

pub returns-clause-found : goal.returns-clause-found
returns-clause-found c =
    message_read c.args.bytes.now c.in-Some.body.now c.in_ok-left.left.now c.in-Some.prefix
    c.read_submessages.new.submessages c.in-Some.ensures.found c.in_ok-left.ensures.ok

pub returns-clause-only : goal.returns-clause-only
returns-clause-only c = λ m stop r.
    let found : ReadsMessage c.args.bytes.now
    (record { prefix = c.in-Some.prefix; submessages = c.read_submessages.new.submessages })
    (length c.args.bytes.now - length c.in_ok-left.left.now) =
    message_read c.args.bytes.now c.in-Some.body.now c.in_ok-left.left.now c.in-Some.prefix
    c.read_submessages.new.submessages c.in-Some.ensures.found c.in_ok-left.ensures.ok in
    let same =
    message_one c.args.bytes.now (record { prefix = c.in-Some.prefix; submessages = c.read_submessages.new.submessages })
    m (length c.args.bytes.now - length c.in_ok-left.left.now) stop found r in
    cc

pub returns-in_err-left-clause-memory : goal.returns-in_err-left-clause-memory
returns-in_err-left-clause-memory c =
    let has : HasSubmessage c.args.bytes.now =
    record {
      source = c.in-Some.prefix;
      body = c.in-Some.body.now;
      header = c.in-Some.ensures.found;
      first = c.in_err-left.ensures.memory.1;
    } in
    search rules
