use Rattle.std.proofs.Common.{◌≡◌, ◌+◌, subst, ap, sym, ◌∙◌, refl, arith}
use Rattle.dds_base.specs.declared.guid.GuidPrefix.{GuidPrefix}
use Rattle.rtps_wire.specs.Messages.{ReadsFirst}
use Rattle.dds_machine.specs.declared.reply.Move.{Move}
use Rattle.dds_machine.specs.declared.reply.Report.{Report}
use Rattle.dds_protocol.specs.Claims.{Receiver, after_submessage}
use Rattle.std.specs.Prelude.{List}
use Rattle.dds_ends.specs.declared.twin.Twin.{Twin}
use Rattle.dds_ends.specs.Twins.{wants_two}
use Rattle.dds_ends.specs.Readiness.{receiver_at}
use Rattle.dds_core.proofs.TakenSoFar.{TakesTo}
use Rattle.dds_core.proofs.Taking.{no_messages, takes_none, takes_more, takes_all, takes_some, rest_octets}
use Rattle.dds_core.proofs.peer.Peer.take_submessages.Goals as goal

pub loop-frame-init : goal.loop-frame-init
loop-frame-init c = record {
  taken =
      takes_none c.args.self.now c.args.source c.args.body.now
      (receiver_at c.receiver_for-receiver.result) c.args.effects.now.moves.items c.args.effects.now.sent
      c.receiver_for-receiver.ensures c.requires.none.moves c.requires.none.packets c.requires.none.unsent;
  within = omega arith;
  octets = λ k. omega (arith, c.type_inv.body k);
  few = let none = c.requires.none.unsent in omega (arith, none);
  messages = no_messages c.args.effects.now.sent.packets.items c.requires.none.packets;
  same = refl;
  twice = c.requires.none.kept_twice;
  still = refl;
}

pub returns-in-Err-clause-takes : goal.returns-in-Err-clause-takes
returns-in-Err-clause-takes c =
    let i = c.loop-frame.index in
    let report : Report = c.take_report.result in
    let same_moves : report.moves ≡ c.loop-frame.effects.moves.items =
    ap (λ (r : Report). r.moves) c.take_report.ensures.report ∙ c.in-Err.ensures.keeps.err.1 in
    let taken : TakesTo c.args.self.now c.args.source c.args.body.now c.loop-frame.left.now i
    (receiver_at c.loop-frame.receiver) report.moves c.loop-frame.self c.loop-frame.effects.sent =
    subst (λ (ms : List Move). TakesTo c.args.self.now c.args.source c.args.body.now c.loop-frame.left.now i
    (receiver_at c.loop-frame.receiver) ms c.loop-frame.self c.loop-frame.effects.sent)
    (sym same_moves) c.loop-frame.invariant.taken in
    let may = c.in-Err.ensures.needs in
    let first : ReadsFirst c.loop-frame.left.now may.submessage c.in-Some.rest.now =
    (c.in-Some.frame.id, c.in-Some.frame.flags, c.in-Some.frame.body.now, c.in-Some.ensures.found, may.is_read) in
    takes_some c.args.self.now c.loop-frame.self c.take_frame.new.self c.args.source c.args.body.now
    c.loop-frame.left.now i (receiver_at c.loop-frame.receiver) may.submessage c.in-Some.rest.now report
    c.loop-frame.effects.sent c.take_frame.new.effects.sent taken c.loop-frame.invariant.same
    may.needs c.in-Err.ensures.keeps.err.0 c.in-Err.ensures.keeps.err.2 first
    c.loop-frame.invariant.octets (ap (λ (r : Report). r.refused) c.take_report.ensures.report)

pub loop-frame-preserved : goal.loop-frame-preserved
loop-frame-preserved c =
    let prefix : c.take_frame.new.self.prefix ≡ c.args.self.now.prefix =
    c.take_frame.ensures.keeps.prefix ∙ c.loop-frame.invariant.same in
    let took = c.in-Ok.ensures.takes in
    let at : receiver_at c.take_frame.new.receiver
    ≡ after_submessage c.args.self.now.prefix (receiver_at c.loop-frame.receiver) took.submessage =
    took.leaves ∙ ap (λ (p : GuidPrefix). after_submessage p (receiver_at c.loop-frame.receiver) took.submessage)
    c.loop-frame.invariant.same in
    let first : ReadsFirst c.loop-frame.left.now took.submessage c.in-Some.rest.now =
    (c.in-Some.frame.id, c.in-Some.frame.flags, c.in-Some.frame.body.now, c.in-Some.ensures.found, took.is_read) in
    let taken =
    takes_more c.args.self.now c.loop-frame.self c.take_frame.new.self c.args.source c.args.body.now
    c.loop-frame.left.now c.loop-frame.index (receiver_at c.loop-frame.receiver) took.submessage
    c.in-Some.rest.now c.loop-frame.effects c.take_frame.new.effects c.loop-frame.invariant.taken first
    c.loop-frame.invariant.same took.takes in
    let few = c.loop-frame.invariant.few in
    let more = c.take_frame.ensures.keeps.on.few in
    let within = c.loop-frame.invariant.within in
    record {
      taken =
          subst (λ (r : Receiver). TakesTo c.args.self.now c.args.source c.args.body.now c.in-Some.rest.now
          (c.loop-frame.index + 1) r c.take_frame.new.effects.moves.items c.take_frame.new.self
          c.take_frame.new.effects.sent) (sym at) taken;
      within = omega (arith, within, c.in-Some.ensures.fewer);
      octets =
          rest_octets c.loop-frame.left.now took.submessage c.in-Some.rest.now first
          c.loop-frame.invariant.octets;
      few = omega (arith, few, more);
      messages = c.take_frame.ensures.keeps.on.messages c.loop-frame.invariant.messages;
      same = prefix;
      twice = c.take_frame.ensures.keeps.on.twice ∙ c.loop-frame.invariant.twice;
      still = c.loop-frame.invariant.still;
    }

pub returns-clause-takes : goal.returns-clause-takes
returns-clause-takes c =
    let report : Report = c.take_report-2.result in
    let taken : TakesTo c.args.self.now c.args.source c.args.body.now c.loop-frame.left.now c.loop-frame.index
    (receiver_at c.loop-frame.receiver) report.moves c.loop-frame.self c.loop-frame.effects.sent =
    subst (λ (ms : List Move). TakesTo c.args.self.now c.args.source c.args.body.now c.loop-frame.left.now
    c.loop-frame.index (receiver_at c.loop-frame.receiver) ms c.loop-frame.self c.loop-frame.effects.sent)
    (sym (ap (λ (r : Report). r.moves) c.take_report-2.ensures.report)) c.loop-frame.invariant.taken in
    takes_all c.args.self.now c.loop-frame.self c.args.source c.args.body.now c.loop-frame.left.now
    c.loop-frame.index (receiver_at c.loop-frame.receiver) report c.loop-frame.effects.sent taken
    c.in_default.ensures.end (ap (λ (r : Report). r.refused) c.take_report-2.ensures.report)

pub returns-in-Err-clause-twin : goal.returns-in-Err-clause-twin
returns-in-Err-clause-twin c = λ asked.
    c.take_report.ensures.twin (ap (λ (t : Twin). wants_two t) c.loop-frame.invariant.still ∙ asked)

pub returns-clause-twin : goal.returns-clause-twin
returns-clause-twin c = λ asked.
    c.take_report-2.ensures.twin (ap (λ (t : Twin). wants_two t) c.loop-frame.invariant.still ∙ asked)
