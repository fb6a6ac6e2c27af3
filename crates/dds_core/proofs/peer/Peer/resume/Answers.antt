use Rattle.std.proofs.Common.{◌≡◌, ℕ, ◌<◌, ◌∙◌, false, length, ap, sym, subst, arith, rules}
use Rattle.dds_base.specs.declared.code.Code.TheVariants.{BadParameter}
use Rattle.dds_base.specs.Number.{is_number}
use Rattle.dds_machine.specs.declared.reply.Reply.TheVariants.{Refused}
use Rattle.dds_protocol.specs.declared.event.Event.TheVariants as event
use Rattle.dds_protocol.specs.declared.event.Output.{Output}
use Rattle.dds_core.specs.Kept.{PeerKept}
use Rattle.dds_core.specs.Resuming.{ResumesAll}
use Rattle.dds_core.specs.Stepping.{SoundSteps}
use Rattle.dds_ends.specs.Twins.{Twins}
use Rattle.dds_core.proofs.Taking.{no_messages}
use Rattle.dds_core.proofs.TriedAgain.{resumes, resumes_none}
use Rattle.dds_core.proofs.Twice.{plain_twin}
use Rattle.dds_core.proofs.peer.Peer.resume.Goals as goal

pub returns-in_default-clause-step : goal.returns-in_default-clause-step
returns-in_default-clause-step c =
    let none : is_number c.args.reader (length c.self.inside.readers.items) ≡ false =
    subst (λ (n : ℕ). is_number c.args.reader n ≡ false) (c.len.ensures ∙ c.self.inside.readers.ok.0)
    c.in_default.ensures.index in
    subst (λ (o : Output). SoundSteps c.args.self.now (event.Resume c.args.reader) o c.args.self.now)
    (sym c.refused.ensures)
    (resumes_none c.args.self.now c.args.reader
    (subst (λ (k : PeerKept). is_number c.args.reader (length k.readers) ≡ false) c.self.view_is none))

pub returns-in_default-clause-messages : goal.returns-in_default-clause-messages
returns-in_default-clause-messages c = no_messages _ (ap (λ (o : Output). o.packets) c.refused.ensures)

pub returns-in_default-clause-twin : goal.returns-in_default-clause-twin
returns-in_default-clause-twin c =
    subst (λ (o : Output). Twins c.args.twin.now o.reply c.args.twin.now) (sym c.refused.ensures)
    (plain_twin c.args.twin.now (Refused BadParameter) tt)

pub returns-clause-step : goal.returns-clause-step
returns-clause-step c =
    let lt : c.in-Some.index < length c.self.inside.readers.items = search rules in
    let same = ap (λ (k : PeerKept). length k.readers) c.self.view_is in
    subst (λ (o : Output). SoundSteps c.args.self.now (event.Resume c.args.reader) o c.resume_rows-report.new.self)
    (sym c.answered.ensures)
    (resumes c.args.self.now c.resume_rows-report.new.self c.args.reader c.in-Some.index c.resume_rows-report.result
    c.in-Some.ensures.index.0 (omega (arith, lt, same))
    (subst (λ (k : PeerKept). ResumesAll k c.in-Some.index c.resume_rows-report.result c.resume_rows-report.new.self)
    c.self.view_is c.resume_rows-report.ensures.resumes))

pub returns-clause-messages : goal.returns-clause-messages
returns-clause-messages c = no_messages _ (ap (λ (o : Output). o.packets) c.answered.ensures)
