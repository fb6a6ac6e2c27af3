use Rattle.std.proofs.Common.{Option, Some, None, sym, refl, subst, inl}
use Rattle.std.specs.Prelude.{unwrap_or}
use Rattle.dds_base.specs.declared.code.Code.{Code}
use Rattle.dds_base.specs.declared.code.Code.TheVariants.{Memory}
use Rattle.dds_base.specs.Refusal.{Refuses}
use Rattle.rtps_writer.specs.WriterState.{history_of}
use Rattle.rtps_writer.proofs.Parts.{changes, history_at}
use Rattle.rtps_writer.proofs.stateful_writer.StatefulWriter.write.Goals as goal

-- a cause, or want of memory where there is none
refuses_or_memory : (o : Option Code) → Refuses o (unwrap_or o Memory)
refuses_or_memory None = refl
refuses_or_memory (Some code) = refl

pub returns-in_default-clause-refused : goal.returns-in_default-clause-refused
returns-in_default-clause-refused c = λ s given.
    let h = history_at _ c.args.self.now s c.self.view_is given in
    subst (λ (o : Option Code). Refuses o c.unwrap_or.result) (c.refusal.ensures.refusal (history_of s) h)
    (subst (λ (code : Code). Refuses c.refusal.result code) (sym c.unwrap_or.ensures) (refuses_or_memory c.refusal.result))

pub returns-in-Ok-append-clause-ok : goal.returns-in-Ok-append-clause-ok
returns-in-Ok-append-clause-ok c = λ s given.
    let h = history_at _ c.args.self.now s c.self.view_is given in
    changes _ c.args.self.now s c.self.view_is given c.reserve.new.self.keys c.note.new.self.keys c.append.new.self
    c.args.change c.reserve.ensures.keys c.note.ensures (c.in-Ok-append.ensures.ok (history_of s) h).2 c.assert_at.new.self
    (λ lives. c.assert_at.ensures.changed s.lease s.written c.args.change lives refl)

pub returns-in-Ok-append-clause-accepted : goal.returns-in-Ok-append-clause-accepted
returns-in-Ok-append-clause-accepted c = λ s given.
    let h = history_at _ c.args.self.now s c.self.view_is given in
    let a = c.in-Ok-append.ensures.ok (history_of s) h in
    (a.0, a.1)

pub returns-in-Err-clause-refused : goal.returns-in-Err-clause-refused
returns-in-Err-clause-refused c = λ s given.
    let h = history_at _ c.args.self.now s c.self.view_is given in
    c.in-Err.ensures.refused (history_of s) h

pub returns-in-Err-clause-wants : goal.returns-in-Err-clause-wants
returns-in-Err-clause-wants c = λ s given none.
    let h = history_at _ c.args.self.now s c.self.view_is given in
    inl (c.in-Err.ensures.wants (history_of s) h none)
