-- What is so of each proxy, and what a submessage leaves alone there. Inner functions alone cite this: nothing here has
-- to be believed.
--
-- RTPS 2.5, 8.4.10 (WriterProxy, ChangeFromWriter).
use Rattle.std.specs.Prelude.{◌≡◌, ℕ, ◌+◌, ◌<◌, ◌≤◌, List, Bool, true, false, Option, None, Some, is_some, Result, OnErr, IsOk, IfOk, IfErr, IfSome, slice_get}
use Rattle.dds_base.specs.declared.change.Change.{Change}
use Rattle.dds_base.specs.declared.code.Code.{Code}
use Rattle.dds_base.specs.declared.code.Code.TheVariants.{Memory}
use Rattle.dds_base.specs.declared.happening.Happening.{Happening}
use Rattle.dds_base.specs.declared.qos.ReaderQos.{ReaderQos}
use Rattle.dds_base.specs.Bounds.{max_sn, window_width}
use Rattle.rtps_sets.specs.Window.{Marks, mark_of, window_place}
use Rattle.rtps_sets.specs.declared.window.Mark.{Mark}
use Rattle.rtps_sets.specs.declared.window.Mark.TheVariants as mark
use Rattle.rtps_reader.specs.declared.step.Step.{Step}
use Rattle.rtps_reader.specs.declared.writer_proxy.WriterProxy.{WriterProxy}
use Rattle.rtps_reader.specs.HeldChanges.{held_at}
use Rattle.rtps_reader.specs.Tracked.{SameTracked}
use Rattle.rtps_reader.specs.Answer.{IsSayable}
use Rattle.rtps_reader.specs.declared.attachment.Attachment.{Attachment}
use Rattle.rtps_reader.specs.declared.known_writer.KnownWriter.{KnownWriter}
use Rattle.rtps_reader.specs.Proxy.{tracked, IsProxyReady}
use Rattle.rtps_reader.specs.Reader.{how_after}

-- the mark says that a change is held
abbrev pub says_held : Option Mark → Bool
says_held None = false
says_held (Some mark.Held) = true
says_held (Some mark.Irrelevant) = false

-- of the numbers of the window exactly those that are marked as held have a change at their place
abbrev pub Keeps : Marks → List (Option Change) → Type 0
Keeps w held = (n : ℕ) → window_place w ≤ n → n < window_place w + window_width
    → is_some (held_at held n) ≡ says_held (mark_of w n)

-- what is marked as held is held, the place is a number, and none is so great that a sum overflows
pub record IsSound (p : WriterProxy) : Type 0 where
  pub kept : Keeps p.window p.held
  pub from : 1 ≤ window_place p.window
  pub unmarked : (n : ℕ) → max_sn + window_width ≤ n → mark_of p.window n ≡ None
  pub place_is_small : window_place p.window ≤ max_sn + window_width
  pub first_is_small : p.first ≤ max_sn

-- the proxy of each writer is sound
abbrev pub AreSound : List KnownWriter → Type 0
AreSound writers = (index : ℕ) (w : KnownWriter) → slice_get writers index ≡ Some w → IsSound w.proxy

-- how the reader stands to the writer once a submessage did this
pub record KeepsHow (old new : Attachment) (answer : Result Step Code) : Type 0 where
  pub ok : IfOk answer (λ step. new ≡ how_after old step)
  pub err : OnErr answer (new ≡ old)

-- what any submessage leaves alone, and how it may be refused: at the proxy, and at the sink, as KeepsRest has it of a
-- reader
pub record ProxyKeepsRest {S : Type 0} (Stands : S → List Happening → Type 0) (policies : S → ReaderQos)
    (matched spare : S → ℕ) (old new : WriterProxy) (before after : S) (answer : Result Step Code) : Type 0 where
  pub sound : IsSound new
  pub sayable : IfOk answer (λ step. IfSome step.acknack IsSayable)
  pub qos : policies after ≡ policies before
  pub writers : matched after ≡ matched before
  pub err : OnErr answer (SameTracked (tracked old) (tracked new))
  pub err_sink : OnErr answer ((h : List Happening) → Stands before h → Stands after h)
  pub memory : IfErr answer (λ code. code ≡ Memory)
  pub succeeds : IsProxyReady old (spare before) → IsOk answer
