use Rattle.std.proofs.Common.{◌+◌, ◌≤◌, length}
use Rattle.dds_base.specs.Written.{changes_of}
use Rattle.rtps_writer.specs.Standing.{StandsFor as RtpsStandsFor}
use Rattle.rtps_writer.specs.WriterState.{WriterState}
use Rattle.dds_ends.specs.Answering.{AreAnswerable}
use Rattle.dds_ends.specs.Sending.{AreMessages}
use Rattle.dds_ends.proofs.Replies.{SentBefore}
use Rattle.dds_ends.proofs.answering.send_answers.Given as goal

-- the answers so far were sent
abbrev pub invariant-loop-rest : goal.invariant-loop-rest
invariant-loop-rest l = record {
  can : AreAnswerable l.fn.answering.max_value l.fn.writer l.rest;
  few : l.sent.unsent + length l.rest ≤ l.initial.sent.unsent + length l.fn.answers;
  sends : (s : WriterState) → RtpsStandsFor l.fn.writer s
      → SentBefore l.fn.answering (changes_of s.written) l.fn.answers l.rest l.initial.sent l.sent;
  messages : AreMessages l.initial.sent.packets.items → AreMessages l.sent.packets.items;
}

abbrev pub decreases-loop-rest : goal.decreases-loop-rest
decreases-loop-rest l = length l.rest
