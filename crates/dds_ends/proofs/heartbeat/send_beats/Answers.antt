use Rattle.std.proofs.Common.{◌+◌, ◌<◌, [], ◌∷◌, length, true, sym, subst, ◌∙◌, arith, rules}
use Rattle.dds_ends.specs.declared.matching.Destination.{Destination}
use Rattle.dds_ends.specs.declared.sending.Announced.{Announced}
use Rattle.dds_ends.specs.Beating.{AddsTo}
use Rattle.dds_ends.proofs.Beating.{SentBefore, beats_more, beats_same, told_message}
use Rattle.dds_ends.proofs.heartbeat.send_beats.Goals as goal
use Rattle.dds_ends.proofs.heartbeat.send_beats.Goals.{then-is_first_told, else-is_first_told}

pub loop-row-preserved : goal.loop-row-preserved
loop-row-preserved c =
    let beat = c.args.beat.now in
    let names = c.args.readers.now in
    let row = c.loop-row.row in
    let before = c.loop-row.invariant in
    let few = before.few in
    let lt : row < length names = search rules in
    elim c.if-is_first_told.branch [
      | then-is_first_told v ↦
          let more = v.send_made.ensures.few in
          subst (λ (x : Announced). SentBefore beat c.args.writer.now names (row + 1) c.args.sent.now x) (sym v.sent-is)
          (record {
            few = omega (arith, few, more);
            beats = λ w answered b.
                beats_more beat answered w names row true c.args.sent.now c.loop-row.sent v.send_made.new.sent b.names_are lt
                (sym (c.is_first_told.ensures w answered b.names_are b.stands) ∙ v.if-is_first_told.true)
                (before.beats w answered b)
                (subst (λ (d : Destination). AddsTo (told_message beat w answered names d ∷ [])
                c.loop-row.sent v.send_made.new.sent) v.peer-to.ensures
                (v.send_made.ensures.adds _ (v.message_to_told-message.ensures.says w answered b)));
            messages = λ h. v.send_made.ensures.messages (before.messages h);
          })
      | else-is_first_told v ↦
          subst (λ (x : Announced). SentBefore beat c.args.writer.now names (row + 1) c.args.sent.now x) (sym v.sent-is)
          (record {
            few = omega (arith, few);
            beats = λ w answered b.
                beats_same beat answered w names row c.args.sent.now c.loop-row.sent b.names_are lt
                (sym (c.is_first_told.ensures w answered b.names_are b.stands) ∙ v.if-is_first_told.false)
                (before.beats w answered b);
            messages = before.messages;
          })
    ]
