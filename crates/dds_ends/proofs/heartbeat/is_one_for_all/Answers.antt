use Rattle.std.proofs.Common.{◌≡◌, ◌<◌, ◌≤◌, false, rules, inl, inr, sym, ◌∙◌, arith}
use Rattle.rtps_writer.specs.WriterState.{is_reader_silent}
use Rattle.dds_ends.specs.Standing.{state_of}
use Rattle.dds_ends.proofs.Begins.{apart_row, one_more}
use Rattle.dds_ends.proofs.heartbeat.is_one_for_all.Goals as goal
use Rattle.dds_ends.proofs.heartbeat.is_one_for_all.Goals.{else-readers-row-via-then-readers-row+else-is_silent, else-readers-row-via-else-readers-row, then-lt, else-lt}

pub returns-then-is_silent : goal.returns-then-is_silent
returns-then-is_silent c = λ w answered b.
    sym (apart_row w answered c.args.readers.now c.loop-row.row c.args.peer b.names_are c.loop-row-test.true (
      c.if-readers-row.true,
      elim c.if-lt.branch [
        | then-lt v ↦
            let past : c.args.first < c.first_for.result = search rules in
            let first = b.first_is in
            let row = c.first_for.ensures.first (state_of w answered) b.stands in
            inl (omega (arith, past, first, row))
        | else-lt v ↦
            inr (sym (v.is_silent.ensures.silent (state_of w answered) b.stands)
            ∙ (sym v.value-is ∙ c.if-is_silent.true))
      ],
    ))

pub loop-row-preserved : goal.loop-row-preserved
loop-row-preserved c = λ w answered b.
    one_more w answered c.args.readers.now c.loop-row.row c.args.peer b.names_are c.loop-row-test.true
    (elim c.else-readers-row.branch [
      | else-readers-row-via-then-readers-row+else-is_silent v ↦
          elim v.if-lt.branch [
            | then-lt u ↦ absurd (let so = sym u.value-is ∙ v.if-is_silent.false in cc)
            | else-lt u ↦
                let most : v.first_for.result ≤ c.args.first = search rules in
                let first = b.first_is in
                let row = v.first_for.ensures.first (state_of w answered) b.stands in
                let heard : is_reader_silent (state_of w answered) c.loop-row.row ≡ false =
                sym (u.is_silent.ensures.silent (state_of w answered) b.stands)
                ∙ (sym u.value-is ∙ v.if-is_silent.false) in
                inr (omega (arith, most, first, row), heard)
          ]
      | else-readers-row-via-else-readers-row v ↦ inl v.if-readers-row.false
    ])
    (c.loop-row.invariant w answered b)
