use Rattle.std.proofs.Common.{◌≡◌, ◌<◌, ◌≤◌, List, refl, ap, sym, ◌∙◌, subst, arith, rules}
use Rattle.dds_machine.specs.declared.reply.Move.{Move}
use Rattle.dds_machine.specs.declared.reply.Report.{Report}
use Rattle.dds_ends.specs.declared.twin.Twin.{Twin}
use Rattle.dds_ends.specs.Twins.{wants_two}
use Rattle.dds_ends.proofs.Lists.{element}
use Rattle.dds_core.proofs.ResumedRows.{TriesTo, count_is, has_row, rows_on, same_rows, tries_all, tries_first, tries_more, tries_some}
use Rattle.dds_core.proofs.peer.Peer.resume_rows.Goals as goal

pub loop-row-init : goal.loop-row-init
loop-row-init c =
    let none = c.requires.none.unsent in
    record {
      tried =
          tries_first c.args.self.now c.args.index c.args.effects.now.moves.items c.requires.none.moves;
      rows = same_rows c.args.index c.args.self.now;
      few = omega (arith, none);
      twice = c.requires.none.kept_twice;
      still = refl;
    }

pub resume_row-requires-clause-row : goal.resume_row-requires-clause-row
resume_row-requires-clause-row c =
    let k = element c.args.self.now.readers c.args.index c.requires.within in
    let many =
    count_is c.args.self.now _ c.self.view_is c.args.index k.0 c.index.result.now _ c.row_count-count.result k.1
    c.index.ensures c.row_count-count.ensures.count in
    let lt : c.loop-row.row < c.row_count-count.result = search rules in
    has_row c.args.self.now c.loop-row.self c.args.index c.loop-row.row k.0 k.1 (omega (arith, lt, many))
    c.loop-row.invariant.rows

pub resume_row-requires-clause-low : goal.resume_row-requires-clause-low
resume_row-requires-clause-low c =
    let lt : c.loop-row.row < c.row_count-count.result = search rules in
    let small = c.row_count-count.ensures.few in
    let few = c.loop-row.invariant.few in
    omega (arith, lt, small, few)

pub loop-row-preserved : goal.loop-row-preserved
loop-row-preserved c =
    let k = element c.args.self.now.readers c.args.index c.requires.within in
    let many =
    count_is c.args.self.now _ c.self.view_is c.args.index k.0 c.index.result.now _ c.row_count-count.result k.1
    c.index.ensures c.row_count-count.ensures.count in
    let lt : c.loop-row.row < c.row_count-count.result = search rules in
    let more = c.in-Ok.ensures.tries in
    let few = c.loop-row.invariant.few in
    let found = c.resume_row.ensures.on.few in
    record {
      tried =
          tries_more c.args.self.now c.loop-row.self c.resume_row.new.self c.args.index c.loop-row.row k.0
          c.loop-row.effects c.resume_row.new.effects k.1 (omega (arith, lt, many)) c.loop-row.invariant.rows
          c.loop-row.invariant.tried more;
      rows =
          rows_on c.args.index c.args.self.now c.loop-row.self c.resume_row.new.self c.loop-row.invariant.rows more.rows;
      few = omega (arith, few, found);
      twice = c.resume_row.ensures.on.twice ∙ c.loop-row.invariant.twice;
      still = c.loop-row.invariant.still;
    }

pub returns-in-Err-clause-resumes : goal.returns-in-Err-clause-resumes
returns-in-Err-clause-resumes c =
    let k = element c.args.self.now.readers c.args.index c.requires.within in
    let many =
    count_is c.args.self.now _ c.self.view_is c.args.index k.0 c.index.result.now _ c.row_count-count.result k.1
    c.index.ensures c.row_count-count.ensures.count in
    let lt : c.loop-row.row < c.row_count-count.result = search rules in
    let report : Report = c.take_report.result in
    let same_moves : report.moves ≡ c.loop-row.effects.moves.items =
    ap (λ (r : Report). r.moves) c.take_report.ensures.report ∙ c.in-Err.ensures.moves in
    tries_some c.args.self.now c.loop-row.self c.resume_row.new.self c.args.index c.loop-row.row k.0 report k.1
    (omega (arith, lt, many)) c.loop-row.invariant.rows
    (subst (λ (ms : List Move). TriesTo c.args.self.now c.args.index c.loop-row.row ms c.loop-row.self) (sym same_moves)
    c.loop-row.invariant.tried)
    c.in-Err.ensures.needs c.in-Err.ensures.stands (ap (λ (r : Report). r.refused) c.take_report.ensures.report)

pub returns-in-Err-clause-twin : goal.returns-in-Err-clause-twin
returns-in-Err-clause-twin c = λ asked.
    c.take_report.ensures.twin (ap (λ (t : Twin). wants_two t) c.loop-row.invariant.still ∙ asked)

pub returns-clause-resumes : goal.returns-clause-resumes
returns-clause-resumes c =
    let k = element c.args.self.now.readers c.args.index c.requires.within in
    let many =
    count_is c.args.self.now _ c.self.view_is c.args.index k.0 c.index.result.now _ c.row_count-count.result k.1
    c.index.ensures c.row_count-count.ensures.count in
    let low : c.row_count-count.result ≤ c.loop-row.row = search rules in
    let high : c.loop-row.row ≤ c.row_count-count.result = search rules in
    let report : Report = c.take_report-2.result in
    tries_all c.args.self.now c.loop-row.self c.args.index c.loop-row.row k.0 report k.1 (omega (arith, low, many))
    (omega (arith, high, many))
    (subst (λ (ms : List Move). TriesTo c.args.self.now c.args.index c.loop-row.row ms c.loop-row.self)
    (sym (ap (λ (r : Report). r.moves) c.take_report-2.ensures.report)) c.loop-row.invariant.tried)
    (ap (λ (r : Report). r.refused) c.take_report-2.ensures.report)

pub returns-clause-twin : goal.returns-clause-twin
returns-clause-twin c = λ asked.
    c.take_report-2.ensures.twin (ap (λ (t : Twin). wants_two t) c.loop-row.invariant.still ∙ asked)
