use Rattle.std.proofs.Common.{◌≡◌, ◌<◌, ◌∙◌, true, false, length, ap, sym, subst, arith, rules}
use Rattle.dds_ends.specs.Kept.{ReaderKept}
use Rattle.dds_core.specs.Kept.{PeerKept}
use Rattle.dds_core.proofs.EffectsLaws.{nothing_more}
use Rattle.dds_core.proofs.LastReader.{here_now}
use Rattle.dds_ends.proofs.Lists.{get-within}
use Rattle.dds_core.proofs.ResumedRows.{goes_here, row_needs, tries_after, tries_none}
use Rattle.dds_core.proofs.Watched.{on_err}
use Rattle.dds_core.proofs.peer.Peer.resume_row.Goals as goal

pub index-requires : goal.index-requires
index-requires c =
    let has = c.requires.row in
    let lt = get-within c.args.self.now.readers c.args.index has.reader has.at in
    let same = ap (λ (k : PeerKept). length k.readers) c.self.view_is in
    omega (arith, lt, same)

pub may_go_on-requires : goal.may_go_on-requires
may_go_on-requires c =
    let has = c.requires.row in
    subst (λ (x : ReaderKept). c.args.row < length x.writers)
    (sym (here_now c.args.self.now _ c.self.view_is c.args.index has.reader c.index.result.now _ has.at c.index.ensures))
    (get-within has.reader.writers c.args.row has.name has.at_row)

pub returns-then-not-may_go_on-clause-tries : goal.returns-then-not-may_go_on-clause-tries
returns-then-not-may_go_on-clause-tries c =
    let has = c.requires.row in
    let is : c.may_go_on.result ≡ false = search rules in
    tries_none c.args.self.now c.args.index c.args.row c.args.effects.now has.reader has.at
    (goes_here c.args.self.now _ c.self.view_is c.args.index c.args.row has.reader c.index.result.now _
    c.may_go_on.result _ has.at c.index.ensures is c.may_go_on.ensures)

pub returns-then-not-may_go_on-clause-on : goal.returns-then-not-may_go_on-clause-on
returns-then-not-may_go_on-clause-on c = nothing_more 1 c.args.effects.now

pub returns-in_err-make_row_ready-clause-on : goal.returns-in_err-make_row_ready-clause-on
returns-in_err-make_row_ready-clause-on c = nothing_more 1 c.args.effects.now

pub returns-in_err-make_row_ready-clause-needs : goal.returns-in_err-make_row_ready-clause-needs
returns-in_err-make_row_ready-clause-needs c =
    let has = c.requires.row in
    let is : c.may_go_on.result ≡ true = search rules in
    on_err _
    (row_needs c.args.self.now c.args.index c.args.row has.reader has.at
    (goes_here c.args.self.now _ c.self.view_is c.args.index c.args.row has.reader c.index.result.now _
    c.may_go_on.result _ has.at c.index.ensures is c.may_go_on.ensures))

pub returns-in_err-reserve-clause-on : goal.returns-in_err-reserve-clause-on
returns-in_err-reserve-clause-on c =
    record { twice = c.reserve.ensures.twice; few = omega arith; messages = λ h. h }

pub returns-in_err-reserve-clause-needs : goal.returns-in_err-reserve-clause-needs
returns-in_err-reserve-clause-needs c =
    let has = c.requires.row in
    let is : c.may_go_on.result ≡ true = search rules in
    on_err _
    (row_needs c.args.self.now c.args.index c.args.row has.reader has.at
    (goes_here c.args.self.now _ c.self.view_is c.args.index c.args.row has.reader c.index.result.now _
    c.may_go_on.result _ has.at c.index.ensures is c.may_go_on.ensures))

pub returns-clause-tries : goal.returns-clause-tries
returns-clause-tries c =
    tries_after c.args.self.now c.make_row_ready.new.self c.try_row.new.self c.args.index c.args.row c.args.effects.now
    (record c.args.effects.now { moves = c.reserve.new.self }) c.try_row.new.effects c.make_row_ready.ensures.stands
    c.make_row_ready.ensures.rows c.reserve.ensures.items c.try_row.ensures.tries

pub returns-clause-on : goal.returns-clause-on
returns-clause-on c = record {
  twice = c.try_row.ensures.on.twice ∙ c.reserve.ensures.twice;
  few = c.try_row.ensures.on.few;
  messages = c.try_row.ensures.on.messages;
}
