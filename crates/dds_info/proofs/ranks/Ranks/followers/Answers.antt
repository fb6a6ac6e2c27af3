use Rattle.std.proofs.Common.{sym, ◌∙◌, refl}
use Rattle.dds_info.proofs.RankLaws.{told-none, told-other, told-same}
use Rattle.dds_info.proofs.ranks.Ranks.followers.Goals as goal

pub returns-in_default : goal.returns-in_default
returns-in_default c = record {
  followed = λ later before.
      told-none c.args.sample.now later c.args.self.now (record { count = 0; recent = c.generations.result }) before
      (sym c.self.view_is ∙ c.in_default.is) refl c.generations.ensures;
}

pub returns-then-ne : goal.returns-then-ne
returns-then-ne c = record {
  followed = λ later before.
      told-other c.args.sample.now later c.args.self.now c.in-Some.next
      (record { count = 0; recent = c.generations-then-ne.result }) before (sym c.self.view_is ∙ c.in-Some.is)
      (sym c.ne.ensures ∙ c.if-ne.true) refl c.generations-then-ne.ensures;
}

pub returns : goal.returns
returns c = record {
  followed = λ later before.
      told-same c.args.sample.now later c.args.self.now c.in-Some.next
      (record { count = c.saturating_add.result; recent = c.in-Some.next.followers.recent }) before (sym c.self.view_is ∙ c.in-Some.is)
      (sym c.ne.ensures ∙ c.if-ne.false) c.saturating_add.ensures refl;
}
