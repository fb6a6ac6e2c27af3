use Rattle.std.proofs.Common.{◌≡◌, ℕ, Bool, ◌&&◌, Some, Result, Ok, refl, subst, sym, ◌∙◌, arith, rules}
use Rattle.std.specs.Prelude.{◌==◌, IfOk, if◌then◌else◌}
use Rattle.std.proofs.lemmas.Bool.{ne_eqb}
use Rattle.dds_base.specs.declared.code.Code.{Code}
use Rattle.rtps_sets.specs.Window.{Marks, can_mark, mark_of}
use Rattle.rtps_sets.specs.declared.window.Mark.TheVariants as mark
use Rattle.rtps_reader.proofs.KeptLaws.{free_place, keeps_held, slot_held, slot_not_held, unmarked_held}
use Rattle.rtps_reader.proofs.writer_proxy.WriterProxy.hold.Goals as goal

-- what a mark that is not refused tells
new_is : (window : Marks) (number : ℕ) (r : Result Bool Code) (is_new : Bool) → r ≡ Ok is_new
    → IfOk r (λ b. b ≡ can_mark window number) → is_new ≡ can_mark window number
new_is window number r is_new is told = subst (λ (x : Result Bool Code). IfOk x (λ b. b ≡ can_mark window number)) is told

marks_are : (old new : Marks) (number : ℕ) (r : Result Bool Code) (is_new : Bool) → r ≡ Ok is_new
    → IfOk r (λ b. (n : ℕ) → mark_of new n ≡ (if b && (number == n) then Some mark.Held else mark_of old n)) → (n : ℕ)
    → mark_of new n ≡ (if is_new && (number == n) then Some mark.Held else mark_of old n)
marks_are old new number r is_new is told =
    subst
    (λ (x : Result Bool Code). IfOk x
    (λ b. (n : ℕ) → mark_of new n ≡ (if b && (number == n) then Some mark.Held else mark_of old n))) is told

pub put-requires : goal.put-requires
put-requires c = record {
  places = c.requires.places;
  free = free_place c.args.self.now.window c.args.self.now.held c.args.number c.requires.sound.kept
      (sym (new_is c.args.self.now.window c.args.number c.mark.result c.unwrap.result c.unwrap.ensures
      c.mark.ensures.answer) ∙ c.if-unwrap.true);
}

pub returns-then-unwrap-clause-sound : goal.returns-then-unwrap-clause-sound
returns-then-unwrap-clause-sound c =
    let was = c.requires.sound in
    let small = c.requires.small in
    record {
      kept = keeps_held c.args.self.now.window c.mark.new.self c.args.self.now.held c.put.new.self c.args.number
          c.args.change c.unwrap.result was.kept (sym (new_is c.args.self.now.window c.args.number c.mark.result c.unwrap.result c.unwrap.ensures
          c.mark.ensures.answer) ∙ c.if-unwrap.true) c.if-unwrap.true
          c.mark.ensures.place (marks_are c.args.self.now.window c.mark.new.self c.args.number c.mark.result c.unwrap.result
          c.unwrap.ensures c.mark.ensures.marks) c.put.ensures.each;
      from = search rules;
      unmarked = λ n high. unmarked_held c.unwrap.result (c.args.number == n) _ _ (marks_are c.args.self.now.window c.mark.new.self c.args.number c.mark.result c.unwrap.result
          c.unwrap.ensures c.mark.ensures.marks n)
          (ne_eqb c.args.number n (λ e. omega (arith, e, small, high))) (was.unmarked n high);
      place_is_small = search rules;
      first_is_small = was.first_is_small;
    }

pub returns-then-unwrap-clause-holds : goal.returns-then-unwrap-clause-holds
returns-then-unwrap-clause-holds c = record {
  place = c.mark.ensures.place;
  slots = λ n. slot_held c.args.self.now.window c.mark.new.self c.args.self.now.held c.put.new.self c.args.number n
      c.args.change c.unwrap.result (sym (new_is c.args.self.now.window c.args.number c.mark.result c.unwrap.result c.unwrap.ensures
      c.mark.ensures.answer) ∙ c.if-unwrap.true) c.if-unwrap.true
      (marks_are c.args.self.now.window c.mark.new.self c.args.number c.mark.result c.unwrap.result
      c.unwrap.ensures c.mark.ensures.marks n) (c.put.ensures.each n);
  first = refl;
  count = refl;
  acknacks = refl;
}

pub returns-else-unwrap-clause-sound : goal.returns-else-unwrap-clause-sound
returns-else-unwrap-clause-sound c =
    rw (c.mark.ensures.refused (sym (new_is c.args.self.now.window c.args.number c.mark.result c.unwrap.result c.unwrap.ensures
    c.mark.ensures.answer) ∙ c.if-unwrap.false)).1 c.requires.sound

pub returns-else-unwrap-clause-holds : goal.returns-else-unwrap-clause-holds
returns-else-unwrap-clause-holds c =
    let can = sym (new_is c.args.self.now.window c.args.number c.mark.result c.unwrap.result c.unwrap.ensures
    c.mark.ensures.answer) ∙ c.if-unwrap.false in
    rw (c.mark.ensures.refused can).1 (record {
      place = refl;
      slots = λ n. slot_not_held c.args.self.now.window c.args.self.now.held c.args.number n c.args.change
          c.requires.sound.kept can;
      first = refl;
      count = refl;
      acknacks = refl;
    })
