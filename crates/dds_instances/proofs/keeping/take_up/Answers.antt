use Rattle.std.proofs.Common.{◌≡◌, ℕ, List, arith, map, subst, sym, ap, ◌∙◌, false, Option}
use Rattle.std.specs.Prelude.{IfSome}
use Rattle.std.specs.List.{list_any}
use Rattle.std.proofs.lemmas.List.Elements.{All-pop}
use Rattle.dds_base.specs.declared.key.Key.{Key}
use Rattle.dds_base.specs.Happening.{same_key}
use Rattle.dds_owner.specs.Standing.{IsBlank, Kept}
use Rattle.dds_instances.specs.Following.{key_of}
use Rattle.dds_instances.proofs.StandingLaws.{reaches-nothing}
use Rattle.dds_instances.proofs.keeping.take_up.Goals as goal

pub returns-then-not-is_write_or_dispose-clause-follows :
    goal.returns-then-not-is_write_or_dispose-clause-follows
returns-then-not-is_write_or_dispose-clause-follows c = λ h may matched many handle.
    let absent : list_any (same_key c.args.arrival.now.change.key) (map key_of c.args.tracks.now.items) ≡ false =
    ap (λ (ks : List Key). list_any (same_key c.args.arrival.now.change.key) ks) (sym c.requires.indexed)
    ∙ c.in_default.ensures in
    reaches-nothing c.args.qos.now h c.args.arrival.now c.args.tracks.now.items matched absent
    (sym c.is_write_or_dispose.ensures.kind ∙ c.if-not-is_write_or_dispose.true) may.before.follows

pub returns-clause-follows : goal.returns-clause-follows
returns-clause-follows c = λ h may matched many handle.
    let B : Kept → Type 0 = IsBlank c.args.writers in
    let parts = All-pop B c.args.blanks.now.items c.pop.new.self.items c.pop.result c.pop.ensures.items c.requires.blank in
    let blank : IsBlank c.args.writers c.unwrap-blank.result =
    subst (λ (r : Option Kept). IfSome r B) c.unwrap-blank.ensures parts.1 in
    c.introduce.ensures.follows h may matched
    (record { handle_is = handle; blank_is = subst (λ (n : ℕ). IsBlank n c.unwrap-blank.result) many blank })

pub returns-in-Some-clause-follows : goal.returns-in-Some-clause-follows
returns-in-Some-clause-follows c = λ h may matched many handle.
    c.change_known.ensures.follows h
    (record {
      before = record {
        place = may.before.place;
        lawful = may.before.lawful;
        follows = c.make_place.ensures.follows c.args.qos.now h (omega (arith, many)) may.before.follows;
      };
      tells = may.tells;
    })
    matched (c.make_place.ensures.placed (omega (arith, many, matched.1)))

pub returns-clause-blanks : goal.returns-clause-blanks
returns-clause-blanks c = λ n blank.
    (All-pop (IsBlank n) c.args.blanks.now.items c.pop.new.self.items c.pop.result c.pop.ensures.items blank).0
