use Rattle.std.proofs.Common.{◌≡◌, ◌∙◌, Bool, true, false, List, [], ap, sym, subst}
use Rattle.std.specs.List.{list_any}
use Rattle.rtps_matching.specs.declared.end.End.{End}
use Rattle.rtps_matching.specs.declared.far.Far.{Far}
use Rattle.rtps_matching.specs.declared.told.Told.{Told}
use Rattle.rtps_matching.specs.Matches.{announced, changes, is_far}
use Rattle.rtps_matching.specs.Steps.{Announced, Hears, Table, WhereSo, is_again, known_as, placed, says_again, with_far}
use Rattle.rtps_matching.proofs.Members.{any_weaker}
use Rattle.rtps_matching.proofs.Pairs.{again_is_known}
use Rattle.rtps_matching.proofs.endpoints.Endpoints.announce.Goals as goal

pub returns-then-says-clause-few : goal.returns-then-says-clause-few
returns-then-says-clause-few c = λ none.
    let far : List Far = c.self.inside.far.items in
    let again : list_any (is_again c.args.guid c.args.payload.now) far ≡ true =
    ap (λ (fs : List Far). list_any (is_again c.args.guid c.args.payload.now) fs) (sym c.deref.ensures.value)
    ∙ (sym c.says.ensures ∙ c.if-says.true) in
    let known : list_any (is_far c.args.guid) far ≡ true =
    any_weaker (is_again c.args.guid c.args.payload.now) (is_far c.args.guid) far
    (again_is_known c.args.guid c.args.payload.now) again in
    let no : true ≡ false =
    sym known ∙ (ap (λ (t : Table). list_any (is_far c.args.guid) t.far) c.self.view_is ∙ none) in absurd cc

pub returns-clause-ok : goal.returns-clause-ok
returns-clause-ok c =
    let old : Table = record {
      own = c.self.inside.own.items;
      far = c.self.inside.far.items;
      most = c.self.inside.most;
    } in
    let new : Table = with_far c.place.new.far.items old in
    let told : List Told = c.in_ok-told.told.items in
    let found = c.in_ok-new.ensures.announced in
    let is : Far = announced c.args.guid c.args.kind c.args.payload.now found.0 in
    let not : says_again c.args.guid c.args.payload.now old ≡ false =
    ap (λ (fs : List Far). list_any (is_again c.args.guid c.args.payload.now) fs) (sym c.deref.ensures.value)
    ∙ (sym c.says.ensures ∙ c.if-says.false) in
    let changed : Announced old c.args.guid c.args.kind c.args.payload.now new told = record {
      said = found.0;
      reads = found.1;
      table = ap (λ (fs : List Far). with_far fs old)
          (c.in_ok-place.ensures.ok ∙ ap (λ (f : Far). placed f old.far) found.2);
      told_is = c.in_ok-told.ensures.ok
          ∙ (ap (λ (os : List End). changes os (known_as c.in_ok-new.new.guid c.deref-4.result.now) c.in_ok-new.new)
          c.deref-3.ensures.value
          ∙ (ap (λ (fs : List Far). changes old.own (known_as c.in_ok-new.new.guid fs) c.in_ok-new.new)
          c.deref-4.ensures.value
          ∙ ap (λ (f : Far). changes old.own (known_as f.guid old.far) f) found.2));
    } in
    subst (λ (t : Table). Hears t c.args.guid c.args.kind c.args.payload.now new told) c.self.view_is
    (subst (λ (b : Bool). WhereSo b ((new ≡ old) × (told ≡ []))
    (Announced old c.args.guid c.args.kind c.args.payload.now new told)) (sym not) changed)
