use Rattle.std.proofs.Common.{◌≡◌, ◌∙◌, List, [], ◌∷◌, ap, map, refl, rules, sym}
use Rattle.std.proofs.lemmas.Iterator.Adapters.{YieldsList-from_vec}
use Rattle.std.proofs.lemmas.Iterator.Consumers.{YieldsList-so_far, YieldsList-turn}
use Rattle.dds_domain.proofs.Adding.{refused_at}
use Rattle.dds_domain.proofs.participant.add_all.Goals as goal

map_same : {X : Type 0} (xs : List X) → map (λ (x : X). x) xs ≡ xs
map_same [] = refl
map_same (x ∷ xs) = ap (λ ys. x ∷ ys) (map_same xs)

pub returns-in_err-add-clause-refused : goal.returns-in_err-add-clause-refused
returns-in_err-add-clause-refused c =
    let road = YieldsList-from_vec {s = c.into_iter-end-iterator.result} c.args.ends.items (search rules) (search rules) in
    let turn = YieldsList-turn road c.loop-end.yielded c.loop-end.end-iterator c.loop-end.yielded_by c.next.result
    c.next.new.self c.in-Some.end c.in-Some.is c.next.ensures.steps in
    let front = YieldsList-so_far road c.loop-end.yielded c.loop-end.end-iterator c.loop-end.yielded_by in
    let refused = refused_at c.args.discovery.now c.loop-end.discovery c.args.ends.items c.loop-end.yielded
    c.in-Some.end c.in_err-add.field-0.0 c.requires.none c.loop-end.invariant (sym (map_same c.loop-end.yielded) ∙ front) turn
    c.in_err-add.ensures.refused in
    let e = c.from_residual.ensures in
    search rules
