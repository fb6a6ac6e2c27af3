use Rattle.std.proofs.Common.{◌≡◌, ◌∙◌, ◌-◌, ◌++◌, ℕ, List, length, take, ap, sym}
use Rattle.rtps_adapter.proofs.Standing.{stays_as_it_is, needs_it, rewritten, too_long}
use Rattle.rtps_adapter.proofs.adapt.adapt.Goals as goal

pub returns-then-not-has_touched-clause-answers : goal.returns-then-not-has_touched-clause-answers
returns-then-not-has_touched-clause-answers c =
    let h = c.has_touched.ensures in
    let none = c.if-not-has_touched.true in
    stays_as_it_is c.args.way c.args.kinds.now c.args.bytes.now c.in-Some.source c.in-Some.body.now h.0 h.1
    c.in-Some.ensures.found h.2 (sym h.3 ∙ none)

pub returns-in_err-out-clause-lent : goal.returns-in_err-out-clause-lent
returns-in_err-out-clause-lent c = λ none.
    let h = c.has_touched.ensures in
    absurd (needs_it c.args.way c.args.kinds.now c.args.bytes.now c.in-Some.source c.in-Some.body.now h.0 h.1
    c.has_touched.result c.in-Some.ensures.found h.2 h.3 c.if-not-has_touched.false none)

pub returns-in_err-put_all-clause-lent : goal.returns-in_err-put_all-clause-lent
returns-in_err-put_all-clause-lent c = λ none.
    let h = c.has_touched.ensures in
    absurd (needs_it c.args.way c.args.kinds.now c.args.bytes.now c.in-Some.source c.in-Some.body.now h.0 h.1
    c.has_touched.result c.in-Some.ensures.found h.2 h.3 c.if-not-has_touched.false none)

pub returns-then-not-branch-clause-lent : goal.returns-then-not-branch-clause-lent
returns-then-not-branch-clause-lent c = λ none.
    let h = c.has_touched.ensures in
    absurd (needs_it c.args.way c.args.kinds.now c.args.bytes.now c.in-Some.source c.in-Some.body.now h.0 h.1
    c.has_touched.result c.in-Some.ensures.found h.2 h.3 c.if-not-has_touched.false none)

pub returns-clause-lent : goal.returns-clause-lent
returns-clause-lent c = λ none.
    let h = c.has_touched.ensures in
    absurd (needs_it c.args.way c.args.kinds.now c.args.bytes.now c.in-Some.source c.in-Some.body.now h.0 h.1
    c.has_touched.result c.in-Some.ensures.found h.2 h.3 c.if-not-has_touched.false none)

pub returns-then-not-branch-clause-answers : goal.returns-then-not-branch-clause-answers
returns-then-not-branch-clause-answers c =
    let p = c.in_ok-put_all.ensures.ok in
    let begun : c.extend_from_slice.new.self.items
    ≡ take (length c.args.bytes.now - length c.in-Some.body.now) c.args.bytes.now =
    c.in_ok-extend_from_slice.ensures.items ∙ ap (λ (z : List ℕ). z ++ take (length c.args.bytes.now - length
    c.in-Some.body.now) c.args.bytes.now) c.in_ok-out.ensures.items in
    too_long c.args.way c.args.kinds.now c.args.bytes.now c.in-Some.source c.in-Some.body.now p.0 p.1
    c.extend_from_slice.new.self.items c.put_all.new.out.items c.in_ok-put_all.field-0 c.in-Some.ensures.found p.2
    begun p.3 c.if-not-branch.true

pub returns-clause-answers : goal.returns-clause-answers
returns-clause-answers c =
    let p = c.in_ok-put_all.ensures.ok in
    let begun : c.extend_from_slice.new.self.items
    ≡ take (length c.args.bytes.now - length c.in-Some.body.now) c.args.bytes.now =
    c.in_ok-extend_from_slice.ensures.items ∙ ap (λ (z : List ℕ). z ++ take (length c.args.bytes.now - length
    c.in-Some.body.now) c.args.bytes.now) c.in_ok-out.ensures.items in
    let all =
    rewritten c.args.way c.args.kinds.now c.args.bytes.now c.in-Some.source c.in-Some.body.now p.0 p.1
    c.extend_from_slice.new.self.items c.put_all.new.out.items c.in_ok-put_all.field-0 c.in-Some.ensures.found p.2
    begun p.3 c.if-not-branch.false in
    rw c.from_vec.ensures.octets all
