use Rattle.std.proofs.Common.{◌≡◌, Bool, true, false, List, [], ◌∷◌, ◌++◌, ap, sym, ◌∙◌, rules}
use Rattle.std.specs.Prelude.{if◌then◌else◌}
use Rattle.std.proofs.lemmas.Iterator.{YieldsList-from_slice}
use Rattle.std.proofs.lemmas.Iterator.Search.{any_from_yields_List}
use Rattle.dds_machine.specs.Part.{same_endpoint}
use Rattle.dds_ends.specs.declared.matching.ReaderName.{ReaderName}
use Rattle.dds_ends.specs.declared.matching.TopicName.{TopicName}
use Rattle.dds_ends.specs.MatchedEnds.{is_named, names_of}
use Rattle.dds_ends.proofs.FirstPeers.{any-map}
use Rattle.dds_ends.proofs.coming.add_known.Goals as goal

pub returns-then-any : goal.returns-then-any
returns-then-any c =
    let known : List TopicName = c.args.known.now.items in
    let is_it : TopicName → Bool = λ k. same_endpoint k.name.reader c.args.reader.name.reader in
    let some : is_named (names_of known) c.args.reader.name.reader ≡ true =
    any-map (λ (k : TopicName). k.name) (λ (n : ReaderName). same_endpoint n.reader c.args.reader.name.reader) known
    ∙ (sym (any_from_yields_List is_it _ _ _ c.any.ensures.ran (YieldsList-from_slice known (search rules))
    (λ p b q k. search rules)) ∙ c.if-any.true) in
    sym (ap (λ (b : Bool). if b then known else known ++ c.args.reader ∷ []) some)

pub returns : goal.returns
returns c =
    let known : List TopicName = c.args.known.now.items in
    let is_it : TopicName → Bool = λ k. same_endpoint k.name.reader c.args.reader.name.reader in
    let none : is_named (names_of known) c.args.reader.name.reader ≡ false =
    any-map (λ (k : TopicName). k.name) (λ (n : ReaderName). same_endpoint n.reader c.args.reader.name.reader) known
    ∙ (sym (any_from_yields_List is_it _ _ _ c.any.ensures.ran (YieldsList-from_slice known (search rules))
    (λ p b q k. search rules)) ∙ c.if-any.false) in
    c.push_reserved.ensures.items
    ∙ sym (ap (λ (b : Bool). if b then known else known ++ c.args.reader ∷ []) none)
