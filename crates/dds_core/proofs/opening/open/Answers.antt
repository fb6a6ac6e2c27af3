use Rattle.std.proofs.Common.{◌≡◌, ℕ, ◌≤◌, List, Some, length, slice_get, ap, rules, subst, sym, ◌∙◌}
use Rattle.std.proofs.lemmas.Option.{slice_get-get_or}
use Rattle.dds_base.specs.declared.config.PeerConfig.{PeerConfig}
use Rattle.dds_base.specs.declared.config.WriterConfig.{WriterConfig}
use Rattle.dds_base.specs.declared.config.ReaderConfig.{ReaderConfig}
use Rattle.dds_ends.specs.OpeningEnds.{OpensReader, OpensWriter}
use Rattle.dds_core.specs.OpeningEnds.{OpensEach}
use Rattle.dds_protocol.proofs.Rosters.{configs_are_good}
use Rattle.dds_core.proofs.Limited.{few_ends}
use Rattle.dds_core.proofs.OpeningLaws.{opens_as, opens_core}
use Rattle.dds_core.proofs.opening.open.Goals as goal

pub invariant_of-result : goal.invariant_of-result
invariant_of-result c =
    let own = c.index-peers-index.result in
    let at : slice_get c.args.peers.now c.args.index ≡ Some own =
    slice_get-get_or c.args.peers.now c.args.index own c.requires.within
    ∙ ap (λ (p : PeerConfig). Some p) (sym c.index-peers-index.is) in
    let few =
    few_ends c.args.peers.now (configs_are_good (record { peers = c.args.peers.now }) c.requires.checked) c.args.index
    own at in
    let writers =
    c.in_ok-writers.ensures.count ∙ ap (λ (ws : List WriterConfig). length ws) c.as_slice.ensures.elements in
    let readers =
    c.in_ok-readers.ensures.count ∙ ap (λ (rs : List ReaderConfig). length rs) c.as_slice-2.ensures.elements in
    (subst (λ (n : ℕ). n ≤ 16) (sym writers) few.0, subst (λ (n : ℕ). n ≤ 16) (sym readers) few.1)

pub returns : goal.returns
returns c =
    let own = c.index-peers-index.result in
    let writers =
    subst (λ (ws : List WriterConfig). OpensEach (OpensWriter c.args.first c.args.peers.now) ws c.in_ok-writers.writers.items)
    c.as_slice.ensures.elements (opens_as _ _ (λ w k says. search rules) c.in_ok-writers.ensures) in
    let readers =
    subst (λ (rs : List ReaderConfig). OpensEach (OpensReader c.args.first c.args.peers.now) rs c.in_ok-readers.readers.items)
    c.as_slice-2.ensures.elements (opens_as _ _ (λ r k says. search rules) c.in_ok-readers.ensures) in
    opens_core c.args.first c.args.peers.now c.args.index c.new.result own c.in_ok-writers.writers.items
    c.in_ok-readers.readers.items c.in_ok-names.names c.in_ok-watch.watch c.requires.within c.requires.low
    c.index-peers-index.is c.new.ensures.units c.in_ok-names.ensures (search rules) writers readers
