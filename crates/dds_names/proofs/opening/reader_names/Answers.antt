use Rattle.std.proofs.Common.{◌+◌, ◌++◌, ℕ, List, map, ap, arith, refl, rules, ◌∙◌}
use Rattle.dds_base.specs.Matched.{is_reliable_reader}
use Rattle.dds_base.specs.declared.config.PeerConfig.{PeerConfig}
use Rattle.dds_base.specs.declared.config.ReaderConfig.{ReaderConfig}
use Rattle.dds_machine.specs.Opening.{names_in, reader_names}
use Rattle.dds_machine.specs.Part.{Name}
use Rattle.dds_names.specs.Known.{name_of}
use Rattle.dds_names.proofs.OpeningLaws.{names_on}
use Rattle.dds_names.proofs.opening.reader_names.Goals as goal

-- the names of the readers of a peer of this number
abbrev named : ℕ → PeerConfig → List Name
named number p = names_in (λ (r : ReaderConfig). r.entity) is_reliable_reader p.prefix number 1 p.readers

pub loop-index-preserved : goal.loop-index-preserved
loop-index-preserved c =
    let peer = c.index-peers-index.result in
    let pushed =
    c.in_ok-push_readers.ensures
    ∙ ap (λ (es : List ReaderConfig). map name_of c.loop-index.all.items
    ++ names_in (λ (r : ReaderConfig). r.entity) is_reliable_reader peer.prefix (c.loop-index.index + c.args.first) 1 es)
    c.as_slice.ensures.elements in
    names_on reader_names named (λ n p ps. refl) (c.loop-index.index + c.args.first) (c.loop-index.index + 1 + c.args.first)
    c.loop-index.index c.args.peers.now _ c.loop-index.all.items c.push_readers.new.all.items _ (omega arith) (search rules)
    (pushed ∙ ap (λ (p : PeerConfig). map name_of c.loop-index.all.items ++ named (c.loop-index.index + c.args.first) p)
    c.index-peers-index.is) c.loop-index.invariant
