use Rattle.std.proofs.Common.{◌+◌, ◌++◌, ℕ, true, List, map, ap, arith, refl, rules, ◌∙◌}
use Rattle.dds_base.specs.declared.config.PeerConfig.{PeerConfig}
use Rattle.dds_base.specs.declared.config.WriterConfig.{WriterConfig}
use Rattle.dds_machine.specs.Opening.{names_in, writer_names}
use Rattle.dds_machine.specs.Part.{Name}
use Rattle.dds_names.specs.Known.{name_of}
use Rattle.dds_names.proofs.OpeningLaws.{names_on}
use Rattle.dds_names.proofs.opening.writer_names.Goals as goal

-- the names of the writers of a peer of this number
abbrev named : ℕ → PeerConfig → List Name
named number p = names_in (λ (w : WriterConfig). w.entity) (λ w. true) p.prefix number 1 p.writers

pub loop-index-preserved : goal.loop-index-preserved
loop-index-preserved c =
    let peer = c.index-peers-index.result in
    let pushed =
    c.in_ok-push_writers.ensures
    ∙ ap (λ (es : List WriterConfig). map name_of c.loop-index.all.items
    ++ names_in (λ (w : WriterConfig). w.entity) (λ w. true) peer.prefix (c.loop-index.index + c.args.first) 1 es)
    c.as_slice.ensures.elements in
    names_on writer_names named (λ n p ps. refl) (c.loop-index.index + c.args.first) (c.loop-index.index + 1 + c.args.first)
    c.loop-index.index c.args.peers.now _ c.loop-index.all.items c.push_writers.new.all.items _ (omega arith) (search rules)
    (pushed ∙ ap (λ (p : PeerConfig). map name_of c.loop-index.all.items ++ named (c.loop-index.index + c.args.first) p)
    c.index-peers-index.is) c.loop-index.invariant
