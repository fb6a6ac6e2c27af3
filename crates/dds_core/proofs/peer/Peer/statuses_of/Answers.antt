use Rattle.std.proofs.Common.{ℕ, suc, ◌<◌, length, sym, ◌∙◌, ap, rules, refl}
use Rattle.std.proofs.lemmas.Option.{slice_get_read}
use Rattle.dds_base.specs.declared.entity.Entity.{Entity}
use Rattle.dds_machine.specs.Part.{own_proxies, own_reader, own_writer}
use Rattle.dds_machine.specs.Watching.{reader_statuses, status_changes, writer_statuses}
use Rattle.dds_core.proofs.CallSteps.{number_is, still_stands}
use Rattle.dds_core.proofs.peer.Peer.statuses_of.Goals as goal

pub returns-in-Some : goal.returns-in-Some
returns-in-Some c = λ roster peer given.
    let s = still_stands c.self.view_is given in
    let i = c.in-Some.index in
    let within : i < length c.self.inside.writers.items = search rules in
    c.status_changes.ensures (own_writer peer.part (suc i)) (peer.known.answered (suc i))
    (s.writers.each i c.index.result.now (slice_get_read _ _ _ _ refl within c.index.ensures))
    ∙ (ap (λ (n : ℕ). writer_statuses (own_writer peer.part n))
    (number_is c.in-Writer.number i c.in-Some.ensures.index.0)
    ∙ ap (λ (e : Entity). status_changes peer.part e) (sym c.in-Writer.is))

pub returns-in-Some-index_of : goal.returns-in-Some-index_of
returns-in-Some-index_of c = λ roster peer given.
    let s = still_stands c.self.view_is given in
    let i = c.in-Some-index_of.index in
    let within : i < length c.self.inside.readers.items = search rules in
    c.status_changes-in-Some-index_of.ensures _ _ _
    (s.readers.each i c.index-in-Some-index_of.result.now
    (slice_get_read _ _ _ _ refl within c.index-in-Some-index_of.ensures))
    ∙ (ap (λ (n : ℕ). reader_statuses (own_proxies peer.part n) (own_reader peer.part n))
    (number_is c.in-Reader.number i c.in-Some-index_of.ensures.index.0)
    ∙ ap (λ (e : Entity). status_changes peer.part e) (sym c.in-Reader.is))
