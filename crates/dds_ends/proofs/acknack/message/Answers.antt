use Rattle.std.proofs.Common.{List, [], ◌∷◌, ap, sym, subst, ◌∙◌, rules}
use Rattle.std.specs.Prelude.{ℤ, FitsSigned}
use Rattle.std.specs.Int.{w32}
use Rattle.std.proofs.lemmas.Int.{to_z-of_z}
use Rattle.rtps_wire.specs.declared.submessage.Submessage.{Submessage}
use Rattle.rtps_wire.specs.declared.submessage.Submessage.TheVariants.{InfoDst, AckNack}
use Rattle.rtps_wire.specs.Messages.{IsWritable}
use Rattle.dds_ends.proofs.ReadersAnswer.{acknack_writable}
use Rattle.dds_ends.proofs.acknack.message.Goals as goal

pub returns-clause-writable : goal.returns-clause-writable
returns-clause-writable c =
    let fits : FitsSigned w32 c.args.due.now.count = search rules in
    let acknack : ℤ → List Submessage = λ z.
    InfoDst c.args.writer.now.guid.prefix ∷ AckNack (record {
      reader_id = c.args.reader;
      writer_id = c.args.writer.now.guid.entity;
      reader_sn_state = c.args.due.now.missing;
      count = z;
      final_flag = c.args.due.now.is_final;
    }) ∷ [] in
    let made = rw (c.push_in_place.ensures.items, c.new-submessages.ensures.none) at c.push_in_place-2.ensures.items in
    let all =
    made ∙ ap acknack (to_z-of_z w32 c.args.due.now.count fits) in
    subst (λ (ss : List Submessage). IsWritable (record { prefix = c.args.own; submessages = ss })) (sym all)
    (acknack_writable c.args.own c.args.writer.now.guid.prefix c.args.reader c.args.writer.now.guid.entity
    c.args.due.now c.as_slice-own.ensures.len c.as_slice-to.ensures.len c.as_slice-reader.ensures.len
    c.as_slice-writer.ensures.len fits c.requires)
