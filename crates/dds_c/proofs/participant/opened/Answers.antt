use Rattle.std.proofs.Common.{inr, subst, sym}
use Rattle.std.specs.List.{fold}
use Rattle.dds_domain.specs.Opening.{no_parts, with_end}
use Rattle.dds_domain.specs.Participants.{IsOpened, State}
use Rattle.dds_c.specs.Announcing.{IsAsked, IsOpening}
use Rattle.dds_c.specs.declared.member.Member.{Member}
use Rattle.dds_c.proofs.participant.opened.Goals as goal

pub returns-in_ok-new-in-Ok-clause-opening : goal.returns-in_ok-new-in-Ok-clause-opening
returns-in_ok-new-in-Ok-clause-opening c =
    let asked : IsAsked c.args.settings.now c.args.told.now c.args.ends.now c.args.fields.now c.in_ok-said.said
    c.in_ok-ours.ours.items =
    record {
      settings_are = c.in_ok-said.ensures;
      fields_are = c.in_ok-ours.ensures.fields;
      ends_are = c.in_ok-ours.ensures.ends;
    } in
    let opening : IsOpening c.args.settings.now c.args.told.now c.args.ends.now c.args.fields.now c.new.result =
    record {
      said = c.in_ok-said.said;
      ours = c.in_ok-ours.ours.items;
      asked = asked;
      opened =
          subst (λ (p : State). IsOpened c.in_ok-said.said 128 (fold with_end no_parts c.in_ok-ours.ours.items) p)
          (sym c.new.ensures.participant) c.in-Ok.ensures.opened;
      turn = c.new.ensures.turn;
      reply = c.new.ensures.reply;
    } in
    subst
    (λ (m : Member). IsOpening c.args.settings.now c.args.told.now c.args.ends.now c.args.fields.now m)
    (sym c.in_ok-new-in-Ok.ensures.ok) opening

pub returns-in-Err-clause-refused : goal.returns-in-Err-clause-refused
returns-in-Err-clause-refused c =
    let asked : IsAsked c.args.settings.now c.args.told.now c.args.ends.now c.args.fields.now c.in_ok-said.said
    c.in_ok-ours.ours.items =
    record {
      settings_are = c.in_ok-said.ensures;
      fields_are = c.in_ok-ours.ensures.fields;
      ends_are = c.in_ok-ours.ensures.ends;
    } in
    inr (inr (record {
      said = c.in_ok-said.said;
      ours = c.in_ok-ours.ours.items;
      asked = asked;
      cause = c.in-Err.cause;
      refused = c.in-Err.ensures.refused;
      is = c.code_of.ensures;
    }))
