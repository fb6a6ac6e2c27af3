use Rattle.dds_discovery.proofs.Telling as telling
use Rattle.dds_discovery.proofs.laws.told.Goals as goal

pub returns : goal.returns
returns c =
    let m : telling.Matching = record {
      announce = c.what_is_told_is_so.ensures.announce;
      withdraw = c.what_is_told_is_so.ensures.withdraw;
      leave = c.what_is_told_is_so.ensures.leave;
      sleep = c.what_is_told_is_so.ensures.sleep;
      wake = c.what_is_told_is_so.ensures.wake;
      add = c.what_is_told_is_so.ensures.add;
      remove = c.what_is_told_is_so.ensures.remove;
      opens = c.names_stand_once.ensures.opening;
      adds = c.names_stand_once.ensures.add;
      removes = c.names_stand_once.ensures.remove;
      leaves = c.names_stand_once.ensures.leave;
      turns = c.names_stand_once.ensures.turn;
      announces = c.names_stand_once.ensures.announce;
    } in record {
      steps = telling.steps_tell m;
      add = telling.adds_tell m;
      remove = telling.removes_tell m;
      deliveries = telling.deliveries_tell_nothing;
      ticks = telling.ticks_tell_nothing;
      opening = telling.opens_once m;
    }
