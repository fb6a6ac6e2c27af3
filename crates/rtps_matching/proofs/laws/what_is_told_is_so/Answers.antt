use Rattle.rtps_matching.proofs.Announcing as announcing
use Rattle.rtps_matching.proofs.Telling as telling
use Rattle.rtps_matching.proofs.laws.what_is_told_is_so.Goals as goal

pub returns : goal.returns
returns c = record {
  announce = announcing.announce_tells;
  withdraw = telling.withdraw_tells;
  leave = telling.leave_tells;
  sleep = telling.sleep_tells;
  wake = telling.wake_tells;
  add = telling.add_tells;
  remove = telling.remove_tells;
}
