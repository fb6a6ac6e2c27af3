-- those of the first writers so far were put over the others
use Rattle.std.proofs.Common.{◌≡◌, ◌++◌, take, drop}
use Rattle.std.specs.Prelude.{vec_len}
use Rattle.dds_owner.proofs.registration.put_front.Given as goal

abbrev pub invariant-loop-at : goal.invariant-loop-at
invariant-loop-at l = record {
  items : l.registrations.items ≡ take l.at l.first ++ drop l.at l.fn.registrations.items;
  len : vec_len l.registrations ≡ vec_len l.fn.registrations;
}
