use Rattle.std.proofs.Common.{◌<◌, ◌∙◌, sym, ap, subst, arith, length, refl}
use Rattle.std.specs.Prelude.{slice_get}
use Rattle.std.proofs.lemmas.Option.{slice_get_within}
use Rattle.std.proofs.Math.ListN.{length-set}
use Rattle.rtps_reader.specs.Reader.{Proxies, AllStay, count_of, how_at}
use Rattle.rtps_reader.proofs.ReaderLaws.{all_stand, stays, at_loop, ready_step, ready_more, get-set_other, sound_set}
use Rattle.rtps_reader.proofs.stateful_reader.StatefulReader.reserve.Goals as goal

pub loop-at-init : goal.loop-at-init
loop-at-init g c =
    record {
      same = subst (λ (u : Proxies). AllStay u (record { writers = c.self.inside.writers.items })) c.self.view_is
          (λ k t has. has);
      sound = c.self.invariant;
      how = λ k. ap (λ (r : Proxies). how_at r k) c.self.view_is;
      len = ap (λ (r : Proxies). count_of r) c.self.view_is;
      stands = λ h st. st;
      qos = refl;
      writers = refl;
      spare = omega arith;
      ready = λ k p lt is. absurd (omega (arith, lt));
      later = λ k le. ap (λ (r : Proxies). slice_get r.writers k) c.self.view_is;
    }

pub invariant_of-self-in_err-reserve : goal.invariant_of-self-in_err-reserve
invariant_of-self-in_err-reserve g c =
    let at = at_loop c.args.self.now c.self.inside.writers.items c.loop-at.self-inside.writers.items c.loop-at.at
    c.len-at-end.result _ c.index_mut-known.result.now c.self.view_is c.loop-at.invariant.len
    c.self.inside.writers.ok.0 c.len-at-end.ensures c.loop-at-test.true c.index_mut-known.ensures.value in
    sound_set c.loop-at.self-inside.writers.items c.loop-at.at c.reserve.new.self c.loop-at.invariant.sound
    (c.reserve.ensures.sound (c.loop-at.invariant.sound c.loop-at.at c.index_mut-known.result.now at))

pub returns-in_err-reserve-clause-same : goal.returns-in_err-reserve-clause-same
returns-in_err-reserve-clause-same g c k t has =
    let at = at_loop c.args.self.now c.self.inside.writers.items c.loop-at.self-inside.writers.items c.loop-at.at
    c.len-at-end.result _ c.index_mut-known.result.now c.self.view_is c.loop-at.invariant.len
    c.self.inside.writers.ok.0 c.len-at-end.ensures c.loop-at-test.true c.index_mut-known.ensures.value in
    stays c.loop-at.self-inside.writers.items c.loop-at.at c.index_mut-known.result.now c.reserve.new.self
    at c.reserve.ensures.same k t (c.loop-at.invariant.same k t has)

pub returns-in_err-reserve-clause-succeeds : goal.returns-in_err-reserve-clause-succeeds
returns-in_err-reserve-clause-succeeds g c ready =
    let at = at_loop c.args.self.now c.self.inside.writers.items c.loop-at.self-inside.writers.items c.loop-at.at
    c.len-at-end.result _ c.index_mut-known.result.now c.self.view_is c.loop-at.invariant.len
    c.self.inside.writers.ok.0 c.len-at-end.ensures c.loop-at-test.true c.index_mut-known.ensures.value in
    let never = c.in_err-reserve.ensures.succeeds
    (ready_more c.index_mut-known.result.now _ _ c.loop-at.invariant.spare
    (ready c.loop-at.at c.index_mut-known.result.now
    (sym (c.loop-at.invariant.later c.loop-at.at (omega arith)) ∙ at))) in
    absurd (cc)

pub loop-at-preserved : goal.loop-at-preserved
loop-at-preserved g c =
    let at = at_loop c.args.self.now c.self.inside.writers.items c.loop-at.self-inside.writers.items c.loop-at.at
    c.len-at-end.result _ c.index_mut-known.result.now c.self.view_is c.loop-at.invariant.len
    c.self.inside.writers.ok.0 c.len-at-end.ensures c.loop-at-test.true c.index_mut-known.ensures.value in
    let it = c.loop-at.invariant in
    let made = c.in_ok-reserve.ensures in
    record {
      same = λ k t has. stays c.loop-at.self-inside.writers.items c.loop-at.at c.index_mut-known.result.now
          c.reserve.new.self at made.same k t (it.same k t has);
      sound = sound_set c.loop-at.self-inside.writers.items c.loop-at.at c.reserve.new.self it.sound
          (made.sound (it.sound c.loop-at.at c.index_mut-known.result.now at));
      how = λ k. all_stand {reader = record { writers = c.loop-at.self-inside.writers.items }}
          (record { view = refl; at = at })
          c.reserve.new.self made.how k ∙ it.how k;
      len = length-set c.loop-at.self-inside.writers.items c.loop-at.at c.reserve.new.self ∙ it.len;
      stands = λ h st. made.stands h (it.stands h st);
      qos = made.qos ∙ it.qos;
      writers = made.writers ∙ it.writers;
      spare = omega (arith, it.spare, made.spare);
      ready = ready_step c.loop-at.self-inside.writers.items c.loop-at.at c.reserve.new.self _ _ made.spare it.ready
          made.ok;
      later = λ k le. get-set_other c.loop-at.self-inside.writers.items c.loop-at.at c.reserve.new.self k
          (omega (arith, le)) ∙ it.later k (omega (arith, le));
    }

pub returns-clause-ok : goal.returns-clause-ok
returns-clause-ok g c k p is =
    let len = c.loop-at.invariant.len in
    let first = ap (λ (r : Proxies). count_of r) c.self.view_is in
    let lt : k < length c.loop-at.self-inside.writers.items = slice_get_within c.loop-at.self-inside.writers.items k p
    is in
    let past = c.loop-at-test.false in
    c.loop-at.invariant.ready k p
    (omega (arith, lt, past, len, first, c.self.inside.writers.ok.0, c.len-at-end.ensures)) is

pub returns-in_err-reserve-clause-how : goal.returns-in_err-reserve-clause-how
returns-in_err-reserve-clause-how g c k =
    let at = at_loop c.args.self.now c.self.inside.writers.items c.loop-at.self-inside.writers.items c.loop-at.at
    c.len-at-end.result _ c.index_mut-known.result.now c.self.view_is c.loop-at.invariant.len
    c.self.inside.writers.ok.0 c.len-at-end.ensures c.loop-at-test.true c.index_mut-known.ensures.value in
    all_stand {reader = record { writers = c.loop-at.self-inside.writers.items }} (record { view = refl; at = at })
    c.reserve.new.self c.in_err-reserve.ensures.how k ∙ c.loop-at.invariant.how k

pub returns-clause-how : goal.returns-clause-how
returns-clause-how g c k = c.loop-at.invariant.how k
