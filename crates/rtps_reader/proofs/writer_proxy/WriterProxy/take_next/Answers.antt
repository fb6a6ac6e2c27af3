use Rattle.std.proofs.Common.{◌≡◌, ℕ, ◌+◌, ◌≤◌, true, false, refl, sym, ap, ◌∙◌, subst, rules, arith, List}
use Rattle.std.specs.Prelude.{◌∷◌, nat_le}
use Rattle.dds_base.specs.declared.change.Change.{Change}
use Rattle.dds_base.specs.declared.happening.Arrival.{Arrival}
use Rattle.dds_base.specs.declared.happening.Happening.{Happening}
use Rattle.dds_base.specs.declared.happening.Happening.TheVariants.{Came}
use Rattle.dds_base.specs.Presence.{has_room}
use Rattle.dds_base.specs.Places.{coming}
use Rattle.rtps_sets.specs.Window.{window_place}
use Rattle.rtps_reader.specs.Moving.{HandsOn, match_of}
use Rattle.rtps_reader.specs.Proxy.{tracked}
use Rattle.rtps_reader.specs.Tracked.{Tracked, Slot, Held, SameTracked, is_missing, with_data}
use Rattle.rtps_reader.proofs.KeptLaws.{keeps_on, slot_stays, none_stays}
use Rattle.rtps_reader.proofs.MoveLaws.{comes_now}
use Rattle.rtps_reader.proofs.NextLaws.{next_goes_on, next_is_held, others_stay, next_stands, behind_stands, next_comes, next_waits}
use Rattle.rtps_reader.proofs.writer_proxy.WriterProxy.take_next.Goals as goal

pub returns-then-not-room-clause-moves : goal.returns-then-not-room-clause-moves
returns-then-not-room-clause-moves g c h st =
    let t : Tracked = tracked c.args.self.now in
    let q = g.S.Sink.qos c.args.sink.now in
    let next = c.requires.next in
    let full : c.room.result ≡ false = search rules in
    let idle = c.idle.ensures in
    let came : (j : List Happening) → Came c.arrival_of-coming.result
    ≡ coming (match_of q c.args.source.now) (record { place = t.place; happened = j }) c.args.change =
    λ j. ap (λ (a : Arrival). Came a) c.arrival_of-coming.ensures
    ∙ comes_now q c.args.source.now c.args.change c.args.number t.place j next.here in
    rw (c.room.ensures.same, idle.to, idle.passed)
    (next_waits (match_of q c.args.source.now) (with_data c.args.number c.args.change t) h
    (tracked c.hold.new.self) (g.S.Sink.stands c.args.sink.now)
    (next_stands t c.args.number c.args.change next)
    (λ change j is was.
    let same : c.args.change ≡ change =
    (let e : Held c.args.change ≡ Held change = sym (next_is_held t c.args.number c.args.change next) ∙ is in cc) in
    ap (λ (d : Change). has_room q j (coming (match_of q c.args.source.now)
    (record { place = t.place; happened = j }) d)) (sym same)
    ∙ (ap (λ (e : Happening). has_room q j e) (sym (came j)) ∙ (sym (c.room.ensures.room j was) ∙ full)))
    (subst (λ (d : Change). SameTracked (with_data c.args.number d t) (tracked c.hold.new.self))
    (ap (λ (a : Arrival). a.change) c.arrival_of-coming.ensures) c.hold.ensures.holds) st)

pub returns-clause-sound : goal.returns-clause-sound
returns-clause-sound g c =
    let was = c.requires.sound in
    let next = c.requires.next in
    let here : c.number.result ≡ window_place c.args.self.now.window = c.number.ensures.number ∙ next.here in
    let behind = c.new.ensures.number in
    let at = c.pass.ensures.place in
    let number = c.number.ensures.number in
    let small = c.requires.small in
    record {
      kept = keeps_on c.args.self.now.window c.pass.new.self c.args.self.now.held c.args.self.now.held was.kept
          (next_goes_on c.args.self.now.window c.pass.new.self c.args.self.now.held c.number.result c.new.result
          was.kept here (ap (λ (n : ℕ). is_missing ((tracked c.args.self.now).slot n)) number ∙ next.missing)
          behind at c.pass.ensures.marks);
      from = omega (arith, at, behind);
      unmarked = λ n high. none_stays (nat_le c.new.result n) _ _ (c.pass.ensures.marks n) (was.unmarked n high);
      place_is_small = omega (arith, at, behind, number, small);
      first_is_small = was.first_is_small;
    }

pub returns-clause-moves : goal.returns-clause-moves
returns-clause-moves g c h st =
    let t : Tracked = tracked c.args.self.now in
    let q = g.S.Sink.qos c.args.sink.now in
    let w = c.args.self.now.window in
    let was = c.requires.sound in
    let next = c.requires.next in
    let free : c.room.result ≡ true = search rules in
    let idle = c.idle-2.ensures in
    let here : c.number.result ≡ window_place w = c.number.ensures.number ∙ next.here in
    let behind = c.new.ensures.number in
    let at = c.pass.ensures.place in
    let number = c.number.ensures.number in
    let now : window_place c.pass.new.self ≡ c.args.number + 1 = at ∙ (behind ∙ ap (λ (n : ℕ). n + 1) number) in
    let goes = next_goes_on w c.pass.new.self c.args.self.now.held c.number.result c.new.result
    was.kept here (ap (λ (n : ℕ). is_missing (t.slot n)) number ∙ next.missing) behind at c.pass.ensures.marks in
    let came : (j : List Happening) → Came c.arrival_of-coming.result
    ≡ coming (match_of q c.args.source.now) (record { place = t.place; happened = j }) c.args.change =
    λ j. ap (λ (a : Arrival). Came a) c.arrival_of-coming.ensures
    ∙ comes_now q c.args.source.now c.args.change c.args.number t.place j next.here in
    let entered : (j : List Happening) → g.S.Sink.stands c.args.sink.now j
    → g.S.Sink.stands c.come.new.self (Came c.arrival_of-coming.result ∷ j) = search rules in
    let new : Tracked = tracked (record c.args.self.now { window = c.pass.new.self }) in
    let on : (n : ℕ) → window_place c.pass.new.self ≤ n → new.slot n ≡ t.slot n =
    λ n low. slot_stays w c.pass.new.self c.args.self.now.held c.args.self.now.held n goes
    (omega (arith, at, behind, here, low)) in
    let hands : HandsOn (match_of q c.args.source.now) (g.S.Sink.stands c.args.sink.now)
    (g.S.Sink.stands c.come.new.self) (with_data c.args.number c.args.change t) new = record {
      change = c.args.change;
      is_held = next_is_held t c.args.number c.args.change next;
      room = λ j was. ap (λ (e : Happening). has_room q j e) (sym (came j))
          ∙ (sym (c.room.ensures.room j was) ∙ free);
      entered = λ j was. subst (λ (e : Happening). g.S.Sink.stands c.come.new.self (e ∷ j)) (came j) (entered j was);
      place = now ∙ ap (λ (n : ℕ). n + 1) next.here;
      stays = record {
        slots = λ n low. on n low ∙ sym (others_stay t c.args.number n c.args.change (omega (arith, low, now)));
        first = refl;
        count = refl;
        acknacks = refl;
      };
    } in
    let then_slot : new.slot new.place ≡ t.slot (c.args.number + 1) =
    on (window_place c.pass.new.self) (omega arith) ∙ ap (λ (n : ℕ). t.slot n) now in
    rw (idle.to, idle.passed)
    (next_comes (match_of q c.args.source.now) (with_data c.args.number c.args.change t) h new
    (g.S.Sink.stands c.args.sink.now) (g.S.Sink.stands c.come.new.self)
    (next_stands t c.args.number c.args.change next) hands
    (behind_stands t new c.args.number next now then_slot refl)
    (ap (λ (s : Slot). is_missing s) then_slot ∙ next.behind) st)
