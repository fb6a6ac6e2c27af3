use Rattle.std.proofs.Common.{◌≡◌, ℕ, ◌+◌, ◌^◌, true, false, sym, ap, ◌∙◌, subst, rules, refl, arith, Option}
use Rattle.std.specs.Prelude.{List, ◌∷◌, Some, nat_le}
use Rattle.dds_base.specs.declared.change.Change.{Change}
use Rattle.dds_base.specs.declared.happening.Happening.{Happening}
use Rattle.dds_base.specs.declared.happening.Happening.TheVariants.{Came}
use Rattle.dds_base.specs.Presence.{has_room}
use Rattle.dds_base.specs.Places.{coming}
use Rattle.rtps_sets.specs.Window.{mark_of, window_place}
use Rattle.rtps_sets.specs.declared.window.Mark.TheVariants as mark
use Rattle.rtps_reader.specs.HeldChanges.{held_at}
use Rattle.rtps_reader.specs.Moving.{match_of}
use Rattle.rtps_reader.specs.Proxy.{slot_from}
use Rattle.rtps_reader.proofs.KeptLaws.{goes_on, slot_stays, keeps_on, keeps_same, put_back, emptied, held_now, same_change, none_stays, marked_below}
use Rattle.rtps_reader.proofs.MoveLaws.{comes_now}
use Rattle.rtps_reader.proofs.writer_proxy.WriterProxy.hand_on.Goals as goal

pub returns-clause-handed : goal.returns-clause-handed
returns-clause-handed g c came_on =
    let w = c.args.self.now.window in
    let place : ℕ = window_place c.args.self.now.window in
    let change : Change = c.take-change.result in
    let here = c.place-place.ensures.place in
    let marked : mark_of c.args.self.now.window place ≡ Some mark.Held = search rules in
    let found : held_at c.args.self.now.held place ≡ Some change =
    ap (λ (n : ℕ). held_at c.args.self.now.held n) (sym here) ∙ c.take-change.ensures.taken in
    let came : (h : List Happening) → Came (record {
      writer = c.args.source.now.publication;
      number = c.place-place.result;
      change = change;
      moment = c.args.source.now.moment;
    }) ≡ coming (match_of (g.S.Sink.qos c.args.sink.now) c.args.source.now)
    (record { place = place; happened = h }) change =
    λ h. comes_now (g.S.Sink.qos c.args.sink.now) c.args.source.now change c.place-place.result place h here in
    let room : c.room.result ≡ true = search rules in
    let entered : (h : List Happening) → g.S.Sink.stands c.args.sink.now h
    → g.S.Sink.stands c.come.new.self (Came (record {
      writer = c.args.source.now.publication;
      number = c.place-place.result;
      change = change;
      moment = c.args.source.now.moment;
    }) ∷ h) = search rules in
    record {
      change = change;
      is_held = rw (marked, found) refl;
      room = λ h st. ap (λ (e : Happening). has_room (g.S.Sink.qos c.args.sink.now) h e) (sym (came h))
          ∙ (sym (c.room.ensures.room h st) ∙ room);
      entered = λ h st. subst (λ (e : Happening). g.S.Sink.stands c.come.new.self (e ∷ h)) (came h) (entered h st);
      place = search rules;
      stays = record {
        slots = λ n low. slot_stays w c.pass.new.self c.args.self.now.held c.take-change.new.self n
            (goes_on w c.pass.new.self c.args.self.now.held c.take-change.new.self c.place-place.result c.new.result here
            (omega arith) c.pass.ensures.place c.pass.ensures.marks c.take-change.ensures.each) (omega arith);
        first = refl;
        count = refl;
        acknacks = refl;
      };
    }

pub take-change-requires : goal.take-change-requires
take-change-requires g c =
    let was = c.requires.sound in
    let here = c.place-place.ensures.place in
    let marked : mark_of c.args.self.now.window (window_place c.args.self.now.window) ≡ Some mark.Held = search rules in
    record { held = held_now c.args.self.now.window c.args.self.now.held c.place-place.result was.kept here marked }

pub put-requires : goal.put-requires
put-requires g c = record {
  places = c.take-change.ensures.places;
  free = emptied c.args.self.now.held c.take-change.new.self c.place-place.result c.take-change.ensures.each;
}

pub returns-then-not-room-clause-sound : goal.returns-then-not-room-clause-sound
returns-then-not-room-clause-sound g c =
    let was = c.requires.sound in
    record {
      kept = keeps_same c.args.self.now.window c.args.self.now.held c.put.new.self was.kept
          (put_back c.args.self.now.held c.take-change.new.self c.put.new.self c.place-place.result
          c.take-change.result c.take-change.ensures.taken c.take-change.ensures.each c.put.ensures.each);
      from = was.from;
      unmarked = was.unmarked;
      place_is_small = was.place_is_small;
      first_is_small = was.first_is_small;
    }

pub returns-then-not-room-clause-stays : goal.returns-then-not-room-clause-stays
returns-then-not-room-clause-stays g c stops = (
  record {
    place = refl;
    slots = λ n. ap (λ (o : Option Change). slot_from (mark_of c.args.self.now.window n) o)
        (put_back c.args.self.now.held c.take-change.new.self c.put.new.self c.place-place.result
        c.take-change.result c.take-change.ensures.taken c.take-change.ensures.each c.put.ensures.each n);
    first = refl;
    count = refl;
    acknacks = refl;
  },
  c.room.ensures.same,
)

pub returns-then-not-room-clause-full : goal.returns-then-not-room-clause-full
returns-then-not-room-clause-full g c stops change h is st =
    let place : ℕ = window_place c.args.self.now.window in
    let here = c.place-place.ensures.place in
    let marked : mark_of c.args.self.now.window place ≡ Some mark.Held = search rules in
    let found : held_at c.args.self.now.held place ≡ Some c.take-change.result =
    ap (λ (n : ℕ). held_at c.args.self.now.held n) (sym here) ∙ c.take-change.ensures.taken in
    let same : c.take-change.result ≡ change =
    same_change _ _ c.take-change.result change marked found is in
    let full : c.room.result ≡ false = search rules in
    ap (λ (d : Change). has_room (g.S.Sink.qos c.args.sink.now) h
    (coming (match_of (g.S.Sink.qos c.args.sink.now) c.args.source.now)
    (record { place = place; happened = h }) d)) (sym same)
    ∙ (ap (λ (e : Happening). has_room (g.S.Sink.qos c.args.sink.now) h e)
    (sym (comes_now (g.S.Sink.qos c.args.sink.now) c.args.source.now c.take-change.result c.place-place.result place h here))
    ∙ (sym (c.room.ensures.room h st) ∙ full))

pub returns-clause-sound : goal.returns-clause-sound
returns-clause-sound g c =
    let was = c.requires.sound in
    let from = was.from in
    let here = c.place-place.ensures.place in
    let at = c.pass.ensures.place in
    let next : c.new.result ≡ c.place-place.result + 1 = omega arith in
    let marked : mark_of c.args.self.now.window (window_place c.args.self.now.window) ≡ Some mark.Held = search rules in
    let below = marked_below c.args.self.now.window (window_place c.args.self.now.window) (2 ^ 62 + 256) mark.Held marked
    (λ le. was.unmarked (window_place c.args.self.now.window) le) in
    record {
      kept = keeps_on c.args.self.now.window c.pass.new.self c.args.self.now.held c.take-change.new.self was.kept
          (goes_on c.args.self.now.window c.pass.new.self c.args.self.now.held c.take-change.new.self
          c.place-place.result c.new.result here next at c.pass.ensures.marks c.take-change.ensures.each);
      from = omega (arith, at, next);
      unmarked = λ n high. none_stays (nat_le c.new.result n) _ _ (c.pass.ensures.marks n) (was.unmarked n high);
      place_is_small = omega (arith, at, next, here, below);
      first_is_small = was.first_is_small;
    }
