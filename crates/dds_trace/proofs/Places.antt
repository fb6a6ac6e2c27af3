-- Telling listeners changes what was told, and nothing else of their places.
use Rattle.std.proofs.Common.{◌≡◌, ℕ, zero, suc, ◌-◌, ◌==◌, Bool, true, false, List, ◌∷◌, get_or, map, refl, ap, ◌∙◌}
use Rattle.std.specs.Prelude.{Option, Some, None, replicate, set, if◌then◌else◌}
use Rattle.std.proofs.Math.Seq.{map-set_same}
use Rattle.std.proofs.lemmas.List.{map-set}
use Rattle.dds_notices.specs.declared.mask.StatusMask.{StatusMask}
use Rattle.dds_base.specs.declared.entity.Entity.{Entity}
use Rattle.dds_base.specs.declared.entity.Entity.TheVariants as entity
use Rattle.dds_base.specs.Number.{at_number}
use Rattle.dds_notices.specs.declared.notice.Notice.{Notice}
use Rattle.dds_notices.specs.Listeners.{Place, Places, after_notice, at_entity, listener_place, nobody, takes, told_at, with_entity, with_notice}
use Rattle.dds_machine.specs.Noticing.{at_end}
use Rattle.dds_machine.specs.Part.{Part}
use Rattle.dds_protocol.proofs.AtEnds.{end_keeps}
use Rattle.dds_trace.specs.History.{emptied, emptied_place}

notice_same : (place : Option Place) (notice : Notice) → emptied_place (with_notice place notice) ≡ emptied_place place
notice_same None notice = refl
notice_same (Some place) notice = refl

-- the one of a number that takes a status was told
row_same : (row : List (Option Place)) (n : ℕ) (notice : Notice) (b : Bool) → (n == 0) ≡ b
    → takes (at_number row n) notice.status ≡ true
    → map emptied_place (set row (n - 1) (with_notice (at_number row n) notice)) ≡ map emptied_place row
row_same row n notice true is taken =
    let at : at_number row n ≡ None = ap (λ (c : Bool). if c then None else get_or row (n - 1) None) is in
    let not : takes (at_number row n) notice.status ≡ false = ap (λ (p : Option Place). takes p notice.status) at in
    absurd cc
row_same row n notice false is taken =
    let at : at_number row n ≡ get_or row (n - 1) None =
    ap (λ (c : Bool). if c then None else get_or row (n - 1) None) is in
    map-set_same emptied_place row (n - 1) (with_notice (at_number row n) notice) None
    (notice_same (at_number row n) notice ∙ ap (λ (p : Option Place). emptied_place p) at)

told_same : (places : Places) (e : Entity) (notice : Notice) → takes (at_entity places e) notice.status ≡ true
    → emptied (with_entity places e (with_notice (at_entity places e) notice)) ≡ emptied places
told_same places entity.Participant notice taken =
    ap (λ (p : Option Place). let x : Places = record {
      participant = p;
      writers = map emptied_place places.writers;
      readers = map emptied_place places.readers;
    } in x) (notice_same places.participant notice)
told_same places (entity.Writer n) notice taken =
    ap (λ (row : List (Option Place)). let x : Places = record {
      participant = emptied_place places.participant;
      writers = row;
      readers = map emptied_place places.readers;
    } in x) (row_same places.writers n notice (n == 0) refl taken)
told_same places (entity.Reader n) notice taken =
    ap (λ (row : List (Option Place)). let x : Places = record {
      participant = emptied_place places.participant;
      writers = map emptied_place places.writers;
      readers = row;
    } in x) (row_same places.readers n notice (n == 0) refl taken)

taker_same : (places : Places) (notice : Notice) (own all : Bool)
    → takes (at_entity places notice.entity) notice.status ≡ own → takes places.participant notice.status ≡ all
    → emptied (told_at places
    (if own then Some notice.entity else (if all then Some entity.Participant else None)) notice) ≡ emptied places
taker_same places notice true all is also = told_same places notice.entity notice is
taker_same places notice false true is also = told_same places entity.Participant notice also
taker_same places notice false false is also = refl

pub notice_keeps : (places : Places) (notice : Notice) → emptied (after_notice places notice) ≡ emptied places
notice_keeps places notice =
    taker_same places notice (takes (at_entity places notice.entity) notice.status)
    (takes places.participant notice.status) refl refl

-- the end of an event leaves the places as they were, but for what was told
pub end_places : (before part : Part) → emptied (at_end before part).dds.listeners ≡ emptied part.dds.listeners
end_places before part =
    end_keeps (λ (p : Part). emptied p.dds.listeners)
    (λ p e status. notice_keeps p.dds.listeners (record { entity = e; status = status })) before part

none_emptied : (n : ℕ) → map emptied_place (replicate n None) ≡ replicate n None
none_emptied zero = refl
none_emptied (suc n) = ap (λ (row : List (Option Place)). None ∷ row) (none_emptied n)

pub nobody_emptied : (writers readers : ℕ) → emptied (nobody writers readers) ≡ nobody writers readers
nobody_emptied writers readers =
    ap (λ (row : List (Option Place)). let x : Places = record {
      participant = None;
      writers = row;
      readers = map emptied_place (replicate readers None);
    } in x) (none_emptied writers)
    ∙ ap (λ (row : List (Option Place)). let x : Places = record {
      participant = None;
      writers = replicate writers None;
      readers = row;
    } in x) (none_emptied readers)

-- a place that is new is emptied
new_emptied : {L : Type 0} (capacity : L → ℕ) (mask : StatusMask) (listener : Option L)
    → emptied_place (listener_place capacity mask listener) ≡ listener_place capacity mask listener
new_emptied capacity mask None = refl
new_emptied capacity mask (Some listener) = refl

set_emptied : (row : List (Option Place)) (k : ℕ) (place : Option Place) → emptied_place place ≡ place
    → map emptied_place (set row k place) ≡ set (map emptied_place row) k place
set_emptied row k place same =
    map-set emptied_place row k place ∙ ap (λ (p : Option Place). set (map emptied_place row) k p) same

entity_emptied : (places : Places) (e : Entity) (place : Option Place) → emptied_place place ≡ place
    → emptied (with_entity places e place) ≡ with_entity (emptied places) e place
entity_emptied places entity.Participant place same =
    ap (λ (p : Option Place). let x : Places = record {
      participant = p;
      writers = map emptied_place places.writers;
      readers = map emptied_place places.readers;
    } in x) same
entity_emptied places (entity.Writer n) place same =
    ap (λ (row : List (Option Place)). let x : Places = record {
      participant = emptied_place places.participant;
      writers = row;
      readers = map emptied_place places.readers;
    } in x) (set_emptied places.writers (n - 1) place same)
entity_emptied places (entity.Reader n) place same =
    ap (λ (row : List (Option Place)). let x : Places = record {
      participant = emptied_place places.participant;
      writers = map emptied_place places.writers;
      readers = row;
    } in x) (set_emptied places.readers (n - 1) place same)

-- another place at an entity, at which nothing was told yet
pub set_places : {L : Type 0} (capacity : L → ℕ) (places : Places) (e : Entity) (mask : StatusMask) (listener : Option L)
    → emptied (with_entity places e (listener_place capacity mask listener))
    ≡ with_entity (emptied places) e (listener_place capacity mask listener)
set_places capacity places e mask listener =
    entity_emptied places e (listener_place capacity mask listener) (new_emptied capacity mask listener)
