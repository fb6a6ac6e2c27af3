-- One more entry, where the life of an instance goes on, and where it is over.
use Rattle.std.proofs.Common.{◌≡◌, ◌+◌, List, ◌∷◌, length, Bool, true, false, not, ◌&&◌, ◌||◌, sym, ap, ◌∙◌, refl, Option, Some, None, ⊎_elim}
use Rattle.std.specs.Prelude.{is_some, if◌then◌else◌}
use Rattle.std.proofs.lemmas.Bool.{cases_Bool}
use Rattle.dds_base.specs.declared.key.Key.{Key}
use Rattle.dds_base.specs.declared.change.ChangeKind.{ChangeKind}
use Rattle.dds_base.specs.declared.happening.Happening.{Happening}
use Rattle.dds_base.specs.declared.qos.ReaderQos.{ReaderQos}
use Rattle.dds_base.specs.Access.{handle_of, lives_begun}
use Rattle.dds_base.specs.Instance.{is_known, introduces, is_rebirth, revives_disposed, revives_without_writers, disposed_generations, no_writers_generations, latest_rebirth}
use Rattle.dds_base.specs.Life.{or_else, is_write, last_accepted, last_marker, marker_reached, ends_life}
use Rattle.dds_base.specs.Ownership.{accepted_kind}
use Rattle.dds_instances.specs.Known.{writes_in_life}
use Rattle.dds_instances.specs.Track.{one_if}

pub or-some : (a b : Option ChangeKind) → is_some b ≡ true → is_some (or_else a b) ≡ true
or-some None b e = e
or-some (Some k) b e = refl

or-left : (a b : Option ChangeKind) → is_some b ≡ false → is_some (or_else a b) ≡ true → is_some a ≡ true
or-left None b none some = absurd cc
or-left (Some k) b none some = refl

module _ (q : ReaderQos) (i : Key) (h : List Happening) (e : Happening) where
  -- ---- the life goes on

  pub last-on : ends_life q i h e ≡ false → last_accepted q i (e ∷ h) ≡ or_else (accepted_kind q i h e) (last_accepted q i h)
  last-on on = ap (λ (b : Bool). if b then None else or_else (accepted_kind q i h e) (last_accepted q i h)) on

  pub marker-on : ends_life q i h e ≡ false
      → last_marker q i (e ∷ h) ≡ marker_reached q i h e (last_accepted q i h) (last_marker q i h)
  marker-on on =
      ap (λ (b : Bool). if b then None else marker_reached q i h e (last_accepted q i h) (last_marker q i h)) on

  pub disposed-on : ends_life q i h e ≡ false
      → disposed_generations q i (e ∷ h) ≡ disposed_generations q i h + one_if (revives_disposed q i h e)
  disposed-on on =
      ap (λ (b : Bool). if b then 0 else disposed_generations q i h + one_if (revives_disposed q i h e)) on

  pub no_writers-on : ends_life q i h e ≡ false
      → no_writers_generations q i (e ∷ h) ≡ no_writers_generations q i h + one_if (revives_without_writers q i h e)
  no_writers-on on =
      ap (λ (b : Bool). if b then 0 else no_writers_generations q i h + one_if (revives_without_writers q i h e)) on

  pub writes-on : ends_life q i h e ≡ false
      → writes_in_life q i (e ∷ h) ≡ writes_in_life q i h + one_if (is_write (accepted_kind q i h e))
  writes-on on = ap (λ (b : Bool). if b then 0 else writes_in_life q i h + one_if (is_write (accepted_kind q i h e))) on

  pub rebirth-on : ends_life q i h e ≡ false → latest_rebirth q i (e ∷ h)
      ≡ (if introduces q i h e || is_rebirth q i h e then length h + 1 else latest_rebirth q i h)
  rebirth-on on =
      ap (λ (b : Bool). if b || (introduces q i h e || is_rebirth q i h e) then length h + 1 else latest_rebirth q i h) on

  -- ---- it is over

  pub last-over : ends_life q i h e ≡ true → last_accepted q i (e ∷ h) ≡ None
  last-over over = ap (λ (b : Bool). if b then None else or_else (accepted_kind q i h e) (last_accepted q i h)) over

  pub marker-over : ends_life q i h e ≡ true → last_marker q i (e ∷ h) ≡ None
  marker-over over =
      ap (λ (b : Bool). if b then None else marker_reached q i h e (last_accepted q i h) (last_marker q i h)) over

  pub disposed-over : ends_life q i h e ≡ true → disposed_generations q i (e ∷ h) ≡ 0
  disposed-over over =
      ap (λ (b : Bool). if b then 0 else disposed_generations q i h + one_if (revives_disposed q i h e)) over

  pub no_writers-over : ends_life q i h e ≡ true → no_writers_generations q i (e ∷ h) ≡ 0
  no_writers-over over =
      ap (λ (b : Bool). if b then 0 else no_writers_generations q i h + one_if (revives_without_writers q i h e)) over

  pub writes-over : ends_life q i h e ≡ true → writes_in_life q i (e ∷ h) ≡ 0
  writes-over over =
      ap (λ (b : Bool). if b then 0 else writes_in_life q i h + one_if (is_write (accepted_kind q i h e))) over

  pub rebirth-over : ends_life q i h e ≡ true → latest_rebirth q i (e ∷ h) ≡ length h + 1
  rebirth-over over =
      ap (λ (b : Bool). if b || (introduces q i h e || is_rebirth q i h e) then length h + 1 else latest_rebirth q i h)
      over

  -- ---- who is known then

  -- the life of an instance that is known after the entry went on
  pub on-known : is_known q (e ∷ h) i ≡ true → ends_life q i h e ≡ false
  on-known known =
      ⊎_elim
      (λ over. absurd (let clash : false ≡ true =
      sym (ap (λ (k : Option ChangeKind). is_some k) (last-over over)) ∙ known in cc))
      (λ on. on)
      (cases_Bool (ends_life q i h e))

  pub known-on : is_known q h i ≡ true → ends_life q i h e ≡ false → is_known q (e ∷ h) i ≡ true
  known-on known on =
      ap (λ (k : Option ChangeKind). is_some k) (last-on on) ∙ or-some (accepted_kind q i h e) (last_accepted q i h) known

  -- of a known instance
  pub known-next : is_known q h i ≡ true → is_known q (e ∷ h) i ≡ not (ends_life q i h e)
  known-next known =
      ⊎_elim
      (λ over. ap (λ (k : Option ChangeKind). is_some k) (last-over over) ∙ sym (ap (λ (b : Bool). not b) over))
      (λ on. known-on known on ∙ sym (ap (λ (b : Bool). not b) on))
      (cases_Bool (ends_life q i h e))

  -- ---- the handle

  pub handle-on : is_known q (e ∷ h) i ≡ true → is_known q h i ≡ true → handle_of q (e ∷ h) i ≡ handle_of q h i
  handle-on after before =
      ap (λ (b : Bool). if not b then 0 else (if introduces q i h e then lives_begun q (e ∷ h) else handle_of q h i)) after
      ∙ ap (λ (b : Bool). if not b && is_some (accepted_kind q i h e) then lives_begun q (e ∷ h) else handle_of q h i)
      before

  pub handle-new : is_known q (e ∷ h) i ≡ true → introduces q i h e ≡ true → handle_of q (e ∷ h) i ≡ lives_begun q (e ∷ h)
  handle-new after begins =
      ap (λ (b : Bool). if not b then 0 else (if introduces q i h e then lives_begun q (e ∷ h) else handle_of q h i)) after
      ∙ ap (λ (b : Bool). if b then lives_begun q (e ∷ h) else handle_of q h i) begins

  -- what is known with the entry alone begins with it
  pub begins : is_known q (e ∷ h) i ≡ true → is_known q h i ≡ false → introduces q i h e ≡ true
  begins after before =
      ap (λ (b : Bool). not b && is_some (accepted_kind q i h e)) before
      ∙ or-left (accepted_kind q i h e) (last_accepted q i h) before
      (sym (ap (λ (k : Option ChangeKind). is_some k) (last-on (on-known after))) ∙ after)
