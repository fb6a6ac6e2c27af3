-- `discard` lets a handle go that owns nothing.
use mathlib.Core.Path.{◌≡◌, refl, sym, subst}
use mathlib.Core.List.{List, [], ◌∷◌, ◌++◌}
use lib.Dec.{T, lit<}
use seplogic.Ra.Ura.{Ura}
use mir.Val.{Val, vunit, vstruct, vnil, vcons, has_ty, WT, of_list}
use base.Logic.{SProp, ent, emp, id⊢}
use base.Fml.{ftrue, fsep}
use prog.Memory.{Memory}
use prog.Routine.{Routine}
use prog.Wp.{WpFn, Tables}
use types.Logic.{Logic}
use contract.Monad.{Fun, fact}
use contract.Running.{tables, tables_of}
use sound.WpLaws.{WpFn-mono}
use types.Kit.{Item, ‵, raw, ◌⊛◌, ◌$◌, ◌∵◌, !, qed, by, move, drop, use1, join, split, fsplit, fpick, feq_l, feq_i, suffices, use0, fjoin, done}
use types.Run.{of_opd, unit_lit, returns, enter}
use types.ByLocal.{alloc_all, pass_all, free_all, look_at, sets}
use denote.Exit.{yes}
use denote.RawPtr.{Ptr, null_ptr, block_ptr, ptr_val}
use denote.Steps.{heard, nothing}
use denote.Triple.Spec.{triple_of}
use denote.Triple.Table.{entered}
use denote.Triple.Walked.{Stays, stay_dropped, walk_of, ends_at, Goes-dropped, walk_Meets}
use Rattle.core.proofs.alloc.Calls.{α, Fits, handle_tells}
use Rattle.std_alloc.proofs.BoxSteps.Form.{P, box_ty, box_typed}
use Rattle.std_alloc.proofs.ResultValues.{and_tt}
use Rattle.std.specs.Prelude.{IsFalse}
use Rattle.dds_c.specs.HeldMember.{has_member}
use Rattle.dds_c.proofs.AsMember.{E, FromHeld}
use Rattle.dds_c.specs.contracts.held_member.HeldMember as Held
use Rattle.dds_c.specs.contracts.held_member.HeldMember.discard as F
use Rattle.dds_c.specs.contracts.held_member.HeldMember.discard.Key.{name as #self}
use Rattle.dds_c.proofs.held_member.HeldMember.discard.Statement as stated
use Rattle.dds_c.proofs.held_member.HeldMember.discard.Code as code

abbrev stayed : Stays (F.ended).signature.params (F.ended).kept
stayed = (stay_dropped FromHeld yes, tt)

abbrev word : Ptr → Val → Val
word p hv = vstruct (vcons (ptr_val p) (vcons hv vnil))

typed : (p : Ptr) (hv : Val) → Fits E.al hv → T (has_ty (box_ty E) (word p hv)) × WT (word p hv)
typed null_ptr hv fa = (and_tt (has_ty (α E.al) hv) fa.0, (record { fits = lit< tt }, (fa.1, tt)))
typed (block_ptr b o) hv fa = box_typed E hv b o fa

module _ {M : Type 1} {𝓤 : Ura M} (𝓛 : Logic 𝓤) (at_mem : Memory → SProp 𝓤) (run : Routine → Fun 𝓤) (𝓣 : Tables 𝓤 𝓛.H) where
  open 𝓛 use {H}

  walk : (z : (walk_of 𝓛 F.ended stayed (F.clauses 𝓛 at_mem run)).Ghost)
      → ent 𝓤 ((walk_of 𝓛 F.ended stayed (F.clauses 𝓛 at_mem run)).pre z) (WpFn 𝓤 H 𝓣.C 𝓣.Λ code.function (z.0.4.0 ++ []) ((walk_of 𝓛 F.ended stayed (F.clauses 𝓛 at_mem run)).post z))
  walk z =
      let Post = (walk_of 𝓛 F.ended stayed (F.clauses 𝓛 at_mem run)).post z in
      let Had = Held.the_row in
      let p : Ptr = z.0.3.0.at in
      qed 𝓛 ((‵ ftrue ⊛ ‵ (fsep (Had.own_val z.0.3.0 z.0.4.0) ftrue)) ∷ raw (fact 𝓤 (IsFalse (has_member z.0.3.0.member))) ∷ []) ∵ move ! (1 ∷ []) $ heard ! (IsFalse (has_member z.0.3.0.member)) (λ is. split ! $ drop ! $ fsplit ! $
      fsplit ! $ fpick ! (λ vss. fsplit ! $ feq_l ! (λ ev. fsplit ! $ feq_l ! (λ ep. fsplit ! $ use1 𝓛 (‵ ((P E).own_val z.0.3.0.alloc vss.1.0)) (id⊢ 𝓤 _) $
      handle_tells E.al ! z.0.3.0.alloc vss.1.0 (λ hv ea fa. drop ! $ drop ! $ drop ! $ drop ! $
      let ws : z.0.4.0 ≡ word p hv ∷ [] =
      subst (λ (us : List Val). z.0.4.0 ≡ vstruct (of_list (ptr_val p ∷ (us ++ []))) ∷ []) ea (subst (λ (ps : List Val). z.0.4.0 ≡ vstruct (of_list (ps ++ (vss.1.0 ++ []))) ∷ []) ep ev) in
      by ! (subst (λ (us : List Val). ent 𝓤 (types.Kit.⋆ 𝓛 []) (WpFn 𝓤 H 𝓣.C 𝓣.Λ code.function (us ++ []) Post)) (sym ws)
      (qed 𝓛 [] ∵ enter ! 𝓣.C 𝓣.Λ code.function (word p hv ∷ []) _ $ alloc_all ! (λ ls. pass_all ! refl (typed p hv fa, tt) $
      sets ! (of_opd ! (unit_lit !)) refl (tt, tt) $ returns ! (look_at ! 0 refl) $ free_all ! refl $
      suffices ! _ (ends_at 𝓛 F.ended stayed (F.clauses 𝓛 at_mem run) z vunit tt (tt, tt) (tt, tt)) $
      use0 𝓛 (raw (emp 𝓤)) (id⊢ 𝓤 (emp 𝓤)) $ feq_i ! (List Val) (vunit ∷ []) (vunit ∷ []) refl $
      nothing ! $ nothing ! $ fjoin ! $ join ! $ nothing ! $ join ! $ done !))))))))

pub discard_spec : {M : Type 1} → stated.statement M
unfolding tables_of
discard_spec 𝓤 𝓛 𝓜 𝓡 wired =
    let 𝓣 : Tables 𝓤 𝓛.H = tables_of 𝓤 𝓛.H 𝓜 (tables 𝓤 𝓛.H 𝓜 𝓡 𝓡.env) in
    entered 𝓤 𝓛.H (triple_of 𝓛 F.signature (F.spec 𝓛 𝓜.mem 𝓡.returns)) 𝓣.C 𝓣.Λ #self code.function (code.unfolded 𝓤 𝓛.H 𝓜 𝓡 wired)
    (walk_Meets 𝓛 F.ended stayed (Goes-dropped 𝓛 0 FromHeld yes (λ κs x f. refl), tt) (F.clauses 𝓛 𝓜.mem 𝓡.returns) (WpFn 𝓤 𝓛.H 𝓣.C 𝓣.Λ code.function) (WpFn-mono 𝓤 𝓛.H 𝓛.laws 𝓣 code.function)
    (walk 𝓛 𝓜.mem 𝓡.returns 𝓣))
