use Rattle.std.proofs.Common.{◌≡◌, List, sym, ap, ◌∙◌, subst}
use Rattle.std.specs.Prelude.{negsuc}
use Rattle.std.specs.List.{All}
use Rattle.dds_base.specs.declared.selection.Selection.TheVariants.{Any}
use Rattle.dds_base.specs.Access.{has_match}
use Rattle.dds_cache.specs.declared.kept.Kept.{Kept}
use Rattle.dds_cache.specs.Finding.{Holds, IsUnmet}
use Rattle.dds_cache.specs.Standing.{Stored, StandsFor, qos_of}
use Rattle.dds_cache.specs.Sound.{stored_of}
use Rattle.dds_cache.proofs.CountLaws.{unsought}
use Rattle.dds_cache.proofs.StandingLaws.{holds}
use Rattle.dds_cache.proofs.reader_cache.ReaderCache.has_match.Goals as goal

pub returns-then-is_none_asked : goal.returns-then-is_none_asked
returns-then-is_none_asked g c = record {
  matched = λ h stands.
      let s : StandsFor (stored_of c.self.inside) h =
      subst (λ (t : Stored). StandsFor t h) (sym c.self.view_is) stands in
      let same : c.deref.result.now ≡ c.self.inside.samples.items = c.deref.ensures.value in
      sym (unsought c.self.inside.qos h (Any (negsuc 0) c.args.masks) c.args.masks (g.T.Test.meaning c.args.test.now)
      c.self.inside.samples.items s.each s.present
      (subst (λ (ks : List Kept). All (IsUnmet c.self.inside.qos h c.args.masks) ks) same
      (c.is_none_asked.ensures c.self.inside.qos h
      (subst (λ (ks : List Kept). Holds c.self.inside.qos c.self.inside.instances ks h) (sym same)
      (holds (stored_of c.self.inside) h s)) c.if-is_none_asked.true)))
      ∙ ap (λ (t : Stored). has_match (qos_of t) h c.args.masks (g.T.Test.meaning c.args.test.now)) c.self.view_is;
}

pub returns : goal.returns
returns g c = record {
  matched = λ h stands.
      let s : StandsFor (stored_of c.self.inside) h =
      subst (λ (t : Stored). StandsFor t h) (sym c.self.view_is) stands in
      let same : c.self.inside.samples.items ≡ c.deref-2.result.now = sym c.deref-2.ensures.value in
      c.is_any_match.ensures.matched h
      (subst (λ (ks : List Kept). Holds c.self.inside.qos c.self.inside.instances ks h) same
      (holds (stored_of c.self.inside) h s))
      ∙ ap (λ (t : Stored). has_match (qos_of t) h c.args.masks (g.T.Test.meaning c.args.test.now)) c.self.view_is;
}
