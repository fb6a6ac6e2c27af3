use Rattle.std.proofs.Common.{◌≡◌, ◌&&◌, ◌∙◌, Bool, true, false, ap, sym}
use Rattle.std.proofs.lemmas.Bool.{and_right}
use Rattle.dds_base.specs.Access.{handle_of}
use Rattle.dds_base.specs.Presence.{is_present}
use Rattle.dds_instances.specs.Known.{IsKnown}
use Rattle.dds_cache.specs.declared.kept.Kept.{Kept}
use Rattle.dds_cache.specs.Finding.{asks_for, is_asked_for}
use Rattle.dds_cache.proofs.FindingLaws.{asks-known, found-is}
use Rattle.dds_cache.proofs.KeptLaws.{kept-stated}
use Rattle.dds_cache.proofs.access.is_sought_match.Goals as goal

pub returns-in-None : goal.returns-in-None
returns-in-None g c = record {
  wanted =
      λ h stands kept. absurd (kept-stated c.args.qos.now h c.args.kept.now kept
      (c.in-None.ensures.key c.args.qos.now h stands));
}

pub returns-then-asks_for_handle : goal.returns-then-asks_for_handle
returns-then-asks_for_handle g c = record {
  wanted = λ h stands kept.
      let k : Kept = c.args.kept.now in
      let known : IsKnown c.args.qos.now h c.in-Some.known = c.in-Some.ensures.known c.args.qos.now h stands in
      let key : c.in-Some.known.key ≡ k.sample.key = c.in-Some.ensures.key c.args.qos.now h stands in
      let asked : asks_for c.args.selection.now (handle_of c.args.qos.now h k.sample.key) ≡ true =
      sym (asks-known c.args.qos.now h c.args.selection.now c.in-Some.known k.sample.key known key)
      ∙ (sym c.asks_for_handle.ensures ∙ c.if-asks_for_handle.true) in
      c.is_found.ensures.found
      ∙ (found-is c.args.qos.now h c.args.masks (g.T.Test.meaning c.args.test.now) c.in-Some.known k known key kept
      ∙ ap (λ (b : Bool). is_present c.args.qos.now h k.sample.key k.sample.position
      && (b && is_asked_for c.args.qos.now h c.args.masks (g.T.Test.meaning c.args.test.now) k.sample)) (sym asked));
}

pub returns-else-asks_for_handle : goal.returns-else-asks_for_handle
returns-else-asks_for_handle g c = record {
  wanted = λ h stands kept.
      let k : Kept = c.args.kept.now in
      let none : asks_for c.args.selection.now (handle_of c.args.qos.now h k.sample.key) ≡ false =
      sym (asks-known c.args.qos.now h c.args.selection.now c.in-Some.known k.sample.key
      (c.in-Some.ensures.known c.args.qos.now h stands) (c.in-Some.ensures.key c.args.qos.now h stands))
      ∙ (sym c.asks_for_handle.ensures ∙ c.if-asks_for_handle.false) in
      c.if-asks_for_handle.false
      ∙ sym (and_right (is_present c.args.qos.now h k.sample.key k.sample.position) _
      (ap (λ (b : Bool). b && is_asked_for c.args.qos.now h c.args.masks (g.T.Test.meaning c.args.test.now) k.sample) none));
}
