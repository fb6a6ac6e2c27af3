use Rattle.std.proofs.Common.{◌≡◌, ◌∙◌, Bool, true, false, Some, None, ap, sym, subst}
use Rattle.std.specs.Prelude.{not}
use Rattle.dds_base.specs.declared.guid.Guid.{Guid}
use Rattle.rtps_announcements.specs.Endpoints.{ReadsEndpoint}
use Rattle.rtps_announcements.specs.declared.endpoint.Endpoint.{Endpoint}
use Rattle.rtps_matching.specs.Matches.{same_guid}
use Rattle.rtps_matching.proofs.Pairs.{guid_is, guid_same, not_not}
use Rattle.rtps_matching.proofs.endpoints.read.Goals as goal

pub returns-in_default-clause-reads : goal.returns-in_default-clause-reads
returns-in_default-clause-reads c = λ e reads named.
    let no : None ≡ Some e = sym c.in_default.is ∙ c.read_endpoint.ensures.only e reads in absurd cc

pub returns-then-ne-clause-reads : goal.returns-then-ne-clause-reads
returns-then-ne-clause-reads c = λ e reads named.
    let same : Some c.in-Some.endpoint ≡ Some e = sym c.in-Some.is ∙ c.read_endpoint.ensures.only e reads in
    let is : c.in-Some.endpoint ≡ e = cc in
    let name : same_guid c.in-Some.endpoint.guid c.args.guid.now ≡ true =
    ap (λ (x : Guid). same_guid x c.args.guid.now) (ap (λ (x : Endpoint). x.guid) is ∙ named)
    ∙ guid_is c.args.guid.now in
    let no : true ≡ false = sym c.if-ne.true ∙ (c.ne.ensures ∙ ap (λ (b : Bool). not b) name) in absurd cc

pub returns-clause-reads : goal.returns-clause-reads
returns-clause-reads c = (
  subst (λ (x : Endpoint). ReadsEndpoint c.args.guid.now.prefix c.args.kind c.args.payload.now x)
      (sym c.in_ok-of.ensures.same) c.in-Some.ensures.found,
  ap (λ (x : Endpoint). x.guid) c.in_ok-of.ensures.same
      ∙ guid_same c.in-Some.endpoint.guid c.args.guid.now
      (not_not (same_guid c.in-Some.endpoint.guid c.args.guid.now) (sym c.ne.ensures ∙ c.if-ne.false)),
)
