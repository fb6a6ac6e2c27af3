use Rattle.std.proofs.Common.{ℕ, List, Bool, IsTrue, Contains, ◌↔◌, sym, ◌∙◌, subst}
use Rattle.dds_trace.proofs.Octets.{found}
use Rattle.dds_trace.proofs.sent_octets.SentOctets.contains.Goals as goal

pub returns : goal.returns
returns c =
    let P : List (List ℕ) → Type 0 = λ xs. IsTrue c.contains.result ↔ Contains xs c.args.octets.now in
    let f = found (λ k. k.now) c.self.inside.octets.keys c.args.octets.now in
    let Q : Bool → Type 0 = λ b. IsTrue b in
    subst P c.self.view_is (
      λ h. f.0 (sym c.contains.ensures ∙ h),
      λ h. c.contains.ensures ∙ f.1 h,
    )
