use Rattle.std.proofs.Common.{◌≡◌, ℕ, List, Contains, ◌↔◌, ◌⊎◌, map, subst}
use Rattle.dds_trace.proofs.Octets.{put}
use Rattle.dds_trace.proofs.sent_octets.SentOctets.add.Goals as goal

pub returns : goal.returns
returns c q =
    let e = c.in_ok-insert.ensures in
    let P : List (List ℕ) → Type 0 =
    λ xs. Contains (map (λ k. k.now) c.insert.new.self.keys) q ↔ (Contains xs q ⊎ (q ≡ c.args.octets.now)) in
    subst P c.self.view_is
    (put (λ k. k.now) c.self.inside.octets.keys c.insert.new.self.keys c.args.octets c.in_ok-insert.field-0 e.added e.keys q)
