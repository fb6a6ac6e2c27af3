-- In which WaitSets of a core somebody waits, as the core tells it.
use Rattle.std.proofs.Common.{◌≡◌, ℕ, ◌+◌, zero, suc, Bool, List, [], ◌∷◌, get_or, refl, sym, ap, ◌∙◌}
use Rattle.dds_base.specs.declared.config.Config.{Config}
use Rattle.dds_base.specs.declared.config.PeerConfig.{PeerConfig}
use Rattle.dds_base.specs.declared.key.Key.{Key}
use Rattle.dds_base.specs.Number.{at_number}
use Rattle.dds_conditions.specs.Watched.{Watched, is_used, uses_in}
use Rattle.dds_notices.specs.declared.notice.Notice.{Notice}
use Rattle.dds_notices.specs.Listeners.{ByEntity}
use Rattle.dds_protocol.specs.Opening.{opening_peers, opening_world}
use Rattle.dds_protocol.specs.Peer.{Peer, no_peer}
use Rattle.dds_protocol.specs.World.{peer_at}
use Rattle.dds_protocol.specs.Roster.{Roster}
use Rattle.dds_core.specs.Listening.{CoreKept, StandsFor}
use Rattle.dds_core.specs.Standing.{StandsFor as PeerStandsFor}
use Rattle.dds_trace.specs.History.{IsHistoryOf}
use Rattle.dds_trace.specs.Uses.{in_use_of}
use Rattle.dds_trace.proofs.Adding.{first_of_all}

module _ {F L : Type 0} (notices : L → List Notice) (capacity : L → ℕ) (becomes : L → Notice → L → Type 0)
    (given : ByEntity L) (core : CoreKept F L) (roster : Roster) (peer : Peer) where
  pub uses_told : (told : ℕ) → StandsFor notices capacity becomes given core roster peer
      → ((roster : Roster) (peer : Peer) → PeerStandsFor core.filtered.peer roster peer
      → told ≡ uses_in peer.part.dds.watch.wait_sets)
      → told ≡ in_use_of core
  uses_told told stands tells =
      tells roster peer stands.stands.stands
      ∙ ap (λ (w : Watched). uses_in w.wait_sets) stands.stands.stands.watch

  pub use_told : (n : ℕ) (told : Bool) → StandsFor notices capacity becomes given core roster peer
      → ((roster : Roster) (peer : Peer) → PeerStandsFor core.filtered.peer roster peer
      → told ≡ is_used (at_number peer.part.dds.watch.wait_sets n))
      → told ≡ is_used (at_number core.filtered.peer.watch.wait_sets n)
  use_told n told stands tells =
      tells roster peer stands.stands.stands
      ∙ ap (λ (w : Watched). is_used (at_number w.wait_sets n)) stands.stands.stands.watch

nobody_waits : (peers : List PeerConfig) (n : ℕ) (ps : List PeerConfig) (i : ℕ)
    → (get_or (opening_peers peers n ps) i no_peer).part.dds.watch.wait_sets ≡ []
nobody_waits peers n [] zero = refl
nobody_waits peers n [] (suc i) = refl
nobody_waits peers n (p ∷ ps) zero = refl
nobody_waits peers n (p ∷ ps) (suc i) = nobody_waits peers (n + 1) ps i

opens_waitless : (config : Config) (n : ℕ) → (peer_at (opening_world config) n).part.dds.watch.wait_sets ≡ []
opens_waitless config zero = refl
opens_waitless config (suc n) = nobody_waits config.peers 1 config.peers n

module _ {F L : Type 0} (meaning : F → Key → List ℕ → Bool) (notices : L → List Notice) (capacity : L → ℕ)
    (becomes : L → Notice → L → Type 0) (given : ByEntity L) (config : Config) (number : ℕ) where
  -- nobody waits where nothing happened
  pub unused_yet : (core : CoreKept F L) → IsHistoryOf meaning notices capacity becomes given config number [] core
      → in_use_of core ≡ 0
  unused_yet core h =
      let own = h.in_rosters config (first_of_all config) h.good tt in
      ap (λ (w : Watched). uses_in w.wait_sets) (sym own.stands.stands.stands.watch)
      ∙ ap (λ (p : Peer). uses_in p.part.dds.watch.wait_sets) (sym own.history)
      ∙ ap uses_in (opens_waitless config number)
