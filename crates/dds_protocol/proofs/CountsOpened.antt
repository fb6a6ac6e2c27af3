-- At the opening no count has been used, and each peer is that of its configuration.
use Rattle.std.proofs.Common.{◌≡◌, ℕ, zero, suc, ◌+◌, ◌-◌, ◌<◌, ◌&&◌, Bool, true, false, cond, List, [], ◌∷◌, ◌++◌, Some, map, length, get_or, slice_get, refl, subst, ap, sym, ◌∙◌, arith}
use Rattle.std.proofs.lemmas.List.{length-map, map-append}
use Rattle.std.proofs.lemmas.Option.{same_Some}
use Rattle.dds_base.specs.declared.config.Config.{Config}
use Rattle.dds_base.specs.declared.config.PeerConfig.{PeerConfig}
use Rattle.dds_base.specs.declared.config.ReaderConfig.{ReaderConfig}
use Rattle.dds_base.specs.declared.config.WriterConfig.{WriterConfig}
use Rattle.dds_base.specs.Matched.{same_topic, is_reliable_reader, of_reliable_readers}
use Rattle.dds_base.specs.MatchedAt.{of_readers_in}
use Rattle.dds_base.specs.declared.endpoint.Endpoint.{Endpoint}
use Rattle.dds_machine.specs.Numbered.{HasNumber}
use Rattle.dds_machine.specs.Part.{Part, ReaderProxy, Writer, no_writer, own_writer}
use Rattle.dds_protocol.specs.Claims.{IsNumbered}
use Rattle.dds_protocol.specs.Dues.{IsPartOf}
use Rattle.dds_protocol.specs.Peer.{no_peer}
use Rattle.dds_protocol.specs.Protocol.{Known}
use Rattle.dds_protocol.specs.World.{peer_at}
use Rattle.dds_machine.specs.Opening.{matched_readers, opening_writer, opening_part}
use Rattle.dds_protocol.specs.Opening.{opening_peers, opening_world}
use Rattle.dds_protocol.specs.Fresh.{OpensUsed}
use Rattle.dds_protocol.specs.Coming.{OpensUsedFirst}
use Rattle.dds_protocol.specs.Roster.{ComeFirst, roster_of}
use Rattle.dds_protocol.proofs.Bounded.{opened_is_fresh}
use Rattle.dds_protocol.proofs.Listed.{numbered_on, part_of_peer}
use Rattle.dds_protocol.proofs.Opened.{all_first, opened_number}

-- what is told of matched ends, and then of that

end_told : {X Y : Type 0} (f : X → Y) (b : Bool) (x : X) (xs : List X) (ys : List Y) → map f xs ≡ ys
    → map f (cond b (x ∷ xs) xs) ≡ cond b (f x ∷ ys) ys
end_told f true x xs ys h = ap (λ zs. f x ∷ zs) h
end_told f false x xs ys h = h

readers_told : {X Y : Type 0} (f : X → Y) (tell : ℕ → ReaderConfig → X) (topic n : ℕ) (rs : List ReaderConfig)
    → map f (of_readers_in tell topic n rs) ≡ of_readers_in (λ k r. f (tell k r)) topic n rs
readers_told f tell topic n [] = refl
readers_told f tell topic n (r ∷ rs) =
    end_told f (is_reliable_reader r && same_topic r.topic topic) (tell n r) (of_readers_in tell topic (n + 1) rs)
    (of_readers_in (λ k x. f (tell k x)) topic (n + 1) rs) (readers_told f tell topic (n + 1) rs)

matched_told : {X Y : Type 0} (f : X → Y) (tell : ℕ → PeerConfig → ℕ → ReaderConfig → X) (topic n : ℕ)
    (ps : List PeerConfig)
    → map f (of_reliable_readers tell topic n ps) ≡ of_reliable_readers (λ i p k r. f (tell i p k r)) topic n ps
matched_told f tell topic n [] = refl
matched_told {Y = Y} f tell topic n (p ∷ ps) =
    map-append f (of_readers_in (tell n p) topic 1 p.readers) (of_reliable_readers tell topic (n + 1) ps)
    ∙ (ap (λ (xs : List Y). xs ++ map f (of_reliable_readers tell topic (n + 1) ps))
    (readers_told f (tell n p) topic 1 p.readers)
    ∙ ap (λ (ys : List Y). of_readers_in (λ k r. f (tell n p k r)) topic 1 p.readers ++ ys)
    (matched_told f tell topic (n + 1) ps))

-- a peer of the opening

record IsOpened (peers : List PeerConfig) (ps : List PeerConfig) (i : ℕ) (part : Part) : Type 0 where
  here : PeerConfig
  at : slice_get ps i ≡ Some here
  is : part ≡ opening_part peers here

opened_part : (peers : List PeerConfig) (n : ℕ) (ps : List PeerConfig) (i : ℕ) → i < length ps
    → IsOpened peers ps i (get_or (opening_peers peers n ps) i no_peer).part
opened_part peers n [] i lt = absurd (omega (arith, lt))
opened_part peers n (p ∷ ps) zero lt = record { here = p; at = refl; is = refl }
opened_part peers n (p ∷ ps) (suc i) lt =
    let o = opened_part peers (n + 1) ps i (omega (arith, lt)) in record { here = o.here; at = o.at; is = o.is }

writer_opened : (peers : List PeerConfig) (ws : List WriterConfig) (i : ℕ) (w : WriterConfig) → slice_get ws i ≡ Some w
    → get_or (map (opening_writer peers) ws) i no_writer ≡ opening_writer peers w
writer_opened peers [] i w h = cc
writer_opened peers (x ∷ ws) zero w h = ap (λ (y : WriterConfig). opening_writer peers y) (same_Some x w h)
writer_opened peers (x ∷ ws) (suc i) w h = writer_opened peers ws i w h

abbrev names : List ReaderProxy → List Endpoint
names rows = map (λ (p : ReaderProxy). p.reader) rows

pub rows_opened : (peers : List PeerConfig) (own : PeerConfig) (number : ℕ) (w : WriterConfig)
    → IsNumbered own.writers number w
    → names (own_writer (opening_part peers own) number).readers
    ≡ of_reliable_readers (λ i p k r. record { peer = i; number = k }) w.topic 1 peers
rows_opened peers own zero w at = let low = at.0 in absurd (omega (arith, low))
rows_opened peers own (suc k) w at =
    let index : suc k - 1 ≡ k = omega arith in
    let there : slice_get own.writers k ≡ Some w = subst (λ (n : ℕ). slice_get own.writers n ≡ Some w) index at.1 in
    ap (λ (x : Writer). names x.readers) (writer_opened peers own.writers k w there)
    ∙ matched_told (λ (p : ReaderProxy). p.reader)
    (λ i p n r. record { reader = record { peer = i; number = n }; first = 1; acknowledged = 1 }) w.topic 1 peers

pub matched_opened : (peers : List PeerConfig) (own : PeerConfig) (number : ℕ) (w : WriterConfig)
    → IsNumbered own.writers number w
    → (own_writer (opening_part peers own) number).matched ≡ matched_readers w.topic 1 peers
matched_opened peers own zero w at = let low = at.0 in absurd (omega (arith, low))
matched_opened peers own (suc k) w at =
    let index : suc k - 1 ≡ k = omega arith in
    let there : slice_get own.writers k ≡ Some w = subst (λ (n : ℕ). slice_get own.writers n ≡ Some w) index at.1 in
    ap (λ (x : Writer). x.matched) (writer_opened peers own.writers k w there)

part_opened : (config roster : Config) → ComeFirst config roster → (peer : ℕ)
    → HasNumber (opening_world config).peers peer
    → IsPartOf (roster_of roster) peer (peer_at (opening_world config) peer).part
part_opened config roster first zero has = let low = has.0 in absurd (omega (arith, low))
part_opened config roster first (suc i) has =
    let high = (opened_number config (suc i) has).1 in
    let o = opened_part config.peers 1 config.peers i (omega (arith, high)) in
    let index : i ≡ suc i - 1 = omega arith in
    let there : IsNumbered config.peers (suc i) o.here =
    (omega arith, subst (λ (n : ℕ). slice_get config.peers n ≡ Some o.here) index o.at) in
    part_of_peer roster (suc i) o.here (peer_at (opening_world config) (suc i)).part
    (numbered_on config roster first (suc i) o.here there)
    (ap (λ (p : Part). length p.rtps.writers) o.is ∙ length-map o.here.writers (opening_writer config.peers))

-- at the opening no count was sent or taken
pub opens_used_first : OpensUsedFirst
opens_used_first config roster first = record {
  of_roster = part_opened config roster first;
  heartbeat_sent = λ packet w count among has. let lt = among.1 in absurd (omega (arith, lt));
  acknack_sent = λ packet w r count among has. let lt = among.1 in absurd (omega (arith, lt));
  heartbeat_taken = λ w r count e.
      let none =
      sym (ap (λ (k : Known). (k.tracked w r.number).count) (opened_is_fresh config r.peer).known) ∙ e in absurd cc;
  acknack_taken = λ w r count e.
      let none =
      sym (ap (λ (k : Known). (k.answered w.number r).count) (opened_is_fresh config w.peer).known) ∙ e in absurd cc;
}

pub opens_used : OpensUsed
opens_used config = opens_used_first config config (all_first config)
