-- No event adds a filter, or sets a listener, or tells one: a peer has as many filters after a step as before it, and
-- the same places of listeners.
use Rattle.std.proofs.Common.{◌≡◌, ℕ, ◌+◌, zero, suc, List, [], ◌∷◌, get_or, length, map, refl, ap, sym, ◌∙◌, subst, inl, inr}
use Rattle.std.specs.Prelude.{Option}
use Rattle.std.proofs.lemmas.List.{length-map}
use Rattle.rtps_wire.specs.declared.submessage.Submessage.{Submessage}
use Rattle.dds_protocol.specs.Roster.{Roster}
use Rattle.dds_base.specs.declared.config.Config.{Config}
use Rattle.dds_base.specs.declared.config.PeerConfig.{PeerConfig}
use Rattle.dds_base.specs.declared.guid.GuidPrefix.{GuidPrefix}
use Rattle.dds_notices.specs.Listeners.{Places, nobody}
use Rattle.dds_notices.proofs.ListenerLaws.{nobody_is_told, NobodyTakes}
use Rattle.dds_protocol.specs.declared.event.Event.{Event}
use Rattle.dds_protocol.specs.declared.event.Event.TheVariants as event
use Rattle.dds_protocol.specs.declared.event.Output.{Output}
use Rattle.dds_machine.specs.declared.reply.Move.{Move}
use Rattle.dds_machine.specs.declared.reply.Move.TheVariants.{Place, Acknowledged, Heard, Begun as HasBegun, Strange}
use Rattle.dds_machine.specs.declared.reply.Reply.{Reply}
use Rattle.dds_machine.specs.declared.reply.Reply.TheVariants.{Done, Reported, Refused}
use Rattle.dds_machine.specs.Part.{Part, Dds}
use Rattle.dds_machine.specs.Moves.{Grounds, IsMove, AreMoves}
use Rattle.dds_protocol.specs.Claims.{Receiver, after_submessage}
use Rattle.dds_protocol.specs.Receipt.{TakesUp}
use Rattle.dds_machine.specs.Opening.{opening_reader, opening_writer}
use Rattle.dds_protocol.specs.Opening.{opening_peers, opening_world}
use Rattle.dds_protocol.proofs.Resumed.{as_moves}
use Rattle.dds_protocol.specs.Peer.{Peer, PeerStep, EventStep, claimed_by, no_peer, packets_of}
use Rattle.dds_protocol.specs.World.{peer_at}
use Rattle.dds_protocol.proofs.CallChanges.{CallChange, unchanged, reads, takes, looks, watches, is_told, sees_matches, changes_of}
use Rattle.dds_machine.specs.Matching.{Telling, MatchReader, UnmatchReader, MatchWriter, UnmatchWriter, MeetReader, MeetWriter, seen_after_telling}
use Rattle.dds_machine.specs.Watching.{Tests}

-- what the application has handed over
record Handed : Type 0 where
  filters : ℕ
  listeners : Places

abbrev handed : Dds → Handed
handed d = record { filters = d.watch.filters; listeners = d.listeners }

abbrev SameHanded : Dds → Dds → Type 0
SameHanded old new = handed new ≡ handed old

telling_keeps : (old : Part) (t : Telling) → SameHanded old.dds (seen_after_telling old t)
telling_keeps old (MatchReader w v reliable) = refl
telling_keeps old (UnmatchReader w v) = refl
telling_keeps old (MatchWriter r w) = refl
telling_keeps old (UnmatchWriter r w) = refl
telling_keeps old (MeetReader w v) = refl
telling_keeps old (MeetWriter r w as_writer) = refl

call_keeps : (old : Part) (new : Dds) → CallChange old new → SameHanded old.dds new
call_keeps old new (unchanged is) = ap (λ (d : Dds). handed d) is
call_keeps old new (reads r samples is) = ap (λ (d : Dds). handed d) is
call_keeps old new (takes r samples is) = ap (λ (d : Dds). handed d) is
call_keeps old new (looks r seen is) = ap (λ (d : Dds). handed d) is
call_keeps old new (is_told t is) = ap (λ (d : Dds). handed d) is ∙ telling_keeps old t
call_keeps old new (sees_matches r is) = ap (λ (d : Dds). handed d) is
call_keeps old new (watches after filters sets is) =
    ap (λ (d : Dds). handed d) is
    ∙ ap (λ (n : ℕ). let h : Handed = record { filters = n; listeners = old.dds.listeners } in h) filters

move_keeps : (g : Grounds) (old : Part) (m : Move) (new : Part) → IsMove g old m new → SameHanded old.dds new.dds
move_keeps g old (Place w r to passed) new h = ap (λ (p : Part). handed p.dds) h.after
move_keeps g old (Acknowledged w r to) new h = ap (λ (p : Part). handed p.dds) h.after
move_keeps g old (Heard w r) new h = ap (λ (p : Part). handed p.dds) h.after
move_keeps g old (Strange w r) new h = ap (λ (p : Part). handed p.dds) h.after
move_keeps g old (HasBegun w r from to) new h = ap (λ (p : Part). handed p.dds) h.after

moves_keep : (g : Grounds) (old : Part) (ms : List Move) (new : Part) → AreMoves g old ms new
    → SameHanded old.dds new.dds
moves_keep g old [] new h = ap (λ (p : Part). handed p.dds) h
moves_keep g old (m ∷ ms) new h = moves_keep g h.0 ms new h.2 ∙ move_keeps g old m h.0 h.1

taken_keeps : (roster : Roster) (grounds : ℕ → Grounds) (peer : ℕ) (own : GuidPrefix) (index : ℕ) (at : Receiver)
    (submessages : List Submessage) (old : Part) (moves : List Move) (refused : Option ℕ) (new : Part)
    → TakesUp roster grounds peer own index at submessages old moves refused new → SameHanded old.dds new.dds
taken_keeps roster grounds peer own index at [] old moves refused new h = ap (λ (p : Part). handed p.dds) h.2
taken_keeps roster grounds peer own index at (s ∷ rest) old moves refused new (inl h) =
    ap (λ (p : Part). handed p.dds) h.2
taken_keeps roster grounds peer own index at (s ∷ rest) old moves refused new (inr h) =
    taken_keeps roster grounds peer own (index + 1) (after_submessage own at s) rest h.2 h.1 refused new h.6
    ∙ moves_keep (grounds index) old h.0 h.2 h.4

event_keeps : (roster : Roster) (tests : Tests) (old : Peer) (ev : Event) (reply : Reply) (new : Peer)
    → EventStep roster tests old ev reply new → SameHanded old.part.dds new.part.dds
event_keeps roster tests old (event.Call call) reply new h =
    call_keeps old.part new.part.dds (changes_of tests old.part call reply new.part.dds h.0.answers)
event_keeps roster tests old (event.Tick now) Done new h = ap (λ (p : Part). handed p.dds) h.0.1
event_keeps roster tests old (event.Tick now) (Refused code) new h = ap (λ (p : Part). handed p.dds) h.0.1
event_keeps roster tests old (event.Tick now) reply new h = absurd h.0
event_keeps roster tests old (event.Deliver packet) (Reported report) new (inl t, delivered) =
    taken_keeps roster _ old.number _ 0 _ t.message.submessages old.part report.moves report.refused new.part t.taken
event_keeps roster tests old (event.Deliver packet) (Reported report) new (inr t, delivered) =
    ap (λ (p : Part). handed p.dds) t.after
event_keeps roster tests old (event.Deliver packet) reply new h = absurd h
event_keeps roster tests old (event.Resume k) reply new h =
    let g : Grounds = claimed_by roster (packets_of old.delivered) old.number in
    let made = as_moves g old.part k reply new.part h.0 in
    moves_keep g old.part made.0 new.part made.1

pub keeps_filters : (roster : Roster) (tests : Tests) (old : Peer) (ev : Event) (output : Output) (new : Peer)
    → PeerStep roster tests old ev output new
    → new.part.dds.watch.filters ≡ old.part.dds.watch.filters
keeps_filters roster tests old ev output new h =
    ap (λ (x : Handed). x.filters) (event_keeps roster tests old ev output.reply new h.step)

pub keeps_listeners : (roster : Roster) (tests : Tests) (old : Peer) (ev : Event) (output : Output) (new : Peer)
    → PeerStep roster tests old ev output new
    → new.part.dds.listeners ≡ old.part.dds.listeners
keeps_listeners roster tests old ev output new h =
    ap (λ (x : Handed). x.listeners) (event_keeps roster tests old ev output.reply new h.step)

opens_none : (peers : List PeerConfig) (n : ℕ) (ps : List PeerConfig) (i : ℕ)
    → (get_or (opening_peers peers n ps) i no_peer).part.dds.watch.filters ≡ 0
opens_none peers n [] zero = refl
opens_none peers n [] (suc i) = refl
opens_none peers n (p ∷ ps) zero = refl
opens_none peers n (p ∷ ps) (suc i) = opens_none peers (n + 1) ps i

-- a peer opens without filters
pub opens_no_filters : (config : Config) (n : ℕ) → (peer_at (opening_world config) n).part.dds.watch.filters ≡ 0
opens_no_filters config zero = refl
opens_no_filters config (suc n) = opens_none config.peers 1 config.peers n

-- the same by a peer's index
pub opens_no_filters_at : (config : Config) (i : ℕ)
    → (get_or (opening_world config).peers i no_peer).part.dds.watch.filters ≡ 0
opens_no_filters_at config i = opens_none config.peers 1 config.peers i

nobody_yet : (peers : List PeerConfig) (n : ℕ) (ps : List PeerConfig) (i : ℕ)
    → (get_or (opening_peers peers n ps) i no_peer).part.dds.listeners
    ≡ nobody (length (get_or (opening_peers peers n ps) i no_peer).part.rtps.writers)
    (length (get_or (opening_peers peers n ps) i no_peer).part.dds.readers)
nobody_yet peers n [] zero = refl
nobody_yet peers n [] (suc i) = refl
nobody_yet peers n (p ∷ ps) zero =
    ap (λ (w : ℕ). nobody w (length p.readers)) (sym (length-map p.writers (opening_writer peers)))
    ∙ ap (λ (r : ℕ). nobody (length (map (opening_writer peers) p.writers)) r)
    (sym (length-map p.readers (opening_reader peers)))
nobody_yet peers n (p ∷ ps) (suc i) = nobody_yet peers (n + 1) ps i

-- a peer opens without listeners
pub opens_nobody : (config : Config) (n : ℕ)
    → (peer_at (opening_world config) n).part.dds.listeners
    ≡ nobody (length (peer_at (opening_world config) n).part.rtps.writers)
    (length (peer_at (opening_world config) n).part.dds.readers)
opens_nobody config zero = refl
opens_nobody config (suc n) = nobody_yet config.peers 1 config.peers n

-- and nobody takes a status there
pub opens_untold_at : (config : Config) (i : ℕ)
    → NobodyTakes (get_or (opening_world config).peers i no_peer).part.dds.listeners
opens_untold_at config i =
    subst (λ (p : Places). NobodyTakes p) (sym (nobody_yet config.peers 1 config.peers i))
    (nobody_is_told (length (get_or (opening_world config).peers i no_peer).part.rtps.writers)
    (length (get_or (opening_world config).peers i no_peer).part.dds.readers))
