-- A delivery is a step of the peer by the rules of the protocol.
use Rattle.std.proofs.Common.{ℕ, List, ◌∷◌, refl}
use Rattle.dds_protocol.specs.declared.event.Event.TheVariants as event
use Rattle.dds_protocol.specs.declared.event.Output.{Output}
use Rattle.dds_machine.specs.declared.reply.Report.{Report}
use Rattle.dds_machine.specs.declared.reply.Reply.TheVariants.{Reported}
use Rattle.dds_protocol.specs.Peer.{Peer, state_of}
use Rattle.dds_protocol.proofs.DuesPackets.{packet_truthful}
use Rattle.dds_protocol.proofs.RuledPackets.{takes_packet}
use Rattle.dds_ends.specs.declared.sending.Announced.{Announced}
use Rattle.dds_core.specs.Kept.{PeerKept}
use Rattle.dds_core.specs.Receiving.{with_state, ReceivedPacket, ReceivesPacket}
use Rattle.dds_core.specs.Stepping.{SoundSteps}
use Rattle.dds_core.proofs.BeatsDue.{sent_true}
use Rattle.dds_core.proofs.Taking.{stands_again}

-- what a delivery gives back
abbrev pub delivered : Report → Announced → Output
delivered report gone = record { reply = Reported report; packets = gone.packets.items; unsent = gone.unsent }

pub delivers : (old new : PeerKept) (bytes : List ℕ) (report : Report) (gone : Announced)
    → ReceivesPacket old bytes report new gone → SoundSteps old (event.Deliver bytes) (delivered report gone) new
delivers old new bytes report gone receives roster peer s sound =
    let r : ReceivedPacket roster peer bytes report new gone = receives roster peer s in
    let rests =
    takes_packet roster peer.number peer.delivered bytes
    (state_of peer) report r.dues r.state s.is_peer.is_roster sound r.takes in
    let truthful =
    packet_truthful roster peer.number peer.delivered bytes
    (state_of peer) report r.dues r.state s.is_peer.is_roster sound s.tellable r.takes in
    let after : Peer =
    record {
      number = peer.number;
      part = r.state.part;
      known = r.state.known;
      delivered = record { packet = bytes; rows = peer.part.rtps.readers; report = report } ∷ peer.delivered;
    } in (
      after,
      record {
        same_number = refl;
        knows = tt;
        step = (rests.receives, refl);
        sent = sent_true roster peer.number r.state.part r.dues gone.packets.items gone.unsent truthful r.sent;
      },
      stands_again new roster (with_state peer r.state) after refl refl refl r.stands,
      rests.backed,
      record { report = report; reply = refl; dues = r.dues; takes = r.takes; sent = r.sent },
    )
