-- Where the places of a reader are tried again, that is a step of the peer by the rules of the protocol.
use Rattle.std.proofs.Common.{◌≡◌, ℕ, suc, ◌+◌, ◌<◌, ◌&&◌, Bool, false, true, [], length, refl, sym, ◌∙◌, subst, arith, Contains}
use Rattle.std.specs.Prelude.{nat_le, nat_lt}
use Rattle.std.proofs.lemmas.Bool.Decides.{nat_tests}
use Rattle.dds_base.specs.declared.code.Code.TheVariants.{BadParameter}
use Rattle.dds_base.specs.Number.{is_number}
use Rattle.dds_machine.specs.declared.reply.Reply.TheVariants.{Refused, Reported}
use Rattle.dds_machine.specs.declared.reply.Report.{Report}
use Rattle.dds_machine.specs.Numbered.{HasNumber}
use Rattle.dds_protocol.specs.declared.event.Event.TheVariants as event
use Rattle.dds_protocol.specs.declared.event.Packet.{Packet}
use Rattle.dds_protocol.specs.Peer.{Peer, packets_of, state_of}
use Rattle.dds_protocol.proofs.ResumedRows.{resumes_tried}
use Rattle.dds_core.specs.Kept.{PeerKept}
use Rattle.dds_core.specs.Receiving.{with_state}
use Rattle.dds_core.specs.Resuming.{ResumesAll}
use Rattle.dds_core.specs.Stepping.{SoundSteps}
use Rattle.dds_core.proofs.CallSteps.{number_is, silent_sends}
use Rattle.dds_core.proofs.Taking.{silent, stands_again}

-- no packet is among none
no_packet : (packet : Packet) → Contains {X = Packet} [] packet → ⊥
no_packet packet among = let lt = among.1 in omega (arith, lt)

pub resumes : (old new : PeerKept) (reader i : ℕ) (report : Report) → reader ≡ i + 1 → i < length old.readers
    → ResumesAll old i report new → SoundSteps old (event.Resume reader) (silent (Reported report)) new
resumes old new reader i report is within resumed =
    subst (λ (n : ℕ). SoundSteps old (event.Resume n) (silent (Reported report)) new) (number_is reader i is)
    (λ roster peer s sound.
    let r = resumed roster peer s in
    let tried =
    resumes_tried roster peer.number (packets_of peer.delivered) peer.delivered (suc i) (state_of peer) report r.state sound
    r.resumes in
    let after : Peer = record {
      number = peer.number;
      part = r.state.part;
      known = r.state.known;
      delivered = peer.delivered;
    } in
    let count = s.readers.count in (
      after,
      record {
        same_number = refl;
        knows = tt;
        step = (((omega arith, omega (arith, count, within)), tried.places, tried.moved), refl);
        sent = λ packet claim among says. absurd (no_packet packet among);
      },
      stands_again new roster (with_state peer r.state) after refl refl refl r.stands,
      tried.backed,
      (silent_sends (Reported report), r.resumes),
    ))

pub resumes_none : (old : PeerKept) (reader : ℕ) → is_number reader (length old.readers) ≡ false
    → SoundSteps old (event.Resume reader) (silent (Refused BadParameter)) old
resumes_none old reader none roster peer s sound = (
  peer,
  record {
    same_number = refl;
    knows = refl;
    step = ((λ there. no_number there s.readers.count, refl, refl), refl);
    sent = λ packet claim among says. absurd (no_packet packet among);
  },
  s,
  sound,
  (silent_sends (Refused BadParameter), tt),
)
  where
    both : (a b : Bool) → a ≡ true → b ≡ true → (a && b) ≡ true
    both true true f g = refl
    both true false f g = g
    both false b f g = f

    no_number : HasNumber peer.part.dds.readers reader → length peer.part.dds.readers ≡ length old.readers → ⊥
    no_number there same =
        let low = there.0 in
        let high = there.1 in
        let yes : (nat_lt 0 reader && nat_le reader (length old.readers)) ≡ true =
        both (nat_lt 0 reader) (nat_le reader (length old.readers)) (grind (arith, nat_tests, low))
        (grind (arith, nat_tests, high, same)) in
        let clash : true ≡ false = sym yes ∙ none in cc
