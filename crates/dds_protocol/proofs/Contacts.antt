-- Of what a peer knows, a call and a tick change who asks for a HEARTBEAT, or is silent, and nothing else.
use Rattle.std.proofs.Common.{◌≡◌, ℕ, ◌==◌, Bool, true, false, ◌&&◌, cond, refl, subst, ap, sym, ◌∙◌, eqb-true}
use Rattle.dds_base.specs.declared.endpoint.Endpoint.{Endpoint}
use Rattle.dds_machine.specs.declared.call.Call.{Call}
use Rattle.dds_machine.specs.declared.call.Call.TheVariants as call
use Rattle.dds_machine.specs.declared.reply.Reply.{Reply}
use Rattle.dds_machine.specs.declared.reply.Reply.TheVariants.{Done}
use Rattle.dds_machine.specs.Part.{same_endpoint}
use Rattle.dds_machine.proofs.Tables.{same_is}
use Rattle.dds_protocol.specs.declared.event.Event.TheVariants as event
use Rattle.dds_protocol.specs.Peer.{Peer, Knows, known_after}
use Rattle.dds_protocol.specs.Contact.{Contact}
use Rattle.dds_protocol.specs.Protocol.{Known, with_answered}

-- what is known is as it was, but for who asks, or is silent
pub record KnowsAlike (old new : Known) : Type 0 where
  pub tracked : (w : Endpoint) (r : ℕ) → new.tracked w r ≡ old.tracked w r
  pub counts : (w : ℕ) (r : Endpoint) → (new.answered w r).count ≡ (old.answered w r).count

pub knows_same : (old new : Known) → new ≡ old → KnowsAlike old new
knows_same old new same = record {
  tracked = λ w r. ap (λ (k : Known). k.tracked w r) same;
  counts = λ w r. ap (λ (k : Known). (k.answered w r).count) same;
}

pub knows_on : (a b c : Known) → KnowsAlike a b → KnowsAlike b c → KnowsAlike a c
knows_on a b c f g = record {
  tracked = λ w r. g.tracked w r ∙ f.tracked w r;
  counts = λ w r. g.counts w r ∙ f.counts w r;
}

both_so : (a b : Bool) → (a && b) ≡ true → (a ≡ true) × (b ≡ true)
both_so true b h = (refl, h)
both_so false b h = cc

-- what is so of one contact that is another, and of all as they were, is so of all then
pub with_one : (P : ℕ → Endpoint → Contact → Type 0) (known : Known) (writer : ℕ) (reader : Endpoint)
    (contact : Contact) → P writer reader contact
    → (w : ℕ) (r : Endpoint) → P w r (known.answered w r)
    → P w r ((with_answered known writer reader contact).answered w r)
with_one P known writer reader contact here w r there = by ((w == writer) && same_endpoint r reader) refl
  where
    by : (b : Bool) → ((w == writer) && same_endpoint r reader) ≡ b → P w r (cond b contact (known.answered w r))
    by true is =
        let both = both_so (w == writer) (same_endpoint r reader) is in
        subst (λ (n : ℕ). P n r contact) (sym (eqb-true w writer both.0))
        (subst (λ (e : Endpoint). P writer e contact) (sym (same_is r reader both.1)) here)
    by false is = there

-- what is known is alike where the contact of one reader is another, of the same count
one_other : (known : Known) (writer : ℕ) (reader : Endpoint) (contact : Contact)
    → contact.count ≡ (known.answered writer reader).count
    → KnowsAlike known (with_answered known writer reader contact)
one_other known writer reader contact same = record {
  tracked = λ w r. refl;
  counts = λ w r.
      with_one (λ v x (c : Contact). c.count ≡ (known.answered v x).count) known writer reader contact same w r refl;
}

called_alike : (old : Peer) (c : Call) (reply : Reply) → KnowsAlike old.known (known_after old c reply)
called_alike old (call.MatchReader writer reader greeted) Done = one_other old.known writer reader _ refl
called_alike old (call.MeetReader writer far greeted) Done = one_other old.known writer far.endpoint _ refl
called_alike old c reply = knows_same old.known old.known refl

-- after a call
pub call_knows : (old : Peer) (c : Call) (reply : Reply) (new : Peer) → Knows old (event.Call c) reply new
    → KnowsAlike old.known new.known
call_knows old c reply new h =
    subst (λ (k : Known). KnowsAlike old.known k) (sym h) (called_alike old c reply)

-- after a tick
pub tick_knows : (old : Peer) (now : ℕ) (reply : Reply) (new : Peer) → Knows old (event.Tick now) reply new
    → KnowsAlike old.known new.known
tick_knows old now Done new h =
    subst (λ (k : Known). KnowsAlike old.known k) (sym h) (record { tracked = λ w r. refl; counts = λ w r. refl })
tick_knows old now reply new h = knows_same old.known new.known h
