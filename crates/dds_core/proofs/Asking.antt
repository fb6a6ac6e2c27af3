-- The key and the handle of an instance, asked of one of the peer's readers.
use Rattle.std.proofs.Common.{◌≡◌, ℕ, suc, ◌+◌, ◌<◌, Bool, true, false, not, ◌||◌, Some, None, List, length, slice_get, refl, ap, sym, ◌∙◌, subst, arith}
use Rattle.std.specs.Prelude.{Option, is_some, if◌then◌else◌}
use Rattle.dds_base.specs.declared.code.Code.TheVariants.{BadParameter}
use Rattle.dds_protocol.specs.Roster.{Roster}
use Rattle.dds_base.specs.declared.happening.Happening.{Happening}
use Rattle.dds_base.specs.declared.key.Key.{Key}
use Rattle.dds_base.specs.declared.qos.ReaderQos.{ReaderQos}
use Rattle.dds_base.specs.Access.{instance_of, handle_of}
use Rattle.dds_cache.specs.Standing.{qos_of}
use Rattle.dds_machine.specs.declared.call.Call.TheVariants as call
use Rattle.dds_protocol.specs.declared.event.Event.TheVariants as event
use Rattle.dds_machine.specs.declared.reply.Reply.TheVariants.{KeyValue, InstanceHandle, Refused}
use Rattle.dds_machine.specs.Refusals.{reader_refusal, key_of, key_refusal}
use Rattle.dds_machine.specs.Numbered.{has_element}
use Rattle.dds_machine.specs.Calls.{handle_at}
use Rattle.dds_machine.specs.Part.{Part, own_reader}
use Rattle.dds_protocol.specs.Peer.{Peer}
use Rattle.dds_ends.specs.Kept.{ReaderKept}
use Rattle.dds_core.specs.Kept.{PeerKept}
use Rattle.dds_core.specs.Standing.{StandsFor}
use Rattle.dds_ends.specs.Storing.{Holds}
use Rattle.dds_core.proofs.CallSteps.{Follows, answered_as, unchanging_call, there_is}
use Rattle.dds_core.proofs.Taking.{silent}

-- what is asked of the reader of this index, which the peer has
record IsAsked (kept : PeerKept) (roster : Roster) (peer : Peer) (reader i : ℕ) (k : ReaderKept) : Type 0 where
  stands : StandsFor kept roster peer
  number : reader ≡ i + 1
  within : i < length kept.readers
  at : slice_get kept.readers i ≡ Some k

known_reader : (kept : PeerKept) (roster : Roster) (peer : Peer) (reader i : ℕ) (k : ReaderKept)
    → IsAsked kept roster peer reader i k → has_element peer.part.dds.readers reader ≡ true
known_reader kept roster peer reader i k a =
    let count = a.stands.readers.count in
    let within = a.within in
    let number : suc i ≡ reader = let index : i + 1 ≡ suc i = omega arith in sym (a.number ∙ index) in
    subst (λ (n : ℕ). has_element peer.part.dds.readers n ≡ true) number
    (there_is peer.part.dds.readers i (omega (arith, within, count)))

-- what the store says of all that happened, the machine says
by_store : {X : Type 0} (of : ReaderQos → List Happening → X) (kept : PeerKept) (roster : Roster) (peer : Peer)
    (reader i : ℕ) (k : ReaderKept) (answer : X) → IsAsked kept roster peer reader i k
    → ((h : List Happening) → Holds k.store h → answer ≡ of (qos_of k.store.cache) h)
    → answer ≡ of (own_reader peer.part reader).qos (own_reader peer.part reader).happened
by_store of kept roster peer reader i k answer a says =
    let rs = a.stands.readers.each i k a.at in
    let number : suc i ≡ reader = let index : i + 1 ≡ suc i = omega arith in sym (a.number ∙ index) in
    subst (λ (n : ℕ). answer ≡ of (own_reader peer.part n).qos (own_reader peer.part n).happened) number
    (says (own_reader peer.part (suc i)).happened rs.holds
    ∙ ap (λ (q : ReaderQos). of q (own_reader peer.part (suc i)).happened) (sym rs.qos_is))

key_there : (known : Bool) (found : Option Key) (key : Key) → known ≡ true → found ≡ Some key
    → (if not known || not (is_some found) then Some BadParameter else None) ≡ None
key_there true (Some k) key there is = refl
key_there true None key there is = absurd cc
key_there false found key there is = absurd cc

key_missing : (known : Bool) (found : Option Key) → found ≡ None
    → (if not known || not (is_some found) then Some BadParameter else None) ≡ Some BadParameter
key_missing known (Some k) is = absurd cc
key_missing true None is = refl
key_missing false None is = refl

-- the key of a known instance
pub key_told : (kept : PeerKept) (roster : Roster) (peer : Peer) (reader i : ℕ) (k : ReaderKept) (instance : ℕ)
    (key : Key) → StandsFor kept roster peer → reader ≡ i + 1 → i < length kept.readers
    → slice_get kept.readers i ≡ Some k
    → ((h : List Happening) → Holds k.store h → Some key ≡ instance_of (qos_of k.store.cache) h instance)
    → Follows kept roster peer (event.Call (call.GetKeyValue reader instance)) (silent (KeyValue key))
key_told kept roster peer reader i k instance key s is lt at says =
    let a : IsAsked kept roster peer reader i k = record { stands = s; number = is; within = lt; at = at } in
    let found : key_of peer.part reader instance ≡ Some key =
    sym (by_store (λ q h. instance_of q h instance) kept roster peer reader i k (Some key) a says) in
    unchanging_call kept roster peer s (call.GetKeyValue reader instance) (KeyValue key) refl (
      key_there (has_element peer.part.dds.readers reader) (key_of peer.part reader instance) key
          (known_reader kept roster peer reader i k a) found,
      found,
      refl,
    )

-- an unknown one has none
pub key_not_told : (kept : PeerKept) (roster : Roster) (peer : Peer) (reader i : ℕ) (k : ReaderKept) (instance : ℕ)
    → StandsFor kept roster peer → reader ≡ i + 1 → i < length kept.readers → slice_get kept.readers i ≡ Some k
    → ((h : List Happening) → Holds k.store h → None ≡ instance_of (qos_of k.store.cache) h instance)
    → Follows kept roster peer (event.Call (call.GetKeyValue reader instance)) (silent (Refused BadParameter))
key_not_told kept roster peer reader i k instance s is lt at says =
    let a : IsAsked kept roster peer reader i k = record { stands = s; number = is; within = lt; at = at } in
    unchanging_call kept roster peer s (call.GetKeyValue reader instance) (Refused BadParameter) refl (
      key_missing (has_element peer.part.dds.readers reader) (key_of peer.part reader instance)
          (sym (by_store (λ q h. instance_of q h instance) kept roster peer reader i k None a says)),
      refl,
    )

-- a key is asked of a reader that the peer does not have
pub no_key : (part : Part) (reader instance : ℕ) → has_element part.dds.readers reader ≡ false
    → key_refusal part reader instance ≡ Some BadParameter
no_key part reader instance none =
    ap (λ (b : Bool). if not b || not (is_some (key_of part reader instance)) then Some BadParameter else None) none

-- the handle of an instance
pub handle_told : (kept : PeerKept) (roster : Roster) (peer : Peer) (reader i : ℕ) (k : ReaderKept) (key : Key)
    (handle : ℕ) → StandsFor kept roster peer → reader ≡ i + 1 → i < length kept.readers
    → slice_get kept.readers i ≡ Some k
    → ((h : List Happening) → Holds k.store h → handle ≡ handle_of (qos_of k.store.cache) h key)
    → Follows kept roster peer (event.Call (call.LookupInstance reader key)) (silent (InstanceHandle handle))
handle_told kept roster peer reader i k key handle s is lt at says =
    let a : IsAsked kept roster peer reader i k = record { stands = s; number = is; within = lt; at = at } in
    let known : reader_refusal peer.part reader ≡ None =
    ap (λ (b : Bool). if not b then Some BadParameter else None) (known_reader kept roster peer reader i k a) in
    unchanging_call kept roster peer s (call.LookupInstance reader key)
    (InstanceHandle handle) refl
    (answered_as _ (InstanceHandle (handle_at (own_reader peer.part reader) key)) peer.part.dds peer.part _ known
    (ap InstanceHandle (by_store (λ q h. handle_of q h key) kept roster peer reader i k handle a says)))
