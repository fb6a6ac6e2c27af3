-- A participant (DDS 1.4, 2.2.2.2.1: DomainParticipant; RTPS 2.5, 8.5: discovery): discovery by the steps of dds_discovery, and our
-- peer by those of Sharings. A participant a becomes b, and a turn t becomes u. Where memory is wanting what came or goes is lost,
-- and what is left to do is done later.
use Rattle.std.specs.Prelude.{◌≡◌, ◌⊎◌, ℕ, zero, suc, ◌-◌, ◌^◌, ◌++◌, ◌∷◌, Bool, true, false, List, [], max, Option, None, ⊤}
use Rattle.std.specs.List.{fold, list_any}
use Rattle.dds_base.specs.declared.code.Code.{Code}
use Rattle.dds_base.specs.declared.mask.Masks.{Masks}
use Rattle.dds_base.specs.declared.guid.GuidPrefix.{GuidPrefix}
use Rattle.dds_base.specs.Checked.{same_prefix}
use Rattle.dds_base.specs.Refusal.{Refuses}
use Rattle.dds_core.specs.Opening.{core_refusal}
use Rattle.dds_machine.specs.declared.call.Call.{Call}
use Rattle.dds_machine.specs.declared.reply.Reply.{Reply}
use Rattle.dds_machine.specs.declared.reply.Reply.TheVariants.{Refused}
use Rattle.dds_protocol.specs.declared.event.Event.TheVariants.{Call as Calling, Tick}
use Rattle.rtps_discovery.specs.declared.discovery.Settings.{Settings}
use Rattle.rtps_discovery.specs.declared.packet.Packet.{Packet as Datagram}
use Rattle.rtps_discovery.specs.declared.row.Told.{Told as Presence}
use Rattle.rtps_discovery.specs.Steps.{CantBeAnnounced, farewells, sent_at, told_at}
use Rattle.rtps_matching.specs.declared.end.End.{End}
use Rattle.rtps_matching.specs.declared.told.Told.{Told}
use Rattle.rtps_matching.specs.Matches.{is_named}
use Rattle.dds_discovery.specs.declared.serving.Done.{Done as Doing}
use Rattle.dds_discovery.specs.declared.discovery.Step.TheVariants.{Done}
use Rattle.dds_discovery.specs.Events.{Delivers, added, opened, ticked}
use Rattle.dds_discovery.specs.States.{State as Discovery, due}
use Rattle.dds_discovery.specs.Steps.{IsStep}
use Rattle.dds_exchange.specs.Fitting.{Fits}
use Rattle.dds_domain.specs.declared.opening.Unopened.{Unopened}
use Rattle.dds_domain.specs.declared.opening.Unopened.TheVariants.{Endpoints}
use Rattle.dds_domain.specs.Opening.{State as Parts, config_of}
use Rattle.dds_domain.specs.Sharings.{Happens, Hears as PeerHears, IsOpened as IsSharing, Meets, State as Sharing, Tells as PeerIsTold}
use Rattle.dds_domain.specs.Turns.{Adds, PresentsAny, SendsAny, SendsThese, State as Turn, lacking}

-- discovery, our peer, and what discovery told last and our peer was not told of yet
pub record State : Type 0 where
  pub discovery : Discovery
  pub sharing : Sharing
  pub left : List Told

-- ---- the opening

abbrev pub adding : Discovery → End → Discovery
adding d e = added e d

abbrev pub unopened : Code → Unopened
unopened Code.Memory = Unopened.Memory
unopened code = Endpoints code

-- all of them announced
abbrev pub begun : Settings → ℕ → List End → Discovery
begun settings most ends =
    fold adding (opened settings.participant settings.domain settings.addresses.items settings.limits most) ends

-- All of our endpoints are announced, nobody is known, and our peer is at its opening.
pub record IsOpened (settings : Settings) (most : ℕ) (p : Parts) (a : State) : Type 0 where
  pub discovery : a.discovery ≡ begun settings most p.ends
  pub sharing : IsSharing settings.participant.prefix p.writers p.readers p.own_writers p.own_readers p.names a.sharing
  pub left : a.left ≡ []

-- One of our endpoints is not in our name, or has the name of one before it.
pub record CantBeAdded (prefix : GuidPrefix) (ends : List End) (code : Code) : Type 0 where
  pub before : List End
  pub end : End
  pub rest : List End
  pub stands : ends ≡ before ++ end ∷ rest
  pub cause : ((code ≡ Code.BadParameter) × (same_prefix end.endpoint.guid.prefix prefix ≡ false))
      ⊎ ((code ≡ Code.PreconditionNotMet) × (list_any (is_named end.endpoint.guid) before ≡ true))

-- why discovery does not begin
abbrev pub IsUnbegun : Settings → List End → Unopened → Type 0
IsUnbegun settings ends Unopened.Settings = CantBeAnnounced settings.domain settings.participant
IsUnbegun settings ends (Endpoints code) = CantBeAdded settings.participant.prefix ends code
IsUnbegun settings ends Unopened.Memory = ⊤

-- why a participant does not begin
abbrev pub IsRefused : Settings → Parts → Unopened → Type 0
IsRefused settings p cause =
    IsUnbegun settings p.ends cause
    ⊎ ((code : Code) × (cause ≡ unopened code)
    × Refuses (core_refusal (config_of settings.participant.prefix p.writers p.readers).peers 1) code)

-- ---- steps

-- Our peer is told of what discovery told last.
pub record Tells (a : State) (t : Turn) (b : State) (u : Turn) : Type 0 where
  pub tells : PeerIsTold a.left a.discovery.endpoints.far a.sharing b.sharing
  pub rest : b ≡ record a { sharing = b.sharing; left = [] }
  pub told : u ≡ record t { told = t.told ++ a.left }

-- A step of discovery is done,
pub record StepsOn (a : State) (t : Turn) (b : State) (u : Turn) : Type 0 where
  pub done : Doing
  pub step : IsStep a.discovery b.discovery (Done done)
  pub rest : b ≡ record a { discovery = b.discovery; left = done.told.items }
  pub sent : SendsAny done.packet t u

-- or none is left, or memory is wanting.
abbrev pub StepsOne : Bool → State → Turn → State → Turn → Type 0
StepsOne true a t b u = StepsOn a t b u
StepsOne false a t b u = (b ≡ a) × (((due a.discovery ≡ None) × (u ≡ t)) ⊎ (u ≡ lacking t))

-- Our peer is told of the last step, and then the next one is done, if one more is.
pub record GoesOne (more : Bool) (a : State) (t : Turn) (b : State) (u : Turn) : Type 0 where
  pub between : State
  pub given : Turn
  pub tells : Tells a t between given
  pub steps : StepsOne more between given b u

abbrev pub SettlesOne : Bool → State → Turn → State → Turn → Type 0
SettlesOne true a t b u = GoesOne true a t b u
SettlesOne false a t b u = GoesOne false a t b u ⊎ ((b ≡ a) × (u ≡ lacking t))

-- So many are done, one after the other.
pub data Runs : ℕ → State → Turn → State → Turn → Type 0 where
  none : (a : State) (t : Turn) → Runs zero a t a t
  more : (n : ℕ) (a : State) (t : Turn) (b : State) (u : Turn) (c : State) (v : Turn) → Runs n a t b u → GoesOne true b u c v
      → Runs (suc n) a t c v

-- Steps are done until none is left, or 2^64 - 1 are done.
pub record Settles (a : State) (t : Turn) (b : State) (u : Turn) : Type 0 where
  pub count : ℕ
  pub between : State
  pub given : Turn
  pub runs : Runs count a t between given
  pub ends : SettlesOne false between given b u ⊎ ((count ≡ 2 ^ 64 - 1) × (b ≡ between) × (u ≡ given))

-- Then all that our peer was told of is done: each match is one call of it.
pub record GoesOn (a : State) (t : Turn) (b : State) (u : Turn) : Type 0 where
  pub between : State
  pub given : Turn
  pub settles : Settles a t between given
  pub meets : Meets between.discovery.participants.rows between.sharing given b.sharing u
  pub rest : b ≡ record between { sharing = b.sharing }

-- ---- events

-- Discovery hears a datagram, or it is lost for it.
pub record IsHeard (masks : Masks) (moment : ℕ) (address bytes : List ℕ) (a : State) (t : Turn) (b : State) (u : Turn) : Type 0 where
  pub told : Option Presence
  pub packet : Option Datagram
  pub given : Turn
  pub delivers : Delivers masks a.discovery moment address bytes b.discovery told packet
  pub presents : PresentsAny told t given
  pub sends : SendsAny packet given u
  pub rest : b ≡ record a { discovery = b.discovery }

abbrev pub HearsAtDiscovery : Masks → ℕ → List ℕ → List ℕ → State → Turn → State → Turn → Type 0
HearsAtDiscovery masks moment address bytes a t b u =
    IsHeard masks moment address bytes a t b u ⊎ ((b ≡ a) × (u ≡ lacking t))

-- A datagram comes: to discovery, and then, once all is done that this left to do, to our peer.
pub record Hears (masks : Masks) (moment : ℕ) (address bytes : List ℕ) (a : State) (t : Turn) (b : State) (u : Turn) : Type 0 where
  pub heard : State
  pub settled : State
  pub first : Turn
  pub second : Turn
  pub hears : HearsAtDiscovery masks moment address bytes a t heard first
  pub goes_on : GoesOn heard first settled second
  pub comes : PeerHears settled.discovery.participants.rows bytes settled.sharing second b.sharing u
  pub rest : b ≡ record settled { sharing = b.sharing }

-- Time goes on at discovery, or does not, for want of memory.
pub record IsTicked (moment : ℕ) (a : State) (t : Turn) (b : State) (u : Turn) : Type 0 where
  pub ticks : b ≡ record a { discovery = ticked moment a.discovery }
  pub adds : Adds (told_at a.discovery.participants (max a.discovery.participants.time moment))
      (sent_at a.discovery.participants (max a.discovery.participants.time moment)) t u

abbrev pub TicksAtDiscovery : ℕ → State → Turn → State → Turn → Type 0
TicksAtDiscovery moment a t b u = IsTicked moment a t b u ⊎ ((b ≡ a) × (u ≡ lacking t))

-- Time goes on: at discovery, and then, once all is done that this left to do, at our peer.
pub record Ticks (moment : ℕ) (a : State) (t : Turn) (b : State) (u : Turn) : Type 0 where
  pub gone_on : State
  pub settled : State
  pub first : Turn
  pub second : Turn
  pub reply : Reply
  pub ticks : TicksAtDiscovery moment a t gone_on first
  pub goes_on : GoesOn gone_on first settled second
  pub happens : Happens settled.discovery.participants.rows (Tick moment) settled.sharing second reply b.sharing u
  pub rest : b ≡ record settled { sharing = b.sharing }

-- A call is one step of our peer,
pub record MakesCall (call : Call) (a : State) (t : Turn) (reply : Reply) (b : State) (u : Turn) : Type 0 where
  pub fits : Fits a.sharing.exchange.writers call
  pub happens : Happens a.discovery.participants.rows (Calling call) a.sharing t reply b.sharing u
  pub rest : b ≡ record a { sharing = b.sharing }

-- or is refused, as its value or its key is none of what the topic of its writer carries: then nothing changes.
pub record RefusesCall (call : Call) (a : State) (t : Turn) (reply : Reply) (b : State) (u : Turn) : Type 0 where
  pub misfit : Fits a.sharing.exchange.writers call → ⊥
  pub answers : reply ≡ Refused Code.BadParameter
  pub same : b ≡ a
  pub nothing : u ≡ t

abbrev pub Calls : Call → State → Turn → Reply → State → Turn → Type 0
Calls call a t reply b u = MakesCall call a t reply b u ⊎ RefusesCall call a t reply b u

-- What we say as we leave.
abbrev pub Leaves : State → Turn → Turn → Type 0
Leaves a t u = SendsThese (farewells a.discovery.participants) t u
