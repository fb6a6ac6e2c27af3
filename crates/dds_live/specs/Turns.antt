-- What a participant on the network does, as steps of the participant (RTPS 2.5, 8.5: discovery; 8.3.4: the message receiver). A
-- participant on the network a becomes b, and a turn t becomes u. Which datagrams come, and what the clock says, is nothing that is
-- claimed.
use Rattle.std.specs.Prelude.{◌≡◌, ◌≤◌, ℕ, zero, suc, List, [], Bool, true, false}
use Rattle.std.specs.declared.time.Duration.{Duration}
use Rattle.dds_base.specs.declared.mask.Masks.{Masks}
use Rattle.dds_machine.specs.declared.call.Call.{Call}
use Rattle.dds_machine.specs.declared.reply.Reply.{Reply}
use Rattle.dds_domain.specs.Participants.{Calls, Hears, Leaves, Ticks}
use Rattle.dds_domain.specs.Turns.{State as Turn}
use Rattle.dds_live.specs.declared.moments.Moments.{Moments}
use Rattle.dds_live.specs.Moments.{moment_after}
use Rattle.dds_live.specs.States.{State}

-- what it had to send is sent no more
abbrev pub emptied : Turn → Turn
emptied t = record t { datagrams = [] }

-- nothing but the participant changes
abbrev pub Keeps : State → State → Type 0
Keeps a b = b ≡ record a { participant = b.participant }

-- One datagram is heard, from some address.
pub record HearsOne (masks : Masks) (moment : ℕ) (a : State) (t : Turn) (b : State) (u : Turn) : Type 0 where
  pub address : List ℕ
  pub bytes : List ℕ
  pub hears : Hears masks moment address bytes a.participant t b.participant u
  pub rest : Keeps a b

-- A datagram was there and is heard, or none was and nothing changes.
abbrev pub HearsAny : Masks → Bool → ℕ → State → Turn → State → Turn → Type 0
HearsAny masks true moment a t b u = HearsOne masks moment a t b u
HearsAny masks false moment a t b u = (b ≡ a) × (u ≡ t)

-- So many are, one after the other, all at one moment.
pub data Hearings : ℕ → Masks → ℕ → State → Turn → State → Turn → Type 0 where
  none : (masks : Masks) (moment : ℕ) (a : State) (t : Turn) → Hearings zero masks moment a t a t
  more : (n : ℕ) (masks : Masks) (moment : ℕ) (a : State) (t : Turn) (b : State) (u : Turn) (c : State) (v : Turn)
      → Hearings n masks moment a t b u → HearsOne masks moment b u c v → Hearings (suc n) masks moment a t c v

-- 64 at most
pub record HearsAll (masks : Masks) (moment : ℕ) (a : State) (t : Turn) (b : State) (u : Turn) : Type 0 where
  pub count : ℕ
  pub bounded : count ≤ 64
  pub hearings : Hearings count masks moment a t b u

-- Time goes on.
pub record TicksOne (moment : ℕ) (a : State) (t : Turn) (b : State) (u : Turn) : Type 0 where
  pub ticks : Ticks moment a.participant t b.participant u
  pub rest : Keeps a b

-- a moment of the clock: so long after the opening
pub record IsMoment (m : Moments) (moment : ℕ) : Type 0 where
  pub elapsed : Duration
  pub is : moment ≡ moment_after m elapsed

-- A turn: datagrams are heard, 64 at most, then time goes on, all at one moment of the clock. What comes of it is in u, and all that
-- u has to send.
pub record TakesTurn (masks : Masks) (a : State) (t : Turn) (b : State) (u : Turn) : Type 0 where
  pub moment : ℕ
  pub heard : State
  pub given : Turn
  pub now : IsMoment a.moments moment
  pub hears : HearsAll masks moment a (emptied t) heard given
  pub ticks : TicksOne moment heard given b u

-- A call is one of the participant, and u has what it gave to be sent.
pub record MakesCall (call : Call) (a : State) (t : Turn) (reply : Reply) (b : State) (u : Turn) : Type 0 where
  pub calls : Calls call a.participant (emptied t) reply b.participant u
  pub rest : Keeps a b

-- What we say as we leave.
abbrev pub SaysFarewell : State → Turn → Turn → Type 0
SaysFarewell a t u = Leaves a.participant (emptied t) u
