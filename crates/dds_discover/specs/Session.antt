-- What is printed of what discovery does (RTPS 2.5, 8.5: discovery). A state s becomes t, and text is printed.
use Rattle.std.specs.Prelude.{◌≡◌, ◌⊎◌, ℕ, zero, suc, ◌-◌, ◌^◌, ◌++◌, List, [], max, OnOk, IsErr, IfSome, Option, None, Result, Ok, Err}
use Rattle.std.specs.Io.KnownBytes.{Appends}
use Rattle.std.specs.List.{flat_map}
use Rattle.std.specs.Option.{option_to_list}
use Rattle.dds_base.specs.declared.code.Code.{Code}
use Rattle.dds_base.specs.declared.guid.Guid.{Guid}
use Rattle.dds_base.specs.declared.guid.GuidPrefix.{GuidPrefix}
use Rattle.dds_base.specs.declared.mask.Masks.{Masks}
use Rattle.rtps_discovery.specs.declared.packet.Packet.{Packet}
use Rattle.rtps_discovery.specs.declared.row.Told.{Told as Presence}
use Rattle.rtps_discovery.specs.Steps.{farewells, sent_at, told_at}
use Rattle.rtps_matching.specs.declared.told.Misfitting.{Misfitting}
use Rattle.rtps_matching.specs.declared.told.Told.{Told}
use Rattle.rtps_matching.specs.Misfits.{misfits}
use Rattle.rtps_matching.specs.Steps.{told_of_own, told_without_own}
use Rattle.dds_discovery.specs.declared.serving.Done.{Done as Doing}
use Rattle.dds_discovery.specs.declared.discovery.Step.TheVariants.{Done}
use Rattle.dds_discovery.specs.Events.{Delivers, added, kind_of, removed, ticked}
use Rattle.dds_discovery.specs.States.{State, due}
use Rattle.dds_discovery.specs.Steps.{IsStep}
use Rattle.discovery_script.specs.Told.{misfit_line, packet_line, presence_line, told_line}
use Rattle.dds_discover.specs.declared.line.Line.{Line}
use Rattle.dds_discover.specs.declared.line.Line.TheVariants.{Add, Deliver, Misfits, Remove, Tick, Who}

-- ---- lines

-- what changed of who is matched
abbrev pub told_lines : List Told → List ℕ
told_lines told = flat_map told_line told

-- what is sent
abbrev pub packet_lines : List Packet → List ℕ
packet_lines packets = flat_map packet_line packets

-- who is there, or no more
abbrev pub presence_lines : List Presence → List ℕ
presence_lines told = flat_map presence_line told

-- which endpoints do not fit
abbrev pub misfit_lines : List Misfitting → List ℕ
misfit_lines misfits = flat_map misfit_line misfits

-- what came of a step
abbrev pub done_lines : Doing → List ℕ
done_lines done = told_lines done.told.items ++ packet_lines (option_to_list done.packet)

-- whose leases have ended by a moment, and what is sent then
abbrev pub ticked_lines : ℕ → State → List ℕ
ticked_lines moment s =
    presence_lines (told_at s.participants (max s.participants.time moment))
    ++ packet_lines (sent_at s.participants (max s.participants.time moment))

-- what is printed where there is memory for it, else nothing
abbrev pub where_answered : Result (Unit {0}) Code → List ℕ → List ℕ
where_answered (Ok done) text = text
where_answered (Err code) text = []

-- A text of which this holds was printed.
abbrev pub Prints : Option (List ℕ) → Option (List ℕ) → (List ℕ → Type 0) → Type 0
Prints old new P = (text : List ℕ) × Appends old new text × P text

-- ---- steps

-- So many steps are done, one after the other, and what came of each is printed.
pub data Runs : ℕ → State → List ℕ → State → Type 0 where
  none : (s : State) → Runs zero s [] s
  more : (n : ℕ) (s : State) (text : List ℕ) (t : State) (done : Doing) (u : State) → Runs n s text t
      → IsStep t u (Done done) → Runs (suc n) s (text ++ done_lines done) u

-- Steps are done until none is left, until one is refused, or 2^64 - 1 are done.
pub record Settles (s : State) (text : List ℕ) (t : State) (answered : Result (Unit {0}) Code) : Type 0 where
  pub count : ℕ
  pub runs : Runs count s text t
  pub ends : OnOk answered ((due t ≡ None) ⊎ (count ≡ 2 ^ 64 - 1))

-- ---- events

-- It is refused, and nothing is printed.
pub record IsRefused (s : State) (text : List ℕ) (t : State) (answered : Result (Unit {0}) Code) : Type 0 where
  pub answer : IsErr answered
  pub silent : text ≡ []
  pub same : t ≡ s

-- What it told is printed, and what it leaves to do is done.
pub record IsDone (told : List ℕ) (between : State) (text : List ℕ) (t : State) (answered : Result (Unit {0}) Code) : Type 0 where
  pub rest : List ℕ
  pub lines : text ≡ told ++ rest
  pub settles : Settles between rest t answered

abbrev pub Happens : List ℕ → State → State → List ℕ → State → Result (Unit {0}) Code → Type 0
Happens told s between text t answered = IsRefused s text t answered ⊎ IsDone told between text t answered

-- An endpoint of ours goes.
abbrev pub Removes : Guid → State → List ℕ → State → Result (Unit {0}) Code → Type 0
Removes guid s text t answered =
    IsRefused s text t answered
    ⊎ ((between : State) × IfSome (kind_of guid s.endpoints.own) (λ kind. between ≡ removed guid kind s)
    × IsDone (told_lines (told_without_own guid s.endpoints)) between text t answered)

-- A datagram comes from an address at a moment, and what discovery told is printed.
pub record Takes (masks : Masks) (moment : ℕ) (address bytes : List ℕ) (s : State) (text : List ℕ) (t : State)
    (answered : Result (Unit {0}) Code) : Type 0 where
  pub told : Option Presence
  pub packet : Option Packet
  pub between : State
  pub delivers : Delivers masks s moment address bytes between told packet
  pub done : IsDone (presence_lines (option_to_list told) ++ packet_lines (option_to_list packet)) between text t answered

abbrev pub Delivered : Masks → ℕ → List ℕ → List ℕ → State → List ℕ → State → Result (Unit {0}) Code → Type 0
Delivered masks moment address bytes s text t answered =
    IsRefused s text t answered ⊎ Takes masks moment address bytes s text t answered

-- ---- lines that are answered

-- What a line leads to where discovery goes on. How participants and endpoints are listed no definition says.
abbrev pub Leads : Masks → Line → GuidPrefix → State → Option (List ℕ) → Option (List ℕ) → State → Result (Unit {0}) Code → Type 0
Leads masks (Add e) own s old new t answered =
    Prints old new (λ text. Happens (told_lines (told_of_own e s.endpoints)) s (added e s) text t answered)
Leads masks (Remove entity) own s old new t answered =
    Prints old new (λ text. Removes (record { prefix = own; entity = entity }) s text t answered)
Leads masks (Tick moment) own s old new t answered =
    Prints old new (λ text. Happens (ticked_lines moment s) s (ticked moment s) text t answered)
Leads masks (Deliver moment address octets) own s old new t answered =
    Prints old new (λ text. Delivered masks moment address octets s text t answered)
Leads masks Misfits own s old new t answered =
    (t ≡ s) × Appends old new (where_answered answered (misfit_lines (misfits s.endpoints.own s.endpoints.far)))
Leads masks Who own s old new t answered = t ≡ s
Leads masks _ own s old new t answered =
    (t ≡ s) × Appends old new (where_answered answered (packet_lines (farewells s.participants)))
