-- Which octets were sent, as they are kept, and which trace has a next entry that may stand. Inner functions alone cite
-- this: nothing here has to be believed.
use Rattle.std.specs.Prelude.{ℕ, List, Contains, ◌↔◌}
use Rattle.dds_trace.specs.declared.trace.Entry.{Entry}
use Rattle.dds_trace.specs.Entries.{Traced}
use Rattle.dds_trace.specs.Weaving.{IsBlocked, IsNext, MayStand, Sent}

-- these octets are those that the placed entries sent
abbrev pub Knows : List Traced → List ℕ → List (List ℕ) → Type 0
Knows ts placed sent = (octets : List ℕ) → Contains sent octets ↔ Sent ts placed octets

-- the trace of this index has a next entry that may stand next
abbrev pub HasPlace : List Traced → List ℕ → ℕ → Type 0
HasPlace ts placed t = (e : Entry) × IsNext ts placed t e × MayStand (Sent ts placed) e

-- the next entry of the trace, if it has one, is blocked
abbrev pub HasNoPlace : List Traced → List ℕ → ℕ → Type 0
HasNoPlace ts placed t = (e : Entry) → IsNext ts placed t e → IsBlocked (Sent ts placed) e
