-- What a writer knows of a matched reader by its ACKNACKs.
--
-- RTPS 2.5, 8.4.7 (ReaderProxy), 8.3.8 (AckNack).
use Rattle.std.specs.Prelude.{◌||◌, Bool, false, Option, None, ℤ}

-- The count of the last one that it took; whether that reader asks for a HEARTBEAT; and whether it was greeted, and has
-- not answered yet.
pub record Contact : Type 0 where
  pub count : Option ℤ
  pub asks : Bool
  pub silent : Bool

-- before the first one, of a reader that was not greeted
abbrev pub no_contact : Contact
no_contact = record { count = None; asks = false; silent = false }

-- the reader is told at the next tick whether or not it is behind
abbrev pub awaits_heartbeat : Contact → Bool
awaits_heartbeat contact = contact.asks || contact.silent
