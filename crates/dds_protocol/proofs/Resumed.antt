-- Places that are tried again make moves, as a delivery does, or none.
use Rattle.std.proofs.Common.{ℕ, List, [], ◌∷◌, ◌++◌, None}
use Rattle.dds_machine.specs.declared.reply.Move.{Move}
use Rattle.dds_machine.specs.declared.reply.Move.TheVariants.{Place, Acknowledged, Heard, Begun as HasBegun, Strange}
use Rattle.dds_machine.specs.declared.reply.Reply.{Reply}
use Rattle.dds_machine.specs.declared.reply.Reply.TheVariants.{Refused, Reported}
use Rattle.dds_machine.specs.Part.{Part}
use Rattle.dds_machine.specs.Moves.{Grounds, AreMoves, ArePlaces, ResumeStep}
use Rattle.dds_protocol.specs.Closed.{BeginNone}

-- these moves: none where it is refused
pub as_moves : (g : Grounds) (old : Part) (k : ℕ) (reply : Reply) (new : Part) → ResumeStep g old k reply new
    → (ms : List Move) × AreMoves g old ms new
as_moves g old k (Reported report) new h = (report.moves, h.2)
as_moves g old k (Refused code) new h = ([], h.2)
as_moves g old k reply new h = absurd h

-- a delivery that makes these moves reports them so
abbrev pub report_of : List Move → Reply
report_of ms = Reported (record { moves = ms; refused = None })

-- no place begins by moves of places
pub places_begin_none : (k : ℕ) (ms : List Move) → ArePlaces k ms → BeginNone ms
places_begin_none k [] h = tt
places_begin_none k (Place w r to passed ∷ ms) h = places_begin_none k ms h.1
places_begin_none k (Acknowledged w r to ∷ ms) h = absurd h
places_begin_none k (Heard w r ∷ ms) h = absurd h
places_begin_none k (Strange w r ∷ ms) h = absurd h
places_begin_none k (HasBegun w r from to ∷ ms) h = absurd h

-- moves of a reader's places, and then others
pub places_on : (k : ℕ) (xs ys : List Move) → ArePlaces k xs → ArePlaces k ys → ArePlaces k (xs ++ ys)
places_on k [] ys h i = i
places_on k (Place w r to passed ∷ xs) ys h i = (h.0, places_on k xs ys h.1 i)
places_on k (Acknowledged w r to ∷ xs) ys h i = absurd h
places_on k (Heard w r ∷ xs) ys h i = absurd h
places_on k (Strange w r ∷ xs) ys h i = absurd h
places_on k (HasBegun w r from to ∷ xs) ys h i = absurd h
