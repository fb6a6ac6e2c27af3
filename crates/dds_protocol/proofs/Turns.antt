-- Steps in turn: what each of them keeps, all of them keep.
use Rattle.std.proofs.Common.{List, [], ◌∷◌, ◌++◌, subst, sym}
use Rattle.dds_machine.specs.declared.reply.Move.{Move}
use Rattle.dds_protocol.specs.DueMessages.{Due}
use Rattle.dds_protocol.specs.Protocol.{State, InTurn}

-- a relation of two states, and of what is due meanwhile, that goes on
pub in_turn : {X : Type 0} (R : State → List Due → State → Type 0) → ((s : State) → R s [] s)
    → ((a b c : State) (first rest : List Due) → R a first b → R b rest c → R a (first ++ rest) c)
    → (step : X → State → List Move → List Due → State → Type 0)
    → ((x : X) (old : State) (moves : List Move) (dues : List Due) (new : State) → step x old moves dues new
    → R old dues new)
    → (xs : List X) (old : State) (moves : List Move) (dues : List Due) (new : State)
    → InTurn step xs old moves dues new
    → R old dues new
in_turn R none on step each [] old moves dues new h =
    subst (λ (s : State). R old dues s) (sym h.2) (subst (λ (ds : List Due). R old ds old) (sym h.1) (none old))
in_turn R none on step each (x ∷ xs) old moves dues new h =
    subst (λ (ds : List Due). R old ds new) (sym h.6)
    (on old h.4 new h.2 h.3 (each x old h.0 h.2 h.4 h.7) (in_turn R none on step each xs h.4 h.1 h.3 new h.8))
