-- What comes one after the other.
use Rattle.std.proofs.Common.{◌≡◌, ◌<◌, ◌+◌, ℕ, List, add-one, get_or, length, subst, sym, take, true}
use Rattle.std.proofs.lemmas.List.{take_more}
use Rattle.dds_protocol.specs.declared.event.Packet.{Packet}
use Rattle.rtps_discovery.specs.declared.row.Row.{Row}
use Rattle.dds_exchange.specs.States.{State as Exchange}
use Rattle.dds_domain.specs.Participants.{GoesOne, Runs, State as Participant, more}
use Rattle.dds_domain.specs.Sharings.{ComesSo, Delivers, DeliversAll, Meetings, MeetsOne, SendsAll, SendsOut, State, TakesIt}
use Rattle.dds_domain.specs.Sharings.{came_more, delivered_more, met_more, sent_more}
use Rattle.dds_domain.specs.Turns.{State as Turn}

-- one packet more goes out
pub sends_next : (e : Exchange) (rows : List Row) (packets : List Packet) (i : ℕ) (d : Packet) (t u v : Turn)
    → i < length packets → d ≡ get_or packets i d → SendsAll e rows (take i packets) t u → SendsOut e rows d u v
    → SendsAll e rows (take (i + 1) packets) t v
sends_next e rows packets i d t u v lt at so_far step =
    subst (λ (all : List Packet). SendsAll e rows all t v) (sym (take_more packets i d lt))
    (sent_more e rows (take i packets) (get_or packets i d) t u v so_far
    (subst (λ (p : Packet). SendsOut e rows p u v) at step))

-- one message more comes
pub delivers_next : (rows : List Row) (messages : List (List ℕ)) (i : ℕ) (d : List ℕ) (s : State) (t : Turn) (r : State)
    (u : Turn) (q : State) (v : Turn) → i < length messages → d ≡ get_or messages i d
    → DeliversAll rows (take i messages) s t r u → Delivers rows d r u q v → DeliversAll rows (take (i + 1) messages) s t q v
delivers_next rows messages i d s t r u q v lt at so_far step =
    subst (λ (all : List (List ℕ)). DeliversAll rows all s t q v) (sym (take_more messages i d lt))
    (delivered_more rows (take i messages) (get_or messages i d) s t r u q v so_far
    (subst (λ (m : List ℕ). Delivers rows m r u q v) at step))

-- one step of discovery more
pub runs_next : (n : ℕ) (a : Participant) (t : Turn) (b : Participant) (u : Turn) (c : Participant) (v : Turn) → Runs n a t b u
    → GoesOne true b u c v → Runs (n + 1) a t c v
runs_next n a t b u c v runs step =
    subst (λ (m : ℕ). Runs m a t c v) (sym (add-one n)) (more n a t b u c v runs step)

-- one more that was due is done
pub meetings_next : (n : ℕ) (e : Exchange) (t : Turn) (f : Exchange) (u : Turn) (g : Exchange) (v : Turn) → Meetings n e t f u
    → MeetsOne f u g v → Meetings (n + 1) e t g v
meetings_next n e t f u g v so_far step =
    subst (λ (m : ℕ). Meetings m e t g v) (sym (add-one n)) (met_more n e t f u g v so_far step)

-- one that waited more
pub comes_next : (n : ℕ) (rows : List Row) (bytes : List ℕ) (s : State) (t : Turn) (r : State) (u : Turn) (taken q : State)
    (v : Turn) → ComesSo n rows s t r u → TakesIt r bytes taken → Delivers rows bytes taken u q v → ComesSo (n + 1) rows s t q v
comes_next n rows bytes s t r u taken q v comes takes delivers =
    subst (λ (m : ℕ). ComesSo m rows s t q v) (sym (add-one n))
    (came_more n rows bytes s t r u taken q v comes takes delivers)
