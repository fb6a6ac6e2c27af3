-- What the truth of messages rests on stays so: calls and ticks leave a peer's part that of its configuration, and a
-- tick leaves the changes.
use Rattle.std.proofs.Common.{◌≡◌, ℕ, Bool, List, length, refl, subst, ap, sym, ◌∙◌, ⊎_elim}
use Rattle.dds_base.specs.declared.change.Change.{Change}
use Rattle.dds_protocol.specs.Roster.{Roster}
use Rattle.dds_base.specs.Kept.{change_at}
use Rattle.dds_machine.specs.declared.call.Call.{Call}
use Rattle.dds_machine.specs.declared.reply.Reply.{Reply}
use Rattle.dds_machine.specs.declared.reply.Reply.TheVariants.{Done, Refused}
use Rattle.dds_machine.specs.Numbered.{numbered}
use Rattle.dds_machine.specs.Part.{Part, Rtps, Writer, no_writer, own_writer, writer_changes}
use Rattle.dds_machine.specs.Ticks.{writers_ticked, TickStep}
use Rattle.dds_machine.specs.Calls.{Effect, nothing, writes, tells, looks_at_matches, effect, effect_of, with_written, CallStep}
use Rattle.dds_machine.specs.Matching.{writer_looked_at}
use Rattle.dds_machine.specs.Watching.{Tests}
use Rattle.dds_protocol.specs.Dues.{AreTellable, AreSmall, HasSmallChanges, IsPartOf}
use Rattle.dds_protocol.proofs.DuesGrowth.{is_part_kept}
use Rattle.dds_protocol.proofs.Growth.{TickStep-grows}
use Rattle.dds_protocol.proofs.Told.{telling_count}
use Rattle.dds_machine.proofs.Tables.{length-with_numbered}
use Rattle.dds_machine.proofs.Ticked.{numbered-writers_ticked, length-writers_ticked}

-- ---- a call

effect_count : (old : Rtps) (e : Effect) → length (effect old e).writers ≡ length old.writers
effect_count old nothing = refl
effect_count old (writes w entry) =
    length-with_numbered old.writers w (with_written (numbered old.writers w no_writer) entry)
effect_count old (tells t) = telling_count old t
effect_count old (looks_at_matches w) =
    length-with_numbered old.writers w (writer_looked_at (numbered old.writers w no_writer))

-- a call leaves the writers
pub call_part : (roster : Roster) (peer : ℕ) (tests : Tests) (old : Part) (call : Call) (reply : Reply) (new : Part)
    → CallStep tests old call reply new → IsPartOf roster peer old → IsPartOf roster peer new
call_part roster peer tests old call reply new h of =
    is_part_kept roster peer old new
    (ap (λ (r : Rtps). length r.writers) h.rtps ∙ effect_count old.rtps (effect_of old call reply)) of

-- ---- a tick

tick_count : (old : Part) (now : ℕ) (reply : Reply) (new : Part) → TickStep old now reply new
    → length new.rtps.writers ≡ length old.rtps.writers
tick_count old now Done new h =
    ap (λ (p : Part). length p.rtps.writers) h.1.1 ∙ length-writers_ticked now h.0 1 old.rtps.writers
tick_count old now (Refused code) new h = ap (λ (p : Part). length p.rtps.writers) h.1.1
tick_count old now reply new h = absurd h.1

-- so does a tick
pub tick_part : (roster : Roster) (peer : ℕ) (old : Part) (now : ℕ) (reply : Reply) (new : Part)
    → TickStep old now reply new → IsPartOf roster peer old → IsPartOf roster peer new
tick_part roster peer old now reply new h of =
    is_part_kept roster peer old new (tick_count old now reply new h) of

ticked_changes : (now : ℕ) (asked : ℕ → Bool) (ws : List Writer) (w : ℕ)
    → writer_changes (numbered (writers_ticked now asked 1 ws) w no_writer) ≡ writer_changes (numbered ws w no_writer)
ticked_changes now asked ws w =
    ⊎_elim (λ e. ap (λ (x : Writer). writer_changes x) e) (λ n. ap (λ (x : Writer). writer_changes x) (n.0 ∙ sym n.1))
    (numbered-writers_ticked now asked ws w)

-- and it leaves the changes
pub tick_changes : (old : Part) (now : ℕ) (reply : Reply) (new : Part) → TickStep old now reply new → (w : ℕ)
    → writer_changes (own_writer new w) ≡ writer_changes (own_writer old w)
tick_changes old now Done new h w =
    ap (λ (p : Part). writer_changes (own_writer p w)) h.1.1 ∙ ticked_changes now h.0 old.rtps.writers w
tick_changes old now (Refused code) new h w = ap (λ (p : Part). writer_changes (own_writer p w)) h.1.1
tick_changes old now reply new h w = absurd h.1

-- which can be told as before
pub tick_tellable : (old : Part) (now : ℕ) (reply : Reply) (new : Part) → TickStep old now reply new → AreTellable old
    → AreTellable new
tick_tellable old now reply new h all w n c at =
    all w n c (ap (λ (cs : List Change). change_at cs n) (sym (tick_changes old now reply new h w)) ∙ at)

-- and are as small
pub tick_small : (old : Part) (now : ℕ) (reply : Reply) (new : Part) → TickStep old now reply new → HasSmallChanges old
    → HasSmallChanges new
tick_small old now reply new h all w =
    subst (λ (most : ℕ). AreSmall most (writer_changes (own_writer new w)))
    (sym ((TickStep-grows old now reply new h).writers w).values)
    (subst (λ (cs : List Change). AreSmall (own_writer old w).max_value cs) (sym (tick_changes old now reply new h w))
    (all w))
