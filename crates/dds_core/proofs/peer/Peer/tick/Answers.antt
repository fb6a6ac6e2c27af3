use Rattle.std.proofs.Common.{◌∙◌, List, refl, sym, subst, rules}
use Rattle.std.proofs.lemmas.List.{with_items_is}
use Rattle.dds_base.specs.declared.code.Code.TheVariants.{Memory}
use Rattle.dds_protocol.specs.declared.event.Event.TheVariants as event
use Rattle.dds_protocol.specs.declared.event.Packet.{Packet}
use Rattle.dds_ends.specs.Beating.{BeatsOfAll}
use Rattle.dds_ends.specs.Expiring.{AllExpire, HasPastCounting}
use Rattle.dds_ends.specs.Kept.{ReaderKept, WriterKept}
use Rattle.dds_core.specs.Kept.{PeerKept}
use Rattle.dds_ends.specs.Stepping.{AllTick}
use Rattle.dds_core.proofs.BeatsDue.{due_sent}
use Rattle.dds_core.proofs.CallSteps.{Follows, follows_as, tick_past_counting, ticks, still_stands}
use Rattle.dds_ends.proofs.Lists.{written_back}
use Rattle.dds_core.proofs.peer.Peer.tick.Goals as goal

-- nobody has died, and all stands as before
pub returns-then-not-counts_deaths-clause-step : goal.returns-then-not-counts_deaths-clause-step
returns-then-not-counts_deaths-clause-step c = λ roster peer given.
    let s = still_stands c.self.view_is given in
    let past : HasPastCounting c.self.inside.readers.items c.args.now =
    subst (λ (ks : List ReaderKept). HasPastCounting ks c.args.now) c.as_slice.ensures.value
    (c.counts_deaths.ensures.past (search rules)) in
    subst (λ (k : PeerKept). Follows k roster peer (event.Tick c.args.now) c.answered-then-not-counts_deaths.result)
    c.self.view_is (follows_as _ roster peer _ _ _ c.answered-then-not-counts_deaths.ensures
    (tick_past_counting _ Memory roster peer s c.args.now (search rules) (search rules) (refl, past)))

-- what goes out, by what the peer keeps
beats : (c : goal.After-from_vec)
    → BeatsOfAll c.self.inside.prefix c.self.inside.writers.items c.from_vec.result c.tick_all-packets.result.unsent
beats c =
    subst (λ (ps : List Packet). BeatsOfAll c.self.inside.prefix c.self.inside.writers.items ps
    c.tick_all-packets.result.unsent) (sym c.from_vec.ensures.elements)
    (subst (λ (ks : List WriterKept). BeatsOfAll c.self.inside.prefix ks c.tick_all-packets.result.packets.items
    c.tick_all-packets.result.unsent) c.as_mut_slice-2.ensures.value c.tick_all-packets.ensures.beats)

pub returns-clause-step : goal.returns-clause-step
returns-clause-step c = λ roster peer given.
    let s = still_stands c.self.view_is given in
    let all : AllTick c.self.inside.writers.items c.args.now c.tick_all-packets.new.writers =
    subst (λ (ks : List WriterKept). AllTick ks c.args.now c.tick_all-packets.new.writers)
    c.as_mut_slice-2.ensures.value c.tick_all-packets.ensures.ticks in
    let expired : AllExpire c.self.inside.readers.items c.args.now c.expire_all.new.readers =
    subst (λ (ks : List ReaderKept). AllExpire ks c.args.now c.expire_all.new.readers) c.as_mut_slice.ensures.value
    c.expire_all.ensures.expires in
    let same =
    with_items_is c.self.inside.readers c.expire_all.new.readers
    (c.expire_all.ensures.expires.count ∙ c.as_mut_slice.ensures.len) in
    ticks _ _ _ roster peer s c.args.now (search rules) (search rules)
    (subst (λ (ks : List WriterKept). AllTick c.self.inside.writers.items c.args.now ks)
    (sym (written_back c.tick_all-packets.new.writers c.self.inside.writers.items c.self.inside.writers.len
    (search rules) (search rules))) all)
    (subst (λ (ks : List ReaderKept). AllExpire c.self.inside.readers.items c.args.now ks) (sym same) expired) _
    refl (beats c)

pub returns-clause-sends : goal.returns-clause-sends
returns-clause-sends c = λ roster peer given.
    let s = still_stands c.self.view_is given in
    due_sent roster peer _ c.from_vec.result c.tick_all-packets.result.unsent s (beats c)
