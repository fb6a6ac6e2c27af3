use Rattle.std.proofs.Common.{◌<◌, List, length, subst, ap, ◌∙◌, not, Bool, Option, arith}
use Rattle.std.specs.Prelude.{IfSome}
use Rattle.std.proofs.lemmas.List.{get_or_default}
use Rattle.std.proofs.lemmas.List.Elements.{All-pop}
use Rattle.dds_base.specs.Life.{state_after}
use Rattle.dds_owner.specs.Standing.{IsBlank, Kept}
use Rattle.dds_instances.specs.declared.track.InstanceTrack.{InstanceTrack}
use Rattle.dds_instances.specs.Track.{is_alive_state, is_alive_track}
use Rattle.dds_instances.proofs.MarkerLaws.{alive-kept}
use Rattle.dds_instances.proofs.StandingLaws.{keys-set, widened-follows}
use Rattle.dds_instances.proofs.keeping.make_place.Goals as goal

pub returns-then-places-number-clause-keys : goal.returns-then-places-number-clause-keys
returns-then-places-number-clause-keys c =
    let ts : List InstanceTrack = c.args.tracks.now.items in
    let inside : c.args.at < length ts = omega (arith, c.requires.within, c.args.tracks.now.ok.0) in
    keys-set ts c.args.at c.widen.new.self inside
    (ap (λ (t : InstanceTrack). t.key) c.widen.ensures.others
    ∙ ap (λ (t : InstanceTrack). t.key) (c.index_mut.ensures.value
    ∙ get_or_default ts c.args.at c.index_mut.result.now c.widen.new.self inside))

pub returns-then-places-number-clause-alive : goal.returns-then-places-number-clause-alive
returns-then-places-number-clause-alive c =
    let B : Kept → Type 0 = IsBlank c.args.writers in
    let parts = All-pop B c.args.blanks.now.items c.pop.new.self.items c.pop.result c.pop.ensures.items c.requires.blank in
    let blank : IsBlank c.args.writers c.unwrap-blank.result =
    subst (λ (r : Option Kept). IfSome r B) c.unwrap-blank.ensures parts.1 in
    let t : InstanceTrack = c.index_mut.result.now in
    alive-kept c.args.tracks.now.items c.args.at c.widen.new.self t
    (ap (λ (u : InstanceTrack). is_alive_track (record u { owners = c.widen.new.self.owners })) c.widen.ensures.others
    ∙ (ap (λ (b : Bool). is_alive_state (state_after t.last_accepted (not b))) (c.widen.ensures.writers c.args.writers blank)
    ∙ ap (λ (u : InstanceTrack). is_alive_track u) c.index_mut.ensures.value))

pub returns-then-places-number-clause-blanks : goal.returns-then-places-number-clause-blanks
returns-then-places-number-clause-blanks c = λ n blank.
    (All-pop (IsBlank n) c.args.blanks.now.items c.pop.new.self.items c.pop.result c.pop.ensures.items blank).0

pub returns-then-places-number-clause-follows : goal.returns-then-places-number-clause-follows
returns-then-places-number-clause-follows c = λ q h few follows.
    let B : Kept → Type 0 = IsBlank c.args.writers in
    let parts = All-pop B c.args.blanks.now.items c.pop.new.self.items c.pop.result c.pop.ensures.items c.requires.blank in
    let blank : IsBlank c.args.writers c.unwrap-blank.result =
    subst (λ (r : Option Kept). IfSome r B) c.unwrap-blank.ensures parts.1 in
    let ts : List InstanceTrack = c.args.tracks.now.items in
    let inside : c.args.at < length ts = omega (arith, c.requires.within, c.args.tracks.now.ok.0) in
    widened-follows q h ts c.args.at c.index_mut.result.now c.widen.new.self inside c.index_mut.ensures.value
    c.widen.ensures.others
    (c.widen.ensures.same c.args.writers q c.index_mut.result.now.key h blank few) follows
