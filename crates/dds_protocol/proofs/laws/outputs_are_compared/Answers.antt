-- Each part of an output is compared by a test that decides whether the two are the same.
use Rattle.std.proofs.Common.{◌≡◌, ℕ, Option, Some, None, refl, ap, rules, nat_eq}
use Rattle.std.specs.Bool.{Decides}
use Rattle.std.specs.Cmp.{booleans_Decides}
use Rattle.std.specs.Option.{option_eq}
use Rattle.std.proofs.lemmas.Bool.Decides.{Decides-and, Decides-at, Decides-eqb, Decides-int_eq, Decides-like}
use Rattle.dds_base.specs.declared.happening.PassedRun.{PassedRun}
use Rattle.dds_base.specs.declared.sample.Sample.{Sample}
use Rattle.dds_base.specs.declared.sample.SampleInfo.{SampleInfo}
use Rattle.dds_base.specs.declared.sample.SampleState.{SampleState}
use Rattle.dds_base.specs.declared.sample.ViewState.{ViewState}
use Rattle.dds_base.specs.declared.sample.InstanceState.{InstanceState}
use Rattle.dds_base.specs.declared.status.LivelinessChangedStatus.{LivelinessChangedStatus}
use Rattle.dds_base.specs.declared.code.Code.{Code}
use Rattle.dds_base.specs.declared.status.SampleLostStatus.{SampleLostStatus}
use Rattle.dds_base.specs.declared.status.LivelinessLostStatus.{LivelinessLostStatus}
use Rattle.dds_base.specs.contracts.happening.PassedRunPartialEq.TheImpl as of_runs
use Rattle.dds_base.specs.contracts.sample.SamplePartialEq.TheImpl as of_samples
use Rattle.dds_base.specs.contracts.sample.SampleInfoPartialEq.TheImpl as of_infos
use Rattle.dds_base.specs.contracts.sample.SampleStatePartialEq.TheImpl as of_sample_states
use Rattle.dds_base.specs.contracts.sample.ViewStatePartialEq.TheImpl as of_view_states
use Rattle.dds_base.specs.contracts.sample.InstanceStatePartialEq.TheImpl as of_instance_states
use Rattle.dds_base.specs.contracts.status.LivelinessChangedStatusPartialEq.TheImpl as of_statuses
use Rattle.dds_base.specs.contracts.code.CodePartialEq.TheImpl as of_codes
use Rattle.dds_base.specs.contracts.status.SampleLostStatusPartialEq.TheImpl as of_sample_lost
use Rattle.dds_base.specs.contracts.status.LivelinessLostStatusPartialEq.TheImpl as of_liveliness_lost
use Rattle.dds_base.specs.declared.endpoint.Endpoint.{Endpoint}
use Rattle.dds_base.specs.declared.status.MatchedStatus.{MatchedStatus}
use Rattle.dds_base.specs.contracts.endpoint.EndpointPartialEq.TheImpl as of_endpoints
use Rattle.dds_base.specs.contracts.status.MatchedStatusPartialEq.TheImpl as of_matched
use Rattle.dds_protocol.specs.declared.event.Output.{Output}
use Rattle.dds_protocol.specs.declared.event.Packet.{Packet}
use Rattle.dds_machine.specs.declared.reply.Move.{Move}
use Rattle.dds_machine.specs.declared.reply.Report.{Report}
use Rattle.dds_machine.specs.declared.reply.Reply.{Reply}
use Rattle.dds_protocol.specs.contracts.event.OutputPartialEq.TheImpl as of_outputs
use Rattle.dds_protocol.specs.contracts.event.PacketPartialEq.TheImpl as of_packets
use Rattle.dds_machine.specs.contracts.reply.MovePartialEq.TheImpl as of_moves
use Rattle.dds_machine.specs.contracts.reply.ReportPartialEq.TheImpl as of_reports
use Rattle.dds_machine.specs.contracts.reply.ReplyPartialEq.TheImpl as of_replies
use Rattle.dds_machine.specs.contracts.reply.Move.{enum as enum_of_moves}
use Rattle.dds_machine.specs.contracts.reply.Reply.{enum as enum_of_replies}
use Rattle.dds_protocol.proofs.Compared.{of_variants, ◌⨾◌, bare, last, more, lists, keys, endpoints, conds, status_masks}
use Rattle.dds_protocol.proofs.laws.outputs_are_compared.Goals as goal

options : (a b : Option ℕ) → Decides (option_eq nat_eq a b) (a ≡ b)
options None None = (λ _. refl, λ _. refl)
options (Some x) (Some y) = Decides-like (nat_eq x y) (ap Some) (λ e. cc) (Decides-eqb x y)
options _ _ = (λ e. cc, λ e. cc)

-- ---- samples

sample_states : (a b : SampleState) → Decides (of_sample_states.ghosts.eq a b) (a ≡ b)
sample_states a b = search rules

view_states : (a b : ViewState) → Decides (of_view_states.ghosts.eq a b) (a ≡ b)
view_states a b = search rules

instance_states : (a b : InstanceState) → Decides (of_instance_states.ghosts.eq a b) (a ≡ b)
instance_states a b = search rules

infos : (a b : SampleInfo) → Decides (of_infos.ghosts.eq a b) (a ≡ b)
infos a b =
    let all =
    Decides-and _ _ (sample_states a.sample_state b.sample_state)
    (Decides-and _ _ (view_states a.view_state b.view_state)
    (Decides-and _ _ (instance_states a.instance_state b.instance_state)
    (Decides-and _ _ (Decides-eqb a.disposed_generation_count b.disposed_generation_count)
    (Decides-and _ _ (Decides-eqb a.no_writers_generation_count b.no_writers_generation_count)
    (Decides-and _ _ (Decides-eqb a.sample_rank b.sample_rank)
    (Decides-and _ _ (Decides-eqb a.generation_rank b.generation_rank)
    (Decides-and _ _ (Decides-eqb a.absolute_generation_rank b.absolute_generation_rank)
    (Decides-and _ _ (Decides-eqb a.source_timestamp b.source_timestamp)
    (Decides-and _ _ (Decides-eqb a.instance_handle b.instance_handle)
    (Decides-and _ _ (Decides-eqb a.publication_handle b.publication_handle)
    (booleans_Decides a.valid_data b.valid_data))))))))))) in
    Decides-like (of_infos.ghosts.eq a b)
    (λ h i. record {
      sample_state = h.0 i;
      view_state = h.1.0 i;
      instance_state = h.1.1.0 i;
      disposed_generation_count = h.1.1.1.0 i;
      no_writers_generation_count = h.1.1.1.1.0 i;
      sample_rank = h.1.1.1.1.1.0 i;
      generation_rank = h.1.1.1.1.1.1.0 i;
      absolute_generation_rank = h.1.1.1.1.1.1.1.0 i;
      source_timestamp = h.1.1.1.1.1.1.1.1.0 i;
      instance_handle = h.1.1.1.1.1.1.1.1.1.0 i;
      publication_handle = h.1.1.1.1.1.1.1.1.1.1.0 i;
      valid_data = h.1.1.1.1.1.1.1.1.1.1.1 i;
    })
    (λ e. (cc, (cc, (cc, (cc, (cc, (cc, (cc, (cc, (cc, (cc, (cc, cc)))))))))))) all

samples : (a b : Sample) → Decides (of_samples.ghosts.eq a b) (a ≡ b)
samples a b =
    let all =
    Decides-and _ _ (keys a.key b.key) (Decides-and _ _ (lists Decides-eqb a.value b.value) (infos a.info b.info))
    in
    Decides-like (of_samples.ghosts.eq a b) (λ h i. record { key = h.0 i; value = h.1.0 i; info = h.1.1 i })
    (λ e. (cc, (cc, cc))) all

-- ---- reports

runs : (a b : PassedRun) → Decides (of_runs.ghosts.eq a b) (a ≡ b)
runs a b = search rules

moves : (a b : Move) → Decides (of_moves.ghosts.eq a b) (a ≡ b)
moves = of_variants enum_of_moves _
    (more endpoints (more Decides-eqb (more Decides-eqb (last (lists runs))))  -- Place
    ⨾ more endpoints (last Decides-eqb)  -- Heard
    ⨾ more endpoints (more Decides-eqb (more Decides-eqb (last Decides-eqb)))  -- Begun
    ⨾ more Decides-eqb (more endpoints (last Decides-eqb))  -- Acknowledged
    ⨾ more Decides-eqb (last endpoints)  -- Strange
    ⨾ tt)

reports : (a b : Report) → Decides (of_reports.ghosts.eq a b) (a ≡ b)
reports a b =
    let all = Decides-and _ _ (lists moves a.moves b.moves) (options a.refused b.refused) in
    Decides-like (of_reports.ghosts.eq a b) (λ h i. record { moves = h.0 i; refused = h.1 i }) (λ e. (cc, cc)) all

-- ---- outputs

liveliness_statuses : (a b : LivelinessChangedStatus) → Decides (of_statuses.ghosts.eq a b) (a ≡ b)
liveliness_statuses a b =
    let all =
    Decides-and _ _ (Decides-int_eq a.alive_count b.alive_count)
    (Decides-and _ _ (Decides-int_eq a.not_alive_count b.not_alive_count)
    (Decides-and _ _ (Decides-int_eq a.alive_count_change b.alive_count_change)
    (Decides-and _ _ (Decides-int_eq a.not_alive_count_change b.not_alive_count_change)
    (Decides-eqb a.last_publication_handle b.last_publication_handle)))) in
    Decides-like (of_statuses.ghosts.eq a b)
    (λ h i. record {
      alive_count = h.0 i;
      not_alive_count = h.1.0 i;
      alive_count_change = h.1.1.0 i;
      not_alive_count_change = h.1.1.1.0 i;
      last_publication_handle = h.1.1.1.1 i;
    })
    (λ e. (cc, (cc, (cc, (cc, cc))))) all

sample_lost_statuses : (a b : SampleLostStatus) → Decides (of_sample_lost.ghosts.eq a b) (a ≡ b)
sample_lost_statuses a b = search rules

liveliness_lost_statuses : (a b : LivelinessLostStatus) → Decides (of_liveliness_lost.ghosts.eq a b) (a ≡ b)
liveliness_lost_statuses a b = search rules

ends : (a b : Option Endpoint) → Decides (option_eq of_endpoints.ghosts.eq a b) (a ≡ b)
ends None None = (λ _. refl, λ _. refl)
ends (Some x) (Some y) = Decides-like (of_endpoints.ghosts.eq x y) (ap Some) (λ e. cc) (endpoints x y)
ends _ _ = (λ e. cc, λ e. cc)

matched_statuses : (a b : MatchedStatus) → Decides (of_matched.ghosts.eq a b) (a ≡ b)
matched_statuses a b =
    let all =
    Decides-and _ _ (Decides-eqb a.total_count b.total_count)
    (Decides-and _ _ (Decides-eqb a.total_count_change b.total_count_change)
    (Decides-and _ _ (Decides-int_eq a.current_count b.current_count)
    (Decides-and _ _ (Decides-int_eq a.current_count_change b.current_count_change) (ends a.last b.last)))) in
    Decides-like (of_matched.ghosts.eq a b)
    (λ h i. record {
      total_count = h.0 i;
      total_count_change = h.1.0 i;
      current_count = h.1.1.0 i;
      current_count_change = h.1.1.1.0 i;
      last = h.1.1.1.1 i;
    })
    (λ e. (cc, (cc, (cc, (cc, cc))))) all

codes : (a b : Code) → Decides (of_codes.ghosts.eq a b) (a ≡ b)
codes a b = search rules

replies : (a b : Reply) → Decides (of_replies.ghosts.eq a b) (a ≡ b)
replies = of_variants enum_of_replies _
    (bare  -- Done
    ⨾ last (lists samples)  -- Samples
    ⨾ last keys  -- KeyValue
    ⨾ last Decides-eqb  -- InstanceHandle
    ⨾ last sample_lost_statuses  -- SampleLost
    ⨾ last liveliness_statuses  -- LivelinessChanged
    ⨾ last liveliness_lost_statuses  -- LivelinessLost
    ⨾ last matched_statuses  -- Matched
    ⨾ last Decides-eqb  -- Created
    ⨾ last booleans_Decides  -- TriggerValue
    ⨾ last (lists conds)  -- Conditions
    ⨾ last (lists conds)  -- Active
    ⨾ bare  -- Waiting
    ⨾ last status_masks  -- StatusChanges
    ⨾ last reports  -- Reported
    ⨾ last codes  -- Refused
    ⨾ tt)

packets : (a b : Packet) → Decides (of_packets.ghosts.eq a b) (a ≡ b)
packets a b = search rules

outputs : (a b : Output) → Decides (of_outputs.ghosts.eq a b) (a ≡ b)
outputs a b =
    let all =
    Decides-and _ _ (replies a.reply b.reply)
    (Decides-and _ _ (lists packets a.packets b.packets) (Decides-eqb a.unsent b.unsent)) in
    Decides-like (of_outputs.ghosts.eq a b) (λ h i. record { reply = h.0 i; packets = h.1.0 i; unsent = h.1.1 i })
    (λ e. (cc, (cc, cc))) all

pub returns : goal.returns
returns c =
    record {
      equal = Decides-at c.eq.result (of_outputs.ghosts.eq c.args.output.now c.args.other.now) c.eq.ensures
          (outputs c.args.output.now c.args.other.now);
    }
