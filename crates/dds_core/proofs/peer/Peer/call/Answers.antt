use mir.Val.{SFits}
use Rattle.std.proofs.Common.{refl, rules, subst}
use Rattle.std.specs.Prelude.{ℤ}
use Rattle.std.specs.Int.{w32}
use Rattle.std.proofs.lemmas.Int.{to_z-of_z}
use Rattle.dds_machine.specs.declared.call.Call.TheVariants as call
use Rattle.dds_protocol.specs.declared.event.Event.TheVariants as event
use Rattle.dds_core.specs.Stepping.{Steps}
use Rattle.dds_core.proofs.AnyTests.{called, called_to_meet, meets_none, plainly_called}
use Rattle.dds_core.proofs.Twice.{plain_twin}
use Rattle.dds_core.proofs.peer.Peer.call.Goals as goal

pub returns-in-Register-clause-step : goal.returns-in-Register-clause-step
returns-in-Register-clause-step g c = plainly_called _ _ _ _ _ _ c.in-Register.is c.register.ensures.step refl tt

pub returns-in-Write-clause-step : goal.returns-in-Write-clause-step
returns-in-Write-clause-step g c = plainly_called _ _ _ _ _ _ c.in-Write.is c.write.ensures.step refl tt

pub returns-in-Dispose-clause-step : goal.returns-in-Dispose-clause-step
returns-in-Dispose-clause-step g c = plainly_called _ _ _ _ _ _ c.in-Dispose.is c.dispose.ensures.step refl tt

pub returns-in-Unregister-clause-step : goal.returns-in-Unregister-clause-step
returns-in-Unregister-clause-step g c = plainly_called _ _ _ _ _ _ c.in-Unregister.is c.unregister.ensures.step refl tt

pub returns-in-AssertLiveliness-clause-step : goal.returns-in-AssertLiveliness-clause-step
returns-in-AssertLiveliness-clause-step g c =
    plainly_called _ _ _ _ _ _ c.in-AssertLiveliness.is c.assert_liveliness.ensures.step refl tt

pub returns-in-SetStrength-clause-step : goal.returns-in-SetStrength-clause-step
returns-in-SetStrength-clause-step g c =
    let fits : SFits w32 c.in-SetStrength.strength = search rules in
    plainly_called _ _ _ _ _ _ c.in-SetStrength.is
    (subst (λ (z : ℤ). Steps c.args.self.now (event.Call (call.SetStrength c.in-SetStrength.writer z))
    c.set_strength.result c.set_strength.new.self) (to_z-of_z w32 c.in-SetStrength.strength fits)
    c.set_strength.ensures.step) refl tt

pub returns-in-Read-clause-step : goal.returns-in-Read-clause-step
returns-in-Read-clause-step g c = plainly_called _ _ _ _ _ _ c.in-Read.is c.access.ensures.step refl tt

pub returns-in-Take-clause-step : goal.returns-in-Take-clause-step
returns-in-Take-clause-step g c = plainly_called _ _ _ _ _ _ c.in-Take.is c.access-in-Take.ensures.step refl tt

pub returns-in-GetKeyValue-clause-step : goal.returns-in-GetKeyValue-clause-step
returns-in-GetKeyValue-clause-step g c =
    plainly_called _ _ _ _ _ _ c.in-GetKeyValue.is c.get_key_value.ensures.step refl tt

pub returns-in-LookupInstance-clause-step : goal.returns-in-LookupInstance-clause-step
returns-in-LookupInstance-clause-step g c =
    plainly_called _ _ _ _ _ _ c.in-LookupInstance.is c.lookup_instance.ensures.step refl tt

pub returns-in-GetSampleLost-clause-step : goal.returns-in-GetSampleLost-clause-step
returns-in-GetSampleLost-clause-step g c =
    plainly_called _ _ _ _ _ _ c.in-GetSampleLost.is c.get_sample_lost.ensures.step refl tt

pub returns-in-GetLivelinessChanged-clause-step : goal.returns-in-GetLivelinessChanged-clause-step
returns-in-GetLivelinessChanged-clause-step g c =
    plainly_called _ _ _ _ _ _ c.in-GetLivelinessChanged.is c.get_liveliness_changed.ensures.step refl tt

pub returns-in-GetLivelinessLost-clause-step : goal.returns-in-GetLivelinessLost-clause-step
returns-in-GetLivelinessLost-clause-step g c =
    plainly_called _ _ _ _ _ _ c.in-GetLivelinessLost.is c.get_liveliness_lost.ensures.step refl tt

pub returns-in-ReadByCondition-clause-step : goal.returns-in-ReadByCondition-clause-step
returns-in-ReadByCondition-clause-step g c =
    called _ _ _ _ _ _ c.in-ReadByCondition.is (meets_none _ _ _ _ _ c.access_by_condition.ensures.step tt)

pub returns-in-TakeByCondition-clause-step : goal.returns-in-TakeByCondition-clause-step
returns-in-TakeByCondition-clause-step g c =
    called _ _ _ _ _ _ c.in-TakeByCondition.is (meets_none _ _ _ _ _ c.access_by_condition-in-TakeByCondition.ensures.step tt)

pub returns-in-CreateReadCondition-clause-step : goal.returns-in-CreateReadCondition-clause-step
returns-in-CreateReadCondition-clause-step g c =
    plainly_called _ _ _ _ _ _ c.in-CreateReadCondition.is c.create_read_condition.ensures.step refl tt

pub returns-in-CreateQueryCondition-clause-step : goal.returns-in-CreateQueryCondition-clause-step
returns-in-CreateQueryCondition-clause-step g c =
    plainly_called _ _ _ _ _ _ c.in-CreateQueryCondition.is c.create_query_condition.ensures.step refl tt

pub returns-in-CreateGuardCondition-clause-step : goal.returns-in-CreateGuardCondition-clause-step
returns-in-CreateGuardCondition-clause-step g c =
    plainly_called _ _ _ _ _ _ c.in-CreateGuardCondition.is c.create_guard_condition.ensures.step refl tt

pub returns-in-SetTriggerValue-clause-step : goal.returns-in-SetTriggerValue-clause-step
returns-in-SetTriggerValue-clause-step g c =
    plainly_called _ _ _ _ _ _ c.in-SetTriggerValue.is c.set_trigger_value.ensures.step refl tt

pub returns-in-DeleteCondition-clause-step : goal.returns-in-DeleteCondition-clause-step
returns-in-DeleteCondition-clause-step g c =
    plainly_called _ _ _ _ _ _ c.in-DeleteCondition.is c.delete_condition.ensures.step refl tt

pub returns-in-GetTriggerValue-clause-step : goal.returns-in-GetTriggerValue-clause-step
returns-in-GetTriggerValue-clause-step g c = called _ _ _ _ _ _ c.in-GetTriggerValue.is (meets_none _ _ _ _ _ c.get_trigger_value.ensures.step tt)

pub returns-in-CreateWaitSet-clause-step : goal.returns-in-CreateWaitSet-clause-step
returns-in-CreateWaitSet-clause-step g c =
    plainly_called _ _ _ _ _ _ c.in-CreateWaitSet.is c.create_wait_set.ensures.step refl tt

pub returns-in-DeleteWaitSet-clause-step : goal.returns-in-DeleteWaitSet-clause-step
returns-in-DeleteWaitSet-clause-step g c =
    plainly_called _ _ _ _ _ _ c.in-DeleteWaitSet.is c.delete_wait_set.ensures.step refl tt

pub returns-in-AttachCondition-clause-step : goal.returns-in-AttachCondition-clause-step
returns-in-AttachCondition-clause-step g c =
    plainly_called _ _ _ _ _ _ c.in-AttachCondition.is c.attach_condition.ensures.step refl tt

pub returns-in-DetachCondition-clause-step : goal.returns-in-DetachCondition-clause-step
returns-in-DetachCondition-clause-step g c =
    plainly_called _ _ _ _ _ _ c.in-DetachCondition.is c.detach_condition.ensures.step refl tt

pub returns-in-GetConditions-clause-step : goal.returns-in-GetConditions-clause-step
returns-in-GetConditions-clause-step g c =
    plainly_called _ _ _ _ _ _ c.in-GetConditions.is c.get_conditions.ensures.step refl tt

pub returns-in-WaitBegin-clause-step : goal.returns-in-WaitBegin-clause-step
returns-in-WaitBegin-clause-step g c = plainly_called _ _ _ _ _ _ c.in-WaitBegin.is c.wait_begin.ensures.step refl tt

pub returns-in-WaitLook-clause-step : goal.returns-in-WaitLook-clause-step
returns-in-WaitLook-clause-step g c = called _ _ _ _ _ _ c.in-WaitLook.is (meets_none _ _ _ _ _ c.wait_look.ensures.step tt)

pub returns-in-WaitEnd-clause-step : goal.returns-in-WaitEnd-clause-step
returns-in-WaitEnd-clause-step g c = plainly_called _ _ _ _ _ _ c.in-WaitEnd.is c.wait_end.ensures.step refl tt

pub returns-in-SetEnabledStatuses-clause-step : goal.returns-in-SetEnabledStatuses-clause-step
returns-in-SetEnabledStatuses-clause-step g c =
    plainly_called _ _ _ _ _ _ c.in-SetEnabledStatuses.is c.set_enabled_statuses.ensures.step refl tt

pub returns-in-GetStatusChanges-clause-step : goal.returns-in-GetStatusChanges-clause-step
returns-in-GetStatusChanges-clause-step g c =
    plainly_called _ _ _ _ _ _ c.in-GetStatusChanges.is c.get_status_changes.ensures.step refl tt

pub returns-in-MatchReader-clause-step : goal.returns-in-MatchReader-clause-step
returns-in-MatchReader-clause-step g c = plainly_called _ _ _ _ _ _ c.in-MatchReader.is c.match_reader.ensures.step refl tt

pub returns-in-UnmatchReader-clause-step : goal.returns-in-UnmatchReader-clause-step
returns-in-UnmatchReader-clause-step g c = plainly_called _ _ _ _ _ _ c.in-UnmatchReader.is c.unmatch_reader.ensures.step refl tt

pub returns-in-MatchWriter-clause-step : goal.returns-in-MatchWriter-clause-step
returns-in-MatchWriter-clause-step g c = plainly_called _ _ _ _ _ _ c.in-MatchWriter.is c.match_writer.ensures.step refl tt

pub returns-in-UnmatchWriter-clause-step : goal.returns-in-UnmatchWriter-clause-step
returns-in-UnmatchWriter-clause-step g c = plainly_called _ _ _ _ _ _ c.in-UnmatchWriter.is c.unmatch_writer.ensures.step refl tt

pub returns-in-GetPublicationMatched-clause-step : goal.returns-in-GetPublicationMatched-clause-step
returns-in-GetPublicationMatched-clause-step g c = plainly_called _ _ _ _ _ _ c.in-GetPublicationMatched.is c.get_publication_matched.ensures.step refl tt

pub returns-in-GetSubscriptionMatched-clause-step : goal.returns-in-GetSubscriptionMatched-clause-step
returns-in-GetSubscriptionMatched-clause-step g c = plainly_called _ _ _ _ _ _ c.in-GetSubscriptionMatched.is c.get_subscription_matched.ensures.step refl tt

pub returns-in-MeetReader-clause-step : goal.returns-in-MeetReader-clause-step
returns-in-MeetReader-clause-step g c = called_to_meet _ _ _ _ _ _ c.in-MeetReader.is c.meet_reader.ensures.step refl

pub returns-in-MeetWriter-clause-step : goal.returns-in-MeetWriter-clause-step
returns-in-MeetWriter-clause-step g c = called_to_meet _ _ _ _ _ _ c.in-MeetWriter.is c.meet_writer.ensures.step refl

pub returns-in-Register-clause-twin : goal.returns-in-Register-clause-twin
returns-in-Register-clause-twin g c = plain_twin c.args.twin.now c.register.result.reply c.register.ensures.plain

pub returns-in-Write-clause-twin : goal.returns-in-Write-clause-twin
returns-in-Write-clause-twin g c = plain_twin c.args.twin.now c.write.result.reply c.write.ensures.plain

pub returns-in-Dispose-clause-twin : goal.returns-in-Dispose-clause-twin
returns-in-Dispose-clause-twin g c = plain_twin c.args.twin.now c.dispose.result.reply c.dispose.ensures.plain

pub returns-in-Unregister-clause-twin : goal.returns-in-Unregister-clause-twin
returns-in-Unregister-clause-twin g c = plain_twin c.args.twin.now c.unregister.result.reply c.unregister.ensures.plain

pub returns-in-AssertLiveliness-clause-twin : goal.returns-in-AssertLiveliness-clause-twin
returns-in-AssertLiveliness-clause-twin g c = plain_twin c.args.twin.now c.assert_liveliness.result.reply c.assert_liveliness.ensures.plain

pub returns-in-SetStrength-clause-twin : goal.returns-in-SetStrength-clause-twin
returns-in-SetStrength-clause-twin g c = plain_twin c.args.twin.now c.set_strength.result.reply c.set_strength.ensures.plain

pub returns-in-GetKeyValue-clause-twin : goal.returns-in-GetKeyValue-clause-twin
returns-in-GetKeyValue-clause-twin g c = plain_twin c.args.twin.now c.get_key_value.result.reply c.get_key_value.ensures.plain

pub returns-in-LookupInstance-clause-twin : goal.returns-in-LookupInstance-clause-twin
returns-in-LookupInstance-clause-twin g c = plain_twin c.args.twin.now c.lookup_instance.result.reply c.lookup_instance.ensures.plain

pub returns-in-GetSampleLost-clause-twin : goal.returns-in-GetSampleLost-clause-twin
returns-in-GetSampleLost-clause-twin g c = plain_twin c.args.twin.now c.get_sample_lost.result.reply c.get_sample_lost.ensures.plain

pub returns-in-GetLivelinessChanged-clause-twin : goal.returns-in-GetLivelinessChanged-clause-twin
returns-in-GetLivelinessChanged-clause-twin g c = plain_twin c.args.twin.now c.get_liveliness_changed.result.reply c.get_liveliness_changed.ensures.plain

pub returns-in-GetLivelinessLost-clause-twin : goal.returns-in-GetLivelinessLost-clause-twin
returns-in-GetLivelinessLost-clause-twin g c = plain_twin c.args.twin.now c.get_liveliness_lost.result.reply c.get_liveliness_lost.ensures.plain

pub returns-in-CreateReadCondition-clause-twin : goal.returns-in-CreateReadCondition-clause-twin
returns-in-CreateReadCondition-clause-twin g c = plain_twin c.args.twin.now c.create_read_condition.result.reply c.create_read_condition.ensures.plain

pub returns-in-CreateQueryCondition-clause-twin : goal.returns-in-CreateQueryCondition-clause-twin
returns-in-CreateQueryCondition-clause-twin g c = plain_twin c.args.twin.now c.create_query_condition.result.reply c.create_query_condition.ensures.plain

pub returns-in-CreateGuardCondition-clause-twin : goal.returns-in-CreateGuardCondition-clause-twin
returns-in-CreateGuardCondition-clause-twin g c = plain_twin c.args.twin.now c.create_guard_condition.result.reply c.create_guard_condition.ensures.plain

pub returns-in-SetTriggerValue-clause-twin : goal.returns-in-SetTriggerValue-clause-twin
returns-in-SetTriggerValue-clause-twin g c = plain_twin c.args.twin.now c.set_trigger_value.result.reply c.set_trigger_value.ensures.plain

pub returns-in-DeleteCondition-clause-twin : goal.returns-in-DeleteCondition-clause-twin
returns-in-DeleteCondition-clause-twin g c = plain_twin c.args.twin.now c.delete_condition.result.reply c.delete_condition.ensures.plain

pub returns-in-GetTriggerValue-clause-twin : goal.returns-in-GetTriggerValue-clause-twin
returns-in-GetTriggerValue-clause-twin g c = plain_twin c.args.twin.now c.get_trigger_value.result.reply c.get_trigger_value.ensures.plain

pub returns-in-CreateWaitSet-clause-twin : goal.returns-in-CreateWaitSet-clause-twin
returns-in-CreateWaitSet-clause-twin g c = plain_twin c.args.twin.now c.create_wait_set.result.reply c.create_wait_set.ensures.plain

pub returns-in-DeleteWaitSet-clause-twin : goal.returns-in-DeleteWaitSet-clause-twin
returns-in-DeleteWaitSet-clause-twin g c = plain_twin c.args.twin.now c.delete_wait_set.result.reply c.delete_wait_set.ensures.plain

pub returns-in-AttachCondition-clause-twin : goal.returns-in-AttachCondition-clause-twin
returns-in-AttachCondition-clause-twin g c = plain_twin c.args.twin.now c.attach_condition.result.reply c.attach_condition.ensures.plain

pub returns-in-DetachCondition-clause-twin : goal.returns-in-DetachCondition-clause-twin
returns-in-DetachCondition-clause-twin g c = plain_twin c.args.twin.now c.detach_condition.result.reply c.detach_condition.ensures.plain

pub returns-in-WaitBegin-clause-twin : goal.returns-in-WaitBegin-clause-twin
returns-in-WaitBegin-clause-twin g c = plain_twin c.args.twin.now c.wait_begin.result.reply c.wait_begin.ensures.plain

pub returns-in-WaitEnd-clause-twin : goal.returns-in-WaitEnd-clause-twin
returns-in-WaitEnd-clause-twin g c = plain_twin c.args.twin.now c.wait_end.result.reply c.wait_end.ensures.plain

pub returns-in-SetEnabledStatuses-clause-twin : goal.returns-in-SetEnabledStatuses-clause-twin
returns-in-SetEnabledStatuses-clause-twin g c = plain_twin c.args.twin.now c.set_enabled_statuses.result.reply c.set_enabled_statuses.ensures.plain

pub returns-in-GetStatusChanges-clause-twin : goal.returns-in-GetStatusChanges-clause-twin
returns-in-GetStatusChanges-clause-twin g c = plain_twin c.args.twin.now c.get_status_changes.result.reply c.get_status_changes.ensures.plain

pub returns-in-MatchReader-clause-twin : goal.returns-in-MatchReader-clause-twin
returns-in-MatchReader-clause-twin g c = plain_twin c.args.twin.now c.match_reader.result.reply c.match_reader.ensures.plain

pub returns-in-UnmatchReader-clause-twin : goal.returns-in-UnmatchReader-clause-twin
returns-in-UnmatchReader-clause-twin g c = plain_twin c.args.twin.now c.unmatch_reader.result.reply c.unmatch_reader.ensures.plain

pub returns-in-MatchWriter-clause-twin : goal.returns-in-MatchWriter-clause-twin
returns-in-MatchWriter-clause-twin g c = plain_twin c.args.twin.now c.match_writer.result.reply c.match_writer.ensures.plain

pub returns-in-UnmatchWriter-clause-twin : goal.returns-in-UnmatchWriter-clause-twin
returns-in-UnmatchWriter-clause-twin g c = plain_twin c.args.twin.now c.unmatch_writer.result.reply c.unmatch_writer.ensures.plain

pub returns-in-GetPublicationMatched-clause-twin : goal.returns-in-GetPublicationMatched-clause-twin
returns-in-GetPublicationMatched-clause-twin g c = plain_twin c.args.twin.now c.get_publication_matched.result.reply c.get_publication_matched.ensures.plain

pub returns-in-GetSubscriptionMatched-clause-twin : goal.returns-in-GetSubscriptionMatched-clause-twin
returns-in-GetSubscriptionMatched-clause-twin g c = plain_twin c.args.twin.now c.get_subscription_matched.result.reply c.get_subscription_matched.ensures.plain

pub returns-in-MeetReader-clause-twin : goal.returns-in-MeetReader-clause-twin
returns-in-MeetReader-clause-twin g c = plain_twin c.args.twin.now c.meet_reader.result.reply c.meet_reader.ensures.plain

pub returns-in-MeetWriter-clause-twin : goal.returns-in-MeetWriter-clause-twin
returns-in-MeetWriter-clause-twin g c = plain_twin c.args.twin.now c.meet_writer.result.reply c.meet_writer.ensures.plain
