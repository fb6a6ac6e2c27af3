use Rattle.dds_ends.proofs.SeenStatuses.{sees_data, sees_lost, sees_matches, sees_turn}
use Rattle.dds_ends.proofs.reader_end.ReaderEnd.see.Goals as goal

pub returns-in-SampleLost-clause-sees : goal.returns-in-SampleLost-clause-sees
returns-in-SampleLost-clause-sees c =
    sees_lost c.args.self.now c.get_sample_lost.new.self c.args.status.now c.in-SampleLost.field-0
    c.get_sample_lost.result c.get_sample_lost.new.self.seen c.in-SampleLost.is
    c.get_sample_lost.ensures.status c.get_sample_lost.ensures.seen

pub returns-in-DataAvailable-clause-sees : goal.returns-in-DataAvailable-clause-sees
returns-in-DataAvailable-clause-sees c =
    sees_data c.args.self.now c.see_data.new.self c.args.status.now c.see_data.new.self.seen.entries_at_data
    c.in-DataAvailable.is
    c.see_data.ensures.at c.see_data.ensures.seen

pub returns-in-LivelinessChanged-clause-sees : goal.returns-in-LivelinessChanged-clause-sees
returns-in-LivelinessChanged-clause-sees c =
    sees_turn c.args.self.now c.get_liveliness_changed.new.self c.args.status.now c.in-LivelinessChanged.field-0
    c.get_liveliness_changed.result
    c.get_liveliness_changed.new.self.seen c.in-LivelinessChanged.is c.get_liveliness_changed.ensures.status
    c.get_liveliness_changed.ensures.seen

pub returns-in-SubscriptionMatched-clause-sees : goal.returns-in-SubscriptionMatched-clause-sees
returns-in-SubscriptionMatched-clause-sees c =
    sees_matches c.args.self.now c.get_subscription_matched.new.self c.args.status.now c.in-SubscriptionMatched.field-0
    c.in-SubscriptionMatched.is c.get_subscription_matched.ensures.seen
