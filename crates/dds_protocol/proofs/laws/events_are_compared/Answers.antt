-- Each part of an event is compared by a test that decides whether the two are the same.
use Rattle.std.proofs.Common.{◌≡◌, rules}
use Rattle.std.specs.Bool.{Decides}
use Rattle.std.specs.Cmp.{booleans_Decides}
use Rattle.std.proofs.lemmas.Bool.Decides.{Decides-at, Decides-eqb, Decides-int_eq}
use Rattle.dds_base.specs.contracts.mask.MasksPartialEq.TheImpl as of_masks
use Rattle.dds_base.specs.contracts.selection.Scope.{enum as enum_of_scopes}
use Rattle.dds_base.specs.contracts.selection.ScopePartialEq.TheImpl as of_scopes
use Rattle.dds_base.specs.contracts.selection.Selection.{enum as enum_of_selections}
use Rattle.dds_base.specs.contracts.selection.SelectionPartialEq.TheImpl as of_selections
use Rattle.dds_base.specs.declared.mask.Masks.{Masks}
use Rattle.dds_base.specs.declared.selection.Scope.{Scope}
use Rattle.dds_base.specs.declared.selection.Selection.{Selection}
use Rattle.dds_machine.specs.contracts.call.Call.{enum as enum_of_calls}
use Rattle.dds_machine.specs.contracts.call.CallPartialEq.TheImpl as of_calls
use Rattle.dds_protocol.specs.contracts.event.Event.{enum as enum_of_events}
use Rattle.dds_protocol.specs.contracts.event.EventPartialEq.TheImpl as of_events
use Rattle.dds_machine.specs.declared.call.Call.{Call}
use Rattle.dds_protocol.specs.declared.event.Event.{Event}
use Rattle.dds_protocol.proofs.Compared.{of_variants, ◌⨾◌, bare, last, more, lists, keys, endpoints, entities, conds, status_masks}
use Rattle.dds_protocol.proofs.FarCompared.{far_readers, far_writers}
use Rattle.dds_protocol.proofs.laws.events_are_compared.Goals as goal

masks : (a b : Masks) → Decides (of_masks.ghosts.eq a b) (a ≡ b)
masks a b = search rules

selections : (a b : Selection) → Decides (of_selections.ghosts.eq a b) (a ≡ b)
selections = of_variants enum_of_selections _
    (more Decides-int_eq (last masks)  -- Any
    ⨾ more Decides-eqb (more Decides-int_eq (last masks))  -- Instance
    ⨾ more Decides-eqb (more Decides-int_eq (last masks))  -- NextInstance
    ⨾ bare  -- NextSample
    ⨾ tt)

scopes : (a b : Scope) → Decides (of_scopes.ghosts.eq a b) (a ≡ b)
scopes = of_variants enum_of_scopes _ (last Decides-int_eq ⨾ more Decides-eqb (last Decides-int_eq) ⨾ tt)

calls : (a b : Call) → Decides (of_calls.ghosts.eq a b) (a ≡ b)
calls = of_variants enum_of_calls _
    (more Decides-eqb (last keys)  -- Register
    ⨾ more Decides-eqb (more keys (last (lists Decides-eqb)))  -- Write
    ⨾ more Decides-eqb (last keys)  -- Dispose
    ⨾ more Decides-eqb (last keys)  -- Unregister
    ⨾ last Decides-eqb  -- AssertLiveliness
    ⨾ more Decides-eqb (last Decides-int_eq)  -- SetStrength
    ⨾ more Decides-eqb (last selections)  -- Read
    ⨾ more Decides-eqb (last selections)  -- Take
    ⨾ more Decides-eqb (last Decides-eqb)  -- GetKeyValue
    ⨾ more Decides-eqb (last keys)  -- LookupInstance
    ⨾ last Decides-eqb  -- GetSampleLost
    ⨾ last Decides-eqb  -- GetLivelinessChanged
    ⨾ last Decides-eqb  -- GetLivelinessLost
    ⨾ more Decides-eqb (more scopes (last Decides-eqb))  -- ReadByCondition
    ⨾ more Decides-eqb (more scopes (last Decides-eqb))  -- TakeByCondition
    ⨾ more Decides-eqb (last masks)  -- CreateReadCondition
    ⨾ more Decides-eqb (more masks (last Decides-eqb))  -- CreateQueryCondition
    ⨾ bare  -- CreateGuardCondition
    ⨾ more Decides-eqb (last booleans_Decides)  -- SetTriggerValue
    ⨾ last Decides-eqb  -- DeleteCondition
    ⨾ last conds  -- GetTriggerValue
    ⨾ bare  -- CreateWaitSet
    ⨾ last Decides-eqb  -- DeleteWaitSet
    ⨾ more Decides-eqb (last conds)  -- AttachCondition
    ⨾ more Decides-eqb (last conds)  -- DetachCondition
    ⨾ last Decides-eqb  -- GetConditions
    ⨾ more Decides-eqb (last Decides-eqb)  -- WaitBegin
    ⨾ last Decides-eqb  -- WaitLook
    ⨾ last Decides-eqb  -- WaitEnd
    ⨾ more entities (last status_masks)  -- SetEnabledStatuses
    ⨾ last entities  -- GetStatusChanges
    ⨾ more Decides-eqb (more endpoints (last booleans_Decides))  -- MatchReader
    ⨾ more Decides-eqb (last endpoints)  -- UnmatchReader
    ⨾ more Decides-eqb (last endpoints)  -- MatchWriter
    ⨾ more Decides-eqb (last endpoints)  -- UnmatchWriter
    ⨾ last Decides-eqb  -- GetPublicationMatched
    ⨾ last Decides-eqb  -- GetSubscriptionMatched
    ⨾ more Decides-eqb (more far_readers (last booleans_Decides))  -- MeetReader
    ⨾ more Decides-eqb (last far_writers)  -- MeetWriter
    ⨾ tt)

events : (a b : Event) → Decides (of_events.ghosts.eq a b) (a ≡ b)
events = of_variants enum_of_events _ (last calls ⨾ last Decides-eqb ⨾ last (lists Decides-eqb) ⨾ last Decides-eqb ⨾ tt)

pub returns : goal.returns
returns c =
    record {
      equal = Decides-at c.eq.result (of_events.ghosts.eq c.args.event.now c.args.other.now) c.eq.ensures
          (events c.args.event.now c.args.other.now);
    }
