-- What the definitions of liveliness give on small lists of what happened, computed.
use Rattle.std.proofs.Common.{◌≡◌, ℕ, [], ◌∷◌, false, refl, Some, None, Option}
use Rattle.std.specs.Prelude.{ℤ, pos, negsuc}
use Rattle.dds_base.specs.declared.change.Change.{Change}
use Rattle.dds_base.specs.declared.change.ChangeKind.TheVariants.{Write}
use Rattle.dds_base.specs.declared.happening.Happening.{Happening}
use Rattle.dds_base.specs.declared.happening.Happening.TheVariants.{Came, Heard, Died, Left, Joined, Looked}
use Rattle.dds_base.specs.declared.happening.StatusKind.TheVariants.{LivelinessChanged}
use Rattle.dds_base.specs.declared.qos.ReaderQos.{ReaderQos}
use Rattle.dds_base.specs.declared.qos.MatchedWriter.{MatchedWriter}
use Rattle.dds_base.specs.declared.qos.OwnershipQos.TheVariants.{Shared}
use Rattle.dds_base.specs.declared.qos.ReliabilityQos.TheVariants.{Reliable}
use Rattle.dds_base.specs.declared.qos.HistoryQos.TheVariants.{KeepAll}
use Rattle.dds_base.specs.declared.status.LivelinessChangedStatus.{LivelinessChangedStatus}
use Rattle.dds_base.specs.Bounds.{usual_arrivals}
use Rattle.dds_base.specs.Liveliness.{dead_at, after_deaths, after_parting, liveliness_changed_status}
use Rattle.dds_base.specs.Written.{Changed, Asserted, LookedAt, Ticked, liveliness_lost_status}

abbrev leased : Option ℕ → MatchedWriter
leased lease = record {
  guid = record { prefix = record { 0 = 1 ∷ [] }; entity = record { 0 = 2 ∷ [] } };
  strength = pos 0;
  lease = lease;
}

-- two writers with a lease of 10, and one whose lease never ends
abbrev three : ReaderQos
three = record {
  ownership = Shared;
  reliability = Reliable;
  history = KeepAll;
  max_samples = None;
  max_instances = None;
  max_arrivals = usual_arrivals;
  writers = leased (Some 10) ∷ leased (Some 10) ∷ leased None ∷ [];
}

abbrev change : ℕ → Change
change moment =
    record { kind = Write; key = record { 0 = 1 ∷ [] }; value = []; source_timestamp = moment; strength = None }

-- the first change of a writer came at this moment, whichever its source timestamp is
abbrev came : ℕ → ℕ → Happening
came w moment = Came (record { writer = w; number = 1; change = change 0; moment = moment })

abbrev status : ℤ → ℤ → ℤ → ℤ → ℕ → LivelinessChangedStatus
status alive not_alive alive_change not_alive_change handle = record {
  alive_count = alive;
  not_alive_count = not_alive;
  alive_count_change = alive_change;
  not_alive_count_change = not_alive_change;
  last_publication_handle = handle;
}

-- a writer dies once its lease has passed since it was asserted, and not before
dead-before_its_end : dead_at three 11 (came 1 2 ∷ []) ≡ []
dead-before_its_end = refl

dead-at_its_end : dead_at three 12 (came 1 2 ∷ []) ≡ 1 ∷ []
dead-at_its_end = refl

dead-asserted_again : dead_at three 12 (Heard 1 3 ∷ came 1 2 ∷ []) ≡ []
dead-asserted_again = refl

-- one that was never asserted does not die, nor one that died, nor one whose lease never ends
dead-never_asserted : dead_at three 1000 [] ≡ []
dead-never_asserted = refl

dead-died : dead_at three 1000 (Died 1 12 ∷ came 1 2 ∷ []) ≡ []
dead-died = refl

dead-endless : dead_at three 1000 (Heard 3 0 ∷ []) ≡ []
dead-endless = refl

-- the deaths of one tick go by handle: the greatest is the newest
deaths-two : after_deaths three 20 (Heard 1 2 ∷ came 2 1 ∷ [])
    ≡ Died 2 20 ∷ Died 1 20 ∷ Heard 1 2 ∷ came 2 1 ∷ []
deaths-two = refl

-- LIVELINESS_CHANGED before anything happened, after a first change, and after the death of its writer
changed-nothing : liveliness_changed_status three [] 0 0 ≡ status (pos 0) (pos 0) (pos 0) (pos 0) 0
changed-nothing = refl

changed-came : liveliness_changed_status three (came 1 0 ∷ []) 0 0 ≡ status (pos 1) (pos 0) (pos 1) (pos 0) 1
changed-came = refl

changed-died : liveliness_changed_status three (Died 1 10 ∷ Looked LivelinessChanged ∷ came 1 0 ∷ []) 1 0
    ≡ status (pos 0) (pos 1) (negsuc 0) (pos 1) 1
changed-died = refl

-- a writer that is heard again after its death
changed-revived : liveliness_changed_status three (Heard 1 20 ∷ Died 1 10 ∷ came 1 0 ∷ []) 0 1
    ≡ status (pos 1) (pos 0) (pos 1) (negsuc 0) 1
changed-revived = refl

-- a death and a revival between two looks change neither count
changed-between : liveliness_changed_status three
    (Heard 1 20 ∷ Died 1 10 ∷ Looked LivelinessChanged ∷ came 1 0 ∷ []) 1 0
    ≡ status (pos 1) (pos 0) (pos 0) (pos 0) 1
changed-between = refl

-- an assertion of a writer that is alive changes no count, so the handle stays
changed-again : liveliness_changed_status three (came 1 3 ∷ Heard 2 2 ∷ came 1 1 ∷ []) 0 0
    ≡ status (pos 2) (pos 0) (pos 2) (pos 0) 2
changed-again = refl

-- a writer that leaves dies first where it is alive, and one that died or was never asserted only leaves
left-alive : after_parting 1 20 (came 1 0 ∷ []) ≡ Left 1 20 ∷ Died 1 20 ∷ came 1 0 ∷ []
left-alive = refl

left-dead : after_parting 1 20 (Died 1 10 ∷ came 1 0 ∷ []) ≡ Left 1 20 ∷ Died 1 10 ∷ came 1 0 ∷ []
left-dead = refl

left-never_asserted : after_parting 1 20 (came 2 0 ∷ []) ≡ Left 1 20 ∷ came 2 0 ∷ []
left-never_asserted = refl

-- then it is neither alive nor dead, and it is the one that changed a count, if it changed one
changed-left : liveliness_changed_status three (after_parting 1 20 (Looked LivelinessChanged ∷ came 1 0 ∷ [])) 1 0
    ≡ status (pos 0) (pos 0) (negsuc 0) (pos 0) 1
changed-left = refl

changed-dead_left : liveliness_changed_status three
    (after_parting 1 20 (Looked LivelinessChanged ∷ came 2 15 ∷ Died 1 10 ∷ came 1 0 ∷ [])) 1 1
    ≡ status (pos 1) (pos 0) (pos 0) (negsuc 0) 1
changed-dead_left = refl

changed-unheard_left : liveliness_changed_status three (after_parting 1 20 (came 2 0 ∷ [])) 0 0
    ≡ status (pos 1) (pos 0) (pos 1) (pos 0) 2
changed-unheard_left = refl

-- one that came again can die again, and no death of before counts
changed-left_and_heard : liveliness_changed_status three (Heard 1 30 ∷ Left 1 20 ∷ Died 1 10 ∷ came 1 0 ∷ []) 0 0
    ≡ status (pos 1) (pos 0) (pos 1) (pos 0) 1
changed-left_and_heard = refl

changed-died_again : liveliness_changed_status three
    (Died 1 40 ∷ Heard 1 30 ∷ Left 1 20 ∷ Died 1 10 ∷ came 1 0 ∷ []) 1 0
    ≡ status (pos 0) (pos 1) (negsuc 0) (pos 1) 1
changed-died_again = refl

-- it does not die again for the lease of before
dead-left : dead_at three 1000 (after_parting 1 20 (came 1 2 ∷ [])) ≡ []
dead-left = refl

-- a writer that joins is neither alive nor dead, and has the next handle, by which it comes and dies by its own lease
changed-joined : liveliness_changed_status three (Joined (leased (Some 5)) ∷ came 1 0 ∷ []) 1 0
    ≡ status (pos 1) (pos 0) (pos 0) (pos 0) 1
changed-joined = refl

changed-joined_and_came : liveliness_changed_status three (came 4 2 ∷ Joined (leased (Some 5)) ∷ came 1 0 ∷ []) 1 0
    ≡ status (pos 2) (pos 0) (pos 1) (pos 0) 4
changed-joined_and_came = refl

dead-joined : dead_at three 7 (came 4 2 ∷ Joined (leased (Some 5)) ∷ came 1 0 ∷ []) ≡ 4 ∷ []
dead-joined = refl

-- it joins behind those that joined before
dead-joined_later : dead_at three 7 (came 5 2 ∷ Joined (leased (Some 5)) ∷ Joined (leased None) ∷ []) ≡ 5 ∷ []
dead-joined_later = refl

-- a writer of lease 10 is lost once, until it is asserted again, and before its first assertion never
lost-once : liveliness_lost_status (Some 10) (Ticked 13 false ∷ Ticked 12 false ∷ Changed (change 2) ∷ [])
    ≡ record { total_count = 1; total_count_change = 1 }
lost-once = refl

lost-before_its_end : liveliness_lost_status (Some 10)
    (Ticked 11 false ∷ Changed (change 2) ∷ Ticked 1 false ∷ [])
    ≡ record { total_count = 0; total_count_change = 0 }
lost-before_its_end = refl

lost-again : liveliness_lost_status (Some 10)
    (Ticked 30 false ∷ Asserted 20 ∷ LookedAt ∷ Ticked 12 false ∷ Changed (change 2) ∷ [])
    ≡ record { total_count = 2; total_count_change = 1 }
lost-again = refl

lost-looked_at : liveliness_lost_status (Some 10) (LookedAt ∷ Ticked 12 false ∷ Asserted 2 ∷ [])
    ≡ record { total_count = 1; total_count_change = 0 }
lost-looked_at = refl

lost-endless : liveliness_lost_status None (Ticked 1000 false ∷ Asserted 2 ∷ [])
    ≡ record { total_count = 0; total_count_change = 0 }
lost-endless = refl
