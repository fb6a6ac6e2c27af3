-- What the end of an event leaves as it was.
use Rattle.std.proofs.Common.{◌≡◌, ◌≤◌, ◌+◌, ◌==◌, ℕ, zero, suc, Bool, true, false, List, [], ◌∷◌, Option, Some, None, length, arith, refl, ap, ◌∙◌}
use Rattle.std.specs.Prelude.{nat_lt, is_some, if◌then◌else◌}
use Rattle.std.proofs.lemmas.Bool.Decides.{nat_tests}
use Rattle.dds_base.specs.declared.entity.Entity.{Entity}
use Rattle.dds_base.specs.declared.entity.Entity.TheVariants as entity
use Rattle.dds_base.specs.declared.happening.Happening.{Happening}
use Rattle.dds_base.specs.declared.happening.Happening.TheVariants.{Came, Died, Heard, Joined, Left, Looked, Passed, Read, Took}
use Rattle.dds_base.specs.declared.qos.ReaderQos.{ReaderQos}
use Rattle.dds_base.proofs.OwnerLaws.{eqb-refl}
use Rattle.dds_base.specs.Liveliness.{liveliness_changed_status, turns_alive}
use Rattle.dds_base.specs.Statuses.{sample_lost_status}
use Rattle.dds_base.specs.StatusFlags.{brings_sample, data_available_at, is_after, turned_at}
use Rattle.dds_base.specs.Written.{liveliness_lost_status}
use Rattle.dds_notices.specs.declared.notice.Status.{Status}
use Rattle.dds_notices.specs.declared.notice.Status.TheVariants.{SampleLost, DataAvailable, LivelinessLost, LivelinessChanged, PublicationMatched, SubscriptionMatched}
use Rattle.dds_notices.proofs.ListenerLaws.{NobodyTakes}
use Rattle.dds_notices.specs.Listeners.{taker_of}
use Rattle.dds_machine.specs.Passing.{passed_at}
use Rattle.dds_machine.specs.Part.{Part, Reader, Writer, own_proxies, own_reader, own_writer}
use Rattle.dds_machine.specs.Matching.{attached_count, publication_matched, subscription_matched}
use Rattle.dds_machine.specs.Noticing.{at_end, data_raised, each_told, loss_raised, losses_of, lost_raised, publication_raised, reader_told, subscription_raised, told, told_of, turn_raised, writer_told}
use Rattle.dds_machine.proofs.InTurn.{data_told, loss_told, lost_told, publication_told, subscription_told, turn_told}

-- ---- what holds of each notice

module _ (R : Part → Part → Type 0) (same : (part : Part) → R part part) (on : (a b c : Part) → R a b → R b c → R a c)
    (one : (part : Part) (e : Entity) (status : Status) → R part (told_of part e status)) where
  to_so : (takes : Bool) (part : Part) (e : Entity) (status : Status)
      → R part (if takes then told_of part e status else part)
  to_so false part e status = same part
  to_so true part e status = one part e status

  told_so : (part : Part) (e : Entity) (raised : Option Status) → R part (told part e raised)
  told_so part e None = same part
  told_so part e (Some status) = to_so (is_some (taker_of part.dds.listeners e status)) part e status

  each_so : (tell : ℕ → Part → Part) → ((n : ℕ) (part : Part) → R part (tell n part)) → (count : ℕ) (part : Part)
      → R part (each_told tell count part)
  each_so tell next zero part = same part
  each_so tell next (suc n) part =
      on part (each_told tell n part) (tell (suc n) (each_told tell n part)) (each_so tell next n part)
      (next (suc n) (each_told tell n part))

  reader_so : (before : Part) (n : ℕ) (part : Part) → R part (reader_told before n part)
  reader_so before n part =
      let lost : Part = lost_told before n part in
      let data_too : Part = data_told before n lost in
      let turn_too : Part = turn_told before n data_too in
      on part lost (reader_told before n part)
      (told_so part (entity.Reader n) (lost_raised (own_reader before n) (own_reader part n)))
      (on lost data_too (reader_told before n part)
      (told_so lost (entity.Reader n) (data_raised (own_reader before n) (own_reader lost n)))
      (on data_too turn_too (reader_told before n part)
      (told_so data_too (entity.Reader n) (turn_raised (own_reader before n) (own_reader data_too n)))
      (told_so turn_too (entity.Reader n)
      (subscription_raised (own_proxies before n) (own_proxies turn_too n) (own_reader turn_too n)))))

  writer_so : (before : Part) (n : ℕ) (part : Part) → R part (writer_told before n part)
  writer_so before n part =
      let lost : Part = loss_told before n part in
      on part lost (writer_told before n part)
      (told_so part (entity.Writer n) (loss_raised (own_writer before n) (own_writer part n)))
      (told_so lost (entity.Writer n) (publication_raised (own_writer before n) (own_writer lost n)))

  -- what holds of each notice, and of notices in turn, holds of the end of an event
  pub end_so : (before part : Part) → R part (at_end before part)
  unfolding at_end
  end_so before part =
      let writers : Part = each_told (writer_told before) (length part.rtps.writers) part in
      on part writers (at_end before part)
      (each_so (writer_told before) (writer_so before) (length part.rtps.writers) part)
      (each_so (reader_told before) (reader_so before) (length part.dds.readers) writers)

-- a value of a part that no notice touches is the same at the end of an event
pub end_keeps : {X : Type 0} (f : Part → X)
    → ((part : Part) (e : Entity) (status : Status) → f (told_of part e status) ≡ f part)
    → (before part : Part) → f (at_end before part) ≡ f part
end_keeps f same before part =
    end_so (λ a b. f b ≡ f a) (λ p. refl) (λ a b c first second. second ∙ first) same before part

watch_same : (part : Part) (e : Entity) (status : Status) → (told_of part e status).dds.watch ≡ part.dds.watch
watch_same part entity.Participant status = refl
watch_same part (entity.Writer n) status = refl
watch_same part (entity.Reader n) (SubscriptionMatched values) = refl
watch_same part (entity.Reader n) status = refl

-- what is watched
pub end_watch : (before part : Part) → (at_end before part).dds.watch ≡ part.dds.watch
end_watch before part = end_keeps (λ (p : Part). p.dds.watch) watch_same before part

rows_same : (part : Part) (e : Entity) (status : Status) → (told_of part e status).rtps.readers ≡ part.rtps.readers
rows_same part entity.Participant status = refl
rows_same part (entity.Writer n) (PublicationMatched values) = refl
rows_same part (entity.Writer n) status = refl
rows_same part (entity.Reader n) (SubscriptionMatched values) = refl
rows_same part (entity.Reader n) status = refl

-- the places of readers
pub end_rows : (before part : Part) → (at_end before part).rtps.readers ≡ part.rtps.readers
end_rows before part = end_keeps (λ (p : Part). p.rtps.readers) rows_same before part

-- ---- where nobody is told

untold : (part : Part) → NobodyTakes part.dds.listeners → (e : Entity) (raised : Option Status)
    → told part e raised ≡ part
untold part nobody e None = refl
untold part nobody e (Some status) =
    ap (λ (o : Option Entity). if is_some o then told_of part e status else part) (nobody e status)

each_untold : (tell : ℕ → Part → Part) (part : Part) → ((n : ℕ) → tell n part ≡ part) → (count : ℕ)
    → each_told tell count part ≡ part
each_untold tell part one zero = refl
each_untold tell part one (suc n) = ap (λ (p : Part). tell (suc n) p) (each_untold tell part one n) ∙ one (suc n)

reader_untold : (before part : Part) → NobodyTakes part.dds.listeners → (n : ℕ) → reader_told before n part ≡ part
reader_untold before part nobody n =
    ap (λ (p : Part). subscription_told before n (turn_told before n (data_told before n p)))
    (untold part nobody (entity.Reader n) (lost_raised (own_reader before n) (own_reader part n)))
    ∙ (ap (λ (p : Part). subscription_told before n (turn_told before n p))
    (untold part nobody (entity.Reader n) (data_raised (own_reader before n) (own_reader part n)))
    ∙ (ap (λ (p : Part). subscription_told before n p)
    (untold part nobody (entity.Reader n) (turn_raised (own_reader before n) (own_reader part n)))
    ∙ untold part nobody (entity.Reader n)
    (subscription_raised (own_proxies before n) (own_proxies part n) (own_reader part n))))

writer_untold : (before part : Part) → NobodyTakes part.dds.listeners → (n : ℕ) → writer_told before n part ≡ part
writer_untold before part nobody n =
    ap (λ (p : Part). publication_told before n p)
    (untold part nobody (entity.Writer n) (loss_raised (own_writer before n) (own_writer part n)))
    ∙ untold part nobody (entity.Writer n) (publication_raised (own_writer before n) (own_writer part n))

-- an event's end changes nothing then
pub end_untold : (before part : Part) → NobodyTakes part.dds.listeners → at_end before part ≡ part
unfolding at_end
end_untold before part nobody =
    ap (λ (p : Part). each_told (reader_told before) (length part.dds.readers) p)
    (each_untold (writer_told before) part (writer_untold before part nobody) (length part.rtps.writers))
    ∙ each_untold (reader_told before) part (reader_untold before part nobody) (length part.dds.readers)

-- ---- where nothing happened

-- no entry of a history comes after all of its entries
earlier : (n : ℕ) (position : Option ℕ) → is_after n position ≡ false → is_after (suc n) position ≡ false
earlier n None not = refl
earlier n (Some position) not = grind (arith, nat_tests, not)

none_after : (b : Bool) (position : Option ℕ) (n : ℕ) → is_after n position ≡ false
    → is_after (suc n) (if b then Some (n + 1) else position) ≡ false
none_after true position n not = grind (arith, nat_tests)
none_after false position n not = earlier n position not

data_within : (q : ReaderQos) (h : List Happening) → is_after (length h) (data_available_at q h) ≡ false
data_within q [] = refl
data_within q (Read samples ∷ h) = refl
data_within q (Took samples ∷ h) = refl
data_within q (Came a ∷ h) =
    none_after (brings_sample q (Came a ∷ h)) (data_available_at q h) (length h) (data_within q h)
data_within q (Passed w first last ∷ h) =
    none_after (brings_sample q (Passed w first last ∷ h)) (data_available_at q h) (length h) (data_within q h)
data_within q (Heard w moment ∷ h) =
    none_after (brings_sample q (Heard w moment ∷ h)) (data_available_at q h) (length h) (data_within q h)
data_within q (Died w moment ∷ h) =
    none_after (brings_sample q (Died w moment ∷ h)) (data_available_at q h) (length h) (data_within q h)
data_within q (Left w moment ∷ h) =
    none_after (brings_sample q (Left w moment ∷ h)) (data_available_at q h) (length h) (data_within q h)
data_within q (Joined m ∷ h) =
    none_after (brings_sample q (Joined m ∷ h)) (data_available_at q h) (length h) (data_within q h)
data_within q (Looked status ∷ h) =
    none_after (brings_sample q (Looked status ∷ h)) (data_available_at q h) (length h) (data_within q h)

passed_within : (h : List Happening) → is_after (length h) (passed_at h) ≡ false
passed_within [] = refl
passed_within (Passed w first last ∷ h) = none_after true (passed_at h) (length h) (passed_within h)
passed_within (Came a ∷ h) = none_after false (passed_at h) (length h) (passed_within h)
passed_within (Heard w moment ∷ h) = none_after false (passed_at h) (length h) (passed_within h)
passed_within (Died w moment ∷ h) = none_after false (passed_at h) (length h) (passed_within h)
passed_within (Left w moment ∷ h) = none_after false (passed_at h) (length h) (passed_within h)
passed_within (Joined m ∷ h) = none_after false (passed_at h) (length h) (passed_within h)
passed_within (Read samples ∷ h) = none_after false (passed_at h) (length h) (passed_within h)
passed_within (Took samples ∷ h) = none_after false (passed_at h) (length h) (passed_within h)
passed_within (Looked status ∷ h) = none_after false (passed_at h) (length h) (passed_within h)

turned_within : (h : List Happening) → is_after (length h) (turned_at h) ≡ false
turned_within [] = refl
turned_within (e ∷ h) = none_after (turns_alive h e) (turned_at h) (length h) (turned_within h)

not_above : (a b : ℕ) → b ≤ a → nat_lt a b ≡ false
not_above a b le = grind (arith, nat_tests, le)

same_number : (n : ℕ) (status : Option Status) → (if n == n then None else status) ≡ None
same_number n status = ap (λ (b : Bool). if b then None else status) (eqb-refl n)

not_raised : (raised : Bool) (status : Status) → raised ≡ false → (if raised then Some status else None) ≡ None
not_raised raised status not = ap (λ (x : Bool). if x then Some status else None) not

reader_quiet : (part : Part) (n : ℕ) → reader_told part n part ≡ part
reader_quiet part n =
    let r : Reader = own_reader part n in
    let lost : lost_raised r r ≡ None =
    not_raised (is_after (length r.happened) (passed_at r.happened))
    (SampleLost (sample_lost_status r.happened r.seen.lost)) (passed_within r.happened) in
    let data_too : data_raised r r ≡ None =
    not_raised (is_after (length r.happened) (data_available_at r.qos r.happened)) DataAvailable
    (data_within r.qos r.happened) in
    let turned : turn_raised r r ≡ None =
    not_raised (is_after (length r.happened) (turned_at r.happened))
    (LivelinessChanged (liveliness_changed_status r.qos r.happened r.seen.alive r.seen.not_alive))
    (turned_within r.happened) in
    ap (λ (o : Option Status). subscription_told part n (turn_told part n (data_told part n (told part (entity.Reader n) o))))
    lost
    ∙ (ap (λ (o : Option Status). subscription_told part n (turn_told part n (told part (entity.Reader n) o))) data_too
    ∙ (ap (λ (o : Option Status). subscription_told part n (told part (entity.Reader n) o)) turned
    ∙ ap (λ (o : Option Status). told part (entity.Reader n) o)
    (same_number (attached_count (own_proxies part n)) (Some (SubscriptionMatched (subscription_matched (own_proxies part n) r))))))

writer_quiet : (part : Part) (n : ℕ) → writer_told part n part ≡ part
writer_quiet part n =
    let w : Writer = own_writer part n in
    ap (λ (o : Option Status). publication_told part n (told part (entity.Writer n) o))
    (not_raised (nat_lt (losses_of w) (losses_of w)) (LivelinessLost (liveliness_lost_status w.lease w.written))
    (not_above (losses_of w) (losses_of w) (omega arith)))
    ∙ ap (λ (o : Option Status). told part (entity.Writer n) o)
    (same_number (length w.matched) (Some (PublicationMatched (publication_matched w))))

-- an event that changes nothing raises nothing, and nobody is told
pub end_same : (part : Part) → at_end part part ≡ part
unfolding at_end
end_same part =
    ap (λ (p : Part). each_told (reader_told part) (length part.dds.readers) p)
    (each_untold (writer_told part) part (writer_quiet part) (length part.rtps.writers))
    ∙ each_untold (reader_told part) part (reader_quiet part) (length part.dds.readers)
