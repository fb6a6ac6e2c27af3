-- What is made ready for each reader.
use Rattle.std.proofs.Common.{◌≡◌, ℕ, zero, suc, ◌+◌, ◌<◌, ◌≤◌, Bool, List, [], ◌∷◌, ◌++◌, Option, Some, None, IfSome, set, drop, map, length, slice_get, get_or, refl, ap, sym, ◌∙◌, subst, arith, inl, inr, ⊎_elim, length-set}
use Rattle.std.proofs.lemmas.Option.{same_Some, slice_get-get_or, get_or_from_slice_get}
use Rattle.dds_base.specs.declared.guid.GuidPrefix.{GuidPrefix}
use Rattle.dds_base.specs.declared.guid.EntityId.{EntityId}
use Rattle.rtps_reader.specs.Tracked.{Tracked}
use Rattle.rtps_reader.specs.Reader.{Tracks}
use Rattle.rtps_reader.specs.declared.attachment.Attachment.{Attachment as AttachmentOf}
use Rattle.rtps_reader.specs.declared.step.HeartbeatSeen.{HeartbeatSeen}
use Rattle.rtps_wire.specs.declared.submessage.Submessage.{Submessage}
use Rattle.rtps_wire.specs.declared.submessage.Submessage.TheVariants.{Data, Heartbeat, Gap}
use Rattle.rtps_sets.specs.NumberSet.{NumberSet}
use Rattle.dds_base.specs.declared.endpoint.Endpoint.{Endpoint}
use Rattle.rtps_reader.specs.declared.step.Step.{Step}
use Rattle.dds_machine.specs.declared.reply.Move.{Move}
use Rattle.dds_protocol.specs.Claims.{Receiver, Names}
use Rattle.dds_protocol.specs.Protocol.{may_do}
use Rattle.dds_base.specs.declared.qos.ReaderQos.{ReaderQos}
use Rattle.dds_base.specs.Matched.{is_reliable}
use Rattle.dds_machine.specs.Part.{WriterProxy, Reader}
use Rattle.dds_core.specs.declared.delivery.FirstNamed.{FirstNamed}
use Rattle.dds_ends.specs.declared.matching.WriterName.{WriterName}
use Rattle.dds_ends.specs.declared.reader_told.Ready.{Ready}
use Rattle.dds_ends.specs.declared.reader_told.Told.{Told}
use Rattle.dds_ends.specs.declared.reader_told.Told.TheVariants as told
use Rattle.dds_ends.specs.declared.match_counts.MatchCounts.{MatchCounts}
use Rattle.dds_ends.specs.MatchCounts.{CountsFor}
use Rattle.dds_ends.specs.Kept.{ReaderKept}
use Rattle.dds_core.specs.Kept.{PeerKept}
use Rattle.dds_ends.specs.Identity.{ReaderIdentity, reader_identity, reliable_in, writer_identity}
use Rattle.dds_core.specs.Identity.{Identity, IsPeerOf, KnowsNames}
use Rattle.dds_ends.specs.Readiness.{IsNamedAt, IsFirstName, IsRowOf, IsPrepared, IsReadyFor, IsReadyWith, IsAlike, CanTake, TakesTold, SameReader, IsToldBounded, IsToldBy, writer_guid}
use Rattle.dds_core.specs.Readiness.{IsFirstNamed, AreReady, AreAlike, moves_of, IsBounded}
use Rattle.dds_core.specs.Receiving.{AllCanTake, TookAt, TakesAll, ReadersTake, StandsAsWell}
use Rattle.dds_core.proofs.TakenSoFar.{TakesSome}
use Rattle.dds_ends.specs.Standing.{HasNoRow, IsFirstRow, ReaderStands, stood_as}
use Rattle.dds_ends.proofs.Identities.{same_identity}
use Rattle.dds_ends.proofs.Lists.{get-within, left_at, left_more, drop_set}
use Rattle.dds_ends.proofs.Rows.{writers_of}
use Rattle.dds_base.specs.declared.guid.EntityId.{EntityId}
use Rattle.dds_core.specs.declared.effects.Effects.{Effects}
use Rattle.dds_ends.specs.declared.sending.Announced.{Announced}
use Rattle.dds_ends.specs.Beating.{AddsTo}
use Rattle.dds_protocol.specs.DueMessages.{acknacks_due}
use Rattle.dds_ends.proofs.Alike.{set-cases, last-cases, partner}

pub alike_self : (k : ReaderKept) → IsAlike k k
alike_self k = record {
  entity = refl;
  writers = refl;
  reader = λ i t h. h;
  how = λ i. refl;
  qos = refl;
  seen = refl;
  matches = refl;
  here = refl;
  holds = λ h s. s;
}

pub all_alike_self : (ks : List ReaderKept) → AreAlike ks ks
all_alike_self ks =
    record {
      count = refl;
      each = λ i a b at_a at_b. subst (λ (x : ReaderKept). IsAlike a x)
          (same_Some a b (sym at_a ∙ at_b)) (alike_self a);
    }

alike_on : (a b c : ReaderKept) → IsAlike a b → IsAlike b c → IsAlike a c
alike_on a b c x y =
    record {
      entity = y.entity ∙ x.entity;
      writers = y.writers
          ∙ x.writers;
      reader = λ i t h. y.reader i t (x.reader i t h);
      how = λ i. y.how i ∙ x.how i;
      qos = y.qos ∙ x.qos;
      seen = y.seen
          ∙ x.seen;
      matches = y.matches ∙ x.matches;
      here = y.here ∙ x.here;
      holds = λ h s. y.holds h (x.holds h s);
    }

-- one more was made ready
pub alike_more : (old now : List ReaderKept) (i : ℕ) (k k' : ReaderKept) → AreAlike old now → i < length now
    → get_or now i k ≡ k → IsAlike k k' → AreAlike old (set now i k')
alike_more old now i k k' h lt is one = record {
  count = length-set now i k' ∙ h.count;
  each = λ j a b at_a at_b.
      ⊎_elim
      (λ s.
      let at_k : slice_get now i ≡ Some k = slice_get-get_or now i k lt ∙ ap (λ (x : ReaderKept). Some x) is in
      let there : slice_get now j ≡ Some k = ap (λ (n : ℕ). slice_get now n) s.0 ∙ at_k in
      subst (λ (x : ReaderKept). IsAlike a x) s.1 (alike_on a k k' (h.each j a k at_a there) one))
      (λ o. h.each j a b at_a o.1) (set-cases now i k' j b at_b);
}

-- the first reader that is named, where it stands
pub named_here : (own : GuidPrefix) (at : Receiver) (s : Submessage) (readers : List ReaderKept) (first : FirstNamed)
    (i : ℕ) (k : ReaderKept) → IsFirstNamed own at s readers first → slice_get readers i ≡ Some k → i ≡ first.index
    → IsNamedAt own at s k first.row
named_here own at s readers first i k h at_k is =
    subst (λ (x : ReaderKept). IsNamedAt own at s x first.row)
    (same_Some h.reader k (sym h.there ∙ (ap (λ (n : ℕ). slice_get readers n) (sym is) ∙ at_k))) h.named

-- its row, where the submessage names these
pub row_named : (own : GuidPrefix) (at : Receiver) (s : Submessage) (readers : List ReaderKept) (first : FirstNamed)
    (i : ℕ) (k : ReaderKept) (row : Option ℕ) → IsFirstNamed own at s readers first → slice_get readers i ≡ Some k
    → ((i < first.index → IsReadyFor own at s k None)
    → (i ≡ first.index → IsNamedAt own at s k first.row) → IsRowOf own at s k row)
    → IsRowOf own at s k row
row_named own at s readers first i k row h at_k named =
    named (λ lt. h.before i k lt at_k) (named_here own at s readers first i k h at_k)

-- more memory, and it is named as well
named_alike : (own : GuidPrefix) (at : Receiver) (s : Submessage) (old new : ReaderKept) (row : ℕ) → IsAlike old new
    → IsNamedAt own at s old row → IsNamedAt own at s new row
named_alike own at s old new row h is = record {
  reader_id = is.reader_id;
  writer_id = is.writer_id;
  by = is.by;
  named = record {
    is_for = is.named.is_for;
    named = subst (λ (e : EntityId). Names is.reader_id e) (sym h.entity) is.named.named;
    first = subst (λ (ns : List WriterName). IsFirstName ns (writer_guid at is.writer_id) row) (sym h.writers)
        is.named.first;
  };
}

-- what was made ready by the row that was found is ready for the reader
pub ready_for : (own : GuidPrefix) (at : Receiver) (s : Submessage) (old new : ReaderKept) (row : Option ℕ)
    (one : Option Ready) → IsAlike old new → IsRowOf own at s old row → IsPrepared row at s new one
    → IsReadyFor own at s new one
ready_for own at s old new None None h (inl none) is = inl (λ reader_id writer_id by k here.
    none reader_id writer_id by k
    (record {
      is_for = here.is_for;
      named = subst (λ (e : EntityId). Names reader_id e) h.entity here.named;
      first = subst (λ (ns : List WriterName). IsFirstName ns (writer_guid at writer_id) k) h.writers here.first;
    }))
ready_for own at s old new None None h (inr idle) is = inr (record {
  row = idle.row;
  named = named_alike own at s old new idle.row h idle.named;
  idle = record {
    known = idle.idle.known;
    tracks = h.reader idle.row idle.idle.known idle.idle.tracks;
    does = ap (λ (q : ReaderQos). may_do (is_reliable q.reliability) idle.idle.known s) h.qos ∙ idle.idle.does;
  };
})
ready_for own at s old new None (Some ready) h none is = absurd cc
ready_for own at s old new (Some row) None h named is = inl (λ reader_id writer_id by k here. is reader_id writer_id by)
ready_for own at s old new (Some row) (Some ready) h named is =
    let now : IsNamedAt own at s new ready.row =
    subst (λ (n : ℕ). IsNamedAt own at s new n) (sym is.row_is) (named_alike own at s old new row h named) in
    record {
      reader_id = now.reader_id;
      writer_id = now.writer_id;
      by = now.by;
      named = now.named;
      told = is.told;
      room = is.room;
    }

-- the row that was found, by another name of the reader
pub row_is : (own : GuidPrefix) (at : Receiver) (s : Submessage) (readers : List ReaderKept) (i : ℕ) (a b : ReaderKept)
    (row : Option ℕ) → i < length readers → IsRowOf own at s (get_or readers i a) row
    → IsRowOf own at s (get_or readers i b) row
row_is own at s readers i a b row lt h =
    subst (λ (k : ReaderKept). IsRowOf own at s k row)
    (get_or_from_slice_get readers i (get_or readers i b) a (slice_get-get_or readers i b lt)) h

-- the row that was found is one of the reader's
pub row_within : (own : GuidPrefix) (at : Receiver) (s : Submessage) (kept : ReaderKept) (row : Option ℕ)
    → IsRowOf own at s kept row → IfSome row (λ n. n < length kept.writers)
row_within own at s kept None h = tt
row_within own at s kept (Some row) h = get-within kept.writers row h.named.first.name h.named.first.at

pub ready_more : (own : GuidPrefix) (at : Receiver) (sub : Submessage) (now : List ReaderKept)
    (ready ready' : List (Option Ready)) (i : ℕ) (k' : ReaderKept) (one : Option Ready) → length ready ≡ i
    → ready' ≡ ready ++ one ∷ []
    → ((j : ℕ) (k : ReaderKept) (r : Option Ready) → slice_get now j ≡ Some k → slice_get ready j ≡ Some r
    → IsReadyFor own at sub k r) → IsReadyFor own at sub k' one
    → (j : ℕ) (k : ReaderKept) (r : Option Ready) → slice_get (set now i k') j ≡ Some k → slice_get ready' j ≡ Some r
    → IsReadyFor own at sub k r
ready_more own at sub now ready ready' i k' one count is each new j k r at_k at_r =
    let at_last : slice_get (ready ++ one ∷ []) j ≡ Some r =
    subst (λ (rs : List (Option Ready)). slice_get rs j ≡ Some r) is at_r in
    ⊎_elim
    (λ s.
    ⊎_elim
    (λ t. subst (λ (x : Option Ready). IsReadyFor own at sub k x) t.1
    (subst (λ (x : ReaderKept). IsReadyFor own at sub x one) s.1 new))
    (λ t. let lt = t.0 in let same = s.0 in absurd (omega (arith, lt, same, count)))
    (last-cases ready one j r at_last))
    (λ o.
    ⊎_elim (λ t. let last = t.0 in absurd (o.0 (omega (arith, last, count)))) (λ t. each j k r o.1 t.1)
    (last-cases ready one j r at_last))
    (set-cases now i k' j k at_k)

-- what is told keeps to the wire's bounds
told_bounded : (reliable : Bool) (at : Receiver) (s : Submessage) (said : Told) → IsBounded s
    → IsToldBy reliable at s said → IsToldBounded said
told_bounded reliable at (Data d) (told.Change number change) b is = let same = is.1 in omega (arith, same, b)
told_bounded reliable at (Data d) (told.Jump number change) b is = let same = is.1 in omega (arith, same, b)
told_bounded reliable at (Gap g) (told.Gap start list) b is =
    let same = ap (λ (x : NumberSet). x.base) is.2 in omega (arith, same, b)
told_bounded reliable at (Gap g) told.Nothing b is = tt
told_bounded reliable at (Heartbeat h) (told.Heartbeat seen) b is =
    let same = ap (λ (x : HeartbeatSeen). x.first) is.1 in omega (arith, same, b)
told_bounded reliable at (Heartbeat h) (told.Beat seen) b is =
    let same = ap (λ (x : HeartbeatSeen). x.first) is.1 in omega (arith, same)
told_bounded reliable at s said b is = absurd is

pub can_take : (own : GuidPrefix) (at : Receiver) (s : Submessage) (k : ReaderKept) (ready : Ready) → IsBounded s
    → IsReadyWith own at s k ready → CanTake k ready
can_take own at s k ready b is =
    record {
      row = get-within k.writers ready.row is.named.first.name is.named.first.at;
      bounded = told_bounded (reliable_in k.store) at s ready.told b is.told;
      room = is.room;
    }

pub all_can : (own : GuidPrefix) (at : Receiver) (s : Submessage) (readers : List ReaderKept)
    (ready : List (Option Ready)) → IsBounded s → AreReady own at s readers ready → AllCanTake readers ready
all_can own at s readers ready b h i one there =
    let k =
    partner readers ready i (Some one) h.count there in
    (k.0, k.1, can_take own at s k.0 one b (h.each i k.0 (Some one) k.1 there))

-- what is ready for a reader, while what was ready for others is taken
pub still_ready : {X : Type 0} (ready now : List X) (i : ℕ) (one d : X) → drop i now ≡ drop i ready → i < length now
    → one ≡ get_or now i d → slice_get ready i ≡ Some one
still_ready ready now i one d left lt is =
    left_at ready now i one (sym left) (slice_get-get_or now i d lt ∙ ap (λ x. Some x) (sym is))

-- what was taken leaves the rest
pub rest_more : {X : Type 0} (ready now : List X) (i : ℕ) (x : X) → drop i now ≡ drop i ready
    → drop (i + 1) (set now i x) ≡ drop (i + 1) ready
rest_more ready now i x left =
    let same : i + 1 ≡ suc i = omega arith in
    subst (λ (n : ℕ). drop n (set now i x) ≡ drop n ready) (sym same) (drop_set now i x ∙ left_more now ready i left)

-- readers with more room stand for what they stood for

pub alike_stands : (a b : ReaderKept) (proxies : List WriterProxy) (r : Reader) (tracked : Endpoint → Tracked)
    → IsAlike a b → ReaderStands a proxies r tracked → ReaderStands b proxies r tracked
alike_stands a b proxies r tracked h s = record {
  writers_are = s.writers_are ∙ ap (λ (ns : List WriterName). writers_of ns) (sym h.writers);
  places = s.places;
  knows =
      λ w k f. h.reader k (tracked w) (s.knows w k (subst (λ (ns : List WriterName). IsFirstRow ns w k) h.writers f));
  others = λ w none. s.others w (subst (λ (ns : List WriterName). HasNoRow ns w) h.writers none);
  qos_is = s.qos_is ∙ sym h.qos;
  holds = h.holds r.happened s.holds;
  seen_is = s.seen_is ∙ sym h.seen;
  hows = λ w k f.
      s.hows w k (subst (λ (ns : List WriterName). IsFirstRow ns w k) h.writers f)
      ∙ ap (λ (x : AttachmentOf). stood_as x) (sym (h.how k));
  counts = subst (λ (m : MatchCounts). CountsFor m r.matches) (sym h.matches) s.counts;
  here_is = h.here ∙ s.here_is;
}

same_identities : (old new : List ReaderKept) → AreAlike old new → map reader_identity new ≡ map reader_identity old
same_identities [] [] h = refl
same_identities [] (b ∷ bs) h = let count = h.count in absurd (omega (arith, count))
same_identities (a ∷ as') [] h = let count = h.count in absurd (omega (arith, count))
same_identities (a ∷ as') (b ∷ bs) h =
    let count = h.count in
    cons_as (reader_identity b) (reader_identity a) _ _
    (let one = h.each zero a b refl refl in same_identity b a one.entity one.writers one.qos)
    (same_identities as' bs
    (record { count = omega (arith, count); each = λ i x y at_x at_y. h.each (suc i) x y at_x at_y }))
  where
    cons_as : {X : Type 0} (x y : X) (xs ys : List X) → x ≡ y → xs ≡ ys → x ∷ xs ≡ y ∷ ys
    cons_as x y xs ys e f = cc

pub alike_core : (kept : PeerKept) (readers : List ReaderKept) → AreAlike kept.readers readers
    → StandsAsWell kept (record kept { readers = readers })
alike_core kept readers h roster peer s =
    let identity : List ReaderIdentity → Identity =
    λ rs. record { prefix = kept.prefix; writers = map writer_identity kept.writers; readers = rs } in
    record {
      is_peer =
          subst (λ (x : Identity). IsPeerOf roster peer.number x)
          (sym (ap identity (same_identities kept.readers readers h))) s.is_peer;
      knows =
          subst (λ (x : Identity). KnowsNames roster peer.number x kept.names)
          (sym (ap identity (same_identities kept.readers readers h))) s.knows;
      moment = s.moment;
      early = s.early;
      names = s.names;
      watch = s.watch;
      writers = s.writers;
      readers = record {
        rows = s.readers.rows ∙ sym h.count;
        count = s.readers.count ∙ sym h.count;
        each =
            λ i k at. let old = partner kept.readers readers i k h.count at in alike_stands old.0 k _ _ _
            (h.each i old.0 k old.1 at) (s.readers.each i old.0 old.1);
      };
      tellable = s.tellable;
    }

-- nothing stands in a list of nothing
pub none_there : {X : Type 0} (xs : List X) (i : ℕ) (x : X) → xs ≡ [] → slice_get xs i ≡ Some x → ⊥
none_there [] i x is at = cc
none_there (y ∷ ys) i x is at = cc

-- the reader of this index was told what was ready
pub took_by : (old : PeerKept) (index : ℕ) (ready : Ready) (k now k' : ReaderKept) (moves : List Move)
    (sent : Announced) (new : PeerKept) (after : List Move) (gone : Announced) (writer : WriterName) (from : ℕ)
    (step : Step) → now ≡ k
    → slice_get old.readers index ≡ Some k → slice_get now.writers ready.row ≡ Some writer
    → ((t : Tracked) → Tracks now.reader ready.row t → from ≡ t.place) → {m : ℕ} → m ≡ old.moment
    → TakesTold now ready m step k'
    → SameReader now k' → new ≡ record old { readers = set old.readers index k' }
    → after ≡ moves ++ moves_of writer.writer (index + 1) from step → {own : GuidPrefix} → own ≡ old.prefix
    → {entity : EntityId} → entity ≡ now.entity
    → AddsTo (acknacks_due own writer.guid.prefix writer.writer.peer entity writer.guid.entity step.acknack) sent gone
    → TookAt old index ready k moves sent new after gone
took_by old index ready k now k' moves sent new after gone writer from step is at named place
    {m} moment told same new_is after_is {own} prefix {entity} of_reader adds =
    let of_k : entity ≡ k.entity = of_reader ∙ ap (λ (x : ReaderKept). x.entity) is in
    record {
      name = writer;
      at_name = subst (λ (x : ReaderKept). slice_get x.writers ready.row ≡ Some writer) is named;
      from = from;
      place = λ t knows. place t (subst (λ (x : ReaderKept). Tracks x.reader ready.row t) (sym is) knows);
      step = step;
      reader = k';
      told =
          subst (λ (n : ℕ). TakesTold k ready n step k') moment
          (subst (λ (x : ReaderKept). TakesTold x ready m step k') is told);
      same = subst (λ (x : ReaderKept). SameReader x k') is same;
      new_is = new_is;
      after_is = after_is;
      answer =
          subst (λ (p : GuidPrefix). AddsTo
          (acknacks_due p writer.guid.prefix writer.writer.peer k.entity writer.guid.entity step.acknack) sent gone)
          prefix
          (subst (λ (e : EntityId). AddsTo
          (acknacks_due own writer.guid.prefix writer.writer.peer e writer.guid.entity step.acknack) sent gone) of_k
          adds);
    }

-- all were told what was ready for them
pub takes_all : (old now : PeerKept) (ready : List (Option Ready)) (effects after : Effects) (index : ℕ)
    → length ready ≤ index → index ≤ length ready → TakesSome old ready index effects now after
    → TakesAll old ready effects now after
takes_all old now ready effects after index low high h = record {
  made = h.made;
  after_is = h.after_is;
  takes = λ at s are.
      let count = are.count in
      subst (λ (n : ℕ). ReadersTake old at s n h.made effects.sent now after.sent) (omega (arith, count, low, high))
      (h.takes at s are);
}
