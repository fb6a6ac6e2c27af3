-- An end that a peer may call so agrees with the ends whose names the peer knows; and its name is known then, too.
use Rattle.std.proofs.Common.{◌≡◌, ◌⊎◌, ℕ, zero, suc, ◌<◌, ◌==◌, ◌&&◌, ◌||◌, Bool, true, false, not, Option, Some, List, [], ◌∷◌, ◌++◌, length, refl, ap, sym, ◌∙◌, subst, arith, ⊎_elim, eq-eqb}
use Rattle.std.specs.Prelude.{Contains, if◌then◌else◌}
use Rattle.std.specs.List.{list_all, list_any}
use Rattle.std.proofs.lemmas.Bool.{and_parts, or_parts}
use Rattle.std.proofs.lemmas.List.Elements.{Contains-append_left, Contains-append_right}
use Rattle.std.proofs.lemmas.List.Sums.{AllPass-from_list_all}
use Rattle.dds_base.specs.declared.endpoint.Endpoint.{Endpoint}
use Rattle.dds_base.specs.declared.guid.EntityId.{EntityId}
use Rattle.dds_base.specs.declared.guid.Guid.{Guid}
use Rattle.dds_base.specs.declared.guid.GuidPrefix.{GuidPrefix}
use Rattle.dds_base.specs.Checked.{has_kind, same_entity, same_prefix, unknown_prefix}
use Rattle.dds_machine.specs.Naming.{agree_on_ends, agree_on_peers, both_or_neither, is_name_among, is_no_name, same_guid, with_name}
use Rattle.dds_machine.specs.Part.{Name, Names, same_endpoint}
use Rattle.dds_machine.proofs.Tables.{same_is}
use Rattle.dds_protocol.specs.Roster.{Roster}
use Rattle.dds_protocol.proofs.InOrder.{same_self}
use Rattle.dds_protocol.proofs.OwnGuids.{entity-Decides, prefix-Decides}
use Rattle.dds_core.specs.Identity.{AreAllNamed, HasName}
use Rattle.dds_core.proofs.WithEnds.{AgreeOnEnds, AgreeOnPeers, far_prefix, newcomer_or_there, prefix_stays, reliable_here, reliable_there, with_reader_end, with_writer_end}

-- ---- two names

-- each of them passes
passes : {X : Type 0} (test : X → Bool) (xs : List X) (x : X) → list_all test xs ≡ true → Contains xs x
    → test x ≡ true
passes test xs x all among =
    subst (λ y. test y ≡ true) among.2 (AllPass-from_list_all test xs all among.0 x among.1)

not_so : (b : Bool) → not b ≡ true → b ≡ false
not_so true h = absurd cc
not_so false h = refl

-- of one participant they have one prefix
one_prefix : (k name : Name) → agree_on_peers k name ≡ true → k.end.peer ≡ name.end.peer
    → k.guid.prefix ≡ name.guid.prefix
one_prefix k name agree same =
    (prefix-Decides k.guid.prefix name.guid.prefix).0
    (by (k.end.peer == name.end.peer) (same_prefix k.guid.prefix name.guid.prefix)
    (eq-eqb k.end.peer name.end.peer same) agree)
  where
    by : (a b : Bool) → a ≡ true → both_or_neither a b ≡ true → b ≡ true
    by true b is h = h
    by false b is h = absurd cc

-- of one end they have one GUID, and are both reliable or both not
pub record AreOne (k name : Name) : Type 0 where
  pub guid : k.guid ≡ name.guid
  pub reliable : k.reliable ≡ name.reliable

guid_from : (a b : Guid) → a.prefix ≡ b.prefix → a.entity ≡ b.entity → a ≡ b
guid_from a b p e =
    ap (λ (x : GuidPrefix). record { prefix = x; entity = a.entity }) p
    ∙ ap (λ (x : EntityId). record { prefix = b.prefix; entity = x }) e

one_end : (k name : Name) → agree_on_ends k name ≡ true → k.end ≡ name.end → AreOne k name
one_end k name agree same =
    by (same_endpoint k.end name.end) refl agree
  where
    reliable_so : (a b : Bool) → both_or_neither a b ≡ true → a ≡ b
    reliable_so true true h = refl
    reliable_so true false h = absurd cc
    reliable_so false true h = absurd cc
    reliable_so false false h = refl

    here : same_endpoint k.end name.end ≡ true
    here = ap (λ (e : Endpoint). same_endpoint e name.end) same ∙ same_self name.end

    by : (b : Bool) → same_endpoint k.end name.end ≡ b
        → (if b then same_guid k.guid name.guid && both_or_neither k.reliable name.reliable
        else not (same_guid k.guid name.guid)) ≡ true → AreOne k name
    by true is h =
        let both = and_parts (same_guid k.guid name.guid) (both_or_neither k.reliable name.reliable) h in
        let parts =
        and_parts (same_prefix k.guid.prefix name.guid.prefix) (same_entity k.guid.entity name.guid.entity) both.0 in
        record {
          guid =
              guid_from k.guid name.guid ((prefix-Decides k.guid.prefix name.guid.prefix).0 parts.0)
              ((entity-Decides k.guid.entity name.guid.entity).0 parts.1);
          reliable = reliable_so k.reliable name.reliable both.1;
        }
    by false is h = absurd (let clash : true ≡ false = sym here ∙ is in cc)

-- with one GUID they are of one end
one_guid_one_end : (k name : Name) → agree_on_ends k name ≡ true → k.guid ≡ name.guid → k.end ≡ name.end
one_guid_one_end k name agree same = by (same_endpoint k.end name.end) refl agree
  where
    self : same_guid name.guid name.guid ≡ true
    self =
        ap (λ (b : Bool). b && same_entity name.guid.entity name.guid.entity)
        ((prefix-Decides name.guid.prefix name.guid.prefix).1 refl)
        ∙ (entity-Decides name.guid.entity name.guid.entity).1 refl

    one : same_guid k.guid name.guid ≡ true
    one = ap (λ (g : Guid). same_guid g name.guid) same ∙ self

    by : (b : Bool) → same_endpoint k.end name.end ≡ b
        → (if b then same_guid k.guid name.guid && both_or_neither k.reliable name.reliable
        else not (same_guid k.guid name.guid)) ≡ true → k.end ≡ name.end
    by true is h = same_is k.end name.end is
    by false is h = absurd (let clash : true ≡ false = sym one ∙ not_so (same_guid k.guid name.guid) h in cc)

-- ---- a name among those that are known

-- what it says of the name, of those of its kind, and of the others
record MayBeCalled (kind : ℕ) (known others : List Name) (name : Name) : Type 0 where
  is_name : is_no_name kind name ≡ false
  all : list_all (λ k. agree_on_peers k name && agree_on_ends k name) known ≡ true
  beside : list_all (λ k. agree_on_peers k name) others ≡ true

may_be_called : (kind : ℕ) (known others : List Name) (name : Name) → is_name_among kind known others name ≡ true
    → MayBeCalled kind known others name
may_be_called kind known others name h =
    let all : Bool = list_all (λ k. agree_on_peers k name && agree_on_ends k name) known in
    let beside : Bool = list_all (λ k. agree_on_peers k name) others in
    let second = and_parts (not (is_no_name kind name) && all) beside h in
    let first = and_parts (not (is_no_name kind name)) all second.0 in
    record {
      is_name = not_so (is_no_name kind name) first.0;
      all = first.1;
      beside = second.1;
    }

-- its prefix is that of a participant
pub has_prefix : (kind : ℕ) (known others : List Name) (name : Name) → is_name_among kind known others name ≡ true
    → same_prefix name.guid.prefix unknown_prefix ≡ false
has_prefix kind known others name h =
    let numbers : Bool = (name.end.peer == 0) || (name.end.number == 0) in
    let unknown : Bool = same_prefix name.guid.prefix unknown_prefix in
    let other : Bool = not (has_kind kind name.guid.entity) in
    let last = or_parts (numbers || unknown) other (may_be_called kind known others name h).is_name in
    (or_parts numbers unknown last.0).1

-- its entity is of the kind
pub has_its_kind : (kind : ℕ) (known others : List Name) (name : Name) → is_name_among kind known others name ≡ true
    → has_kind kind name.guid.entity ≡ true
has_its_kind kind known others name h =
    let numbers : Bool = (name.end.peer == 0) || (name.end.number == 0) in
    let unknown : Bool = same_prefix name.guid.prefix unknown_prefix in
    let kind_is : Bool = has_kind kind name.guid.entity in
    back kind_is
    (or_parts (numbers || unknown) (not kind_is) (may_be_called kind known others name h).is_name).1
  where
    back : (b : Bool) → not b ≡ false → b ≡ true
    back true is = refl
    back false is = absurd cc

-- ---- the ends of a roster

module _ (prefix : ℕ → GuidPrefix) (ends : Endpoint → Option EntityId) (known : List Name) (name : Name)
    (named : (e : Endpoint) (entity : EntityId) → ends e ≡ Some entity → HasName known e (prefix e.peer) entity) where
  -- they agree with the name on participants, as their names do
  pub peers_agree : list_all (λ k. agree_on_peers k name) known ≡ true → AgreeOnPeers prefix ends name.end name.guid
  peers_agree all = λ e entity at same.
      let has = named e entity at in
      sym (ap (λ (g : Guid). g.prefix) has.guid)
      ∙ one_prefix has.name name (passes (λ k. agree_on_peers k name) known has.name all has.among)
      (ap (λ (x : Endpoint). x.peer) has.end ∙ same)

  -- and on ends
  both_of : list_all (λ k. agree_on_peers k name && agree_on_ends k name) known ≡ true → (k : Name)
      → Contains known k → (agree_on_peers k name ≡ true) × (agree_on_ends k name ≡ true)
  both_of all k among =
      and_parts (agree_on_peers k name) (agree_on_ends k name)
      (passes (λ x. agree_on_peers x name && agree_on_ends x name) known k all among)

  -- the name of this end is the one that is told
  pub one_name : list_all (λ k. agree_on_peers k name && agree_on_ends k name) known ≡ true → (e : Endpoint)
      (entity : EntityId) → (at : ends e ≡ Some entity) → e ≡ name.end → AreOne (named e entity at).name name
  one_name all e entity at same =
      let has = named e entity at in
      one_end has.name name (both_of all has.name has.among).1 (has.end ∙ same)

  pub ends_agree : list_all (λ k. agree_on_peers k name && agree_on_ends k name) known ≡ true
      → AgreeOnEnds prefix ends name.end name.guid
  ends_agree all = record {
    peers = λ e entity at same.
        let has = named e entity at in
        sym (ap (λ (g : Guid). g.prefix) has.guid)
        ∙ one_prefix has.name name (both_of all has.name has.among).0 (ap (λ (x : Endpoint). x.peer) has.end ∙ same);
    apart = λ e entity at p i.
        let has = named e entity at in
        sym has.end
        ∙ one_guid_one_end has.name name (both_of all has.name has.among).1
        (has.guid
        ∙ guid_from (record { prefix = prefix e.peer; entity = entity }) name.guid p i);
    same = λ e entity at is.
        let has = named e entity at in
        sym (ap (λ (g : Guid). g.entity) has.guid) ∙ ap (λ (g : Guid). g.entity) (one_name all e entity at is).guid;
  }

-- ---- the names that are known then

-- one of them is of the end
any_of : (test : Name → Bool) (xs : List Name) → list_any test xs ≡ true
    → (x : Name) × Contains xs x × (test x ≡ true)
any_of test [] h = absurd cc
any_of test (x ∷ xs) h = by (test x) refl h (λ k. any_of test xs k)
  where
    by : (b : Bool) → test x ≡ b → (b || list_any test xs) ≡ true
        → (list_any test xs ≡ true → (y : Name) × Contains xs y × (test y ≡ true))
        → (y : Name) × Contains (x ∷ xs) y × (test y ≡ true)
    by true is k later = (x, (zero, omega arith, refl), is)
    by false is k later =
        let f = later k in
        let lt = f.1.1 in
        (f.0, (suc f.1.0, omega (arith, lt), f.1.2), f.2)

-- what was known still is
was_known : (known : List Name) (name k : Name) → Contains known k → Contains (with_name known name) k
was_known known name k among = by (list_any (λ (x : Name). same_endpoint x.end name.end) known)
  where
    by : (b : Bool) → Contains (if b then known else known ++ name ∷ []) k
    by true = among
    by false = Contains-append_left known (name ∷ []) k among

-- and the name is known, as it was, or as the last one
pub now_known : (known : List Name) (name : Name)
    → list_all (λ k. agree_on_peers k name && agree_on_ends k name) known ≡ true
    → (k : Name) × Contains (with_name known name) k × (k.end ≡ name.end) × (k.guid ≡ name.guid)
    × (k.reliable ≡ name.reliable)
now_known known name all = by (list_any is_its known) refl
  where
    is_its : Name → Bool
    is_its x = same_endpoint x.end name.end

    by : (b : Bool) → list_any is_its known ≡ b
        → (k : Name) × Contains (if b then known else known ++ name ∷ []) k × (k.end ≡ name.end)
        × (k.guid ≡ name.guid) × (k.reliable ≡ name.reliable)
    by true is =
        let f = any_of is_its known is in
        let same : f.0.end ≡ name.end = same_is f.0.end name.end f.2 in
        let one =
        one_end f.0 name
        (and_parts (agree_on_peers f.0 name) (agree_on_ends f.0 name)
        (passes (λ x. agree_on_peers x name && agree_on_ends x name) known f.0 all f.1)).1 same in
        (f.0, f.1, same, one.guid, one.reliable)
    by false is =
        (name, Contains-append_right known (name ∷ []) name (zero, omega arith, refl), refl, refl, refl)

still_named_so : (known : List Name) (name : Name) (e : Endpoint) (prefix after : GuidPrefix) (entity : EntityId)
    → after ≡ prefix → HasName known e prefix entity → HasName (with_name known name) e after entity
still_named_so known name e prefix after entity same has = record {
  name = has.name;
  among = was_known known name has.name has.among;
  end = has.end;
  guid = has.guid ∙ ap (λ (p : GuidPrefix). record { prefix = p; entity = entity }) (sym same);
}

named_as : (known : List Name) (e : Endpoint) (prefix after : GuidPrefix) (entity : EntityId) → after ≡ prefix
    → HasName known e prefix entity → HasName known e after entity
named_as known e prefix after entity same has = record {
  name = has.name;
  among = has.among;
  end = has.end;
  guid = has.guid ∙ ap (λ (p : GuidPrefix). record { prefix = p; entity = entity }) (sym same);
}

-- a name more does no harm
pub one_writer_more : (roster : Roster) (names : Names) (name : Name) → AreAllNamed roster names
    → AreAllNamed roster (record names { writers = with_name names.writers name })
one_writer_more roster names name named = record {
  writers = λ e entity at. still_named_so names.writers name e _ _ entity refl (named.writers e entity at);
  readers = named.readers;
}

pub one_reader_more : (roster : Roster) (names : Names) (name : Name) → AreAllNamed roster names
    → AreAllNamed roster (record names { readers = with_name names.readers name })
unfolding still_named_so
one_reader_more roster names name named = record {
  writers = named.writers;
  readers = λ e entity at.
      let has = named.readers e entity at in
      (still_named_so names.readers name e _ _ entity refl has.0, has.1);
}

-- ---- a writer that may be called so

module _ (roster : Roster) (names : Names) (name : Name) (reader : Endpoint) (named : AreAllNamed roster names)
    (may : is_name_among 2 names.writers names.readers name ≡ true) where
  pub writers_agree : AgreeOnEnds roster.prefix roster.writers name.end name.guid
  writers_agree =
      ends_agree roster.prefix roster.writers names.writers name named.writers
      (may_be_called 2 names.writers names.readers name may).all

  pub readers_beside : AgreeOnPeers roster.prefix roster.readers name.end name.guid
  readers_beside =
      peers_agree roster.prefix roster.readers names.readers name (λ e entity at. (named.readers e entity at).0)
      (may_be_called 2 names.writers names.readers name may).beside

  -- all are named once it is
  pub writer_named : AreAllNamed (with_writer_end roster name.end name.guid reader)
      (record names { writers = with_name names.writers name })
  unfolding named_as
  writer_named = record {
    writers = λ e entity at.
        ⊎_elim
        (λ new.
        let k = now_known names.writers name (may_be_called 2 names.writers names.readers name may).all in
        record {
          name = k.0;
          among = k.1;
          end = k.2 ∙ sym new.0;
          guid =
              k.3
              ∙ guid_from name.guid _ (sym (far_prefix roster.prefix roster.writers name.end name.guid e new.0)) new.1;
        })
        (λ there.
        still_named_so names.writers name e (roster.prefix e.peer) _ entity
        (prefix_stays roster.prefix roster.writers name.end name.guid writers_agree.peers e entity there)
        (named.writers e entity there))
        (newcomer_or_there roster.prefix roster.writers name.end name.guid e entity at);
    readers = λ e entity at.
        let has = named.readers e entity at in (
          named_as names.readers e (roster.prefix e.peer) _ entity
              (prefix_stays roster.prefix roster.readers name.end name.guid readers_beside e entity at) has.0,
          has.1,
        );
  }

-- ---- a reader that may be called so

module _ (roster : Roster) (names : Names) (name : Name) (writer : Endpoint) (named : AreAllNamed roster names)
    (may : is_name_among 7 names.readers names.writers name ≡ true) where
  pub readers_agree : AgreeOnEnds roster.prefix roster.readers name.end name.guid
  readers_agree =
      ends_agree roster.prefix roster.readers names.readers name (λ e entity at. (named.readers e entity at).0)
      (may_be_called 7 names.readers names.writers name may).all

  pub writers_beside : AgreeOnPeers roster.prefix roster.writers name.end name.guid
  writers_beside =
      peers_agree roster.prefix roster.writers names.writers name named.writers
      (may_be_called 7 names.readers names.writers name may).beside

  -- where there is a reader of that name, it is as reliable
  pub reliable_before : (entity : EntityId) → roster.readers name.end ≡ Some entity
      → name.reliable ≡ roster.is_reliable name.end
  reliable_before entity at =
      let one =
      one_name roster.prefix roster.readers names.readers name (λ e i at_e. (named.readers e i at_e).0)
      (may_be_called 7 names.readers names.writers name may).all name.end entity at refl in
      sym one.reliable ∙ (named.readers name.end entity at).1

  -- all are named once it is
  pub reader_named : AreAllNamed (with_reader_end roster name.end name.guid name.reliable writer)
      (record names { readers = with_name names.readers name })
  unfolding still_named_so
  reader_named = record {
    writers = λ e entity at.
        named_as names.writers e (roster.prefix e.peer) _ entity
        (prefix_stays roster.prefix roster.writers name.end name.guid writers_beside e entity at)
        (named.writers e entity at);
    readers = λ e entity at.
        ⊎_elim
        (λ new.
        let k = now_known names.readers name (may_be_called 7 names.readers names.writers name may).all in (
          record {
            name = k.0;
            among = k.1;
            end = k.2 ∙ sym new.0;
            guid =
                k.3
                ∙ guid_from name.guid _ (sym (far_prefix roster.prefix roster.readers name.end name.guid e new.0))
                new.1;
          },
          k.4
              ∙ sym (ap (λ (x : Endpoint). (with_reader_end roster name.end name.guid name.reliable writer).is_reliable x)
              new.0
              ∙ reliable_here roster name.end name.guid name.reliable writer writers_beside readers_agree reliable_before),
        ))
        (λ there.
        let has = named.readers e entity there in (
          still_named_so names.readers name e (roster.prefix e.peer) _ entity
              (prefix_stays roster.prefix roster.readers name.end name.guid readers_agree.peers e entity there) has.0,
          has.1
              ∙ sym (reliable_there roster name.end name.guid name.reliable writer writers_beside readers_agree
              reliable_before e entity there),
        ))
        (newcomer_or_there roster.prefix roster.readers name.end name.guid e entity at);
  }
