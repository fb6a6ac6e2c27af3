-- A roster with one end more, of which the ends that it has agree: they are told apart from it, and stay what they are.
use Rattle.std.proofs.Common.{◌≡◌, ◌⊎◌, ℕ, ◌==◌, ◌&&◌, ◌||◌, Bool, true, false, Option, None, Some, refl, ap, sym, ◌∙◌, subst, inl, inr, ⊎_elim, eq-eqb, eqb-true}
use Rattle.std.specs.Prelude.{if◌then◌else◌}
use Rattle.std.proofs.lemmas.Option.{same_Some}
use Rattle.dds_base.specs.declared.endpoint.Endpoint.{Endpoint}
use Rattle.dds_base.specs.declared.guid.EntityId.{EntityId}
use Rattle.dds_base.specs.declared.guid.Guid.{Guid}
use Rattle.dds_base.specs.declared.guid.GuidPrefix.{GuidPrefix}
use Rattle.dds_base.specs.Checked.{has_kind, same_prefix, unknown_prefix}
use Rattle.dds_machine.specs.Part.{same_endpoint}
use Rattle.dds_machine.proofs.Tables.{same_is}
use Rattle.dds_protocol.specs.Claims.{IsReader, IsWriter}
use Rattle.dds_protocol.specs.Roster.{AreNamed, IsRoster, Roster}
use Rattle.dds_protocol.proofs.InOrder.{same_self}
use Rattle.dds_core.specs.Identity.{IsWithin}

-- ---- one kind of ends

-- the prefixes, with that of one end more
abbrev pub prefix_with : (ℕ → GuidPrefix) → Endpoint → Guid → ℕ → GuidPrefix
prefix_with prefix far guid n = if n == far.peer then guid.prefix else prefix n

-- the ends of its kind, with it
abbrev pub ends_with : (Endpoint → Option EntityId) → Endpoint → Guid → Endpoint → Option EntityId
ends_with ends far guid e = if same_endpoint e far then Some guid.entity else ends e

module _ (prefix : ℕ → GuidPrefix) (ends : Endpoint → Option EntityId) (far : Endpoint) (guid : Guid) where
  -- ends of its participant have its prefix
  abbrev pub AgreeOnPeers : Type 0
  AgreeOnPeers = (e : Endpoint) (entity : EntityId) → ends e ≡ Some entity → e.peer ≡ far.peer
      → prefix e.peer ≡ guid.prefix

  -- besides, one end has one GUID
  pub record AgreeOnEnds : Type 0 where
    pub peers : AgreeOnPeers
    pub apart : (e : Endpoint) (entity : EntityId) → ends e ≡ Some entity → prefix e.peer ≡ guid.prefix
        → entity ≡ guid.entity → e ≡ far
    pub same : (e : Endpoint) (entity : EntityId) → ends e ≡ Some entity → e ≡ far → entity ≡ guid.entity

  pub prefix_here : prefix_with prefix far guid far.peer ≡ guid.prefix
  prefix_here = ap (λ (b : Bool). if b then guid.prefix else prefix far.peer) (eq-eqb far.peer far.peer refl)

  -- the ends that there are keep their prefix ..
  pub prefix_stays : AgreeOnPeers → (e : Endpoint) (entity : EntityId) → ends e ≡ Some entity
      → prefix_with prefix far guid e.peer ≡ prefix e.peer
  prefix_stays agree e entity at = by (e.peer == far.peer) refl
    where
      by : (b : Bool) → (e.peer == far.peer) ≡ b → (if b then guid.prefix else prefix e.peer) ≡ prefix e.peer
      by true is = sym (agree e entity at (eqb-true e.peer far.peer is))
      by false is = refl

  pub end_here : ends_with ends far guid far ≡ Some guid.entity
  end_here = ap (λ (b : Bool). if b then Some guid.entity else ends far) (same_self far)

  -- .. and their entity
  pub end_stays : AgreeOnEnds → (e : Endpoint) (entity : EntityId) → ends e ≡ Some entity
      → ends_with ends far guid e ≡ Some entity
  end_stays agree e entity at = by (same_endpoint e far) refl
    where
      by : (b : Bool) → same_endpoint e far ≡ b → (if b then Some guid.entity else ends e) ≡ Some entity
      by true is = ap (λ (i : EntityId). Some i) (sym (agree.same e entity at (same_is e far is)))
      by false is = at

  -- each end is the newcomer, or was there
  pub newcomer_or_there : (e : Endpoint) (entity : EntityId) → ends_with ends far guid e ≡ Some entity
      → ((e ≡ far) × (guid.entity ≡ entity)) ⊎ (ends e ≡ Some entity)
  newcomer_or_there e entity = by (same_endpoint e far) refl
    where
      by : (b : Bool) → same_endpoint e far ≡ b → (if b then Some guid.entity else ends e) ≡ Some entity
          → ((e ≡ far) × (guid.entity ≡ entity)) ⊎ (ends e ≡ Some entity)
      by true is at = inl (same_is e far is, same_Some guid.entity entity at)
      by false is at = inr at

  pub far_prefix : (e : Endpoint) → e ≡ far → prefix_with prefix far guid e.peer ≡ guid.prefix
  far_prefix e is = ap (λ (x : Endpoint). prefix_with prefix far guid x.peer) is ∙ prefix_here

  -- no two have the same GUID then
  apart_with : AreNamed prefix ends → AgreeOnEnds → (a b : Endpoint) (entity : EntityId)
      → prefix_with prefix far guid a.peer ≡ prefix_with prefix far guid b.peer
      → ((a ≡ far) × (guid.entity ≡ entity)) ⊎ (ends a ≡ Some entity)
      → ((b ≡ far) × (guid.entity ≡ entity)) ⊎ (ends b ≡ Some entity) → a ≡ b
  apart_with named agree a b entity same (inl x) (inl y) = x.0 ∙ sym y.0
  apart_with named agree a b entity same (inl x) (inr y) =
      x.0 ∙ sym (agree.apart b entity y
      (sym (prefix_stays agree.peers b entity y) ∙ (sym same ∙ far_prefix a x.0)) (sym x.1))
  apart_with named agree a b entity same (inr x) (inl y) =
      agree.apart a entity x (sym (prefix_stays agree.peers a entity x) ∙ (same ∙ far_prefix b y.0)) (sym y.1)
      ∙ sym y.0
  apart_with named agree a b entity same (inr x) (inr y) =
      named.apart a b entity
      (sym (prefix_stays agree.peers a entity x) ∙ (same ∙ prefix_stays agree.peers b entity y)) x y

  known_there : AreNamed prefix ends → AgreeOnPeers → (a : Endpoint) (entity : EntityId) → ends a ≡ Some entity
      → same_prefix (prefix_with prefix far guid a.peer) unknown_prefix ≡ false
  known_there named agree a entity at =
      ap (λ (p : GuidPrefix). same_prefix p unknown_prefix) (prefix_stays agree a entity at) ∙ named.known a entity at

  pub named_with : AreNamed prefix ends → AgreeOnEnds → same_prefix guid.prefix unknown_prefix ≡ false
      → AreNamed (prefix_with prefix far guid) (ends_with ends far guid)
  named_with named agree known = record {
    apart = λ a b entity same x y.
        apart_with named agree a b entity same (newcomer_or_there a entity x) (newcomer_or_there b entity y);
    known = λ a entity x.
        ⊎_elim
        (λ new. ap (λ (p : GuidPrefix). same_prefix p unknown_prefix) (far_prefix a new.0) ∙ known)
        (λ there. known_there named agree.peers a entity there) (newcomer_or_there a entity x);
  }

  -- those of the other kind are named as before
  pub named_beside : AreNamed prefix ends → AgreeOnPeers → AreNamed (prefix_with prefix far guid) ends
  named_beside named agree = record {
    apart = λ a b entity same x y.
        named.apart a b entity (sym (prefix_stays agree a entity x) ∙ (same ∙ prefix_stays agree b entity y)) x y;
    known = known_there named agree;
  }

-- ---- rosters

-- whoever was matched still is
still_matched : (a b : Bool) → b ≡ true → (a || b) ≡ true
still_matched true b is = refl
still_matched false b is = is

-- this pair, or who was matched
pair_or_before : (w r writer reader : Endpoint) (before : Bool)
    → ((same_endpoint w writer && same_endpoint r reader) || before) ≡ true
    → ((w ≡ writer) × (r ≡ reader)) ⊎ (before ≡ true)
pair_or_before w r writer reader before = by (same_endpoint w writer) (same_endpoint r reader) refl refl
  where
    by : (a b : Bool) → same_endpoint w writer ≡ a → same_endpoint r reader ≡ b → ((a && b) || before) ≡ true
        → ((w ≡ writer) × (r ≡ reader)) ⊎ (before ≡ true)
    by true true x y h = inl (same_is w writer x, same_is r reader y)
    by true false x y h = inr h
    by false b x y h = inr h

pair_here : (writer reader : Endpoint) (before : Bool)
    → ((same_endpoint writer writer && same_endpoint reader reader) || before) ≡ true
pair_here writer reader before =
    ap (λ (b : Bool). (b && same_endpoint reader reader) || before) (same_self writer)
    ∙ ap (λ (b : Bool). b || before) (same_self reader)

-- ---- with a writer more

-- the roster, with a writer that is matched with this reader
abbrev pub with_writer_end : Roster → Endpoint → Guid → Endpoint → Roster
with_writer_end roster far guid reader = record {
  prefix = prefix_with roster.prefix far guid;
  writers = ends_with roster.writers far guid;
  readers = roster.readers;
  is_reliable = roster.is_reliable;
  are_matched = λ w r. (same_endpoint w far && same_endpoint r reader) || roster.are_matched w r;
}

module _ (roster : Roster) (far : Endpoint) (guid : Guid) (reader : Endpoint)
    (writers : AgreeOnEnds roster.prefix roster.writers far guid)
    (readers : AgreeOnPeers roster.prefix roster.readers far guid) where
  abbrev with_writer : Roster
  with_writer = with_writer_end roster far guid reader

  pub within_with_writer : IsWithin roster with_writer
  within_with_writer = record {
    writers = λ e entity at. record {
      same_prefix = prefix_stays roster.prefix roster.writers far guid writers.peers e entity at;
      at_writer = end_stays roster.prefix roster.writers far guid writers e entity at;
    };
    readers = λ e entity at. record {
      same_prefix = prefix_stays roster.prefix roster.readers far guid readers e entity at;
      at_reader = at;
    };
    reliable = λ e entity at. refl;
    matched = λ w r both.
        still_matched (same_endpoint w far && same_endpoint r reader) (roster.are_matched w r) both;
  }

  pub roster_with_writer : IsRoster roster → same_prefix guid.prefix unknown_prefix ≡ false → IsRoster with_writer
  roster_with_writer good known = record {
    writers = named_with roster.prefix roster.writers far guid good.writers writers known;
    readers = named_beside roster.prefix roster.readers far guid good.readers readers;
    kinds = good.kinds;
  }

  -- it is within each one that has the old ends and the writer, matched with the reader
  pub writer_within : (whole : Roster) → IsWithin roster whole → IsWriter whole guid.prefix guid.entity far
      → whole.are_matched far reader ≡ true → IsWithin with_writer whole
  writer_within whole old is both = record {
    writers = λ e entity at.
        ⊎_elim
        (λ new. record {
          same_prefix =
              ap (λ (x : Endpoint). whole.prefix x.peer) new.0
              ∙ (is.same_prefix ∙ (sym (prefix_here roster.prefix roster.writers far guid)
              ∙ sym (ap (λ (x : Endpoint). prefix_with roster.prefix far guid x.peer) new.0)));
          at_writer =
              ap (λ (x : Endpoint). whole.writers x) new.0
              ∙ (is.at_writer ∙ ap (λ (i : EntityId). Some i) new.1);
        })
        (λ there.
        let o = old.writers e entity there in
        record {
          same_prefix =
              o.same_prefix ∙ sym (prefix_stays roster.prefix roster.writers far guid writers.peers e entity there);
          at_writer = o.at_writer;
        })
        (newcomer_or_there roster.prefix roster.writers far guid e entity at);
    readers = λ e entity at.
        let o = old.readers e entity at in
        record {
          same_prefix =
              o.same_prefix ∙ sym (prefix_stays roster.prefix roster.readers far guid readers e entity at);
          at_reader = o.at_reader;
        };
    reliable = old.reliable;
    matched = λ w r h.
        ⊎_elim
        (λ pair. ap (λ (x : Endpoint). whole.are_matched x r) pair.0
        ∙ (ap (λ (x : Endpoint). whole.are_matched far x) pair.1 ∙ both))
        (λ before. old.matched w r before) (pair_or_before w r far reader (roster.are_matched w r) h);
  }

  pub has_writer : IsWriter with_writer guid.prefix guid.entity far
  has_writer = record {
    same_prefix = prefix_here roster.prefix roster.writers far guid;
    at_writer = end_here roster.prefix roster.writers far guid;
  }

  pub matches_writer : with_writer.are_matched far reader ≡ true
  matches_writer = pair_here far reader (roster.are_matched far reader)

-- ---- with a reader more

-- the roster, with a reader that is matched with this writer, and is reliable or not
abbrev pub with_reader_end : Roster → Endpoint → Guid → Bool → Endpoint → Roster
with_reader_end roster far guid reliable writer = record {
  prefix = prefix_with roster.prefix far guid;
  writers = roster.writers;
  readers = ends_with roster.readers far guid;
  is_reliable = λ e. if same_endpoint e far then reliable else roster.is_reliable e;
  are_matched = λ w r. (same_endpoint w writer && same_endpoint r far) || roster.are_matched w r;
}

module _ (roster : Roster) (far : Endpoint) (guid : Guid) (reliable : Bool) (writer : Endpoint)
    (writers : AgreeOnPeers roster.prefix roster.writers far guid)
    (readers : AgreeOnEnds roster.prefix roster.readers far guid)
    (as_before : (entity : EntityId) → roster.readers far ≡ Some entity → reliable ≡ roster.is_reliable far) where
  abbrev with_reader : Roster
  with_reader = with_reader_end roster far guid reliable writer

  pub reliable_there : (e : Endpoint) (entity : EntityId) → roster.readers e ≡ Some entity
      → with_reader.is_reliable e ≡ roster.is_reliable e
  reliable_there e entity at = by (same_endpoint e far) refl
    where
      by : (b : Bool) → same_endpoint e far ≡ b → (if b then reliable else roster.is_reliable e) ≡ roster.is_reliable e
      by true is =
          let same : e ≡ far = same_is e far is in
          as_before entity (sym (ap (λ (x : Endpoint). roster.readers x) same) ∙ at)
          ∙ sym (ap (λ (x : Endpoint). roster.is_reliable x) same)
      by false is = refl

  pub reliable_here : with_reader.is_reliable far ≡ reliable
  reliable_here = ap (λ (b : Bool). if b then reliable else roster.is_reliable far) (same_self far)

  pub within_with_reader : IsWithin roster with_reader
  within_with_reader = record {
    writers = λ e entity at. record {
      same_prefix = prefix_stays roster.prefix roster.writers far guid writers e entity at;
      at_writer = at;
    };
    readers = λ e entity at. record {
      same_prefix = prefix_stays roster.prefix roster.readers far guid readers.peers e entity at;
      at_reader = end_stays roster.prefix roster.readers far guid readers e entity at;
    };
    reliable = reliable_there;
    matched = λ w r both.
        still_matched (same_endpoint w writer && same_endpoint r far) (roster.are_matched w r) both;
  }

  pub roster_with_reader : IsRoster roster → same_prefix guid.prefix unknown_prefix ≡ false
      → has_kind 7 guid.entity ≡ true → IsRoster with_reader
  roster_with_reader good known kind = record {
    writers = named_beside roster.prefix roster.writers far guid good.writers writers;
    readers = named_with roster.prefix roster.readers far guid good.readers readers known;
    kinds = λ a entity at.
        ⊎_elim (λ new. ap (λ (i : EntityId). has_kind 7 i) (sym new.1) ∙ kind)
        (λ there. good.kinds a entity there) (newcomer_or_there roster.prefix roster.readers far guid a entity at);
  }

  -- it is within each one that has the old ends and the reader, matched with the writer, and as reliable
  pub reader_within : (whole : Roster) → IsWithin roster whole → IsReader whole guid.prefix guid.entity far
      → whole.is_reliable far ≡ reliable → whole.are_matched writer far ≡ true → IsWithin with_reader whole
  reader_within whole old is so both = record {
    writers = λ e entity at.
        let o = old.writers e entity at in
        record {
          same_prefix =
              o.same_prefix ∙ sym (prefix_stays roster.prefix roster.writers far guid writers e entity at);
          at_writer = o.at_writer;
        };
    readers = λ e entity at.
        ⊎_elim
        (λ new. record {
          same_prefix =
              ap (λ (x : Endpoint). whole.prefix x.peer) new.0
              ∙ (is.same_prefix ∙ (sym (prefix_here roster.prefix roster.readers far guid)
              ∙ sym (ap (λ (x : Endpoint). prefix_with roster.prefix far guid x.peer) new.0)));
          at_reader =
              ap (λ (x : Endpoint). whole.readers x) new.0
              ∙ (is.at_reader ∙ ap (λ (i : EntityId). Some i) new.1);
        })
        (λ there.
        let o = old.readers e entity there in
        record {
          same_prefix =
              o.same_prefix ∙ sym (prefix_stays roster.prefix roster.readers far guid readers.peers e entity there);
          at_reader = o.at_reader;
        })
        (newcomer_or_there roster.prefix roster.readers far guid e entity at);
    reliable = λ e entity at.
        ⊎_elim
        (λ new. ap (λ (x : Endpoint). whole.is_reliable x) new.0
        ∙ (so ∙ (sym reliable_here ∙ sym (ap (λ (x : Endpoint). with_reader.is_reliable x) new.0))))
        (λ there. old.reliable e entity there ∙ sym (reliable_there e entity there))
        (newcomer_or_there roster.prefix roster.readers far guid e entity at);
    matched = λ w r h.
        ⊎_elim
        (λ pair. ap (λ (x : Endpoint). whole.are_matched x r) pair.0
        ∙ (ap (λ (x : Endpoint). whole.are_matched writer x) pair.1 ∙ both))
        (λ before. old.matched w r before) (pair_or_before w r writer far (roster.are_matched w r) h);
  }

  pub has_reader : IsReader with_reader guid.prefix guid.entity far
  has_reader = record {
    same_prefix = prefix_here roster.prefix roster.readers far guid;
    at_reader = end_here roster.prefix roster.readers far guid;
  }

  pub matches_reader : with_reader.are_matched writer far ≡ true
  matches_reader = pair_here writer far (roster.are_matched writer far)
