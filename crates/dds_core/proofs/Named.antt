-- Whom a submessage names, by the rows of a reader and by the roster.
use Rattle.std.proofs.Common.{◌≡◌, ℕ, zero, suc, ◌+◌, ◌<◌, List, Some, slice_get, refl, ap, ◌∙◌, arith}
use Rattle.dds_protocol.specs.Roster.{Roster}
use Rattle.dds_base.specs.declared.guid.EntityId.{EntityId}
use Rattle.dds_base.specs.declared.guid.Guid.{Guid}
use Rattle.dds_protocol.specs.Claims.{Receiver, IsToReader}
use Rattle.dds_protocol.specs.Peer.{Peer}
use Rattle.dds_ends.specs.declared.matching.WriterName.{WriterName}
use Rattle.dds_ends.specs.Identity.{IsReaderOf, reader_identity}
use Rattle.dds_ends.specs.Kept.{ReaderKept}
use Rattle.dds_core.specs.Kept.{PeerKept}
use Rattle.dds_ends.specs.Readiness.{IsFirstName, IsNamedFor}
use Rattle.dds_ends.specs.Standing.{IsFirstRow}
use Rattle.dds_core.specs.Standing.{StandsFor}
use Rattle.dds_ends.specs.MatchedEnds.{IsWriterNamed}
use Rattle.dds_core.proofs.Names.{one_guid, own_end, own_reader_is}

-- ---- from a row to the roster

-- the first row of a name is the first one of its writer
pub first_row : (roster : Roster) (peer : Peer) (kept : PeerKept) (s : StandsFor kept roster peer) (i : ℕ)
    (k : ReaderKept) → slice_get kept.readers i ≡ Some k → (guid : Guid) (n : ℕ) (f : IsFirstName k.writers guid n)
    → IsFirstRow k.writers f.name.writer n
first_row roster peer kept s i k at_k guid n f =
    let own : IsReaderOf roster (own_end peer.number i) (reader_identity k) =
    own_reader_is roster peer.number kept s.is_peer i k at_k in
    record {
      name = f.name;
      at = f.at;
      is = refl;
      first =
          λ j x lt at_x same. f.first j x lt at_x
          (one_guid roster x.guid f.name.guid x.writer f.name.writer (own.writers j x at_x).is
          (own.writers n f.name f.at).is same ∙ f.named);
    }

-- the submessage is to the reader of this index from the writer of its row
abbrev pub is_to : (roster : Roster) (peer : Peer) (kept : PeerKept) (s : StandsFor kept roster peer) (i : ℕ)
    (k : ReaderKept) → slice_get kept.readers i ≡ Some k → (at : Receiver) (reader_id writer_id : EntityId) (n : ℕ)
    (here : IsNamedFor kept.prefix k at reader_id writer_id n)
    → IsToReader roster kept.prefix at reader_id writer_id here.first.name.writer
    (record { peer = peer.number; number = suc i })
is_to roster peer kept s i k at_k at reader_id writer_id n here =
    let own : IsReaderOf roster (own_end peer.number i) (reader_identity k) =
    own_reader_is roster peer.number kept s.is_peer i k at_k in
    let name : WriterName = here.first.name in
    let named : IsWriterNamed roster (own_end peer.number i) name = own.writers n name here.first.at in
    record {
      from =
          record {
            same_prefix = named.is.same_prefix ∙ ap (λ (g : Guid). g.prefix) here.first.named;
            at_writer = named.is.at_writer ∙ ap (λ (g : Guid). Some g.entity) here.first.named;
          };
      is_for = here.is_for;
      entity = k.entity;
      to = record { same_prefix = s.is_peer.prefix; at_reader = own.entity };
      named = here.named;
      matched = named.matched;
    }

-- ---- from a name to a row

-- of a name that stands in a list one stands first
pub first_name : (names : List WriterName) (guid : Guid) (j : ℕ) (name : WriterName) → slice_get names j ≡ Some name
    → name.guid ≡ guid → ((k : ℕ) → IsFirstName names guid k → ⊥) → ⊥
first_name names guid j name at is none = least j (λ i lt x at_x e. omega (arith, lt))
  where
    -- there is none before a number, up to j
    least : (fuel : ℕ) → ((i : ℕ) → i + fuel < j → (x : WriterName) → slice_get names i ≡ Some x → x.guid ≡ guid → ⊥)
        → ⊥
    least zero before =
        none j (record {
          name = name;
          at = at;
          named = is;
          first = λ i x lt at_x e. before i
              (omega (arith, lt)) x at_x e;
        })
    least (suc fuel) before =
        least fuel
        (λ i lt x at_x e. none i
        (record {
          name = x;
          at = at_x;
          named = e;
          first = λ h y low at_y f. before h
              (omega (arith, lt, low)) y at_y f;
        }))
