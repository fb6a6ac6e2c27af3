-- The roster of a list of peers, by what stands in the list: a number has the prefix of its peer, and an end the entity
-- id of what stands there. What goes on behind the list has no part in that.
use Rattle.std.proofs.Common.{◌≡◌, ℕ, zero, suc, ◌-◌, ◌<◌, ◌==◌, true, false, Option, Some, None, List, [], ◌∷◌, ◌++◌, refl, sym, ◌∙◌, ap, subst, arith, eqb-true, length, slice_get}
use Rattle.std.specs.Prelude.{is_some}
use Rattle.std.specs.Option.{option_map, option_map_or}
use Rattle.std.proofs.lemmas.Option.{same_Some, slice_get_within}
use Rattle.dds_base.specs.declared.config.Config.{Config}
use Rattle.dds_base.specs.declared.config.PeerConfig.{PeerConfig}
use Rattle.dds_base.specs.declared.config.ReaderConfig.{ReaderConfig}
use Rattle.dds_base.specs.declared.config.WriterConfig.{WriterConfig}
use Rattle.dds_base.specs.declared.endpoint.Endpoint.{Endpoint}
use Rattle.dds_base.specs.declared.guid.EntityId.{EntityId}
use Rattle.dds_base.specs.Checked.{unknown_prefix}
use Rattle.dds_base.specs.Matched.{is_reliable_reader}
use Rattle.dds_machine.specs.Numbered.{HasNumber}
use Rattle.dds_machine.specs.Part.{Part}
use Rattle.dds_machine.proofs.Tables.{slice_get-append}
use Rattle.dds_protocol.specs.Claims.{IsNumbered, IsReader, IsWriter}
use Rattle.dds_protocol.specs.Dues.{IsPartOf}
use Rattle.dds_protocol.specs.Roster.{ComeFirst, are_of_one_topic, at_number, end_at, roster_of}

-- ---- the element of a number

-- it is what is found there
pub found_at : {X : Type 0} (xs : List X) (n : ℕ) (x : X) → IsNumbered xs n x → at_number xs n ≡ Some x
found_at xs zero x h = absurd (omega (arith, h.0))
found_at xs (suc i) x h = let index : i ≡ suc i - 1 = omega arith in ap (λ (k : ℕ). slice_get xs k) index ∙ h.1

-- and what is found there is it
pub numbered_at : {X : Type 0} (xs : List X) (n : ℕ) (x : X) → at_number xs n ≡ Some x → IsNumbered xs n x
numbered_at xs zero x h = absurd cc
numbered_at xs (suc i) x h =
    let index : suc i - 1 ≡ i = omega arith in (omega arith, ap (λ (k : ℕ). slice_get xs k) index ∙ h)

-- its number is one of the list's
pub has_number_at : {X : Type 0} (xs : List X) (n : ℕ) (x : X) → IsNumbered xs n x → HasNumber xs n
has_number_at xs n x h =
    let low = h.0 in
    let high = slice_get_within xs (n - 1) x h.1 in
    (low, omega (arith, low, high))

-- and each number of the list is that of an element
pub element_at : {X : Type 0} (xs : List X) (n : ℕ) → HasNumber xs n → (x : X) × IsNumbered xs n x
element_at {X = X} xs n h =
    let low = h.0 in
    let high = h.1 in
    let there = get xs (n - 1) (omega (arith, low, high)) in
    (there.0, (low, there.1))
  where
    get : (ys : List X) (i : ℕ) → i < length ys → (x : X) × (slice_get ys i ≡ Some x)
    get [] i lt = absurd (omega (arith, lt))
    get (y ∷ ys) zero lt = (y, refl)
    get (y ∷ ys) (suc i) lt = get ys i (omega (arith, lt))

-- ---- a list that goes on

-- what stands at a number of those that come first is one of them
pub first_get : {X : Type 0} (xs ys : List X) (i : ℕ) (x : X) → i < length xs → slice_get (xs ++ ys) i ≡ Some x
    → slice_get xs i ≡ Some x
first_get [] ys i x lt h = absurd (omega (arith, lt))
first_get (a ∷ as') ys zero x lt h = h
first_get (a ∷ as') ys (suc i) x lt h = first_get as' ys i x (omega (arith, lt)) h

-- a peer of a configuration has its number also in a roster that goes on behind it
pub numbered_on : (config roster : Config) → ComeFirst config roster → (n : ℕ) (p : PeerConfig)
    → IsNumbered config.peers n p → IsNumbered roster.peers n p
numbered_on config roster first n p h = (
  h.0,
  subst (λ (ps : List PeerConfig). slice_get ps (n - 1) ≡ Some p) (sym first.1)
      (slice_get-append config.peers first.0 (n - 1) p h.1),
)

-- and whoever has there a number of the configuration is its peer
pub numbered_first : (config roster : Config) → ComeFirst config roster → (n : ℕ) (p : PeerConfig)
    → HasNumber config.peers n → IsNumbered roster.peers n p → IsNumbered config.peers n p
numbered_first config roster first n p there h =
    let low = there.0 in
    let high = there.1 in (
      h.0,
      first_get config.peers first.0 (n - 1) p (omega (arith, low, high))
          (subst (λ (ps : List PeerConfig). slice_get ps (n - 1) ≡ Some p) first.1 h.1),
    )

-- ---- the end of a number, at the peer of one

-- it is found there
pub end_is : {X : Type 0} (ends : PeerConfig → List X) (peers : List PeerConfig) (e : Endpoint) (p : PeerConfig) (x : X)
    → IsNumbered peers e.peer p → IsNumbered (ends p) e.number x → end_at ends peers e ≡ Some x
end_is {X} ends peers e p x here there =
    ap (λ (o : Option PeerConfig). option_map_or (λ (q : PeerConfig). at_number (ends q) e.number) o None)
    (found_at peers e.peer p here) ∙ found_at (ends p) e.number x there

-- an end, and its peer, by their numbers
pub record StandsIn {X : Type 0} (ends : PeerConfig → List X) (peers : List PeerConfig) (e : Endpoint) (x : X)
    : Type 0 where
  pub peer : PeerConfig
  pub at_peer : IsNumbered peers e.peer peer
  pub at_end : IsNumbered (ends peer) e.number x

-- so stands what is found there
pub end_stands : {X : Type 0} (ends : PeerConfig → List X) (peers : List PeerConfig) (e : Endpoint) (x : X)
    → end_at ends peers e ≡ Some x → StandsIn ends peers e x
end_stands {X} ends peers e x h = by (at_number peers e.peer) refl h
  where
    by : (o : Option PeerConfig) → at_number peers e.peer ≡ o
        → option_map_or (λ (q : PeerConfig). at_number (ends q) e.number) o None ≡ Some x → StandsIn ends peers e x
    by None is k = absurd cc
    by (Some p) is k = record {
      peer = p;
      at_peer = numbered_at peers e.peer p is;
      at_end = numbered_at (ends p) e.number x k;
    }

-- ---- the roster of a list

-- it has the prefix of a peer
pub prefix_is : (config : Config) (n : ℕ) (p : PeerConfig) → IsNumbered config.peers n p
    → (roster_of config).prefix n ≡ p.prefix
prefix_is config n p h =
    ap (λ (o : Option PeerConfig). option_map_or (λ (q : PeerConfig). q.prefix) o unknown_prefix)
    (found_at config.peers n p h)

-- the entity id of a writer
pub writer_is : (config : Config) (w : Endpoint) (p : PeerConfig) (x : WriterConfig)
    → IsNumbered config.peers w.peer p → IsNumbered p.writers w.number x
    → (roster_of config).writers w ≡ Some x.entity
writer_is config w p x here there =
    ap (λ (o : Option WriterConfig). option_map (λ (y : WriterConfig). y.entity) o)
    (end_is (λ q. q.writers) config.peers w p x here there)

-- and of a reader
pub reader_is : (config : Config) (r : Endpoint) (p : PeerConfig) (x : ReaderConfig)
    → IsNumbered config.peers r.peer p → IsNumbered p.readers r.number x
    → (roster_of config).readers r ≡ Some x.entity
reader_is config r p x here there =
    ap (λ (o : Option ReaderConfig). option_map (λ (y : ReaderConfig). y.entity) o)
    (end_is (λ q. q.readers) config.peers r p x here there)

-- a reader is as reliable as it is
pub reliable_is : (config : Config) (r : Endpoint) (p : PeerConfig) (x : ReaderConfig)
    → IsNumbered config.peers r.peer p → IsNumbered p.readers r.number x
    → (roster_of config).is_reliable r ≡ is_reliable_reader x
reliable_is config r p x here there =
    ap (λ (o : Option ReaderConfig). option_map_or is_reliable_reader o false)
    (end_is (λ q. q.readers) config.peers r p x here there)

-- a writer and a reader are matched where they are of one topic
pub matched_is : (config : Config) (w r : Endpoint) (p q : PeerConfig) (x : WriterConfig) (y : ReaderConfig)
    → IsNumbered config.peers w.peer p → IsNumbered p.writers w.number x
    → IsNumbered config.peers r.peer q → IsNumbered q.readers r.number y
    → (roster_of config).are_matched w r ≡ (x.topic == y.topic)
matched_is config w r p q x y at_p at_x at_q at_y =
    ap (λ (o : Option WriterConfig). are_of_one_topic o (end_at (λ (o : PeerConfig). o.readers) config.peers r))
    (end_is (λ o. o.writers) config.peers w p x at_p at_x)
    ∙ ap (λ (o : Option ReaderConfig). are_of_one_topic (Some x) o)
    (end_is (λ o. o.readers) config.peers r q y at_q at_y)

-- a writer has its GUID
pub writer_named : (config : Config) (w : Endpoint) (p : PeerConfig) (x : WriterConfig)
    → IsNumbered config.peers w.peer p → IsNumbered p.writers w.number x
    → IsWriter (roster_of config) p.prefix x.entity w
writer_named config w p x here there =
    record { same_prefix = prefix_is config w.peer p here; at_writer = writer_is config w p x here there }

-- and so has a reader
pub reader_named : (config : Config) (r : Endpoint) (p : PeerConfig) (x : ReaderConfig)
    → IsNumbered config.peers r.peer p → IsNumbered p.readers r.number x
    → IsReader (roster_of config) p.prefix x.entity r
reader_named config r p x here there =
    record { same_prefix = prefix_is config r.peer p here; at_reader = reader_is config r p x here there }

-- it has the writers of a part that has as many as its peer
pub part_of_peer : (config : Config) (n : ℕ) (p : PeerConfig) (part : Part) → IsNumbered config.peers n p
    → length part.rtps.writers ≡ length p.writers → IsPartOf (roster_of config) n part
part_of_peer config n p part here as_many number has =
    let low = has.0 in
    let high = has.1 in
    let there = element_at p.writers number (low, omega (arith, high, as_many)) in
    ap (λ (o : Option EntityId). is_some o)
    (writer_is config (record { peer = n; number = number }) p there.0 here there.1)

-- ---- and back

-- a writer of this entity id stands in the list
pub record ListsWriter (config : Config) (w : Endpoint) (entity : EntityId) : Type 0 where
  pub end : WriterConfig
  pub stands : StandsIn (λ (p : PeerConfig). p.writers) config.peers w end
  pub same_entity : end.entity ≡ entity

-- so it does where the roster has it
pub lists_writer : (config : Config) (w : Endpoint) (entity : EntityId) → (roster_of config).writers w ≡ Some entity
    → ListsWriter config w entity
lists_writer config w entity h = by (end_at (λ p. p.writers) config.peers w) refl h
  where
    by : (o : Option WriterConfig) → end_at (λ (p : PeerConfig). p.writers) config.peers w ≡ o
        → option_map (λ (x : WriterConfig). x.entity) o ≡ Some entity → ListsWriter config w entity
    by None is k = absurd cc
    by (Some x) is k = record {
      end = x;
      stands = end_stands (λ (p : PeerConfig). p.writers) config.peers w x is;
      same_entity = same_Some x.entity entity k;
    }

-- a reader of this entity id stands in the list
pub record ListsReader (config : Config) (r : Endpoint) (entity : EntityId) : Type 0 where
  pub end : ReaderConfig
  pub stands : StandsIn (λ (p : PeerConfig). p.readers) config.peers r end
  pub same_entity : end.entity ≡ entity

pub lists_reader : (config : Config) (r : Endpoint) (entity : EntityId) → (roster_of config).readers r ≡ Some entity
    → ListsReader config r entity
lists_reader config r entity h = by (end_at (λ p. p.readers) config.peers r) refl h
  where
    by : (o : Option ReaderConfig) → end_at (λ (p : PeerConfig). p.readers) config.peers r ≡ o
        → option_map (λ (x : ReaderConfig). x.entity) o ≡ Some entity → ListsReader config r entity
    by None is k = absurd cc
    by (Some x) is k = record {
      end = x;
      stands = end_stands (λ (p : PeerConfig). p.readers) config.peers r x is;
      same_entity = same_Some x.entity entity k;
    }

-- a writer and a reader of one topic stand in the list
pub record ListsBoth (config : Config) (w r : Endpoint) : Type 0 where
  pub writer : WriterConfig
  pub at_writer : StandsIn (λ (p : PeerConfig). p.writers) config.peers w writer
  pub reader : ReaderConfig
  pub at_reader : StandsIn (λ (p : PeerConfig). p.readers) config.peers r reader
  pub one_topic : writer.topic ≡ reader.topic

-- so they do where they are matched
pub lists_both : (config : Config) (w r : Endpoint) → (roster_of config).are_matched w r ≡ true → ListsBoth config w r
lists_both config w r h =
    by (end_at (λ p. p.writers) config.peers w) (end_at (λ p. p.readers) config.peers r) refl refl h
  where
    by : (x : Option WriterConfig) (y : Option ReaderConfig)
        → end_at (λ (p : PeerConfig). p.writers) config.peers w ≡ x
        → end_at (λ (p : PeerConfig). p.readers) config.peers r ≡ y
        → are_of_one_topic x y ≡ true → ListsBoth config w r
    by None None is also k = absurd cc
    by None (Some y) is also k = absurd cc
    by (Some x) None is also k = absurd cc
    by (Some x) (Some y) is also k = record {
      writer = x;
      at_writer = end_stands (λ (p : PeerConfig). p.writers) config.peers w x is;
      reader = y;
      at_reader = end_stands (λ (p : PeerConfig). p.readers) config.peers r y also;
      one_topic = eqb-true x.topic y.topic k;
    }
