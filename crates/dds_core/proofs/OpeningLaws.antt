-- A peer at its opening: each of its writers and readers in its turn, and all of them at once.
use Rattle.std.proofs.Common.{◌≡◌, ℕ, zero, suc, ◌+◌, ◌-◌, ◌^◌, ◌<◌, ◌≤◌, List, [], ◌∷◌, ◌++◌, Some, None, map, take, length, get_or, slice_get, refl, subst, ap, sym, ◌∙◌, ⊎_elim, arith, eq-eqb}
use Rattle.std.proofs.lemmas.List.{length-map, length-append, take_more}
use Rattle.std.proofs.lemmas.Option.{same_Some, slice_get-get_or}
use Rattle.dds_base.specs.declared.config.Config.{Config}
use Rattle.dds_base.specs.declared.config.PeerConfig.{PeerConfig}
use Rattle.dds_base.specs.declared.config.WriterConfig.{WriterConfig}
use Rattle.dds_base.specs.declared.config.ReaderConfig.{ReaderConfig}
use Rattle.dds_base.specs.declared.endpoint.Endpoint.{Endpoint}
use Rattle.dds_base.specs.Bounds.{greatest_value}
use Rattle.dds_base.specs.Checked.{check_refusal}
use Rattle.dds_base.specs.Matched.{any_writer}
use Rattle.dds_conditions.specs.Watched.{Watched, opened}
use Rattle.dds_machine.specs.Opening.{matched_writers, reader_from, writer_from}
use Rattle.dds_protocol.specs.Coming.{coming_peer}
use Rattle.dds_protocol.specs.Opening.{opening_peers}
use Rattle.dds_machine.specs.Part.{Names, Writer, Reader, WriterProxy, no_writer, no_reader}
use Rattle.rtps_reader.specs.Tracked.{fresh}
use Rattle.dds_protocol.specs.Contact.{no_contact}
use Rattle.dds_protocol.specs.Protocol.{knows_nothing}
use Rattle.dds_protocol.specs.Peer.{Peer, no_peer}
use Rattle.dds_protocol.specs.Claims.{IsNumbered}
use Rattle.dds_protocol.specs.Roster.{AreGood, ComeFirst, IsRoster, Roster, roster_of}
use Rattle.dds_protocol.proofs.Listed.{StandsIn, matched_is, numbered_on, prefix_is, reader_is, reliable_is, writer_is, writer_named}
use Rattle.dds_protocol.proofs.Rosters.{configs_are_good, good_are_rosters}
use Rattle.dds_ends.specs.Kept.{WriterKept, ReaderKept}
use Rattle.dds_ends.specs.declared.matching.WriterName.{WriterName}
use Rattle.dds_ends.specs.EndNames.{writer_name, writer_names}
use Rattle.dds_ends.specs.Identity.{ReaderIdentity, WriterIdentity, writer_identity, reader_identity, configured_writer, configured_reader, IsReaderOf, IsWriterOf}
use Rattle.dds_ends.specs.MatchedEnds.{AreKnownWriters, IsWriterNamed}
use Rattle.dds_core.specs.Identity.{AreAllNamed, AreRowsOnce, IsPeerOf, IsWithin}
use Rattle.dds_core.specs.Kept.{PeerKept}
use Rattle.dds_core.specs.Opening.{InRosters, InRostersAt, opening_peer}
use Rattle.dds_ends.specs.OpeningEnds.{OpensWriter, OpensReader}
use Rattle.dds_core.specs.OpeningEnds.{HasFrom, OpensEach, OpensCore, begun}
use Rattle.dds_ends.specs.Standing.{WriterStands, ReaderStands, WritersStand, ReadersStand}
use Rattle.dds_core.specs.Standing.{StandsFor}
use Rattle.dds_ends.proofs.Lists.{element, get-map}
use Rattle.dds_ends.proofs.MatchedAt.{all_opened, ends_opened}
use Rattle.dds_ends.proofs.Numbered.{IsRest, is_told}
use Rattle.dds_ends.proofs.Once.{writers_once}
use Rattle.dds_ends.proofs.Alike.{last-cases, partner}
use Rattle.dds_core.proofs.Behind.{are_named_from, from_on, named_from, part_is_roster, rest_from, within_all}
use Rattle.dds_core.proofs.Limited.{limited}
use Rattle.dds_core.proofs.Tellable.{tellable_opening}
use Rattle.dds_core.proofs.Within.{peer_in_whole}

-- ---- one element more

-- each element of a list and that of the same index in another are so related
abbrev Pairs : {X Y : Type 0} → (X → Y → Type 0) → List X → List Y → Type 0
Pairs {X} {Y} R xs ys = (i : ℕ) (x : X) (y : Y) → slice_get xs i ≡ Some x → slice_get ys i ≡ Some y → R x y

pairs_last : {X Y : Type 0} (R : X → Y → Type 0) (xs : List X) (ys : List Y) (x : X) (y : Y) → length ys ≡ length xs
    → Pairs R xs ys → R x y → Pairs R (xs ++ x ∷ []) (ys ++ y ∷ [])
pairs_last R xs ys x y count each new i a b at_a at_b =
    ⊎_elim
    (λ s.
    ⊎_elim
    (λ t. subst (λ c. R c b) s.1 (subst (λ c. R x c) t.1 new))
    (λ t. let lt = t.0 in let same = s.0 in absurd (omega (arith, lt, same, count)))
    (last-cases ys y i b at_b))
    (λ s.
    ⊎_elim (λ t. let lt = s.0 in let same = t.0 in absurd (omega (arith, lt, same, count))) (λ t. each i a b s.1 t.1)
    (last-cases ys y i b at_b))
    (last-cases xs x i a at_a)

pairs_more : {X Y : Type 0} (R : X → Y → Type 0) (xs : List X) (ys zs : List Y) (i : ℕ) (d : X) (y : Y) → i < length xs
    → length ys ≡ length (take i xs) → Pairs R (take i xs) ys → zs ≡ ys ++ y ∷ [] → R (get_or xs i d) y
    → Pairs R (take (i + 1) xs) zs
pairs_more {X} {Y} R xs ys zs i d y lt count each more new =
    subst (λ (us : List X). Pairs R us zs) (sym (take_more xs i d lt))
    (subst (λ (bs : List Y). Pairs R (take i xs ++ get_or xs i d ∷ []) bs) (sym more)
    (pairs_last R (take i xs) ys (get_or xs i d) y count each new))

count_more : {X Y : Type 0} (xs : List X) (ys zs : List Y) (i : ℕ) (d : X) (y : Y) → i < length xs
    → length ys ≡ length (take i xs) → zs ≡ ys ++ y ∷ [] → length zs ≡ length (take (i + 1) xs)
count_more {X} {Y} xs ys zs i d y lt count more =
    let now = ap (λ (us : List X). length us) (take_more xs i d lt) in
    let all = ap (λ (bs : List Y). length bs) more in
    let first = length-append (take i xs) (get_or xs i d ∷ []) in
    let second = length-append ys (y ∷ []) in
    omega (arith, now, all, first, second, count)

pub opens_more : {C K : Type 0} (Opens : C → K → Type 0) (configs : List C) (old new : List K) (i : ℕ) (c : C) (k : K)
    → i < length configs → OpensEach Opens (take i configs) old → new ≡ old ++ k ∷ [] → Opens (get_or configs i c) k
    → OpensEach Opens (take (i + 1) configs) new
opens_more Opens configs old new i c k lt opened more one = record {
  count = count_more configs old new i c k lt opened.count more;
  each = pairs_more Opens configs old new i c k lt opened.count opened.each more one;
}

-- what opens so opens as well so
pub opens_as : {C K : Type 0} {P Q : C → K → Type 0} (configs : List C) (kept : List K)
    → ((c : C) (k : K) → P c k → Q c k) → OpensEach P configs kept → OpensEach Q configs kept
opens_as configs kept as_well h = record {
  count = h.count;
  each = λ i c k at_c at_k. as_well c k (h.each i c k at_c at_k);
}

-- ---- all of them

mapped_at : {X Z : Type 0} (f : X → Z) (xs : List X) (i : ℕ) (x : X) (d : Z) → slice_get xs i ≡ Some x
    → f x ≡ get_or (map f xs) i d
mapped_at f [] i x d at = absurd cc
mapped_at f (a ∷ xs) zero x d at = ap f (sym (same_Some a x at))
mapped_at f (a ∷ xs) (suc i) x d at = mapped_at f xs i x d at

writers_stand : (first : ℕ) (peers : List PeerConfig) (ws : List WriterConfig) (kept : List WriterKept)
    → OpensEach (OpensWriter first peers) ws kept
    → WritersStand kept (map (writer_from first peers) ws) (λ n r. no_contact)
writers_stand first peers ws kept opened = record {
  count = length-map ws (writer_from first peers) ∙ sym opened.count;
  each = λ i k at.
      let w = partner ws kept i k opened.count at in
      subst (λ (v : Writer). WriterStands k v (λ r. no_contact)) (mapped_at (writer_from first peers) ws i w.0 no_writer w.1)
      (opened.each i w.0 k w.1 at).stands;
}

readers_stand : (first : ℕ) (peers : List PeerConfig) (rs : List ReaderConfig) (kept : List ReaderKept)
    → OpensEach (OpensReader first peers) rs kept
    → ReadersStand kept (map (λ (r : ReaderConfig). matched_writers r.topic first peers) rs)
    (map (reader_from first peers) rs)
    knows_nothing
readers_stand first peers rs kept opens =
    let proxies : ReaderConfig → List WriterProxy = λ r. matched_writers r.topic first peers in
    let opened : ReaderConfig → Reader = reader_from first peers in
    record {
      rows = length-map rs proxies ∙ sym opens.count;
      count = length-map rs opened ∙ sym opens.count;
      each = λ i k at.
          let r = partner rs kept i k opens.count at in
          subst (λ (ps : List WriterProxy). ReaderStands k ps (get_or (map opened rs) i no_reader) (λ w. fresh))
          (mapped_at proxies rs i r.0 [] r.1)
          (subst (λ (v : Reader). ReaderStands k (proxies r.0) v (λ w. fresh)) (mapped_at opened rs i r.0 no_reader r.1)
          (opens.each i r.0 k r.1 at).stands);
    }

-- ---- who they are

-- what stands at an index has the number after it
is_numbered : {X : Type 0} (xs : List X) (index number : ℕ) (x : X) → number ≡ index + 1 → slice_get xs index ≡ Some x
    → IsNumbered xs number x
is_numbered xs index number x is at =
    let same : index ≡ number - 1 = omega (arith, is) in
    (omega (arith, is), subst (λ (k : ℕ). slice_get xs k ≡ Some x) same at)

-- these peers stand in the configuration, from a number on
module _ (config : Config) (first : ℕ) (peers : List PeerConfig) (rest : IsRest config.peers first peers) where
  -- the writers that a reader is opened with are those of its topic
  writers_opened : (reader : Endpoint) (r : ReaderConfig)
      → StandsIn (λ (p : PeerConfig). p.readers) config.peers reader r
      → AreKnownWriters (roster_of config) reader (writer_names r.topic first peers)
  writers_opened reader r own i n at =
      let f =
      is_told config.peers (λ (p : PeerConfig). p.writers) any_writer (λ (w : WriterConfig). w.topic) writer_name r.topic
      first peers rest i n at in
      let writer : Endpoint = record { peer = f.number; number = f.end_number } in
      subst (λ (x : WriterName). IsWriterNamed (roster_of config) reader x) f.told
      (record {
        is = writer_named config writer f.peer f.end f.at_peer f.at_end;
        matched =
            matched_is config writer reader f.peer own.peer f.end r f.at_peer f.at_end own.at_peer own.at_end
            ∙ eq-eqb f.end.topic r.topic f.same_topic;
      })

  -- a writer at its opening is one of the roster
  opened_is : (writer : Endpoint) (w : WriterConfig)
      → StandsIn (λ (p : PeerConfig). p.writers) config.peers writer w
      → IsWriterOf (roster_of config) writer (configured_writer first peers w)
  opened_is writer w own = record {
    entity = writer_is config writer own.peer w own.at_peer own.at_end;
    known = all_opened config first peers rest writer w own;
    ends = ends_opened config first peers rest writer w own;
  }

  -- a reader at its opening is one of the roster
  opened_reader_is : (reader : Endpoint) (r : ReaderConfig)
      → StandsIn (λ (p : PeerConfig). p.readers) config.peers reader r
      → IsReaderOf (roster_of config) reader (configured_reader first peers r)
  opened_reader_is reader r own = record {
    entity = reader_is config reader own.peer r own.at_peer own.at_end;
    reliable = reliable_is config reader own.peer r own.at_peer own.at_end;
    writers = writers_opened reader r own;
  }

  -- the peer of an index stands in the roster
  module _ (index : ℕ) (own : PeerConfig) (at : slice_get peers index ≡ Some own) where
    pub here : IsNumbered config.peers (first + index) own
    here = let low = rest.low in (omega (arith, low), rest.there index own at)

    -- the end of this index
    end_of : {X : Type 0} (ends : PeerConfig → List X) (i : ℕ) (x : X) → slice_get (ends own) i ≡ Some x
        → StandsIn ends config.peers (record { peer = first + index; number = i + 1 }) x
    end_of ends i x at_x =
        record { peer = own; at_peer = here; at_end = is_numbered (ends own) i (i + 1) x refl at_x }

    -- what is so of each writer as it is configured is so of each that is opened
    each_writer : (writers : List WriterKept) → OpensEach (OpensWriter first peers) own.writers writers
        → (Is : ℕ → WriterIdentity → Type 0)
        → ((i : ℕ) (w : WriterConfig) → slice_get own.writers i ≡ Some w → Is i (configured_writer first peers w))
        → (i : ℕ) (x : WriterIdentity) → slice_get (map writer_identity writers) i ≡ Some x → Is i x
    each_writer writers ws Is each i x at_x =
        let f = get-map writer_identity writers i x at_x in
        let w = partner own.writers writers i f.0 ws.count f.1 in
        subst (λ (y : WriterIdentity). Is i y) (sym (ws.each i w.0 f.0 w.1 f.1).identity ∙ f.2) (each i w.0 w.1)

    -- and so it is of the readers
    each_reader : (readers : List ReaderKept) → OpensEach (OpensReader first peers) own.readers readers
        → (Is : ℕ → ReaderIdentity → Type 0)
        → ((i : ℕ) (r : ReaderConfig) → slice_get own.readers i ≡ Some r → Is i (configured_reader first peers r))
        → (i : ℕ) (x : ReaderIdentity) → slice_get (map reader_identity readers) i ≡ Some x → Is i x
    each_reader readers rs Is each i x at_x =
        let f = get-map reader_identity readers i x at_x in
        let r = partner own.readers readers i f.0 rs.count f.1 in
        subst (λ (y : ReaderIdentity). Is i y) (sym (rs.each i r.0 f.0 r.1 f.1).identity ∙ f.2) (each i r.0 r.1)

    pub peer_begun : (writers : List WriterKept) (readers : List ReaderKept) → IsRoster (roster_of config)
        → ((i : ℕ) (w : WriterConfig) → slice_get own.writers i ≡ Some w → w.max_value ≤ greatest_value)
        → OpensEach (OpensWriter first peers) own.writers writers
        → OpensEach (OpensReader first peers) own.readers readers
        → IsPeerOf (roster_of config) (first + index) (record {
          prefix = own.prefix;
          writers = map writer_identity writers;
          readers = map reader_identity readers;
        })
    peer_begun writers readers good small ws rs = record {
      is_roster = good;
      prefix = prefix_is config (first + index) own here;
      writers = each_writer writers ws
          (λ i x. IsWriterOf (roster_of config) (record { peer = first + index; number = i + 1 }) x)
          (λ i w at_w. opened_is (record { peer = first + index; number = i + 1 }) w
          (end_of (λ (p : PeerConfig). p.writers) i w at_w));
      limited = each_writer writers ws (λ i x. x.max_value ≤ greatest_value) (λ i w at_w. small i w at_w);
      readers = each_reader readers rs
          (λ i x. IsReaderOf (roster_of config) (record { peer = first + index; number = i + 1 }) x)
          (λ i r at_r. opened_reader_is (record { peer = first + index; number = i + 1 }) r
          (end_of (λ (p : PeerConfig). p.readers) i r at_r));
      once = each_reader readers rs (λ i x. AreRowsOnce x.writers) (λ i r at_r. writers_once r.topic first peers);
    }

-- ---- what they stand for

-- a peer of this configuration that keeps these
abbrev pub opened_as : PeerConfig → ℕ → List WriterKept → List ReaderKept → Names → Watched → PeerKept
opened_as own moment writers readers names watch = record {
  prefix = own.prefix;
  moment = moment;
  writers = writers;
  readers = readers;
  names = names;
  watch = watch;
}

stands_begun : (all : Config) (first : ℕ) (peers : List PeerConfig) (index moment : ℕ) (own : PeerConfig)
    (writers : List WriterKept) (readers : List ReaderKept) (names : Names) (watch : Watched) → 1 ≤ first
    → AreGood all.peers → HasFrom all first peers → slice_get peers index ≡ Some own
    → moment ≡ 0 → names ≡ named_from first peers
    → watch ≡ opened (length writers) (length readers)
    → OpensEach (OpensWriter first peers) own.writers writers
    → OpensEach (OpensReader first peers) own.readers readers
    → StandsFor (opened_as own moment writers readers names watch) (roster_of all) (begun first peers own index)
stands_begun all first peers index moment own writers readers names watch low good has at begins named watches ws rs =
    let whole : Roster = roster_of all in
    let known : Config = from_on first peers in
    let is_within : IsWithin (roster_of known) whole = within_all all first peers low has in
    let of_whole : IsRoster whole = good_are_rosters all good in
    let numbered : IsNumbered all.peers (first + index) own = has index own at in
    let rest : IsRest known.peers first peers = rest_from first peers low in
    let is_known = peer_begun known first peers rest index own at writers readers
    (part_is_roster (roster_of known) whole is_within of_whole)
    (λ i w at_w. limited all.peers good (first + index - 1) own numbered.1 i w at_w) ws rs in
    let same : whole.prefix (first + index) ≡ (roster_of known).prefix (first + index) =
    prefix_is all (first + index) own numbered
    ∙ sym (prefix_is known (first + index) own (here known first peers rest index own at)) in
    record {
      is_peer = peer_in_whole (roster_of known) whole is_within (first + index) _ of_whole same is_known;
      knows = record {
        known = roster_of known;
        is_peer = is_known;
        is_within = is_within;
        named = subst (λ (ns : Names). AreAllNamed (roster_of known) ns) (sym named) (are_named_from first peers low);
      };
      moment = sym begins;
      early = subst (λ (m : ℕ). m < 2 ^ 63) (sym begins) (omega arith);
      writers = writers_stand first peers own.writers writers ws;
      readers = readers_stand first peers own.readers readers rs;
      names = sym named;
      tellable = tellable_opening first peers own;
      watch =
          sym (watches ∙ (ap (λ (n : ℕ). opened n (length readers)) ws.count
          ∙ ap (λ (n : ℕ). opened (length own.writers) n) rs.count));
    }

pub opens_core : (first : ℕ) (peers : List PeerConfig) (index moment : ℕ) (own : PeerConfig)
    (writers : List WriterKept) (readers : List ReaderKept) (names : Names) (watch : Watched) → index < length peers
    → 1 ≤ first → own ≡ get_or peers index own → moment ≡ 0 → names ≡ named_from first peers
    → watch ≡ opened (length writers) (length readers) → OpensEach (OpensWriter first peers) own.writers writers
    → OpensEach (OpensReader first peers) own.readers readers
    → OpensCore first peers index (opened_as own moment writers readers names watch)
opens_core first peers index moment own writers readers names watch within low is begins named watches ws rs all p good
    has at =
    let own_at : slice_get peers index ≡ Some own =
    slice_get-get_or peers index own within ∙ ap (λ (x : PeerConfig). Some x) (sym is) in
    subst (λ (x : PeerConfig). StandsFor (opened_as own moment writers readers names watch) (roster_of all)
    (begun first peers x index)) (same_Some own p (sym own_at ∙ at))
    (stands_begun all first peers index moment own writers readers names watch low good has own_at begins named watches
    ws rs)

-- ---- a peer of a configuration

opening_at : (peers : List PeerConfig) (n : ℕ) (ps : List PeerConfig) (i : ℕ) (p : PeerConfig) → slice_get ps i ≡ Some p
    → record (begun 1 peers p 0) { number = n + i } ≡ get_or (opening_peers peers n ps) i no_peer
opening_at peers n [] i p at = absurd cc
opening_at peers n (q ∷ ps) zero p at =
    let number : n + 0 ≡ n = omega arith in ap (λ (k : ℕ). record (begun 1 peers p 0) { number = k }) number
    ∙ ap (λ (x : PeerConfig). record (begun 1 peers x 0) { number = n }) (sym (same_Some q p at))
opening_at peers n (q ∷ ps) (suc i) p at =
    let number : n + suc i ≡ n + 1 + i = omega arith in ap (λ (k : ℕ). record (begun 1 peers p 0) { number = k }) number
    ∙ opening_at peers (n + 1) ps i p at

opening_is : (config : Config) (index : ℕ) (own : PeerConfig) → slice_get config.peers index ≡ Some own
    → begun 1 config.peers own index ≡ opening_peer config (index + 1)
opening_is config index own at =
    let number : suc index ≡ index + 1 = omega arith in
    opening_at config.peers 1 config.peers index own at ∙ ap (λ (k : ℕ). opening_peer config k) number

-- those in which the peers of a configuration come first have them from 1 on
has_first : (config all : Config) → ComeFirst config all → HasFrom all 1 config.peers
has_first config all first i p at =
    let same : i ≡ 1 + i - 1 = omega arith in
    numbered_on config all first (1 + i) p
    (omega arith, subst (λ (k : ℕ). slice_get config.peers k ≡ Some p) same at)

-- in each of them it stands for its opening
pub opens_in : (config : Config) (index : ℕ) (kept : PeerKept) → OpensCore 1 config.peers index kept
    → index < length config.peers → InRosters config (λ roster. StandsFor kept roster (opening_peer config (index + 1)))
opens_in config index kept opens within all first good =
    let own = element config.peers index within in
    subst (λ (p : Peer). StandsFor kept (roster_of all) p) (opening_is config index own.0 own.1)
    (opens all own.0 good (has_first config all first) own.1)

-- the configuration is one of them
pub opens_itself : (config : Config) (P : Roster → Type 0) → check_refusal config.peers ≡ None → InRosters config P
    → P (roster_of config)
opens_itself config P checked h = h config ([], append_none config.peers) (configs_are_good config checked)
  where
    append_none : (ps : List PeerConfig) → ps ≡ ps ++ []
    append_none [] = refl
    append_none (p ∷ ps) = ap (λ (qs : List PeerConfig). p ∷ qs) (append_none ps)

-- ---- a peer that comes

-- these have the one peer that comes
has_one : (all : Config) (number : ℕ) (p : PeerConfig) → IsNumbered all.peers number p → HasFrom all number (p ∷ [])
has_one all number p at zero q is =
    let same : number ≡ number + 0 = omega arith in
    subst (λ (k : ℕ). IsNumbered all.peers k q) same
    (subst (λ (x : PeerConfig). IsNumbered all.peers number x) (same_Some p q is) at)
has_one all number p at (suc i) q is = absurd cc

-- it stands for its coming
pub comes_in : (config : Config) (number : ℕ) (kept : PeerKept) → OpensCore number config.peers 0 kept
    → InRostersAt config number (λ roster p. StandsFor kept roster (coming_peer number p))
comes_in config number kept opens all p one good at =
    let own : OpensCore number (p ∷ []) 0 kept = subst (λ (ps : List PeerConfig). OpensCore number ps 0 kept) one opens in
    let same : number + 0 ≡ number = omega arith in
    subst (λ (k : ℕ). StandsFor kept (roster_of all) (record (coming_peer number p) { number = k })) same
    (own all p good (has_one all number p at) refl)
