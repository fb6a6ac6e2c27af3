-- What is read can be written.
use Rattle.std.proofs.Common.{◌≡◌, ℕ, ◌<◌, ◌≤◌, ◌^◌, eqb, ltb, List, [], ◌∷◌, length, map, take, drop, Option, Some, None, refl, sym, ap, subst, ◌∙◌, arith}
use Rattle.std.specs.Prelude.{filter_map, zero, suc, slice_index, pos, FitsSigned, ◌&&◌}
use Rattle.std.specs.Int.{w32}
use Rattle.std.specs.List.{AllByRecursion}
use Rattle.std.specs.List.{cons_option}
use Rattle.std.proofs.lemmas.Bool.{ltb-true, ltb-false}
use Rattle.std.proofs.lemmas.List.{length-take}
use Rattle.dds_base.specs.declared.endianness.Endianness.{Endianness}
use Rattle.dds_base.specs.declared.guid.GuidPrefix.{GuidPrefix}
use Rattle.dds_base.specs.Fields.{number_at, octets_at}
use Rattle.dds_base.proofs.FieldLaws.{bind_some, guard_some, some_is, cond_is}
use Rattle.dds_base.specs.Policies.{infinite, no_time}
use Rattle.rtps_wire.specs.Parameters.{Parameter, parameter_value}
use Rattle.rtps_announcements.specs.Endpoints.{default_representations, SaysPartitions, SaysPolicies, ReadsEndpoint}
use Rattle.rtps_announcements.specs.Locators.{is_of_host, locator_at, locator_said, locators_of, or_else}
use Rattle.rtps_announcements.specs.Names.{max_locators, max_partitions, max_representations, pid_endpoint_guid}
use Rattle.rtps_announcements.specs.Participants.{ReadsParticipant}
use Rattle.rtps_announcements.specs.Values.{Says, AreListed, IsPadded, IsName, IsDuration, IsGuidOf, guid_text}
use Rattle.rtps_announcements.specs.Written.{IsLocator}
use Rattle.rtps_announcements.specs.WrittenEndpoints.{ArePolicies, IsWritableEndpoint}
use Rattle.rtps_announcements.specs.WrittenParticipants.{AreReachable, IsWritableParticipant}
use Rattle.rtps_announcements.specs.declared.endpoint.Endpoint.{Endpoint}
use Rattle.rtps_announcements.specs.declared.locator.Locator.{Locator}
use Rattle.rtps_announcements.specs.declared.participant.Participant.{Participant}
use Rattle.rtps_announcements.specs.declared.qos.EndpointKind.{EndpointKind}
use Rattle.rtps_announcements.proofs.WrittenAgain.{both_true}

-- ---- what is said fits

-- what must be said fits
said_fits : {X : Type 0} (text : X → List ℕ) (Fits : X → Type 0) (value : Option (List ℕ)) (x : X)
    → Says None text Fits value x → Fits x
said_fits text Fits None x h = absurd cc
said_fits text Fits (Some v) x h = h.0

-- what is said, or else the default, fits
or_default_fits : {X : Type 0} (d : X) (text : X → List ℕ) (Fits : X → Type 0) (value : Option (List ℕ)) (x : X)
    → Fits d → Says (Some d) text Fits value x → Fits x
or_default_fits d text Fits None x fits h = subst Fits (some_is d x h) fits
or_default_fits d text Fits (Some v) x fits h = h.0

-- ---- locators

octets_len : (n : ℕ) (bytes xs rest : List ℕ) → octets_at n bytes ≡ Some (xs, rest) → length xs ≡ n
unfolding octets_at
octets_len n bytes xs rest e =
    let g = guard_some (ltb (length bytes) n) (Some (take n bytes, drop n bytes)) (xs, rest) e in
    let same : take n bytes ≡ xs = ap (λ (p : List ℕ × List ℕ). p.0) (some_is _ _ g.1) in
    let long : n ≤ length bytes = ltb-false _ _ g.0 in
    ap length (sym same) ∙ omega (arith, length-take n bytes, long)

locator_is : (order : Endianness) (value : List ℕ) (l : Locator) → locator_at order value ≡ Some l → IsLocator l
unfolding locator_at
locator_is order value l e =
    let made : ℕ → List ℕ → Option Locator =
    λ port address. Some (record { address = address; port = port }) in
    let a = bind_some (number_at order w32 value) _ l e in
    let b = bind_some (number_at order w32 a.0.1) _ l a.2 in
    let c = bind_some (octets_at 12 b.0.1) _ l b.2 in
    let d = bind_some (octets_at 4 c.0.1) _ l c.2 in
    let len = octets_len 4 c.0.1 d.0.0 d.0.1 d.1 in
    let test = eqb a.0.0 1 && ltb 0 b.0.0 && ltb b.0.0 65536 && is_of_host (slice_index d.0.0 0) in
    cond_is {P = IsLocator l} test (made b.0.0 d.0.0) None (Some l) d.2
    (λ t s. let last = both_true (eqb a.0.0 1 && ltb 0 b.0.0 && ltb b.0.0 65536) (is_of_host (slice_index d.0.0 0)) t in
    let third = both_true (eqb a.0.0 1 && ltb 0 b.0.0) (ltb b.0.0 65536) last.0 in
    let second = both_true (eqb a.0.0 1) (ltb 0 b.0.0) third.0 in
    subst IsLocator (some_is _ l s) (record {
      address = len;
      host = last.1;
      port = ltb-true 0 b.0.0 second.1;
      small = ltb-true b.0.0 65536 third.1;
    })) (λ f s. absurd cc)

said_is : (order : Endianness) (id : ℕ) (p : Parameter) (l : Locator) → locator_said order id p ≡ Some l → IsLocator l
said_is order id p l e =
    cond_is {P = IsLocator l} (eqb p.id id) (locator_at order p.value) None (Some l) e
    (λ t s. locator_is order p.value l s) (λ f s. absurd cc)

each_is : (order : Endianness) (id : ℕ) (ps : List Parameter)
    → AllByRecursion IsLocator (filter_map (locator_said order id) ps)
each_is order id [] = tt
each_is order id (p ∷ ps) =
    by_said (locator_said order id p) (each_is order id ps) (λ l e. said_is order id p l e)
  where
    by_said : (o : Option Locator) → AllByRecursion IsLocator (filter_map (locator_said order id) ps)
        → ((l : Locator) → o ≡ Some l → IsLocator l)
        → AllByRecursion IsLocator (cons_option o (filter_map (locator_said order id) ps))
    by_said None others is = others
    by_said (Some l) others is = (is l refl, others)

each_taken : (n : ℕ) (ls : List Locator) → AllByRecursion IsLocator ls → AllByRecursion IsLocator (take n ls)
each_taken zero ls each = tt
each_taken (suc n) [] each = tt
each_taken (suc n) (l ∷ ls) each = (each.0, each_taken n ls each.1)

locators_are : (order : Endianness) (id : ℕ) (ps : List Parameter)
    → AreListed max_locators IsLocator (locators_of order id ps)
locators_are order id ps =
    let ls = filter_map (locator_said order id) ps in record {
      few = omega (arith, length-take max_locators ls);
      each = each_taken max_locators ls (each_is order id ps);
    }

-- ---- partitions

names_are : (padded : List (List ℕ × List ℕ)) → AllByRecursion IsPadded padded
    → AllByRecursion IsName (map (λ (x : List ℕ × List ℕ). x.0) padded)
names_are [] each = tt
names_are (x ∷ xs) each = (each.0.name, names_are xs each.1)

names_len : (padded : List (List ℕ × List ℕ)) → length (map (λ (x : List ℕ × List ℕ). x.0) padded) ≡ length padded
names_len [] = refl
names_len (x ∷ xs) = ap suc (names_len xs)

partitions_are : (order : Endianness) (value : Option (List ℕ)) (names : List (List ℕ))
    → SaysPartitions order value names → AreListed max_partitions IsName names
partitions_are order value names s =
    let fits : AreListed max_partitions IsPadded s.padded =
    or_default_fits [] _ (AreListed max_partitions IsPadded) value s.padded
    (record { few = omega arith; each = tt }) s.says in
    subst (λ (xs : List (List ℕ)). AreListed max_partitions IsName xs) s.are (record {
      few = omega (arith, names_len s.padded, fits.few);
      each = names_are s.padded fits.each;
    })

-- ---- endpoints and participants

infinite_fits : IsDuration infinite
infinite_fits = record { seconds = omega arith; fraction = omega arith }

no_time_fits : IsDuration no_time
no_time_fits = record { seconds = omega arith; fraction = omega arith }

policies_are : (kind : EndpointKind) (order : Endianness) (ps : List Parameter) (e : Endpoint)
    → SaysPolicies kind order ps e.policies → ArePolicies e.policies
policies_are kind order ps e s = record {
  lease = or_default_fits _ _ (λ l. IsDuration l.lease) _ e.policies.liveliness infinite_fits s.liveliness;
  strength = or_default_fits (pos 0) _ (λ z. FitsSigned w32 z) _ e.policies.strength (omega arith) s.strength;
  deadline = or_default_fits infinite _ IsDuration _ e.policies.deadline infinite_fits s.deadline;
  latency_budget = or_default_fits no_time _ IsDuration _ e.policies.latency_budget no_time_fits s.latency_budget;
}

pub endpoint_writable : (source : GuidPrefix) (kind : EndpointKind) (bytes : List ℕ) (e : Endpoint)
    → length source.0 ≡ 12 → ReadsEndpoint source kind bytes e → IsWritableEndpoint kind e
endpoint_writable source kind bytes e twelve r =
    let guid : IsGuidOf source e.guid =
    said_fits guid_text (IsGuidOf source) (parameter_value pid_endpoint_guid r.ps) e.guid r.guid in record {
      prefix = ap (λ (p : GuidPrefix). length p.0) guid.sender ∙ twelve;
      entity = guid.len;
      of_kind = r.of_kind;
      topic_name = said_fits _ IsName _ e.topic_name r.topic_name;
      type_name = said_fits _ IsName _ e.type_name r.type_name;
      locators = subst (λ (ls : List Locator). AreListed max_locators IsLocator ls) r.locators
          (locators_are r.order 0x002f r.ps);
      partitions = partitions_are r.order _ e.partitions r.partitions;
      representations = or_default_fits default_representations _
          (AreListed max_representations (λ id. id < 2 ^ 16)) _ e.representations
          (record { few = omega arith; each = (omega arith, tt) }) r.representations;
      policies = policies_are kind r.order r.ps e r.policies;
    }

-- the locators of one, or else of the other, are reachable where the other are
else_reachable : (ls others : List Locator) → AreListed max_locators IsLocator ls → AreReachable others
    → AreReachable (or_else ls others)
else_reachable [] others listed reachable = reachable
else_reachable (l ∷ ls) others listed reachable = record { listed = listed; some = λ e. absurd cc }

pub participant_writable : (source : GuidPrefix) (domain : ℕ) (bytes : List ℕ) (p : Participant)
    → length source.0 ≡ 12 → ReadsParticipant source domain bytes p → IsWritableParticipant p
participant_writable source domain bytes p twelve r =
    let metatraffic : AreReachable p.metatraffic = record {
      listed = subst (λ (ls : List Locator). AreListed max_locators IsLocator ls) r.metatraffic
          (locators_are r.order 0x0032 r.ps);
      some = r.reachable;
    } in record {
      prefix = ap (λ (x : GuidPrefix). length x.0) r.sender ∙ twelve;
      vendor = or_default_fits _ _ (λ v. length v.0 ≡ 2) _ p.vendor refl r.vendor;
      builtin_endpoints = or_default_fits 0x3f _ (λ n. n < 2 ^ 32) _ p.builtin_endpoints (omega arith) r.builtin_endpoints;
      lease = or_default_fits _ _ IsDuration _ p.lease (record { seconds = omega arith; fraction = omega arith }) r.lease;
      metatraffic = metatraffic;
      default = subst AreReachable r.default (else_reachable _ p.metatraffic (locators_are r.order 0x0031 r.ps) metatraffic);
    }
