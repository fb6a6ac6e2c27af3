-- The names of all ends of a configuration, one after another.
use Rattle.std.proofs.Common.{◌≡◌, ℕ, ◌+◌, ◌<◌, Bool, List, [], ◌∷◌, ◌++◌, drop, get_or, length, map, ap, sym, ◌∙◌, append_assoc}
use Rattle.std.proofs.lemmas.List.{drop_more, map-append}
use Rattle.dds_base.specs.declared.config.PeerConfig.{PeerConfig}
use Rattle.dds_base.specs.declared.guid.EntityId.{EntityId}
use Rattle.dds_base.specs.declared.guid.GuidPrefix.{GuidPrefix}
use Rattle.dds_machine.specs.Opening.{names_in}
use Rattle.dds_machine.specs.Part.{Name}
use Rattle.dds_names.specs.declared.named_end.NamedEnd.{NamedEnd}
use Rattle.dds_names.specs.Known.{name_of}

-- the end of this index is called so
abbrev pub IsNamed : {E : Type 0} → (E → EntityId) → (E → Bool) → GuidPrefix → ℕ → ℕ → E → NamedEnd → Type 0
IsNamed entity_of reliable_of prefix peer i e n = name_of n
    ≡ record {
      end = record { peer = peer; number = i + 1 };
      guid = record { prefix = prefix; entity = entity_of e };
      reliable = reliable_of e;
    }

-- one that is as reliable is called so
pub named_so : {E : Type 0} (entity_of : E → EntityId) (reliable_of : E → Bool) (prefix : GuidPrefix) (peer i : ℕ)
    (e : E) (reliable : Bool) → reliable ≡ reliable_of e
    → IsNamed entity_of reliable_of prefix peer i e (record {
      end = record { peer = peer; number = i + 1 };
      guid = record { prefix = prefix; entity = entity_of e };
      is_reliable = reliable;
    })
named_so entity_of reliable_of prefix peer i e reliable is =
    ap (λ (b : Bool). record {
      end = record { peer = peer; number = i + 1 };
      guid = record { prefix = prefix; entity = entity_of e };
      reliable = b;
    }) is

-- one end more of a peer
pub names_more : {E : Type 0} (entity_of : E → EntityId) (reliable_of : E → Bool) (prefix : GuidPrefix) (peer i : ℕ)
    (es : List E) (d : E) (old new : List NamedEnd) (n : NamedEnd) (all : List Name) → i < length es
    → new ≡ old ++ n ∷ [] → IsNamed entity_of reliable_of prefix peer i (get_or es i d) n
    → map name_of old ++ names_in entity_of reliable_of prefix peer (i + 1) (drop i es) ≡ all
    → map name_of new ++ names_in entity_of reliable_of prefix peer (i + 1 + 1) (drop (i + 1) es) ≡ all
names_more entity_of reliable_of prefix peer i es d old new n all lt more is before =
    let rest : List Name = names_in entity_of reliable_of prefix peer (i + 1 + 1) (drop (i + 1) es) in
    ap (λ (ns : List NamedEnd). map name_of ns ++ rest) more
    ∙ (ap (λ (ns : List Name). ns ++ rest) (map-append name_of old (n ∷ []))
    ∙ (append_assoc (map name_of old) (name_of n ∷ []) rest
    ∙ (ap (λ (x : Name). map name_of old ++ x ∷ rest) is
    ∙ (sym (ap (λ (xs : List _). map name_of old ++ names_in entity_of reliable_of prefix peer (i + 1) xs)
    (drop_more es i d lt)) ∙ before))))

-- all ends of one peer more, of this number
pub names_on : (named : ℕ → List PeerConfig → List Name) (names : ℕ → PeerConfig → List Name)
    → ((n : ℕ) (p : PeerConfig) (ps : List PeerConfig) → named n (p ∷ ps) ≡ names n p ++ named (n + 1) ps)
    → (n next i : ℕ) (peers : List PeerConfig) (d : PeerConfig) (old new : List NamedEnd) (all : List Name)
    → next ≡ n + 1 → i < length peers → map name_of new ≡ map name_of old ++ names n (get_or peers i d)
    → map name_of old ++ named n (drop i peers) ≡ all
    → map name_of new ++ named next (drop (i + 1) peers) ≡ all
names_on named names step n next i peers d old new all is lt more before =
    let rest : List Name = named (n + 1) (drop (i + 1) peers) in
    ap (λ (m : ℕ). map name_of new ++ named m (drop (i + 1) peers)) is
    ∙ (ap (λ (ns : List Name). ns ++ rest) more
    ∙ (append_assoc (map name_of old) (names n (get_or peers i d)) rest
    ∙ (ap (λ (ns : List Name). map name_of old ++ ns) (sym (step n (get_or peers i d) (drop (i + 1) peers)))
    ∙ (sym (ap (λ (ps : List PeerConfig). map name_of old ++ named n ps) (drop_more peers i d lt)) ∙ before))))
