-- The readers that are told, by their names.
use Rattle.std.proofs.Common.{◌≡◌, Bool, true, false, cond, List, [], ◌∷◌, map, drop, length, get_or, refl, ap, sym, ◌∙◌, arith}
use Rattle.std.specs.Prelude.{filter, if◌then◌else◌}
use Rattle.dds_base.specs.declared.endpoint.Endpoint.{Endpoint}
use Rattle.dds_machine.specs.Part.{ReaderProxy}
use Rattle.dds_ends.specs.declared.matching.ReaderName.{ReaderName}
use Rattle.dds_ends.specs.Beating.{names_told}
use Rattle.dds_ends.specs.MatchedEnds.{readers_of}

abbrev ends_of : List ReaderProxy → List Endpoint
ends_of rows = map (λ (p : ReaderProxy). p.reader) rows

-- those that are told, by their names, are the rows that are
pub names_are : (told : ReaderProxy → Bool) (rows : List ReaderProxy) (names : List ReaderName) → ends_of rows ≡ readers_of names
    → readers_of (names_told told rows names)
    ≡ ends_of (filter told rows)
names_are told [] names same = refl
names_are told (p ∷ ps) [] same =
    absurd (let c = ap (λ (es : List Endpoint). length es) same in omega (arith, c))
names_are told (p ∷ ps) (n ∷ ns) same =
    one (told p) (names_are told ps ns (ap (λ (es : List Endpoint). drop 1 es) same))
  where
    head : n.reader ≡ p.reader
    head = ap (λ (es : List Endpoint). get_or es 0 p.reader) (sym same)

    one : (b : Bool) → readers_of (names_told told ps ns)
        ≡ ends_of (filter told ps)
        → readers_of (if b then n ∷ names_told told ps ns else names_told told ps ns)
        ≡ ends_of (cond b (p ∷ filter told ps)
        (filter told ps))
    one true h =
        ap (λ (es : List Endpoint). n.reader ∷ es) h
        ∙ ap (λ (e : Endpoint). e ∷ ends_of (filter told ps)) head
    one false h = h
