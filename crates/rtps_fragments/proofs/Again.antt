-- Submessages are looked at, one after the other, for those that begin a change again.
use Rattle.std.proofs.Common.{◌≡◌, ◌∙◌, ℕ, List, [], ◌++◌, Option, ap, append_assoc, sym, subst}
use Rattle.std.proofs.lemmas.List.{append-nil}
use Rattle.std.specs.Option.{option_to_list}
use Rattle.dds_base.specs.declared.guid.GuidPrefix.{GuidPrefix}
use Rattle.rtps_wire.specs.Frames.{IsFrame, IsEnd}
use Rattle.rtps_fragments.specs.declared.nack_frag.ChangeId.{ChangeId}
use Rattle.rtps_fragments.specs.Hearing.{Row}
use Rattle.rtps_fragments.specs.Asking.{AreAgain, IsAgainBy, again_by, again_more, again_none}

-- what was gone over has these, whatever comes
abbrev pub GoesSo : List Row → GuidPrefix → List ℕ → List ℕ → List ChangeId → Type 0
GoesSo rows source body left again =
    (later : List ChangeId) → AreAgain rows source left later → AreAgain rows source body (again ++ later)

pub again_next : (rows : List Row) (source : GuidPrefix) (body left : List ℕ) (again more : List ChangeId) (id flags : ℕ)
    (next rest : List ℕ) (o : Option ChangeId) → GoesSo rows source body left again → IsFrame left id flags next rest
    → IsAgainBy rows source id flags next o → more ≡ again ++ option_to_list o → GoesSo rows source body rest more
again_next rows source body left again more id flags next rest o goes frame by is later h =
    let found = again_by rows source by.fragment in
    subst (AreAgain rows source body)
    (sym (append_assoc again (option_to_list found) later)
    ∙ ap (λ (z : List ChangeId). z ++ later) (ap (λ (z : Option ChangeId). again ++ option_to_list z) (sym by.again_is) ∙ sym is))
    (goes (option_to_list found ++ later) (again_more left id flags next rest by.fragment later frame by.is_fragment h))

pub again_end : (rows : List Row) (source : GuidPrefix) (body left : List ℕ) (again : List ChangeId)
    → GoesSo rows source body left again → IsEnd left → AreAgain rows source body again
again_end rows source body left again goes end =
    subst (AreAgain rows source body) (append-nil again) (goes [] (again_none left end))
