-- Submessages are gone over one after the other, up to the first that says something to us.
use Rattle.std.proofs.Common.{◌≡◌, ◌∙◌, ℕ, Bool, true, false, cond, List, [], ◌∷◌, ◌++◌, Option, Some, None, refl, sym, ap, subst}
use Rattle.std.specs.Prelude.{◌&&◌, is_some, IfSome, MatchOption, if◌then◌else◌}
use Rattle.dds_base.specs.declared.guid.GuidPrefix.{GuidPrefix}
use Rattle.rtps_wire.specs.declared.submessage.Submessage.{Submessage}
use Rattle.rtps_wire.specs.Frames.{IsFrame, IsEnd}
use Rattle.rtps_wire.specs.Submessages.{Reads}
use Rattle.dds_base.proofs.FieldLaws.{some_is}
use Rattle.rtps_announcements.specs.declared.participant.Participant.{Participant}
use Rattle.rtps_announcements.specs.Participants.{ReadsParticipant}
use Rattle.rtps_discovery.specs.declared.spdp.Said.{Said}
use Rattle.rtps_discovery.specs.declared.spdp.Said.TheVariants.{Announces, Leaves}
use Rattle.rtps_discovery.specs.Spdp.{Begins, IsSaid, Part, Says, SaysFirst, first_said, for_us_after, spdp_at}

-- whether what follows submessages is for us
pub for_us_at : GuidPrefix → Bool → List Part → Bool
for_us_at own b [] = b
for_us_at own b (p ∷ ps) = for_us_at own (for_us_after own b p.read) ps

begins_more : (source : GuidPrefix) (domain : ℕ) (bytes : List ℕ) (ps : List Part) (left : List ℕ) (p : Part)
    (rest : List ℕ) → Begins source domain bytes ps left → Begins source domain left (p ∷ []) rest
    → Begins source domain bytes (ps ++ p ∷ []) rest
begins_more source domain bytes [] left p rest b one = rw b one
begins_more source domain bytes (q ∷ qs) left p rest b one =
    (b.0, b.1, b.2, b.3, begins_more source domain b.0 qs left p rest b.4 one)

for_us_more : (own : GuidPrefix) (b : Bool) (ps : List Part) (p : Part)
    → for_us_at own b (ps ++ p ∷ []) ≡ for_us_after own (for_us_at own b ps) p.read
unfolding for_us_at
for_us_more own b [] p = refl
for_us_more own b (q ∷ qs) p = for_us_more own (for_us_after own b q.read) qs p

both_some : (b : Bool) (o : Option Said) → (b && is_some o) ≡ true → (b ≡ true) × (is_some o ≡ true)
both_some true None e = absurd cc
both_some true (Some s) e = (refl, refl)
both_some false None e = absurd cc
both_some false (Some s) e = absurd cc

is_none : (o : Option Said) → is_some o ≡ true → o ≡ None → ⊥
is_none None e none = absurd cc
is_none (Some s) e none = absurd cc

-- one that is passed over leaves it to the others
said_later : (t : Bool) (o : Option Said) (rest more : Option Said) → (t ≡ true → is_some o ≡ true)
    → cond t o rest ≡ None → (rest ≡ None) × (cond t o more ≡ more)
said_later false o rest more some none = (none, refl)
said_later true o rest more some none = absurd (is_none o (some refl) none)

-- where those before say nothing, the last one decides
said_more : (own : GuidPrefix) (b : Bool) (ps : List Part) (p : Part) → first_said own b ps ≡ None
    → first_said own b (ps ++ p ∷ []) ≡ (if for_us_at own b ps && is_some p.said then p.said else None)
unfolding for_us_at
said_more own b [] p none = refl
said_more own b (q ∷ qs) p none =
    let next = for_us_after own b q.read in
    let later =
    said_later (b && is_some q.said) q.said (first_said own (for_us_after own b q.read) qs)
    (first_said own (for_us_after own b q.read) (qs ++ p ∷ [])) (λ e. (both_some b q.said e).1) none in
    later.1 ∙ said_more own (for_us_after own b q.read) qs p later.0

-- ---- what was said so far: nothing to us

pub record Silent (own source : GuidPrefix) (domain : ℕ) (body left : List ℕ) (for_us : Bool) : Type 0 where
  pub parts : List Part
  pub begins : Begins source domain body parts left
  pub none : first_said own true parts ≡ None
  pub for_us_is : for_us ≡ for_us_at own true parts

pub silent_at_first : (own source : GuidPrefix) (domain : ℕ) (body : List ℕ) → Silent own source domain body body true
unfolding for_us_at
silent_at_first own source domain body = record { parts = []; begins = refl; none = refl; for_us_is = refl }

pub record One (source : GuidPrefix) (domain : ℕ) (left rest : List ℕ) (id flags : ℕ) (next : List ℕ) (s : Submessage)
    (o : Option Said) : Type 0 where
  pub frame : IsFrame left id flags next rest
  pub reads : Reads id flags next s
  pub says : Says source domain (record { id = id; flags = flags; body = next; read = s; said = o })

pub one_is : (source : GuidPrefix) (domain : ℕ) (left rest : List ℕ) (id flags : ℕ) (next : List ℕ) (s : Submessage)
    (o : Option Said) → IsFrame left id flags next rest → Reads id flags next s
    → MatchOption o ((s : Said) → IsSaid source domain id flags next s → ⊥) (λ s. IsSaid source domain id flags next s)
    → One source domain left rest id flags next s o
one_is source domain left rest id flags next s o frame reads says = record { frame = frame; reads = reads; says = says }

pub silent_more : (own source : GuidPrefix) (domain : ℕ) (body left : List ℕ) (for_us : Bool) (rest : List ℕ) (id flags : ℕ)
    (next : List ℕ) (s : Submessage) (o : Option Said) → Silent own source domain body left for_us
    → One source domain left rest id flags next s o → (for_us && is_some o) ≡ false
    → Silent own source domain body rest (for_us_after own for_us s)
silent_more own source domain body left for_us rest id flags next s o so one silent =
    let p : Part = record { id = id; flags = flags; body = next; read = s; said = o } in
    let here : Begins source domain left (p ∷ []) rest = (rest, one.frame, one.reads, one.says, refl) in
    record {
      parts = so.parts ++ p ∷ [];
      begins = begins_more source domain body so.parts left p rest so.begins here;
      none = said_more own true so.parts p so.none ∙ rw (sym so.for_us_is, silent) refl;
      for_us_is = rw so.for_us_is (sym (for_us_more own true so.parts p));
    }

pub says_it : (own source : GuidPrefix) (domain : ℕ) (body left : List ℕ) (for_us : Bool) (rest : List ℕ) (id flags : ℕ)
    (next : List ℕ) (s : Submessage) (o : Option Said) → Silent own source domain body left for_us
    → One source domain left rest id flags next s o → (for_us && is_some o) ≡ true
    → SaysFirst own source domain body o
says_it own source domain body left for_us rest id flags next s o so one said =
    let p : Part = record { id = id; flags = flags; body = next; read = s; said = o } in
    let here : Begins source domain left (p ∷ []) rest = (rest, one.frame, one.reads, one.says, refl) in
    record {
      parts = so.parts ++ p ∷ [];
      rest = rest;
      begins = begins_more source domain body so.parts left p rest so.begins here;
      first = said_more own true so.parts p so.none ∙ rw (sym so.for_us_is, said) refl;
      ends = λ none. let some = (both_some for_us o said).1 in absurd cc;
    }

pub says_nothing : (own source : GuidPrefix) (domain : ℕ) (body left : List ℕ) (for_us : Bool)
    → Silent own source domain body left for_us → IsEnd left → SaysFirst own source domain body None
says_nothing own source domain body left for_us so end =
    record { parts = so.parts; rest = left; begins = so.begins; first = so.none; ends = λ e. end }

-- ---- what one submessage says

-- a DATA without a status whose payload announces nobody says nothing
pub says_none : (source : GuidPrefix) (domain id flags : ℕ) (body payload : List ℕ) (ended : Bool) (s : Said)
    → Some (ended, payload) ≡ spdp_at flags body → ended ≡ false
    → ((p : Participant) → ReadsParticipant source domain payload p → None ≡ Some p)
    → IsSaid source domain id flags body s → None ≡ Some s
says_none source domain id flags body payload ended (Announces p) at is none said =
    let same = ap (λ (x : Bool × List ℕ). x.1) (some_is (ended, payload) (false, said.0) (at ∙ said.2)) in
    let no = none p (subst (λ (z : List ℕ). ReadsParticipant source domain z p) (sym same) said.3) in absurd cc
says_none source domain id flags body payload ended Leaves at is none said =
    let same = ap (λ (x : Bool × List ℕ). x.0) (some_is (ended, payload) (true, said.0) (at ∙ said.2)) in absurd cc

-- one whose payload announces a participant says so, and nothing else
pub says_one : (source : GuidPrefix) (domain id flags : ℕ) (body payload : List ℕ) (ended : Bool) (p : Participant)
    (s : Said) → Some (ended, payload) ≡ spdp_at flags body → ended ≡ false
    → ((q : Participant) → ReadsParticipant source domain payload q → Some p ≡ Some q)
    → IsSaid source domain id flags body s → Some (Announces p) ≡ Some s
says_one source domain id flags body payload ended p (Announces q) at is only said =
    let same = ap (λ (x : Bool × List ℕ). x.1) (some_is (ended, payload) (false, said.0) (at ∙ said.2)) in
    let one = only q (subst (λ (z : List ℕ). ReadsParticipant source domain z q) (sym same) said.3) in
    ap (λ (z : Participant). Some (Announces z)) (some_is p q one)
says_one source domain id flags body payload ended p Leaves at is only said =
    let same = ap (λ (x : Bool × List ℕ). x.0) (some_is (ended, payload) (true, said.0) (at ∙ said.2)) in absurd cc

-- what the code finds of a submessage is what it says
pub says_found : (source : GuidPrefix) (domain id flags : ℕ) (body : List ℕ) (o : Option Said)
    → IfSome o (λ s. IsSaid source domain id flags body s)
    → ((s : Said) → IsSaid source domain id flags body s → o ≡ Some s)
    → MatchOption o ((s : Said) → IsSaid source domain id flags body s → ⊥) (λ s. IsSaid source domain id flags body s)
says_found source domain id flags body None found only = λ s said. let e = only s said in absurd cc
says_found source domain id flags body (Some s) found only = found
