-- Where a reader stands in the list of one of its writers, and how its place goes on there: over changes that come, and
-- over changes that are passed over (RTPS 2.5, 8.4: StatefulReader).
use Rattle.std.specs.Prelude.{◌≡◌, ◌⊎◌, ℕ, ◌+◌, ◌<◌, ◌≤◌, true, false, List, [], ◌∷◌}
use Rattle.dds_base.specs.declared.change.Change.{Change}
use Rattle.dds_base.specs.declared.happening.Happening.{Happening}
use Rattle.dds_base.specs.declared.happening.Happening.TheVariants.{Came, Passed}
use Rattle.dds_base.specs.declared.happening.PassedRun.{PassedRun}
use Rattle.dds_base.specs.declared.qos.ReaderQos.{ReaderQos}
use Rattle.dds_base.specs.Matched.{is_reliable}
use Rattle.dds_base.specs.Presence.{has_room}

-- what a reader may rest on as to one of its writers
pub record WriterGrounds : Type 1 where
  -- the writer's change of this number, which is for the reader, is this
  pub is_change : ℕ → Change → Type 0
  -- any reader may pass over the writer's change of this number
  pub may_pass : ℕ → Type 0

-- the number is that of a change before one that the writer has
pub record ComesBefore (grounds : WriterGrounds) (number : ℕ) : Type 0 where
  pub later : ℕ
  pub change : Change
  pub is_change : grounds.is_change later change
  pub before : number < later

-- a reader of this QoS may pass over the writer's change of this number: a best-effort one over each that comes before
-- another (DDS 1.4, 2.2.3, RELIABILITY)
abbrev pub MayPassOver : WriterGrounds → ReaderQos → ℕ → Type 0
MayPassOver grounds qos number =
    grounds.may_pass number ⊎ ((is_reliable qos.reliability ≡ false) × ComesBefore grounds number)

-- a reader and one of its matched writers: the reader's QoS, the writer's publication handle there, and the moment of
-- the reader's peer
pub record Match : Type 0 where
  pub qos : ReaderQos
  pub publication : ℕ
  pub moment : ℕ

-- where a reader stands in a writer's list: the number of the next change, and what happened at the reader
pub record PlaceWith : Type 0 where
  pub place : ℕ
  pub happened : List Happening

-- the change comes at the reader
abbrev pub coming : Match → PlaceWith → Change → Happening
coming match at change =
    Came (record { writer = match.publication; number = at.place; change = change; moment = match.moment })

-- the next change comes, and there is room for it
pub record Comes (grounds : WriterGrounds) (match : Match) (old : PlaceWith) (change : Change)
    (new : PlaceWith) : Type 0 where
  pub is_change : grounds.is_change old.place change
  pub room : has_room match.qos old.happened (coming match old change) ≡ true
  pub after : new ≡ record { place = old.place + 1; happened = coming match old change ∷ old.happened }

-- these changes come, one after the other
abbrev pub AllCome : WriterGrounds → Match → PlaceWith → List Change → PlaceWith → Type 0
AllCome grounds match old [] new = new ≡ old
AllCome grounds match old (change ∷ changes) new =
    (mid : PlaceWith) × Comes grounds match old change mid × AllCome grounds match mid changes new

-- every change from the place to below this number comes
abbrev pub ComeTo : WriterGrounds → Match → PlaceWith → ℕ → PlaceWith → Type 0
ComeTo grounds match old to new = (changes : List Change) × AllCome grounds match old changes new × (new.place ≡ to)

-- the changes of a run, which begins at the place, are passed over
pub record Passes (grounds : WriterGrounds) (match : Match) (old : PlaceWith) (run : PassedRun)
    (new : PlaceWith) : Type 0 where
  pub begins : run.first ≡ old.place
  pub ordered : run.first ≤ run.last
  pub may_pass : (number : ℕ) → run.first ≤ number → number ≤ run.last → MayPassOver grounds match.qos number
  pub after : new ≡ record
      { place = run.last + 1; happened = Passed match.publication run.first run.last ∷ old.happened }

-- the next run begins above the number after this one, else the two were one
abbrev pub IsApart : PassedRun → List PassedRun → Type 0
IsApart run [] = Unit {0}
IsApart run (next ∷ runs) = run.last + 1 < next.first

-- the place goes to this number over changes that come and these runs that are passed over
abbrev pub GoesTo : WriterGrounds → Match → PlaceWith → List PassedRun → ℕ → PlaceWith → Type 0
GoesTo grounds match old [] to new = ComeTo grounds match old to new
GoesTo grounds match old (run ∷ runs) to new =
    (before after : PlaceWith) × ComeTo grounds match old run.first before × Passes grounds match before run after
    × IsApart run runs × GoesTo grounds match after runs to new
