-- What is printed of what discovery knows and tells (RTPS 2.5, 8.5: discovery). A watcher w becomes v.
use Rattle.std.specs.Prelude.{◌≡◌, ℕ, ◌++◌, Bool, true, false, List, [], ◌∷◌}
use Rattle.std.specs.List.{flat_map}
use Rattle.rtps_discovery.specs.declared.row.Row.{Row}
use Rattle.rtps_discovery.specs.declared.row.Told.{Told as Presence}
use Rattle.rtps_discovery.specs.declared.row.Told.TheVariants.{Appeared, Gone}
use Rattle.rtps_discovery.specs.Rows.{has_row}
use Rattle.rtps_matching.specs.Steps.{WhereSo}
use Rattle.dds_discovery.specs.States.{State}
use Rattle.dds_domain.specs.Turns.{State as Turn}
use Rattle.discovery_script.specs.Told.{misfit_line, presence_line, told_line}
use Rattle.dds_participant.specs.declared.watcher.Watcher.{Watcher}
use Rattle.dds_participant.specs.Sight.{are_seen, has_new, misfits_of, new_misfits, seen_of, withdrawn_lines}

-- What was printed stays in front; nothing follows it where there is nothing to list. How a participant or an endpoint is listed
-- no definition says.
abbrev pub Lists : Bool → List ℕ → List ℕ → Type 0
Lists there old new = (listed : List ℕ) × (there ≡ false → listed ≡ []) × (new ≡ old ++ listed)

-- ---- who is there

-- who is there now, with what is known of it, or is no more
abbrev pub Presents : Presence → List Row → List ℕ → List ℕ → Type 0
Presents (Appeared prefix) rows old new = Lists (has_row prefix rows) (old ++ presence_line (Appeared prefix)) new
Presents (Gone prefix) rows old new = new ≡ old ++ presence_line (Gone prefix)

-- So it is of each of these, in their order.
abbrev pub PresentsAll : List Presence → List Row → List ℕ → List ℕ → Type 0
PresentsAll [] rows old new = new ≡ old
PresentsAll (t ∷ told) rows old new =
    (between : List ℕ) × Presents t rows old between × PresentsAll told rows between new

-- ---- endpoints

-- Endpoints that are new are listed, those that are withdrawn are named, and so are misfits that were none. All is kept as it was
-- printed.
pub record Changes (d : State) (w : Watcher) (old : List ℕ) (v : Watcher) (new : List ℕ) : Type 0 where
  pub listed : List ℕ
  pub lists : Lists (has_new w.seen.items d.endpoints.far) old listed
  pub lines : new ≡ listed ++ withdrawn_lines d w.seen.items
      ++ flat_map misfit_line (new_misfits w.misfits.items (misfits_of d))
  pub seen : v.seen.items ≡ seen_of d.endpoints.far
  pub misfits : v.misfits.items ≡ misfits_of d

-- Where endpoints are as they were printed, nothing is printed.
abbrev pub Looks : State → Watcher → List ℕ → Watcher → List ℕ → Type 0
Looks d w old v new = WhereSo (are_seen w.seen.items d.endpoints.far) ((v ≡ w) × (new ≡ old)) (Changes d w old v new)

-- ---- events

-- Who is there or no more is printed, then what changed of endpoints, and then what changed of who is matched.
pub record Shows (d : State) (t : Turn) (w : Watcher) (old : List ℕ) (v : Watcher) (new : List ℕ) : Type 0 where
  pub presented : List ℕ
  pub looked : List ℕ
  pub presents : PresentsAll t.presences d.participants.rows old presented
  pub looks : Looks d w presented v looked
  pub told : new ≡ looked ++ flat_map told_line t.told
