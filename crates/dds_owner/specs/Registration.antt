-- Who is registered for an instance, as a list with an entry for each matched writer. Inner functions alone
-- cite this: nothing here has to be believed.
--
-- DDS 1.4, 2.2.2.4 (register_instance, unregister_instance), 2.2.3 (LIVELINESS).
use Rattle.std.specs.Prelude.{ℕ, zero, suc, ◌+◌, List, [], ◌∷◌, Bool, false, ◌&&◌, ◌==◌, Option, Some, None, if◌then◌else◌, slice_get}
use Rattle.std.specs.List.{list_any}
use Rattle.dds_base.specs.declared.key.Key.{Key}
use Rattle.dds_base.specs.declared.happening.Happening.{Happening}
use Rattle.dds_base.specs.Ownership.{is_registered}
use Rattle.dds_owner.specs.declared.registration.Registration.{Registration}

-- whether a writer is registered for i
abbrev pub registration_of : Key → List Happening → ℕ → Registration
registration_of i h w = record { writer = w; is_registered = is_registered i w h }

-- the writer is registered
abbrev pub is_there : Registration → Bool
is_there r = r.is_registered

-- the writer that stands there is registered
abbrev pub is_there_in : Option Registration → Bool
is_there_in None = false
is_there_in (Some r) = r.is_registered

-- so is the one that has its place there
abbrev pub is_there_at : List Registration → ℕ → Bool
is_there_at rs zero = false
is_there_at rs (suc at) = is_there_in (slice_get rs at)

-- writer w is registered
abbrev pub has_writer : ℕ → List Registration → Bool
has_writer w rs = list_any (λ (r : Registration). (r.writer == w) && r.is_registered) rs

-- whether a writer is registered once it was entered that writer w is, or is not
abbrev pub entered : Bool → ℕ → Registration → Registration
entered is_in w r = record {
  writer = r.writer;
  is_registered = if w == r.writer then is_in else r.is_registered;
}

-- a writer of which nothing has come
abbrev pub unregistered : ℕ → Registration
unregistered w = record { writer = w; is_registered = false }

-- n writers of which nothing has come, with the numbers from k on
abbrev pub blank_registrations : ℕ → ℕ → List Registration
blank_registrations k zero = []
blank_registrations k (suc n) = unregistered k ∷ blank_registrations (k + 1) n
