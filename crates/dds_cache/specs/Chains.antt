-- Where the kept samples of each instance are found. Inner functions alone cite this: nothing here has to be believed.
--
-- What a reader keeps is in DDS 1.4, 2.2.2.5 (read_instance, take_instance); how it is found is this project's own.
use Rattle.std.specs.Prelude.{◌≡◌, ◌≢◌, ℕ, ◌<◌, ◌≤◌, List, length, get_or, min, Option, None, Some, is_some, slice_get, Bool, true, false, if◌then◌else◌}
use Rattle.indexmap.specs.IndexMap.{get}
use Rattle.dds_base.specs.declared.key.Key.{Key}
use Rattle.dds_base.specs.Happening.{same_key}
use Rattle.dds_cache.specs.declared.chains.Chains.{Chains}
use Rattle.dds_cache.specs.declared.chains.Latest.{Latest}
use Rattle.dds_cache.specs.declared.chains.Span.{Span}
use Rattle.dds_cache.specs.declared.kept.Kept.{Kept}

-- none of the kept samples behind one place and before another is of an instance
abbrev pub AreOthers : List Kept → Key → ℕ → ℕ → Type 0
AreOthers ks i behind before = (at : ℕ) (d : Kept) → behind < at → at < before → at < length ks
    → (get_or ks at d).sample.key ≢ i

-- a place has none before it of the kept samples of an instance, but for those that are gone
abbrev pub IsFirst : List Kept → Key → ℕ → Type 0
IsFirst ks i first = (at : ℕ) (d : Kept) → at < length ks → (get_or ks at d).sample.key ≡ i
    → (get_or ks at d).is_out ≡ false → first ≤ at

-- a place has none before it of the kept samples of an instance, but for those that are gone, or were read
abbrev pub IsFirstUnread : List Kept → Key → ℕ → Type 0
IsFirstUnread ks i first = (at : ℕ) (d : Kept) → at < length ks → (get_or ks at d).sample.key ≡ i
    → (get_or ks at d).is_out ≡ false → (get_or ks at d).is_read ≡ false → first ≤ at

-- a place has none behind it of the kept samples of an instance
abbrev pub IsLast : List Kept → Key → ℕ → Type 0
IsLast ks i last = (at : ℕ) (d : Kept) → at < length ks → (get_or ks at d).sample.key ≡ i → at ≤ last

-- between these places are the kept samples of an instance, but for those that are gone, or were read
pub record IsSpan (ks : List Kept) (i : Key) (span : Span) : Type 0 where
  pub within : span.last < length ks
  pub own : (d : Kept) → (get_or ks span.last d).sample.key ≡ i
  pub first : IsFirst ks i span.first
  pub unread : IsFirstUnread ks i span.unread
  pub last : IsLast ks i span.last

-- an instance is the latest one
abbrev pub is_latest : Option Latest → Key → Bool
is_latest None i = false
is_latest (Some latest) i = same_key latest.key i

-- the span of an instance, if it has one, by the latest, and by what is kept of the others
abbrev pub span_by : Option Latest → Option Span → Key → Option Span
span_by None kept i = kept
span_by (Some latest) kept i = if same_key latest.key i then Some latest.span else kept

-- between which places the kept samples of an instance are, if it has any
abbrev pub span_of : Chains → Key → Option Span
span_of chains i = span_by chains.latest (get same_key chains.spans i) i

-- one instance has this span now, and each other one what it had
abbrev pub HasSpan : Chains → Key → Span → Chains → Type 0
HasSpan old i span new = (j : Key) → span_of new j ≡ (if same_key i j then Some span else span_of old j)

-- each kept sample has a link, which passes over no other of its instance, and its instance has a span
pub record IsLinked (ks : List Kept) (chains : Chains) : Type 0 where
  pub len : length chains.links.items ≡ length ks
  pub links : (at : ℕ) (d : Kept) → at < length ks
      → AreOthers ks (get_or ks at d).sample.key at (get_or chains.links.items at 0)
  pub spans : (i : Key) (span : Span) → span_of chains i ≡ Some span → IsSpan ks i span
  pub each : (at : ℕ) (d : Kept) → at < length ks → is_some (span_of chains (get_or ks at d).sample.key) ≡ true

-- the span of an instance, and the index at which the spans of all have it, unless it is the latest
abbrev pub IsFoundAt : Chains → Key → ℕ × Span → Type 0
IsFoundAt chains i found =
    (span_of chains i ≡ Some found.1)
    × (is_latest chains.latest i ≡ false → slice_get chains.spans.entries found.0 ≡ Some (i, found.1))

-- the chains are those of the kept samples, where they are whole
abbrev pub AreChainsOf : List Kept → Chains → Type 0
AreChainsOf ks chains = chains.is_whole ≡ true → IsLinked ks chains

-- between which places the samples of an instance are, if it has any, with one more at a place behind all
abbrev pub with_more : Option Span → ℕ → Span
with_more None place = record { first = place; unread = place; last = place }
with_more (Some span) place = record {
  first = min span.first place;
  unread = min span.unread place;
  last = place;
}

-- the last kept sample of an instance, if there is one, has a link that leads no further than to a place behind all, and no
-- other link has changed; those of the instance end at that place, and those of no other begin or end elsewhere than before
pub record Leads (old : Chains) (i : Key) (place : ℕ) (new : Chains) : Type 0 where
  pub whole : new.is_whole ≡ old.is_whole
  pub len : length new.links.items ≡ length old.links.items
  pub same : (at : ℕ) → ((before : Span) → span_of old i ≡ Some before → at ≢ before.last)
      → get_or new.links.items at 0 ≡ get_or old.links.items at 0
  pub led : (before : Span) → span_of old i ≡ Some before → get_or new.links.items before.last 0 ≤ place
  pub spans : HasSpan old i (with_more (span_of old i) place) new
