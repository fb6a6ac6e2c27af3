-- What a peer and its listeners stand for, as they are told of what was raised.
use Rattle.std.proofs.Common.{◌≡◌, ℕ, suc, ◌+◌, ◌-◌, ◌<◌, ◌≤◌, Bool, true, false, List, [], ◌∷◌, Option, Some, None, is_some, length, get_or, slice_get, arith, ⊎_elim, refl, ap, sym, subst}
use Rattle.std.specs.Prelude.{if◌then◌else◌}
use Rattle.std.proofs.lemmas.Bool.{cases_lt}
use Rattle.std.proofs.lemmas.Option.{slice_get-get_or, slice_get_read}
use Rattle.dds_protocol.specs.Roster.{Roster}
use Rattle.dds_base.specs.declared.entity.Entity.{Entity}
use Rattle.dds_base.specs.declared.entity.Entity.TheVariants as entity
use Rattle.dds_notices.specs.declared.notice.Notice.{Notice}
use Rattle.dds_notices.specs.declared.notice.Status.{Status}
use Rattle.dds_notices.specs.declared.notice.Status.TheVariants.{SampleLost, DataAvailable, LivelinessLost, LivelinessChanged, PublicationMatched, SubscriptionMatched}
use Rattle.dds_notices.specs.Listeners.{ByEntity, Places, Slotted, StandsFor as SlotsStandFor, after_notice, taker_of}
use Rattle.dds_machine.specs.Noticing.{each_told, looked_at, told, told_of}
use Rattle.dds_machine.specs.Part.{Part, Reader, Writer, WriterProxy, no_reader, no_writer, own_proxies, own_reader, own_writer}
use Rattle.dds_protocol.specs.Peer.{Peer}
use Rattle.dds_ends.specs.declared.marks.ReaderMark.{ReaderMark}
use Rattle.dds_ends.specs.declared.marks.WriterMark.{WriterMark}
use Rattle.dds_ends.specs.Kept.{ReaderKept, WriterKept}
use Rattle.dds_core.specs.Kept.{PeerKept}
use Rattle.dds_ends.specs.Identity.{reader_identity}
use Rattle.dds_ends.specs.Noticing.{IsMarkOf, IsWriterMarkOf, MarksReaders, MarksWriters, Raised, RaisesSo, SeesStatus, seen_at}
use Rattle.dds_core.specs.Noticing.{MarksPeer, Tells}
use Rattle.dds_core.specs.Standing.{StandsFor}
use Rattle.dds_core.proofs.Ends.{own_reader_changed, readers_with, with_reader}
use Rattle.dds_ends.proofs.Lists.{past_end}
use Rattle.dds_core.proofs.Taking.{stands_beside}

-- ---- who is told

-- the end of a number stands in an open peer at the index before it, and so it does in the peer
pub end_found : {X : Type 0} (ends : PeerKept → List X) (inside now : PeerKept) (n from : ℕ) (x : X) → inside ≡ now
    → 1 ≤ n → n ≤ length (ends now) → from ≡ n → x ≡ get_or (ends inside) (from - 1) x
    → (suc (from - 1) ≡ n) × (from - 1 < length (ends inside)) × (slice_get (ends inside) (from - 1) ≡ Some x)
    × (slice_get (ends now) (from - 1) ≡ Some x)
end_found ends inside now n from x view low high number is =
    let size = ap (λ (p : PeerKept). length (ends p)) view in
    let within : from - 1 < length (ends inside) = omega (arith, low, high, number, size) in
    let at = slice_get_read (ends inside) (length (ends inside)) (from - 1) x refl within is in
    (omega (arith, low, number), within, at, subst (λ (p : PeerKept). slice_get (ends p) (from - 1) ≡ Some x) view at)

-- the listeners of a peer are the last thing that it stands for
pub listeners_apart : (kept : PeerKept) (roster : Roster) (peer : Peer) (places : Places) → StandsFor kept roster peer
    → StandsFor kept roster
    (record peer { part = record peer.part { dds = record peer.part.dds { listeners = places } } })
listeners_apart kept roster peer places s =
    stands_beside kept kept.watch peer.part.dds.watch places peer.delivered roster peer s.watch s

-- a part, once a status of its reader was looked at
sees_part : (part : Part) (i : ℕ) (status : Status)
    → record part {
      dds = readers_with part (suc i) (seen_at (own_proxies part (suc i)) (own_reader part (suc i)) status);
    }
    ≡ looked_at part (entity.Reader (suc i)) status
sees_part part i (SampleLost values) = refl
sees_part part i DataAvailable = refl
sees_part part i (LivelinessLost values) = refl
sees_part part i (LivelinessChanged values) = refl
sees_part part i (PublicationMatched values) = refl
sees_part part i (SubscriptionMatched values) = refl

module _ {L : Type 0} (notices : L → List Notice) (capacity : L → ℕ) (becomes : L → Notice → L → Type 0) where
  -- the same change, as it is at the states that a peer stands for
  pub tells_as : (f g : Part → Part) (old : PeerKept) (slots : Slotted L) (new : PeerKept) (after : Slotted L)
      → ((roster : Roster) (peer : Peer) → StandsFor old roster peer → f peer.part ≡ g peer.part)
      → Tells notices capacity becomes f old slots new after → Tells notices capacity becomes g old slots new after
  tells_as f g old slots new after same h = λ given roster peer s l.
      subst (λ (p : Part). StandsFor new roster (record peer { part = p })
      × SlotsStandFor notices capacity becomes given after p.dds.listeners)
      (same roster peer s) (h given roster peer s l)

  -- one change, and then another
  pub tells_then : (f g : Part → Part) (old : PeerKept) (slots : Slotted L) (mid : PeerKept) (between : Slotted L)
      (new : PeerKept) (after : Slotted L)
      → Tells notices capacity becomes f old slots mid between → Tells notices capacity becomes g mid between new after
      → Tells notices capacity becomes (λ part. g (f part)) old slots new after
  tells_then f g old slots mid between new after first second = λ given roster peer s l.
      let one = first given roster peer s l in
      second given roster (record peer { part = f peer.part }) one.0 one.1

  -- nothing was raised
  pub tells_nothing : (e : Entity) (kept : PeerKept) (slots : Slotted L)
      → Tells notices capacity becomes (λ part. told part e None) kept slots kept slots
  tells_nothing e kept slots = λ given roster peer s l. (s, l)

  -- nobody takes it
  pub tells_nobody : (e : Entity) (status : Status) (kept : PeerKept) (slots : Slotted L)
      → ((given : ByEntity L) (places : Places) → SlotsStandFor notices capacity becomes given slots places → false ≡ is_some (taker_of places e status))
      → Tells notices capacity becomes (λ part. told part e (Some status)) kept slots kept slots
  tells_nobody e status kept slots takes = λ given roster peer s l.
      subst (λ (p : Part). StandsFor kept roster (record peer { part = p })
      × SlotsStandFor notices capacity becomes given slots p.dds.listeners)
      (ap (λ (b : Bool). if b then told_of peer.part e status else peer.part) (takes given peer.part.dds.listeners l))
      (s, l)

  -- somebody takes it: it was looked at, and the listener was told
  pub told_by : (e : Entity) (status : Status) (old : PeerKept) (slots : Slotted L) (new : PeerKept) (after : Slotted L)
      → ((given : ByEntity L) (places : Places) → SlotsStandFor notices capacity becomes given slots places → true ≡ is_some (taker_of places e status))
      → ((given : ByEntity L) (places : Places) → SlotsStandFor notices capacity becomes given slots places
      → SlotsStandFor notices capacity becomes given after (after_notice places (record { entity = e; status = status })))
      → ((roster : Roster) (peer : Peer) → StandsFor old roster peer
      → StandsFor new roster (record peer { part = looked_at peer.part e status }))
      → Tells notices capacity becomes (λ part. told part e (Some status)) old slots new after
  told_by e status old slots new after takes tell look = λ given roster peer s l.
      let places = after_notice peer.part.dds.listeners (record { entity = e; status = status }) in
      subst (λ (p : Part). StandsFor new roster (record peer { part = p })
      × SlotsStandFor notices capacity becomes given after p.dds.listeners)
      (ap (λ (b : Bool). if b then told_of peer.part e status else peer.part) (takes given peer.part.dds.listeners l)) (
        listeners_apart new roster (record peer { part = looked_at peer.part e status }) places
            (look roster peer s),
        tell given peer.part.dds.listeners l,
      )

  -- a status of the reader of this number, at the peer that was opened
  pub tells_reader : (raised : Option Status) (status : Status) (inside old : PeerKept) (slots : Slotted L) (n i : ℕ)
      (k k' : ReaderKept) (after : Slotted L) → raised ≡ Some status → inside ≡ old → suc i ≡ n
      → slice_get inside.readers i ≡ Some k → reader_identity k' ≡ reader_identity k → SeesStatus k status k'
      → ((given : ByEntity L) (places : Places) → SlotsStandFor notices capacity becomes given slots places
      → true ≡ is_some (taker_of places (entity.Reader n) status))
      → ((given : ByEntity L) (places : Places) → SlotsStandFor notices capacity becomes given slots places
      → SlotsStandFor notices capacity becomes given after
      (after_notice places (record { entity = entity.Reader n; status = status })))
      → Tells notices capacity becomes (λ part. told part (entity.Reader n) raised) old slots (with_reader inside i k') after
  tells_reader raised status inside old slots n i k k' after so view is at same sees takes tell =
      subst (λ (o : Option Status). Tells notices capacity becomes (λ part. told part (entity.Reader n) o) old slots
      (with_reader inside i k') after) (sym so)
      (told_by (entity.Reader n) status old slots (with_reader inside i k') after takes tell
      (λ roster peer given.
      let s : StandsFor inside roster peer = subst (λ (x : PeerKept). StandsFor x roster peer) (sym view) given in
      subst (λ (m : ℕ). StandsFor (with_reader inside i k') roster
      (record peer { part = looked_at peer.part (entity.Reader m) status })) is
      (subst (λ (p : Part). StandsFor (with_reader inside i k') roster (record peer { part = p }))
      (sees_part peer.part i status)
      (own_reader_changed inside i k k'
      (seen_at (own_proxies peer.part (suc i)) (own_reader peer.part (suc i)) status) roster peer s at same
      (sees (own_proxies peer.part (suc i)) (own_reader peer.part (suc i)) (λ w. peer.known.tracked w (suc i))
      (s.readers.each i k at))))))

  -- what was raised at the reader of this number, in turn
  pub tells_raised : (raised : Raised) (status : Option Status) (before : Part)
      (mark : ReaderMark) (old : PeerKept) (slots : Slotted L)
      (n i : ℕ) (k : ReaderKept) (new : PeerKept) (after : Slotted L) → suc i ≡ n → slice_get old.readers i ≡ Some k
      → IsMarkOf mark (own_proxies before n) (own_reader before n)
      → RaisesSo raised k mark status
      → Tells notices capacity becomes (λ part. told part (entity.Reader n) status) old slots new after
      → Tells notices capacity becomes
      (λ part. told part (entity.Reader n)
      (raised (own_proxies before n) (own_reader before n) (own_proxies part n) (own_reader part n))) old slots new
      after
  tells_raised raised status before mark old slots n i k new after is at marked so h =
      tells_as (λ part. told part (entity.Reader n) status)
      (λ part. told part (entity.Reader n)
      (raised (own_proxies before n) (own_reader before n) (own_proxies part n) (own_reader part n))) old slots new
      after
      (λ roster peer s.
      ap (λ (o : Option Status). told peer.part (entity.Reader n) o)
      (subst (λ (m : ℕ). status
      ≡ raised (own_proxies before n) (own_reader before n) (own_proxies peer.part m) (own_reader peer.part m)) is
      (so (own_proxies before n) (own_reader before n) marked (own_proxies peer.part (suc i)) (own_reader peer.part (suc i))
      (λ w. peer.known.tracked w (suc i)) (s.readers.each i k at)))) h

  -- none of the entities yet
  pub tells_first : (tell : ℕ → Part → Part) (kept : PeerKept) (slots : Slotted L)
      → Tells notices capacity becomes (each_told tell 0) kept slots kept slots
  tells_first tell kept slots = λ given roster peer s l. (s, l)

  -- one entity more
  pub tells_next : (tell : ℕ → Part → Part) (old : PeerKept) (slots : Slotted L) (mid : PeerKept) (between : Slotted L)
      (new : PeerKept) (after : Slotted L) (n : ℕ)
      → Tells notices capacity becomes (each_told tell n) old slots mid between
      → Tells notices capacity becomes (tell (n + 1)) mid between new after
      → Tells notices capacity becomes (each_told tell (n + 1)) old slots new after
  tells_next tell old slots mid between new after n first second =
      let more : n + 1 ≡ suc n = omega arith in
      subst (λ (m : ℕ). Tells notices capacity becomes (each_told tell m) old slots new after) (sym more)
      (tells_then (each_told tell n) (tell (suc n)) old slots mid between new after first
      (subst (λ (m : ℕ). Tells notices capacity becomes (tell m) mid between new after) more second))

  -- one entity more, which has a mark, in a loop over what is open
  pub tells_marked : {M : Type 0} (marks : List M) (none : M) (IsMark : M → ℕ → Type 0) (tell : ℕ → Part → Part)
      (old : PeerKept) (slots : Slotted L) (mid : PeerKept) (between : Slotted L) (new : PeerKept) (after : Slotted L)
      (n end inside room : ℕ) → n < end → end ≡ inside → inside ≤ room → length marks ≡ room
      → ((i : ℕ) (mark : M) → slice_get marks i ≡ Some mark → IsMark mark (suc i))
      → Tells notices capacity becomes (each_told tell n) old slots mid between
      → (IsMark (get_or marks n none) (n + 1) → Tells notices capacity becomes (tell (n + 1)) mid between new after)
      → Tells notices capacity becomes (each_told tell (n + 1)) old slots new after
  tells_marked marks none IsMark tell old slots mid between new after n end inside room lt size few all are
      first second =
      let more : suc n ≡ n + 1 = omega arith in
      let mark = are n (get_or marks n none) (slice_get-get_or marks n none (omega (arith, lt, size, few, all))) in
      tells_next tell old slots mid between new after n first
      (second (subst (λ (m : ℕ). IsMark (get_or marks n none) m) more mark))

  -- all of them: a loop over what is open has come to its end
  pub tells_all : (tell : ℕ → Part → Part) (old : PeerKept) (slots : Slotted L) (new : PeerKept) (after : Slotted L)
      (n end inside count : ℕ) → n ≤ end → end ≤ n → end ≡ inside → inside ≡ count
      → Tells notices capacity becomes (each_told tell n) old slots new after
      → Tells notices capacity becomes (each_told tell count) old slots new after
  tells_all tell old slots new after n end inside count low high size view h =
      let same : n ≡ count = omega (arith, low, high, size, view) in
      subst (λ (m : ℕ). Tells notices capacity becomes (each_told tell m) old slots new after) same h

-- ---- the marks of a peer

-- they are those of each state that it stands for, at the peer that was opened
pub marks_peer : (kept now : PeerKept) (writers : List WriterMark) (readers : List ReaderMark) → kept ≡ now
    → MarksWriters kept.writers (length kept.writers) writers
    → MarksReaders kept.readers (length kept.readers) readers
    → MarksPeer now (record { writers = writers; readers = readers })
marks_peer kept now writers readers view of_writers of_readers roster peer given = record {
  writers = λ i mark at.
      ⊎_elim
      (λ lt.
      (of_writers i mark at).0 lt (get_or kept.writers i (first_writer i lt))
      (slice_get-get_or kept.writers i (first_writer i lt) lt)
      (own_writer peer.part (suc i)) (peer.known.answered (suc i))
      (s.writers.each i (get_or kept.writers i (first_writer i lt))
      (slice_get-get_or kept.writers i (first_writer i lt) lt)))
      (λ le.
      let count = s.writers.count in
      subst (λ (w : Writer). IsWriterMarkOf mark w)
      (sym (past_end peer.part.rtps.writers i no_writer (omega (arith, count, le))))
      (subst (λ (m : WriterMark). IsWriterMarkOf m no_writer) (sym ((of_writers i mark at).1 le))
      (record { losses = refl; matched = refl })))
      (cases_lt i (length kept.writers));
  readers = λ i mark at.
      ⊎_elim
      (λ lt.
      (of_readers i mark at).0 lt (get_or kept.readers i (first_reader i lt))
      (slice_get-get_or kept.readers i (first_reader i lt) lt)
      (own_proxies peer.part (suc i)) (own_reader peer.part (suc i)) (λ w. peer.known.tracked w (suc i))
      (s.readers.each i (get_or kept.readers i (first_reader i lt))
      (slice_get-get_or kept.readers i (first_reader i lt) lt)))
      (λ le.
      let count = s.readers.count in
      let rows = s.readers.rows in
      subst (λ (ps : List WriterProxy). IsMarkOf mark ps (own_reader peer.part (suc i)))
      (sym (past_end peer.part.rtps.readers i [] (omega (arith, rows, le))))
      (subst (λ (r : Reader). IsMarkOf mark [] r)
      (sym (past_end peer.part.dds.readers i no_reader (omega (arith, count, le))))
      (subst (λ (m : ReaderMark). IsMarkOf m [] no_reader) (sym ((of_readers i mark at).1 le))
      (record { happened = refl; here = refl }))))
      (cases_lt i (length kept.readers));
}
  where
    s : StandsFor kept roster peer
    s = subst (λ (x : PeerKept). StandsFor x roster peer) (sym view) given

    some_one : {X : Type 0} (xs : List X) (i : ℕ) → i < length xs → X
    some_one [] i h = absurd (omega (arith, h))
    some_one (x ∷ xs) i h = x

    first_writer : (i : ℕ) → i < length kept.writers → WriterKept
    first_writer i lt = some_one kept.writers i lt

    first_reader : (i : ℕ) → i < length kept.readers → ReaderKept
    first_reader i lt = some_one kept.readers i lt
