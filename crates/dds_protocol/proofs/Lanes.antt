-- What came at a reader from a matched writer are the first changes of its list: so it is after moves, calls and ticks.
use Rattle.std.proofs.Common.{◌≡◌, ℕ, ◌<◌, ◌≤◌, ◌==◌, ◌⊎◌, Bool, true, false, List, [], ◌∷◌, ◌++◌, refl, subst, ap, sym, ◌∙◌, ⊎_elim, arith, length, map, eq-eqb, eqb-true, append_assoc, Option, Some, None}
use Rattle.std.specs.Prelude.{ℤ, if◌then◌else◌}
use Rattle.std.proofs.lemmas.Bool.{cases_lt}
use Rattle.std.proofs.lemmas.Option.{same_Some}
use Rattle.dds_base.specs.declared.change.Change.{Change}
use Rattle.dds_base.specs.declared.happening.Happening.{Happening}
use Rattle.dds_base.specs.declared.qos.MatchedWriter.{MatchedWriter}
use Rattle.dds_base.specs.declared.happening.Happening.TheVariants.{Read as HasRead, Took, Heard as WasHeard, Died}
use Rattle.dds_base.specs.Liveliness.{dead_at, is_alive, with_deaths}
use Rattle.dds_base.specs.Places.{MayPassOver}
use Rattle.dds_machine.specs.declared.call.Call.{Call}
use Rattle.dds_base.specs.declared.endpoint.Endpoint.{Endpoint}
use Rattle.dds_machine.specs.declared.reply.Move.{Move}
use Rattle.dds_machine.specs.declared.reply.Move.TheVariants.{Place, Acknowledged, Heard, Begun as HasBegun, Strange}
use Rattle.dds_base.specs.declared.happening.PassedRun.{PassedRun}
use Rattle.dds_machine.specs.declared.reply.Reply.{Reply}
use Rattle.dds_machine.specs.declared.reply.Reply.TheVariants.{Done, Reported, Refused}
use Rattle.dds_machine.specs.Numbered.{numbered, with_numbered, HasNumber}
use Rattle.dds_machine.specs.Part.{Attachment, Away, Waiting, Begun, same_endpoint, WriterProxy, Reader, Rtps, Dds, Part, no_reader, own_writer, own_proxies, own_reader, at_reader, at_writer, place_of, with_place, with_begun, with_heard, with_acknowledged, publication_among}
use Rattle.dds_machine.specs.Moves.{Grounds, as_to, match_of, position_at, AreMoves, Begins as PlaceBegins, Places, Hears, DeliveryStep}
use Rattle.dds_machine.specs.Ticks.{TickStep, reader_ticked}
use Rattle.dds_machine.specs.Calls.{Effect, nothing, writes, tells, looks_at_matches, effect, effect_of, Answers, CallStep}
use Rattle.dds_machine.specs.Matching.{MatchReader, UnmatchReader, MatchWriter, UnmatchWriter, MeetReader, MeetWriter, happened_after, happened_once_met, is_known, parted_at, reader_joined, reader_left, reader_looked_at, reader_met, with_how, with_match}
use Rattle.dds_machine.specs.Watching.{Tests}
use Rattle.dds_protocol.specs.InOrder.{came_from}
use Rattle.dds_machine.proofs.Tables.{begun-cases, numbered-cases, numbered-map-cases, numbered-same, length-with_numbered, place-cases, place-hits, place-heard, place-how, place-stays, same_is}
use Rattle.dds_protocol.proofs.Growth.{TickStep-rows, TickStep-readers}
use Rattle.dds_protocol.proofs.Policies.{IsReliableAt, still_reliable}
use Rattle.dds_protocol.proofs.CallChanges.{CallChange, unchanged, reads, takes, looks, watches, is_told, sees_matches, changes_of}
use Rattle.dds_protocol.proofs.InOrder.{same_self, passes_none, publication_append, publication_kept, Along, along_as, RestsOn, goes_along, others_go, different}

pub has_with : {X : Type 0} (xs : List X) (i : ℕ) (x : X) (j : ℕ) → HasNumber xs j → HasNumber (with_numbered xs i x) j
has_with xs i x j h =
    let e = length-with_numbered xs i x in let low = h.0 in let high = h.1 in
    (omega (arith, low), omega (arith, e, high))

numbered-other : {X : Type 0} (xs : List X) (i : ℕ) (x : X) (j : ℕ) (d : X) → (j ≡ i → ⊥)
    → numbered (with_numbered xs i x) j d ≡ numbered xs j d
numbered-other xs i x j d f = ⊎_elim (λ s. s) (λ o. absurd (f o.0)) (numbered-cases xs i x j d)

-- a writer has this publication handle at the peer's reader, which is at this place in its list
pub record HasPlace (part : Part) (w : Endpoint) (r publication place : ℕ) : Type 0 where
  pub handle : publication_among (own_proxies part r) w ≡ Some publication
  pub at : place_of (own_proxies part r) w ≡ Some place

-- what came at a peer's reader from a matched writer with these changes
pub record Lane (changes : List Change) (part : Part) (w : Endpoint) (r : ℕ) : Type 0 where
  pub rows : HasNumber part.rtps.readers r
  pub own : HasNumber part.dds.readers r
  pub publication : ℕ
  pub place : ℕ
  pub matched : HasPlace part w r publication place
  pub along : Along changes publication (position_at part r place)

-- the reader has the same writers and places as before, and was entered what did not come
pub lane_as : (changes : List Change) (old new : Part) (w : Endpoint) (r : ℕ) → (l : Lane changes old w r)
    → HasNumber new.rtps.readers r → HasNumber new.dds.readers r
    → publication_among (own_proxies new r) w ≡ publication_among (own_proxies old r) w
    → place_of (own_proxies new r) w ≡ place_of (own_proxies old r) w
    → came_from l.publication (own_reader new r).happened ≡ came_from l.publication (own_reader old r).happened
    → Lane changes new w r
lane_as changes old new w r l rows own handles places came = record {
  rows = rows;
  own = own;
  publication = l.publication;
  place = l.place;
  matched = record { handle = handles ∙ l.matched.handle; at = places ∙ l.matched.at };
  along =
      along_as changes l.publication l.publication (position_at old r l.place)
      (position_at new r l.place) l.along came refl;
}

-- a delivery

moved_other : (changes : List Change) (old : Part) (w : Endpoint) (r k : ℕ) (rows : List WriterProxy)
    (happened : List Happening) → (r ≡ k → ⊥) → Lane changes old w r → Lane changes (at_reader old k rows happened) w r
moved_other changes old w r k rows happened f l =
    let reader : Reader = record (own_reader old k) { happened = happened } in
    let same : numbered (with_numbered old.rtps.readers k rows) r [] ≡ numbered old.rtps.readers r [] =
    numbered-other old.rtps.readers k rows r [] f in
    lane_as changes old (at_reader old k rows happened) w r l (has_with old.rtps.readers k rows r l.rows)
    (has_with old.dds.readers k reader r l.own)
    (ap (λ (x : List WriterProxy). publication_among x w) same) (ap (λ (x : List WriterProxy). place_of x w) same)
    (ap (λ (x : Reader). came_from l.publication x.happened) (numbered-other old.dds.readers k reader r no_reader f))

-- the reader itself has these rows now, and this happened there
moved_here : (changes : List Change) (old : Part) (w : Endpoint) (r publication place : ℕ) (rows : List WriterProxy)
    (happened : List Happening) → Lane changes old w r → publication_among rows w ≡ Some publication
    → place_of rows w ≡ Some place → Along changes publication (record { place = place; happened = happened })
    → Lane changes (at_reader old r rows happened) w r
moved_here changes old w r publication place rows happened l handle at a =
    let reader : Reader = record (own_reader old r) { happened = happened } in
    let new = at_reader old r rows happened in
    let proxies : own_proxies new r ≡ rows = numbered-same old.rtps.readers r rows [] l.rows in
    let reads : (own_reader new r).happened ≡ happened =
    ap (λ (x : Reader). x.happened) (numbered-same old.dds.readers r reader no_reader l.own) in
    record {
      rows = has_with old.rtps.readers r rows r l.rows;
      own = has_with old.dds.readers r reader r l.own;
      publication = publication;
      place = place;
      matched =
          record {
            handle = ap (λ (x : List WriterProxy). publication_among x w) proxies
                ∙ handle;
            at = ap (λ (x : List WriterProxy). place_of x w) proxies ∙ at;
          };
      along =
          along_as changes publication publication (record { place = place; happened = happened })
          (position_at new r place) a (ap (λ (x : List Happening). came_from publication x) reads) refl;
    }

same_writer : (changes : List Change) (g : Grounds) (old : Part) (w : Endpoint) (r to : ℕ) (passed : List PassedRun)
    (new : Part) → RestsOn changes (as_to g w r) → IsReliableAt old r → Lane changes old w r
    → (h : Places g old w r to passed new)
    → Lane changes (at_reader old r (with_place (own_proxies old r) w to) h.end.happened) w r
same_writer changes g old w r to passed new f reliable l h =
    let rows = with_place (own_proxies old r) w to in
    let same_handle : l.publication ≡ h.publication =
    same_Some l.publication h.publication (sym l.matched.handle ∙ h.matched.handle) in
    let same_place : l.place ≡ h.place = same_Some l.place h.place (sym l.matched.at ∙ h.matched.at) in
    let begins : Along changes h.publication (position_at old r h.place) =
    along_as changes l.publication h.publication (position_at old r l.place) (position_at old r h.place) l.along
    (ap (λ (x : ℕ). came_from x (own_reader old r).happened) (sym same_handle)) (sym same_place) in
    let end =
    goes_along changes (as_to g w r) (match_of old r h.publication)
    (position_at old r h.place) passed to h.end f reliable h.goes begins in
    moved_here changes old w r h.publication to rows h.end.happened l
    (publication_kept (λ (p : WriterProxy). record p { place = to }) (λ p. refl) (own_proxies old r) w w
    ∙ h.matched.handle) (place-hits (own_proxies old r) w h.place to h.matched.at)
    (along_as changes h.publication h.publication h.end
    (record { place = to; happened = h.end.happened }) end.0 refl (sym end.1))

other_writer : (changes : List Change) (g : Grounds) (old : Part) (w v : Endpoint) (r to : ℕ) (passed : List PassedRun)
    (new : Part) → (w ≡ v → ⊥) → Lane changes old w r → (h : Places g old v r to passed new)
    → Lane changes (at_reader old r (with_place (own_proxies old r) v to) h.end.happened) w r
other_writer changes g old w v r to passed new f l h =
    let rows = with_place (own_proxies old r) v to in
    let same : place_of rows w ≡ place_of (own_proxies old r) w =
    ⊎_elim (λ s. s) (λ o. absurd (f o.0)) (place-cases (own_proxies old r) v h.place to w h.matched.at) in
    let apart : h.publication ≡ l.publication → ⊥ =
    different (own_proxies old r) v w h.publication l.publication h.matched.handle l.matched.handle (λ e. f (sym e))
    in
    moved_here changes old w r l.publication l.place rows h.end.happened l
    (publication_kept (λ (p : WriterProxy). record p { place = to }) (λ p. refl) (own_proxies old r) v w
    ∙ l.matched.handle) (same ∙ l.matched.at)
    (along_as changes l.publication l.publication (position_at old r l.place)
    (record { place = l.place; happened = h.end.happened }) l.along
    (others_go l.publication (as_to g v r) (match_of old r h.publication)
    (position_at old r h.place) passed to h.end apart h.goes) refl)

either_writer : (changes : List Change) (g : Grounds) (old : Part) (w v : Endpoint) (r to : ℕ) (passed : List PassedRun)
    (new : Part) (b : Bool) → same_endpoint v w ≡ b → RestsOn changes (as_to g w r) → IsReliableAt old r
    → Lane changes old w r
    → (h : Places g old v r to passed new)
    → Lane changes (at_reader old r (with_place (own_proxies old r) v to) h.end.happened) w r
either_writer changes g old w v r to passed new true e f reliable l h =
    subst (λ (x : Endpoint). (k : Places g old x r to passed new)
    → Lane changes (at_reader old r (with_place (own_proxies old r) x to) k.end.happened) w r) (sym (same_is v w e))
    (λ k. same_writer changes g old w r to passed new f reliable l k) h
either_writer changes g old w v r to passed new false e f reliable l h =
    other_writer changes g old w v r to passed new
    (λ q. let s = ap (λ (x : Endpoint). same_endpoint x w) q in let t = same_self w in cc) l h

lane_here : (changes : List Change) (g : Grounds) (old : Part) (w v : Endpoint) (r to : ℕ) (passed : List PassedRun)
    (new : Part) → RestsOn changes (as_to g w r) → IsReliableAt old r → Lane changes old w r
    → Places g old v r to passed new → Lane changes new w r
lane_here changes g old w v r to passed new f reliable l h =
    subst (λ (x : Part). Lane changes x w r) (sym h.after)
    (either_writer changes g old w v r to passed new (same_endpoint v w) refl f reliable l h)

lane_place : (changes : List Change) (g : Grounds) (old : Part) (w v : Endpoint) (r k to : ℕ) (passed : List PassedRun)
    (new : Part) (b : Bool) → (k == r) ≡ b → RestsOn changes (as_to g w r) → IsReliableAt old r → Lane changes old w r
    → Places g old v k to passed new → Lane changes new w r
lane_place changes g old w v r k to passed new true e f reliable l h =
    subst (λ (j : ℕ). Places g old v j to passed new → Lane changes new w r) (sym (eqb-true k r e))
    (λ p. lane_here changes g old w v r to passed new f reliable l p) h
lane_place changes g old w v r k to passed new false e f reliable l h =
    subst (λ (x : Part). Lane changes x w r) (sym h.after)
    (moved_other changes old w r k (with_place (own_proxies old k) v to) h.end.happened
    (λ q. let s = eq-eqb k r (sym q) in cc) l)

-- a hearing changes neither handles nor places, and nothing comes by it
heard_here : (changes : List Change) (old : Part) (w v : Endpoint) (r publication : ℕ) (count : ℤ)
    → Lane changes old w r
    → Lane changes (at_reader old r (with_heard (own_proxies old r) v count)
    (WasHeard publication old.dds.moment ∷ (own_reader old r).happened)) w r
heard_here changes old w v r publication count l =
    let rows = with_heard (own_proxies old r) v count in
    let happened = WasHeard publication old.dds.moment ∷ (own_reader old r).happened in
    moved_here changes old w r l.publication l.place rows happened l
    (publication_kept (λ (p : WriterProxy). record p { heard = Some count }) (λ p. refl) (own_proxies old r) v w
    ∙ l.matched.handle) (place-heard (own_proxies old r) v count w ∙ l.matched.at)
    (along_as changes l.publication l.publication (position_at old r l.place)
    (record { place = l.place; happened = happened }) l.along refl refl)

lane_heard : (changes : List Change) (g : Grounds) (old : Part) (w v : Endpoint) (r k : ℕ) (new : Part) (b : Bool)
    → (k == r) ≡ b → Lane changes old w r → Hears g old v k new → Lane changes new w r
lane_heard changes g old w v r k new true e l h =
    subst (λ (j : ℕ). Hears g old v j new → Lane changes new w r) (sym (eqb-true k r e))
    (λ x. subst (λ (p : Part). Lane changes p w r) (sym x.after) (heard_here changes old w v r x.publication x.count l))
    h
lane_heard changes g old w v r k new false e l h =
    subst (λ (x : Part). Lane changes x w r) (sym h.after)
    (moved_other changes old w r k (with_heard (own_proxies old k) v h.count)
    (WasHeard h.publication old.dds.moment ∷ (own_reader old k).happened) (λ q. let s = eq-eqb k r (sym q) in cc) l)

-- the place of a reliable reader, which may pass over nothing, begins where it is
begun_here : (changes : List Change) (g : Grounds) (old : Part) (w v : Endpoint) (r from to : ℕ) (new : Part)
    → RestsOn changes (as_to g w r) → IsReliableAt old r → Lane changes old w r → PlaceBegins g old v r from to new
    → Lane changes (at_reader old r (with_begun (own_proxies old r) v to) (own_reader old r).happened) w r
begun_here changes g old w v r from to new f reliable l h =
    let rows = with_begun (own_proxies old r) v to in
    let happened = (own_reader old r).happened in
    let here : place_of rows w ≡ Some l.place =
    ⊎_elim (λ s. s ∙ l.matched.at)
    (λ o.
    let e = o.0 in
    let at : place_of (own_proxies old r) w ≡ Some from = ap (λ (x : Endpoint). place_of (own_proxies old r) x) e ∙ h.at in
    let same : l.place ≡ from = same_Some l.place from (sym l.matched.at ∙ at) in
    let no_less = h.no_less in
    let further : from < to → ⊥ =
    λ less. passes_none (as_to g w r) (own_reader old r).qos from reliable f.1
    (subst (λ (x : Endpoint). MayPassOver (as_to g x r) (own_reader old r).qos from) (sym e)
    (h.may_pass from (omega arith) less)) in
    let stays : l.place ≡ to =
    ⊎_elim (λ less. absurd (further less)) (λ more. omega (arith, more, no_less, same)) (cases_lt from to) in
    o.1 ∙ ap (λ (n : ℕ). Some n) (sym stays))
    (begun-cases (own_proxies old r) v from to w h.at) in
    moved_here changes old w r l.publication l.place rows happened l
    (publication_kept (λ (p : WriterProxy). record p { place = to; how = Begun }) (λ p. refl) (own_proxies old r) v w
    ∙ l.matched.handle) here
    (along_as changes l.publication l.publication (position_at old r l.place)
    (record { place = l.place; happened = happened }) l.along refl refl)

lane_begun : (changes : List Change) (g : Grounds) (old : Part) (w v : Endpoint) (r k from to : ℕ) (new : Part) (b : Bool)
    → (k == r) ≡ b → RestsOn changes (as_to g w r) → IsReliableAt old r → Lane changes old w r
    → PlaceBegins g old v k from to new → Lane changes new w r
lane_begun changes g old w v r k from to new true e f reliable l h =
    subst (λ (j : ℕ). PlaceBegins g old v j from to new → Lane changes new w r) (sym (eqb-true k r e))
    (λ x. subst (λ (p : Part). Lane changes p w r) (sym x.after) (begun_here changes g old w v r from to new f reliable l x))
    h
lane_begun changes g old w v r k from to new false e f reliable l h =
    subst (λ (x : Part). Lane changes x w r) (sym h.after)
    (moved_other changes old w r k (with_begun (own_proxies old k) v to) (own_reader old k).happened
    (λ q. let s = eq-eqb k r (sym q) in cc) l)

pub lane_moves : (changes : List Change) (g : Grounds) (old : Part) (w : Endpoint) (r : ℕ) (ms : List Move) (new : Part)
    → RestsOn changes (as_to g w r) → IsReliableAt old r → Lane changes old w r → AreMoves g old ms new
    → Lane changes new w r
lane_moves changes g old w r [] new f reliable l h = subst (λ (x : Part). Lane changes x w r) (sym h) l
lane_moves changes g old w r (Place v k to passed ∷ ms) new f reliable l h =
    lane_moves changes g h.0 w r ms new f (still_reliable g old (Place v k to passed) h.0 r h.1 reliable)
    (lane_place changes g old w v r k to passed h.0 (k == r) refl f reliable l h.1) h.2
lane_moves changes g old w r (Acknowledged v k to ∷ ms) new f reliable l h =
    lane_moves changes g h.0 w r ms new f (still_reliable g old (Acknowledged v k to) h.0 r h.1 reliable)
    (subst (λ (x : Part). Lane changes x w r) (sym h.1.after)
    (lane_as changes old
    (at_writer old v (record (own_writer old v) { readers = with_acknowledged (own_writer old v).readers k to })) w
    r l l.rows l.own refl refl refl)) h.2
lane_moves changes g old w r (HasBegun v k from to ∷ ms) new f reliable l h =
    lane_moves changes g h.0 w r ms new f (still_reliable g old (HasBegun v k from to) h.0 r h.1 reliable)
    (lane_begun changes g old w v r k from to h.0 (k == r) refl f reliable l h.1) h.2
lane_moves changes g old w r (Strange v k ∷ ms) new f reliable l h =
    lane_moves changes g h.0 w r ms new f (still_reliable g old (Strange v k) h.0 r h.1 reliable)
    (subst (λ (x : Part). Lane changes x w r) (sym h.1.after) l) h.2
lane_moves changes g old w r (Heard v k ∷ ms) new f reliable l h =
    lane_moves changes g h.0 w r ms new f (still_reliable g old (Heard v k) h.0 r h.1 reliable)
    (lane_heard changes g old w v r k h.0 (k == r) refl l h.1) h.2

pub lane_delivery : (changes : List Change) (g : Grounds) (old : Part) (w : Endpoint) (r : ℕ) (reply : Reply) (new : Part)
    → RestsOn changes (as_to g w r) → IsReliableAt old r → Lane changes old w r → DeliveryStep g old reply new
    → Lane changes new w r
lane_delivery changes g old w r (Reported report) new f reliable l h =
    lane_moves changes g old w r report.moves new f reliable l h
lane_delivery changes g old w r reply new f reliable l h = absurd h

-- a call

-- the same changes came at the reader of this number, and there are as many readers
abbrev pub SameCame : Dds → Dds → ℕ → Type 0
SameCame old new r =
    (length new.readers ≡ length old.readers)
    × ((p : ℕ) → came_from p (numbered new.readers r no_reader).happened
    ≡ came_from p (numbered old.readers r no_reader).happened)

pub same_came : (old new : Dds) (r : ℕ) → new ≡ old → SameCame old new r
same_came old new r e = (
  ap (λ (d : Dds). length d.readers) e,
  λ p. ap (λ (d : Dds). came_from p (numbered d.readers r no_reader).happened) e,
)

-- the reader of number k has changed, but the same changes came at it
pub changed_reader : (old : Part) (new : Dds) (k : ℕ) (reader : Reader) (r : ℕ)
    → ((p : ℕ) → came_from p reader.happened ≡ came_from p (own_reader old k).happened)
    → new ≡ record old.dds { readers = with_numbered old.dds.readers k reader } → SameCame old.dds new r
changed_reader old new k reader r same e = (
  ap (λ (d : Dds). length d.readers) e ∙ length-with_numbered old.dds.readers k reader,
  λ p.
      ap (λ (d : Dds). came_from p (numbered d.readers r no_reader).happened) e
      ∙ ⊎_elim (λ s. ap (λ (x : Reader). came_from p x.happened) s)
      (λ o. ap (λ (x : Reader). came_from p x.happened) o.1
      ∙ (same p ∙ ap (λ (j : ℕ). came_from p (own_reader old j).happened) (sym o.0)))
      (numbered-cases old.dds.readers k reader r no_reader),
)

-- by a parting nothing comes
parting_came : (publication : Option ℕ) (now : ℕ) (h : List Happening) (p : ℕ)
    → came_from p (happened_after publication now h) ≡ came_from p h
parting_came None now h p = refl
parting_came (Some w) now h p = by (is_alive w h)
  where
    by : (b : Bool) → came_from p (if b then Died w now ∷ h else h) ≡ came_from p h
    by true = refl
    by false = refl

-- nor as a writer is met
meeting_came : (known : Bool) (writer : MatchedWriter) (h : List Happening) (p : ℕ)
    → came_from p (happened_once_met known writer h) ≡ came_from p h
meeting_came true writer h p = refl
meeting_came false writer h p = refl

-- an access enters nothing that came, and what is watched or seen is not what came
call_came : (old : Part) (new : Dds) (r : ℕ) → CallChange old new → SameCame old.dds new r
call_came old new r (unchanged is) = same_came old.dds new r is
call_came old new r (reads k samples is) =
    changed_reader old new k (record (own_reader old k) { happened = HasRead samples ∷ (own_reader old k).happened }) r
    (λ p. refl) is
call_came old new r (takes k samples is) =
    changed_reader old new k (record (own_reader old k) { happened = Took samples ∷ (own_reader old k).happened }) r
    (λ p. refl) is
call_came old new r (looks k seen is) =
    changed_reader old new k (record (own_reader old k) { seen = seen }) r (λ p. refl) is
call_came old new r (watches after filters sets is) = (
  ap (λ (d : Dds). length d.readers) is,
  λ p. ap (λ (d : Dds). came_from p (numbered d.readers r no_reader).happened) is,
)
call_came old new r (is_told (MatchReader w v reliable) is) = same_came old.dds new r is
call_came old new r (is_told (UnmatchReader w v) is) = same_came old.dds new r is
call_came old new r (is_told (MeetReader w v) is) = same_came old.dds new r is
call_came old new r (is_told (MeetWriter k w as_writer) is) =
    changed_reader old new k (reader_met (own_proxies old k) (own_reader old k) w as_writer) r
    (λ p. meeting_came (is_known (own_proxies old k) w) as_writer (own_reader old k).happened p) is
call_came old new r (is_told (MatchWriter k w) is) =
    changed_reader old new k (reader_joined (own_reader old k) w) r (λ p. refl) is
call_came old new r (is_told (UnmatchWriter k w) is) =
    changed_reader old new k (reader_left (own_reader old k) w (parted_at old k w)) r
    (λ p. parting_came (publication_among (own_proxies old k) w) old.dds.moment (own_reader old k).happened p) is
call_came old new r (sees_matches k is) =
    changed_reader old new k (reader_looked_at (own_proxies old k) (own_reader old k)) r (λ p. refl) is

answers_came : (tests : Tests) (old : Part) (c : Call) (reply : Reply) (new : Dds) (r : ℕ)
    → Answers tests old c reply new → SameCame old.dds new r
answers_came tests old c reply new r a = call_came old new r (changes_of tests old c reply new a)

-- the rows of all readers are as before
pub lane_same : (changes : List Change) (old new : Part) (w : Endpoint) (r : ℕ) → (l : Lane changes old w r)
    → new.rtps.readers ≡ old.rtps.readers → HasNumber new.dds.readers r
    → came_from l.publication (own_reader new r).happened ≡ came_from l.publication (own_reader old r).happened
    → Lane changes new w r
lane_same changes old new w r l rows own came =
    lane_as changes old new w r l (subst (λ (x : List (List WriterProxy)). HasNumber x r) (sym rows) l.rows) own
    (ap (λ (x : List (List WriterProxy)). publication_among (numbered x r []) w) rows)
    (ap (λ (x : List (List WriterProxy)). place_of (numbered x r []) w) rows) came

-- one reader has other rows, in which the writer has the handle and the place that it had
lane_rows : (changes : List Change) (old new : Part) (w : Endpoint) (r k : ℕ) (rows : List WriterProxy)
    → (l : Lane changes old w r) → new.rtps.readers ≡ with_numbered old.rtps.readers k rows
    → HasNumber new.dds.readers r
    → came_from l.publication (own_reader new r).happened ≡ came_from l.publication (own_reader old r).happened
    → ((h p : ℕ) → publication_among (own_proxies old k) w ≡ Some h → place_of (own_proxies old k) w ≡ Some p
    → (publication_among rows w ≡ Some h) × (place_of rows w ≡ Some p))
    → Lane changes new w r
lane_rows changes old new w r k rows l is own came f =
    let same : (numbered (with_numbered old.rtps.readers k rows) r [] ≡ own_proxies old r)
    ⊎ ((r ≡ k) × (numbered (with_numbered old.rtps.readers k rows) r [] ≡ rows)) =
    numbered-cases old.rtps.readers k rows r [] in
    let to : own_proxies new r ≡ numbered (with_numbered old.rtps.readers k rows) r [] =
    ap (λ (x : List (List WriterProxy)). numbered x r []) is in
    let there : (publication_among (own_proxies new r) w ≡ Some l.publication) × (place_of (own_proxies new r) w ≡ Some l.place) =
    ⊎_elim (λ e. (
      ap (λ (x : List WriterProxy). publication_among x w) (to ∙ e) ∙ l.matched.handle,
      ap (λ (x : List WriterProxy). place_of x w) (to ∙ e) ∙ l.matched.at,
    ))
    (λ o.
    let both = f l.publication l.place
    (ap (λ (j : ℕ). publication_among (own_proxies old j) w) (sym o.0) ∙ l.matched.handle)
    (ap (λ (j : ℕ). place_of (own_proxies old j) w) (sym o.0) ∙ l.matched.at) in (
      ap (λ (x : List WriterProxy). publication_among x w) (to ∙ o.1) ∙ both.0,
      ap (λ (x : List WriterProxy). place_of x w) (to ∙ o.1) ∙ both.1,
    )) same in
    record {
      rows = subst (λ (x : List (List WriterProxy)). HasNumber x r) (sym is)
          (has_with old.rtps.readers k rows r l.rows);
      own = own;
      publication = l.publication;
      place = l.place;
      matched = record { handle = there.0; at = there.1 };
      along = along_as changes l.publication l.publication (position_at old r l.place)
          (position_at new r l.place) l.along came refl;
    }

-- how a reader stands to a writer changes no handle and no place; a new writer comes after all
how_stays : (rows : List WriterProxy) (v : Endpoint) (how : Attachment) (w : Endpoint) (h p : ℕ)
    → publication_among rows w ≡ Some h → place_of rows w ≡ Some p
    → (publication_among (with_how rows v how) w ≡ Some h) × (place_of (with_how rows v how) w ≡ Some p)
how_stays rows v how w h p is at = (
  publication_kept (λ (q : WriterProxy). record q { how = how }) (λ q. refl) rows v w ∙ is,
  place-how rows v how w ∙ at,
)

match_stays : (rows : List WriterProxy) (v w : Endpoint) (h p : ℕ) → publication_among rows w ≡ Some h
    → place_of rows w ≡ Some p
    → (publication_among (with_match rows v) w ≡ Some h) × (place_of (with_match rows v) w ≡ Some p)
match_stays rows v w h p is at = by (is_known rows v)
  where
    new : WriterProxy
    new = record { writer = v; place = 1; heard = None; how = Waiting }

    by : (b : Bool)
        → (publication_among (if b then with_how rows v Waiting else rows ++ new ∷ []) w ≡ Some h)
        × (place_of (if b then with_how rows v Waiting else rows ++ new ∷ []) w ≡ Some p)
    by true = how_stays rows v Waiting w h p is at
    by false = (publication_append 1 h rows new w is, place-stays rows new w p at)

-- what a call does to the rows of readers leaves handles and places
effect_lane : (changes : List Change) (old new : Part) (w : Endpoint) (r : ℕ) (e : Effect) → (l : Lane changes old w r)
    → new.rtps ≡ effect old.rtps e → HasNumber new.dds.readers r
    → came_from l.publication (own_reader new r).happened ≡ came_from l.publication (own_reader old r).happened
    → Lane changes new w r
effect_lane changes old new w r nothing l h own came =
    lane_same changes old new w r l (ap (λ (x : Rtps). x.readers) h) own came
effect_lane changes old new w r (writes v entry) l h own came =
    lane_same changes old new w r l (ap (λ (x : Rtps). x.readers) h) own came
effect_lane changes old new w r (looks_at_matches v) l h own came =
    lane_same changes old new w r l (ap (λ (x : Rtps). x.readers) h) own came
effect_lane changes old new w r (tells (MatchReader k v reliable)) l h own came =
    lane_same changes old new w r l (ap (λ (x : Rtps). x.readers) h) own came
effect_lane changes old new w r (tells (UnmatchReader k v)) l h own came =
    lane_same changes old new w r l (ap (λ (x : Rtps). x.readers) h) own came
effect_lane changes old new w r (tells (MatchWriter k v)) l h own came =
    lane_rows changes old new w r k (with_match (own_proxies old k) v) l (ap (λ (x : Rtps). x.readers) h) own came
    (λ handle place. match_stays (own_proxies old k) v w handle place)
effect_lane changes old new w r (tells (MeetReader k v)) l h own came =
    lane_same changes old new w r l (ap (λ (x : Rtps). x.readers) h) own came
effect_lane changes old new w r (tells (MeetWriter k v as_writer)) l h own came =
    lane_rows changes old new w r k (with_match (own_proxies old k) v) l (ap (λ (x : Rtps). x.readers) h) own came
    (λ handle place. match_stays (own_proxies old k) v w handle place)
effect_lane changes old new w r (tells (UnmatchWriter k v)) l h own came =
    lane_rows changes old new w r k (with_how (own_proxies old k) v Away) l (ap (λ (x : Rtps). x.readers) h) own came
    (λ handle place. how_stays (own_proxies old k) v Away w handle place)

pub lane_call : (changes : List Change) (tests : Tests) (old : Part) (w : Endpoint) (r : ℕ) (c : Call) (reply : Reply)
    (new : Part) → Lane changes old w r → CallStep tests old c reply new → Lane changes new w r
lane_call changes tests old w r c reply new l h =
    let came = answers_came tests old c reply new.dds r h.answers in
    let count = came.0 in
    effect_lane changes old new w r (effect_of old c reply) l h.rtps
    (subst (λ (n : ℕ). (1 ≤ r) × (r ≤ n)) (sym count) l.own) (came.1 l.publication)

-- a tick: by deaths nothing comes

deaths_came : (now : ℕ) (ws : List ℕ) (h : List Happening) (p : ℕ) → came_from p (with_deaths now ws h) ≡ came_from p h
deaths_came now [] h p = refl
deaths_came now (w ∷ ws) h p = deaths_came now ws (Died w now ∷ h) p

ticked_came : (now : ℕ) (rs : List Reader) (r p : ℕ)
    → came_from p (numbered (map (reader_ticked now) rs) r no_reader).happened
    ≡ came_from p (numbered rs r no_reader).happened
ticked_came now rs r p =
    let old : Reader = numbered rs r no_reader in
    ⊎_elim (λ e. ap (λ (x : Reader). came_from p x.happened) e
    ∙ deaths_came now (dead_at old.qos now old.happened) old.happened p)
    (λ n. ap (λ (x : Reader). came_from p x.happened) (n.0 ∙ sym n.1))
    (numbered-map-cases (reader_ticked now) rs r no_reader)

tick_came : (old : Part) (now : ℕ) (reply : Reply) (new : Part) → TickStep old now reply new → (r p : ℕ)
    → came_from p (own_reader new r).happened ≡ came_from p (own_reader old r).happened
tick_came old now Done new h r p =
    ap (λ (x : Part). came_from p (own_reader x r).happened) h.1.1 ∙ ticked_came now old.dds.readers r p
tick_came old now (Refused code) new h r p = ap (λ (x : Part). came_from p (own_reader x r).happened) h.1.1
tick_came old now reply new h r p = absurd h.1

pub lane_tick : (changes : List Change) (old : Part) (w : Endpoint) (r now : ℕ) (reply : Reply) (new : Part)
    → Lane changes old w r → TickStep old now reply new → Lane changes new w r
lane_tick changes old w r now reply new l h =
    let count : length new.dds.readers ≡ length old.dds.readers = TickStep-readers old now reply new h in
    lane_same changes old new w r l (TickStep-rows old now reply new h)
    (subst (λ (n : ℕ). (1 ≤ r) × (r ≤ n)) (sym count) l.own) (tick_came old now reply new h r l.publication)

-- more changes are written
pub lane_longer : (changes later : List Change) (part : Part) (w : Endpoint) (r : ℕ) → Lane changes part w r
    → Lane (changes ++ later) part w r
lane_longer changes later part w r l =
    let came = came_from l.publication (own_reader part r).happened in
    let a = l.along in
    record {
      rows = l.rows;
      own = l.own;
      publication = l.publication;
      place = l.place;
      matched = l.matched;
      along =
          record {
            rest = a.rest ++ later;
            first = ap (λ (xs : List Change). xs ++ later) a.first
                ∙ append_assoc came a.rest later;
            count = a.count;
          };
    }
