-- What happened at a reader stays as an event goes on, and more may happen: where nothing more does, its list is what it
-- was. Its policies stay.
use Rattle.std.proofs.Common.{◌≡◌, ℕ, ◌+◌, ◌≤◌, Bool, true, false, None, Some, List, [], ◌∷◌, ◌++◌, map, length, refl, subst, ap, sym, ◌∙◌, inl, inr, ⊎_elim, arith, append_assoc, length-append, Option}
use Rattle.std.specs.Prelude.{if◌then◌else◌}
use Rattle.dds_base.specs.declared.change.Change.{Change}
use Rattle.dds_protocol.specs.Roster.{Roster}
use Rattle.dds_base.specs.declared.guid.GuidPrefix.{GuidPrefix}
use Rattle.dds_base.specs.declared.happening.Happening.{Happening}
use Rattle.dds_base.specs.declared.qos.MatchedWriter.{MatchedWriter}
use Rattle.dds_base.specs.declared.happening.Happening.TheVariants.{Read as HasRead, Took, Died, Joined, Left, Passed, Heard as WasHeard}
use Rattle.dds_base.specs.declared.happening.PassedRun.{PassedRun}
use Rattle.dds_base.specs.Liveliness.{dead_at, is_alive, with_deaths}
use Rattle.dds_base.specs.Places.{WriterGrounds, Match, PlaceWith, AllCome, GoesTo, coming}
use Rattle.rtps_wire.specs.declared.submessage.Submessage.{Submessage}
use Rattle.dds_machine.specs.declared.reply.Move.{Move}
use Rattle.dds_machine.specs.declared.reply.Move.TheVariants.{Place, Acknowledged, Heard, Begun as HasBegun, Strange}
use Rattle.dds_machine.specs.declared.reply.Reply.{Reply}
use Rattle.dds_machine.specs.declared.reply.Reply.TheVariants.{Done, Refused, Reported}
use Rattle.dds_machine.specs.declared.reply.Report.{Report}
use Rattle.dds_machine.specs.Matching.{Telling, MatchReader, UnmatchReader, MatchWriter, UnmatchWriter, MeetReader, MeetWriter, happened_after, happened_once_met, is_known, parted_at, reader_joined, reader_left, reader_looked_at, reader_met, seen_after_telling}
use Rattle.dds_machine.specs.Moves.{Grounds, AreMoves, as_to, match_of, position_at}
use Rattle.dds_machine.specs.Noticing.{at_end}
use Rattle.dds_machine.specs.Numbered.{numbered, with_numbered}
use Rattle.dds_machine.specs.Part.{Dds, Part, Reader, WriterProxy, no_reader, at_reader, own_proxies, own_reader, publication_among, with_begun, with_heard, with_place}
use Rattle.dds_machine.specs.Ticks.{TickStep, reader_ticked}
use Rattle.dds_machine.specs.Watching.{Tests}
use Rattle.dds_protocol.specs.declared.event.Event.{Event}
use Rattle.dds_protocol.specs.declared.event.Event.TheVariants as event
use Rattle.dds_protocol.specs.declared.event.Output.{Output}
use Rattle.dds_protocol.specs.Claims.{Receiver, receiver_of, after_submessage}
use Rattle.dds_protocol.proofs.Resumed.{as_moves}
use Rattle.dds_protocol.specs.DueMessages.{was_asked}
use Rattle.dds_protocol.specs.Peer.{Peer, PeerStep, EventStep, claimed, claimed_by, packets_of}
use Rattle.dds_protocol.specs.Receipt.{TakesUp, Receives}
use Rattle.dds_protocol.proofs.Alike.{AlikeParts, end_alike}
use Rattle.dds_protocol.proofs.CallChanges.{CallChange, unchanged, reads, takes, looks, watches, is_told, sees_matches, changes_of}
use Rattle.dds_machine.proofs.Tables.{numbered-cases, numbered-map-cases}

-- ---- a list, and more of it

pub record More (old new : List Happening) : Type 0 where
  pub added : List Happening
  pub is : new ≡ added ++ old

more_same : (h : List Happening) → More h h
more_same h = record { added = []; is = refl }

more_on : (a b c : List Happening) → More a b → More b c → More a c
more_on a b c f g = record {
  added = g.added ++ f.added;
  is = g.is ∙ (ap (λ (xs : List Happening). g.added ++ xs) f.is ∙ sym (append_assoc g.added f.added a));
}

more_one : (e : Happening) (h : List Happening) → More h (e ∷ h)
more_one e h = record { added = e ∷ []; is = refl }

pub longer : (old new : List Happening) → More old new → length old ≤ length new
longer old new m = let is = ap (λ (h : List Happening). length h) m.is in let sum = length-append m.added old in
    omega (arith, is, sum)

more_none : (added old : List Happening) → length (added ++ old) ≡ length old → added ++ old ≡ old
more_none [] old same = refl
more_none (e ∷ added) old same = let sum = length-append added old in absurd (omega (arith, same, sum))

-- where it is no longer than it was, it is what it was
pub no_more : (old new : List Happening) → More old new → length new ≡ length old → new ≡ old
no_more old new m same =
    m.is ∙ more_none m.added old (ap (λ (h : List Happening). length h) (sym m.is) ∙ same)

-- ---- a reader of a part

pub record GoesOn (old new : Reader) : Type 0 where
  pub qos : new.qos ≡ old.qos
  pub more : More old.happened new.happened

pub goes_same : (r : Reader) → GoesOn r r
goes_same r = record { qos = refl; more = more_same r.happened }

pub goes_on : (a b c : Reader) → GoesOn a b → GoesOn b c → GoesOn a c
goes_on a b c f g = record {
  qos = g.qos ∙ f.qos;
  more = more_on a.happened b.happened c.happened f.more g.more;
}

goes_more : (r : Reader) (h : List Happening) → More r.happened h → GoesOn r (record r { happened = h })
goes_more r h more = record { qos = refl; more = more }

-- each of the readers of two lists
abbrev AllGoOn : List Reader → List Reader → Type 0
AllGoOn old new = (n : ℕ) → GoesOn (numbered old n no_reader) (numbered new n no_reader)

all_same : (rs : List Reader) → AllGoOn rs rs
all_same rs = λ n. goes_same (numbered rs n no_reader)

all_on : (a b c : List Reader) → AllGoOn a b → AllGoOn b c → AllGoOn a c
all_on a b c f g = λ n. goes_on (numbered a n no_reader) (numbered b n no_reader) (numbered c n no_reader) (f n) (g n)

-- one of them does, and the others are as they were
all_with : (rs : List Reader) (k : ℕ) (r : Reader) → GoesOn (numbered rs k no_reader) r
    → AllGoOn rs (with_numbered rs k r)
all_with rs k r h = λ n.
    ⊎_elim
    (λ e. subst (λ (x : Reader). GoesOn (numbered rs n no_reader) x) (sym e) (goes_same (numbered rs n no_reader)))
    (λ s. subst (λ (x : Reader). GoesOn (numbered rs n no_reader) x) (sym s.1)
    (subst (λ (j : ℕ). GoesOn (numbered rs j no_reader) r) (sym s.0) h))
    (numbered-cases rs k r n no_reader)

-- ---- a call

more_parted : (publication : Option ℕ) (now : ℕ) (h : List Happening) → More h (happened_after publication now h)
more_parted None now h = more_same h
more_parted (Some w) now h = by (is_alive w h)
  where
    by : (b : Bool) → More h (Left w now ∷ (if b then Died w now ∷ h else h))
    by true =
        more_on h (Died w now ∷ h) (Left w now ∷ Died w now ∷ h) (more_one (Died w now) h)
        (more_one (Left w now) (Died w now ∷ h))
    by false = more_one (Left w now) h

more_met : (known : Bool) (writer : MatchedWriter) (h : List Happening) → More h (happened_once_met known writer h)
more_met true writer h = more_same h
more_met false writer h = more_one (Joined writer) h

by_telling : (old : Part) (t : Telling) → AllGoOn old.dds.readers (seen_after_telling old t).readers
by_telling old (MatchReader w v reliable) = all_same old.dds.readers
by_telling old (UnmatchReader w v) = all_same old.dds.readers
by_telling old (MatchWriter k w) =
    let r : Reader = own_reader old k in
    all_with old.dds.readers k (reader_joined r w) (record { qos = refl; more = more_same r.happened })
by_telling old (UnmatchWriter k w) =
    let r : Reader = own_reader old k in
    all_with old.dds.readers k (reader_left r w (parted_at old k w))
    (record {
      qos = refl;
      more = more_parted (publication_among (own_proxies old k) w) old.dds.moment r.happened;
    })
by_telling old (MeetReader w v) = all_same old.dds.readers
by_telling old (MeetWriter k w as_writer) =
    let r : Reader = own_reader old k in
    all_with old.dds.readers k (reader_met (own_proxies old k) r w as_writer)
    (record { qos = refl; more = more_met (is_known (own_proxies old k) w) as_writer r.happened })

by_call : (old : Part) (new : Dds) → CallChange old new → AllGoOn old.dds.readers new.readers
by_call old new (unchanged is) = subst (λ (d : Dds). AllGoOn old.dds.readers d.readers) (sym is) (all_same old.dds.readers)
by_call old new (reads k samples is) =
    let r : Reader = own_reader old k in
    subst (λ (d : Dds). AllGoOn old.dds.readers d.readers) (sym is)
    (all_with old.dds.readers k (record r { happened = HasRead samples ∷ r.happened })
    (goes_more r (HasRead samples ∷ r.happened) (more_one (HasRead samples) r.happened)))
by_call old new (takes k samples is) =
    let r : Reader = own_reader old k in
    subst (λ (d : Dds). AllGoOn old.dds.readers d.readers) (sym is)
    (all_with old.dds.readers k (record r { happened = Took samples ∷ r.happened })
    (goes_more r (Took samples ∷ r.happened) (more_one (Took samples) r.happened)))
by_call old new (looks k seen is) =
    let r : Reader = own_reader old k in
    subst (λ (d : Dds). AllGoOn old.dds.readers d.readers) (sym is)
    (all_with old.dds.readers k (record r { seen = seen }) (record { qos = refl; more = more_same r.happened }))
by_call old new (sees_matches k is) =
    let r : Reader = own_reader old k in
    subst (λ (d : Dds). AllGoOn old.dds.readers d.readers) (sym is)
    (all_with old.dds.readers k (reader_looked_at (own_proxies old k) r)
    (record { qos = refl; more = more_same r.happened }))
by_call old new (is_told t is) =
    subst (λ (d : Dds). AllGoOn old.dds.readers d.readers) (sym is) (by_telling old t)
by_call old new (watches after filters sets is) =
    subst (λ (d : Dds). AllGoOn old.dds.readers d.readers) (sym is) (all_same old.dds.readers)

-- ---- a tick

more_deaths : (now : ℕ) (ws : List ℕ) (h : List Happening) → More h (with_deaths now ws h)
more_deaths now [] h = more_same h
more_deaths now (w ∷ ws) h =
    more_on h (Died w now ∷ h) (with_deaths now ws (Died w now ∷ h)) (more_one (Died w now) h)
    (more_deaths now ws (Died w now ∷ h))

by_ticks : (now : ℕ) (rs : List Reader) → AllGoOn rs (map (reader_ticked now) rs)
by_ticks now rs = λ n.
    let r : Reader = numbered rs n no_reader in
    ⊎_elim
    (λ e. subst (λ (x : Reader). GoesOn r x) (sym e)
    (goes_more r (with_deaths now (dead_at r.qos now r.happened) r.happened)
    (more_deaths now (dead_at r.qos now r.happened) r.happened)))
    (λ none. subst (λ (x : Reader). GoesOn r x) (none.1 ∙ sym none.0) (goes_same r))
    (numbered-map-cases (reader_ticked now) rs n no_reader)

by_tick : (old : Part) (now : ℕ) (reply : Reply) (new : Part) → TickStep old now reply new
    → AllGoOn old.dds.readers new.dds.readers
by_tick old now Done new h =
    subst (λ (p : Part). AllGoOn old.dds.readers p.dds.readers) (sym h.1.1) (by_ticks now old.dds.readers)
by_tick old now (Refused code) new h =
    subst (λ (p : Part). AllGoOn old.dds.readers p.dds.readers) (sym h.1.1) (all_same old.dds.readers)
by_tick old now reply new h = absurd h.1

-- ---- a delivery

more_come : (g : WriterGrounds) (match : Match) (old : PlaceWith) (cs : List Change) (new : PlaceWith)
    → AllCome g match old cs new → More old.happened new.happened
more_come g match old [] new h =
    subst (λ (x : PlaceWith). More old.happened x.happened) (sym h) (more_same old.happened)
more_come g match old (c ∷ cs) new h =
    more_on old.happened h.0.happened new.happened
    (subst (λ (x : PlaceWith). More old.happened x.happened) (sym h.1.after)
    (more_one (coming match old c) old.happened))
    (more_come g match h.0 cs new h.2)

more_goes : (g : WriterGrounds) (match : Match) (old : PlaceWith) (passed : List PassedRun) (to : ℕ) (new : PlaceWith)
    → GoesTo g match old passed to new → More old.happened new.happened
more_goes g match old [] to new h = more_come g match old h.0 new h.1
more_goes g match old (run ∷ runs) to new h =
    more_on old.happened h.0.happened new.happened (more_come g match old h.2.0 h.0 h.2.1)
    (more_on h.0.happened h.1.happened new.happened
    (subst (λ (x : PlaceWith). More h.0.happened x.happened) (sym h.3.after)
    (more_one (Passed match.publication run.first run.last) h.0.happened))
    (more_goes g match h.1 runs to new h.5))

-- more happened at one of the readers
at_one : (old : Part) (k : ℕ) (rows : List WriterProxy) (h : List Happening) → More (own_reader old k).happened h
    → AllGoOn old.dds.readers (at_reader old k rows h).dds.readers
at_one old k rows h more =
    all_with old.dds.readers k (record (own_reader old k) { happened = h }) (goes_more (own_reader old k) h more)

by_moves : (g : Grounds) (old : Part) (ms : List Move) (new : Part) → AreMoves g old ms new
    → AllGoOn old.dds.readers new.dds.readers
by_moves g old [] new h =
    subst (λ (p : Part). AllGoOn old.dds.readers p.dds.readers) (sym h) (all_same old.dds.readers)
by_moves g old (Place w k to passed ∷ ms) new h =
    all_on old.dds.readers h.0.dds.readers new.dds.readers
    (subst (λ (p : Part). AllGoOn old.dds.readers p.dds.readers) (sym h.1.after)
    (at_one old k (with_place (own_proxies old k) w to) h.1.end.happened
    (more_goes (as_to g w k) (match_of old k h.1.publication) (position_at old k h.1.place) passed to h.1.end
    h.1.goes)))
    (by_moves g h.0 ms new h.2)
by_moves g old (Acknowledged w k to ∷ ms) new h =
    all_on old.dds.readers h.0.dds.readers new.dds.readers
    (subst (λ (p : Part). AllGoOn old.dds.readers p.dds.readers) (sym h.1.after) (all_same old.dds.readers))
    (by_moves g h.0 ms new h.2)
by_moves g old (Strange w k ∷ ms) new h =
    all_on old.dds.readers h.0.dds.readers new.dds.readers
    (subst (λ (p : Part). AllGoOn old.dds.readers p.dds.readers) (sym h.1.after) (all_same old.dds.readers))
    (by_moves g h.0 ms new h.2)
by_moves g old (Heard w k ∷ ms) new h =
    let happened : List Happening = WasHeard h.1.publication old.dds.moment ∷ (own_reader old k).happened in
    all_on old.dds.readers h.0.dds.readers new.dds.readers
    (subst (λ (p : Part). AllGoOn old.dds.readers p.dds.readers) (sym h.1.after)
    (at_one old k (with_heard (own_proxies old k) w h.1.count) happened
    (more_one (WasHeard h.1.publication old.dds.moment) (own_reader old k).happened)))
    (by_moves g h.0 ms new h.2)
by_moves g old (HasBegun w k from to ∷ ms) new h =
    all_on old.dds.readers h.0.dds.readers new.dds.readers
    (subst (λ (p : Part). AllGoOn old.dds.readers p.dds.readers) (sym h.1.after)
    (at_one old k (with_begun (own_proxies old k) w to) (own_reader old k).happened
    (more_same (own_reader old k).happened)))
    (by_moves g h.0 ms new h.2)

by_taking : (roster : Roster) (gs : ℕ → Grounds) (peer : ℕ) (own : GuidPrefix) (index : ℕ) (at : Receiver)
    (ss : List Submessage) (old : Part) (moves : List Move) (refused : Option ℕ) (new : Part)
    → TakesUp roster gs peer own index at ss old moves refused new → AllGoOn old.dds.readers new.dds.readers
by_taking roster gs peer own index at [] old moves refused new h =
    subst (λ (p : Part). AllGoOn old.dds.readers p.dds.readers) (sym h.2) (all_same old.dds.readers)
by_taking roster gs peer own index at (s ∷ ss) old moves refused new (inl h) =
    subst (λ (p : Part). AllGoOn old.dds.readers p.dds.readers) (sym h.2) (all_same old.dds.readers)
by_taking roster gs peer own index at (s ∷ ss) old moves refused new (inr h) =
    all_on old.dds.readers h.2.dds.readers new.dds.readers (by_moves (gs index) old h.0 h.2 h.4)
    (by_taking roster gs peer own (index + 1) (after_submessage own at s) ss h.2 h.1 refused new h.6)

by_packet : (roster : Roster) (gs : ℕ → Grounds) (peer : ℕ) (bytes : List ℕ) (old : Part) (report : Report)
    (new : Part) → Receives roster gs peer bytes old report new → AllGoOn old.dds.readers new.dds.readers
by_packet roster gs peer bytes old report new (inl h) =
    by_taking roster gs peer (roster.prefix peer) 0 (receiver_of h.message.prefix) h.message.submessages old
    report.moves report.refused new h.taken
by_packet roster gs peer bytes old report new (inr h) =
    subst (λ (p : Part). AllGoOn old.dds.readers p.dds.readers) (sym h.after) (all_same old.dds.readers)

-- ---- an event

by_event : (roster : Roster) (tests : Tests) (old : Peer) (e : Event) (reply : Reply) (new : Peer)
    → EventStep roster tests old e reply new → AllGoOn old.part.dds.readers new.part.dds.readers
by_event roster tests old (event.Call call) reply new h =
    by_call old.part new.part.dds (changes_of tests old.part call reply new.part.dds h.0.answers)
by_event roster tests old (event.Tick now) reply new h =
    by_tick old.part now reply new.part (was_asked old.known.answered old.part, h.0)
by_event roster tests old (event.Deliver packet) (Reported report) new h =
    by_packet roster (claimed roster old.delivered packet old.part.rtps.readers old.number) old.number packet old.part
    report new.part h.0
by_event roster tests old (event.Deliver packet) reply new h = absurd h
by_event roster tests old (event.Resume k) reply new h =
    let g : Grounds = claimed_by roster (packets_of old.delivered) old.number in
    let made = as_moves g old.part k reply new.part h.0 in
    by_moves g old.part made.0 new.part made.1

-- each reader of the peer
pub each_goes_on : (roster : Roster) (tests : Tests) (old : Peer) (e : Event) (output : Output) (new : Peer)
    → PeerStep roster tests old e output new → (n : ℕ) → GoesOn (own_reader old.part n) (own_reader new.part n)
each_goes_on roster tests old e output new step = by_event roster tests old e output.reply new step.step

-- and at the end of the event
pub end_goes_on : (before part : Part) (n : ℕ) → GoesOn (own_reader part n) (own_reader (at_end before part) n)
end_goes_on before part n =
    let alike : AlikeParts part (at_end before part) = end_alike before part in
    record {
      qos = alike.qos n;
      more =
          subst (λ (h : List Happening). More (own_reader part n).happened h) (sym (alike.happened n))
          (more_same (own_reader part n).happened);
    }
