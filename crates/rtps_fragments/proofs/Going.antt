-- Submessages are heard one after the other.
use Rattle.std.proofs.Common.{◌≡◌, ◌∙◌, ℕ, List, [], ◌∷◌, ◌++◌, refl, sym, ap, append_assoc}
use Rattle.std.specs.Option.{option_to_list}
use Rattle.std.proofs.lemmas.List.{append-nil}
use Rattle.rtps_wire.specs.declared.submessage.Submessage.{Submessage}
use Rattle.rtps_wire.specs.declared.submessage.Submessage.TheVariants.{Pad, InfoDst, InfoTs, Data, Heartbeat, AckNack, Gap, Other}
use Rattle.rtps_wire.specs.Frames.{IsFrame, IsEnd}
use Rattle.rtps_wire.specs.Submessages.{Reads}
use Rattle.rtps_fragments.specs.declared.telling.InForce.{InForce}
use Rattle.rtps_fragments.specs.Telling.{in_force_after}
use Rattle.rtps_fragments.specs.Hearing.{Row, Part, Begins, Hears, HearsAll, HearsOne, HearsSome, IsWanted, messages_of, rows_after, told_by}

-- what is in force behind submessages
pub in_force_at : InForce → List Part → InForce
in_force_at c [] = c
in_force_at c (p ∷ ps) = in_force_at (in_force_after c p.read) ps

pub same_source : (c : InForce) (s : Submessage) → (in_force_after c s).source ≡ c.source
same_source c Pad = refl
same_source c (InfoDst prefix) = refl
same_source c (InfoTs moment) = refl
same_source c (Data d) = refl
same_source c (Heartbeat h) = refl
same_source c (AckNack a) = refl
same_source c (Gap g) = refl
same_source c (Other id) = refl

-- ---- one more submessage

begins_more : (bytes : List ℕ) (ps : List Part) (left : List ℕ) (p : Part) (rest : List ℕ) → Begins bytes ps left
    → Begins left (p ∷ []) rest → Begins bytes (ps ++ p ∷ []) rest
begins_more bytes [] left p rest b one = rw b one
begins_more bytes (q ∷ qs) left p rest b one = (b.0, b.1, b.2, b.3, begins_more b.0 qs left p rest b.4 one)

in_force_more : (c : InForce) (ps : List Part) (p : Part)
    → in_force_at c (ps ++ p ∷ []) ≡ in_force_after (in_force_at c ps) p.read
unfolding in_force_at
in_force_more c [] p = refl
in_force_more c (q ∷ qs) p = in_force_more (in_force_after c q.read) qs p

rows_more : (c : InForce) (rows : List Row) (ps : List Part) (p : Part)
    → rows_after c rows (ps ++ p ∷ []) ≡ (told_by (in_force_at c ps) (rows_after c rows ps) p.fragment).rows
unfolding in_force_at
rows_more c rows [] p = refl
rows_more c rows (q ∷ qs) p = rows_more (in_force_after c q.read) ((told_by c rows q.fragment).rows) qs p

messages_more : (c : InForce) (rows : List Row) (ps : List Part) (p : Part)
    → messages_of c rows (ps ++ p ∷ []) ≡ messages_of c rows ps
    ++ option_to_list ((told_by (in_force_at c ps) (rows_after c rows ps) p.fragment).message)
unfolding in_force_at
messages_more c rows [] p = append-nil (option_to_list ((told_by c rows p.fragment).message))
messages_more c rows (q ∷ qs) p =
    let first = option_to_list ((told_by c rows q.fragment).message) in
    let next = in_force_after c q.read in
    ap (λ (z : List (List ℕ)). option_to_list ((told_by c rows q.fragment).message) ++ z)
    (messages_more (in_force_after c q.read) ((told_by c rows q.fragment).rows) qs p)
    ∙ sym (append_assoc (option_to_list ((told_by c rows q.fragment).message))
    (messages_of (in_force_after c q.read) ((told_by c rows q.fragment).rows) qs)
    (option_to_list ((told_by (in_force_at (in_force_after c q.read) qs)
    (rows_after (in_force_after c q.read) ((told_by c rows q.fragment).rows) qs) p.fragment).message)))

-- ---- what was heard so far

pub record Goes (c : InForce) (body left : List ℕ) (rows now : List Row) (out all : List (List ℕ)) (d : InForce)
    : Type 0 where
  pub heard : Hears c body left rows now out all
  pub in_force_is : d ≡ in_force_at c heard.parts
  pub source_is : d.source ≡ c.source

pub goes_none : (c : InForce) (body : List ℕ) (rows : List Row) (out : List (List ℕ)) → Goes c body body rows rows out out c
unfolding in_force_at
goes_none c body rows out = record {
  heard = record { parts = []; begins = refl; rows_are = refl; messages_are = sym (append-nil out) };
  in_force_is = refl;
  source_is = refl;
}

pub goes_more : (c : InForce) (body left : List ℕ) (rows now : List Row) (out all : List (List ℕ)) (d : InForce)
    (id flags : ℕ) (next rest : List ℕ) (s : Submessage) (later : List Row) (more : List (List ℕ))
    → Goes c body left rows now out all d → IsFrame left id flags next rest → Reads id flags next s
    → HearsOne d id flags next now later all more
    → Goes c body rest rows later out more (in_force_after d s)
goes_more c body left rows now out all d id flags next rest s later more g frame reads one =
    let ps = g.heard.parts in
    let p : Part = record { id = id; flags = flags; body = next; read = s; fragment = one.fragment } in
    let here : Begins left (p ∷ []) rest = (rest, frame, reads, one.is_fragment, refl) in
    let e = g.in_force_is in
    record {
      heard = record {
        parts = ps ++ p ∷ [];
        begins = begins_more body ps left p rest g.heard.begins here;
        rows_are = one.rows_are ∙ rw (g.in_force_is, g.heard.rows_are) (sym (rows_more c rows ps p));
        messages_are =
            one.messages_are
            ∙ rw (g.in_force_is, g.heard.rows_are, g.heard.messages_are)
            (append_assoc out (messages_of c rows ps)
            (option_to_list ((told_by (in_force_at c ps) (rows_after c rows ps) one.fragment).message))
            ∙ ap (λ (z : List (List ℕ)). out ++ z) (sym (messages_more c rows ps p)));
      };
      in_force_is = rw g.in_force_is (sym (in_force_more c ps p));
      source_is = same_source d s ∙ g.source_is;
    }

pub goes_all : (c : InForce) (body left : List ℕ) (rows now : List Row) (out all : List (List ℕ)) (d : InForce)
    → Goes c body left rows now out all d → IsEnd left → HearsAll c body rows now out all
goes_all c body left rows now out all d g end = record { left = left; heard = g.heard; ends = end }

pub goes_some : (c : InForce) (body left : List ℕ) (rows now : List Row) (out all : List (List ℕ)) (d : InForce)
    (id flags : ℕ) (next rest : List ℕ) → Goes c body left rows now out all d → IsFrame left id flags next rest
    → IsWanted now d.source id flags next → HearsSome c body rows now out all
goes_some c body left rows now out all d id flags next rest g frame wanted = record {
  left = left;
  rest = rest;
  id = id;
  flags = flags;
  next = next;
  heard = g.heard;
  frame = frame;
  wanted = rw g.source_is at wanted;
}
