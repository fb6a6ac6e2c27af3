-- What is kept of each writer, and what is told, is of the DATA_FRAGs that came of it.
use Rattle.std.proofs.Common.{◌≡◌, ◌∙◌, ℕ, true, List, [], ◌∷◌, ◌++◌, get_or, Option, Some, None, refl, ap, subst, append_assoc}
use Rattle.std.specs.Prelude.{IfSome, nat_eq}
use Rattle.std.specs.Option.{option_map, option_map_or, option_to_list}
use Rattle.std.specs.List.{All, position}
use Rattle.std.specs.Cmp.Lexicographic.{pointwise}
use Rattle.std.proofs.lemmas.Bool.Decides.{Decides-eqb}
use Rattle.std.proofs.lemmas.List.Elements.{All-append, All-cons, All-map, All-nil, All-set, All-weaker, Contains-append_left, Contains-push}
use Rattle.std.proofs.lemmas.List.Quantifiers.{position-Some}
use Rattle.std.proofs.lemmas.Slice.Eq.{slice_eq-Decides}
use Rattle.dds_base.specs.declared.guid.EntityId.{EntityId}
use Rattle.dds_base.specs.declared.guid.Guid.{Guid}
use Rattle.dds_base.specs.declared.guid.GuidPrefix.{GuidPrefix}
use Rattle.rtps_wire.proofs.TestLaws.{both_hold}
use Rattle.rtps_fragments.specs.declared.telling.InForce.{InForce}
use Rattle.rtps_fragments.specs.DataFrag.{Fragment, IsFragment}
use Rattle.rtps_fragments.specs.Keeping.{Kept, heard, is_whole}
use Rattle.rtps_fragments.specs.Telling.{in_force_after, message_of}
use Rattle.rtps_fragments.specs.Hearing.{Row, Part, Begins, Told, IsFragmentOf, is_row, messages_of, rows_after, told, told_at, told_by}
use Rattle.rtps_fragments.specs.Assembled.{Arrival, AreOf, CameOf, IsOf, IsToldOf, KnownCame, NothingCame, WhatIsToldCame, arrivals_of}
use Rattle.rtps_fragments.proofs.Assembling.{IsOf-more, assembled, heard_of}
use Rattle.rtps_fragments.proofs.Knowing.{forgotten_all, known_all}
use Rattle.rtps_fragments.proofs.Going.{same_source}

same_octets : (a b : List ℕ) → pointwise nat_eq a b ≡ true → a ≡ b
same_octets a b = (slice_eq-Decides {E = nat_eq} Decides-eqb a b (pointwise nat_eq a b) refl).0

-- a row is of the writer that it was found by
row_prefix : (prefix : GuidPrefix) (entity : EntityId) (r : Row) → is_row prefix entity r ≡ true → r.writer.prefix ≡ prefix
row_prefix prefix entity r e =
    ap (λ (xs : List ℕ). record { 0 = xs }) (same_octets r.writer.prefix.0 prefix.0
    (both_hold (pointwise nat_eq r.writer.prefix.0 prefix.0) (pointwise nat_eq r.writer.entity.0 entity.0) e).0)

row_entity : (prefix : GuidPrefix) (entity : EntityId) (r : Row) → is_row prefix entity r ≡ true → r.writer.entity ≡ entity
row_entity prefix entity r e =
    ap (λ (xs : List ℕ). record { 0 = xs }) (same_octets r.writer.entity.0 entity.0
    (both_hold (pointwise nat_eq r.writer.prefix.0 prefix.0) (pointwise nat_eq r.writer.entity.0 entity.0) e).1)

-- ---- what came stays

later : (xs ys : List Arrival) (prefix : GuidPrefix) (entity : EntityId) (f : Fragment) → CameOf xs prefix entity f
    → CameOf (xs ++ ys) prefix entity f
later xs ys prefix entity f has =
    (Contains-append_left xs ys (record { source = prefix; fragment = f }) has.0, has.1)

AreOf-more : (xs ys : List Arrival) (rows : List Row) → AreOf xs rows → AreOf (xs ++ ys) rows
AreOf-more xs ys rows all =
    All-weaker (λ (r : Row). All (IsOf (CameOf xs r.writer.prefix r.writer.entity)) r.kept)
    (λ (r : Row). All (IsOf (CameOf (xs ++ ys) r.writer.prefix r.writer.entity)) r.kept)
    (λ r these. All-weaker (IsOf (CameOf xs r.writer.prefix r.writer.entity))
    (IsOf (CameOf (xs ++ ys) r.writer.prefix r.writer.entity))
    (IsOf-more (CameOf xs r.writer.prefix r.writer.entity) (CameOf (xs ++ ys) r.writer.prefix r.writer.entity)
    (later xs ys r.writer.prefix r.writer.entity)) r.kept these) rows all

IsToldOf-more : (xs ys : List Arrival) (m : List ℕ) → IsToldOf xs m → IsToldOf (xs ++ ys) m
IsToldOf-more xs ys m t = record {
  in_force = t.in_force;
  last = t.last;
  payload = t.payload;
  text = t.text;
  number = t.number;
  assembled = record {
    octets = t.assembled.octets;
    each = λ i lt.
        let x = t.assembled.each i lt in
        (x.0, later xs ys t.in_force.source t.last.writer_id x.0 x.1, x.2);
    opening =
        let x = t.assembled.opening in
        (x.0, later xs ys t.in_force.source t.last.writer_id x.0 x.1, x.2);
  };
}

-- ---- one DATA_FRAG

-- what is claimed of what was told
record Tells (xs : List Arrival) (t : Told) : Type 0 where
  rows : AreOf xs t.rows
  messages : All (IsToldOf xs) (option_to_list t.message)

told_if : (xs : List Arrival) (c : InForce) (f : Fragment) (o : Option Kept)
    → IfSome o (λ k. IsOf (CameOf xs c.source f.writer_id) k × (is_whole k ≡ true) × (k.writer_sn ≡ f.writer_sn))
    → All (IsToldOf xs) (option_to_list (option_map (message_of c f) o))
told_if xs c f None h = All-nil (IsToldOf xs)
told_if xs c f (Some k) h =
    All-cons (IsToldOf xs) (message_of c f k) [] (record {
      in_force = c;
      last = f;
      payload = k;
      text = refl;
      number = h.2;
      assembled = assembled (CameOf xs c.source f.writer_id) k h.0 h.1;
    }) (All-nil (IsToldOf xs))

tells_at : (xs : List Arrival) (c : InForce) (rows : List Row) (i : ℕ) (r : Row) (f : Fragment) → IsFragment f
    → AreOf xs rows → All (IsOf (CameOf xs r.writer.prefix r.writer.entity)) r.kept
    → r.writer.prefix ≡ c.source → r.writer.entity ≡ f.writer_id
    → Tells (xs ++ record { source = c.source; fragment = f } ∷ []) (told_at c rows i r f)
tells_at xs c rows i r f v all these prefix entity =
    let a : Arrival = record { source = c.source; fragment = f } in
    let ys : List Arrival = xs ++ a ∷ [] in
    let next : Row = record { writer = r.writer; kept = (heard r.kept f c.timestamp).kept } in
    let own : CameOf (xs ++ a ∷ []) r.writer.prefix r.writer.entity f =
    rw (prefix, entity) (Contains-push xs a, refl) in
    let left = heard_of (CameOf xs r.writer.prefix r.writer.entity)
    (CameOf (xs ++ a ∷ []) r.writer.prefix r.writer.entity) r.kept f c.timestamp (record {
      valid = v;
      later = later xs (a ∷ []) r.writer.prefix r.writer.entity;
      itself = own;
    }) these in
    record {
      rows = All-set (λ (q : Row). All (IsOf (CameOf (xs ++ a ∷ []) q.writer.prefix q.writer.entity)) q.kept) rows i next
          left.kept (AreOf-more xs (a ∷ []) rows all);
      messages = told_if (xs ++ a ∷ []) c f ((heard r.kept f c.timestamp).whole)
          (rw (prefix, entity) at left.whole);
    }

tells : (xs : List Arrival) (c : InForce) (rows : List Row) (f : Fragment) → IsFragment f → AreOf xs rows
    → Tells (xs ++ record { source = c.source; fragment = f } ∷ []) (told c rows f)
tells xs c rows f v all = by_place (position (is_row c.source f.writer_id) rows) refl
  where
    none : Row
    none = record { writer = record { prefix = c.source; entity = f.writer_id }; kept = [] }

    by_place : (o : Option ℕ) → position (is_row c.source f.writer_id) rows ≡ o
        → Tells (xs ++ record { source = c.source; fragment = f } ∷ [])
        (option_map_or (λ i. told_at c rows i (get_or rows i (record {
          writer = record { prefix = c.source; entity = f.writer_id };
          kept = [];
        })) f) o (record { rows = rows; message = None }))
    by_place None e = record {
      rows = AreOf-more xs (record { source = c.source; fragment = f } ∷ []) rows all;
      messages = All-nil (IsToldOf (xs ++ record { source = c.source; fragment = f } ∷ []));
    }
    by_place (Some i) e =
        let d : Row = record { writer = record { prefix = c.source; entity = f.writer_id }; kept = [] } in
        let there = position-Some (is_row c.source f.writer_id) rows i d e in
        tells_at xs c rows i (get_or rows i d) f v all (all i d there.0)
        (row_prefix c.source f.writer_id (get_or rows i d) there.1)
        (row_entity c.source f.writer_id (get_or rows i d) there.1)

-- ---- a datagram

one_arrival : InForce → Option Fragment → List Arrival
one_arrival c o = option_to_list (option_map (λ (f : Fragment). record { source = c.source; fragment = f }) o)

tells_by : (xs : List Arrival) (c : InForce) (rows : List Row) (id flags : ℕ) (body : List ℕ) (o : Option Fragment)
    → IsFragmentOf id flags body o → AreOf xs rows
    → Tells (xs ++ option_to_list (option_map (λ (f : Fragment). record { source = c.source; fragment = f }) o))
    (told_by c rows o)
tells_by xs c rows id flags body None is all = record {
  rows = AreOf-more xs [] rows all;
  messages = All-nil (IsToldOf (xs ++ []));
}
tells_by xs c rows id flags body (Some f) is all = tells xs c rows f (is.1.valid) all

record TellsAll (xs : List Arrival) (rows : List Row) (messages : List (List ℕ)) : Type 0 where
  rows_are : AreOf xs rows
  messages_are : All (IsToldOf xs) messages

tells_all : (xs : List Arrival) (c : InForce) (source : GuidPrefix) (bytes rest : List ℕ) (rows : List Row) (ps : List Part)
    → c.source ≡ source → Begins bytes ps rest → AreOf xs rows
    → TellsAll (xs ++ arrivals_of source ps) (rows_after c rows ps) (messages_of c rows ps)
tells_all xs c source bytes rest rows [] same begins all =
    record { rows_are = AreOf-more xs [] rows all; messages_are = All-nil (IsToldOf (xs ++ [])) }
tells_all xs c source bytes rest rows (p ∷ ps) same begins all =
    let here : List Arrival =
    option_to_list (option_map (λ (f : Fragment). record { source = source; fragment = f }) p.fragment) in
    let first : Tells (xs ++ option_to_list (option_map
    (λ (f : Fragment). record { source = source; fragment = f }) p.fragment)) (told_by c rows p.fragment) =
    subst (λ (z : GuidPrefix). Tells (xs ++ option_to_list (option_map
    (λ (f : Fragment). record { source = z; fragment = f }) p.fragment)) (told_by c rows p.fragment)) same
    (tells_by xs c rows p.id p.flags p.body p.fragment begins.3 all) in
    let more =
    tells_all (xs ++ here) (in_force_after c p.read) source begins.0 rest ((told_by c rows p.fragment).rows) ps
    (same_source c p.read ∙ same) begins.4 first.rows in
    let shape : (xs ++ here) ++ arrivals_of source ps ≡ xs ++ (here ++ arrivals_of source ps) =
    append_assoc xs here (arrivals_of source ps) in
    let early : All (IsToldOf ((xs ++ here) ++ arrivals_of source ps))
    (option_to_list ((told_by c rows p.fragment).message)) =
    All-weaker (IsToldOf (xs ++ here)) (IsToldOf ((xs ++ here) ++ arrivals_of source ps))
    (IsToldOf-more (xs ++ here) (arrivals_of source ps)) (option_to_list ((told_by c rows p.fragment).message))
    first.messages in
    let whole : TellsAll ((xs ++ here) ++ arrivals_of source ps)
    (rows_after (in_force_after c p.read) ((told_by c rows p.fragment).rows) ps)
    (option_to_list ((told_by c rows p.fragment).message)
    ++ messages_of (in_force_after c p.read) ((told_by c rows p.fragment).rows) ps) = record {
      rows_are = more.rows_are;
      messages_are = All-append (IsToldOf ((xs ++ here) ++ arrivals_of source ps))
          (option_to_list ((told_by c rows p.fragment).message))
          (messages_of (in_force_after c p.read) ((told_by c rows p.fragment).rows) ps) early more.messages_are;
    } in
    subst (λ (zs : List Arrival). TellsAll zs
    (rows_after (in_force_after c p.read) ((told_by c rows p.fragment).rows) ps)
    (option_to_list ((told_by c rows p.fragment).message)
    ++ messages_of (in_force_after c p.read) ((told_by c rows p.fragment).rows) ps)) shape whole

pub what_is_told_came : WhatIsToldCame
what_is_told_came xs c body rest rows after out all of h =
    let t = tells_all xs c c.source body rest rows h.parts refl h.begins of in
    (rw h.rows_are t.rows_are, t.messages_are)

pub nothing_came : NothingCame
nothing_came writers =
    All-map (λ (r : Row). All (IsOf (CameOf [] r.writer.prefix r.writer.entity)) r.kept)
    (λ (w : Guid). record { writer = w; kept = [] }) writers
    (λ k d lt. All-nil (IsOf (CameOf [] (get_or writers k d).prefix (get_or writers k d).entity)))

pub known_came : KnownCame
known_came xs rows w all = (
  known_all (λ (r : Row). All (IsOf (CameOf xs r.writer.prefix r.writer.entity)) r.kept) rows w
      (All-nil (IsOf (CameOf xs w.prefix w.entity))) all,
  forgotten_all (λ (r : Row). All (IsOf (CameOf xs r.writer.prefix r.writer.entity)) r.kept) rows w all,
)
