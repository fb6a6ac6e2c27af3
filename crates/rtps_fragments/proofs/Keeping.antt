-- Few numbers are kept, in few octets.
use Rattle.std.proofs.Common.{◌≡◌, ◌∙◌, ℕ, ◌+◌, ◌-◌, ◌≤◌, Bool, true, false, cond, eqb, List, [], ◌∷◌, length, get_or, replicate, Option, Some, None, refl, arith}
use Rattle.std.specs.Option.{option_map_or}
use Rattle.std.specs.List.{position}
use Rattle.std.proofs.lemmas.List.{length-replicate}
use Rattle.std.proofs.lemmas.List.Elements.{All-map, All-nil, All-set, All-weaker}
use Rattle.std.proofs.lemmas.List.Quantifiers.{position-Some}
use Rattle.std.proofs.lemmas.List.Sums.{sum_by-le}
use Rattle.dds_base.specs.declared.guid.Guid.{Guid}
use Rattle.rtps_fragments.specs.declared.telling.InForce.{InForce}
use Rattle.rtps_fragments.specs.DataFrag.{Fragment, IsFragment, count_of, place_of}
use Rattle.rtps_fragments.specs.Keeping.{Kept, IsKept, heard, is_alike, nothing_of, with_fragments}
use Rattle.rtps_fragments.specs.Telling.{in_force_after}
use Rattle.rtps_fragments.specs.Hearing.{Row, Part, Begins, IsFragmentOf, is_row, rows_after, told, told_at, told_by}
use Rattle.rtps_fragments.specs.Bounded.{AllAreFew, AreFew, FewAreKept, FewAreShort, KnownAreFew, NoneAreFew, octets_of}
use Rattle.rtps_fragments.proofs.Knowing.{forgotten_all, known_all}
use Rattle.rtps_fragments.proofs.HeardLaws.{heard_leaves}
use Rattle.rtps_fragments.proofs.Placing.{octets_fit, marks_fit, same_whole, overlaid-length}

IsKept-nothing : (f : Fragment) → IsFragment f → IsKept (nothing_of f)
IsKept-nothing f v = record {
  octets = length-replicate f.sample_size 0;
  came = length-replicate (count_of f.sample_size f.fragment_size) false;
  carried = omega (arith, v.carried);
}

either : (b : Bool) (xs ys : List ℕ) (n : ℕ) → length xs + n ≤ 65435 → length ys + n ≤ 65435
    → length (cond b xs ys) + n ≤ 65435
either true xs ys n x y = x
either false xs ys n x y = y

IsKept-added : (f : Fragment) (timestamp : Option ℕ) (k : Kept) → IsFragment f → IsKept k → is_alike k f ≡ true
    → IsKept (with_fragments k f timestamp)
IsKept-added f timestamp k v o alike =
    let n = length-replicate f.fragments_in_submessage true in
    record {
      octets = overlaid-length k.octets (place_of f) f.octets (octets_fit k f o v alike) ∙ o.octets;
      came = overlaid-length k.came (f.fragment_starting_num - 1) (replicate f.fragments_in_submessage true)
          (omega (arith, n, marks_fit k f o v alike)) ∙ o.came;
      carried = either (eqb f.fragment_starting_num 1) f.parameters k.parameters k.sample_size
          (omega (arith, v.carried, same_whole k f alike)) o.carried;
    }

few_heard : (kept : List Kept) (f : Fragment) (timestamp : Option ℕ) → IsFragment f → AreFew kept
    → AreFew ((heard kept f timestamp).kept)
few_heard kept f timestamp v few =
    let left = heard_leaves IsKept IsKept kept f timestamp few.payloads (λ k o. o)
    (λ k o e sn. IsKept-added f timestamp k v o e) (IsKept-nothing f v) in
    record { numbers = left.few few.numbers; payloads = left.kept }

few_told : (c : InForce) (rows : List Row) (f : Fragment) → IsFragment f → AllAreFew rows
    → AllAreFew ((told c rows f).rows)
few_told c rows f v all = by_place (position (is_row c.source f.writer_id) rows) refl
  where
    by_place : (o : Option ℕ) → position (is_row c.source f.writer_id) rows ≡ o
        → AllAreFew ((option_map_or (λ i. told_at c rows i (get_or rows i (record {
          writer = record { prefix = c.source; entity = f.writer_id };
          kept = [];
        })) f) o (record { rows = rows; message = None })).rows)
    by_place None e = all
    by_place (Some i) e =
        let d : Row = record { writer = record { prefix = c.source; entity = f.writer_id }; kept = [] } in
        let r : Row = get_or rows i d in
        let there = position-Some (is_row c.source f.writer_id) rows i d e in
        All-set (λ (q : Row). AreFew q.kept) rows i
        (record { writer = r.writer; kept = (heard r.kept f c.timestamp).kept })
        (few_heard r.kept f c.timestamp v (all i d there.0)) all

few_by : (c : InForce) (rows : List Row) (id flags : ℕ) (body : List ℕ) (o : Option Fragment)
    → IsFragmentOf id flags body o → AllAreFew rows → AllAreFew ((told_by c rows o).rows)
few_by c rows id flags body None is all = all
few_by c rows id flags body (Some f) is all = few_told c rows f (is.1.valid) all

few_after : (c : InForce) (bytes rest : List ℕ) (rows : List Row) (ps : List Part) → Begins bytes ps rest
    → AllAreFew rows → AllAreFew (rows_after c rows ps)
few_after c bytes rest rows [] begins all = all
few_after c bytes rest rows (p ∷ ps) begins all =
    few_after (in_force_after c p.read) begins.0 rest ((told_by c rows p.fragment).rows) ps begins.4
    (few_by c rows p.id p.flags p.body p.fragment begins.3 all)

pub few_are_kept : FewAreKept
few_are_kept c body rest rows after out all few h = rw h.rows_are (few_after c body rest rows h.parts h.begins few)

pub none_are_few : NoneAreFew
none_are_few writers =
    All-map (λ (r : Row). AreFew r.kept) (λ (w : Guid). record { writer = w; kept = [] }) writers
    (λ k d lt. record { numbers = omega arith; payloads = All-nil IsKept })

short : (k : Kept) → IsKept k → octets_of k ≤ 65435
short k o = omega (arith, o.carried, o.octets)

pub few_are_short : FewAreShort
few_are_short kept few =
    let sum =
    sum_by-le octets_of 65435 kept (All-weaker IsKept (λ (k : Kept). octets_of k ≤ 65435) short kept few.payloads) in
    omega (arith, sum, few.numbers)

pub known_are_few : KnownAreFew
known_are_few rows w all = (
  known_all (λ (r : Row). AreFew r.kept) rows w (record { numbers = omega arith; payloads = All-nil IsKept }) all,
  forgotten_all (λ (r : Row). AreFew r.kept) rows w all,
)
