-- Who is matched with whom stays while a packet is taken up.
use Rattle.std.proofs.Common.{◌≡◌, ℕ, true, List, [], ◌∷◌, Option, None, Some, refl, ap, sym, ◌∙◌, ⊎_elim}
use Rattle.std.specs.Prelude.{Bool}
use Rattle.std.specs.Option.{option_map, option_map_or}
use Rattle.dds_base.specs.declared.endpoint.Endpoint.{Endpoint}
use Rattle.dds_machine.specs.declared.reply.Move.{Move}
use Rattle.dds_machine.specs.declared.reply.Move.TheVariants.{Place, Acknowledged, Heard, Begun as HasBegun, Strange}
use Rattle.dds_machine.specs.Moves.{Grounds, IsMove, AreMoves}
use Rattle.dds_machine.specs.Numbered.{numbered, with_numbered}
use Rattle.dds_machine.specs.Part.{Attachment, Away, Begun, WriterProxy, Part, how_of, is_attached, own_proxies, place_of, row_of, with_begun, with_heard, with_place, with_row}
use Rattle.dds_machine.proofs.Tables.{numbered-cases, row-cases, row-hits}

-- of these rows of a peer's readers, the reader of this number is matched with the writer
abbrev pub is_met : List (List WriterProxy) → ℕ → Endpoint → Bool
is_met rows r w = is_attached (how_of (numbered rows r []) w)

same_how : (change : WriterProxy → WriterProxy) → ((p : WriterProxy) → (change p).how ≡ p.how)
    → (o : Option WriterProxy)
    → option_map_or (λ (p : WriterProxy). p.how) (option_map change o) Away
    ≡ option_map_or (λ (p : WriterProxy). p.how) o Away
same_how change kept None = refl
same_how change kept (Some p) = kept p

-- a change of a row that leaves how the reader stands to its writer
pub how_kept : (change : WriterProxy → WriterProxy) → ((p : WriterProxy) → (change p).writer ≡ p.writer)
    → ((p : WriterProxy) → (change p).how ≡ p.how) → (rows : List WriterProxy) (w v : Endpoint)
    → how_of (with_row (λ (p : WriterProxy). p.writer) change rows w) v ≡ how_of rows v
how_kept change named kept rows w v =
    ⊎_elim (λ e. ap (λ (o : Option WriterProxy). option_map_or (λ (p : WriterProxy). p.how) o Away) e)
    (λ s.
    ap (λ (o : Option WriterProxy). option_map_or (λ (p : WriterProxy). p.how) o Away) s.1
    ∙ (same_how change kept (row_of (λ (p : WriterProxy). p.writer) rows w)
    ∙ ap (λ (e : Endpoint). how_of rows e) (sym s.0)))
    (row-cases (λ (p : WriterProxy). p.writer) change named rows w v)

begun_row : (to place : ℕ) (o : Option WriterProxy) → option_map (λ (p : WriterProxy). p.place) o ≡ Some place
    → option_map_or (λ (p : WriterProxy). p.how)
    (option_map (λ (p : WriterProxy). record p { place = to; how = Begun }) o) Away
    ≡ Begun
begun_row to place None h = cc
begun_row to place (Some p) h = refl

-- where a place began, it has
pub how_begun : (rows : List WriterProxy) (w : Endpoint) (place to : ℕ) → place_of rows w ≡ Some place
    → how_of (with_begun rows w to) w ≡ Begun
how_begun rows w place to h =
    ap (λ (o : Option WriterProxy). option_map_or (λ (p : WriterProxy). p.how) o Away)
    (row-hits (λ (p : WriterProxy). p.writer) (λ (p : WriterProxy). record p { place = to; how = Begun }) (λ p. refl)
    rows w)
    ∙ begun_row to place (row_of (λ (p : WriterProxy). p.writer) rows w) h

-- one reader has other rows, which say of each writer the same
met_set : (rows : List (List WriterProxy)) (k : ℕ) (after : List WriterProxy)
    → ((w : Endpoint) → is_attached (how_of after w) ≡ is_met rows k w) → (r : ℕ) (w : Endpoint)
    → is_met (with_numbered rows k after) r w ≡ is_met rows r w
met_set rows k after same r w =
    ⊎_elim (λ e. ap (λ (xs : List WriterProxy). is_attached (how_of xs w)) e)
    (λ s.
    ap (λ (xs : List WriterProxy). is_attached (how_of xs w)) s.1
    ∙ (same w ∙ ap (λ (j : ℕ). is_met rows j w) (sym s.0)))
    (numbered-cases rows k after r [])

-- the same ones are matched
abbrev pub SameMet : List (List WriterProxy) → List (List WriterProxy) → Type 0
SameMet old new = (r : ℕ) (w : Endpoint) → is_met new r w ≡ is_met old r w

-- a place that waits is one of a matched reader, and so is one that has begun
begun_met : (rows : List WriterProxy) (v : Endpoint) (place to : ℕ) → place_of rows v ≡ Some place
    → is_attached (how_of rows v) ≡ true → (w : Endpoint)
    → is_attached (how_of (with_begun rows v to) w) ≡ is_attached (how_of rows w)
begun_met rows v place to at waits w =
    ⊎_elim (λ e. ap (λ (o : Option WriterProxy). is_attached (option_map_or (λ (p : WriterProxy). p.how) o Away)) e)
    (λ s.
    ap (λ (x : Endpoint). is_attached (how_of (with_begun rows v to) x)) s.0
    ∙ (ap (λ (h : Attachment). is_attached h) (how_begun rows v place to at)
    ∙ sym (ap (λ (x : Endpoint). is_attached (how_of rows x)) s.0 ∙ waits)))
    (row-cases (λ (p : WriterProxy). p.writer) (λ (p : WriterProxy). record p { place = to; how = Begun }) (λ p. refl)
    rows v w)

move_met : (g : Grounds) (old : Part) (m : Move) (new : Part) → IsMove g old m new
    → SameMet old.rtps.readers new.rtps.readers
move_met g old (Place v k to passed) new h r w =
    ap (λ (q : Part). is_met q.rtps.readers r w) h.after
    ∙ met_set old.rtps.readers k (with_place (own_proxies old k) v to)
    (λ x. ap (λ (a : Attachment). is_attached a)
    (how_kept (λ (p : WriterProxy). record p { place = to }) (λ p. refl) (λ p. refl) (own_proxies old k) v x)) r w
move_met g old (Heard v k) new h r w =
    ap (λ (q : Part). is_met q.rtps.readers r w) h.after
    ∙ met_set old.rtps.readers k (with_heard (own_proxies old k) v h.count)
    (λ x. ap (λ (a : Attachment). is_attached a)
    (how_kept (λ (p : WriterProxy). record p { heard = Some h.count }) (λ p. refl) (λ p. refl)
    (own_proxies old k) v x)) r w
move_met g old (HasBegun v k from to) new h r w =
    ap (λ (q : Part). is_met q.rtps.readers r w) h.after
    ∙ met_set old.rtps.readers k (with_begun (own_proxies old k) v to)
    (begun_met (own_proxies old k) v from to h.at (ap (λ (a : Attachment). is_attached a) h.waits)) r w
move_met g old (Acknowledged v k to) new h r w = ap (λ (q : Part). is_met q.rtps.readers r w) h.after
move_met g old (Strange v k) new h r w = ap (λ (q : Part). is_met q.rtps.readers r w) h.after

pub moves_met : (g : Grounds) (old : Part) (ms : List Move) (new : Part) → AreMoves g old ms new
    → SameMet old.rtps.readers new.rtps.readers
moves_met g old [] new h r w = ap (λ (q : Part). is_met q.rtps.readers r w) h
moves_met g old (m ∷ ms) new h r w = moves_met g h.0 ms new h.2 r w ∙ move_met g old m h.0 h.1 r w
