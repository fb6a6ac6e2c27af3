-- The readers and the writers of a topic are each named once.
use Rattle.std.proofs.Common.{◌≡◌, ℕ, zero, suc, ◌+◌, ◌≤◌, Bool, ◌&&◌, true, false, cond, List, [], ◌∷◌, ◌++◌, Some, slice_get, refl, ap, sym, ◌∙◌, arith, ⊎_elim}
use Rattle.std.proofs.lemmas.Option.{same_Some}
use Rattle.dds_base.specs.declared.config.PeerConfig.{PeerConfig}
use Rattle.dds_base.specs.declared.config.ReaderConfig.{ReaderConfig}
use Rattle.dds_base.specs.declared.config.WriterConfig.{WriterConfig}
use Rattle.dds_base.specs.Matched.{any_reader, any_writer, same_topic, is_reliable_reader, of_ends_in, of_matched_ends}
use Rattle.dds_base.specs.declared.endpoint.Endpoint.{Endpoint}
use Rattle.dds_ends.specs.declared.matching.ReaderName.{ReaderName}
use Rattle.dds_ends.specs.declared.matching.WriterName.{WriterName}
use Rattle.dds_ends.specs.EndNames.{all_names, reader_name, reader_names, writer_name, writer_names}
use Rattle.dds_ends.proofs.Numbered.{append_get, cond_get}

-- no two of these have the same value
abbrev pub Once : {X Y : Type 0} → (X → Y) → List X → Type 0
Once {X} {Y} f xs = (j k : ℕ) (x y : X) → slice_get xs j ≡ Some x → slice_get xs k ≡ Some y → f x ≡ f y → j ≡ k

once_cons : {X Y : Type 0} (f : X → Y) (x : X) (xs : List X) → Once f xs
    → ((k : ℕ) (y : X) → slice_get xs k ≡ Some y → f x ≡ f y → ⊥) → Once f (x ∷ xs)
once_cons f x xs once apart zero zero a b at_a at_b same = refl
once_cons f x xs once apart zero (suc k) a b at_a at_b same = absurd (apart k b at_b (ap f (same_Some x a at_a) ∙ same))
once_cons f x xs once apart (suc j) zero a b at_a at_b same =
    absurd (apart j a at_a (ap f (same_Some x b at_b) ∙ sym same))
once_cons f x xs once apart (suc j) (suc k) a b at_a at_b same = ap suc (once j k a b at_a at_b same)

once_append : {X Y : Type 0} (f : X → Y) (xs ys : List X) → Once f xs → Once f ys
    → ((j k : ℕ) (x y : X) → slice_get xs j ≡ Some x → slice_get ys k ≡ Some y → f x ≡ f y → ⊥) → Once f (xs ++ ys)
once_append f [] ys first second apart = second
once_append f (x ∷ xs) ys first second apart =
    once_cons f x (xs ++ ys)
    (once_append f xs ys (λ j k a b at_a at_b same. let e = first (suc j)
    (suc k) a b at_a at_b same in omega (arith, e)) second
    (λ j k a b at_a at_b same. apart (suc j) k a b at_a at_b same))
    (λ k y at same.
    ⊎_elim
    (λ l. let e = first zero (suc l.0) x y refl l.1 same in omega (arith, e))
    (λ r. apart zero r.0 x y refl r.1 same) (append_get xs ys k y at))

-- Of the ends of a topic each is told of once, in their order.
module _ {E X : Type 0} (ends : PeerConfig → List E) (is_wanted : E → Bool) (topic_of : E → ℕ)
    (tell : ℕ → PeerConfig → ℕ → E → X) (end_of : X → Endpoint)
    (is : (i : ℕ) (p : PeerConfig) (n : ℕ) (e : E) → end_of (tell i p n e) ≡ record { peer = i; number = n })
    (topic : ℕ) where
  -- the ends of one peer
  abbrev ends_in : ℕ → PeerConfig → ℕ → List E → List X
  ends_in i p n es = of_ends_in is_wanted topic_of (tell i p) topic n es

  -- have its number, and numbers from this one on
  numbered_from : (i : ℕ) (p : PeerConfig) (n : ℕ) (es : List E) (k : ℕ) (x : X) → slice_get (ends_in i p n es) k ≡ Some x
      → ((end_of x).peer ≡ i) × (n ≤ (end_of x).number)
  numbered_from i p n [] k x at = absurd cc
  numbered_from i p n (e ∷ es) k x at =
      ⊎_elim
      (λ f.
      let here : end_of x ≡ record { peer = i; number = n } = ap end_of (sym f.1) ∙ is i p n e in
      let number = ap (λ (y : Endpoint). y.number) here in
      (ap (λ (y : Endpoint). y.peer) here, omega (arith, number)))
      (λ f. let later = numbered_from i p (n + 1) es f.0 x f.1 in let low = later.1 in (later.0, omega (arith, low)))
      (cond_get (is_wanted e && same_topic (topic_of e) topic) (tell i p n e) (ends_in i p (n + 1) es) k x at)

  once_cond : (b : Bool) (x : X) (xs : List X) → Once end_of (x ∷ xs) → Once end_of xs
      → Once end_of (cond b (x ∷ xs) xs)
  once_cond true x xs with_it without = with_it
  once_cond false x xs with_it without = without

  once_in : (i : ℕ) (p : PeerConfig) (n : ℕ) (es : List E) → Once end_of (ends_in i p n es)
  once_in i p n [] = λ j k x y at_x at_y same. absurd cc
  once_in i p n (e ∷ es) =
      let rest = once_in i p (n + 1) es in
      once_cond (is_wanted e && same_topic (topic_of e) topic) (tell i p n e) (ends_in i p (n + 1) es)
      (once_cons end_of (tell i p n e) (ends_in i p (n + 1) es) rest
      (λ k y at same.
      let low = (numbered_from i p (n + 1) es k y at).1 in
      let number : n ≡ (end_of y).number = ap (λ (x : Endpoint). x.number) (sym (is i p n e) ∙ same) in
      omega (arith, low, number)))
      rest

  abbrev ends_at : ℕ → List PeerConfig → List X
  ends_at i ps = of_matched_ends ends is_wanted topic_of tell topic i ps

  peers_from : (i : ℕ) (ps : List PeerConfig) (k : ℕ) (x : X) → slice_get (ends_at i ps) k ≡ Some x
      → i ≤ (end_of x).peer
  peers_from i [] k x at = absurd cc
  peers_from i (p ∷ ps) k x at =
      ⊎_elim (λ f. let peer = (numbered_from i p 1 (ends p) f.0 x f.1).0 in omega (arith, peer))
      (λ f. let low = peers_from (i + 1) ps f.0 x f.1 in omega (arith, low))
      (append_get (ends_in i p 1 (ends p)) (ends_at (i + 1) ps) k x at)

  ends_once : (i : ℕ) (ps : List PeerConfig) → Once end_of (ends_at i ps)
  ends_once i [] = λ j k x y at_x at_y same. absurd cc
  ends_once i (p ∷ ps) =
      once_append end_of (ends_in i p 1 (ends p)) (ends_at (i + 1) ps) (once_in i p 1 (ends p)) (ends_once (i + 1) ps)
      (λ j k x y at_x at_y same.
      let here = (numbered_from i p 1 (ends p) j x at_x).0 in
      let low = peers_from (i + 1) ps k y at_y in
      let one = ap (λ (e : Endpoint). e.peer) same in omega (arith, here, low, one))

readers_once : (is_wanted : ReaderConfig → Bool) (topic first : ℕ) (peers : List PeerConfig)
    → Once (λ (y : ReaderName). y.reader)
    (of_matched_ends (λ (p : PeerConfig). p.readers) is_wanted (λ (r : ReaderConfig). r.topic) reader_name topic first
    peers)
readers_once is_wanted topic first peers =
    ends_once (λ (p : PeerConfig). p.readers) is_wanted (λ (r : ReaderConfig). r.topic) reader_name
    (λ (y : ReaderName). y.reader) (λ i p n r. refl) topic first peers

-- the reliable readers, and all
pub named_once : (topic first : ℕ) (peers : List PeerConfig)
    → Once (λ (y : ReaderName). y.reader) (reader_names topic first peers)
named_once topic first peers = readers_once is_reliable_reader topic first peers

pub all_once : (topic first : ℕ) (peers : List PeerConfig)
    → Once (λ (y : ReaderName). y.reader) (all_names topic first peers)
all_once topic first peers = readers_once any_reader topic first peers

-- and the writers
pub writers_once : (topic first : ℕ) (peers : List PeerConfig)
    → Once (λ (n : WriterName). n.writer) (writer_names topic first peers)
writers_once topic first peers =
    ends_once (λ (p : PeerConfig). p.writers) any_writer (λ (w : WriterConfig). w.topic) writer_name
    (λ (n : WriterName). n.writer) (λ i p n w. refl) topic first peers
