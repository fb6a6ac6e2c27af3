use Rattle.std.proofs.Common.{◌≡◌, ℕ, ◌+◌, ◌∷◌, List, length, true, false, sym, ap, ◌∙◌, refl, arith, rules, Option}
use Rattle.dds_base.specs.declared.key.Key.{Key}
use Rattle.dds_base.specs.declared.happening.Happening.{Happening}
use Rattle.dds_base.specs.declared.happening.Happening.TheVariants.{Died}
use Rattle.dds_base.specs.Life.{is_at, last_marker}
use Rattle.dds_instances.specs.Known.{IsKnown}
use Rattle.dds_cache.specs.declared.kept.Kept.{Kept}
use Rattle.dds_cache.specs.Kept.{IsKept, is_live, sample_at}
use Rattle.dds_cache.proofs.KeptLaws.{kept-newest, live-at}
use Rattle.dds_cache.proofs.DeathLaws.{died-absent, newest-died, some-same}
use Rattle.dds_cache.proofs.dying.marker_of.Goals as goal

pub returns-clause-left : goal.returns-clause-left
returns-clause-left c = λ q h i takes.
    let stands = takes.stands in
    let g : List Happening = Died c.args.writer c.args.moment ∷ h in
    let k : Kept = record {
      sample = record { key = c.in_ok-known.known.key; position = c.happened-position.result };
      number = c.in_ok-known.known.accepted_writes;
      is_read = false;
      is_out = false;
      valid_data = false;
      disposed_generation_count = c.in_ok-known.known.disposed_generations;
      no_writers_generation_count =
          c.in_ok-known.known.no_writers_generations;
      source_timestamp = c.args.moment;
      publication_handle =
          c.args.writer;
      value = c.from_vec.result;
    } in
    let at : c.happened-position.result ≡ length h + 1 =
    c.happened-position.ensures.happened q g stands ∙ (let more : length g ≡ length h + 1 = omega arith in more) in
    let key : c.in_ok-known.known.key ≡ i = some-same _ _ (c.in_ok-known.ensures.key q g stands ∙ takes.placed) in
    let sample : k.sample ≡ sample_at i (length h + 1) =
    ap (λ (n : ℕ). sample_at c.in_ok-known.known.key n) at ∙ ap (λ (x : Key). sample_at x (length h + 1)) key in
    let known : IsKnown q g c.in_ok-known.known = c.in_ok-known.ensures.known q g stands in
    let kept : IsKept q g k =
    kept-newest q (Died c.args.writer c.args.moment) h i c.in_ok-known.known k refl refl takes.fresh sample refl known key
    (newest-died q c.args.writer c.args.moment h c.in_ok-known.known k known
    refl refl refl refl refl refl refl (c.from_vec.ensures.octets
    ∙ c.new.ensures.items) refl) in
    let live : is_live q c.in_ok-known.known k ≡ true = sym c.is_position.ensures ∙ c.if-not-is_position.false in
    record {
      sample_is = sample;
      kept = kept;
      present = live-at q g i (length h + 1) c.in_ok-known.known k true known key sample kept live;
    }

pub returns-then-not-is_position-clause-left : goal.returns-then-not-is_position-clause-left
returns-then-not-is_position-clause-left c = λ q h i takes.
    let stands = takes.stands in
    let g : List Happening = Died c.args.writer c.args.moment ∷ h in
    let at : c.happened-position.result ≡ length h + 1 =
    c.happened-position.ensures.happened q g stands ∙ (let more : length g ≡ length h + 1 = omega arith in more) in
    let key : c.in_ok-known.known.key ≡ i = some-same _ _ (c.in_ok-known.ensures.key q g stands ∙ takes.placed) in
    let known : IsKnown q g c.in_ok-known.known = c.in_ok-known.ensures.known q g stands in
    let off : c.is_position.result ≡ false = search rules in
    died-absent q c.args.writer c.args.moment h i
    (sym (ap (λ (m : Option ℕ). is_at m c.happened-position.result)
    (known.marker_is ∙ ap (λ (x : Key). last_marker q x g) key)
    ∙ ap (λ (n : ℕ). is_at (last_marker q i g) n) at) ∙ (sym c.is_position.ensures ∙ off))
