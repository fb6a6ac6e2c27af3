-- What is told of the ends of one peer that are matched. Inner functions alone cite this: nothing here has to be
-- believed.
--
-- DDS 1.4, 2.2.2.3; RTPS 2.5, 8.4 (matched_writers, matched_readers).
use Rattle.std.specs.Prelude.{ℕ, List}
use Rattle.dds_base.specs.declared.config.WriterConfig.{WriterConfig}
use Rattle.dds_base.specs.declared.config.ReaderConfig.{ReaderConfig}
use Rattle.dds_base.specs.Matched.{of_ends_in, any_writer, is_reliable_reader}

-- what is told of each writer of the topic among these, by its number, which counts on from this one
abbrev pub of_writers_in : {X : Type 0} → (ℕ → WriterConfig → X) → ℕ → ℕ → List WriterConfig → List X
of_writers_in = of_ends_in any_writer (λ (w : WriterConfig). w.topic)

-- what is told of each reliable reader of the topic among these, by its number, which counts on from this one
abbrev pub of_readers_in : {X : Type 0} → (ℕ → ReaderConfig → X) → ℕ → ℕ → List ReaderConfig → List X
of_readers_in = of_ends_in is_reliable_reader (λ (r : ReaderConfig). r.topic)
