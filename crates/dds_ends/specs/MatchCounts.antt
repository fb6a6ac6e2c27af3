-- For which matches of the machine what is kept of them stands. Inner functions alone cite this: nothing here has to be
-- believed.
--
-- DDS 1.4, 2.2.4.1 (PUBLICATION_MATCHED, SUBSCRIPTION_MATCHED).
use Rattle.std.specs.Prelude.{◌≡◌}
use Rattle.dds_machine.specs.Matching.{told_matches}
use Rattle.dds_machine.specs.Part.{Matches}
use Rattle.dds_ends.specs.declared.match_counts.MatchCounts.{MatchCounts}

-- the same matches, whose numbers are kept as the statuses tell them
pub record CountsFor (kept : MatchCounts) (m : Matches) : Type 0 where
  pub made : kept.made ≡ told_matches m.made
  pub last : kept.last ≡ m.last
  pub made_seen : kept.made_seen ≡ told_matches m.made_seen
  pub here_seen : kept.here_seen ≡ m.here_seen
