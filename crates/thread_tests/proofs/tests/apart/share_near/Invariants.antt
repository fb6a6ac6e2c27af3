use Rattle.thread_tests.proofs.tests.apart.share_near.Given as goal

abbrev pub ghosts-share_far-Far-Ledger : goal.ghosts-share_far-Far-Ledger
ghosts-share_far-Far-Ledger g a = record { name = a.seed.name; parts = a.seed.parts }

abbrev pub ghosts-share_far-Far-HasWord : goal.ghosts-share_far-Far-HasWord
ghosts-share_far-Far-HasWord g a = record { word = a.seed.word }

abbrev pub ghosts-share_far-Far-Named : goal.ghosts-share_far-Far-Named
ghosts-share_far-Far-Named g a = record {
  config = a.seed.config;
  peer = a.seed.peer;
  filters = a.seed.core.filtered.filters;
  slots = a.seed.core.listeners;
}
