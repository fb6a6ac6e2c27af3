use Rattle.thread_tests.proofs.tests.apart.run.Given as goal

abbrev pub ghosts-share_near-Near-Ledger : goal.ghosts-share_near-Near-Ledger
ghosts-share_near-Near-Ledger g a = record { name = a.seed.name; parts = a.seed.parts }

abbrev pub ghosts-share_near-Near-HasWord : goal.ghosts-share_near-Near-HasWord
ghosts-share_near-Near-HasWord g a = record { word = a.seed.word }

abbrev pub ghosts-share_near-Near-Named : goal.ghosts-share_near-Near-Named
ghosts-share_near-Near-Named g a = record {
  config = a.seed.config;
  peer = a.seed.peer;
  filters = a.seed.core.filtered.filters;
  slots = a.seed.core.listeners;
}
