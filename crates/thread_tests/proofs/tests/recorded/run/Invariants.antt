use Rattle.thread_tests.proofs.tests.recorded.run.Given as goal

abbrev pub ghosts-share-N-Ledger : goal.ghosts-share-N-Ledger
ghosts-share-N-Ledger g a = record { name = a.seed.name; parts = a.seed.parts }

abbrev pub ghosts-share-N-HasWord : goal.ghosts-share-N-HasWord
ghosts-share-N-HasWord g a = record { word = a.seed.word }

abbrev pub ghosts-share-N-Named : goal.ghosts-share-N-Named
ghosts-share-N-Named g a = record {
  config = a.seed.config;
  peer = a.seed.peer;
  filters = a.seed.core.filtered.filters;
  slots = a.seed.core.listeners;
}
