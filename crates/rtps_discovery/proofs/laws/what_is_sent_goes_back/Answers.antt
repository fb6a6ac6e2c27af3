use Rattle.rtps_discovery.proofs.Goings as goings
use Rattle.rtps_discovery.proofs.laws.what_is_sent_goes_back.Goals as goal

pub returns : goal.returns
returns c = record {
  answer = goings.answers_go_back;
  announcements = goings.announcements_go_to_known;
  farewells = goings.farewells_go_to_known;
  sources = goings.sources_were_heard;
}
