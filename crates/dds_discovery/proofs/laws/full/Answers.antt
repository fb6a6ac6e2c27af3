use Rattle.dds_discovery.proofs.Few as few
use Rattle.dds_discovery.proofs.laws.full.Goals as goal

pub returns : goal.returns
returns c = record {
  rows = few.few_rows c.few_are_known.ensures.few;
  links = few.few_links;
  endpoints = few.few_endpoints c.an_announcement_is_of_one.ensures.few;
}
