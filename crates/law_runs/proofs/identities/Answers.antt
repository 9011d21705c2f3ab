use Rattle.law_runs.proofs.RunProofs.{builds_have_identities, builds_have_kin_made, identities_last, kin_last, requests_have_identities, sources_have_identities}
use Rattle.law_runs.proofs.identities.Goals as goal

pub returns : goal.returns
returns c = record {
  last = identities_last;
  build = builds_have_identities;
  request = requests_have_identities;
  source = sources_have_identities;
  kin = kin_last;
  kin_build = builds_have_kin_made;
}
