use Rattle.law_held_peers.proofs.QuestionProofs.{builds_ask_by_shape, requests_ask_by_shape, sources_ask_by_shape}
use Rattle.law_held_peers.proofs.asked.Goals as goal

pub returns : goal.returns
returns c = record { builds = builds_ask_by_shape; requests = requests_ask_by_shape; sources = sources_ask_by_shape }
