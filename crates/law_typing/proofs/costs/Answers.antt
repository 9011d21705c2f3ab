use Rattle.law_typing.proofs.CostProofs.{costs_solved, emissions_cover, pairs_cover, starts_cover, code_covers, blocks_cover, passes_cover, sets_cover, emits_cover}
use Rattle.law_typing.proofs.costs.Goals as goal

pub returns : goal.returns
returns c = record { solved = costs_solved; emissions = emissions_cover; pairs = pairs_cover; starts = starts_cover; code = code_covers; blocks = blocks_cover; passes = passes_cover; sets = sets_cover; emits = emits_cover }
