use Rattle.std.proofs.Common.{option_map, ap, ◌∙◌}
use Rattle.json_trees.specs.View.{view}
use Rattle.json_trees.proofs.Views.{Entry, member_found}
use Rattle.json_trees.proofs.value.member_called.Goals as goal

pub returns-in-Some : goal.returns-in-Some
returns-in-Some c = ap (option_map (λ (m : Entry). view m.1)) c.in-Some.ensures ∙ member_found c.args.key.now c.args.members.now

pub returns-in-None : goal.returns-in-None
returns-in-None c = ap (option_map (λ (m : Entry). view m.1)) c.in-None.ensures ∙ member_found c.args.key.now c.args.members.now
