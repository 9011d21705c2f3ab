use Rattle.type_tree.proofs.Spelling.{not_as_long}
use Rattle.type_tree.proofs.member_name.spells.Goals as goal

pub returns-then-stored-name : goal.returns-then-stored-name
returns-then-stored-name c = not_as_long c.args.stored.now c.args.name.now c.if-stored-name.true
