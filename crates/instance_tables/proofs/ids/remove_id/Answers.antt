use Rattle.std.proofs.Common.{ap, ◌∙◌, arith, not, nat_eq}
use Rattle.std.proofs.lemmas.Fn.{filter_same}
use Rattle.std.proofs.lemmas.Grind.{common_steps}
use Rattle.ui_machine.specs.declared.ids.ObjectId.{ObjectId}
use Rattle.instance_tables.specs.Store.{ids_of}
use Rattle.instance_tables.proofs.Without.{kept_without}
use Rattle.instance_tables.proofs.ids.remove_id.Goals as goal

pub returns-clause-rest : goal.returns-clause-rest
returns-clause-rest c =
    ap ids_of (filter_same _ (λ (i : ObjectId). not (nat_eq i.0 c.args.id.0)) _ (λ x b f' k. grind (arith, common_steps)) _ _ c.retain.ensures.filtered)
    ∙ kept_without c.args.id.0 c.args.ids.now.items
