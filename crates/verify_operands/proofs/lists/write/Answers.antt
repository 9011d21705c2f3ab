use Rattle.std.proofs.Common.{◌∙◌, ◌++◌, ◌∷◌, [], ◌-◌, ap, length, arith}
use Rattle.verify_operands.proofs.Filled.{write_within, write_behind}
use Rattle.verify_operands.proofs.lists.write.Goals as goal

pub returns-then-at-len : goal.returns-then-at-len
returns-then-at-len g c =
    write_within c.args.missing c.args.items.now.items c.args.at c.args.item (omega (arith, c.if-at-len.true, c.len.ensures, c.args.items.now.ok.0))

pub returns : goal.returns
returns g c =
    let old = c.args.items.now.items in
    c.in_ok-push.ensures.items
    ∙ (ap (λ xs. xs ++ c.args.item ∷ []) c.in_ok-fill.ensures
    ∙ write_behind old (c.args.at - length old) c.args.at c.args.missing c.args.item
    (omega (arith, c.if-at-len.false, c.len.ensures, c.args.items.now.ok.0)))
