use Rattle.std.proofs.Common.{◌≤◌, length, refl, subst, arith}
use Rattle.name_tables.specs.Steps.{InheritsNumber}
use Rattle.name_tables.proofs.Inherited.{before-more, before-all}
use Rattle.name_tables.proofs.name_table.inherit_numbers.Goals as goal

pub classes-init : goal.classes-init
classes-init c = record {
  done = λ t small. absurd (omega arith);
  rest = λ t large. refl;
}

pub classes-preserved : goal.classes-preserved
classes-preserved c =
    before-more c.args.tree.now c.parent-root.ensures.tree c.args.numbers.now.entries c.classes.numbers.entries c.inherit_number.new.numbers.entries c.classes.class c.classes.invariant
    (subst (InheritsNumber c.args.tree.now c.classes.numbers.entries c.inherit_number.new.numbers.entries) c.new-in-classes.ensures c.in_ok-inherit_number.ensures)

pub returns : goal.returns
returns c =
    let all : length c.args.tree.now ≤ c.classes.class = omega arith in
    before-all c.args.tree.now c.parent-root.ensures.tree c.args.numbers.now.entries c.classes.numbers.entries c.classes.class c.classes.invariant all
