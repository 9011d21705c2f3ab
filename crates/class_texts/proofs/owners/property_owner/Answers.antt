use Rattle.std.proofs.Common.{◌≡◌, ◌∙◌, ℕ, true, false, not, sym, ap, subst}
use Rattle.std.specs.Prelude.{is_some}
use Rattle.ui_machine.specs.Definition.Lookups.{slot_of}
use Rattle.ui_machine.specs.Rules.Ancestry.{parent_of}
use Rattle.type_tree.specs.Tree.{IsTree}
use Rattle.class_texts.proofs.Lines.{owner_below, owner_child, owner_root}
use Rattle.class_texts.proofs.owners.property_owner.Goals as goal

pub returns-then-is_none : goal.returns-then-is_none
returns-then-is_none c =
    let d = c.args.definition.now in
    let has = λ (t : ℕ). is_some (slot_of d t c.args.name.now) in
    let no : is_some (slot_of d c.line.at c.args.name.now) ≡ false =
    ap is_some (sym c.slot.ensures) ∙ c.is_none.ensures ∙ ap not c.if-is_none.true in
    sym (owner_below d.types has c.line.owner c.line.at no) ∙ c.line.invariant

pub returns-in_default : goal.returns-in_default
returns-in_default c =
    let d = c.args.definition.now in
    let has = λ (t : ℕ). is_some (slot_of d t c.args.name.now) in
    let it : is_some (slot_of d c.line.at c.args.name.now) ≡ true =
    ap is_some (sym c.slot.ensures) ∙ c.is_none.ensures ∙ ap not c.if-is_none.false in
    let tree = subst IsTree c.types.ensures.types c.parent.ensures.tree in
    let none = ap (λ types. parent_of types c.line.at) (sym c.types.ensures.types) ∙ sym c.parent.ensures.parent ∙ c.in_default.is in
    sym (owner_root d.types has tree c.line.owner c.line.at none it) ∙ c.line.invariant

pub line-preserved : goal.line-preserved
line-preserved c =
    let d = c.args.definition.now in
    let has = λ (t : ℕ). is_some (slot_of d t c.args.name.now) in
    let it : is_some (slot_of d c.line.at c.args.name.now) ≡ true =
    ap is_some (sym c.slot.ensures) ∙ c.is_none.ensures ∙ ap not c.if-is_none.false in
    let tree = subst IsTree c.types.ensures.types c.parent.ensures.tree in
    let up = ap (λ types. parent_of types c.line.at) (sym c.types.ensures.types) ∙ sym c.parent.ensures.parent ∙ c.in-Some.is in
    owner_child d.types has tree c.line.owner c.line.at c.in-Some.parent up it ∙ c.line.invariant
