use Rattle.std.proofs.Common.{◌≡◌, ℕ, not, None, Some, ◌++◌, ◌∷◌, [], List, ap, sym, string_bytes, ◌∙◌}
use Rattle.ui_machine.specs.Definition.Types.{GType}
use Rattle.ui_machine.specs.Output.Lines as lines
use Rattle.ui_machine.specs.Output.Text.{text_of_line}
use Rattle.ui_machine.specs.Rules.Children.{orphaned, updated, with_parent, without_child}
use Rattle.ui_machine.specs.State.Config.{World, with_objects}
use Rattle.ui_machine.specs.State.Objects.{living}
use Rattle.instance_tables.specs.Family.{parent_in}
use Rattle.engine_world.specs.View.{world_of}
use Rattle.engine_world.proofs.Counts.{keeps_on, keeps_said, with_table}
use Rattle.engine_instructions.proofs.Pushed.{left_keeps, left_world, none_named, one_named}
use Rattle.engine_instructions.proofs.objects.leave.Goals as goal

pub returns-then-is_none-clause-ok : goal.returns-then-is_none-clause-ok
returns-then-is_none-clause-ok c =
    let d = c.args.definition.now in
    let w = world_of c.args.engine.now.world in
    let none : parent_in (living w.objects c.args.child.0) ≡ None = sym c.parent_of.ensures.parent ∙ none_named c.parent_of.result (c.is_none.ensures ∙ ap not c.if-is_none.true) in
    sym (ap (λ parent. orphaned d w c.args.child.0 parent) none)

pub returns-clause-ok : goal.returns-clause-ok
returns-clause-ok c =
    let d = c.args.definition.now in
    let e = c.args.engine.now in
    let w = world_of e.world in
    let child = c.args.child.0 in
    let one = one_named c.parent_of.result (c.is_none.ensures ∙ ap not c.if-is_none.false) in
    let some : parent_in (living w.objects child) ≡ Some one.0 = sym c.parent_of.ensures.parent ∙ one.1 in
    let line = c.in_ok-line.ensures ∙ ap (λ (types : List GType). text_of_line types (lines.orphan child)) c.types.ensures.types in
    c.in_ok-say.ensures.ok
    ∙ ap (λ (v : World). record v { transcript = v.transcript ++ string_bytes c.in_ok-line.line ∷ [] }) (left_world e c.orphan.new.self one.0 child (c.orphan.ensures.leaves one.0 some))
    ∙ ap (λ (text : List ℕ). record (with_objects w (updated (with_parent None) child (updated (without_child child) one.0 w.objects))) { transcript = w.transcript ++ text ∷ [] }) line
    ∙ sym (ap (λ parent. orphaned d w child parent) some)

pub returns-clause-counted : goal.returns-clause-counted
returns-clause-counted c =
    let d = c.args.definition.now in
    let e = c.args.engine.now in
    let t = c.orphan.new.self in
    let child = c.args.child.0 in
    let one = one_named c.parent_of.result (c.is_none.ensures ∙ ap not c.if-is_none.false) in
    let some : parent_in (living e.world.table.objects child) ≡ Some one.0 = sym c.parent_of.ensures.parent ∙ one.1 in
    keeps_on d e (with_table e t) _ (left_keeps e t one.0 child (c.orphan.ensures.leaves one.0 some) d) (keeps_said d (with_table e t) c.say.new.self c.say.ensures.beside)
