use Rattle.std.proofs.Common.{◌≡◌, [], ◌∷◌, ◌++◌, true, cond, nat_le, sym, ap, ◌∙◌, arith}
use Rattle.std.proofs.lemmas.Bool.Decides.{nat_tests}
use Rattle.ui_machine.specs.State.Tasks.{forwards}
use Rattle.ui_machine.specs.Rules.Build.{forward_given}
use Rattle.definition_format.specs.declared.objects.Given.{Given}
use Rattle.definition_format.specs.Meaning.{given_view}
use Rattle.engine_stack.specs.declared.task.ForwardReference.{ForwardReference}
use Rattle.engine_stack.specs.TaskView.{items_of}
use Rattle.engine_world.proofs.Forwarded.{one_forward_more}
use Rattle.engine_tasks.proofs.forward_references.add_forward.Goals as goal

pub returns : goal.returns
returns c =
    let object = c.args.object in
    let slot = c.args.entry.now.slot in
    let to = c.in-Object.to in
    let f : ForwardReference = record { object = object; slot = slot; to = to } in
    let before = items_of c.args.forwards.now.items in
    let late : nat_le object.0 to.0 ≡ true = grind (arith, nat_tests, c.if-object-to.false) in
    ap items_of c.in_ok-push.ensures.items ∙ one_forward_more c.args.forwards.now.items f
    ∙ sym (ap (λ (g : Given). forward_given object.0 slot (given_view g) ++ before) c.in-Object.is
    ∙ ap (λ b. cond b (forwards object.0 slot to.0 ∷ []) [] ++ before) late)
