use Rattle.std.proofs.Common.{◌∙◌, ◌-◌, ◌^◌, Some, option_map, sym, ap}
use Rattle.ui_machine.specs.State.Bindings.{listens}
use Rattle.bindings.specs.Due.{due_of}
use Rattle.bindings.proofs.Keeping.{found_one, none_numbered, other_numbered, skip_find}
use Rattle.bindings.proofs.rising.Rising.due_numbered.Goals as goal

pub returns-in_err-bound : goal.returns-in_err-bound
returns-in_err-bound c =
    let p = listens c.args.object.0 c.args.slot in
    c.from_residual.ensures
    ∙ ap (option_map (due_of c.args.object.0 c.args.slot))
    (skip_find p c.args.number c.args.self.now (none_numbered p c.args.number c.args.self.now (sym c.get.ensures ∙ ap (option_map (λ b. b.now)) c.in_err-bound.was)))

pub returns-then-listens : goal.returns-then-listens
returns-then-listens c =
    let p = listens c.args.object.0 c.args.slot in
    ap Some c.due.ensures
    ∙ ap (option_map (due_of c.args.object.0 c.args.slot))
    (found_one p c.args.number c.in_ok-bound.bound.now c.args.self.now (sym c.get.ensures ∙ ap (option_map (λ b. b.now)) c.in_ok-bound.was) (sym c.listens.ensures ∙ c.if-listens.true))

pub returns-else-listens : goal.returns-else-listens
returns-else-listens c =
    let p = listens c.args.object.0 c.args.slot in
    ap (option_map (due_of c.args.object.0 c.args.slot))
    (skip_find p c.args.number c.args.self.now
    (other_numbered p c.args.number c.args.self.now c.in_ok-bound.bound.now (2 ^ 64 - 1) c.len.ensures.rises
    (sym c.get.ensures ∙ ap (option_map (λ b. b.now)) c.in_ok-bound.was) (sym c.listens.ensures ∙ c.if-listens.false)))
