use Rattle.std.proofs.Common.{◌≡◌, None, Some, get_or, map, sym, ap, ◌∙◌}
use Rattle.std.proofs.lemmas.List.{map_push}
use Rattle.ui_machine.specs.Seq.{read}
use Rattle.ui_machine.specs.State.Tasks.{Registers}
use Rattle.ui_machine.specs.Instructions.Registers.{values_in}
use Rattle.g_values.specs.View.{value_view}
use Rattle.bytecode.specs.declared.computations.Register.{Register}
use Rattle.bytecode.specs.View.{number_of}
use Rattle.frames.proofs.FrameRegisters.{is_set, read_all, read_more}
use Rattle.frames.proofs.operands.copy_values.Goals as goal

pub unreachable-requires : goal.unreachable-requires
unreachable-requires c =
    let none : Register = record { 0 = 0 } in
    is_set _ (c.requires.set c.loop-register.register-index none c.loop-register-test.true) (sym c.in_default.ensures)

pub loop-register-preserved : goal.loop-register-preserved
loop-register-preserved c = λ f same.
    let from = c.args.from.now in
    let i = c.loop-register.register-index in
    let none : Register = record { 0 = 0 } in
    let v = value_view c.in_ok-copied.field-0 in
    let held : read None f.registers (get_or from i none).0 ≡ Some v =
    ap (λ (rs : Registers). read None rs (get_or from i none).0) same ∙ sym c.in-Some.ensures ∙ ap Some (sym c.in_ok-copied.ensures.value) in
    rw (c.in_ok-push.ensures.items, map_push value_view c.loop-register.values.items c.in_ok-copied.field-0)
    (read_more f from i (values_in f (map number_of from)) (map value_view c.loop-register.values.items) v c.loop-register-test.true (c.loop-register.invariant f same) held)

pub returns : goal.returns
returns c = λ f same.
    read_all f c.args.from.now c.loop-register.register-index (values_in f (map number_of c.args.from.now)) (map value_view c.loop-register.values.items)
    c.loop-register-test.false (c.loop-register.invariant f same)
