use Rattle.std.proofs.Common.{◌∙◌, List, ap, get_or, sym, take, ℕ}
use Rattle.std.proofs.lemmas.List.{take_more}
use Rattle.ui_machine.specs.State.Bindings.{Binding}
use Rattle.bindings.specs.Made.{Made, without_number}
use Rattle.engine_instructions.specs.UnbindView.{without_numbers}
use Rattle.engine_instructions.proofs.Unbinding.{without_more, without_none}
use Rattle.engine_instructions.proofs.unbinds.unbind_numbered.Goals as goal

pub loop-number-init : goal.loop-number-init
loop-number-init c = ap (λ (bs : List Binding). record c.args.bindings.now { bindings = bs }) (sym (without_none c.args.bindings.now.bindings))

pub loop-number-preserved : goal.loop-number-preserved
loop-number-preserved c =
    let first = c.args.bindings.now in
    let numbers = c.args.numbers.now in
    let i = c.loop-number.number-index in
    let n = get_or numbers i 0 in
    c.unbind_numbered.ensures.left
    ∙ ap (λ (m : Made). record m { bindings = without_number n m.bindings }) c.loop-number.invariant
    ∙ ap (λ (bs : List Binding). record first { bindings = bs })
    (without_more (take i numbers) n first.bindings ∙ ap (λ (l : List ℕ). without_numbers l first.bindings) (sym (take_more numbers i 0 c.loop-number-test.true)))
