use Rattle.std.proofs.Common.{[], ◌∷◌, ◌++◌, All, map, refl, sym, subst}
use Rattle.std.proofs.Common.{List}
use Rattle.std.proofs.lemmas.List.Elements.{All-push}
use Rattle.std.proofs.lemmas.Result.{err_from_is_err_and}
use Rattle.json_trees.specs.View.{view}
use Rattle.bytecode.specs.View.{instruction_view}
use Rattle.bytecode.specs.declared.instructions.Instruction.{Instruction}
use Rattle.bytecode.specs.Known.{HasKnownKinds}
use Rattle.bytecode.specs.Reading.Each.{each}
use Rattle.handler_code.specs.Reading.ReaderViews.{scope_view}
use Rattle.bytecode.specs.Reading.Programs.{code_in, instruction_behind, with_next_instruction}
use Rattle.handler_code.proofs.Each.{adds, is_done, pushed}
use Rattle.handler_code.proofs.Stopping.{stops_program}
use Rattle.handler_code.proofs.reading.code.code_of.Goals as goal

pub returns-in_err-instruction-clause-read : goal.returns-in_err-instruction-clause-read
unfolding code_in
returns-in_err-instruction-clause-read c =
    let p = err_from_is_err_and c.from_residual.result c.from_residual.ensures.1 in
    let step = with_next_instruction (scope_view c.args.scope.now) c.args.block in
    let v = c.index-items-at.result in
    let code = map instruction_view c.items.code.items in
    rw (p.1, p.2) (stops_program step view c.args.items.now c.items.at code (each step 0 [] (map view c.args.items.now))
    v c.in_err-instruction.field-0.0 (instruction_behind (scope_view c.args.scope.now) c.args.block c.items.at code (view v))
    (λ instruction. code ++ instruction ∷ []) c.items-test.true c.index-items-at.is refl (rw c.as_slice.ensures.value at c.in_err-instruction.ensures.read) c.items.invariant.read)

pub items-preserved : goal.items-preserved
items-preserved c =
    let step = with_next_instruction (scope_view c.args.scope.now) c.args.block in
    let v = c.index-items-at.result in
    let code = map instruction_view c.items.code.items in
    record {
      read = rw (pushed instruction_view c.items.code.items c.push.new.self.items c.in_ok-instruction.instruction c.in_ok-push.ensures.items)
          (adds step view c.args.items.now c.items.at code (each step 0 [] (map view c.args.items.now))
          v (instruction_view c.in_ok-instruction.instruction) (instruction_behind (scope_view c.args.scope.now) c.args.block c.items.at code (view v))
          (λ instruction. code ++ instruction ∷ []) c.items-test.true c.index-items-at.is refl (rw c.as_slice.ensures.value at c.in_ok-instruction.ensures.read) c.items.invariant.read);
      known = subst (λ (is : List Instruction). All (λ i. HasKnownKinds c.args.scope.now.types.now i) is) (sym c.in_ok-push.ensures.items)
          (All-push (λ i. HasKnownKinds c.args.scope.now.types.now i) c.items.code.items c.in_ok-instruction.instruction c.items.invariant.known c.in_ok-instruction.ensures.known);
    }

pub returns-clause-read : goal.returns-clause-read
unfolding code_in
returns-clause-read c =
    let step = with_next_instruction (scope_view c.args.scope.now) c.args.block in
    is_done step view c.args.items.now c.items.at (map instruction_view c.items.code.items) (each step 0 [] (map view c.args.items.now)) c.items-test.false c.items.invariant.read
