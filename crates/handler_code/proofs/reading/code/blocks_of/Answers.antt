use Rattle.std.proofs.Common.{◌≡◌, [], ◌∷◌, ◌++◌, All, List, map, refl, sym, subst, ap, ◌∙◌}
use Rattle.std.proofs.lemmas.List.Elements.{All-push}
use Rattle.std.proofs.lemmas.Result.{err_from_is_err_and}
use Rattle.json_trees.specs.View.{view}
use Rattle.ui_machine.specs.Definition.Programs as machine
use Rattle.bytecode.specs.View.{block_view, instruction_view, register_kind_view}
use Rattle.bytecode.specs.declared.programs.Block.{Block}
use Rattle.bytecode.specs.Known.{HasKnownCode}
use Rattle.bytecode.specs.Reading.Each.{each}
use Rattle.handler_code.specs.Reading.ReaderViews.{scope_view, block_outline_view}
use Rattle.bytecode.specs.Reading.Programs.{blocks_in, code_in, code_step, filled}
use Rattle.handler_code.proofs.Each.{adds, is_done, pushed}
use Rattle.handler_code.proofs.Stopping.{stops_program}
use Rattle.handler_code.proofs.reading.code.blocks_of.Goals as goal

pub returns-in_err-code-clause-read : goal.returns-in_err-code-clause-read
unfolding blocks_in
returns-in_err-code-clause-read c =
    let p = err_from_is_err_and c.from_residual.result c.from_residual.ensures.1 in
    let scope = scope_view c.args.scope.now in
    let b = c.index-outlines-number.result in
    let blocks = map block_view c.outlines.blocks.items in
    rw (p.1, p.2) (stops_program (code_step scope) block_outline_view c.args.outlines.now c.outlines.number blocks
    (each (code_step scope) 0 [] (map block_outline_view c.args.outlines.now))
    b c.in_err-code.field-0.0 (code_in scope c.outlines.number (map view b.code.now))
    (λ code. blocks ++ (record { entry = filled scope.registers (map register_kind_view b.entry.items); repeat = b.repeat; code = code }) ∷ [])
    c.outlines-test.true c.index-outlines-number.is refl c.in_err-code.ensures.read c.outlines.invariant.read)

pub outlines-preserved : goal.outlines-preserved
outlines-preserved c =
    let scope = scope_view c.args.scope.now in
    let b = c.index-outlines-number.result in
    let blocks = map block_view c.outlines.blocks.items in
    let whole : machine.Block = record { entry = filled scope.registers (map register_kind_view b.entry.items); repeat = b.repeat; code = map instruction_view c.in_ok-code.code.items } in
    let kinds : map register_kind_view c.in_ok-entry.entry.items ≡ filled scope.registers (map register_kind_view b.entry.items) =
    c.in_ok-entry.ensures ∙ ap (λ ks. filled scope.registers (map register_kind_view ks)) c.as_slice.ensures.value in
    let made = ap (λ ks. blocks ++ (record { entry = ks; repeat = b.repeat; code = map instruction_view c.in_ok-code.code.items }) ∷ []) kinds in
    record {
      read = rw (pushed block_view c.outlines.blocks.items c.push.new.self.items (record { entry = c.in_ok-entry.entry; repeat = b.repeat; code = c.in_ok-code.code }) c.in_ok-push.ensures.items, made)
          (adds (code_step scope) block_outline_view c.args.outlines.now c.outlines.number blocks
          (each (code_step scope) 0 [] (map block_outline_view c.args.outlines.now))
          b (map instruction_view c.in_ok-code.code.items) (code_in scope c.outlines.number (map view b.code.now))
          (λ code. blocks ++ (record { entry = filled scope.registers (map register_kind_view b.entry.items); repeat = b.repeat; code = code }) ∷ [])
          c.outlines-test.true c.index-outlines-number.is refl c.in_ok-code.ensures.read c.outlines.invariant.read);
      known = subst (λ (bs : List Block). All (λ b. HasKnownCode c.args.scope.now.types.now b) bs) (sym c.in_ok-push.ensures.items)
          (All-push (λ b. HasKnownCode c.args.scope.now.types.now b) c.outlines.blocks.items (record { entry = c.in_ok-entry.entry; repeat = b.repeat; code = c.in_ok-code.code })
          c.outlines.invariant.known c.in_ok-code.ensures.known);
    }

pub returns-clause-read : goal.returns-clause-read
unfolding blocks_in
returns-clause-read c =
    let scope = scope_view c.args.scope.now in
    is_done (code_step scope) block_outline_view c.args.outlines.now c.outlines.number (map block_view c.outlines.blocks.items)
    (each (code_step scope) 0 [] (map block_outline_view c.args.outlines.now)) c.outlines-test.false c.outlines.invariant.read
