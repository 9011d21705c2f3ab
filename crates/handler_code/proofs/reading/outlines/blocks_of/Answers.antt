use Rattle.std.proofs.Common.{[], ◌∷◌, ◌++◌, map, refl}
use Rattle.std.proofs.lemmas.Result.{err_from_is_err_and}
use Rattle.json_trees.specs.View.{view}
use Rattle.bytecode.specs.View.{register_kind_view}
use Rattle.handler_code.specs.Reading.ReaderViews.{names_view, block_outline_view}
use Rattle.bytecode.specs.Reading.Each.{each}
use Rattle.bytecode.specs.Reading.Outline.{block_at, block_step}
use Rattle.handler_code.proofs.Each.{adds, is_done, pushed}
use Rattle.handler_code.proofs.Stopping.{stops_outline}
use Rattle.handler_code.proofs.reading.outlines.blocks_of.Goals as goal

pub returns-in_err-block : goal.returns-in_err-block
returns-in_err-block c =
    let p = err_from_is_err_and c.from_residual.result c.from_residual.ensures.1 in
    let params = map register_kind_view c.args.params.now in
    let step = block_step (names_view c.args.names.now) params c.args.registers in
    let v = c.index-items-number.result in
    rw (p.1, p.2) (stops_outline step view c.args.items.now c.items.number (map block_outline_view c.items.blocks.items) (each step 0 [] (map view c.args.items.now))
    v c.in_err-block.field-0.0 (block_at (names_view c.args.names.now) params c.args.registers c.items.number (view v))
    (λ block. map block_outline_view c.items.blocks.items ++ block ∷ []) c.items-test.true c.index-items-number.is refl c.in_err-block.ensures c.items.invariant)

pub items-preserved : goal.items-preserved
items-preserved c =
    let params = map register_kind_view c.args.params.now in
    let step = block_step (names_view c.args.names.now) params c.args.registers in
    let v = c.index-items-number.result in
    rw (pushed block_outline_view c.items.blocks.items c.push.new.self.items c.in_ok-block.block c.in_ok-push.ensures.items)
    (adds step view c.args.items.now c.items.number (map block_outline_view c.items.blocks.items) (each step 0 [] (map view c.args.items.now))
    v (block_outline_view c.in_ok-block.block) (block_at (names_view c.args.names.now) params c.args.registers c.items.number (view v))
    (λ block. map block_outline_view c.items.blocks.items ++ block ∷ []) c.items-test.true c.index-items-number.is refl c.in_ok-block.ensures c.items.invariant)

pub returns : goal.returns
returns c =
    let step = block_step (names_view c.args.names.now) (map register_kind_view c.args.params.now) c.args.registers in
    is_done step view c.args.items.now c.items.number (map block_outline_view c.items.blocks.items) (each step 0 [] (map view c.args.items.now)) c.items-test.false c.items.invariant
