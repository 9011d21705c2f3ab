use Rattle.std.proofs.Common.{◌∙◌, sym, ap, ◌+◌, ◌<◌, ◌++◌, ◌∷◌, [], length, map, take, arith}
use Rattle.std.specs.List.{flat_map}
use Rattle.std.proofs.lemmas.Grind.{flat_map-append}
use Rattle.std.proofs.Common.{append-nil}
use Rattle.bytecode.specs.View.{instruction_view}
use Rattle.law_typing.specs.Graph.{next_of}
use Rattle.verify_graph.proofs.Prefixes.{mapped_last, take_all, take_entry}
use Rattle.verify_starts.proofs.programs.next_blocks.Goals as goal

pub loop-at-preserved : goal.loop-at-preserved
loop-at-preserved c =
    let code = c.args.block.now.code.items in
    let at = c.loop-at.at in
    let i = c.index.result.now in
    let within : at < length code = omega (arith, c.loop-at-test.true, c.len-at-end.ensures, c.args.block.now.code.ok.0) in
    c.in_ok-add_next.ensures
    ∙ (ap (λ xs. xs ++ next_of (instruction_view i)) c.loop-at.invariant
    ∙ sym (ap (flat_map next_of) (mapped_last instruction_view (take at code) (take (at + 1) code) i (take_entry code at i within c.index.ensures))
    ∙ (flat_map-append next_of (map instruction_view (take at code)) (instruction_view i ∷ [])
    ∙ ap (λ xs. flat_map next_of (map instruction_view (take at code)) ++ xs) (append-nil (next_of (instruction_view i))))))

pub returns : goal.returns
returns c =
    let code = c.args.block.now.code.items in
    c.loop-at.invariant
    ∙ ap (λ xs. flat_map next_of (map instruction_view xs)) (take_all code c.loop-at.at (omega (arith, c.loop-at-test.false, c.len-at-end.ensures, c.args.block.now.code.ok.0)))
