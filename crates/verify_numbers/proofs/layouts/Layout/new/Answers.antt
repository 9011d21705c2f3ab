use Rattle.std.proofs.Common.{sym, subst, ◌≤◌, map}
use Rattle.verify_sketches.specs.View.{block_view, sketch_view}
use Rattle.verify_numbers.specs.Counts.{block_count}
use Rattle.verify_numbers.proofs.Small.{few_blocks}
use Rattle.verify_numbers.proofs.layouts.Layout.new.Goals as goal

pub befores_of-requires : goal.befores_of-requires
befores_of-requires c = record {
  few = subst (λ ps. block_count (map (λ v. map block_view v.items) ps) ≤ 16_384) (sym c.as_slice.ensures.value)
      (few_blocks (sketch_view c.args.sketch.now) c.requires.small);
}
