use Rattle.std.proofs.Common.{◌∙◌, ap, ◌+◌, ◌++◌, drop, take, slice_index_or}
use Rattle.verify_numbers.specs.Laid.{laid}
use Rattle.verify_numbers.specs.Links.{parts_at}
use Rattle.verify_numbers.specs.Cycles.{links_of}
use Rattle.verify_numbers.proofs.Lists.{from_number}
use Rattle.verify_numbers.proofs.reckonings.reckon_cycle.Goals as goal

pub returns-clause-comes : goal.returns-clause-comes
returns-clause-comes c =
    let cycle = c.args.cycle.now in
    let first = c.in-Some.first in
    let rest = drop (first + 1) cycle ++ take first cycle in
    let there = c.in-Some.ensures.found in
    let same = c.as_slice.ensures.value ∙ c.in_ok-rest.ensures in (
      first,
      slice_index_or cycle first 0,
      rest,
      there.0,
      ap (λ xs. xs ++ take first cycle) (from_number cycle first there.0),
      there.1,
      λ g s handlers counted.
          c.in_ok-links.ensures.linked g s handlers counted
          ∙ ap (λ xs. links_of g (slice_index_or cycle first 0) (parts_at (laid s handlers) xs)) same,
    )
