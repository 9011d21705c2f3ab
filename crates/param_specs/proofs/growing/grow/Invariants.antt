use Rattle.std.proofs.Common.{◌-◌, vec_len}
use Rattle.param_specs.specs.View.{specs_in, lists_of, AllNamed}
use Rattle.param_specs.specs.Table.{SameSpecs}
use Rattle.param_specs.proofs.growing.grow.Given as goal

abbrev pub invariant-growing : goal.invariant-growing
invariant-growing l =
    SameSpecs (lists_of (λ m. specs_in m.entries) l.initial.lists.items) (lists_of (λ m. specs_in m.entries) l.lists.items)
    × (AllNamed (λ m. m.entries) l.initial.lists.items → AllNamed (λ m. m.entries) l.lists.items)

abbrev pub decreases-growing : goal.decreases-growing
decreases-growing l = l.len - vec_len l.lists
