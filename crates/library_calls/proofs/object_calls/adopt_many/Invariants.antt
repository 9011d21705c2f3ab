use Rattle.library_calls.proofs.object_calls.adopt_many.Given as goal

abbrev pub invariant-children : goal.invariant-children
invariant-children l = Unit {0}
