use Rattle.std.proofs.Common.{◌≡◌, ◌∙◌, ◌+◌, false, true, is_some, sym, ap, arith}
use Rattle.signal_core.specs.Sources.{ancestor_of}
use Rattle.signal_core.proofs.Walks.{ancestor_more, ancestor_none, none_higher}
use Rattle.signal_core.proofs.sources.ancestor.Goals as goal

pub unreachable-requires : goal.unreachable-requires
unreachable-requires c =
    let here = ancestor_none c.args.tree.now c.args.t c.loop-above._above c.loop-above.class c.loop-above.invariant (sym c.in_default.ensures.parent) in
    let none = none_higher c.args.tree.now c.args.t (c.loop-above._above + 1) c.args.height (omega (arith, c.loop-above-test.true)) here in
    let no : false ≡ true = sym (ap is_some none) ∙ c.requires in
    absurd (cc)

pub loop-above-preserved : goal.loop-above-preserved
loop-above-preserved c =
    ancestor_more c.args.tree.now c.args.t c.loop-above._above c.loop-above.class c.in-Some.parent c.loop-above.invariant (sym c.in-Some.ensures.parent)

pub returns : goal.returns
returns c =
    let end : c.args.height ≡ c.loop-above._above = omega (arith, c.loop-above-test.false, c.loop-above.auto._above-end) in
    ap (ancestor_of c.args.tree.now c.args.t) end ∙ c.loop-above.invariant
