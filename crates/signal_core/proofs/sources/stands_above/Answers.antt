use Rattle.std.proofs.Common.{◌∙◌, ap, sym, reverse, nat_eq}
use Rattle.std.specs.List.{flat_map, list_any}
use Rattle.ui_machine.specs.Rules.Ancestry.{lineage}
use Rattle.type_tree.proofs.Lines.{line_from-parent, line_from-root}
use Rattle.signal_core.specs.Sources.{brought_by}
use Rattle.signal_core.proofs.Walks.{any_brought}
use Rattle.signal_core.proofs.sources.stands_above.Goals as goal

pub returns-in-Some : goal.returns-in-Some
returns-in-Some c =
    c.is_a.ensures ∙ sym (any_brought c.args.tree.now c.args.source (lineage c.args.tree.now c.in-Some.parent))
    ∙ ap (λ l. list_any (nat_eq c.args.source) (flat_map (brought_by c.args.tree.now) (reverse l)))
    (sym (line_from-parent c.args.tree.now c.in-Some.ensures.tree c.args.t c.in-Some.parent (sym c.in-Some.ensures.parent)))

pub returns-in-None : goal.returns-in-None
returns-in-None c =
    ap (λ l. list_any (nat_eq c.args.source) (flat_map (brought_by c.args.tree.now) (reverse l)))
    (sym (line_from-root c.args.tree.now c.in-None.ensures.tree c.args.t (sym c.in-None.ensures.parent)))
