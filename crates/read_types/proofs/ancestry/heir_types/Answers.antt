use Rattle.std.proofs.Common.{◌∙◌, ◌||◌, ℕ, List, nat_eq, sym, ap}
use Rattle.std.specs.BTreeMap.{is_at}
use Rattle.std.specs.BTreeSet.{contains}
use Rattle.std.specs.List.{list_any}
use Rattle.std.specs.Ordering.{nat_cmp}
use Rattle.ui_machine.specs.Rules.Ancestry.{implemented_by}
use Rattle.read_types.proofs.HeirTypes.{class_added, is_above, is_whole}
use Rattle.read_types.proofs.ancestry.heir_types.Goals as goal

pub line-preserved : goal.line-preserved
line-preserved c t =
    let mid = contains nat_cmp c.line.all t in
    let with_class = contains nat_cmp c.insert.new.self t in
    let new = contains nat_cmp c.add_types-in-line.new.all t in
    is_above c.args.types.now c.in-Some.ensures.tree t c.line.class c.in-Some.above new mid _ (sym c.in-Some.ensures.parent)
    (class_added c.line.class t (list_any (nat_eq t) (implemented_by c.args.types.now c.line.class)) new with_class mid (c.in_ok-insert.ensures.updates.0 t)
    (c.in_ok-add_types-2.ensures t ∙ ap (λ (l : List ℕ). with_class || list_any (nat_eq t) l) c.implemented.ensures))
    (c.line.invariant t)

pub returns-in_default : goal.returns-in_default
returns-in_default c t =
    let mid = contains nat_cmp c.line.all t in
    let with_class = contains nat_cmp c.insert.new.self t in
    let new = contains nat_cmp c.add_types-in-line.new.all t in
    is_whole c.args.types.now c.in_default.ensures.tree t c.line.class c.args.parent c.args.named.now new mid (contains nat_cmp c.add_types.new.all t) (sym c.in_default.ensures.parent)
    (class_added c.line.class t (list_any (nat_eq t) (implemented_by c.args.types.now c.line.class)) new with_class mid (c.in_ok-insert.ensures.updates.0 t)
    (c.in_ok-add_types-2.ensures t ∙ ap (λ (l : List ℕ). with_class || list_any (nat_eq t) l) c.implemented.ensures))
    (c.line.invariant t)
    (c.in_ok-add_types.ensures t ∙ ap (λ (ks : List ℕ). list_any (is_at (nat_cmp t)) ks || list_any (nat_eq t) c.args.named.now) c.new-all.ensures.empty)
