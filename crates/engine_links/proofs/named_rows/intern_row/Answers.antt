use Rattle.std.proofs.Common.{◌≡◌, ℕ, List, length, Some, sym, ap, ◌∙◌, arith}
use Rattle.name_tables.specs.Names.{Named, place_of}
use Rattle.name_tables.specs.Steps.{with_name}
use Rattle.engine_links.proofs.Interning.{level_more, with_row-new, with_row-there}
use Rattle.engine_links.proofs.named_rows.intern_row.Goals as goal

-- where a name is once it has a place
placed : (names new : List Named) (name : List ℕ) (at : ℕ) → new ≡ with_name names name → place_of new name ≡ Some at → place_of (with_name names name) name ≡ Some at
placed names new name at more found = ap (λ xs. place_of xs name) (sym more) ∙ found

pub returns-in_ok-push-clause-rows : goal.returns-in_ok-push-clause-rows
returns-in_ok-push-clause-rows g c =
    let place = placed c.args.names.now c.intern.new.self c.args.name.now c.in_ok-at.at c.in_ok-at.ensures.ok c.in_ok-at.ensures.found in
    with_row-new c.args.names.now c.args.name.now c.in_ok-at.at place c.args.rows.now.items c.args.empty c.reserve.new.self.items c.in_ok-reserve.ensures.items
    c.push.new.self.items c.in_ok-push.ensures.items (omega arith)

pub returns-in_ok-push-clause-level : goal.returns-in_ok-push-clause-level
returns-in_ok-push-clause-level g c =
    ap length (returns-in_ok-push-clause-rows g c)
    ∙ level_more c.args.names.now c.args.rows.now.items c.args.name.now c.args.empty c.requires
    ∙ ap (λ (l : List Named). length l) (sym c.in_ok-at.ensures.ok)

pub returns-else-at-len-clause-rows : goal.returns-else-at-len-clause-rows
returns-else-at-len-clause-rows g c =
    let place = placed c.args.names.now c.intern.new.self c.args.name.now c.in_ok-at.at c.in_ok-at.ensures.ok c.in_ok-at.ensures.found in
    with_row-there c.args.names.now c.args.name.now c.in_ok-at.at place c.args.rows.now.items c.args.empty c.reserve.new.self.items c.in_ok-reserve.ensures.items
    (λ last. absurd (omega (arith, last)))

pub returns-else-at-len-clause-level : goal.returns-else-at-len-clause-level
returns-else-at-len-clause-level g c =
    ap length (returns-else-at-len-clause-rows g c)
    ∙ level_more c.args.names.now c.args.rows.now.items c.args.name.now c.args.empty c.requires
    ∙ ap (λ (l : List Named). length l) (sym c.in_ok-at.ensures.ok)
