use Rattle.std.proofs.Common.{◌∙◌, ◌<◌, ◌++◌, [], length, map, sym, ap, arith}
use Rattle.std.specs.Option.{option_map_or}
use Rattle.ui_machine.specs.Seq.{read}
use Rattle.param_specs.proofs.SlotRows.{read_seen}
use Rattle.param_specs.proofs.slots.inherited.Goals as goal

pub returns : goal.returns
returns c =
    let rows = c.args.rows.now in
    let first : c.index.result < length rows = omega (arith, c.requires, c.in-Some.ensures.before, c.index.ensures) in
    c.in_ok-extend_from_slice.ensures.items
    ∙ ap (λ l. l ++ c.deref.result.now) c.new-row.ensures.items
    ∙ c.deref.ensures.value
    ∙ ap (λ v. v.items) c.index-rows-index.is
    ∙ read_seen (λ r. r.items) c.index-rows-index.result rows c.index.result first
    ∙ ap (read [] (map (λ r. r.items) rows)) c.index.ensures
    ∙ ap (λ o. option_map_or (read [] (map (λ r. r.items) rows)) o []) c.in-Some.ensures.parent
