use Rattle.std.proofs.Common.{◌≡◌, None, Some, codes, option_copied, option_map, sym, ap, ◌∙◌}
use Rattle.json_trees.specs.View.{items_view}
use Rattle.definition_format.specs.Denoted.Entries.{ProgramNames, at_most, names_under, number_from, program_named}
use Rattle.read_parts.proofs.entries.ProgramNames.number.Goals as goal

pub returns-in_err-number : goal.returns-in_err-number
returns-in_err-number c =
    let none : number_from 0 (names_under (codes "name") (items_view c.self.inside.entries.now)) c.args.name.now ≡ None =
    sym (c.self.invariant c.args.name.now) ∙ sym c.get.ensures.value ∙ ap option_copied c.in_err-number.was in
    c.from_residual.ensures ∙ sym (ap (option_map (at_most 256)) none) ∙ ap (λ (names : ProgramNames). program_named names c.args.name.now) c.self.view_is

pub returns : goal.returns
returns c =
    let found : number_from 0 (names_under (codes "name") (items_view c.self.inside.entries.now)) c.args.name.now ≡ Some c.in_ok-number.number.now =
    sym (c.self.invariant c.args.name.now) ∙ sym c.get.ensures.value ∙ ap option_copied c.in_ok-number.was in
    ap Some c.at_most.ensures ∙ sym (ap (option_map (at_most 256)) found) ∙ ap (λ (names : ProgramNames). program_named names c.args.name.now) c.self.view_is
