use Rattle.std.proofs.Common.{◌≡◌, ◌+◌, None, Some, codes, length, option_copied, option_map, sym, ap, ◌∙◌}
use Rattle.json_trees.specs.View.{items_view}
use Rattle.definition_format.specs.Denoted.Entries.{TypeNames, names_under, number_from, at_most, later_type}
use Rattle.read_parts.proofs.Numbered.{interface_found, class_found, count_is, sum_after}
use Rattle.read_parts.proofs.entries.TypeNames.number.Goals as goal

pub returns-in-Some : goal.returns-in-Some
returns-in-Some c =
    let i = c.self.inside in
    let names : TypeNames = record { first = i.first; interfaces = names_under (codes "name") (items_view i.interfaces.now); classes = names_under (codes "name") (items_view i.classes.now) } in
    let found : number_from 0 names.interfaces c.args.name.now ≡ Some c.in-Some.number.now =
    sym (c.self.invariant.0 c.args.name.now) ∙ sym c.get.ensures.value ∙ ap option_copied c.in-Some.is in
    ap Some c.sum_at_most.ensures ∙ sym (interface_found names c.args.name.now c.in-Some.number.now found)
    ∙ ap (λ (ns : TypeNames). option_map (at_most 256) (later_type ns c.args.name.now)) c.self.view_is

pub returns-in_err-number : goal.returns-in_err-number
returns-in_err-number c =
    let i = c.self.inside in
    let names : TypeNames = record { first = i.first; interfaces = names_under (codes "name") (items_view i.interfaces.now); classes = names_under (codes "name") (items_view i.classes.now) } in
    let no_interface : number_from 0 names.interfaces c.args.name.now ≡ None =
    sym (c.self.invariant.0 c.args.name.now) ∙ sym c.get.ensures.value ∙ ap option_copied c.in_default.is in
    let no_class : number_from 0 names.classes c.args.name.now ≡ None =
    sym (c.self.invariant.1 c.args.name.now) ∙ sym c.get-2.ensures.value ∙ ap option_copied c.in_err-number.was in
    c.from_residual.ensures ∙ sym (class_found names c.args.name.now None no_interface no_class)
    ∙ ap (λ (ns : TypeNames). option_map (at_most 256) (later_type ns c.args.name.now)) c.self.view_is

pub returns : goal.returns
returns c =
    let i = c.self.inside in
    let names : TypeNames = record { first = i.first; interfaces = names_under (codes "name") (items_view i.interfaces.now); classes = names_under (codes "name") (items_view i.classes.now) } in
    let k = c.in_ok-number.number.now in
    let no_interface : number_from 0 names.interfaces c.args.name.now ≡ None =
    sym (c.self.invariant.0 c.args.name.now) ∙ sym c.get.ensures.value ∙ ap option_copied c.in_default.is in
    let found : number_from 0 names.classes c.args.name.now ≡ Some k =
    sym (c.self.invariant.1 c.args.name.now) ∙ sym c.get-2.ensures.value ∙ ap option_copied c.in_ok-number.was in
    let first : c.from.result ≡ at_most 256 (i.first + length names.interfaces) =
    c.from.ensures ∙ c.sum_at_most-first.ensures ∙ ap (λ n. at_most 256 (i.first + n)) (sym (count_is (codes "name") i.interfaces.now)) in
    ap Some (c.sum_at_most-2.ensures ∙ ap (λ n. at_most 256 (n + k)) first ∙ sum_after 256 i.first (length names.interfaces) k)
    ∙ sym (class_found names c.args.name.now (Some k) no_interface found)
    ∙ ap (λ (ns : TypeNames). option_map (at_most 256) (later_type ns c.args.name.now)) c.self.view_is
