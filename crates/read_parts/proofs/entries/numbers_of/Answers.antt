use Rattle.std.proofs.Common.{◌≡◌, ◌-◌, suc, Some, slice_get, option_map, drop, map, ap, subst, sym, ◌∙◌, arith, if◌then◌else◌}
use Rattle.std.proofs.lemmas.Option.{slice_get-map}
use Rattle.std.specs.BTreeMap.{get_by_text}
use Rattle.json_trees.specs.View.{view}
use Rattle.read_parts.specs.EntryViews.{views}
use Rattle.definition_format.specs.Denoted.Entries.{is_called, name_under, number_from}
use Rattle.read_parts.proofs.Numbered.{number_before, slice_got}
use Rattle.read_parts.proofs.entries.numbers_of.Goals as goal

pub entries-preserved : goal.entries-preserved
entries-preserved c =
    let i = c.entries.invariant in
    let vs = c.args.entries.now in
    let key = c.args.key.now in
    let left = c.entries.left - 1 in
    let names = map (name_under key) (views vs) in
    let own = name_under key (view c.index-entries-left.result.now) in
    let there : slice_get vs left ≡ Some c.index-entries-left.result = slice_got vs left c.index-entries-left.result (omega (arith, c.entries-test.true, i.within)) c.index-entries-left.is in
    let at : slice_get names left ≡ Some own =
    slice_get-map (name_under key) (views vs) left ∙ ap (option_map (name_under key)) (slice_get-map (λ v. view v.now) vs left ∙ ap (option_map (λ v. view v.now)) there) in
    let next : c.entries.left ≡ suc left = omega (arith, c.entries-test.true) in
    record {
      within = omega (arith, i.within);
      numbers = λ name.
          let behind : get_by_text c.entries.numbers name ≡ number_from (suc left) (drop (suc left) names) name =
          subst (λ n. get_by_text c.entries.numbers name ≡ number_from n (drop n names) name) next (i.numbers name) in
          c.in_ok-add_number.ensures name
          ∙ ap (λ found. if is_called own name then Some left else found) behind
          ∙ sym (number_before names left own name at);
    }
