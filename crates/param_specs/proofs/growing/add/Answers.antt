use Rattle.std.proofs.Common.{◌∙◌, ◌<◌, ◌∷◌, [], ◌++◌, map, length, string_bytes, ap, sym, subst, arith}
use Rattle.ui_machine.specs.Definition.Names.{place_named}
use Rattle.ui_machine.specs.Definition.Properties as properties
use Rattle.param_specs.specs.View.{Entry, spec_view, specs_in, AreNamed}
use Rattle.param_specs.proofs.Lists.{AddsSpec-set, SameSpecs-set, AllNamed-set, AllNamed-at, on_err_if}
use Rattle.param_specs.proofs.Named.{goes_last, specs_more, named_more}
use Rattle.param_specs.proofs.Specs.{read-map}
use Rattle.param_specs.proofs.growing.add.Goals as goal

pub returns-in_err-insert-clause-err : goal.returns-in_err-insert-clause-err
returns-in_err-insert-clause-err c =
    let within : c.args.at < length c.args.lists.now.items = omega (arith, c.requires.within, c.args.lists.now.ok.0) in
    on_err_if c.from_residual.result
    (SameSpecs-set (λ m. specs_in m.entries) c.args.lists.now.items c.args.at c.insert.new.self c.index_mut.result.now within
    (ap specs_in c.in_err-insert.ensures.err ∙ ap (λ m. specs_in m.entries) c.index_mut.ensures.value))

pub returns-in_err-insert-clause-named : goal.returns-in_err-insert-clause-named
returns-in_err-insert-clause-named c =
    let within : c.args.at < length c.args.lists.now.items = omega (arith, c.requires.within, c.args.lists.now.ok.0) in
    AllNamed-set (λ m. m.entries) c.args.lists.now.items c.args.at c.insert.new.self
    (subst AreNamed (ap (λ m. m.entries) (sym c.index_mut.ensures.value) ∙ sym c.in_err-insert.ensures.err) (AllNamed-at (λ m. m.entries) c.args.lists.now.items c.args.at c.index_mut.result.now within c.requires.all))
    c.requires.all

pub returns-clause-ok : goal.returns-clause-ok
returns-clause-ok c =
    let within : c.args.at < length c.args.lists.now.items = omega (arith, c.requires.within, c.args.lists.now.ok.0) in
    let named = subst AreNamed (ap (λ m. m.entries) (sym c.index_mut.ensures.value)) (AllNamed-at (λ m. m.entries) c.args.lists.now.items c.args.at c.index_mut.result.now within c.requires.all) in
    let own = read-map (λ m. map spec_view (specs_in m.entries)) [] c.index_mut.result.now c.args.lists.now.items c.args.at within ∙ ap (λ m. map spec_view (specs_in m.entries)) (sym c.index_mut.ensures.value) in
    let new = ap (λ l. place_named (λ (s : properties.Spec). s.name) l (string_bytes c.args.name)) (sym own) ∙ c.requires.new in
    let longer = c.in_ok-insert.ensures.entries ∙ goes_last c.args.name c.args.spec c.index_mut.result.now.entries named new in
    let entry : Entry = (c.args.name, c.args.spec) in
    AddsSpec-set (λ m. specs_in m.entries) c.args.lists.now.items c.args.at c.insert.new.self c.index_mut.result.now c.args.spec within
    (ap specs_in longer ∙ specs_more c.index_mut.result.now.entries entry ∙ ap (λ m. specs_in m.entries ++ c.args.spec ∷ []) c.index_mut.ensures.value)

pub returns-clause-named : goal.returns-clause-named
returns-clause-named c =
    let within : c.args.at < length c.args.lists.now.items = omega (arith, c.requires.within, c.args.lists.now.ok.0) in
    let named = subst AreNamed (ap (λ m. m.entries) (sym c.index_mut.ensures.value)) (AllNamed-at (λ m. m.entries) c.args.lists.now.items c.args.at c.index_mut.result.now within c.requires.all) in
    let own = read-map (λ m. map spec_view (specs_in m.entries)) [] c.index_mut.result.now c.args.lists.now.items c.args.at within ∙ ap (λ m. map spec_view (specs_in m.entries)) (sym c.index_mut.ensures.value) in
    let new = ap (λ l. place_named (λ (s : properties.Spec). s.name) l (string_bytes c.args.name)) (sym own) ∙ c.requires.new in
    let longer = c.in_ok-insert.ensures.entries ∙ goes_last c.args.name c.args.spec c.index_mut.result.now.entries named new in
    let entry : Entry = (c.args.name, c.args.spec) in
    AllNamed-set (λ m. m.entries) c.args.lists.now.items c.args.at c.insert.new.self (subst AreNamed (sym longer) (named_more c.index_mut.result.now.entries entry named c.requires.named)) c.requires.all
