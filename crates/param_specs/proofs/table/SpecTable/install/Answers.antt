use Rattle.std.specs.Rc.{rc_str_bytes}
use Rattle.std.proofs.Common.{◌∙◌, string_bytes, ap, sym}
use Rattle.ui_machine.specs.Definition.Names.{canonical, place_named}
use Rattle.ui_machine.specs.Definition.Properties.{Spec}
use Rattle.param_specs.specs.View.{spec_view}
use Rattle.param_specs.specs.Table.{own_of, specs_of}
use Rattle.param_specs.proofs.Lists.{Installs-refused}
use Rattle.param_specs.proofs.Specs.{none_own}
use Rattle.param_specs.proofs.table.SpecTable.install.Goals as goal

pub returns-in-Some : goal.returns-in-Some
returns-in-Some c =
    Installs-refused c.in-Some.fault _ (specs_of c.args.tree.now c.args.self.now c.args.t) c.args.t (spec_view c.args.spec) c.args.self.now (sym c.in-Some.ensures.fault)

pub add_own-requires-clause-new : goal.add_own-requires-clause-new
add_own-requires-clause-new c =
    ap (λ name. place_named (λ (s : Spec). s.name) (own_of c.args.self.now c.args.t) name) (c.in_ok-key.ensures ∙ ap canonical c.as_str.ensures.value)
    ∙ none_own c.args.tree.now c.args.self.now c.args.t (rc_str_bytes c.args.spec.name) c.in_default.ensures.new
