use Rattle.std.proofs.Common.{◌≡◌, [], List, Option, None, Some, Ok, sym, ap, ◌∙◌, option_map, ℕ, arith}
use Rattle.ui_machine.specs.Definition.Values.{Value}
use Rattle.ui_machine.specs.Rules.Accumulation.{taken}
use Rattle.ui_machine.specs.State.References.{in_register}
use Rattle.ui_machine.specs.State.Tasks.{Frame, Task}
use Rattle.g_values.specs.View.{value_view}
use Rattle.g_values.specs.declared.value.Value as code
use Rattle.bytecode.specs.View.{number_of}
use Rattle.bytecode.specs.declared.computations.Register.{Register}
use Rattle.engine_world.specs.FirstPrograms.{first_frame, rest_of}
use Rattle.engine_world.proofs.Ableness.{able_as, no_arm}
use Rattle.engine_world.proofs.FirstPrograms.{begins}
use Rattle.engine_world.proofs.Held.{may_less}
use Rattle.engine_world.proofs.Registers.{receives_able}
use Rattle.engine_world.proofs.program_frames.pass_to.Goals as goal

pub returns-in_default-clause-agenda : goal.returns-in_default-clause-agenda
returns-in_default-clause-agenda c =
    let d = c.args.definition.now in
    let e = c.args.engine.now in
    let none : (first_frame e).into ≡ None = sym (ap (λ (f : Frame). f.into) c.first_frame.ensures) ∙ ap (λ (into : Option Register). option_map number_of into) c.in_default.is in
    ap (λ (into : Option ℕ). taken into (first_frame e) (rest_of d e) (option_map value_view c.args.value.now)) none
    ∙ ap (λ (ts : List Task). Ok ts) (sym (begins d e c.requires.first))

pub unreachable-requires : goal.unreachable-requires
unreachable-requires c =
    let f = first_frame c.args.engine.now in
    let some : f.into ≡ Some c.in-Some.to.0 = sym (ap (λ (g : Frame). g.into) c.first_frame.ensures) ∙ ap (λ (into : Option Register). option_map number_of into) c.in-Some.is in
    let into = ap (λ (into : Option ℕ). taken into f [] (option_map value_view c.args.value.now)) some in
    let none = ap (λ (v : Option code.Value). taken (Some c.in-Some.to.0) f [] (option_map value_view v)) c.in_default-value.is in
    no_arm _ _ c.requires.able (into ∙ none)

pub receive-requires-clause-able : goal.receive-requires-clause-able
receive-requires-clause-able c =
    let f = first_frame c.args.engine.now in
    let to = c.in-Some.to.0 in
    let some : f.into ≡ Some to = sym (ap (λ (g : Frame). g.into) c.first_frame.ensures) ∙ ap (λ (into : Option Register). option_map number_of into) c.in-Some.is in
    let into = ap (λ (into : Option ℕ). taken into f [] (option_map value_view c.args.value.now)) some in
    let given = ap (option_map value_view) c.in-Some-value.is ∙ ap (λ (v : Value). Some v) (sym c.in_ok-value.ensures.value) in
    let is = into ∙ ap (λ (v : Option Value). taken (Some to) f [] v) given in
    receives_able f [] to (Some (value_view c.in_ok-value.value)) (able_as is c.requires.able)

pub receive-requires-clause-may : goal.receive-requires-clause-may
receive-requires-clause-may c =
    let given = ap (option_map value_view) c.in-Some-value.is ∙ ap (λ (v : Value). Some v) (sym c.in_ok-value.ensures.value) in
    may_less c.args.engine.now.world.table _ _ (λ o. let same = ap (in_register o) given in omega (arith, same)) c.requires.may

pub returns-clause-agenda : goal.returns-clause-agenda
returns-clause-agenda c =
    let d = c.args.definition.now in
    let f = first_frame c.args.engine.now in
    let rest = rest_of d c.args.engine.now in
    let to = c.in-Some.to.0 in
    let some : f.into ≡ Some to = sym (ap (λ (g : Frame). g.into) c.first_frame.ensures) ∙ ap (λ (into : Option Register). option_map number_of into) c.in-Some.is in
    let into = ap (λ (into : Option ℕ). taken into f rest (option_map value_view c.args.value.now)) some in
    let given = ap (option_map value_view) c.in-Some-value.is ∙ ap (λ (v : Value). Some v) (sym c.in_ok-value.ensures.value) in
    let is = into ∙ ap (λ (v : Option Value). taken (Some to) f rest v) given in
    is ∙ c.receive.ensures.agenda
