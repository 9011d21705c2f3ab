use Rattle.std.proofs.Common.{◌≡◌, ◌∙◌, ◌+◌, ◌∷◌, [], Some, None, cond, option_map, ap, sym, subst, arith}
use Rattle.ui_machine.specs.Definition.Names.{canonical, place_named}
use Rattle.ui_machine.specs.Definition.Signals.{Signal}
use Rattle.ui_machine.specs.Words.{notify}
use Rattle.signal_core.specs.Sources.{declared_of}
use Rattle.signal_core.specs.Table.{IsTable}
use Rattle.signal_core.proofs.Places.{place_back, place_within}
use Rattle.signal_core.proofs.Walks.{declared_few}
use Rattle.signal_core.proofs.table.SignalTable.find.Goals as goal

pub overflow_add-result : goal.overflow_add-result
overflow_add-result c =
    let few = declared_few c.args.tree.now c.args.self.now.signals (subst (λ d. IsTable d.signals) c.self.view_is c.self.invariant.0) c.args.t in
    let within = place_within (λ (s : Signal). s.name) (canonical c.args.name.now) (declared_of c.args.tree.now c.args.self.now.signals c.args.t) c.in-Ok.place c.in-Ok.ensures.found in
    omega (arith, few, within)

pub overflow_cast-result : goal.overflow_cast-result
overflow_cast-result c =
    let few = declared_few c.args.tree.now c.args.self.now.signals (subst (λ d. IsTable d.signals) c.self.view_is c.self.invariant.0) c.args.t in
    let within = place_within (λ (s : Signal). s.name) (canonical c.args.name.now) (declared_of c.args.tree.now c.args.self.now.signals c.args.t) c.in-Ok.place c.in-Ok.ensures.found in
    omega (arith, few, within)

pub returns-in-Ok-clause-number : goal.returns-in-Ok-clause-number
returns-in-Ok-clause-number c =
    let here : place_named (λ (s : Signal). s.name) (notify ∷ []) (canonical c.args.name.now) ≡ None = ap (λ b. cond b (Some 0) None) (sym c.is_spelling.ensures ∙ c.if-is_spelling.false) in
    ap Some (omega arith)
    ∙ ap (option_map (λ k. 1 + k)) (sym c.in-Ok.ensures.found)
    ∙ sym (place_back (λ (s : Signal). s.name) (canonical c.args.name.now) (notify ∷ []) (declared_of c.args.tree.now c.args.self.now.signals c.args.t) here)

pub returns-in-Ok-clause-within : goal.returns-in-Ok-clause-within
returns-in-Ok-clause-within c =
    let within = place_within (λ (s : Signal). s.name) (canonical c.args.name.now) (declared_of c.args.tree.now c.args.self.now.signals c.args.t) c.in-Ok.place c.in-Ok.ensures.found in
    omega (arith, within)

pub returns-in-Err-clause-number : goal.returns-in-Err-clause-number
returns-in-Err-clause-number c =
    let here : place_named (λ (s : Signal). s.name) (notify ∷ []) (canonical c.args.name.now) ≡ None = ap (λ b. cond b (Some 0) None) (sym c.is_spelling.ensures ∙ c.if-is_spelling.false) in
    ap (option_map (λ k. 1 + k)) (sym c.in-Err.ensures.none)
    ∙ sym (place_back (λ (s : Signal). s.name) (canonical c.args.name.now) (notify ∷ []) (declared_of c.args.tree.now c.args.self.now.signals c.args.t) here)
