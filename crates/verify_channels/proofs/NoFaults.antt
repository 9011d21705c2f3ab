-- A definition without a fault has none of its bindings and pairs.
use Rattle.std.proofs.Common.{◌≡◌, refl, sym, List, [], ◌∷◌, Option, None, Some}
use Rattle.std.proofs.lemmas.Option.{none-some}
use Rattle.ui_machine.specs.Definition.{Definition}
use Rattle.law_typing.specs.Rules.BindingRules.{binding_faults, pair_faults}
use Rattle.law_typing.specs.Rules.Brackets.{bracket_faults}
use Rattle.law_typing.specs.Rules.Faults.{Fault}
use Rattle.law_typing.specs.Rules.Handlers.{handler_faults}
use Rattle.law_typing.specs.Rules.Sites.{typing_faults}
use Rattle.law_judging.specs.FirstFaults.{first_fault, first_of, or_else}

none_first : (fs : List Fault) → first_of fs ≡ None → fs ≡ []
none_first [] e = refl
none_first (f ∷ fs) e = absurd (none-some f (sym e))

both_none : (a b : Option Fault) → or_else a b ≡ None → (a ≡ None) × (b ≡ None)
both_none None b e = (refl, e)
both_none (Some f) b e = absurd (none-some f (sym e))

pub record NoPairFaults (d : Definition) : Type 0 where
  pub bindings : binding_faults d ≡ []
  pub pairs : pair_faults d ≡ []

pub no_pair_faults : (d : Definition) → first_fault d ≡ None → NoPairFaults d
no_pair_faults d none =
    let brackets = first_of (bracket_faults d) in
    let pairs = or_else (first_of (pair_faults d)) brackets in
    let bindings = or_else (first_of (binding_faults d)) pairs in
    let handlers = or_else (first_of (handler_faults d)) bindings in
    let one = both_none (first_of (typing_faults d)) handlers none in
    let two = both_none (first_of (handler_faults d)) bindings one.1 in
    let three = both_none (first_of (binding_faults d)) pairs two.1 in
    let four = both_none (first_of (pair_faults d)) brackets three.1 in
    record { bindings = none_first (binding_faults d) three.0; pairs = none_first (pair_faults d) four.0 }
