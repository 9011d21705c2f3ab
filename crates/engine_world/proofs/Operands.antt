-- What an event gives, one after the other, as a loop does.
use Rattle.std.proofs.Common.{◌≡◌, ℕ, suc, ◌+◌, ◌≤◌, ◌<◌, List, [], ◌∷◌, ◌++◌, length, map, drop, get_or, Option, Some, None, Ok, Err, refl, sym, ap, ◌∙◌, arith, add-one, append_assoc}
use Rattle.std.proofs.Math.Seq.{drop-cons}
use Rattle.std.proofs.lemmas.List.{append-nil, nil_from_length, length-drop}
use Rattle.ui_machine.specs.declared.arm.Arm.TheVariants as arms
use Rattle.ui_machine.specs.Definition.Places as machine
use Rattle.ui_machine.specs.Definition.Values.{Value}
use Rattle.ui_machine.specs.Outcome.{Answer, known, ◌>>=◌}
use Rattle.ui_machine.specs.Rules.Construction.{given_value}
use Rattle.ui_machine.specs.Rules.Events.{given_values}
use Rattle.ui_machine.specs.State.Config.{World}
use Rattle.definition_format.specs.declared.objects.Given.{Given}
use Rattle.definition_format.specs.Meaning.{given_view}

module _ (w : World) (gs : List Given) (i : ℕ) (vs : List Value) (total : Answer (List Value)) where
  -- the values so far, and those of what is left from a place on
  abbrev pub Onward : ℕ → List Value → Type 0
  Onward j us = total ≡ (given_values w (map given_view (drop j gs)) >>= λ rest. Ok (us ++ rest))

  left : (g : Given) → i < length gs → g ≡ get_or gs i g → map given_view (drop i gs) ≡ given_view g ∷ map given_view (drop (i + 1) gs)
  left g lt is = let e : drop i gs ≡ get_or gs i g ∷ drop (suc i) gs = drop-cons gs i g lt in rw (add-one, e, ← is) refl

  taken : (g : Given) → i < length gs → g ≡ get_or gs i g → (o : Option Value) → given_value w (given_view g) ≡ o → Onward i vs
      → total ≡ ((known arms.Operand o >>= λ v. given_values w (map given_view (drop (i + 1) gs)) >>= λ us. Ok (v ∷ us)) >>= λ rest. Ok (vs ++ rest))
  unfolding given_values
  taken g lt is o given so =
      so ∙ ap (λ (xs : List machine.Given). given_values w xs >>= λ rest. Ok (vs ++ rest)) (left g lt is)
      ∙ ap (λ (x : Option Value). (known arms.Operand x >>= λ v. given_values w (map given_view (drop (i + 1) gs)) >>= λ us. Ok (v ∷ us)) >>= λ rest. Ok (vs ++ rest)) given

  -- what the builder does not have
  pub fails : (g : Given) → i < length gs → g ≡ get_or gs i g → given_value w (given_view g) ≡ None → Onward i vs → total ≡ Err arms.Operand
  fails g lt is none so = taken g lt is None none so

  -- one value more
  pub goes_on : (g : Given) (x : Value) → i < length gs → g ≡ get_or gs i g → given_value w (given_view g) ≡ Some x → Onward i vs → Onward (i + 1) (vs ++ x ∷ [])
  goes_on g x lt is some so = taken g lt is (Some x) some so ∙ join (given_values w (map given_view (drop (i + 1) gs)))
    where
      join : (a : Answer (List Value)) → ((a >>= λ us. Ok (x ∷ us)) >>= λ rest. Ok (vs ++ rest)) ≡ (a >>= λ rest. Ok ((vs ++ x ∷ []) ++ rest))
      join (Ok us) = ap (λ (xs : List Value). Ok xs) (sym (append_assoc vs (x ∷ []) us))
      join (Err arm) = refl

  -- all of them
  pub is_done : length gs ≤ i → Onward i vs → total ≡ Ok vs
  unfolding given_values
  is_done le so =
      let none : drop i gs ≡ [] = nil_from_length (drop i gs) (omega (arith, length-drop i gs)) in
      so ∙ ap (λ (xs : List Given). given_values w (map given_view xs) >>= λ rest. Ok (vs ++ rest)) none ∙ ap (λ (xs : List Value). Ok xs) (append-nil vs)
