-- The class handlers of types, once one is named.
use Rattle.std.proofs.Common.{◌≡◌, ◌∙◌, ℕ, zero, suc, ◌<◌, Bool, true, false, cond, nat_eq, if◌then◌else◌, List, [], ◌∷◌, ◌++◌, length, map, get_or, slice_set, is_some, Some, ◌||◌, refl, sym, ap, arith}
use Rattle.std.specs.List.{list_any}
use Rattle.std.proofs.lemmas.Bool.Decides.{nat_tests}
use Rattle.ui_machine.specs.Definition.Names.{same_name}
use Rattle.ui_machine.specs.Definition.Signals.{ClassHandler}
use Rattle.ui_machine.specs.Rules.EmissionPlan.{handler_in}
use Rattle.signal_core.specs.Growing.{items_of}
use Rattle.signal_core.specs.Table.{AddsHandler, Names, RenamesHandlers, named_of, naming, with_program}

module _ {V T : Type 0} (items : V → List T) (f : T → T) where
  -- the list that is written has each item changed
  pub mapped-set : (xs : List V) (i : ℕ) (w d : V) → i < length xs → items w ≡ map f (items (get_or xs i d))
      → (u : ℕ) → items_of items (slice_set xs i w) u ≡ (if nat_eq u i then map f (items_of items xs u) else items_of items xs u)
  mapped-set [] i w d h e u = absurd (omega arith)
  mapped-set (v ∷ xs) zero w d h e zero = e
  mapped-set (v ∷ xs) zero w d h e (suc u) =
      let n : nat_eq (suc u) 0 ≡ false = grind (arith, nat_tests) in
      sym (ap (λ b. if b then map f (items_of items xs u) else items_of items xs u) n)
  mapped-set (v ∷ xs) (suc i) w d h e zero =
      let n : nat_eq 0 (suc i) ≡ false = grind (arith, nat_tests) in
      sym (ap (λ b. if b then map f (items v) else items v) n)
  mapped-set (v ∷ xs) (suc i) w d h e (suc u) =
      let n : nat_eq u i ≡ nat_eq (suc u) (suc i) = grind (arith, nat_tests) in
      mapped-set xs i w d (omega arith) e u ∙ ap (λ b. if b then map f (items_of items xs u) else items_of items xs u) n

-- whether one of these programs is for the signal of a name
pub any_handled : (hs : List ClassHandler) (name : List ℕ) → list_any (λ h. same_name h.signal name) hs ≡ is_some (handler_in hs name)
any_handled [] name = refl
any_handled (h ∷ hs) name = by (same_name h.signal name) (any_handled hs name)
  where
    by : (b : Bool) → list_any (λ h. same_name h.signal name) hs ≡ is_some (handler_in hs name)
        → (b || list_any (λ h. same_name h.signal name) hs) ≡ is_some (cond b (Some h.program) (handler_in hs name))
    by true e = refl
    by false e = e

same_number : (u t : ℕ) → nat_eq u t ≡ true → u ≡ t
same_number u t h = grind (arith, nat_tests)

module _ (old new : List (List ClassHandler)) (t : ℕ) (name : List ℕ) (program : ℕ) where
  -- where none is named, none changes
  pub renames-none : named_of old t ≡ [] → RenamesHandlers old old t name program
  renames-none none u = by (nat_eq u t) refl
    where
      by : (b : Bool) → nat_eq u t ≡ b → named_of old u ≡ (if b then map (with_program name program) (named_of old u) else named_of old u)
      by true e =
          let here = ap (named_of old) (same_number u t e) ∙ none in
          here ∙ ap (map (with_program name program)) (sym here)
      by false e = refl

  named-as : (there : Bool) → is_some (handler_in (named_of old t) name) ≡ there → (u : ℕ) (b : Bool) → nat_eq u t ≡ b
      → (if b then cond there (map (with_program name program) (named_of old u)) (named_of old u ++ record { signal = name; program = program } ∷ []) else named_of old u)
      ≡ (if b then naming name program (named_of old u) else named_of old u)
  named-as there h u true e =
      ap (λ x. cond x (map (with_program name program) (named_of old u)) (named_of old u ++ record { signal = name; program = program } ∷ []))
      (sym (ap (λ v. is_some (handler_in (named_of old v) name)) (same_number u t e) ∙ h))
  named-as there h u false e = refl

  -- one that was named before is replaced
  pub names-renamed : is_some (handler_in (named_of old t) name) ≡ true → RenamesHandlers old new t name program → Names old new t name program
  names-renamed there renames u = renames u ∙ named-as true there u (nat_eq u t) refl

  -- and a new one comes last
  pub names-added : is_some (handler_in (named_of old t) name) ≡ false → AddsHandler old new t (record { signal = name; program = program }) → Names old new t name program
  names-added none adds u = adds u ∙ named-as false none u (nat_eq u t) refl
