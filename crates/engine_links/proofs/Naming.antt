-- The methods and the bindings of names, one by one.
use Rattle.std.proofs.Common.{◌≡◌, ℕ, Bool, true, false, cond, nat_eq, nat_lt, ◌&&◌, List, [], ◌∷◌, ◌++◌, map, get_or, Option, None, Some, option_map, slice_get, refl, sym, ap, ◌∙◌}
use Rattle.std.specs.List.{list_any}
use Rattle.std.proofs.Math.ListN.{set}
use Rattle.std.proofs.lemmas.Option.{none-some}
use Rattle.ui_machine.specs.Definition.{Definition}
use Rattle.ui_machine.specs.Definition.Names.{place_named, same_name}
use Rattle.ui_machine.specs.Definition.Signals.{Method, Shape}
use Rattle.ui_machine.specs.State.Bindings.{is_name}
use Rattle.law_typing.specs.Good.Meanings.{binding_name, shape_methods}
use Rattle.name_tables.specs.Names.{Named, number_in, place_of, with_number}
use Rattle.name_tables.proofs.Numbers.{unchanged}
use Rattle.engine_links.specs.Rows.{NamedRows, method_of, numbers_of, row_of}
use Rattle.engine_links.specs.Steps.{AddsBinding, AddsMethod, method_called}
use Rattle.engine_links.proofs.Interning.{Interned, is_row, method_by-row, numbers_by-row, was_row}

-- ** one more

and_true : (b : Bool) → (b && true) ≡ b
and_true true = refl
and_true false = refl

and_false : (b : Bool) → (b && false) ≡ false
and_false true = refl
and_false false = refl

method_of-row : (m : NamedRows (List (ℕ × ℕ))) (shape : ℕ) (n : List ℕ) → method_of m shape n ≡ number_in (row_of [] m.names m.rows n) shape
method_of-row m shape n = method_by-row m.rows shape (place_of m.names n)

numbers_of-row : (b : NamedRows (List ℕ)) (n : List ℕ) → numbers_of b n ≡ row_of [] b.names b.rows n
numbers_of-row b n = numbers_by-row b.rows (place_of b.names n)

-- the names and their rows, as they are seen
abbrev pub seen : {V A : Type 0} → (V → List A) → List Named → List V → NamedRows (List A)
seen view names rows = record { names = names; rows = map view rows }

module _ {V : Type 0} (view : V → List (ℕ × ℕ)) (old_names : List Named) (old_rows : List V) (names : List Named) (rows : List V) (name : List ℕ) (at : ℕ)
    (h : Interned view old_names old_rows names rows name at) where
  -- a shape has got a number for a method's name, where it had none
  pub adds_method : (before after : V) (shape number : ℕ) → before ≡ get_or rows at before
      → ((s : ℕ) → number_in (view after) s ≡ with_number (nat_eq s shape) number (number_in (view before) s))
      → AddsMethod (seen view old_names old_rows) (seen view names (set rows at after)) shape name number
  adds_method before after shape number is gives s n =
      method_of-row (seen view names (set rows at after)) s n
      ∙ ap (λ row. number_in row s) (is_row view old_names old_rows names rows name at h after n)
      ∙ by (same_name name n) refl
    where
      old : NamedRows (List (ℕ × ℕ))
      old = seen view old_names old_rows

      by : (b : Bool) → same_name name n ≡ b → number_in (cond b (view after) (row_of [] old_names (map view old_rows) n)) s ≡ with_number (nat_eq s shape && b) number (method_of old s n)
      by true same =
          gives s
          ∙ ap (λ row. with_number (nat_eq s shape) number (number_in row s)) (was_row view old_names old_rows names rows name at h before n is same)
          ∙ ap (with_number (nat_eq s shape) number) (sym (method_of-row old s n))
          ∙ ap (λ b. with_number b number (method_of old s n)) (sym (and_true (nat_eq s shape)))
      by false other =
          sym (method_of-row old s n) ∙ sym (unchanged number (method_of old s n)) ∙ ap (λ b. with_number b number (method_of old s n)) (sym (and_false (nat_eq s shape)))

module _ {V : Type 0} (view : V → List ℕ) (old_names : List Named) (old_rows : List V) (names : List Named) (rows : List V) (name : List ℕ) (at : ℕ)
    (h : Interned view old_names old_rows names rows name at) where
  -- a binding's name has got its number
  pub adds_binding : (before after : V) (number : ℕ) → before ≡ get_or rows at before → view after ≡ view before ++ number ∷ []
      → AddsBinding (seen view old_names old_rows) (seen view names (set rows at after)) name number
  adds_binding before after number is more n =
      numbers_of-row (seen view names (set rows at after)) n
      ∙ is_row view old_names old_rows names rows name at h after n
      ∙ by (same_name name n) refl
    where
      old : NamedRows (List ℕ)
      old = seen view old_names old_rows

      had : row_of [] old_names (map view old_rows) n ≡ numbers_of old n
      had = sym (numbers_of-row old n)

      by : (b : Bool) → same_name name n ≡ b → cond b (view after) (row_of [] old_names (map view old_rows) n) ≡ cond b (numbers_of old n ++ number ∷ []) (numbers_of old n)
      by true same = more ∙ ap (λ l. l ++ number ∷ []) (was_row view old_names old_rows names rows name at h before n is same ∙ had)
      by false other = had

-- ** the methods of a shape

-- the methods of a shape that is there
pub its_methods : (d : Definition) (number : ℕ) (methods : List Method) (n : List ℕ) → Some methods ≡ option_map (λ s. s.methods) (slice_get d.shapes number)
    → place_named (λ m. m.name) methods n ≡ method_called d number n
its_methods d number methods n is = ap (λ ms. place_named (λ m. m.name) ms n) (by (slice_get d.shapes number) is)
  where
    by : (o : Option Shape) → Some methods ≡ option_map (λ s. s.methods) o → methods ≡ shape_methods o
    by None e = absurd (none-some methods (sym e))
    by (Some shape) e = cc

-- ** the bindings of a definition

-- the names are those of so many bindings
abbrev pub HasBindings : Definition → ℕ → NamedRows (List ℕ) → Type 0
HasBindings d count b = (k : ℕ) (n : List ℕ) → list_any (nat_eq k) (numbers_of b n) ≡ (nat_lt k count && is_name n (binding_name d k))
