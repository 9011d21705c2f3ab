-- Entries of a map that are seen as something with a name: where the entry of a name is, and one more of them.
use Rattle.std.proofs.Common.{◌≡◌, ℕ, suc, Bool, true, false, cond, nat_eq, ◌&&◌, List, [], ◌∷◌, ◌++◌, map, Option, None, Some, position, String, Global, string_eq, string_bytes, if◌then◌else◌, refl, sym, ap, ◌∙◌, add-one, arith}
use Rattle.std.specs.List.{AllByRecursion, position_from}
use Rattle.std.specs.Map.{keys_of}
use Rattle.std.specs.Str.{bytes_eq}
use Rattle.std.proofs.lemmas.Bool.Decides.{nat_tests}
use Rattle.std.proofs.lemmas.Option.{none-some}
use Rattle.std.proofs.lemmas.Iterator.Adapters.{position_from-zero}
use Rattle.indexmap.specs.IndexMap.{insert_entry}
use Rattle.ui_machine.specs.Definition.Names.{same_name, place_from, place_named}

nat_eq-comm : (x y : ℕ) → nat_eq x y ≡ nat_eq y x
nat_eq-comm x y = grind (arith, nat_tests)

cond-and : (b c : Bool) → cond b c false ≡ (b && c)
cond-and true c = refl
cond-and false c = refl

-- two ids are one where their bytes are
same_name-is : (xs ys : List ℕ) → same_name ys xs ≡ bytes_eq xs ys
same_name-is [] [] = refl
same_name-is [] (y ∷ ys) = refl
same_name-is (x ∷ xs) [] = refl
same_name-is (x ∷ xs) (y ∷ ys) =
    let e = nat_eq-comm y x in
    let f = same_name-is xs ys in
    cond-and (nat_eq y x) (same_name ys xs) ∙ cc

-- entries that are seen as something with a name, each under that name
module _ {B X : Type 0} (view : String Global × B → X) (name_of : X → List ℕ) where
  abbrev pub IsNamed : String Global × B → Type 0
  IsNamed e = string_bytes e.0 ≡ name_of (view e)

  number_from : (name : List ℕ) (i : ℕ) (es : List (String Global × B)) → AllByRecursion IsNamed es
      → place_from name_of i (map view es) name ≡ position_from (λ k. bytes_eq name (string_bytes k)) i (keys_of es)
  number_from name i [] named = refl
  number_from name i (e ∷ es) named =
      let n : string_bytes e.0 ≡ name_of (view e) = named.0 in
      let s = same_name-is name (string_bytes e.0) in
      let r = number_from name (suc i) es named.1 in
      let o = add-one i in
      cc

  pub number_is : (name : List ℕ) (es : List (String Global × B)) → AllByRecursion IsNamed es
      → place_named name_of (map view es) name ≡ position (λ k. bytes_eq name (string_bytes k)) (keys_of es)
  number_is name es named = number_from name 0 es named ∙ sym (position_from-zero _ (keys_of es))

  -- a new name goes last
  fresh_from : (name : String Global) (body : B) (i : ℕ) (es : List (String Global × B)) → AllByRecursion IsNamed es
      → place_from name_of i (map view es) (string_bytes name) ≡ None → insert_entry string_eq es name body ≡ es ++ (name, body) ∷ []
  fresh_from name body i [] named h = refl
  fresh_from name body i (e ∷ es) named h =
      by (bytes_eq (string_bytes name) (string_bytes e.0)) refl (fresh_from name body (suc i) es named.1)
    where
      same : same_name (name_of (view e)) (string_bytes name) ≡ bytes_eq (string_bytes name) (string_bytes e.0)
      same = ap (λ n. same_name n (string_bytes name)) (sym named.0) ∙ same_name-is (string_bytes name) (string_bytes e.0)

      rest : Option ℕ
      rest = place_from name_of (suc i) (map view es) (string_bytes name)

      by : (b : Bool) → bytes_eq (string_bytes name) (string_bytes e.0) ≡ b → (rest ≡ None → insert_entry string_eq es name body ≡ es ++ (name, body) ∷ [])
          → insert_entry string_eq (e ∷ es) name body ≡ (e ∷ es) ++ (name, body) ∷ []
      by true q after = absurd (none-some i (sym h ∙ ap (λ b. cond b (Some i) rest) (same ∙ q)))
      by false q after =
          ap (λ b. if b then (e.0, body) ∷ es else e ∷ insert_entry string_eq es name body) q
          ∙ ap (λ l. e ∷ l) (after (sym (ap (λ b. cond b (Some i) rest) (same ∙ q)) ∙ h))

  pub named_last : (name : String Global) (body : B) (es : List (String Global × B)) → AllByRecursion IsNamed es
      → place_named name_of (map view es) (string_bytes name) ≡ None → insert_entry string_eq es name body ≡ es ++ (name, body) ∷ []
  named_last name body es named h = fresh_from name body 0 es named h
