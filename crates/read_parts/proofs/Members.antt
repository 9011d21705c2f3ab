-- The members of an object, by their keys.
use Rattle.std.proofs.Common.{◌≡◌, ℕ, suc, ◌||◌, nat_eq, length, arith, List, [], ◌∷◌, map, Bool, true, false, cond, not, Option, Some, option_map, String, Global, string_bytes, refl, ap, ◌∙◌}
use Rattle.std.specs.List.{find, list_any}
use Rattle.std.proofs.lemmas.Bool.Decides.{nat_tests}
use Rattle.std.specs.Str.{bytes_eq}
use Rattle.json_trees.specs.declared.value.Value.{Value}
use Rattle.json_trees.specs.View.{members_view, items_view}
use Rattle.definition_format.specs.Document.{is_among, first_other}

abbrev Entry : Type 0
Entry = String Global × Value

found_or : (known : Bool) (entry : Entry) (rest : Option (List ℕ)) (later : Option Entry) → rest ≡ option_map (λ (m : Entry). string_bytes m.0) later → cond known rest (Some (string_bytes entry.0)) ≡ option_map (λ (m : Entry). string_bytes m.0) (cond (not known) (Some entry) later)
found_or true entry rest later e = e
found_or false entry rest later e = refl

any_map : {A : Type 0} (name : A → List ℕ) (key : List ℕ) (xs : List A) → is_among (map name xs) key ≡ list_any (λ x. bytes_eq (name x) key) xs
any_map name key [] = refl
any_map name key (x ∷ xs) = ap (λ b. bytes_eq (name x) key || b) (any_map name key xs)

pub any_mapped : {A B : Type 0} (test : B → Bool) (f : A → B) (xs : List A) → list_any test (map f xs) ≡ list_any (λ x. test (f x)) xs
any_mapped test f [] = refl
any_mapped test f (x ∷ xs) = ap (λ b. test (f x) || b) (any_mapped test f xs)

pub first_other_is : {A : Type 0} (name : A → List ℕ) (ks : List A) (es : List Entry)
    → first_other (map name ks) (members_view es) ≡ option_map (λ (m : Entry). string_bytes m.0) (find (λ m. not (list_any (λ k. bytes_eq (name k) (string_bytes m.0)) ks)) es)
first_other_is name ks [] = refl
first_other_is name ks (e ∷ es) =
    ap (λ b. cond b (first_other (map name ks) (members_view es)) (Some (string_bytes e.0))) (any_map name (string_bytes e.0) ks)
    ∙ found_or (list_any (λ k. bytes_eq (name k) (string_bytes e.0)) ks) e _ _ (first_other_is name ks es)
