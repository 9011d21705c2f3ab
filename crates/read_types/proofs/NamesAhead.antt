-- The names of a class's own signals, read ahead.
use Rattle.std.proofs.Common.{◌≡◌, ◌∙◌, ℕ, Bool, true, false, ◌||◌, List, [], ◌∷◌, ◌++◌, map, Option, None, Some, codes, option_and_then, String, Global, string_bytes, if◌then◌else◌, Ok, refl, sym, ap}
use Rattle.std.specs.Bool.{one_answer}
use Rattle.std.specs.BTreeMap.{is_at}
use Rattle.std.specs.BTreeSet.{BTreeSet, contains_text}
use Rattle.std.specs.Cmp.Lexicographic.{slice_cmp}
use Rattle.std.specs.List.{list_any}
use Rattle.std.specs.Ordering.{nat_cmp}
use Rattle.std.specs.Str.{bytes_eq}
use Rattle.std.proofs.Math.Path.{fun_ext}
use Rattle.std.proofs.lemmas.List.Folds.{list_any-append}
use Rattle.std.proofs.lemmas.Map.Text.{is_eq-slice_cmp}
use Rattle.std.proofs.lemmas.Slice.Eq.{bytes_eq-Decides}
use Rattle.serde_json.specs.Data.{Data, Items}
use Rattle.serde_json.specs.Find.{get, as_str}
use Rattle.definition_format.specs.Denoted.Overrides.{own_name}
use Rattle.definition_format.specs.Denoted.Brought.{names_with, own_signal_at, own_signals_ahead}
use Rattle.definition_format.specs.Document.{under, listed_ahead, each, at_entry}
use Rattle.read_types.specs.Drafted.{drafted}
use Rattle.read_types.specs.OverrideView.{names_of}
use Rattle.read_types.specs.OwnParts.{are_named, named_with, named_at}
use Rattle.read_types.proofs.Drafting.{each_drafted}

pub any_map : {A B : Type 0} (test : B → Bool) (of : A → B) (xs : List A) → list_any (λ x. test (of x)) xs ≡ list_any test (map of xs)
any_map test of [] = refl
any_map test of (x ∷ xs) = ap (λ b. test (of x) || b) (any_map test of xs)

-- what a set of names has
pub named_among : (own : BTreeSet (String Global)) (name : List ℕ) → contains_text own name ≡ are_named (names_of own.keys) name
named_among own name =
    ap (λ (test : String Global → Bool). list_any test own.keys) (fun_ext (λ (k : String Global). is_eq-slice_cmp name (string_bytes k)))
    ∙ any_map (bytes_eq name) (λ (k : String Global). string_bytes k) own.keys

pub no_names : (own : BTreeSet (String Global)) → own.keys ≡ [] → (name : List ℕ) → contains_text own name ≡ are_named [] name
no_names own h name = ap (λ (ks : List (String Global)). list_any (is_at (λ k. slice_cmp nat_cmp name (string_bytes k))) ks) h

bytes_comm : (xs ys : List ℕ) → bytes_eq xs ys ≡ bytes_eq ys xs
bytes_comm xs ys =
    one_answer (bytes_eq xs ys) (bytes_eq ys xs) (bytes_eq-Decides xs ys)
    ((λ h. sym ((bytes_eq-Decides ys xs).0 h)), (λ h. (bytes_eq-Decides ys xs).1 (sym h)))

-- a further name, unless it is there
named_more : (names : List (List ℕ)) (n q : List ℕ) → (if bytes_eq n q then true else are_named names q) ≡ are_named (names_with names (Some n)) q
named_more names n q = by (list_any (bytes_eq n) names) refl
  where
    there : (b : Bool) → bytes_eq n q ≡ b → list_any (bytes_eq n) names ≡ true → (if b then true else are_named names q) ≡ are_named names q
    there true e h = sym (ap (λ x. list_any (bytes_eq x) names) (sym ((bytes_eq-Decides n q).0 e)) ∙ h)
    there false e h = refl

    last : (b rest : Bool) → (if b then true else rest) ≡ (rest || (b || false))
    last true true = refl
    last true false = refl
    last false true = refl
    last false false = refl

    by : (b : Bool) → list_any (bytes_eq n) names ≡ b → (if bytes_eq n q then true else are_named names q) ≡ are_named (if b then names else names ++ n ∷ []) q
    by true h = there (bytes_eq n q) refl h
    by false h =
        last (bytes_eq n q) (are_named names q) ∙ ap (λ b. are_named names q || (b || false)) (bytes_comm n q) ∙ sym (list_any-append (bytes_eq q) names (n ∷ []))

part_is : (path : List ℕ) (names : List (List ℕ)) (d : Data) → named_at path (are_named names) d ≡ drafted are_named (own_signal_at path names d)
part_is path names d = by (own_name (option_and_then as_str (get (codes "name") d)))
  where
    by : (o : Option (List ℕ)) → Ok (named_with (are_named names) o) ≡ drafted are_named (Ok (names_with names o))
    by None = refl
    by (Some n) = ap (λ (f : List ℕ → Bool). Ok f) (fun_ext (named_more names n))

-- reading from the first on
pub names_are : (base : List ℕ) (has : List ℕ → Bool) (ds : Items) → ((name : List ℕ) → has name ≡ are_named [] name)
    → each (at_entry (λ path. named_at path) base) 0 has ds ≡ drafted are_named (each (at_entry own_signal_at base) 0 [] ds)
names_are base has ds begun =
    ap (λ (f : List ℕ → Bool). each (at_entry (λ path. named_at path) base) 0 f ds) (fun_ext begun)
    ∙ each_drafted are_named (λ path. named_at path) (λ path. own_signal_at path) part_is base 0 [] ds

-- the names with the one of an entry
pub name_pushed : (path : List ℕ) (d : Data) (old new : List ℕ → Bool) (name : List ℕ) → Some name ≡ own_name (option_and_then as_str (get (codes "name") d))
    → ((q : List ℕ) → new q ≡ (if bytes_eq name q then true else old q)) → named_at path old d ≡ Ok new
name_pushed path d old new name named more =
    ap (λ o. Ok (named_with old o)) (sym named) ∙ ap (λ (f : List ℕ → Bool). Ok f) (fun_ext (λ q. sym (more q)))

-- the names of the entries that a member lists
pub names_ahead_are : (path : List ℕ) (d : Data) (base : List ℕ) (items : Items) → base ≡ under path (codes "signals") → items ≡ listed_ahead (codes "signals") d
    → drafted are_named (own_signals_ahead path d) ≡ drafted are_named (each (at_entry own_signal_at base) 0 [] items)
names_ahead_are path d base items at_base is =
    ap (λ (l : Items). drafted are_named (each (at_entry own_signal_at (under path (codes "signals"))) 0 [] l)) (sym is)
    ∙ ap (λ (b : List ℕ). drafted are_named (each (at_entry own_signal_at b) 0 [] items)) (sym at_base)
