-- Entries of the map, seen as names with their numbers.
use Rattle.std.proofs.Common.{◌≡◌, ℕ, zero, suc, ◌<◌, length, ◌&&◌, nat_eq, option_map, slice_get, string_eq, List, [], ◌∷◌, ◌++◌, map, Global, String, string_bytes, Option, None, Some, position, refl, sym, ap, subst, ◌∙◌, add-one}
use Rattle.std.specs.BTreeMap.{BTreeMap}
use Rattle.std.specs.List.{position_from}
use Rattle.std.specs.Map.{keys_of, values_of}
use Rattle.std.specs.Str.{bytes_eq}
use Rattle.std.proofs.lemmas.Iterator.Adapters.{position_from-zero}
use Rattle.std.proofs.lemmas.List.{length-map, map-append}
use Rattle.std.proofs.lemmas.Option.{none-some}
use Rattle.indexmap.specs.IndexMap.{IndexMap, get_by_text, insert_entry, set_value_at}
use Rattle.indexmap.proofs.CallerLemmas.{insert_entry-new}
use Rattle.ui_machine.specs.Definition.Names.{same_name, place_from}
use Rattle.type_tree.proofs.Lookups.{same_name-bytes_eq}
use Rattle.name_tables.specs.Names.{Named, Adds, SameNumbers, number_at, number_in, place_of, with_number}
use Rattle.name_tables.specs.Steps.{with_name, ReadsSame, GivesNumber}
use Rattle.name_tables.proofs.Lookups.{set_numbers, numbers_of, place_of-within, set_numbers-same, set_numbers-adds, with_name-same}

-- an entry of the map
abbrev pub Row : Type 0
Row = String Global × BTreeMap ℕ ℕ

-- the name that it is, with its numbers
abbrev pub named : Row → Named
named e = record { name = string_bytes e.0; numbers = e.1.entries }

place_from-position : (name : List ℕ) (i : ℕ) (es : List Row) → place_from (λ n. n.name) i (map named es) name ≡ position_from (λ k. bytes_eq name (string_bytes k)) i (keys_of es)
place_from-position name i [] = refl
place_from-position name i (e ∷ es) =
    let s = same_name-bytes_eq name (string_bytes e.0) in
    let r = place_from-position name (suc i) es in
    let o = add-one i in
    cc

-- where a name is, by the keys of the map
pub place_of-position : (name : List ℕ) (es : List Row) → place_of (map named es) name ≡ position (λ k. bytes_eq name (string_bytes k)) (keys_of es)
place_of-position name es = place_from-position name 0 es ∙ sym (position_from-zero _ (keys_of es))

-- a value that is written by index is a name's new numbers
pub named-set_value_at : (es : List Row) (i : ℕ) (w : BTreeMap ℕ ℕ) → map named (set_value_at es i w) ≡ set_numbers (map named es) i w.entries
named-set_value_at [] i w = refl
named-set_value_at (e ∷ es) zero w = refl
named-set_value_at (e ∷ es) (suc i) w = ap (λ l. named e ∷ l) (named-set_value_at es i w)

-- a value is its name's numbers
pub numbers-value : (es : List Row) (i : ℕ) (v : BTreeMap ℕ ℕ) → slice_get (values_of es) i ≡ Some v → numbers_of (map named es) i ≡ Some v.entries
numbers-value [] i v h = absurd (none-some v h)
numbers-value (e ∷ es) zero v h = ap (option_map (λ (x : BTreeMap ℕ ℕ). x.entries)) h
numbers-value (e ∷ es) (suc i) v h = numbers-value es i v h

-- the place of a name is within the map
pub place-within : (es : List Row) (name : List ℕ) (i : ℕ) → place_of (map named es) name ≡ Some i → i < length es
place-within es name i place = subst (λ k. i < k) (length-map es named) (place_of-within (map named es) name i place)

-- the number of an entry's name
pub number-entry : (es : List Row) (i c : ℕ) (e : Row) → slice_get es i ≡ Some e → number_at (map named es) c i ≡ number_in e.1.entries c
number-entry [] i c e h = absurd (none-some e h)
number-entry (x ∷ es) zero c e h = let same : x ≡ e = cc h in ap (λ (y : Row). number_in y.1.entries c) same
number-entry (x ∷ es) (suc i) c e h = number-entry es i c e h

-- a new key is a name without numbers
pub named-insert : {S : Type 0} (m : IndexMap (String Global) (BTreeMap ℕ ℕ) S) (new : List Row) (key : String Global) (v : BTreeMap ℕ ℕ) (name : List ℕ)
    → get_by_text m name ≡ None → string_bytes key ≡ name → v.entries ≡ [] → new ≡ insert_entry string_eq m.entries key v
    → map named new ≡ map named m.entries ++ record { name = name; numbers = [] } ∷ []
named-insert m new key v name none spelled empty is =
    ap (map named) (is ∙ insert_entry-new string_eq m key v (ap (get_by_text m) spelled ∙ none)) ∙ map-append named m.entries ((key, v) ∷ [])
    ∙ ap (λ (b : List ℕ). map named m.entries ++ record { name = b; numbers = v.entries } ∷ []) spelled
    ∙ ap (λ (l : List (ℕ × ℕ)). map named m.entries ++ record { name = name; numbers = l } ∷ []) empty

-- ** an addition

module _ (old names : List Named) (es : List Row) (name : List ℕ) (i : ℕ) (v w : BTreeMap ℕ ℕ) (seen : map named es ≡ names) (more : names ≡ with_name old name)
    (place : place_of names name ≡ Some i) (is : slice_get (values_of es) i ≡ Some v) where
  before : SameNumbers old (map named es)
  before = subst (SameNumbers old) (sym more ∙ sym seen) (with_name-same old name)

  at : place_of (map named es) name ≡ Some i
  at = ap (λ xs. place_of xs name) seen ∙ place

  -- a class has the name under the number that its numbers got
  pub addition : (class number : ℕ) → GivesNumber v.entries w.entries class number → Adds old (map named (set_value_at es i w)) class name number
  addition class number gives =
      subst (λ new. Adds old new class name number) (sym (named-set_value_at es i w))
      (λ c n. set_numbers-adds (map named es) name i v.entries w.entries at (numbers-value es i v is) class number gives c n
      ∙ ap (with_number (nat_eq c class && same_name name n) number) (before c n))

  -- where its numbers read the same, no name's number differs
  pub no_addition : ReadsSame v.entries w.entries → SameNumbers old (map named (set_value_at es i w))
  no_addition same =
      subst (SameNumbers old) (sym (named-set_value_at es i w))
      (λ c n. set_numbers-same (map named es) name i v.entries w.entries at (numbers-value es i v is) same c n ∙ before c n)
