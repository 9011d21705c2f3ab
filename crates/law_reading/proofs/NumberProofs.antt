-- The numbers of types that come later: while types are read, the entries that are left give the numbers of the names that no type has yet.
use Rattle.std.proofs.Common.{◌≡◌, ℕ, suc, ◌+◌, Bool, true, false, cond, if◌then◌else◌, List, [], ◌∷◌, ◌++◌, length, Option, None, Some, Result, codes, refl, sym, ap, ◌∙◌, arith, length-append}
use Rattle.std.specs.Option.{option_or}
use Rattle.std.specs.Str.{bytes_eq}
use Rattle.std.proofs.lemmas.Bool.{eq-eqb}
use Rattle.std.proofs.lemmas.Option.{none-some}
use Rattle.serde_json.specs.Data.{Data, Items, no_items, item}
use Rattle.ui_machine.specs.Definition.Names.{same_name}
use Rattle.ui_machine.specs.Definition.Types.{GType}
use Rattle.type_tree.specs.Adding.{find_type}
use Rattle.definition_format.specs.Refusals.{Refusal}
use Rattle.definition_format.specs.Document.{each}
use Rattle.definition_format.specs.Denoted.Entries.{TypeNames, name_under, names_under, number_from, later_type}
use Rattle.definition_format.proofs.Soundness.{OnRead, on_bind}
use Rattle.law_reading.proofs.NameProofs.{name_refl}
use Rattle.law_reading.proofs.OverrideProofs.{bytes_same}
use Rattle.law_reading.proofs.ReadAheadProofs.{place_more}

-- what is so of a state and the entries that are left stays so to the end
pub on_rest : {S : Type 0} (P : S → Items → Type 0) (step : ℕ → S → Data → Result S Refusal)
    → ((i : ℕ) (s : S) (d : Data) (ds : Items) → P s (item d ds) → OnRead (λ t. P t ds) (step i s d)) → (i : ℕ) (s : S) (ds : Items) → P s ds
    → OnRead (λ t. P t no_items) (each step i s ds)
unfolding each
on_rest P step keeps i s no_items p = p
on_rest P step keeps i s (item d ds) p =
    on_bind (λ t. P t ds) (λ t. P t no_items) (step i s d) (λ t. each step (i + 1) t ds) (keeps i s d ds p) (λ t q. on_rest P step keeps (i + 1) t ds q)

-- the entries of classes that are left give the numbers
abbrev pub ClassesLeft : TypeNames → List GType → Items → Type 0
ClassesLeft names types ds =
    (name : List ℕ) → find_type types name ≡ None → later_type names name ≡ number_from (length types) (names_under (codes "name") ds) name

-- the entries of interfaces that are left, and then those of classes
abbrev pub InterfacesLeft : TypeNames → List GType → Items → Type 0
InterfacesLeft names types ds =
    (name : List ℕ) → find_type types name ≡ None
    → later_type names name ≡ option_or (number_from (length types) (names_under (codes "name") ds) name)
    (number_from (length types + length (names_under (codes "name") ds)) names.classes name)

-- the type of an entry that is not there yet has the next number
abbrev pub IsNext : TypeNames → List GType → Data → Type 0
IsNext names types d =
    (name : List ℕ) → name_under (codes "name") d ≡ Some name → find_type types name ≡ None → later_type names name ≡ Some (length types)

bytes_itself : (xs : List ℕ) → bytes_eq xs xs ≡ true
bytes_itself [] = refl
bytes_itself (x ∷ xs) = rw (eq-eqb x x refl) (bytes_itself xs)

neither_found : (a : Option ℕ) (b : Bool) (n : ℕ) → option_or a (cond b (Some n) None) ≡ None → (a ≡ None) × (b ≡ false)
neither_found (Some x) b n e = absurd (none-some x (sym e))
neither_found None true n e = absurd (none-some n (sym e))
neither_found None false n e = (refl, refl)

not_called : (own name : List ℕ) → same_name own name ≡ false → bytes_eq own name ≡ false
not_called own name e = by (bytes_eq own name) refl
  where
    by : (b : Bool) → bytes_eq own name ≡ b → bytes_eq own name ≡ false
    by false h = h
    by true h =
        let both : true ≡ false = sym (name_refl own) ∙ ap (same_name own) (bytes_same own name h) ∙ e in absurd (cc)

module _ (names : TypeNames) (types : List GType) (e : Data) (ds : Items) where
  pub is_next : ClassesLeft names types (item e ds) → IsNext names types e
  is_next left name called none =
      left name none ∙ ap (λ own. number_from (length types) (own ∷ names_under (codes "name") ds) name) called
      ∙ ap (λ b. if b then Some (length types) else number_from (suc (length types)) (names_under (codes "name") ds) name) (bytes_itself name)

  module _ (g : GType) (called : name_under (codes "name") e ≡ Some g.name) where
    new_name : (name : List ℕ) → find_type (types ++ g ∷ []) name ≡ None → (find_type types name ≡ None) × (same_name g.name name ≡ false)
    new_name name none =
        neither_found (find_type types name) (same_name g.name name) (0 + length types) (sym (place_more 0 types g name) ∙ none)

    skipped : (k : ℕ) (name : List ℕ) → same_name g.name name ≡ false
        → number_from k (names_under (codes "name") (item e ds)) name ≡ number_from (suc k) (names_under (codes "name") ds) name
    skipped k name other =
        ap (λ own. number_from k (own ∷ names_under (codes "name") ds) name) called
        ∙ ap (λ b. if b then Some k else number_from (suc k) (names_under (codes "name") ds) name) (not_called g.name name other)

    one_longer : suc (length types) ≡ length (types ++ g ∷ [])
    one_longer = let one = length-append types (g ∷ []) in omega (arith, one)

    pub class_left : ClassesLeft names types (item e ds) → ClassesLeft names (types ++ g ∷ []) ds
    class_left left name none =
        let new = new_name name none in
        left name new.0 ∙ skipped (length types) name new.1 ∙ ap (λ n. number_from n (names_under (codes "name") ds) name) one_longer

    pub interface_left : InterfacesLeft names types (item e ds) → InterfacesLeft names (types ++ g ∷ []) ds
    interface_left left name none =
        let new = new_name name none in
        let behind : length types + suc (length (names_under (codes "name") ds)) ≡ length (types ++ g ∷ []) + length (names_under (codes "name") ds) =
        omega (arith, one_longer) in
        left name new.0
        ∙ ap (λ o. option_or o (number_from (length types + suc (length (names_under (codes "name") ds))) names.classes name)) (skipped (length types) name new.1)
        ∙ ap (λ n. option_or (number_from n (names_under (codes "name") ds) name)
        (number_from (length types + suc (length (names_under (codes "name") ds))) names.classes name)) one_longer
        ∙ ap (λ n. option_or (number_from (length (types ++ g ∷ [])) (names_under (codes "name") ds) name) (number_from n names.classes name)) behind

-- where no entry of an interface is left, those of classes are
pub no_interface_left : (names : TypeNames) (types : List GType) (ds : Items) → names.classes ≡ names_under (codes "name") ds
    → InterfacesLeft names types no_items → ClassesLeft names types ds
no_interface_left names types ds is left name none =
    let at : length types + 0 ≡ length types = omega arith in
    left name none ∙ ap (λ n. number_from n names.classes name) at ∙ ap (λ ns. number_from (length types) ns name) is
