-- A class has the properties of the interfaces that it and its ancestors implement.
use Rattle.std.proofs.Common.{◌≡◌, ◌<◌, ◌≤◌, ℕ, suc, Bool, true, false, ◌||◌, nat_eq, arith, List, [], ◌∷◌, ◌++◌, length, Some, slice_get, refl, sym, ap, subst, ◌∙◌, inl, inr, ◌⊎◌, length-append}
use Rattle.std.specs.List.{list_any}
use Rattle.std.proofs.lemmas.Bool.{cases_lt, eqb-true}
use Rattle.ui_machine.specs.Definition.Types.{GType}
use Rattle.ui_machine.specs.Definition.Types as sorts
use Rattle.ui_machine.specs.Definition.Properties.{Spec}
use Rattle.ui_machine.specs.Output.Text.{no_type}
use Rattle.ui_machine.specs.Rules.Ancestry.{parent_of, is_a, is_or_implements, implemented, implemented_by}
use Rattle.type_tree.specs.Tree.{IsTree}
use Rattle.type_tree.specs.Adding.{sort_of}
use Rattle.type_tree.proofs.Entries.{read-past, read-front}
use Rattle.definition_format.specs.Denoted.Properties.{specs_by}
use Rattle.law_reading.proofs.Ancestors.{Implements, is_interface, reached, root_specs, child_specs, unchanged_specs, front_specs}
use Rattle.law_reading.proofs.ListProofs.{get_front}

-- an entry is among these, at some place
abbrev pub Has : {A : Type 0} → List A → A → Type 0
Has xs x = (at : ℕ) × (slice_get xs at ≡ Some x)

-- a type has the properties of each interface that it names
abbrev pub Provides : List GType → (ℕ → List Spec) → ℕ → Type 0
Provides types own t =
    (i : ℕ) → list_any (nat_eq i) (implemented_by types t) ≡ true → (slot : ℕ) (s : Spec) → slice_get (own i) slot ≡ Some s → Has (specs_by types own t) s

module _ (types : List GType) (tree : IsTree types) (heirs : Implements types) (own : ℕ → List Spec)
    (provided : (t : ℕ) → Provides types own t) where
  -- a type has the properties of each type that it is
  pub has_each : (a b : ℕ) → is_a types a b ≡ true → (slot : ℕ) (s : Spec) → slice_get (specs_by types own b) slot ≡ Some s
      → Has (specs_by types own a) s
  has_each a b is slot s e = reached types tree heirs b (λ t. Has (specs_by types own t) s) here child a is
    where
      here_by : (t : ℕ) (x : Bool) → nat_eq t b ≡ x → (x || list_any (nat_eq b) (implemented_by types t)) ≡ true → Has (specs_by types own t) s
      here_by t true x h = (slot, ap (λ u. slice_get (specs_by types own u) slot) (eqb-true t b x) ∙ e)
      here_by t false x h =
          let root = heirs.root b (is_interface types (implemented_by types t) b (heirs.interfaces t) h) in
          provided t b h slot s (ap (λ ss. slice_get ss slot) (sym (root_specs types tree own b root)) ∙ e)

      here : (t : ℕ) → is_or_implements types b t ≡ true → Has (specs_by types own t) s
      here t h = here_by t (nat_eq t b) refl h

      child : (t p : ℕ) → parent_of types t ≡ Some p → Has (specs_by types own p) s → Has (specs_by types own t) s
      child t p up has =
          (has.0, ap (λ ss. slice_get ss has.0) (child_specs types tree own t p up) ∙ get_front (specs_by types own p) (own t) has.0 s has.1)

-- an interface is among the types
pub interface_within : (types : List GType) (i : ℕ) → sort_of types i ≡ sorts.interface → i < length types
interface_within types i e = by (cases_lt i (length types))
  where
    by : (i < length types) ⊎ (length types ≤ i) → i < length types
    by (inl h) = h
    by (inr h) =
        let other : sorts.class ≡ sorts.interface = sym (ap (λ (x : GType). x.sort) (read-past no_type types i h)) ∙ e in absurd (cc)

-- a type more, which alone has its own properties changed
module _ (types : List GType) (g : GType) (tree : IsTree types) (more : IsTree (types ++ g ∷ [])) (heirs : Implements types)
    (own changed : ℕ → List Spec) (past : (t : ℕ) → length types ≤ t → own t ≡ [])
    (same : (u : ℕ) → nat_eq u (length types) ≡ false → changed u ≡ own u) where
  pub one_longer : suc (length types) ≡ length (types ++ g ∷ [])
  one_longer = let one = length-append types (g ∷ []) in omega (arith, one)

  less : (t n : ℕ) → t < n → nat_eq t n ≡ false
  less t n h = by (nat_eq t n) refl
    where
      by : (b : Bool) → nat_eq t n ≡ b → nat_eq t n ≡ false
      by true e = let same = eqb-true t n e in absurd (omega (arith, same, h))
      by false e = e

  -- the types before it have the properties that they had
  pub kept_specs : (t : ℕ) → t < length types → specs_by (types ++ g ∷ []) changed t ≡ specs_by types own t
  kept_specs t h =
      unchanged_specs (types ++ g ∷ []) more own changed (length types) one_longer same t (less t (length types) h)
      ∙ front_specs types g tree more own past t h

  -- and each interface among them has its own
  pub kept_own : (i : ℕ) → sort_of types i ≡ sorts.interface → changed i ≡ own i
  kept_own i e = same i (less i (length types) (interface_within types i e))

  before : (t : ℕ) → t < length types → Provides types own t → Provides (types ++ g ∷ []) changed t
  before t h old i named slot s e =
      let here : list_any (nat_eq i) (implemented_by types t) ≡ true =
      ap (λ (x : GType). list_any (nat_eq i) (implemented x.sort x.interfaces)) (sym (read-front no_type g types t h)) ∙ named in
      let kept = kept_own i (is_interface types (implemented_by types t) i (heirs.interfaces t) here) in
      let has = old i here slot s (ap (λ ss. slice_get ss slot) (sym kept) ∙ e) in
      (has.0, ap (λ ss. slice_get ss has.0) (kept_specs t h) ∙ has.1)

  behind : (t : ℕ) → length (types ++ g ∷ []) ≤ t → Provides (types ++ g ∷ []) changed t
  behind t h i named slot s e =
      let none : false ≡ true =
      ap (λ (x : GType). list_any (nat_eq i) (implemented x.sort x.interfaces)) (sym (read-past no_type (types ++ g ∷ []) t h)) ∙ named in absurd (cc)

  -- where the new type provides what it names, all do
  pub all_provide : ((t : ℕ) → Provides types own t) → Provides (types ++ g ∷ []) changed (length types) → (t : ℕ)
      → Provides (types ++ g ∷ []) changed t
  all_provide old new t = by (cases_lt t (length types)) (cases_lt (length types) t)
    where
      by : (t < length types) ⊎ (length types ≤ t) → (length types < t) ⊎ (t ≤ length types) → Provides (types ++ g ∷ []) changed t
      by (inl h) d = before t h (old t)
      by (inr h) (inl d) = behind t (omega (arith, one_longer, d))
      by (inr h) (inr d) =
          let here : length types ≡ t = omega (arith, h, d) in
          subst (Provides (types ++ g ∷ []) changed) here new
