-- Ancestors and implemented interfaces, and the properties that ancestors pass on.
use Rattle.std.proofs.Common.{◌≡◌, ◌<◌, ◌≤◌, ℕ, zero, suc, Bool, true, false, ◌||◌, nat_eq, arith, List, [], ◌∷◌, ◌++◌, length, reverse, Option, None, Some, refl, sym, ap, subst, ◌∙◌, inl, inr, ◌⊎◌, cond}
use Rattle.std.specs.List.{flat_map, list_any}
use Rattle.std.proofs.lemmas.Bool.{cases_lt, eqb-true, eq-eqb}
use Rattle.std.proofs.lemmas.Grind.{flat_map-append}
use Rattle.std.proofs.lemmas.List.{reverse-append, append-nil, append_assoc}
use Rattle.std.proofs.lemmas.Option.{none-some}
use Rattle.ui_machine.specs.Seq.{read}
use Rattle.ui_machine.specs.Definition.Types.{GType}
use Rattle.ui_machine.specs.Definition.Types as sorts
use Rattle.ui_machine.specs.Definition.Properties.{Spec}
use Rattle.ui_machine.specs.Output.Text.{no_type}
use Rattle.ui_machine.specs.Rules.Ancestry.{parent_of, lineage, is_a, is_or_implements, implemented, implemented_by}
use Rattle.type_tree.specs.Tree.{IsTree}
use Rattle.type_tree.specs.Adding.{sort_of}
use Rattle.type_tree.proofs.Lines.{parent_within, line_from-parent, line_from-root, is_a-here, is_a-up, is_a-root}
use Rattle.type_tree.proofs.Entries.{read-past, read-front}
use Rattle.definition_format.specs.Denoted.Properties.{specs_by, add_own}

-- these are interfaces
abbrev pub AreInterfaces : List GType → List ℕ → Type 0
AreInterfaces types [] = Unit {0}
AreInterfaces types (i ∷ is) = (sort_of types i ≡ sorts.interface) × AreInterfaces types is

-- what a class implements are interfaces, and these have no parent
pub record Implements (types : List GType) : Type 0 where
  pub root : (t : ℕ) → sort_of types t ≡ sorts.interface → parent_of types t ≡ None
  pub interfaces : (t : ℕ) → AreInterfaces types (implemented_by types t)

pub is_interface : (types : List GType) (is : List ℕ) (i : ℕ) → AreInterfaces types is → list_any (nat_eq i) is ≡ true → sort_of types i ≡ sorts.interface
is_interface types [] i all h = absurd (cc)
is_interface types (j ∷ is) i all h = by (nat_eq i j) refl h (is_interface types is i all.1)
  where
    by : (b : Bool) → nat_eq i j ≡ b → (b || list_any (nat_eq i) is) ≡ true → (list_any (nat_eq i) is ≡ true → sort_of types i ≡ sorts.interface)
        → sort_of types i ≡ sorts.interface
    by true e g rest = ap (sort_of types) (eqb-true i j e) ∙ all.0
    by false e g rest = rest g

or_false : (b : Bool) → (b || false) ≡ b
or_false true = refl
or_false false = refl

-- what the last of some types has comes last, where they are taken from the root down
pub last_own : {A : Type 0} (own : ℕ → List A) (ts : List ℕ) (t : ℕ) → flat_map own (reverse (t ∷ ts)) ≡ flat_map own (reverse ts) ++ own t
last_own own ts t =
    ap (flat_map own) (reverse-append (t ∷ []) ts) ∙ flat_map-append own (reverse ts) (t ∷ [])
    ∙ ap (λ l. flat_map own (reverse ts) ++ l) (append-nil (own t))

module _ (types : List GType) (tree : IsTree types) where
  -- what is so of a type without parent, and of each child of a type of which it is so, is so of all
  pub along : (P : ℕ → Type 0) → ((t : ℕ) → parent_of types t ≡ None → P t)
      → ((t p : ℕ) → parent_of types t ≡ Some p → P p → P t) → (t : ℕ) → P t
  along P root child t = below (suc t) t (omega arith)
    where
      by : (n t : ℕ) (o : Option ℕ) → t < suc n → parent_of types t ≡ o → ((u : ℕ) → u < n → P u) → P t
      by n t None h e less = root t e
      by n t (Some p) h e less = child t p e (less p (omega (arith, tree.parents_first t p e, h)))

      below : (n t : ℕ) → t < n → P t
      below zero t h = absurd (omega arith)
      below (suc n) t h = by n t (parent_of types t) h refl (below n)

  -- ** what is what

  module _ (heirs : Implements types) where
    -- an interface is only itself
    interface_is : (i b : ℕ) → sort_of types i ≡ sorts.interface → is_a types i b ≡ true → nat_eq i b ≡ true
    interface_is i b e h = by (nat_eq i b) refl
      where
        itself : is_or_implements types b i ≡ nat_eq i b
        itself = ap (λ s. nat_eq i b || list_any (nat_eq b) (implemented s (read no_type types i).interfaces)) e ∙ or_false (nat_eq i b)

        by : (x : Bool) → nat_eq i b ≡ x → nat_eq i b ≡ true
        by true x = x
        by false x = let no = is_a-root types tree i b (itself ∙ x) (heirs.root i e) in absurd (cc)

    -- what is so of a type and of all that implement it, and passes on to children, is so of all that are it
    pub reached : (b : ℕ) (P : ℕ → Type 0) → ((t : ℕ) → is_or_implements types b t ≡ true → P t) → ((t p : ℕ) → parent_of types t ≡ Some p → P p → P t) → (a : ℕ)
        → is_a types a b ≡ true → P a
    reached b P here child = along (λ a. is_a types a b ≡ true → P a) root on
      where
        root_by : (t : ℕ) (x : Bool) → is_or_implements types b t ≡ x → parent_of types t ≡ None → is_a types t b ≡ true → P t
        root_by t true x e h = here t x
        root_by t false x e h = let no = is_a-root types tree t b x e in absurd (cc)

        root : (t : ℕ) → parent_of types t ≡ None → is_a types t b ≡ true → P t
        root t e h = root_by t (is_or_implements types b t) refl e h

        on_by : (t p : ℕ) (x : Bool) → is_or_implements types b t ≡ x → parent_of types t ≡ Some p → (is_a types p b ≡ true → P p)
            → is_a types t b ≡ true → P t
        on_by t p true x e rest h = here t x
        on_by t p false x e rest h = child t p e (rest (sym (is_a-up types tree t b p x e) ∙ h))

        on : (t p : ℕ) → parent_of types t ≡ Some p → (is_a types p b ≡ true → P p) → is_a types t b ≡ true → P t
        on t p e rest h = on_by t p (is_or_implements types b t) refl e rest h

    pub transitive : (a b c : ℕ) → is_a types a b ≡ true → is_a types b c ≡ true → is_a types a c ≡ true
    transitive a b c h g = reached b (λ a. is_a types a c ≡ true) here up a h
      where
        here_by : (t : ℕ) (x : Bool) → nat_eq t b ≡ x → (x || list_any (nat_eq b) (implemented_by types t)) ≡ true → is_a types t c ≡ true
        here_by t true x e = ap (λ u. is_a types u c) (eqb-true t b x) ∙ g
        here_by t false x e =
            let same : b ≡ c = eqb-true b c (interface_is b c (is_interface types (implemented_by types t) b (heirs.interfaces t) e) g) in
            let found : is_or_implements types b t ≡ true = ap (λ y. y || list_any (nat_eq b) (implemented_by types t)) x ∙ e in
            is_a-here types tree t c (subst (λ u. is_or_implements types u t ≡ true) same found)

        here : (t : ℕ) → is_or_implements types b t ≡ true → is_a types t c ≡ true
        here t e = here_by t (nat_eq t b) refl e

        up_by : (t p : ℕ) (x : Bool) → is_or_implements types c t ≡ x → parent_of types t ≡ Some p → is_a types p c ≡ true
            → is_a types t c ≡ true
        up_by t p true x e h = is_a-here types tree t c x
        up_by t p false x e h = is_a-up types tree t c p x e ∙ h

        up : (t p : ℕ) → parent_of types t ≡ Some p → is_a types p c ≡ true → is_a types t c ≡ true
        up t p e h = up_by t p (is_or_implements types c t) refl e h

  -- ** properties

  pub child_specs : (own : ℕ → List Spec) (t p : ℕ) → parent_of types t ≡ Some p → specs_by types own t ≡ specs_by types own p ++ own t
  child_specs own t p e = ap (λ l. flat_map own (reverse (t ∷ l))) (line_from-parent types tree t p e) ∙ last_own own (lineage types p) t

  pub root_specs : (own : ℕ → List Spec) (t : ℕ) → parent_of types t ≡ None → specs_by types own t ≡ own t
  root_specs own t e = ap (λ l. flat_map own (reverse (t ∷ l))) (line_from-root types tree t e) ∙ append-nil (own t)

  -- a class begins with the properties of each class that it is
  pub begins : (heirs : Implements types) (own : ℕ → List Spec) (c t : ℕ) → sort_of types t ≡ sorts.class → is_a types c t ≡ true
      → (rest : List Spec) × (specs_by types own c ≡ specs_by types own t ++ rest)
  begins heirs own c t class h =
      reached heirs t (λ a. (rest : List Spec) × (specs_by types own a ≡ specs_by types own t ++ rest)) here on c h
    where
      here_by : (u : ℕ) (x : Bool) → nat_eq u t ≡ x → (x || list_any (nat_eq t) (implemented_by types u)) ≡ true
          → (rest : List Spec) × (specs_by types own u ≡ specs_by types own t ++ rest)
      here_by u true x e = ([], ap (specs_by types own) (eqb-true u t x) ∙ sym (append-nil _))
      here_by u false x e =
          let other : sorts.class ≡ sorts.interface = sym class ∙ is_interface types (implemented_by types u) t (heirs.interfaces u) e in absurd (cc)

      here : (u : ℕ) → is_or_implements types t u ≡ true → (rest : List Spec) × (specs_by types own u ≡ specs_by types own t ++ rest)
      here u e = here_by u (nat_eq u t) refl e

      on : (u p : ℕ) → parent_of types u ≡ Some p → ((rest : List Spec) × (specs_by types own p ≡ specs_by types own t ++ rest))
          → (rest : List Spec) × (specs_by types own u ≡ specs_by types own t ++ rest)
      on u p e so = (so.0 ++ own u, child_specs own u p e ∙ ap (λ l. l ++ own u) so.1 ∙ append_assoc (specs_by types own t) so.0 (own u))

  -- past the last type there is no parent
  pub parent_past : (t : ℕ) → length types ≤ t → parent_of types t ≡ None
  parent_past t h = ap (λ (g : GType). g.parent) (read-past no_type types t h)

  -- where only the last type's own properties change, the other types have theirs
  module _ (own changed : ℕ → List Spec) (last : ℕ) (is : suc last ≡ length types)
      (same : (u : ℕ) → nat_eq u last ≡ false → changed u ≡ own u) where
    before_last : (t p : ℕ) → parent_of types t ≡ Some p → nat_eq p last ≡ false
    before_last t p e = by (nat_eq p last) refl (cases_lt t (length types))
      where
        by : (b : Bool) → nat_eq p last ≡ b → (t < length types) ⊎ (length types ≤ t) → nat_eq p last ≡ false
        by false x c = x
        by true x (inl c) = let same = eqb-true p last x in absurd (omega (arith, same, is, c, tree.parents_first t p e))
        by true x (inr c) = absurd (none-some p (sym (parent_past t c) ∙ e))

    pub unchanged_specs : (t : ℕ) → nat_eq t last ≡ false → specs_by types changed t ≡ specs_by types own t
    unchanged_specs = along (λ t. nat_eq t last ≡ false → specs_by types changed t ≡ specs_by types own t) root on
      where
        root : (t : ℕ) → parent_of types t ≡ None → nat_eq t last ≡ false → specs_by types changed t ≡ specs_by types own t
        root t e h = root_specs changed t e ∙ same t h ∙ sym (root_specs own t e)

        on : (t p : ℕ) → parent_of types t ≡ Some p → (nat_eq p last ≡ false → specs_by types changed p ≡ specs_by types own p)
            → nat_eq t last ≡ false → specs_by types changed t ≡ specs_by types own t
        on t p e rest h =
            child_specs changed t p e ∙ ap (λ l. l ++ changed t) (rest (before_last t p e)) ∙ ap (λ l. specs_by types own p ++ l) (same t h)
            ∙ sym (child_specs own t p e)

  -- the last type gets a property: it comes last among its own, and the others have theirs
  module _ (own : ℕ → List Spec) (last : ℕ) (is : suc last ≡ length types) (spec : Spec) where
    pub others : (u : ℕ) → nat_eq u last ≡ false → add_own own last spec u ≡ own u
    others u e = ap (λ b. cond b (own u ++ spec ∷ []) (own u)) e

    pub itself : add_own own last spec last ≡ own last ++ spec ∷ []
    itself = ap (λ b. cond b (own last ++ spec ∷ []) (own last)) (eq-eqb last last refl)

    pub other_specs : (t : ℕ) → nat_eq t last ≡ false → specs_by types (add_own own last spec) t ≡ specs_by types own t
    other_specs = unchanged_specs own (add_own own last spec) last is others

    pub last_specs : specs_by types (add_own own last spec) last ≡ specs_by types own last ++ spec ∷ []
    last_specs = by (parent_of types last) refl
      where
        by : (o : Option ℕ) → parent_of types last ≡ o → specs_by types (add_own own last spec) last ≡ specs_by types own last ++ spec ∷ []
        by None e = root_specs (add_own own last spec) last e ∙ itself ∙ ap (λ l. l ++ spec ∷ []) (sym (root_specs own last e))
        by (Some p) e =
            let less : nat_eq p last ≡ false = by_lt (nat_eq p last) refl (tree.parents_first last p e) in
            child_specs (add_own own last spec) last p e ∙ ap (λ l. l ++ add_own own last spec last) (other_specs p less)
            ∙ ap (λ l. specs_by types own p ++ l) itself ∙ sym (append_assoc (specs_by types own p) (own last) (spec ∷ []))
            ∙ ap (λ l. l ++ spec ∷ []) (sym (child_specs own last p e))
          where
            by_lt : (b : Bool) → nat_eq p last ≡ b → p < last → nat_eq p last ≡ false
            by_lt false x h = x
            by_lt true x h = let same = eqb-true p last x in absurd (omega (arith, same, h))

-- ** a type more

module _ (types : List GType) (g : GType) (tree : IsTree types) (more : IsTree (types ++ g ∷ [])) (own : ℕ → List Spec)
    (past : (t : ℕ) → length types ≤ t → own t ≡ []) where
  parent_front : (t : ℕ) → t < length types → parent_of (types ++ g ∷ []) t ≡ parent_of types t
  parent_front t h = ap (λ (x : GType). x.parent) (read-front no_type g types t h)

  pub front_specs : (t : ℕ) → t < length types → specs_by (types ++ g ∷ []) own t ≡ specs_by types own t
  front_specs = along types tree (λ t. t < length types → specs_by (types ++ g ∷ []) own t ≡ specs_by types own t) root on
    where
      root : (t : ℕ) → parent_of types t ≡ None → t < length types → specs_by (types ++ g ∷ []) own t ≡ specs_by types own t
      root t e h = root_specs (types ++ g ∷ []) more own t (parent_front t h ∙ e) ∙ sym (root_specs types tree own t e)

      on : (t p : ℕ) → parent_of types t ≡ Some p → (p < length types → specs_by (types ++ g ∷ []) own p ≡ specs_by types own p)
          → t < length types → specs_by (types ++ g ∷ []) own t ≡ specs_by types own t
      on t p e rest h =
          child_specs (types ++ g ∷ []) more own t p (parent_front t h ∙ e) ∙ ap (λ l. l ++ own t) (rest (parent_within types tree t p e))
          ∙ sym (child_specs types tree own t p e)

  -- the properties of each type are those of a type that was there, or none
  pub specs_before : (P : List Spec → Type 0) → P [] → ((t : ℕ) → P (specs_by types own t)) → (t : ℕ) → P (specs_by (types ++ g ∷ []) own t)
  specs_before P nil old t = along (types ++ g ∷ []) more (λ t. P (specs_by (types ++ g ∷ []) own t)) root on t
    where
      root_by : (t : ℕ) → (t < length types) ⊎ (length types ≤ t) → parent_of (types ++ g ∷ []) t ≡ None
          → P (specs_by (types ++ g ∷ []) own t)
      root_by t (inl h) e = subst P (sym (front_specs t h)) (old t)
      root_by t (inr h) e = subst P (sym (root_specs (types ++ g ∷ []) more own t e ∙ past t h)) nil

      root : (t : ℕ) → parent_of (types ++ g ∷ []) t ≡ None → P (specs_by (types ++ g ∷ []) own t)
      root t e = root_by t (cases_lt t (length types)) e

      on_by : (t p : ℕ) → (t < length types) ⊎ (length types ≤ t) → parent_of (types ++ g ∷ []) t ≡ Some p
          → P (specs_by (types ++ g ∷ []) own p)
          → P (specs_by (types ++ g ∷ []) own t)
      on_by t p (inl h) e before = subst P (sym (front_specs t h)) (old t)
      on_by t p (inr h) e before =
          subst P (sym (child_specs (types ++ g ∷ []) more own t p e ∙ ap (λ xs. specs_by (types ++ g ∷ []) own p ++ xs) (past t h)
          ∙ append-nil _)) before

      on : (t p : ℕ) → parent_of (types ++ g ∷ []) t ≡ Some p → P (specs_by (types ++ g ∷ []) own p) → P (specs_by (types ++ g ∷ []) own t)
      on t p e before = on_by t p (cases_lt t (length types)) e before
