-- The shapes that the types of a definition name: none has one where its parent has one, so what a type is passes its shape on.
use Rattle.std.proofs.Common.{◌≡◌, ℕ, suc, ◌<◌, ◌≤◌, Bool, true, false, ◌||◌, nat_eq, is_some, arith, List, [], ◌∷◌, ◌++◌, length, Option, None, Some, codes, refl, sym, ap, ◌∙◌, inl, inr, ◌⊎◌, length-append}
use Rattle.std.specs.Prelude.{if◌then◌else◌}
use Rattle.std.specs.List.{list_any}
use Rattle.std.proofs.lemmas.Bool.{cases_lt, eqb-true}
use Rattle.std.proofs.lemmas.Bool.Decides.{nat_tests}
use Rattle.std.proofs.lemmas.Option.{none-some}
use Rattle.serde_json.specs.Data.{Data}
use Rattle.serde_json.specs.Find.{get}
use Rattle.ui_machine.specs.Definition.Signals.{Shape}
use Rattle.ui_machine.specs.Definition.Types.{GType}
use Rattle.ui_machine.specs.Definition.Types as sorts
use Rattle.ui_machine.specs.Output.Text.{no_type}
use Rattle.ui_machine.specs.Rules.Ancestry.{implemented_by, is_a, is_or_implements, parent_of}
use Rattle.ui_machine.specs.Rules.EmissionPlan.{first_given, or_else}
use Rattle.type_tree.specs.Adding.{sort_of}
use Rattle.type_tree.specs.Tree.{IsTree}
use Rattle.type_tree.proofs.Entries.{read-front}
use Rattle.type_tree.proofs.Lines.{line_from-parent, line_from-root, parent_within}
use Rattle.definition_format.specs.Refusals.{unknown, or_refused}
use Rattle.definition_format.specs.Document.{under}
use Rattle.definition_format.specs.Denoted.Constructed.{add_program, set_program}
use Rattle.definition_format.specs.Denoted.Enums.{name_at, unless_there}
use Rattle.definition_format.specs.Denoted.Shapes.{is_shaped_by, named_shape, named_shape_or, shape_by, shape_number, shaped_at}
use Rattle.definition_format.proofs.Soundness.{OnRead, on_bind, on_all}
use Rattle.law_reading.proofs.Ancestors.{Implements, along, is_interface, parent_past, reached}

-- what is so of the shapes that the types that were read name themselves
pub record AreShaped (types : List GType) (own : ℕ → Option ℕ) : Type 0 where
  -- no type that is not there names one
  pub past : (t : ℕ) → length types ≤ t → own t ≡ None
  -- nor does an interface
  pub classes : (t : ℕ) → sort_of types t ≡ sorts.interface → own t ≡ None
  -- nor does a class whose parent has one
  pub new : (t p shape : ℕ) → parent_of types t ≡ Some p → own t ≡ Some shape → shape_by types own p ≡ None

or_none : (o : Option ℕ) → or_else o None ≡ o
or_none None = refl
or_none (Some n) = refl

second_none : (a b : Option ℕ) → or_else a b ≡ None → b ≡ None
second_none None b e = e
second_none (Some n) b e = absurd (none-some n (sym e))

-- ** the shape of a type

module _ (types : List GType) (tree : IsTree types) (own : ℕ → Option ℕ) where
  pub child_shape : (t p : ℕ) → parent_of types t ≡ Some p → shape_by types own t ≡ or_else (own t) (shape_by types own p)
  child_shape t p e = ap (λ l. or_else (own t) (first_given own l)) (line_from-parent types tree t p e)

  pub root_shape : (t : ℕ) → parent_of types t ≡ None → shape_by types own t ≡ own t
  root_shape t e = ap (λ l. or_else (own t) (first_given own l)) (line_from-root types tree t e) ∙ or_none (own t)

  -- a class has the shape of what it is
  pub shape_passed : Implements types → AreShaped types own → (class type shape : ℕ) → is_a types class type ≡ true
      → shape_by types own type ≡ Some shape → shape_by types own class ≡ Some shape
  shape_passed heirs shaped class type shape is e = reached types tree heirs type (λ a. shape_by types own a ≡ Some shape) here on class is
    where
      none_of : (i : ℕ) → sort_of types i ≡ sorts.interface → shape_by types own i ≡ None
      none_of i s = root_shape i (heirs.root i s) ∙ shaped.classes i s

      here_by : (t : ℕ) (x : Bool) → nat_eq t type ≡ x → (x || list_any (nat_eq type) (implemented_by types t)) ≡ true
          → shape_by types own t ≡ Some shape
      here_by t true x h = ap (shape_by types own) (eqb-true t type x) ∙ e
      here_by t false x h =
          let none = none_of type (is_interface types (implemented_by types t) type (heirs.interfaces t) h) in absurd (none-some shape (sym none ∙ e))

      here : (t : ℕ) → is_or_implements types type t ≡ true → shape_by types own t ≡ Some shape
      here t h = here_by t (nat_eq t type) refl h

      on_by : (t p : ℕ) (o : Option ℕ) → own t ≡ o → parent_of types t ≡ Some p → shape_by types own p ≡ Some shape
          → or_else o (shape_by types own p) ≡ Some shape
      on_by t p None x h above = above
      on_by t p (Some n) x h above = absurd (none-some shape (sym (shaped.new t p n h x) ∙ above))

      on : (t p : ℕ) → parent_of types t ≡ Some p → shape_by types own p ≡ Some shape → shape_by types own t ≡ Some shape
      on t p h above = child_shape t p h ∙ on_by t p (own t) refl h above

-- where no type names a shape
pub none_shaped : (types : List GType) → AreShaped types (λ t. None)
none_shaped types = record {
  past = λ t h. refl;
  classes = λ t s. refl;
  new = λ t p shape e is. absurd (none-some shape is);
}

-- ** a type more

module _ (types : List GType) (g : GType) (tree : IsTree types) (more : IsTree (types ++ g ∷ [])) (own : ℕ → Option ℕ) where
  same_parent : (t : ℕ) → t < length types → parent_of (types ++ g ∷ []) t ≡ parent_of types t
  same_parent t h = ap (λ (x : GType). x.parent) (read-front no_type g types t h)

  front_shape : (t : ℕ) → t < length types → shape_by (types ++ g ∷ []) own t ≡ shape_by types own t
  front_shape = along types tree (λ t. t < length types → shape_by (types ++ g ∷ []) own t ≡ shape_by types own t) root on
    where
      root : (t : ℕ) → parent_of types t ≡ None → t < length types → shape_by (types ++ g ∷ []) own t ≡ shape_by types own t
      root t e h = root_shape (types ++ g ∷ []) more own t (same_parent t h ∙ e) ∙ sym (root_shape types tree own t e)

      on : (t p : ℕ) → parent_of types t ≡ Some p → (p < length types → shape_by (types ++ g ∷ []) own p ≡ shape_by types own p)
          → t < length types → shape_by (types ++ g ∷ []) own t ≡ shape_by types own t
      on t p e rest h =
          child_shape (types ++ g ∷ []) more own t p (same_parent t h ∙ e)
          ∙ ap (or_else (own t)) (rest (parent_within types tree t p e)) ∙ sym (child_shape types tree own t p e)

  pub type_more : AreShaped types own → AreShaped (types ++ g ∷ []) own
  type_more old = record {
    past = λ t h. old.past t (let one = length-append types (g ∷ []) in omega (arith, one, h));
    classes = λ t s. class_by t (cases_lt t (length types)) s;
    new = λ t p shape e is. new_by t p shape (cases_lt t (length types)) e is;
  }
    where
      class_by : (t : ℕ) → (t < length types) ⊎ (length types ≤ t) → sort_of (types ++ g ∷ []) t ≡ sorts.interface → own t ≡ None
      class_by t (inl h) s = old.classes t (sym (ap (λ (x : GType). x.sort) (read-front no_type g types t h)) ∙ s)
      class_by t (inr h) s = old.past t h

      new_by : (t p shape : ℕ) → (t < length types) ⊎ (length types ≤ t) → parent_of (types ++ g ∷ []) t ≡ Some p → own t ≡ Some shape
          → shape_by (types ++ g ∷ []) own p ≡ None
      new_by t p shape (inl h) e is =
          let above : parent_of types t ≡ Some p = sym (same_parent t h) ∙ e in
          front_shape p (parent_within types tree t p above) ∙ old.new t p shape above is
      new_by t p shape (inr h) e is = absurd (none-some shape (sym (old.past t h) ∙ is))

-- ** the last type names a shape

module _ (types : List GType) (tree : IsTree types) (own : ℕ → Option ℕ) (last : ℕ) (is : suc last ≡ length types) where
  module _ (number : ℕ) where
    abbrev named : ℕ → Option ℕ
    named = set_program own last number

    others : (t : ℕ) → nat_eq t last ≡ false → named t ≡ own t
    others t e = ap (λ b. if b then Some number else own t) e

    before_last : (t p : ℕ) → parent_of types t ≡ Some p → nat_eq p last ≡ false
    before_last t p e = by (nat_eq p last) refl (cases_lt t (length types))
      where
        by : (b : Bool) → nat_eq p last ≡ b → (t < length types) ⊎ (length types ≤ t) → nat_eq p last ≡ false
        by false x c = x
        by true x (inl c) = let same = eqb-true p last x in absurd (omega (arith, same, is, c, tree.parents_first t p e))
        by true x (inr c) = absurd (none-some p (sym (parent_past types tree t c) ∙ e))

    other_shapes : (t : ℕ) → nat_eq t last ≡ false → shape_by types named t ≡ shape_by types own t
    other_shapes = along types tree (λ t. nat_eq t last ≡ false → shape_by types named t ≡ shape_by types own t) root on
      where
        root : (t : ℕ) → parent_of types t ≡ None → nat_eq t last ≡ false → shape_by types named t ≡ shape_by types own t
        root t e h = root_shape types tree named t e ∙ others t h ∙ sym (root_shape types tree own t e)

        on : (t p : ℕ) → parent_of types t ≡ Some p → (nat_eq p last ≡ false → shape_by types named p ≡ shape_by types own p)
            → nat_eq t last ≡ false → shape_by types named t ≡ shape_by types own t
        on t p e rest h =
            child_shape types tree named t p e ∙ ap (λ o. or_else o (shape_by types named p)) (others t h)
            ∙ ap (or_else (own t)) (rest (before_last t p e)) ∙ sym (child_shape types tree own t p e)

    last_named : sort_of types last ≡ sorts.class → AreShaped types own → shape_by types own last ≡ None → AreShaped types named
    last_named class old none = record {
      past = λ t h. others t (behind t h) ∙ old.past t h;
      classes = λ t s. class_by t (nat_eq t last) refl s;
      new = λ t p shape e at. other_shapes p (before_last t p e) ∙ new_by t p shape (nat_eq t last) refl e at;
    }
      where
        behind : (t : ℕ) → length types ≤ t → nat_eq t last ≡ false
        behind t h = grind (arith, nat_tests)

        class_by : (t : ℕ) (b : Bool) → nat_eq t last ≡ b → sort_of types t ≡ sorts.interface → named t ≡ None
        class_by t true x s =
            let other : sorts.class ≡ sorts.interface = sym class ∙ ap (sort_of types) (sym (eqb-true t last x)) ∙ s in absurd (cc)
        class_by t false x s = others t x ∙ old.classes t s

        new_by : (t p shape : ℕ) (b : Bool) → nat_eq t last ≡ b → parent_of types t ≡ Some p → named t ≡ Some shape → shape_by types own p ≡ None
        new_by t p shape true x e at =
            let same = eqb-true t last x in
            second_none (own t) (shape_by types own p) (sym (child_shape types tree own t p e) ∙ ap (shape_by types own) same ∙ none)
        new_by t p shape false x e at = old.new t p shape e (sym (others t x) ∙ at)

  unshaped : (path : List ℕ) (o : Option ℕ) → OnRead (λ u. o ≡ None) (unless_there path (is_some o))
  unshaped path None = refl
  unshaped path (Some n) = tt

  -- the shape that an entry names for the last type, which is a class
  pub shaped_read : (path : List ℕ) (shapes : List Shape) (d : Data) → sort_of types last ≡ sorts.class → AreShaped types own
      → OnRead (AreShaped types) (shaped_at path types shapes last own d)
  unfolding shaped_at named_shape
  shaped_read path shapes d class old =
      on_bind (λ number. AreShaped types (add_program own last number)) (AreShaped types)
      (named_shape_or (under path (codes "shape")) shapes (is_shaped_by types own last) (get (codes "shape") d)) _ (one (get (codes "shape") d))
      λ number all. all
    where
      one : (o : Option Data) → OnRead (λ number. AreShaped types (add_program own last number))
          (named_shape_or (under path (codes "shape")) shapes (is_shaped_by types own last) o)
      one None = old
      one (Some x) =
          on_bind (λ u. Unit {0}) (λ number. AreShaped types (add_program own last number)) (name_at (under path (codes "shape")) x) _ (on_all _) λ name u.
          on_bind (λ u. Unit {0}) (λ number. AreShaped types (add_program own last number))
          (or_refused (unknown (under path (codes "shape")) name) (shape_number shapes name)) _ (on_all _) λ number u.
          on_bind (λ u. shape_by types own last ≡ None) (λ number. AreShaped types (add_program own last number))
          (unless_there (under path (codes "shape")) (is_shaped_by types own last)) _ (unshaped (under path (codes "shape")) (shape_by types own last))
          λ new none. last_named number class old none
