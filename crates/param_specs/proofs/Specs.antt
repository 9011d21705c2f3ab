-- The specs of a type beside those of its parent.
use Rattle.std.specs.Rc.{rc_str_bytes}
use Rattle.std.proofs.Common.{◌≡◌, ℕ, zero, suc, ◌+◌, ◌<◌, ◌≤◌, List, [], ◌∷◌, ◌++◌, length, map, reverse, get_or, Option, None, Some, option_map, string_bytes, slice_get, position, Bool, true, false, cond, subst, ◌-◌, add-one, refl, sym, ap, ◌∙◌, arith, length-append, append-nil}
use Rattle.std.proofs.lemmas.List.{length-map, reverse-append}
use Rattle.type_tree.proofs.Entries.{read-past}
use Rattle.std.specs.List.{flat_map}
use Rattle.std.proofs.lemmas.Grind.{flat_map-append}
use Rattle.std.specs.List.{position_from}
use Rattle.std.proofs.lemmas.Iterator.Adapters.{position_from-zero}
use Rattle.std.proofs.lemmas.Option.{none-some}
use Rattle.ui_machine.specs.Seq.{read}
use Rattle.ui_machine.specs.Definition.Names.{same_name, canonical, place_from, place_named}
use Rattle.param_specs.specs.declared.spec.Spec as Entry
use Rattle.param_specs.specs.View.{spec_view}
use Rattle.ui_machine.specs.Definition.Types.{GType}
use Rattle.ui_machine.specs.Rules.Ancestry.{parent_of, lineage, line_from}
use Rattle.ui_machine.specs.Definition.Properties.{Spec}
use Rattle.type_tree.specs.Tree.{IsTree}
use Rattle.type_tree.proofs.Lines.{line_from-parent, line_from-root}
use Rattle.param_specs.specs.Table.{own_of, specs_of, slot_named}

-- what is at i, where a list was mapped
pub read-map : {A B : Type 0} (f : A → B) (d : B) (e : A) (xs : List A) (i : ℕ) → i < length xs → read d (map f xs) i ≡ f (get_or xs i e)
read-map f d e [] i h = absurd (omega arith)
read-map f d e (x ∷ xs) zero h = refl
read-map f d e (x ∷ xs) (suc i) h = read-map f d e xs i (omega arith)

pub read-map-past : {A B : Type 0} (f : A → B) (d : B) (xs : List A) (i : ℕ) → length xs ≤ i → read d (map f xs) i ≡ d
read-map-past f d xs i h = read-past d (map f xs) i (rw (length-map xs f) h)

flat_map-last : (own : ℕ → List Spec) (ts : List ℕ) (t : ℕ) → flat_map own (reverse (t ∷ ts)) ≡ flat_map own (reverse ts) ++ own t
flat_map-last own ts t =
    ap (flat_map own) (reverse-append (t ∷ []) ts) ∙ flat_map-append own (reverse ts) (t ∷ []) ∙ ap (λ l. flat_map own (reverse ts) ++ l) (append-nil (own t))

slice_get-front : {A : Type 0} (xs ys : List A) (i : ℕ) → i < length xs → slice_get (xs ++ ys) i ≡ slice_get xs i
slice_get-front [] ys i h = absurd (omega arith)
slice_get-front (x ∷ xs) ys zero h = refl
slice_get-front (x ∷ xs) ys (suc i) h = slice_get-front xs ys i (omega arith)

slice_get-back : {A : Type 0} (xs ys : List A) (i : ℕ) → length xs ≤ i → slice_get (xs ++ ys) i ≡ slice_get ys (i - length xs)
slice_get-back [] ys i h = ap (slice_get ys) (omega arith)
slice_get-back (x ∷ xs) ys zero h = absurd (omega arith)
slice_get-back (x ∷ xs) ys (suc i) h = slice_get-back xs ys i (omega arith) ∙ ap (slice_get ys) (omega arith)

-- the element that was found, mapped
pub slice_get-mapped : {A B : Type 0} (f : A → B) (xs : List A) (i : ℕ) (x : A) → slice_get xs i ≡ Some x → slice_get (map f xs) i ≡ Some (f x)
slice_get-mapped f [] i x h = absurd (cc)
slice_get-mapped f (y ∷ xs) zero x h = let e : y ≡ x = cc in ap (λ z. Some (f z)) e
slice_get-mapped f (y ∷ xs) (suc i) x h = slice_get-mapped f xs i x h

place_from-front : (i slot : ℕ) (xs ys : List Spec) (name : List ℕ) → place_from (λ s. s.name) i xs name ≡ Some slot → place_from (λ s. s.name) i (xs ++ ys) name ≡ Some slot
place_from-front i slot [] ys name h = absurd (none-some slot h)
place_from-front i slot (x ∷ xs) ys name h = by (same_name x.name name) h (place_from-front (suc i) slot xs ys name)
  where
    by : (b : Bool) → cond b (Some i) (place_from (λ s. s.name) (suc i) xs name) ≡ Some slot
        → (place_from (λ s. s.name) (suc i) xs name ≡ Some slot → place_from (λ s. s.name) (suc i) (xs ++ ys) name ≡ Some slot)
        → cond b (Some i) (place_from (λ s. s.name) (suc i) (xs ++ ys) name) ≡ Some slot
    by true e rest = e
    by false e rest = rest e

place_from-back : (i : ℕ) (xs ys : List Spec) (name : List ℕ) → place_from (λ s. s.name) i xs name ≡ None
    → place_from (λ s. s.name) i (xs ++ ys) name ≡ place_from (λ s. s.name) (i + length xs) ys name
place_from-back i [] ys name h = ap (λ k. place_from (λ s. s.name) k ys name) (omega arith)
place_from-back i (x ∷ xs) ys name h =
    by (same_name x.name name) h (place_from-back (suc i) xs ys name) ∙ ap (λ k. place_from (λ s. s.name) k ys name) (omega arith)
  where
    by : (b : Bool) → cond b (Some i) (place_from (λ s. s.name) (suc i) xs name) ≡ None
        → (place_from (λ s. s.name) (suc i) xs name ≡ None → place_from (λ s. s.name) (suc i) (xs ++ ys) name ≡ place_from (λ s. s.name) (suc i + length xs) ys name)
        → cond b (Some i) (place_from (λ s. s.name) (suc i) (xs ++ ys) name) ≡ place_from (λ s. s.name) (suc i + length xs) ys name
    by true e rest = absurd (none-some i (sym e))
    by false e rest = rest e

place_from-shift : (n i : ℕ) (ys : List Spec) (name : List ℕ) → place_from (λ s. s.name) (i + n) ys name ≡ option_map (λ k. n + k) (place_from (λ s. s.name) i ys name)
place_from-shift n i [] name = refl
place_from-shift n i (y ∷ ys) name =
    ap (λ k. cond (same_name y.name name) (Some k) (place_from (λ s. s.name) (suc (i + n)) ys name)) (omega arith)
    ∙ ap (λ k. cond (same_name y.name name) (Some (n + i)) (place_from (λ s. s.name) k ys name)) (omega arith)
    ∙ ap (cond (same_name y.name name) (Some (n + i))) (place_from-shift n (suc i) ys name) ∙ by (same_name y.name name)
  where
    by : (b : Bool) → cond b (Some (n + i)) (option_map (λ k. n + k) (place_from (λ s. s.name) (suc i) ys name)) ≡ option_map (λ k. n + k) (cond b (Some i) (place_from (λ s. s.name) (suc i) ys name))
    by true = refl
    by false = refl

-- where specs of these names are, as a place in the pure specs
pub slot-position : (specs : List Entry.Spec) (name : List ℕ) (r : Option ℕ) (own : List Spec) → map spec_view specs ≡ own
    → r ≡ position (λ s. same_name (rc_str_bytes s.name) (canonical name)) specs → r ≡ slot_named own name
slot-position specs name r own m h =
    h ∙ position_from-zero _ specs ∙ at 0 specs ∙ ap (λ l. slot_named l name) m
  where
    at : (i : ℕ) (xs : List Entry.Spec) → position_from (λ s. same_name (rc_str_bytes s.name) (canonical name)) i xs ≡ place_from (λ s. s.name) i (map spec_view xs) (canonical name)
    at i [] = refl
    at i (x ∷ xs) =
        ap (λ k. cond (same_name (rc_str_bytes x.name) (canonical name)) (Some i) (position_from (λ s. same_name (rc_str_bytes s.name) (canonical name)) k xs)) (add-one i)
        ∙ ap (cond (same_name (rc_str_bytes x.name) (canonical name)) (Some i)) (at (suc i) xs)

module _ (types : List GType) (tree : IsTree types) (table : List (List Spec)) where
  pub specs_of-child : (t p : ℕ) → parent_of types t ≡ Some p → specs_of types table t ≡ specs_of types table p ++ own_of table t
  unfolding specs_of
  specs_of-child t p h =
      ap (λ l. flat_map (own_of table) (reverse (t ∷ l))) (line_from-parent types tree t p h) ∙ flat_map-last (own_of table) (lineage types p) t

  pub specs_of-root : (t : ℕ) → parent_of types t ≡ None → specs_of types table t ≡ own_of table t
  unfolding specs_of
  specs_of-root t h =
      ap (λ l. flat_map (own_of table) (reverse (t ∷ l))) (line_from-root types tree t h) ∙ append-nil (own_of table t)

  pub count-child : (t p n : ℕ) (own : List Spec) → parent_of types t ≡ Some p → n ≡ length (specs_of types table p) → own ≡ own_of table t
      → n + length own ≡ length (specs_of types table t)
  count-child t p n own h e f =
      ap (λ k. k + length own) e ∙ ap (λ l. length (specs_of types table p) + length l) f ∙ sym (length-append (specs_of types table p) (own_of table t)) ∙ ap length (sym (specs_of-child t p h))

  pub count-root : (t : ℕ) (own : List Spec) → parent_of types t ≡ None → own ≡ own_of table t → length own ≡ length (specs_of types table t)
  count-root t own h f = ap length f ∙ ap length (sym (specs_of-root t h))

  pub spec-inherited : (t p slot : ℕ) (s : Spec) → parent_of types t ≡ Some p → slot < length (specs_of types table p)
      → slice_get (specs_of types table p) slot ≡ Some s → slice_get (specs_of types table t) slot ≡ Some s
  spec-inherited t p slot s h l e = ap (λ x. slice_get x slot) (specs_of-child t p h) ∙ slice_get-front (specs_of types table p) (own_of table t) slot l ∙ e

  pub spec-own : (t p slot n : ℕ) (s : Spec) → parent_of types t ≡ Some p → n ≡ length (specs_of types table p) → n ≤ slot
      → slice_get (own_of table t) (slot - n) ≡ Some s → slice_get (specs_of types table t) slot ≡ Some s
  spec-own t p slot n s h c l e =
      ap (λ x. slice_get x slot) (specs_of-child t p h)
      ∙ slice_get-back (specs_of types table p) (own_of table t) slot (subst (λ k. k ≤ slot) c l) ∙ ap (λ k. slice_get (own_of table t) (slot - k)) (sym c) ∙ e

  pub spec-root : (t slot : ℕ) (s : Spec) → parent_of types t ≡ None → slice_get (own_of table t) slot ≡ Some s → slice_get (specs_of types table t) slot ≡ Some s
  spec-root t slot s h e = ap (λ x. slice_get x slot) (specs_of-root t h) ∙ e

  pub slot-inherited : (t p slot : ℕ) (name : List ℕ) → parent_of types t ≡ Some p → slot_named (specs_of types table p) name ≡ Some slot → slot_named (specs_of types table t) name ≡ Some slot
  slot-inherited t p slot name h e = ap (λ x. slot_named x name) (specs_of-child t p h) ∙ place_from-front 0 slot (specs_of types table p) (own_of table t) (canonical name) e

  pub slot-own : (t p n : ℕ) (name : List ℕ) → parent_of types t ≡ Some p → slot_named (specs_of types table p) name ≡ None → n ≡ length (specs_of types table p)
      → slot_named (specs_of types table t) name ≡ option_map (λ i. n + i) (slot_named (own_of table t) name)
  slot-own t p n name h e c =
      ap (λ x. slot_named x name) (specs_of-child t p h)
      ∙ place_from-back 0 (specs_of types table p) (own_of table t) (canonical name) e
      ∙ ap (λ k. place_from (λ s. s.name) (0 + k) (own_of table t) (canonical name)) (sym c)
      ∙ place_from-shift n 0 (own_of table t) (canonical name)

  pub slot-root : (t : ℕ) (name : List ℕ) → parent_of types t ≡ None → slot_named (specs_of types table t) name ≡ slot_named (own_of table t) name
  slot-root t name h = ap (λ x. slot_named x name) (specs_of-root t h)

none_any : (i j : ℕ) (ys : List Spec) (name : List ℕ) → place_from (λ s. s.name) i ys name ≡ None → place_from (λ s. s.name) j ys name ≡ None
none_any i j [] name h = refl
none_any i j (y ∷ ys) name h = by (same_name y.name name) h (none_any (suc i) (suc j) ys name)
  where
    by : (b : Bool) → cond b (Some i) (place_from (λ s. s.name) (suc i) ys name) ≡ None
        → (place_from (λ s. s.name) (suc i) ys name ≡ None → place_from (λ s. s.name) (suc j) ys name ≡ None)
        → cond b (Some j) (place_from (λ s. s.name) (suc j) ys name) ≡ None
    by true e rest = absurd (none-some i (sym e))
    by false e rest = rest e

none_behind : (i : ℕ) (xs ys : List Spec) (name : List ℕ) → place_from (λ s. s.name) i (xs ++ ys) name ≡ None → place_from (λ s. s.name) 0 ys name ≡ None
none_behind i [] ys name h = none_any i 0 ys name h
none_behind i (x ∷ xs) ys name h = by (same_name x.name name) h (none_behind (suc i) xs ys name)
  where
    by : (b : Bool) → cond b (Some i) (place_from (λ s. s.name) (suc i) (xs ++ ys) name) ≡ None
        → (place_from (λ s. s.name) (suc i) (xs ++ ys) name ≡ None → place_from (λ s. s.name) 0 ys name ≡ None) → place_from (λ s. s.name) 0 ys name ≡ None
    by true e rest = absurd (none-some i (sym e))
    by false e rest = rest e

-- a name that no property of a type has is no name of one of its own
pub none_own : (types : List GType) (table : List (List Spec)) (t : ℕ) (name : List ℕ) → slot_named (specs_of types table t) name ≡ None
    → place_named (λ s. s.name) (own_of table t) (canonical name) ≡ None
unfolding specs_of
none_own types table t name h =
    none_behind 0 (flat_map (own_of table) (reverse (line_from (length types) types (parent_of types t)))) (own_of table t) (canonical name)
    (ap (λ (l : List Spec). place_from (λ s. s.name) 0 l (canonical name)) (sym (flat_map-last (own_of table) (line_from (length types) types (parent_of types t)) t)) ∙ h)
