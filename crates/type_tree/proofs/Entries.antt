-- Entries of a tree, read by their places.
use Rattle.std.proofs.Common.{◌≡◌, ℕ, zero, suc, ◌<◌, ◌≤◌, List, [], ◌∷◌, ◌++◌, length, map, string_bytes, String, Option, None, Some, IfSome, IfNone, slice_get, refl, sym, ap, ◌∙◌, arith, inl, inr, length-append}
use Rattle.std.specs.Option.{ForSome}
use Rattle.std.proofs.lemmas.Bool.{cases_lt}
use Rattle.std.proofs.lemmas.Option.{none-some}
use Rattle.ui_machine.specs.Seq.{read}
use Rattle.ui_machine.specs.Definition.Types.{GType}
use Rattle.ui_machine.specs.Output.Text.{no_type}
use Rattle.ui_machine.specs.Rules.Ancestry.{parent_of}
use Rattle.type_tree.specs.declared.entry.TypeEntry.{TypeEntry}
use Rattle.type_tree.specs.declared.entry.TypeEntry.TheVariants.{Class, Interface, Enum, Flags}
use Rattle.type_tree.specs.Entry.{type_of}
use Rattle.type_tree.specs.Tree.{IsTree}

-- ** lists

-- past the end is the default
pub read-past : {A : Type 0} (d : A) (xs : List A) (i : ℕ) → length xs ≤ i → read d xs i ≡ d
read-past d [] i h = refl
read-past d (x ∷ xs) zero h = absurd (omega arith)
read-past d (x ∷ xs) (suc i) h = read-past d xs i (omega arith)

-- what is at i is read there
pub read-slice_get : {A : Type 0} (d : A) (xs : List A) (i : ℕ) (x : A) → slice_get xs i ≡ Some x → read d xs i ≡ x
read-slice_get d [] i x h = cc
read-slice_get d (y ∷ xs) zero x h = cc
read-slice_get d (y ∷ xs) (suc i) x h = read-slice_get d xs i x h

-- in a list that got one more, what was before stays
pub read-front : {A : Type 0} (d y : A) (xs : List A) (i : ℕ) → i < length xs → read d (xs ++ y ∷ []) i ≡ read d xs i
read-front d y [] i h = absurd (omega arith)
read-front d y (x ∷ xs) zero h = refl
read-front d y (x ∷ xs) (suc i) h = read-front d y xs i (omega arith)

-- and the new one comes last
pub read-last : {A : Type 0} (d y : A) (xs : List A) → read d (xs ++ y ∷ []) (length xs) ≡ y
read-last d y [] = refl
read-last d y (x ∷ xs) = read-last d y xs

-- ** types

-- the type of an entry
abbrev pub typed : {A : Type 0} → String A × TypeEntry → GType
typed e = type_of (string_bytes e.0) e.1

pub name-type_of : (name : List ℕ) (e : TypeEntry) → (type_of name e).name ≡ name
name-type_of name (Class c) = refl
name-type_of name (Interface r) = refl
name-type_of name (Enum m) = refl
name-type_of name (Flags m) = refl

Some-injective : {A : Type 0} (x y : A) → Some x ≡ Some y → x ≡ y
Some-injective x y h = cc

type_of_same : {A : Type 0} (x : String A × TypeEntry) (e : TypeEntry) → x.1 ≡ e → typed x ≡ type_of (typed x).name e
type_of_same x e h = rw (name-type_of (string_bytes x.0) x.1) (ap (type_of (string_bytes x.0)) h)

-- what an entry denotes, but for the name
pub type_of_entry : {A : Type 0} (es : List (String A × TypeEntry)) (t : ℕ) (k : String A) (e : TypeEntry) → slice_get es t ≡ Some (k, e)
    → read no_type (map typed es) t ≡ type_of (read no_type (map typed es) t).name e
type_of_entry [] t k e h = cc
type_of_entry (x ∷ es) zero k e h = type_of_same x e (ap (λ y. y.1) (Some-injective x (k, e) h))
type_of_entry (x ∷ es) (suc t) k e h = type_of_entry es t k e h

-- parents come before their children
pub parent_before : (types : List GType) → IsTree types → (t : ℕ) (o : Option ℕ) → o ≡ parent_of types t → IfSome o (λ p. p < t)
parent_before types tree t None h = tt
parent_before types tree t (Some p) h = tree.parents_first t p (sym h)

-- past the last entry there is no type
pub no_entry : {A : Type 0} (es : List (String A × TypeEntry)) (t : ℕ) → (t < length es → ⊥) → read no_type (map typed es) t ≡ no_type
no_entry [] t h = refl
no_entry (e ∷ es) zero h = absurd (h (omega arith))
no_entry (e ∷ es) (suc t) h = no_entry es t (λ l. h (omega arith))

pub none_if : {A : Type 0} {P : Type 0} (o : Option A) → P → IfNone o P
none_if None p = p
none_if (Some x) p = tt

-- an entry's key is its type's name
pub name_of_entry : {A : Type 0} (es : List (String A × TypeEntry)) (t : ℕ) (k : String A) (e : TypeEntry) → slice_get es t ≡ Some (k, e)
    → (read no_type (map typed es) t).name ≡ string_bytes k
name_of_entry [] t k e h = cc
name_of_entry (x ∷ es) zero k e h = name-type_of (string_bytes x.0) x.1 ∙ ap (λ y. string_bytes y.0) (Some-injective x (k, e) h)
name_of_entry (x ∷ es) (suc t) k e h = name_of_entry es t k e h

-- a tree that gets one more type, whose parent is there, is a tree
pub IsTree-append : (types : List GType) (g : GType) → IsTree types → length types < 256 → ForSome g.parent (λ p. p < length types) → IsTree (types ++ g ∷ [])
IsTree-append types g tree room parent = record {
  parents_first = λ t p h. elim (cases_lt t (length types)) [
    | inl l ↦ tree.parents_first t p (sym (ap (λ r. r.parent) (read-front no_type g types t l)) ∙ h)
    | inr l ↦ at_end t p l h
  ];
  few = rw (length-append types (g ∷ [])) (omega arith);
}
  where
    last : (t p : ℕ) → t ≡ length types → parent_of (types ++ g ∷ []) t ≡ Some p → p < t
    last t p e h = rw e (parent p (sym (ap (λ r. r.parent) (read-last no_type g types)) ∙ sym (ap (λ j. parent_of (types ++ g ∷ []) j) e) ∙ h))

    at_end : (t p : ℕ) → length types ≤ t → parent_of (types ++ g ∷ []) t ≡ Some p → p < t
    at_end t p l h = elim (cases_lt (length types) t) [
      | inl m ↦ absurd (none-some p (sym (ap (λ r. r.parent) (read-past no_type (types ++ g ∷ []) t (rw (length-append types (g ∷ [])) (omega arith)))) ∙ h))
      | inr m ↦ last t p (omega arith) h
    ]
