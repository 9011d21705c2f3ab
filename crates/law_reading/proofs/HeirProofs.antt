-- The interfaces of a class that was read: nothing is wrong with the class's overrides, and none brings a signal again.
use Rattle.std.proofs.Common.{◌≡◌, ℕ, ◌<◌, ◌⊎◌, inl, inr, Bool, true, false, cond, ◌||◌, nat_eq, List, [], ◌∷◌, ◌++◌, length, Option, None, Some, Result, Ok, refl, sym, ap, subst, ◌∙◌}
use Rattle.std.specs.Prelude.{codes, if◌then◌else◌}
use Rattle.std.proofs.lemmas.Bool.{eqb-true}
use Rattle.serde_json.specs.Data.{Data, Items, no_items, item}
use Rattle.serde_json.specs.Find.{as_str}
use Rattle.ui_machine.specs.Definition.Types.{GType}
use Rattle.ui_machine.specs.Definition.Types as sorts
use Rattle.type_tree.specs.Tree.{IsTree}
use Rattle.type_tree.specs.Adding.{find_type, sort_of, is_interface, of_sort}
use Rattle.definition_format.specs.Refusals.{Refusal, shape, unknown, bad_spec, or_refused, refused_if}
use Rattle.definition_format.specs.Document.{each, at_entry, under, nth, entries_at}
use Rattle.definition_format.specs.Denoted.Entries.{TypeNames}
use Rattle.definition_format.specs.Denoted.Drafts.{Draft}
use Rattle.definition_format.specs.Denoted.Brought.{own_signals_ahead}
use Rattle.definition_format.specs.Denoted.Overrides.{Own, own_ahead, override_cause}
use Rattle.definition_format.specs.Denoted.Properties.{specs_by}
use Rattle.definition_format.specs.Denoted.Implements.{Heir, heir_with, heir_at, check_brought, check_prerequisites, check_overrides, newly_implemented, interface_at_entry, implemented_at, named_at, implements_listed, implements_of, implements_at}
use Rattle.definition_format.proofs.Soundness.{OnRead, on_bind, on_all, on_each}
use Rattle.std.specs.List.{list_any}
use Rattle.law_reading.proofs.Ancestors.{AreInterfaces, Implements}
use Rattle.law_reading.proofs.BroughtProofs.{Brings, BringsAhead, AreBrought, first_brought, one_brought, none_brought}
use Rattle.law_reading.proofs.OwnSignalProofs.{SignalsRead}
use Rattle.law_reading.proofs.Parts.{on_read, more_on}
use Rattle.law_reading.proofs.ImplementProofs.{AreOverridden}

-- what is found by name is an interface
named_interface : (types : List GType) (r : Refusal) (found : Option ℕ)
    → OnRead (λ i. sort_of types i ≡ sorts.interface) (or_refused r (of_sort is_interface types found))
named_interface types r None = tt
named_interface types r (Some t) = by (sort_of types t) refl
  where
    by : (s : sorts.Sort) → sort_of types t ≡ s → OnRead (λ i. sort_of types i ≡ sorts.interface) (or_refused r (cond (is_interface s) (Some t) None))
    by sorts.class e = tt
    by sorts.interface e = e
    by sorts.enum e = tt
    by sorts.flags e = tt

with_interface : (types : List GType) (is : List ℕ) (i : ℕ) → AreInterfaces types is → sort_of types i ≡ sorts.interface → AreInterfaces types (is ++ i ∷ [])
with_interface types [] i all one = (one, tt)
with_interface types (j ∷ is) i all one = (all.0, with_interface types is i all.1 one)

one_of : (is : List ℕ) (i j : ℕ) → list_any (nat_eq j) (is ++ i ∷ []) ≡ true → (list_any (nat_eq j) is ≡ true) ⊎ (j ≡ i)
one_of [] i j h = by (nat_eq j i) refl h
  where
    by : (b : Bool) → nat_eq j i ≡ b → (b || false) ≡ true → (false ≡ true) ⊎ (j ≡ i)
    by true e h = inr (eqb-true j i e)
    by false e h = absurd (cc)
one_of (k ∷ is) i j h = by (nat_eq j k) h (one_of is i j)
  where
    by : (b : Bool) → (b || list_any (nat_eq j) (is ++ i ∷ [])) ≡ true
        → (list_any (nat_eq j) (is ++ i ∷ []) ≡ true → (list_any (nat_eq j) is ≡ true) ⊎ (j ≡ i)) → ((b || list_any (nat_eq j) is) ≡ true) ⊎ (j ≡ i)
    by true h rest = inl refl
    by false h rest = rest h

-- nothing is wrong with the overrides of these interfaces
abbrev IsHeir : Heir → List ℕ → Type 0
IsHeir heir is = (i : ℕ) → list_any (nat_eq i) is ≡ true → override_cause (specs_by heir.types heir.table heir.parent) heir.own (heir.table i) ≡ None

one_overridden : (heir : Heir) (is : List ℕ) (i : ℕ) → IsHeir heir is
    → override_cause (specs_by heir.types heir.table heir.parent) heir.own (heir.table i) ≡ None → IsHeir heir (is ++ i ∷ [])
one_overridden heir is i all one j h = by (one_of is i j h)
  where
    by : (list_any (nat_eq j) is ≡ true) ⊎ (j ≡ i) → override_cause (specs_by heir.types heir.table heir.parent) heir.own (heir.table j) ≡ None
    by (inl e) = all j e
    by (inr e) = ap (λ k. override_cause (specs_by heir.types heir.table heir.parent) heir.own (heir.table k)) e ∙ one

nothing_refused : {A : Type 0} (refusal : A → Refusal) (found : Option A) (u : Unit {0}) → refused_if refusal found ≡ Ok u → found ≡ None
nothing_refused refusal None u e = refl
nothing_refused refusal (Some x) u e = absurd (cc)

module _ (heir : Heir) (tree : IsTree heir.types) (heirs : Implements heir.types) (read : SignalsRead heir.types heir.signals)
    (within : heir.parent < length heir.types) where
  -- what is so of the interfaces of a class: they are some, nothing is wrong with their overrides, and they bring no signal again
  abbrev AreHeirs : List ℕ → Type 0
  AreHeirs is = AreInterfaces heir.types is × IsHeir heir is × AreBrought heir tree heirs read within is

  implemented_are : (path : List ℕ) (is : List ℕ) (d : Data) → AreHeirs is → OnRead AreHeirs (implemented_at path heir is d)
  unfolding implemented_at interface_at_entry newly_implemented
  implemented_are path is d all =
      on_bind (λ i. sort_of heir.types i ≡ sorts.interface) AreHeirs (interface_at_entry path heir.types d) _
      (on_bind (λ x. Unit {0}) (λ i. sort_of heir.types i ≡ sorts.interface) (or_refused (shape path) (as_str d)) _ (on_all _) λ name u.
      named_interface heir.types (unknown path name) (find_type heir.types name)) λ i one. by i one (list_any (nat_eq i) is) refl
    where
      by : (i : ℕ) → sort_of heir.types i ≡ sorts.interface → (b : Bool) → list_any (nat_eq i) is ≡ b
          → OnRead AreHeirs (if b then Ok is else newly_implemented path heir i is)
      by i one true there = all
      by i one false there =
          on_read AreHeirs (check_brought path heir i is) _ λ new brought.
          on_bind (λ x. Unit {0}) AreHeirs (check_prerequisites path heir i) _ (on_all _) λ required u.
          on_read AreHeirs (check_overrides path heir i) _ λ overridden fine. (
            with_interface heir.types is i all.0 one,
            one_overridden heir is i all.1 (nothing_refused (bad_spec path)
                (override_cause (specs_by heir.types heir.table heir.parent) heir.own (heir.table i)) overridden fine),
            one_brought heir tree heirs read within is i one there path new brought all.2,
          )

  all_implemented : (path : List ℕ) (list : Items) → OnRead AreHeirs (each (at_entry (λ entry. implemented_at entry heir) path) 0 [] list)
  all_implemented path list =
      on_each AreHeirs (at_entry (λ entry. implemented_at entry heir) path) (λ i is e all. implemented_are (nth path i) is e all) 0 [] list
      (tt, λ i h. absurd (cc), first_brought heir tree heirs read within)

module _ (draft : Draft) (tree : IsTree draft.types) (heirs : Implements draft.types) (signals : SignalsRead draft.types draft.signals)
    (names : TypeNames) (parent : ℕ) (within : parent < length draft.types) where
  -- what is so of the interfaces that an entry names
  abbrev pub AreImplemented : List ℕ → Data → List ℕ → Type 0
  AreImplemented path d is =
      AreInterfaces draft.types is × AreOverridden draft.types names draft.own parent path d is × BringsAhead draft parent path d is

  -- what is known of a class, with what was read ahead
  IsAhead : List ℕ → Data → List ℕ → Heir → Type 0
  IsAhead path d named heir =
      (own : List Own) × (declared : List (List ℕ)) × (own_ahead path draft.types names draft.own parent d ≡ Ok own)
      × (own_signals_ahead path d ≡ Ok declared) × (heir ≡ heir_with draft parent named own declared)

  heir_ahead : (path : List ℕ) (d : Data) (named : List ℕ) → OnRead (IsAhead path d named) (heir_at path names draft parent d named)
  unfolding heir_at IsAhead
  heir_ahead path d named =
      on_read (IsAhead path d named) (own_ahead path draft.types names draft.own parent d) _ λ own read.
      on_read (IsAhead path d named) (own_signals_ahead path d) _ λ declared e. (own, declared, read, e, refl)

  one_answer : {A : Type 0} (a b : A) → ◌≡◌ {A = Result A Refusal} (Ok a) (Ok b) → a ≡ b
  one_answer a b e = cc

  listed_by : (path : List ℕ) (d : Data) (list : Items) (named : List ℕ) (own : List Own) (declared : List (List ℕ))
      → own_ahead path draft.types names draft.own parent d ≡ Ok own → own_signals_ahead path d ≡ Ok declared
      → OnRead (AreImplemented path d)
      (each (at_entry (λ entry. implemented_at entry (heir_with draft parent named own declared)) (under path (codes "implements")))
      0 [] list)
  listed_by path d list named own declared read declares =
      let heir : Heir = heir_with draft parent named own declared in
      more_on (AreHeirs heir tree heirs signals within) (AreImplemented path d)
      (each (at_entry (λ entry. implemented_at entry heir) (under path (codes "implements"))) 0 [] list)
      (λ is all. (
        all.0,
        λ i h ahead e.
            subst (λ a. override_cause (specs_by draft.types draft.own parent) a (draft.own i) ≡ None)
            (one_answer own ahead (sym read ∙ e)) (all.1 i h),
        λ ahead e. subst (λ a. Brings draft.types draft.signals parent a is) (one_answer declared ahead (sym declares ∙ e)) all.2.apart,
      ))
      (all_implemented heir tree heirs signals within (under path (codes "implements")) list)

  listed_are : (path : List ℕ) (d : Data) (list : Items) → OnRead (AreImplemented path d) (implements_of path names draft parent d list)
  unfolding implements_listed IsAhead
  listed_are path d no_items =
      (tt, λ i named own e. absurd (cc), λ ahead e. none_brought draft.types draft.signals parent ahead signals within)
  listed_are path d (item x xs) =
      on_bind (λ x. Unit {0}) (AreImplemented path d) (each (at_entry (λ entry. named_at entry draft.types) (under path (codes "implements"))) 0 [] (item x xs)) _ (on_all _) λ named u.
      on_bind (IsAhead path d named) (AreImplemented path d) (heir_at path names draft parent d named) _ (heir_ahead path d named) λ heir is.
      subst (λ h. OnRead (AreImplemented path d)
      (each (at_entry (λ entry. implemented_at entry h) (under path (codes "implements"))) 0 [] (item x xs)))
      (sym is.4) (listed_by path d (item x xs) named is.0 is.1 is.2 is.3)

  pub implements_are : (path : List ℕ) (d : Data) → OnRead (AreImplemented path d) (implements_at path names draft parent d)
  unfolding implements_at
  implements_are path d =
      on_bind (λ x. Unit {0}) (AreImplemented path d) (entries_at path d (codes "implements")) _ (on_all _) λ list u. listed_are path d list
