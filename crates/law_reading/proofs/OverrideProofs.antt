-- Where nothing is wrong with a class's overrides, the class has the properties of its interfaces.
use Rattle.std.proofs.Common.{◌≡◌, ℕ, zero, suc, ◌+◌, Bool, true, false, cond, ◌&&◌, nat_eq, arith, List, [], ◌∷◌, Option, None, Some, option_map, option_and_then, slice_get, refl, sym, ap, subst, ◌∙◌, inl, inr, ◌⊎◌}
use Rattle.std.specs.List.{find}
use Rattle.std.specs.Ordering.{int_eq}
use Rattle.std.specs.Str.{bytes_eq}
use Rattle.std.proofs.lemmas.Slice.Eq.{bytes_eq-Decides}
use Rattle.ui_machine.specs.Definition.Names.{same_name, canonical, place_from}
use Rattle.ui_machine.specs.Definition.Properties.{Spec}
use Rattle.ui_machine.specs.Rules.Transform.{same_kind, same_value, same_bool}
use Rattle.param_specs.specs.Table.{slot_named, canonical_spec}
use Rattle.param_specs.specs.Overriding.{same_range, same_rest, same_spec, spec_named}
use Rattle.definition_format.specs.Causes.{override_missing, override_differs}
use Rattle.definition_format.specs.Denoted.Overrides.{Own, is_own, Override, fine, missing, different, compared, override_by, override_of, is_missing, is_different, cause_or, override_cause}
use Rattle.law_typing.specs.Verdict.Inherits as inherits
use Rattle.law_typing.specs.Verdict.Accepted.{Each}
use Rattle.law_typing.proofs.Lists.{both_parts}
use Rattle.law_static.proofs.Same.{specs_same, names_same}
use Rattle.law_reading.proofs.NameProofs.{name_refl}
use Rattle.law_reading.proofs.ProvidedProofs.{Has}

-- ** the same properties

-- properties that are the same and have one name are one
pub one_spec : (s w : Spec) → same_spec s w ≡ true → s.name ≡ w.name → s ≡ w
one_spec s w e name =
    let parts = both_parts (same_range s w) (same_rest s w) e in
    let range = both_parts (same_kind s.kind w.kind && int_eq s.low w.low) (int_eq s.high w.high) parts.0 in
    let ends = both_parts (same_kind s.kind w.kind) (int_eq s.low w.low) range.0 in
    let rest = both_parts (same_value s.default w.default && same_bool s.weak w.weak) (nat_eq s.flags w.flags) parts.1 in
    let last = both_parts (same_value s.default w.default) (same_bool s.weak w.weak) rest.0 in
    let named : same_name s.name w.name ≡ true = ap (same_name s.name) (sym name) ∙ name_refl s.name in
    let all : inherits.same_spec s w ≡ true = rw (named, ends.0, rest.1, last.0, ends.1, range.1) last.1 in
    specs_same s w all

-- ** properties by name

found_named : (k : ℕ) (xs : List Spec) (name : List ℕ) (i : ℕ) → place_from (λ (s : Spec). s.name) k xs name ≡ Some i
    → (j : ℕ) × (i ≡ k + j) × ((s : Spec) → slice_get xs j ≡ Some s → same_name s.name name ≡ true)
found_named k [] name i h = absurd (cc)
found_named k (x ∷ xs) name i h = by (same_name x.name name) refl h (found_named (suc k) xs name i)
  where
    by : (b : Bool) → same_name x.name name ≡ b → cond b (Some k) (place_from (λ (s : Spec). s.name) (suc k) xs name) ≡ Some i
        → (place_from (λ (s : Spec). s.name) (suc k) xs name ≡ Some i
        → (j : ℕ) × (i ≡ suc k + j) × ((s : Spec) → slice_get xs j ≡ Some s → same_name s.name name ≡ true))
        → (j : ℕ) × (i ≡ k + j) × ((s : Spec) → slice_get (x ∷ xs) j ≡ Some s → same_name s.name name ≡ true)
    by true is e later =
        let here : k ≡ i = cc in
        (0, omega (arith, here), λ s at. let same : x ≡ s = cc in ap (λ (y : Spec). same_name y.name name) (sym same) ∙ is)
    by false is e later = let found = later e in let at = found.1 in (suc found.0, omega (arith, at), found.2)

-- the property that a name finds has the name
named_spec : (specs : List Spec) (name : List ℕ) (s : Spec) → spec_named specs name ≡ Some s → (s.name ≡ canonical name) × Has specs s
named_spec specs name s e = by (slot_named specs name) refl e
  where
    by : (o : Option ℕ) → slot_named specs name ≡ o → option_and_then (slice_get specs) o ≡ Some s → (s.name ≡ canonical name) × Has specs s
    by None found h = absurd (cc)
    by (Some slot) found h =
        let at = found_named 0 specs (canonical name) slot found in
        let there = at.1 in
        let here : at.0 ≡ slot = omega (arith, there) in
        (names_same s.name (canonical name) (at.2 s (ap (slice_get specs) here ∙ h)), (slot, h))

-- ** what is not wrong

find_none : {A : Type 0} (test : A → Bool) (xs : List A) (i : ℕ) (x : A) → find test xs ≡ None → slice_get xs i ≡ Some x → test x ≡ false
find_none test [] i x none h = absurd (cc)
find_none {A} test (y ∷ ys) i x none h = by (test y) refl none i h (λ e i. find_none test ys i x e)
  where
    by : (b : Bool) → test y ≡ b → cond b (Some y) (find test ys) ≡ None → (i : ℕ) → slice_get (y ∷ ys) i ≡ Some x
        → (find test ys ≡ None → (i : ℕ) → slice_get ys i ≡ Some x → test x ≡ false) → test x ≡ false
    by true is e i h later = absurd (cc)
    by false is e zero h later = let same : y ≡ x = cc in ap test (sym same) ∙ is
    by false is e (suc i) h later = later e i h

find_each : {A : Type 0} (P : A → Type 0) (test : A → Bool) (xs : List A) (x : A) → Each P xs → find test xs ≡ Some x → P x × (test x ≡ true)
find_each P test [] x all h = absurd (cc)
find_each {A} P test (y ∷ ys) x all h = by (test y) refl h (find_each P test ys x all.1)
  where
    by : (b : Bool) → test y ≡ b → cond b (Some y) (find test ys) ≡ Some x → (find test ys ≡ Some x → P x × (test x ≡ true))
        → P x × (test x ≡ true)
    by true is e later = let same : y ≡ x = cc in (subst P same all.0, ap test (sym same) ∙ is)
    by false is e later = later e

no_cause : (a b : Option Spec) → cause_or (option_map (λ (w : Spec). override_missing w.name) a) (option_map (λ (w : Spec). override_differs w.name) b) ≡ None
    → (a ≡ None) × (b ≡ None)
no_cause (Some w) b e = absurd (cc)
no_cause None (Some w) e = absurd (cc)
no_cause None None e = (refl, refl)

is_fine : (o : Override) → is_missing o ≡ false → is_different o ≡ false → o ≡ fine
is_fine fine m d = refl
is_fine missing m d = absurd (cc)
is_fine different m d = absurd (cc)

-- where there is no cause, each wanted property is had
pub wanted_fine : (inherited : List Spec) (own : List Own) (wanted : List Spec) (i : ℕ) (w : Spec) → override_cause inherited own wanted ≡ None
    → slice_get wanted i ≡ Some w → override_of inherited own w ≡ fine
wanted_fine inherited own wanted i w e at =
    let none = no_cause (find (λ w. is_missing (override_of inherited own w)) wanted) (find (λ w. is_different (override_of inherited own w)) wanted) e in
    is_fine (override_of inherited own w) (find_none (λ w. is_missing (override_of inherited own w)) wanted i w none.0 at)
    (find_none (λ w. is_different (override_of inherited own w)) wanted i w none.1 at)

compared_same : (found : Option Spec) (w : Spec) → compared found w ≡ fine → (s : Spec) × (found ≡ Some s) × (same_spec s w ≡ true)
compared_same None w e = absurd (cc)
compared_same (Some s) w e = by (same_spec s w) refl e
  where
    by : (b : Bool) → same_spec s w ≡ b → cond b fine different ≡ fine → (t : Spec) × (Some s ≡ Some t) × (same_spec t w ≡ true)
    by true is e = (s, refl, is)
    by false is e = absurd (cc)

-- ** the class's own properties

-- a property that was read ahead is among these
abbrev pub Found : List Spec → Own → Type 0
Found specs o = (s : Spec) × (o.spec ≡ Some s) × (canonical s.name ≡ o.name) × Has specs (canonical_spec s)

pub bytes_same : (a b : List ℕ) → bytes_eq a b ≡ true → a ≡ b
bytes_same a b e = (bytes_eq-Decides a b).0 e

module _ (inherited own : List Spec) (ahead : List Own) (found : Each (Found own) ahead) (w : Spec) (named : canonical w.name ≡ w.name) where
  by_own : (o : Option Own) → find (is_own w.name) ahead ≡ o
      → override_by (option_map (λ (o : Own). o.spec) o) (spec_named inherited w.name) w ≡ fine → (Has inherited w) ⊎ (Has own w)
  by_own None e h =
      let same = compared_same (spec_named inherited w.name) w h in
      let there = named_spec inherited w.name same.0 same.1 in
      inl (subst (Has inherited) (one_spec same.0 w same.2 (there.0 ∙ named)) there.1)
  by_own (Some o) e h =
      let one = find_each (Found own) (is_own w.name) ahead o found e in
      let name : w.name ≡ o.name = bytes_same w.name o.name one.1 in
      let there = one.0 in
      let fits : compared (Some there.0) w ≡ fine =
      ap (λ (x : Option Spec). override_by (Some x) (spec_named inherited w.name) w) (sym there.1) ∙ h in
      let same = compared_same (Some there.0) w fits in
      let this : there.0 ≡ same.0 = cc in
      let alike : same_spec (canonical_spec there.0) w ≡ true = ap (λ s. same_spec s w) this ∙ same.2 in
      inr (subst (Has own) (one_spec (canonical_spec there.0) w alike (there.2 ∙ sym name)) there.3)

  -- a wanted property that is fine is inherited or an own one
  pub had : override_of inherited ahead w ≡ fine → (Has inherited w) ⊎ (Has own w)
  had h = by_own (find (is_own w.name) ahead) refl h
