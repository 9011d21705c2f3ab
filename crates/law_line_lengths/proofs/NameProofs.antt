-- What is found in a definition has a name that is no longer than its longest.
use Rattle.std.proofs.Common.{◌≡◌, refl, ap, sym, subst, inl, inr, ◌⊎◌, ℕ, zero, suc, ◌≤◌, length, Bool, true, false, List, [], ◌∷◌, ◌++◌, map, Some, Ok, arith}
use Rattle.std.specs.List.{flat_map}
use Rattle.std.specs.Prelude.{IfOk, slice_get}
use Rattle.ui_machine.specs.declared.arm.Arm.{Arm}
use Rattle.ui_machine.specs.declared.arm.Arm.TheVariants as arms
use Rattle.ui_machine.specs.Definition.{Class, Definition}
use Rattle.ui_machine.specs.Definition.Kinds.{Kind}
use Rattle.ui_machine.specs.Definition.Lookups.{class_of, no_class, place_at, program_at, spec_of, type_of}
use Rattle.ui_machine.specs.Definition.Places.{Place}
use Rattle.ui_machine.specs.Definition.Programs.{Program}
use Rattle.ui_machine.specs.Definition.Properties.{Spec}
use Rattle.ui_machine.specs.Definition.Signals.{Method, Shape, Signal}
use Rattle.ui_machine.specs.Definition.Types.{GType}
use Rattle.ui_machine.specs.Definition.Values.{Value}
use Rattle.ui_machine.specs.Outcome.{Answer, known, only_if}
use Rattle.ui_machine.specs.Output.Text.{no_type}
use Rattle.ui_machine.specs.Rules.EmissionPlan.{signal_at, signal_of}
use Rattle.ui_machine.specs.Rules.Programs.{all_fit}
use Rattle.ui_machine.specs.Rules.Sets.{spec_at}
use Rattle.ui_machine.specs.Seq.{read}
use Rattle.ui_machine.specs.State.Objects.{Object, Objects, object_at}
use Rattle.law_typing.proofs.Lists.{both_parts, greatest_in, map_in}
use Rattle.law_typing.specs.Graph.Tables.{greatest}
use Rattle.law_typing.specs.Laws.{IsIn}
use Rattle.law_typing.specs.Verdict.Accepted.{Each}
use Rattle.law_steps.proofs.Instructed.Inverse.{bound, known_is}
use Rattle.law_line_lengths.specs.LineLengths.{IsLikeNameOf, longest, most_arguments, names}

-- ** lists

get_in : {A : Type 0} (xs : List A) (i : ℕ) (x : A) → slice_get xs i ≡ Some x → IsIn x xs
get_in [] i x e = absurd (cc)
get_in (y ∷ ys) zero x e = inl (let h : y ≡ x = cc in sym h)
get_in (y ∷ ys) (suc i) x e = inr (get_in ys i x e)

read_in : {A : Type 0} (z : A) (xs : List A) (i : ℕ) → IsIn (read z xs i) xs ⊎ (read z xs i ≡ z)
read_in z [] i = inr refl
read_in z (x ∷ xs) zero = inl (inl refl)
read_in z (x ∷ xs) (suc i) = by (read_in z xs i)
  where
    by : IsIn (read z xs i) xs ⊎ (read z xs i ≡ z) → IsIn (read z (x ∷ xs) (suc i)) (x ∷ xs) ⊎ (read z (x ∷ xs) (suc i) ≡ z)
    by (inl h) = inl (inr h)
    by (inr e) = inr e

front_le : {A : Type 0} (f : A → ℕ) (xs ys : List A) → greatest f xs ≤ greatest f (xs ++ ys)
front_le f [] ys = omega arith
front_le f (x ∷ xs) ys = let h = front_le f xs ys in omega (arith, h)

back_le : {A : Type 0} (f : A → ℕ) (xs ys : List A) → greatest f ys ≤ greatest f (xs ++ ys)
back_le f [] ys = omega arith
back_le f (x ∷ xs) ys = let h = back_le f xs ys in omega (arith, h)

flat_le : {A B : Type 0} (f : B → ℕ) (g : A → List B) (xs : List A) (x : A) → IsIn x xs → greatest f (g x) ≤ greatest f (flat_map g xs)
flat_le f g [] x h = absurd h
flat_le f g (y ∷ ys) x (inl e) = let s = ap (λ z. greatest f (g z)) e in let h = front_le f (g y) (flat_map g ys) in omega (arith, s, h)
flat_le f g (y ∷ ys) x (inr i) = let s = flat_le f g ys x i in let h = back_le f (g y) (flat_map g ys) in omega (arith, s, h)

map_le : {A B : Type 0} (f : B → ℕ) (g : A → B) (xs : List A) (x : A) → IsIn x xs → f (g x) ≤ greatest f (map g xs)
map_le f g xs x h = greatest_in f (map g xs) (g x) (map_in g xs x h)

step : (a b c : ℕ) → a ≤ b → b ≤ c → a ≤ c
step a b c h k = omega (arith, h, k)

abbrev L : List ℕ → ℕ
L = λ (name : List ℕ). length name

each_of : {A : Type 0} (P : A → Type 0) (xs : List A) → ((x : A) → IsIn x xs → P x) → Each P xs
each_of P [] so = tt
each_of P (x ∷ xs) so = (so x (inl refl), each_of P xs (λ y h. so y (inr h)))

-- ** names

module _ (d : Definition) where
  abbrev of_types : List (List ℕ)
  of_types = map (λ (t : GType). t.name) d.types

  abbrev of_class : Class → List (List ℕ)
  of_class = λ (c : Class). map (λ (s : Spec). s.name) c.specs ++ map (λ (s : Signal). s.name) c.signals

  abbrev of_programs : List (List ℕ)
  of_programs = map (λ (p : Program). p.name) d.programs

  abbrev of_shapes : List (List ℕ)
  of_shapes = flat_map (λ (s : Shape). map (λ (m : Method). m.name) s.methods) d.shapes

  abbrev of_place : Place → List (List ℕ)
  of_place = λ (p : Place). p.id ∷ p.peers

  abbrev after_programs : List (List ℕ)
  after_programs = of_shapes ++ flat_map of_place d.places

  abbrev after_classes : List (List ℕ)
  after_classes = of_programs ++ after_programs

  abbrev after_types : List (List ℕ)
  after_types = flat_map of_class d.classes ++ after_classes

  classes_le : longest (flat_map of_class d.classes) ≤ longest (names d)
  classes_le = step _ _ _ (front_le L (flat_map of_class d.classes) after_classes) (back_le L of_types after_types)

  after_classes_le : longest after_classes ≤ longest (names d)
  after_classes_le = step _ _ _ (back_le L (flat_map of_class d.classes) after_classes) (back_le L of_types after_types)

  pub type_like : (t : ℕ) → IsLikeNameOf d (type_of d t).name
  type_like t = by (read_in no_type d.types t)
    where
      by : IsIn (type_of d t) d.types ⊎ (type_of d t ≡ no_type) → IsLikeNameOf d (type_of d t).name
      by (inl h) = step _ _ _ (map_le L (λ (t : GType). t.name) d.types (type_of d t) h) (front_le L of_types after_types)
      by (inr e) = let s = ap (λ (t : GType). length t.name) e in omega (arith, s)

  pub spec_of_like : (class slot : ℕ) (s : Spec) → spec_of d class slot ≡ Some s → IsLikeNameOf d s.name
  spec_of_like class slot s e = by (read_in no_class d.classes class)
    where
      inside : IsIn s (class_of d class).specs
      inside = get_in (class_of d class).specs slot s e

      by : IsIn (class_of d class) d.classes ⊎ (class_of d class ≡ no_class) → IsLikeNameOf d s.name
      by (inr z) = absurd (subst (λ (c : Class). IsIn s c.specs) z inside)
      by (inl h) =
          step _ _ _ (map_le L (λ (s : Spec). s.name) (class_of d class).specs s inside)
          (step _ _ _ (front_le L (map (λ (s : Spec). s.name) (class_of d class).specs) (map (λ (s : Signal). s.name) (class_of d class).signals))
          (step _ _ _ (flat_le L of_class d.classes (class_of d class) h) classes_le))

  pub spec_like : (os : Objects) (id slot : ℕ) (s : Spec) → spec_at d os id slot ≡ Ok s → IsLikeNameOf d s.name
  unfolding spec_at
  spec_like os id slot s e =
      let o = bound (object_at os id) (λ (o : Object). known arms.Code (spec_of d o.class slot)) s e in
      spec_of_like o.0.class slot s (known_is arms.Code (spec_of d o.0.class slot) s o.2)

  -- a signal's name, and how many arguments it has
  pub signal_like : (class number : ℕ) (s : Signal) → signal_at d class number ≡ Ok s → IsLikeNameOf d s.name × (length s.params ≤ most_arguments d)
  unfolding signal_at
  signal_like class number s e = by (read_in no_class d.classes class)
    where
      inside : IsIn s (class_of d class).signals
      inside = get_in (class_of d class).signals number s (known_is arms.Code (signal_of d class number) s e)

      by : IsIn (class_of d class) d.classes ⊎ (class_of d class ≡ no_class) → IsLikeNameOf d s.name × (length s.params ≤ most_arguments d)
      by (inr z) = absurd (subst (λ (c : Class). IsIn s c.signals) z inside)
      by (inl h) = (
        step _ _ _ (map_le L (λ (s : Signal). s.name) (class_of d class).signals s inside)
            (step _ _ _ (back_le L (map (λ (s : Spec). s.name) (class_of d class).specs) (map (λ (s : Signal). s.name) (class_of d class).signals))
            (step _ _ _ (flat_le L of_class d.classes (class_of d class) h) classes_le)),
        step _ _ _ (map_le (λ (kinds : List Kind). length kinds) (λ (s : Signal). s.params) (class_of d class).signals s inside)
            (step _ _ _ (flat_le (λ (kinds : List Kind). length kinds) (λ (c : Class). map (λ (s : Signal). s.params) c.signals) d.classes (class_of d class) h)
            (front_le (λ (kinds : List Kind). length kinds) (flat_map (λ (c : Class). map (λ (s : Signal). s.params) c.signals) d.classes) (flat_map (λ (s : Shape). map (λ (m : Method). m.params) s.methods) d.shapes))),
      )

  pub program_like : (number : ℕ) (p : Program) → program_at d number ≡ Some p → IsLikeNameOf d p.name
  program_like number p e =
      step _ _ _ (map_le L (λ (p : Program). p.name) d.programs p (get_in d.programs number p e)) (step _ _ _ (front_le L of_programs after_programs) after_classes_le)

  pub place_like : (number : ℕ) (p : Place) → place_at d number ≡ Some p → IsLikeNameOf d p.id
  place_like number p e =
      step _ _ _ (greatest_in L (p.id ∷ p.peers) p.id (inl refl))
      (step _ _ _ (flat_le L of_place d.places p (get_in d.places number p e))
      (step _ _ _ (back_le L of_shapes (flat_map of_place d.places)) (step _ _ _ (back_le L of_programs after_programs) after_classes_le)))

  -- the names of the peers that a place gives
  pub place_peers_like : (number : ℕ) (p : Place) → place_at d number ≡ Some p → Each (IsLikeNameOf d) p.peers
  place_peers_like number p e = each_of (IsLikeNameOf d) p.peers (λ name h.
      step _ _ _ (greatest_in L (p.id ∷ p.peers) name (inr h))
      (step _ _ _ (flat_le L of_place d.places p (get_in d.places number p e))
      (step _ _ _ (back_le L of_shapes (flat_map of_place d.places)) (step _ _ _ (back_le L of_programs after_programs) after_classes_le))))

  -- the methods of a shape: their names, and how many arguments they have
  pub methods_like : (number : ℕ) (s : Shape) → slice_get d.shapes number ≡ Some s → Each (λ (m : Method). IsLikeNameOf d m.name × (length m.params ≤ most_arguments d)) s.methods
  methods_like number s e = each_of (λ (m : Method). IsLikeNameOf d m.name × (length m.params ≤ most_arguments d)) s.methods (λ m h. (
    step _ _ _ (map_le L (λ (m : Method). m.name) s.methods m h)
        (step _ _ _ (flat_le L (λ (s : Shape). map (λ (m : Method). m.name) s.methods) d.shapes s (get_in d.shapes number s e))
        (step _ _ _ (front_le L of_shapes (flat_map of_place d.places)) (step _ _ _ (back_le L of_programs after_programs) after_classes_le))),
    step _ _ _ (map_le (λ (kinds : List Kind). length kinds) (λ (m : Method). m.params) s.methods m h)
        (step _ _ _ (flat_le (λ (kinds : List Kind). length kinds) (λ (s : Shape). map (λ (m : Method). m.params) s.methods) d.shapes s (get_in d.shapes number s e))
        (back_le (λ (kinds : List Kind). length kinds) (flat_map (λ (c : Class). map (λ (s : Signal). s.params) c.signals) d.classes) (flat_map (λ (s : Shape). map (λ (m : Method). m.params) s.methods) d.shapes))),
  ))

-- ** arguments

pub fit_lengths : {K : Type 0} (fits : Value → K → Bool) (vs : List Value) (ks : List K) → all_fit fits vs ks ≡ true → length vs ≡ length ks
fit_lengths fits [] [] e = refl
fit_lengths fits [] (k ∷ ks) e = absurd (cc)
fit_lengths fits (v ∷ vs) [] e = absurd (cc)
fit_lengths fits (v ∷ vs) (k ∷ ks) e = let h = fit_lengths fits vs ks (both_parts (fits v k) (all_fit fits vs ks) e).1 in omega (arith, h)

-- what holds where the test does
pub only_when : {A : Type 0} (b : Bool) (arm : Arm) (a : Answer A) (P : A → Type 0) → (b ≡ true → IfOk a P) → IfOk (only_if b arm a) P
only_when true arm a P h = h refl
only_when false arm a P h = tt
