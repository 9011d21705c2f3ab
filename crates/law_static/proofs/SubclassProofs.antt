-- What a class has of the types that it is.
use Rattle.std.proofs.Common.{◌≡◌, inl, inr, refl, sym, ap, subst, ◌∙◌, ℕ, zero, suc, ◌+◌, ◌<◌, Bool, true, false, cond, List, [], ◌∷◌, length, Option, None, Some, slice_get, arith}
use Rattle.std.specs.Prelude.{codes, map, not}
use Rattle.std.specs.List.{list_all, list_any}
use Rattle.std.proofs.lemmas.Bool.{eq-eqb}
use Rattle.ui_machine.specs.Seq.{read}
use Rattle.ui_machine.specs.Definition.Names.{same_name, canonical, place_from, place_named}
use Rattle.ui_machine.specs.Definition.Properties.{Spec}
use Rattle.ui_machine.specs.Definition.Signals.{Signal}
use Rattle.ui_machine.specs.Definition.{Definition, Class}
use Rattle.ui_machine.specs.Definition.Lookups.{no_class, class_of, specs_of, spec_of, slot_of}
use Rattle.ui_machine.specs.Rules.Ancestry.{is_a}
use Rattle.ui_machine.specs.Rules.EmissionPlan.{signal_of}
use Rattle.ui_machine.specs.Rules.Connections.{signal_number}
use Rattle.law_typing.specs.Verdict.Inherits.{is_spec, spec_named, is_signal, signal_named, has_all_of, implies, types_of}
use Rattle.law_typing.specs.Laws.{IsIn}
use Rattle.law_typing.specs.Laws.WellRead.{TypesRead, HasNotify, no_two}
use Rattle.law_typing.proofs.Lists.{both_parts, any_true, map_in}
use Rattle.law_typing.proofs.CostProofs.{listed_in}
use Rattle.law_static.specs.Subclass.{SpecsInherit, SignalsInherit, NamesFind, EmittedInherit, OwnNameFinds}
use Rattle.law_static.proofs.Same.{names_same, canonical_once, specs_same, signals_same}

-- ** lists

all_in : {A : Type 0} (test : A → Bool) (xs : List A) (x : A) → list_all test xs ≡ true → IsIn x xs → test x ≡ true
all_in test [] x e h = absurd h
all_in test (y ∷ ys) x e (inl s) = ap test s ∙ (both_parts (test y) (list_all test ys) e).0
all_in test (y ∷ ys) x e (inr h) = all_in test ys x (both_parts (test y) (list_all test ys) e).1 h

pub get_in : {A : Type 0} (xs : List A) (i : ℕ) (x : A) → slice_get xs i ≡ Some x → IsIn x xs
get_in [] i x e = absurd (cc)
get_in (y ∷ ys) zero x e = inl (let s : x ≡ y = cc in s)
get_in (y ∷ ys) (suc i) x e = inr (get_in ys i x e)

-- ** what a name finds

record Named {A : Type 0} (name_of : A → List ℕ) (xs : List A) (name : List ℕ) (n : ℕ) : Type 0 where
  pub entry : A
  pub is : slice_get xs n ≡ Some entry
  pub called : name_of entry ≡ name

found_from : {A : Type 0} (name_of : A → List ℕ) (i : ℕ) (xs : List A) (name : List ℕ) (n : ℕ) → place_from name_of i xs name ≡ Some n →
    (k : ℕ) × (n ≡ i + k) × Named name_of xs name k
found_from name_of i [] name n e = absurd (cc)
found_from {A} name_of i (x ∷ xs) name n e = go (λ f. found_from name_of (suc i) xs name n f) (same_name (name_of x) name) refl e
  where
    later : ((k : ℕ) × (n ≡ suc i + k) × Named name_of xs name k) → (k : ℕ) × (n ≡ i + k) × Named name_of (x ∷ xs) name k
    later h = (suc h.0, (let m = h.1 in omega (arith, m)), record { entry = h.2.entry; is = h.2.is; called = h.2.called })

    Rec : Type 0
    Rec = place_from name_of (suc i) xs name ≡ Some n → (k : ℕ) × (n ≡ suc i + k) × Named name_of xs name k

    go : Rec → (b : Bool) → same_name (name_of x) name ≡ b → cond b (Some i) (place_from name_of (suc i) xs name) ≡ Some n →
        (k : ℕ) × (n ≡ i + k) × Named name_of (x ∷ xs) name k
    go rec true t f = (0, (let s : i ≡ n = cc in omega (arith, s)), record { entry = x; is = refl; called = names_same (name_of x) name t })
    go rec false t f = later (rec f)

named : {A : Type 0} (name_of : A → List ℕ) (xs : List A) (name : List ℕ) (n : ℕ) → place_named name_of xs name ≡ Some n → Named name_of xs name n
named name_of xs name n e =
    let f = found_from name_of 0 xs name n e in
    let m = f.1 in
    let same : f.0 ≡ n = omega (arith, m) in
    subst (Named name_of xs name) same f.2

pub names_find : NamesFind
names_find d class name = (
  λ slot e. (let f = named (λ (s : Spec). s.name) (specs_of d class) (canonical name) slot e in (f.entry, f.is)),
  λ number e. (let f = named (λ (s : Signal). s.name) (class_of d class).signals (canonical name) number e in (f.entry, f.is)),
)

-- ** what a class has of a type

spec_below : (cs : List Class) (i : ℕ) (s : Spec) → IsIn s (read no_class cs i).specs → i < length cs
spec_below [] i s h = absurd h
spec_below (c ∷ cs) zero s h = omega arith
spec_below (c ∷ cs) (suc i) s h = let k = spec_below cs i s h in omega (arith, k)

signal_below : (cs : List Class) (i : ℕ) (s : Signal) → IsIn s (read no_class cs i).signals → i < length cs
signal_below [] i s h = absurd h
signal_below (c ∷ cs) zero s h = omega arith
signal_below (c ∷ cs) (suc i) s h = let k = signal_below cs i s h in omega (arith, k)

whole : (d : Definition) → TypesRead d → (class type : ℕ) → class < length d.types → type < length d.types → is_a d.types class type ≡ true →
    has_all_of d class type ≡ true
whole d types class type below low is =
    let own = all_in (λ c. list_all (λ t. implies (is_a d.types c t) (has_all_of d c t)) (types_of d)) (types_of d) class types.inherits (listed_in (λ t. t) (length d.types) class below) in
    let both = all_in (λ t. implies (is_a d.types class t) (has_all_of d class t)) (types_of d) type own (listed_in (λ t. t) (length d.types) type low) in
    subst (λ b. implies b (has_all_of d class type) ≡ true) is both

spec_found : (d : Definition) (class : ℕ) (name : List ℕ) (s : Spec) → is_spec s (spec_named d class name) ≡ true →
    (own : ℕ) × (slot_of d class name ≡ Some own) × (spec_of d class own ≡ Some s)
spec_found d class name s e = go (slot_of d class name) refl e
  where
    of : (own : ℕ) (o : Option Spec) → slot_of d class name ≡ Some own → spec_of d class own ≡ o → is_spec s o ≡ true →
        (own : ℕ) × (slot_of d class name ≡ Some own) × (spec_of d class own ≡ Some s)
    of own None f g h = absurd (cc)
    of own (Some t) f g h = (own, f, g ∙ ap (λ (s : Spec). Some s) (sym (specs_same s t h)))

    at : Option ℕ → Option Spec
    at None = None
    at (Some slot) = spec_of d class slot

    go : (o : Option ℕ) → slot_of d class name ≡ o → is_spec s (at o) ≡ true → (own : ℕ) × (slot_of d class name ≡ Some own) × (spec_of d class own ≡ Some s)
    go None f h = absurd (cc)
    go (Some own) f h = of own (spec_of d class own) f refl h

signal_found : (d : Definition) (class : ℕ) (name : List ℕ) (s : Signal) → is_signal s (signal_named d class name) ≡ true →
    (own : ℕ) × (signal_number d class name ≡ Some own) × (signal_of d class own ≡ Some s)
signal_found d class name s e = go (signal_number d class name) refl e
  where
    of : (own : ℕ) (o : Option Signal) → signal_number d class name ≡ Some own → signal_of d class own ≡ o → is_signal s o ≡ true →
        (own : ℕ) × (signal_number d class name ≡ Some own) × (signal_of d class own ≡ Some s)
    of own None f g h = absurd (cc)
    of own (Some t) f g h = (own, f, g ∙ ap (λ (s : Signal). Some s) (sym (signals_same s t h)))

    at : Option ℕ → Option Signal
    at None = None
    at (Some number) = signal_of d class number

    go : (o : Option ℕ) → signal_number d class name ≡ o → is_signal s (at o) ≡ true → (own : ℕ) × (signal_number d class name ≡ Some own) × (signal_of d class own ≡ Some s)
    go None f h = absurd (cc)
    go (Some own) f h = of own (signal_of d class own) f refl h

-- the name under which something is found, and its own, lead to one place
same_slot : (d : Definition) (class : ℕ) (own name : List ℕ) → own ≡ canonical name → slot_of d class own ≡ slot_of d class name
same_slot d class own name e = ap (place_named (λ (s : Spec). s.name) (specs_of d class)) (ap canonical e ∙ canonical_once name)

same_number : (d : Definition) (class : ℕ) (own name : List ℕ) → own ≡ canonical name → signal_number d class own ≡ signal_number d class name
same_number d class own name e = ap (place_named (λ (s : Signal). s.name) (class_of d class).signals) (ap canonical e ∙ canonical_once name)

pub specs_inherit : SpecsInherit
specs_inherit d types class type slot name s below is finds there =
    let f = named (λ (s : Spec). s.name) (specs_of d type) (canonical name) slot finds in
    let same : f.entry ≡ s = (let g = f.is in cc) in
    let called : s.name ≡ canonical name = ap (λ (s : Spec). s.name) (sym same) ∙ f.called in
    let here = get_in (specs_of d type) slot s there in
    let low : type < length d.types = (let k = spec_below d.classes type s here in let n = types.classes in omega (arith, k, n)) in
    let all = both_parts (list_all (λ (s : Spec). is_spec s (spec_named d class s.name)) (specs_of d type)) _ (whole d types class type below low is) in
    let h = spec_found d class s.name s (all_in (λ (s : Spec). is_spec s (spec_named d class s.name)) (specs_of d type) s all.0 here) in
    (h.0, sym (same_slot d class s.name name called) ∙ h.1, h.2)

pub signals_inherit : SignalsInherit
signals_inherit d types class type number name s below is finds there =
    let f = named (λ (s : Signal). s.name) (class_of d type).signals (canonical name) number finds in
    let same : f.entry ≡ s = (let g = f.is in cc) in
    let called : s.name ≡ canonical name = ap (λ (s : Signal). s.name) (sym same) ∙ f.called in
    let here = get_in (class_of d type).signals number s there in
    let low : type < length d.types = (let k = signal_below d.classes type s here in let n = types.classes in omega (arith, k, n)) in
    let all = both_parts (list_all (λ (s : Spec). is_spec s (spec_named d class s.name)) (specs_of d type)) _ (whole d types class type below low is) in
    let h = signal_found d class s.name s (all_in (λ (s : Signal). is_signal s (signal_named d class s.name)) (class_of d type).signals s all.1 here) in
    (h.0, sym (same_number d class s.name name called) ∙ h.1, h.2)

-- ** `notify`

-- what the first entry is called is found there
found_first : {A : Type 0} (name_of : A → List ℕ) (xs : List A) (name : List ℕ) (x : A) (n : ℕ) → slice_get xs 0 ≡ Some x → same_name (name_of x) name ≡ true →
    place_named name_of xs name ≡ Some n → n ≡ 0
found_first name_of [] name x n e h f = absurd (cc)
found_first name_of (y ∷ ys) name x n e h f =
    let s : x ≡ y = cc in
    let t = ap (λ x. same_name (name_of x) name) (sym s) ∙ h in
    let g = subst (λ b. cond b (Some 0) (place_from name_of 1 ys name) ≡ Some n) t f in
    cc

name_itself : (s : List ℕ) → same_name s s ≡ true
name_itself [] = refl
name_itself (x ∷ xs) = ap (λ b. cond b (same_name xs xs) false) (eq-eqb x x refl) ∙ name_itself xs

pub emitted_inherit : EmittedInherit
emitted_inherit d types class type number own name finds own_finds positive = go own refl
  where
    of_type : HasNotify d type
    of_type = let f = (names_find d type name).1 number finds in types.first type number f.0 f.1

    of_class : HasNotify d class
    of_class = let f = (names_find d class name).1 own own_finds in types.first class own f.0 f.1

    notify_named : (n : ℕ) → signal_number d class name ≡ Some n → n ≡ 0 → canonical name ≡ codes "notify"
    notify_named n f none =
        let found = named (λ (s : Signal). s.name) (class_of d class).signals (canonical name) n f in
        let at : signal_of d class 0 ≡ Some found.entry = ap (λ n. signal_of d class n) (sym none) ∙ found.is in
        let same : found.entry ≡ of_class.signal = (let g = of_class.is in cc) in
        sym found.called ∙ (ap (λ (s : Signal). s.name) same ∙ of_class.name)

    first : canonical name ≡ codes "notify" → number ≡ 0
    first called =
        found_first (λ (s : Signal). s.name) (class_of d type).signals (canonical name) of_type.signal number of_type.is
        (ap (λ x. same_name x (canonical name)) (of_type.name ∙ sym called) ∙ name_itself (canonical name)) finds

    go : (n : ℕ) → own ≡ n → 0 < own
    go zero e = absurd (let z = first (notify_named own own_finds e) in omega (arith, z, positive))
    go (suc n) e = omega (arith, e)

-- ** own names

-- among distinct names the first that is called so is the one
finds_own : (xs : List Spec) (i slot : ℕ) (name : List ℕ) (s : Spec) → no_two same_name (map (λ (s : Spec). s.name) xs) ≡ true → slice_get xs slot ≡ Some s → s.name ≡ name →
    place_from (λ (s : Spec). s.name) i xs name ≡ Some (i + slot)
finds_own [] i slot name s two e called = absurd (cc)
finds_own (x ∷ xs) i zero name s two e called =
    let same : s ≡ x = cc in
    let here : same_name x.name name ≡ true = ap (λ (x : Spec). same_name x.name name) (sym same) ∙ (ap (λ n. same_name n name) called ∙ name_itself name) in
    ap (λ b. cond b (Some i) (place_from (λ (s : Spec). s.name) (suc i) xs name)) here ∙ ap (λ (n : ℕ). Some n) (let z : i ≡ i + 0 = omega arith in z)
finds_own (x ∷ xs) i (suc slot) name s two e called = go (finds_own xs (suc i) slot name s parts.1 e called) (same_name x.name name) refl
  where
    parts : (not (list_any (same_name x.name) (map (λ (s : Spec). s.name) xs)) ≡ true) × (no_two same_name (map (λ (s : Spec). s.name) xs) ≡ true)
    parts = both_parts (not (list_any (same_name x.name) (map (λ (s : Spec). s.name) xs))) (no_two same_name (map (λ (s : Spec). s.name) xs)) two

    go : place_from (λ (s : Spec). s.name) (suc i) xs name ≡ Some (suc i + slot) → (b : Bool) → same_name x.name name ≡ b →
        cond b (Some i) (place_from (λ (s : Spec). s.name) (suc i) xs name) ≡ Some (i + suc slot)
    go later true t =
        absurd (let found = any_true (same_name x.name) (map (λ (s : Spec). s.name) xs) s.name (map_in (λ (s : Spec). s.name) xs s (get_in xs slot s e)) (ap (same_name x.name) called ∙ t) in
        let none = parts.0 in let k = ap not found in let z : true ≡ false = sym none ∙ k in cc)
    go later false t = later ∙ ap (λ (n : ℕ). Some n) (let z : suc i + slot ≡ i + suc slot = omega arith in z)

class_in : (cs : List Class) (i slot : ℕ) (s : Spec) → list_all (λ (c : Class). no_two same_name (map (λ (s : Spec). s.name) c.specs)) cs ≡ true → slice_get (read no_class cs i).specs slot ≡ Some s →
    no_two same_name (map (λ (s : Spec). s.name) (read no_class cs i).specs) ≡ true
class_in [] i slot s all e = absurd (cc)
class_in (c ∷ cs) zero slot s all e = (both_parts (no_two same_name (map (λ (s : Spec). s.name) c.specs)) _ all).0
class_in (c ∷ cs) (suc i) slot s all e = class_in cs i slot s (both_parts (no_two same_name (map (λ (s : Spec). s.name) c.specs)) _ all).1 e

pub own_name_finds : OwnNameFinds
own_name_finds d types class slot name s e called =
    finds_own (specs_of d class) 0 slot (canonical name) s (class_in d.classes class slot s types.names e) e called ∙ ap (λ (n : ℕ). Some n) (let z : 0 + slot ≡ slot = omega arith in z)
