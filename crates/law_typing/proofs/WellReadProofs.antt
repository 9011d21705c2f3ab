-- What the tests find is so, and they find it of each worked definition.
use Rattle.std.proofs.Common.{◌≡◌, inl, inr, ◌⊎◌, refl, sym, subst, ap, ◌∙◌, ℕ, zero, suc, ◌<◌, Bool, true, false, cond, List, [], ◌∷◌, ◌++◌, length, Option, None, Some, slice_get}
use Rattle.std.specs.Prelude.{not, ◌&&◌, nat_eq, nat_lt, nat_le, is_none, codes}
use Rattle.std.specs.List.{list_any, list_all, flat_map}
use Rattle.std.proofs.lemmas.Bool.{and_from, leb-true, ltb-true, eqb-true}
use Rattle.ui_machine.specs.Seq.{read}
use Rattle.ui_machine.specs.Definition.Names.{same_name, canonical, place_named}
use Rattle.ui_machine.specs.Rules.Programs.{is_number}
use Rattle.ui_machine.specs.Rules.Connections.{signal_number}
use Rattle.ui_machine.specs.Definition.Kinds.{Whole, int, uint, int64, uint64, Kind, RegisterKind}
use Rattle.ui_machine.specs.Definition.Kinds as kinds
use Rattle.ui_machine.specs.Definition.Types as sorts
use Rattle.ui_machine.specs.Definition.Types.{Sort, GType}
use Rattle.ui_machine.specs.Output.Text.{no_type}
use Rattle.ui_machine.specs.Rules.Transform.{same_whole, same_kind}
use Rattle.ui_machine.specs.Rules.Ancestry.{is_a, lineage, line_from, implemented_by, implemented, is_or_implements, parent_of}
use Rattle.ui_machine.specs.Definition.Properties.{Spec, is_construct_only}
use Rattle.ui_machine.specs.Definition.{Definition, Class}
use Rattle.ui_machine.specs.Definition.Signals.{Signal}
use Rattle.ui_machine.specs.Definition.Programs.{Instruction, Block, Program}
use Rattle.ui_machine.specs.Definition.Places.{Given, value, named, GivenProperty, Attached, Place, Bind}
use Rattle.ui_machine.specs.Definition.Programs as words
use Rattle.ui_machine.specs.Definition.Lookups.{no_class, class_of, type_of, spec_of, place_at}
use Rattle.ui_machine.specs.Rules.EmissionPlan.{signal_of}
use Rattle.ui_machine.specs.Rules.Construction.{is_forward, nearest_shape}
use Rattle.law_typing.specs.Rules.RegisterKinds.{Kinds}
use Rattle.law_typing.specs.Rules.Brackets.{written, is_empty}
use Rattle.law_typing.specs.Graph.{next_of}
use Rattle.law_typing.specs.Verdict.Accepted.{Each}
use Rattle.law_typing.specs.Laws.WellRead.{SpecRead, HasNotify, TypesRead, Ends, ends, Within, ConstantFits, EndsInJump, RepeatRead, BlockRead, ProgramRead, GivenFits, GivenRead, IsObject, IsObjectIf, PlaceRead, WellRead}
use Rattle.law_typing.proofs.Lists.{both_parts, either_part}
use Rattle.law_typing.proofs.Numbered.{all_from, all_from_get, all_from_read, all_from_below, all_get}
use Rattle.law_typing.proofs.BuildBegins.{each_all}
use Rattle.law_typing.proofs.ReadTests as tests

-- ** tests

implied : (a b : Bool) → tests.implies a b ≡ true → a ≡ true → b ≡ true
implied true b e h = e
implied false b e h = absurd (cc)

not_true : (b : Bool) → not b ≡ true → b ≡ false
not_true true e = absurd (cc)
not_true false e = refl

false_not : (b : Bool) → b ≡ false → not b ≡ true
false_not b e = ap not e

none_left : {A : Type 0} (xs : List A) → is_empty xs ≡ true → xs ≡ []
none_left [] e = refl
none_left (x ∷ xs) e = absurd (cc)

names_same : (a b : List ℕ) → same_name a b ≡ true → a ≡ b
names_same [] [] e = refl
names_same [] (y ∷ ys) e = absurd (cc)
names_same (x ∷ xs) [] e = absurd (cc)
names_same (x ∷ xs) (y ∷ ys) e = go (λ h. names_same xs ys h) (nat_eq x y) refl e
  where
    go : (same_name xs ys ≡ true → xs ≡ ys) → (b : Bool) → nat_eq x y ≡ b → cond b (same_name xs ys) false ≡ true → x ∷ xs ≡ y ∷ ys
    go rest true t h = let first = eqb-true x y t in let later = rest h in cc
    go rest false t h = absurd (cc)

class_is : (s : Sort) → tests.is_class s ≡ true → s ≡ sorts.class
class_is sorts.class e = refl
class_is _ e = absurd (cc)

-- ** types

parents : (types : List GType) → all_from (λ t (x : GType). tests.is_below x.parent t) 0 types ≡ true → (t parent : ℕ) → parent_of types t ≡ Some parent → parent < t
parents types e t parent is = go (all_from_read _ no_type types t e)
  where
    below : (o : Option ℕ) → o ≡ Some parent → tests.is_below o t ≡ true → parent < t
    below None h b = absurd (cc)
    below (Some m) h b = let same : m ≡ parent = cc in subst (λ n. n < t) same (ltb-true m t b)

    go : (tests.is_below (parent_of types t) t ≡ true) ⊎ (read no_type types t ≡ no_type) → parent < t
    go (inl h) = below (parent_of types t) is h
    go (inr h) = absurd (let none : parent_of types t ≡ None = ap (λ (x : GType). x.parent) h in let f = sym none ∙ is in cc)

-- a test of all of two lists is one of each
all_append : {A : Type 0} (test : A → Bool) (xs ys : List A) → list_all test (xs ++ ys) ≡ true → (list_all test xs ≡ true) × (list_all test ys ≡ true)
all_append test [] ys e = (refl, e)
all_append test (x ∷ xs) ys e =
    let first = both_parts (test x) (list_all test (xs ++ ys)) e in
    let rest = all_append test xs ys first.1 in
    (and_from (test x) (list_all test xs) first.0 rest.0, rest.1)

-- what is among some numbers passes what all of them pass
among : (test : ℕ → Bool) (xs : List ℕ) (c : ℕ) → list_any (nat_eq c) xs ≡ true → list_all test xs ≡ true → test c ≡ true
among test [] c e all = absurd (cc)
among test (x ∷ xs) c e all =
    let parts = both_parts (test x) (list_all test xs) all in
    go (λ h. among test xs c h parts.1) parts.0 (either_part (nat_eq c x) (list_any (nat_eq c) xs) e)
  where
    go : (list_any (nat_eq c) xs ≡ true → test c ≡ true) → test x ≡ true → (nat_eq c x ≡ true) ⊎ (list_any (nat_eq c) xs ≡ true) → test c ≡ true
    go later own (inl h) = subst (λ n. test n ≡ true) (sym (eqb-true c x h)) own
    go later own (inr h) = later h

-- what a type is passes what all of the types above pass
is_above : (types : List GType) (test : ℕ → Bool) (c : ℕ) (line : List ℕ) → list_any (is_or_implements types c) line ≡ true →
    list_all test (flat_map (λ s. s ∷ implemented_by types s) line) ≡ true → test c ≡ true
is_above types test c [] e all = absurd (cc)
is_above types test c (t ∷ line) e all =
    let first = both_parts (test t) (list_all test (implemented_by types t ++ flat_map (λ s. s ∷ implemented_by types s) line)) all in
    let parts = all_append test (implemented_by types t) (flat_map (λ s. s ∷ implemented_by types s) line) first.1 in
    go (λ h. is_above types test c line h parts.1) first.0 parts.0 (either_part (is_or_implements types c t) (list_any (is_or_implements types c) line) e)
  where
    itself : test t ≡ true → list_all test (implemented_by types t) ≡ true → (nat_eq t c ≡ true) ⊎ (list_any (nat_eq c) (implemented_by types t) ≡ true) → test c ≡ true
    itself own all (inl h) = subst (λ n. test n ≡ true) (eqb-true t c h) own
    itself own all (inr h) = among test (implemented_by types t) c h all

    go : (list_any (is_or_implements types c) line ≡ true → test c ≡ true) → test t ≡ true → list_all test (implemented_by types t) ≡ true →
        (is_or_implements types c t ≡ true) ⊎ (list_any (is_or_implements types c) line ≡ true) → test c ≡ true
    go later own all (inl h) = itself own all (either_part (nat_eq t c) (list_any (nat_eq c) (implemented_by types t)) h)
    go later own all (inr h) = later h

-- past the last type each is itself alone
line_none : (n : ℕ) (types : List GType) → line_from n types None ≡ []
line_none zero types = refl
line_none (suc n) types = refl

alone : (types : List GType) (a b : ℕ) → read no_type types a ≡ no_type → is_a types a b ≡ true → a ≡ b
alone types a b past e =
    let no_parent : parent_of types a ≡ None = ap (λ (x : GType). x.parent) past in
    let line : lineage types a ≡ a ∷ [] = ap (λ o. a ∷ line_from (length types) types o) no_parent ∙ ap (λ l. a ∷ l) (line_none (length types) types) in
    let one : list_any (is_or_implements types b) (a ∷ []) ≡ true = subst (λ l. list_any (is_or_implements types b) l ≡ true) line e in
    go (either_part (is_or_implements types b a) false one)
  where
    none : implemented_by types a ≡ []
    none = ap (λ (x : GType). implemented x.sort x.interfaces) past

    here : (nat_eq a b ≡ true) ⊎ (list_any (nat_eq b) (implemented_by types a) ≡ true) → a ≡ b
    here (inl h) = eqb-true a b h
    here (inr h) = absurd (let f = subst (λ l. list_any (nat_eq b) l ≡ true) none h in cc)

    go : (is_or_implements types b a ≡ true) ⊎ (false ≡ true) → a ≡ b
    go (inl h) = here (either_part (nat_eq a b) (list_any (nat_eq b) (implemented_by types a)) h)
    go (inr h) = absurd (cc)

-- the test does not look at the entry, so that it holds at each number of one
transitive : (types : List GType) → all_from (λ t (x : GType). tests.is_transitive_at types t) 0 types ≡ true →
    (a b c : ℕ) → is_a types a b ≡ true → is_a types b c ≡ true → is_a types a c ≡ true
transitive types e a b c ab bc = go (all_from_read (λ t (x : GType). tests.is_transitive_at types t) no_type types a e)
  where
    go : (tests.is_transitive_at types a ≡ true) ⊎ (read no_type types a ≡ no_type) → is_a types a c ≡ true
    go (inl h) =
        let at_b = is_above types (λ b. list_all (is_a types a) (tests.above types b)) b (lineage types a) ab h in
        is_above types (is_a types a) c (lineage types b) bc at_b
    go (inr past) = subst (λ n. is_a types n c ≡ true) (sym (alone types a b past ab)) bc

-- the signal that each class has
has_notify : (d : Definition) (class : ℕ) → tests.is_notify (signal_of d class 0) ≡ true → HasNotify d class
has_notify d class e = go (signal_of d class 0) refl e
  where
    go : (o : Option Signal) → signal_of d class 0 ≡ o → tests.is_notify o ≡ true → HasNotify d class
    go None is h = absurd (cc)
    go (Some s) is h =
        let a = both_parts (same_name s.name (codes "notify")) _ h in
        let b = both_parts (nat_eq s.flags 17) _ a.1 in
        let c = both_parts (is_empty s.params) (is_none s.result) b.1 in
        record { signal = s; is = is; name = names_same _ _ a.0; flags = eqb-true s.flags 17 b.0; params = none_left s.params c.0; result = no_result s.result c.1 }
      where
        no_result : {A : Type 0} (o : Option A) → is_none o ≡ true → o ≡ None
        no_result None e = refl
        no_result (Some x) e = absurd (cc)

spec_read : (d : Definition) (s : Spec) → tests.is_spec_read d s ≡ true → SpecRead d s
spec_read d s e =
    let a = both_parts _ _ e in
    let b = both_parts _ _ a.1 in
    let c = both_parts _ _ b.1 in
    let f = both_parts _ _ c.1 in
    let g = both_parts _ _ f.1 in
    record { default = a.0; construct = implied _ _ b.0; construct_only = implied _ _ c.0; range = f.0; flags = g.0; values = g.1 }

-- all the entries of each class
specs_read : (d : Definition) → all_from (λ t (c : Class). list_all (tests.is_spec_read d) c.specs) 0 d.classes ≡ true →
    (class slot : ℕ) (s : Spec) → spec_of d class slot ≡ Some s → SpecRead d s
specs_read d e class slot s is = go (all_from_read (λ t (c : Class). list_all (tests.is_spec_read d) c.specs) no_class d.classes class e)
  where
    go : (list_all (tests.is_spec_read d) (class_of d class).specs ≡ true) ⊎ (class_of d class ≡ no_class) → SpecRead d s
    go (inl h) = spec_read d s (all_get (tests.is_spec_read d) (class_of d class).specs slot s h is)
    go (inr past) = absurd (let none : spec_of d class slot ≡ None = ap (λ (c : Class). slice_get c.specs slot) past in let f = sym none ∙ is in cc)

-- the signals of each type
first_read : (d : Definition) → all_from (λ t (c : Class). tests.begins_with_notify c.signals) 0 d.classes ≡ true →
    (type number : ℕ) (s : Signal) → signal_of d type number ≡ Some s → HasNotify d type
first_read d e type number s is = go (all_from_read (λ t (c : Class). tests.begins_with_notify c.signals) no_class d.classes type e)
  where
    begins : (signals : List Signal) (n : ℕ) → slice_get signals n ≡ Some s → tests.begins_with_notify signals ≡ true → tests.is_notify (slice_get signals 0) ≡ true
    begins [] n f h = absurd (cc)
    begins (x ∷ xs) n f h = h

    go : (tests.begins_with_notify (class_of d type).signals ≡ true) ⊎ (class_of d type ≡ no_class) → HasNotify d type
    go (inl h) = has_notify d type (begins (class_of d type).signals number is h)
    go (inr past) = absurd (let none : signal_of d type number ≡ None = ap (λ (c : Class). slice_get c.signals number) past in let f = sym none ∙ is in cc)

-- and a class has the shape of what it is
shapes : (d : Definition) → all_from (λ t (x : GType). tests.keeps_shapes_at d t) 0 d.types ≡ true → (class type shape : ℕ) → is_a d.types class type ≡ true →
    nearest_shape d type ≡ Some shape → nearest_shape d class ≡ Some shape
shapes d e class type shape is has = go (all_from_read (λ t (x : GType). tests.keeps_shapes_at d t) no_type d.types class e)
  where
    same : (own : Option ℕ) → tests.is_shape (Some shape) own ≡ true → own ≡ Some shape
    same None h = absurd (cc)
    same (Some own) h = ap (λ (n : ℕ). Some n) (sym (eqb-true shape own h))

    go : (tests.keeps_shapes_at d class ≡ true) ⊎ (read no_type d.types class ≡ no_type) → nearest_shape d class ≡ Some shape
    go (inl h) =
        same (nearest_shape d class)
        (subst (λ o. tests.is_shape o (nearest_shape d class) ≡ true) has
        (is_above d.types (λ t. tests.is_shape (nearest_shape d t) (nearest_shape d class)) type (lineage d.types class) is h))
    go (inr past) = ap (nearest_shape d) (alone d.types class type past is) ∙ has

-- and the name of each signal finds it
signals_found : (d : Definition) → all_from (λ t (c : Class). tests.finds_signals c) 0 d.classes ≡ true → (class number : ℕ) (s : Signal) → signal_of d class number ≡ Some s →
    signal_number d class s.name ≡ Some number
signals_found d e class number s is = go (all_from_read (λ t (c : Class). tests.finds_signals c) no_class d.classes class e)
  where
    there : (o : Option ℕ) → is_number number o ≡ true → o ≡ Some number
    there None h = absurd (cc)
    there (Some n) h = ap (λ (n : ℕ). Some n) (eqb-true n number h)

    go : (tests.finds_signals (class_of d class) ≡ true) ⊎ (class_of d class ≡ no_class) → signal_number d class s.name ≡ Some number
    go (inl h) =
        there (signal_number d class s.name)
        (all_from_get (λ n (s : Signal). is_number n (place_named (λ (s : Signal). s.name) (class_of d class).signals (canonical s.name))) (class_of d class).signals number s h is)
    go (inr past) = absurd (let none : signal_of d class number ≡ None = ap (λ (c : Class). slice_get c.signals number) past in let f = sym none ∙ is in cc)

types_read : (d : Definition) → tests.are_types_read d ≡ true → TypesRead d
types_read d e =
    let u = both_parts _ _ e in
    let x = both_parts _ _ u.1 in
    let y = both_parts _ _ x.1 in
    let z = both_parts _ _ y.1 in
    let a = both_parts _ _ z.1 in
    let b = both_parts _ _ a.1 in
    let c = both_parts _ _ b.1 in
    let f = both_parts _ _ c.1 in
    let g = both_parts _ _ f.1 in
    let h = both_parts _ _ g.1 in
    let i = both_parts _ _ h.1 in
    let j = both_parts _ _ i.1 in
    record {
      classes = eqb-true _ _ a.0;
      parents = parents d.types b.0;
      transitive = transitive d.types c.0;
      inherits = f.0;
      shapes = shapes d z.0;
      notify = λ class below is. notify class below is (all_from_below (tests.has_notify_at d) d.types class g.0 below);
      specs = specs_read d h.0;
      first = first_read d j.1;
      names = i.0;
      replies = y.0;
      results = j.0;
      members = x.0;
      signals = signals_found d u.0;
    }
  where
    notify : (class : ℕ) → class < length d.types → (type_of d class).sort ≡ sorts.class → tests.has_notify_at d class ≡ true → HasNotify d class
    notify class below is h = has_notify d class (implied _ _ h (ap tests.is_class is))

-- ** programs

wholes_same : (k l : Whole) → same_whole k l ≡ true → k ≡ l
wholes_same int int e = refl
wholes_same uint uint e = refl
wholes_same int64 int64 e = refl
wholes_same uint64 uint64 e = refl
wholes_same _ _ e = absurd (cc)

same_kinds : (k l : Kind) → same_kind k l ≡ true → k ≡ l
same_kinds kinds.bool kinds.bool e = refl
same_kinds (kinds.whole k) (kinds.whole l) e = ap kinds.whole (wholes_same k l e)
same_kinds kinds.text kinds.text e = refl
same_kinds (kinds.enum t) (kinds.enum u) e = ap kinds.enum (eqb-true t u e)
same_kinds (kinds.flags t) (kinds.flags u) e = ap kinds.flags (eqb-true t u e)
same_kinds (kinds.object t) (kinds.object u) e = ap kinds.object (eqb-true t u e)
same_kinds _ _ e = absurd (cc)

same_register_kinds : (k l : RegisterKind) → tests.same_register_kind k l ≡ true → k ≡ l
same_register_kinds kinds.unset kinds.unset e = refl
same_register_kinds (kinds.plain k) (kinds.plain l) e = ap kinds.plain (same_kinds k l e)
same_register_kinds (kinds.some t) (kinds.some u) e = ap kinds.some (eqb-true t u e)
same_register_kinds (kinds.at p) (kinds.at q) e = ap kinds.at (eqb-true p q e)
same_register_kinds (kinds.at_or_null p) (kinds.at_or_null q) e = ap kinds.at_or_null (eqb-true p q e)
same_register_kinds _ _ e = absurd (cc)

begins_with : (params ks : Kinds) → tests.begins_with params ks ≡ true → (rest : Kinds) × (ks ≡ params ++ rest) × Each (λ k. k ≡ kinds.unset) rest
begins_with [] ks e = (ks, refl, each_all (tests.same_register_kind kinds.unset) (λ k. k ≡ kinds.unset) (λ k h. sym (same_register_kinds kinds.unset k h)) ks e)
begins_with (p ∷ params) [] e = absurd (cc)
begins_with (p ∷ params) (k ∷ ks) e =
    let a = both_parts (tests.same_register_kind p k) (tests.begins_with params ks) e in
    let first = same_register_kinds p k a.0 in
    let later = begins_with params ks a.1 in
    (later.0, (let rest = later.1 in cc), later.2)

ended : (code : List Instruction) → tests.is_ended code ≡ true → Ends code
ended [] e = absurd (cc)
ended (i ∷ []) e = e
ended (i ∷ j ∷ rest) e = let a = both_parts (not (ends i)) (tests.is_ended (j ∷ rest)) e in (not_true (ends i) a.0, ended (j ∷ rest) a.1)

ended_by_jump : (code : List Instruction) → tests.is_ended_by_jump code ≡ true → EndsInJump code
ended_by_jump [] e = absurd (cc)
ended_by_jump (i ∷ []) e = e
ended_by_jump (i ∷ j ∷ rest) e = ended_by_jump (j ∷ rest) e

repeat_read : (o : Option ℕ) (code : List Instruction) → tests.is_repeat_read o code ≡ true → RepeatRead o code
repeat_read None code e = tt
repeat_read (Some n) code e =
    let a = both_parts (nat_lt 0 n) (nat_le n 65_535 && tests.is_ended_by_jump code) e in
    let b = both_parts (nat_le n 65_535) (tests.is_ended_by_jump code) a.1 in
    (ltb-true 0 n a.0, leb-true n 65_535 b.0, ended_by_jump code b.1)

constant_fits : (d : Definition) (i : Instruction) → tests.is_constant_fit d i ≡ true → ConstantFits d i
constant_fits d (words.const to kind v) e = e
constant_fits d (words.convert to a kind) e = e
constant_fits d _ e = tt

within : (registers : ℕ) (o : Option ℕ) → tests.is_within registers o ≡ true → Within registers o
within registers None e = tt
within registers (Some r) e = ltb-true r registers e

block_read : (d : Definition) (p : Program) (number : ℕ) (b : Block) → tests.is_block_read d p number b ≡ true → BlockRead d p number b
block_read d p number b e =
    let r = both_parts _ _ e in
    let s = both_parts _ _ r.1 in
    let t = both_parts _ _ s.1 in
    let u = both_parts _ _ t.1 in
    let v = both_parts _ _ u.1 in
    record {
      entry = eqb-true _ _ r.0;
      repeat = repeat_read b.repeat b.code s.0;
      ends = ended b.code t.0;
      constants = each_all _ _ (constant_fits d) b.code u.0;
      written = each_all _ _ (λ i. within p.registers (written i)) b.code v.0;
      next = each_all _ _ (λ i. each_all _ _ next (next_of i)) b.code v.1;
    }
  where
    next : (to : ℕ) → (nat_lt number to && nat_lt to (length p.blocks)) ≡ true → (number < to) × (to < length p.blocks)
    next to h = let a = both_parts _ _ h in (ltb-true number to a.0, ltb-true to (length p.blocks) a.1)

program_read : (d : Definition) (p : Program) → tests.is_program_read d p ≡ true → ProgramRead d p
program_read d p e =
    let a = both_parts _ _ e in
    let b = both_parts _ _ a.1 in
    let c = both_parts _ _ b.1 in
    record {
      params = leb-true _ _ a.0;
      given = c.1;
      first = λ f is. first f (subst (λ o. tests.begins_first p.params o ≡ true) is b.0);
      some = some (slice_get p.blocks 0) refl b.0;
      blocks = λ number f is. block_read d p number f (all_from_get (tests.is_block_read d p) p.blocks number f c.0 is);
    }
  where
    first : (b : Block) → tests.begins_first p.params (Some b) ≡ true → (rest : Kinds) × (b.entry ≡ p.params ++ rest) × Each (λ k. k ≡ kinds.unset) rest
    first b h = begins_with p.params b.entry h

    some : (o : Option Block) → slice_get p.blocks 0 ≡ o → tests.begins_first p.params o ≡ true → (b : Block) × (slice_get p.blocks 0 ≡ Some b)
    some None is h = absurd (cc)
    some (Some b) is h = (b, is)

-- ** places

-- a test of what a place may be
some_object : (d : Definition) (place : ℕ) → tests.is_object_if (place_at d place) ≡ true → IsObject d place
some_object d place e = go (place_at d place) refl e
  where
    go : (o : Option Place) → place_at d place ≡ o → tests.is_object_if o ≡ true → IsObject d place
    go None is h = absurd (cc)
    go (Some p) is h = (p, is, not_true p.is_prototype h)

given_fits : (d : Definition) (kind : Kind) (g : Given) → tests.is_given_fit d kind g ≡ true → GivenFits d kind g
given_fits d kind (value v) e = e
given_fits d (kinds.object type) (named to) e = go (place_at d to) refl e
  where
    go : (o : Option Place) → place_at d to ≡ o → tests.is_place_of d type o ≡ true → GivenFits d (kinds.object type) (named to)
    go None is h = absurd (cc)
    go (Some p) is h = let a = both_parts _ _ h in (p, type, is, not_true p.is_prototype a.0, refl, a.1)
given_fits d _ (named to) e = absurd (cc)

given_read : (d : Definition) (place : ℕ) (p : Place) (g : GivenProperty) → tests.is_given_read d place p g ≡ true → GivenRead d place p g
given_read d place p g e = go (spec_of d p.class g.slot) refl e
  where
    go : (o : Option Spec) → spec_of d p.class g.slot ≡ o → tests.is_given_to d place g.given o ≡ true → GivenRead d place p g
    go None is h = absurd (cc)
    go (Some s) is h =
        let a = both_parts _ _ h in
        let b = both_parts _ _ a.1 in
        record {
          spec = s;
          is = is;
          writable = a.0;
          fits = given_fits d s.kind g.given b.0;
          forward = λ f. not_true (is_construct_only s) (implied (is_forward place g.given) (not (is_construct_only s)) b.1 f);
        }

parent_read : (d : Definition) (place : ℕ) (o : Option ℕ) → tests.is_parent_read d place o ≡ true → (above : ℕ) → o ≡ Some above → (above < place) × IsObject d above
parent_read d place None e above is = absurd (cc)
parent_read d place (Some a) e above is =
    let both = both_parts _ _ e in
    let same : a ≡ above = cc in
    subst (λ n. (n < place) × IsObject d n) same (ltb-true a place both.0, some_object d a both.1)

data_read : (d : Definition) (o : Option ℕ) → tests.is_data_read d o ≡ true → IsObjectIf d o
data_read d None e = tt
data_read d (Some place) e = some_object d place e

place_read : (d : Definition) (number : ℕ) (p : Place) → tests.is_place_read d number p ≡ true → PlaceRead d number p
place_read d number p e =
    let a = both_parts _ _ e in
    let b = both_parts _ _ a.1 in
    let c = both_parts _ _ b.1 in
    let f = both_parts _ _ c.1 in
    let g = both_parts _ _ f.1 in
    let h = both_parts _ _ g.1 in
    let i = both_parts _ _ h.1 in
    let j = both_parts _ _ i.1 in
    let k = both_parts _ _ j.1 in
    record {
      known = ltb-true _ _ a.0;
      class = class_is (type_of d p.class).sort b.0;
      concrete = not_true (type_of d p.class).is_abstract c.0;
      parent = parent_read d number p.parent f.0;
      given = each_all _ _ (given_read d number p) p.given g.0;
      slots = h.0;
      plain = λ is. implied p.is_prototype _ i.0 is;
      silent = λ is. none_left p.signals (implied p.is_prototype _ j.0 is);
      peers = λ is. eqb-true _ _ (implied (not p.is_prototype) _ k.0 (false_not p.is_prototype is));
      signals = each_all _ _ (λ (s : Attached). data_read d s.with) p.signals k.1;
    }

-- ** the whole

in_order : (places : List Place) → tests.is_in_order places ≡ true → (a b : ℕ) (p q : Place) → slice_get places a ≡ Some p → slice_get places b ≡ Some q →
    p.is_prototype ≡ true → q.is_prototype ≡ false → b < a
in_order places e a b p q at_a at_b proto object =
    let outer = all_from_get (λ a (p : Place). all_from (λ b (q : Place). tests.implies p.is_prototype (tests.implies (not q.is_prototype) (nat_lt b a))) 0 places) places a p e at_a in
    let inner = all_from_get (λ b (q : Place). tests.implies p.is_prototype (tests.implies (not q.is_prototype) (nat_lt b a))) places b q outer at_b in
    let here = implied p.is_prototype (tests.implies (not q.is_prototype) (nat_lt b a)) inner proto in
    ltb-true b a (implied (not q.is_prototype) (nat_lt b a) here (false_not q.is_prototype object))

pub well_read : (d : Definition) → tests.is_well_read d ≡ true → WellRead d
well_read d e =
    let a = both_parts _ _ e in
    let b = both_parts _ _ a.1 in
    let c = both_parts _ _ b.1 in
    let f = both_parts _ _ c.1 in
    let g = both_parts _ _ f.1 in
    let h = both_parts _ _ g.1 in
    let i = both_parts _ _ h.1 in
    let j = both_parts _ _ i.1 in
    record {
      types = types_read d a.0;
      programs = λ number p is. program_read d p (all_from_get (λ n (p : Program). tests.is_program_read d p) d.programs number p b.0 is);
      places = λ number p is. place_read d number p (all_from_get (tests.is_place_read d) d.places number p c.0 is);
      order = in_order d.places f.0;
      peers = g.0;
      bindings = each_all _ _ (λ (b : Bind). ends b) d.bindings h.0;
      objects = leb-true _ _ i.0;
      most_objects = leb-true _ 4096 j.0;
      most_handlers = leb-true _ 16 j.1;
    }
  where
    ends : (b : Bind) → (tests.is_object_if (place_at d b.source) && tests.is_object_if (place_at d b.target)) ≡ true → IsObject d b.source × IsObject d b.target
    ends b h = let x = both_parts _ _ h in (some_object d b.source x.0, some_object d b.target x.1)
