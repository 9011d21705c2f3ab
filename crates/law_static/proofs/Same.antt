-- What the tests of sameness find the same is equal.
use Rattle.std.proofs.Common.{◌≡◌, refl, sym, ap, ◌∙◌, ℕ, Bool, true, false, cond, List, [], ◌∷◌, Option, None, Some}
use Rattle.std.specs.Prelude.{ℤ, nat_eq}
use Rattle.std.specs.Ordering.{int_eq}
use Rattle.std.specs.Cmp.{signed_Decides}
use Rattle.std.proofs.lemmas.Bool.{eqb-true}
use Rattle.ui_machine.specs.Definition.Names.{same_name, canonical}
use Rattle.ui_machine.specs.Definition.Kinds.{Whole, int, uint, int64, uint64, Kind}
use Rattle.ui_machine.specs.Definition.Kinds as kinds
use Rattle.ui_machine.specs.Definition.Values.{Value}
use Rattle.ui_machine.specs.Definition.Values as values
use Rattle.ui_machine.specs.Definition.Properties.{Spec}
use Rattle.ui_machine.specs.Definition.Signals.{Accumulator, true_handled, first_wins, Signal}
use Rattle.ui_machine.specs.Rules.Transform.{same_whole, same_kind, same_bool, same_text, same_object, same_value}
use Rattle.law_typing.specs.Verdict.Inherits.{same_spec, same_kinds, same_result, same_accumulator, same_signal}
use Rattle.law_typing.proofs.Lists.{both_parts}

pub names_same : (a b : List ℕ) → same_name a b ≡ true → a ≡ b
names_same [] [] e = refl
names_same [] (y ∷ ys) e = absurd (cc)
names_same (x ∷ xs) [] e = absurd (cc)
names_same (x ∷ xs) (y ∷ ys) e = go (λ h. names_same xs ys h) (nat_eq x y) refl e
  where
    go : (same_name xs ys ≡ true → xs ≡ ys) → (b : Bool) → nat_eq x y ≡ b → cond b (same_name xs ys) false ≡ true → x ∷ xs ≡ y ∷ ys
    go rest true t h = let first = eqb-true x y t in let later = rest h in cc
    go rest false t h = absurd (cc)

-- a name in canonical spelling is its own
pub canonical_once : (name : List ℕ) → canonical (canonical name) ≡ canonical name
canonical_once [] = refl
canonical_once (x ∷ xs) = go (canonical_once xs) (nat_eq x 95) refl
  where
    go : canonical (canonical xs) ≡ canonical xs → (b : Bool) → nat_eq x 95 ≡ b →
        cond (nat_eq (cond b 45 x) 95) 45 (cond b 45 x) ∷ canonical (canonical xs) ≡ cond b 45 x ∷ canonical xs
    go later true t = ap (λ ys. 45 ∷ ys) later
    go later false t = ap (λ c. cond c 45 x ∷ canonical (canonical xs)) t ∙ ap (λ ys. x ∷ ys) later

pub wholes_same : (k l : Whole) → same_whole k l ≡ true → k ≡ l
wholes_same int int e = refl
wholes_same uint uint e = refl
wholes_same int64 int64 e = refl
wholes_same uint64 uint64 e = refl
wholes_same _ _ e = absurd (cc)

pub kind_same : (k l : Kind) → same_kind k l ≡ true → k ≡ l
kind_same kinds.bool kinds.bool e = refl
kind_same (kinds.whole k) (kinds.whole l) e = ap kinds.whole (wholes_same k l e)
kind_same kinds.text kinds.text e = refl
kind_same (kinds.enum t) (kinds.enum u) e = ap kinds.enum (eqb-true t u e)
kind_same (kinds.flags t) (kinds.flags u) e = ap kinds.flags (eqb-true t u e)
kind_same (kinds.object t) (kinds.object u) e = ap kinds.object (eqb-true t u e)
kind_same _ _ e = absurd (cc)

kind_lists_same : (ks ls : List Kind) → same_kinds ks ls ≡ true → ks ≡ ls
kind_lists_same [] [] e = refl
kind_lists_same [] (l ∷ ls) e = absurd (cc)
kind_lists_same (k ∷ ks) [] e = absurd (cc)
kind_lists_same (k ∷ ks) (l ∷ ls) e =
    let b = both_parts (same_kind k l) (same_kinds ks ls) e in
    let first = kind_same k l b.0 in
    let later = kind_lists_same ks ls b.1 in
    cc

bools_same : (a b : Bool) → same_bool a b ≡ true → a ≡ b
bools_same false false e = refl
bools_same false true e = absurd (cc)
bools_same true b e = sym e

numbers_same : (m n : ℤ) → int_eq m n ≡ true → m ≡ n
numbers_same m n e = (signed_Decides m n).0 e

texts_same : (s t : Option (List ℕ)) → same_text s t ≡ true → s ≡ t
texts_same None None e = refl
texts_same (Some s) (Some t) e = ap (λ (s : List ℕ). Some s) (names_same s t e)
texts_same _ _ e = absurd (cc)

objects_same : (a b : Option ℕ) → same_object a b ≡ true → a ≡ b
objects_same None None e = refl
objects_same (Some a) (Some b) e = ap (λ (n : ℕ). Some n) (eqb-true a b e)
objects_same _ _ e = absurd (cc)

pub values_same : (v u : Value) → same_value v u ≡ true → v ≡ u
values_same (values.bool a) (values.bool b) e = ap values.bool (bools_same a b e)
values_same (values.whole k m) (values.whole l n) e =
    let b = both_parts (same_whole k l) (int_eq m n) e in
    let first = wholes_same k l b.0 in
    let later = numbers_same m n b.1 in
    cc
values_same (values.text s) (values.text t) e = ap values.text (texts_same s t e)
values_same (values.enum t m) (values.enum u n) e =
    let b = both_parts (nat_eq t u) (int_eq m n) e in
    let first = eqb-true t u b.0 in
    let later = numbers_same m n b.1 in
    cc
values_same (values.flags t x) (values.flags u y) e =
    let b = both_parts (nat_eq t u) (nat_eq x y) e in
    let first = eqb-true t u b.0 in
    let later = eqb-true x y b.1 in
    cc
values_same (values.object a) (values.object b) e = ap values.object (objects_same a b e)
values_same _ _ e = absurd (cc)

results_same : (a b : Option Kind) → same_result a b ≡ true → a ≡ b
results_same None None e = refl
results_same (Some k) (Some l) e = ap (λ (k : Kind). Some k) (kind_same k l e)
results_same _ _ e = absurd (cc)

accumulators_same : (a b : Option Accumulator) → same_accumulator a b ≡ true → a ≡ b
accumulators_same None None e = refl
accumulators_same (Some true_handled) (Some true_handled) e = refl
accumulators_same (Some first_wins) (Some first_wins) e = refl
accumulators_same _ _ e = absurd (cc)

pub specs_same : (s t : Spec) → same_spec s t ≡ true → s ≡ t
specs_same s t e =
    let a = both_parts (same_name s.name t.name) _ e in
    let b = both_parts (same_kind s.kind t.kind) _ a.1 in
    let c = both_parts (nat_eq s.flags t.flags) _ b.1 in
    let f = both_parts (same_value s.default t.default) _ c.1 in
    let g = both_parts (int_eq s.low t.low) _ f.1 in
    let h = both_parts (int_eq s.high t.high) (same_bool s.weak t.weak) g.1 in
    ap (λ x. record s { name = x }) (names_same s.name t.name a.0)
    ∙ (ap (λ x. record s { name = t.name; kind = x }) (kind_same s.kind t.kind b.0)
    ∙ (ap (λ x. record s { name = t.name; kind = t.kind; flags = x }) (eqb-true s.flags t.flags c.0)
    ∙ (ap (λ x. record s { name = t.name; kind = t.kind; flags = t.flags; default = x }) (values_same s.default t.default f.0)
    ∙ (ap (λ x. record t { low = x; high = s.high; weak = s.weak }) (numbers_same s.low t.low g.0)
    ∙ (ap (λ x. record t { high = x; weak = s.weak }) (numbers_same s.high t.high h.0)
    ∙ ap (λ x. record t { weak = x }) (bools_same s.weak t.weak h.1))))))

pub signals_same : (s t : Signal) → same_signal s t ≡ true → s ≡ t
signals_same s t e =
    let a = both_parts (same_name s.name t.name) _ e in
    let b = both_parts (same_kinds s.params t.params) _ a.1 in
    let c = both_parts (same_result s.result t.result) _ b.1 in
    let f = both_parts (nat_eq s.flags t.flags) (same_accumulator s.accumulator t.accumulator) c.1 in
    ap (λ x. record s { name = x }) (names_same s.name t.name a.0)
    ∙ (ap (λ x. record s { name = t.name; params = x }) (kind_lists_same s.params t.params b.0)
    ∙ (ap (λ x. record t { result = x; flags = s.flags; accumulator = s.accumulator }) (results_same s.result t.result c.0)
    ∙ (ap (λ x. record t { flags = x; accumulator = s.accumulator }) (eqb-true s.flags t.flags f.0)
    ∙ ap (λ x. record t { accumulator = x }) (accumulators_same s.accumulator t.accumulator f.1))))
