-- Bindings that are gone through one after the other, with the ends of those that go both ways.
use Rattle.std.proofs.Common.{Bool, true, false, ◌≡◌, refl, sym, ap, ◌∙◌, ℕ, suc, ◌+◌, nat_eq, cond, List, [], ◌∷◌, ◌++◌, drop, None, Some, slice_get, arith}
use Rattle.std.specs.Prelude.{◌&&◌, ◌||◌}
use Rattle.std.specs.List.{list_any}
use Rattle.std.specs.BTreeSet.{BTreeSet, contains}
use Rattle.std.specs.BTreeMap.{is_at}
use Rattle.std.specs.declared.cmp.Ordering.{Ordering}
use Rattle.std.specs.declared.cmp.Ordering.TheVariants.{Less, Equal, Greater}
use Rattle.std.specs.Ordering.{nat_cmp, ordering_then, is_eq}
use Rattle.std.proofs.lemmas.Bool.Decides.{nat_tests}
use Rattle.ui_machine.specs.Definition.Places.{Bind}
use Rattle.law_typing.specs.Graph.Channels.{is_pair, property, same_channel, source_of, target_of}
use Rattle.law_typing.specs.Rules.Faults.{second_pair}
use Rattle.law_typing.specs.Rules.BindingRules.{is_second, second_from, shares_end}
use Rattle.verify_rules.specs.PairedEnds.{AddsEnds, AreEnds, End, compared, has, is_end, is_taken}

-- ** tests

or_and : (p a b c e : Bool) → ((p && (a || b)) || (p && (c || e))) ≡ (p && ((a || c) || (b || e)))
or_and true true b c e = refl
or_and true false true true e = refl
or_and true false true false e = refl
or_and true false false true e = refl
or_and true false false false e = refl
or_and false a b c e = refl

or_or : (a b c e : Bool) → ((a || b) || (c || e)) ≡ ((a || c) || (b || e))
or_or true b c e = refl
or_or false true true e = refl
or_or false true false e = refl
or_or false false true e = refl
or_or false false false e = refl

any_of_two : {A : Type 0} (f g h : A → Bool) → ((x : A) → (f x || g x) ≡ h x) → (xs : List A) → (list_any f xs || list_any g xs) ≡ list_any h xs
any_of_two f g h same [] = refl
any_of_two f g h same (x ∷ xs) =
    or_or (f x) (list_any f xs) (g x) (list_any g xs)
    ∙ (ap (λ b. b || (list_any f xs || list_any g xs)) (same x) ∙ ap (λ b. h x || b) (any_of_two f g h same xs))

-- ** ends

-- a property is found by its place and slot
is_eq-then : (x y : Ordering) → is_eq (ordering_then x y) ≡ (is_eq x && is_eq y)
is_eq-then Less y = refl
is_eq-then Equal y = refl
is_eq-then Greater y = refl

is_eq-cmp : (x y : ℕ) → is_eq (nat_cmp x y) ≡ nat_eq x y
is_eq-cmp x y = grind (arith, nat_tests)

at_end : (p s place slot : ℕ) → is_at (compared (p, s)) (place, slot) ≡ (nat_eq p place && nat_eq s slot)
at_end p s place slot =
    is_eq-then (nat_cmp p place) (nat_cmp s slot)
    ∙ (ap (λ b. b && is_eq (nat_cmp s slot)) (is_eq-cmp p place) ∙ ap (λ b. nat_eq p place && b) (is_eq-cmp s slot))

cond-or : (b c : Bool) → cond b true c ≡ (b || c)
cond-or true c = refl
cond-or false c = refl

-- one more
pub put : (old new : BTreeSet End) (p s place slot : ℕ) →
    contains compared new (place, slot) ≡ cond (is_at (compared (p, s)) (place, slot)) true (contains compared old (place, slot)) →
    has new place slot ≡ (same_channel (property p s) (property place slot) || has old place slot)
put old new p s place slot is =
    is ∙ (ap (λ b. cond b true (has old place slot)) (at_end p s place slot) ∙ cond-or (nat_eq p place && nat_eq s slot) (has old place slot))

both_put : (p a b c : Bool) → p ≡ true → (b || (a || c)) ≡ ((p && (a || b)) || c)
both_put p true true c is = sym (ap (λ q. (q && true) || c) is)
both_put p true false c is = sym (ap (λ q. (q && true) || c) is)
both_put p false true c is = sym (ap (λ q. (q && true) || c) is)
both_put p false false c is = sym (ap (λ q. (q && false) || c) is)

-- both of a binding that goes both ways
pub adds_both : (old one new : BTreeSet End) (b : Bind) → is_pair b ≡ true →
    ((q : End) → contains compared one q ≡ cond (is_at (compared (b.source, b.source_slot)) q) true (contains compared old q)) →
    ((q : End) → contains compared new q ≡ cond (is_at (compared (b.target, b.target_slot)) q) true (contains compared one q)) →
    AddsEnds old new b
adds_both old one new b pair first second place slot =
    put one new b.target b.target_slot place slot (second (place, slot))
    ∙ (ap (λ t. same_channel (target_of b) (property place slot) || t) (put old one b.source b.source_slot place slot (first (place, slot)))
    ∙ both_put (is_pair b) (same_channel (source_of b) (property place slot)) (same_channel (target_of b) (property place slot)) (has old place slot) pair)

-- none of another
pub adds_none : (ends : BTreeSet End) (b : Bind) → is_pair b ≡ false → AddsEnds ends ends b
adds_none ends b single place slot =
    sym (ap (λ p. (p && (same_channel (source_of b) (property place slot) || same_channel (target_of b) (property place slot))) || has ends place slot) single)

-- ** bindings, one after the other

-- what is known before a binding: the ends of those before it that go both ways, and that none of those makes a second pair
pub record IsReached (ends : BTreeSet End) (number : ℕ) (bindings : List Bind) : Type 0 where
  pub earlier : List Bind
  pub are : AreEnds ends earlier
  pub so_far : slice_get (second_from [] 0 bindings) 0 ≡ slice_get (second_from earlier number (drop number bindings)) 0

-- nothing is known before the first
pub at_first : (ends : BTreeSet End) (bindings : List Bind) → ends.keys ≡ [] → IsReached ends 0 bindings
at_first ends bindings none = record {
  earlier = [];
  are = λ place slot. ap (λ keys. list_any (is_at (compared (place, slot))) keys) none;
  so_far = refl;
}

-- whether it makes a second pair
second_by : (ends : BTreeSet End) (earlier : List Bind) (b : Bind) → AreEnds ends earlier → (is_pair b && is_taken ends b) ≡ is_second earlier b
second_by ends earlier b are =
    ap (λ t. is_pair b && (t || has ends b.target b.target_slot)) (are b.source b.source_slot)
    ∙ (ap (λ t. is_pair b && (list_any (is_end (source_of b)) earlier || t)) (are b.target b.target_slot)
    ∙ ap (λ t. is_pair b && t)
    (any_of_two (is_end (source_of b)) (is_end (target_of b)) (λ a. is_pair a && shares_end a b)
    (λ a. or_and (is_pair a) (same_channel (source_of a) (source_of b)) (same_channel (target_of a) (source_of b))
    (same_channel (source_of a) (target_of b)) (same_channel (target_of a) (target_of b))) earlier))

-- one that does
pub stops : (ends : BTreeSet End) (number : ℕ) (bindings rest : List Bind) (b : Bind) (second : Bool) → IsReached ends number bindings →
    drop number bindings ≡ b ∷ rest → second ≡ (is_pair b && is_taken ends b) → second ≡ true →
    slice_get (second_from [] 0 bindings) 0 ≡ Some (second_pair number)
stops ends number bindings rest b second known begins tests is =
    known.so_far
    ∙ (ap (λ bs. slice_get (second_from known.earlier number bs) 0) begins
    ∙ ap (λ t. slice_get (cond t (second_pair number ∷ []) [] ++ second_from (b ∷ known.earlier) (suc number) rest) 0)
    (sym (second_by ends known.earlier b known.are) ∙ (sym tests ∙ is)))

-- one that does not, and the next
pub goes_on : (ends new : BTreeSet End) (number : ℕ) (bindings rest : List Bind) (b : Bind) (second : Bool) → IsReached ends number bindings →
    drop number bindings ≡ b ∷ rest → rest ≡ drop (number + 1) bindings → second ≡ (is_pair b && is_taken ends b) → second ≡ false → AddsEnds ends new b →
    IsReached new (number + 1) bindings
goes_on ends new number bindings rest b second known begins left tests is adds = record {
  earlier = b ∷ known.earlier;
  are = λ place slot. adds place slot ∙ ap (λ t. is_end (property place slot) b || t) (known.are place slot);
  so_far =
      known.so_far
      ∙ (ap (λ bs. slice_get (second_from known.earlier number bs) 0) begins
      ∙ (ap (λ t. slice_get (cond t (second_pair number ∷ []) [] ++ second_from (b ∷ known.earlier) (suc number) rest) 0)
      (sym (second_by ends known.earlier b known.are) ∙ (sym tests ∙ is))
      ∙ (let e : suc number ≡ number + 1 = omega arith in
      ap (λ m. slice_get (second_from (b ∷ known.earlier) m rest) 0) e
      ∙ ap (λ bs. slice_get (second_from (b ∷ known.earlier) (number + 1) bs) 0) left)));
}

-- behind the last there is none
pub ends_there : (ends : BTreeSet End) (number : ℕ) (bindings : List Bind) → IsReached ends number bindings → drop number bindings ≡ [] →
    None ≡ slice_get (second_from [] 0 bindings) 0
ends_there ends number bindings known none = sym (known.so_far ∙ ap (λ bs. slice_get (second_from known.earlier number bs) 0) none)
