-- What steps leave of what floats, and of the lines.
use Rattle.std.proofs.Common.{◌≡◌, ℕ, suc, ◌≤◌, Bool, true, false, cond, nat_eq, List, [], ◌∷◌, ◌++◌, length, Some, slice_get, Ok, Err, refl, ap, subst, ◌∙◌, arith, length-append}
use Rattle.std.specs.Prelude.{IfOk}
use Rattle.std.proofs.lemmas.Bool.Decides.{nat_tests}
use Rattle.ui_machine.specs.State.Config.{BuilderEntry, unbuilt, built, released, World, is_unbuilt, without}
use Rattle.ui_machine.specs.declared.arm.Arm.TheVariants as arms
use Rattle.ui_machine.specs.Outcome.{Answer, known, ◌>>=◌}
use Rattle.ui_machine.specs.Rules.Build.{identity_held}
use Rattle.ui_machine.specs.State.References.{same, in_held}
use Rattle.ui_machine.specs.Prefix.{IsPrefix}
use Rattle.ui_machine.proofs.Prefixes.{prefix_on}

-- ** steps that keep what floats

pub record Quietly (w new : World) : Type 0 where
  pub floating : new.floating ≡ w.floating
  pub grows : IsPrefix w.transcript new.transcript

pub quietly_on : {w v new : World} → Quietly w v → Quietly v new → Quietly w new
quietly_on p q = record {
  floating = q.floating ∙ p.floating;
  grows = prefix_on p.grows q.grows;
}

pub if_ok_at : {A : Type 0} (P : A → Type 0) (a : Answer A) (x : A) → IfOk a P → a ≡ Ok x → P x
if_ok_at {A} P a x h e = subst (λ (r : Answer A). IfOk r P) e h

pub bind_ok : {A B : Type 0} (a : Answer A) (f : A → Answer B) (P : B → Type 0) → ((x : A) → a ≡ Ok x → IfOk (f x) P) → IfOk (a >>= f) P
bind_ok (Ok x) f P h = h x refl
bind_ok (Err arm) f P h = tt

-- ** what floats

-- one more, or none
pub one_floats : (b : Bool) (id : ℕ) (floating : List ℕ) → length (cond b (floating ++ id ∷ []) floating) ≤ suc (length floating)
one_floats true id floating = omega (arith, length-append floating (id ∷ []))
one_floats false id floating = omega arith

less_with : (i : ℕ) (rest floating : List ℕ) (b : Bool) → length rest ≤ length floating → length (cond b rest (i ∷ rest)) ≤ suc (length floating)
less_with i rest floating true less = omega (arith, less)
less_with i rest floating false less = omega (arith, less)

-- no more float without one
pub without_less : (id : ℕ) (floating : List ℕ) → length (without id floating) ≤ length floating
without_less id [] = omega arith
without_less id (i ∷ floating) = less_with i (without id floating) floating (nat_eq i id) (without_less id floating)

-- the first floats no longer
pub first_gone : (id : ℕ) (floating : List ℕ) → length (without id (id ∷ floating)) ≤ length floating
first_gone id floating =
    let same : nat_eq id id ≡ true = grind (arith, nat_tests) in
    rw same (without_less id floating)

pub floats_first : (floating : List ℕ) (id : ℕ) → slice_get floating 0 ≡ Some id → (ids : List ℕ) × (floating ≡ id ∷ ids)
floats_first [] id at = cc at
floats_first (i ∷ ids) id at = (ids, (let same : i ≡ id = cc at in ap (λ j. j ∷ ids) same))

-- ** what holds an object

pub same_self : (o : ℕ) → same o o ≡ 1
same_self o = grind (arith, nat_tests)

-- what the builder holds is that object
pub holds_built : (q : ℕ) (h : BuilderEntry) (id : ℕ) → known arms.Operand (identity_held h) ≡ Ok id → in_held q h ≡ same q id
holds_built q unbuilt id e = cc e
holds_built q (built i) id e = let is : i ≡ id = cc e in ap (same q) is
holds_built q released id e = cc e

-- a place that the builder has not come to holds nothing
pub holds_nothing : (q : ℕ) (h : BuilderEntry) → is_unbuilt h ≡ true → in_held q h ≡ 0
holds_nothing q unbuilt e = refl
holds_nothing q (built id) e = absurd (cc)
holds_nothing q released e = refl
