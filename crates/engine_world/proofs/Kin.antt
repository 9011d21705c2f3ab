-- How an object of the build becomes its parent's child, by what the table says of both.
use Rattle.std.proofs.Common.{◌≡◌, ℕ, ◌≤◌, Bool, true, false, cond, nat_eq, ◌||◌, ◌∷◌, [], List, Option, Some, None, IsSome, is_some, Result, Ok, Err, refl, sym, ap, subst, ◌∙◌}
use Rattle.std.specs.Prelude.{codes}
use Rattle.ui_machine.specs.declared.arm.Arm.{Arm}
use Rattle.ui_machine.specs.declared.arm.Arm.TheVariants as arms
use Rattle.std.specs.declared.alloc.AllocError.{AllocError}
use Rattle.ui_machine.specs.Definition.{Definition}
use Rattle.ui_machine.specs.Definition.Lookups.{place_at}
use Rattle.ui_machine.specs.Definition.Places.{Place}
use Rattle.ui_machine.specs.Output.Lines as lines
use Rattle.ui_machine.specs.Outcome.{After, Answer, known, ◌>>=◌}
use Rattle.ui_machine.specs.Rules.Build.{building_child, held_object}
use Rattle.ui_machine.specs.Rules.Children.{adopted, is_unadoptable, with_family}
use Rattle.ui_machine.specs.State.Config.{World, Started, said, starts}
use Rattle.ui_machine.specs.State.Objects.{Object, living}
use Rattle.ui_machine.specs.State.Tasks.{Building, Item, Task}
use Rattle.ui_machine.specs.Steps.{uncounted}
use Rattle.instance_tables.specs.declared.error.AdoptError.{AdoptError}
use Rattle.instance_tables.specs.declared.error.AdoptError.TheVariants.{ChildLimit, HasParent, NotLiving, OutOfMemory}
use Rattle.instance_tables.specs.Family.{refusal}
use Rattle.definition_format.specs.Meaning.{IsBasic, object_count}
use Rattle.engine_world.specs.Able.{Leads}
use Rattle.engine_world.specs.KinView.{Kin, kin_at, joined}
use Rattle.engine_world.proofs.Prototypes.{parentless}

-- ** what the table says of both

-- want of memory is no reason why an object may not become another's child
pub never_memory : (parent child : ℕ) (p c : Option Object) → refusal parent p child c ≡ Some OutOfMemory → ⊥
never_memory parent child None c because = cc because
never_memory parent child (Some p) None because = cc because
never_memory parent child (Some p) (Some c) because = by (is_unadoptable parent p child c) (is_some c.parent || nat_eq parent child) because
  where
    by : (b r : Bool) → cond b (Some (cond r HasParent ChildLimit)) None ≡ Some OutOfMemory → ⊥
    by true true h = cc h
    by true false h = cc h
    by false r h = cc h

module _ (d : Definition) (w : World) (parent child : ℕ) where
  abbrev told : World
  told = said d w (lines.limit (codes "adopt"))

  -- what is left by whether it may not be
  abbrev left_by : Bool → After World Bool
  left_by forbids = cond forbids (record { state = told; answer = false }) (record { state = with_family d w parent child; answer = true })

  abbrev state_by : Bool → Answer World
  state_by forbids = Ok (left_by forbids).state

  -- what comes of two objects that are there or not
  abbrev of_both : Option Object → Option Object → Answer World
  of_both p c =
      (known arms.Operand p >>= λ x. known arms.Operand c >>= λ y. Ok (left_by (is_unadoptable parent x child y)))
      >>= λ (family : After World Bool). Ok family.state

  is_of_both : joined d w parent child ≡ of_both (living w.objects parent) (living w.objects child)
  unfolding adopted
  is_of_both = refl

  none_living : (p c : Option Object) → refusal parent p child c ≡ Some NotLiving → of_both p c ≡ Err arms.Operand
  none_living None c because = refl
  none_living (Some p) None because = refl
  none_living (Some p) (Some c) because = by (is_unadoptable parent p child c) (is_some c.parent || nat_eq parent child) because
    where
      by : (b r : Bool) → cond b (Some (cond r HasParent ChildLimit)) None ≡ Some NotLiving → state_by b ≡ Err arms.Operand
      by true true h = cc h
      by true false h = cc h
      by false r h = cc h

  pub not_joined : refusal parent (living w.objects parent) child (living w.objects child) ≡ Some NotLiving → joined d w parent child ≡ Err arms.Operand
  not_joined because = is_of_both ∙ none_living (living w.objects parent) (living w.objects child) because

  limited : (p c : Option Object) (why : AdoptError) → refusal parent p child c ≡ Some why → (NotLiving ≡ why → ⊥) → of_both p c ≡ Ok told
  limited None c why because other = let same : NotLiving ≡ why = cc because in absurd (other same)
  limited (Some p) None why because other = let same : NotLiving ≡ why = cc because in absurd (other same)
  limited (Some p) (Some c) why because other = by (is_unadoptable parent p child c) (is_some c.parent || nat_eq parent child) because
    where
      by : (b r : Bool) → cond b (Some (cond r HasParent ChildLimit)) None ≡ Some why → state_by b ≡ Ok told
      by true r h = refl
      by false r h = cc h

  pub limit_told : (why : AdoptError) → refusal parent (living w.objects parent) child (living w.objects child) ≡ Some why → (NotLiving ≡ why → ⊥)
      → joined d w parent child ≡ Ok told
  limit_told why because other = is_of_both ∙ limited (living w.objects parent) (living w.objects child) why because other

  free : (p c : Option Object) → refusal parent p child c ≡ None → of_both p c ≡ Ok (with_family d w parent child)
  free None c none = cc none
  free (Some p) None none = cc none
  free (Some p) (Some c) none = by (is_unadoptable parent p child c) (is_some c.parent || nat_eq parent child) none
    where
      by : (b r : Bool) → cond b (Some (cond r HasParent ChildLimit)) None ≡ None → state_by b ≡ Ok (with_family d w parent child)
      by true r h = cc h
      by false r h = refl

  pub family_told : refusal parent (living w.objects parent) child (living w.objects child) ≡ None → joined d w parent child ≡ Ok (with_family d w parent child)
  family_told none = is_of_both ∙ free (living w.objects parent) (living w.objects child) none

-- whom nothing keeps from having a child lives
pub parent_lives : (parent child : ℕ) (p c : Option Object) → refusal parent p child c ≡ None → IsSome p
parent_lives parent child None c none = cc none
parent_lives parent child (Some p) c none = refl

-- ** the step of the build

module _ (d : Definition) (w : World) (place : ℕ) (items : List Item) where
  -- what comes of both
  abbrev goes_on : Kin → Answer Started
  goes_on kin = adopted d w kin.parent kin.child >>= λ (family : After World Bool). starts family.state (Building items ∷ [])

  by_kin : building_child d w place items ≡ (kin_at d w place >>= goes_on)
  unfolding building_child
  by_kin = by_place (place_at d place)
    where
      by_held : (parent child : Answer ℕ)
          → (parent >>= λ p. child >>= λ c. goes_on (record { parent = p; child = c }))
          ≡ ((parent >>= λ p. child >>= λ c. Ok (record { parent = p; child = c })) >>= goes_on)
      by_held (Err arm) child = refl
      by_held (Ok p) (Err arm) = refl
      by_held (Ok p) (Ok c) = refl

      by_above : (above : Option ℕ)
          → (known arms.Code above >>= λ a. held_object w a >>= λ p. held_object w place >>= λ c. goes_on (record { parent = p; child = c }))
          ≡ ((known arms.Code above >>= λ a. held_object w a >>= λ p. held_object w place >>= λ c. Ok (record { parent = p; child = c })) >>= goes_on)
      by_above None = refl
      by_above (Some a) = by_held (held_object w a) (held_object w place)

      by_place : (found : Option Place)
          → (known arms.Code found >>= λ p. known arms.Code p.parent >>= λ a. held_object w a >>= λ p. held_object w place >>= λ c. goes_on (record { parent = p; child = c }))
          ≡ ((known arms.Code found >>= λ p. known arms.Code p.parent >>= λ a. held_object w a >>= λ p. held_object w place >>= λ c. Ok (record { parent = p; child = c })) >>= goes_on)
      by_place None = refl
      by_place (Some p) = by_above p.parent

  pub no_kin : (arm : Arm) → kin_at d w place ≡ Err arm → building_child d w place items ≡ Err arm
  no_kin arm is = by_kin ∙ ap (λ (kin : Answer Kin). kin >>= goes_on) is

  with_kin : Option ℕ → Answer Kin
  with_kin above = known arms.Code above >>= λ a. held_object w a >>= λ x. held_object w place >>= λ y. Ok (record { parent = x; child = y })

  -- no object is there
  pub no_object_there : IsBasic d → object_count d ≤ place → building_child d w place items ≡ Err arms.Code
  unfolding with_kin
  no_object_there basic past = no_kin arms.Code (by (place_at d place) refl)
    where
      by : (found : Option Place) → place_at d place ≡ found → kin_at d w place ≡ Err arms.Code
      by None at = ap (λ (o : Option Place). known arms.Code o >>= λ p. with_kin p.parent) at
      by (Some p) at = ap (λ (o : Option Place). known arms.Code o >>= λ p. with_kin p.parent) at ∙ ap with_kin (parentless d basic place past p at)

  -- where the objects can't be joined, neither can the build go on
  pub joins_not : (kin : Kin) (arm : Arm) → kin_at d w place ≡ Ok kin → joined d w kin.parent kin.child ≡ Err arm → building_child d w place items ≡ Err arm
  joins_not kin arm is stuck = by_kin ∙ ap (λ (k : Answer Kin). k >>= goes_on) is ∙ by (adopted d w kin.parent kin.child) stuck
    where
      by : (family : Answer (After World Bool)) → (family >>= λ (f : After World Bool). Ok f.state) ≡ Err arm
          → (family >>= λ (f : After World Bool). starts f.state (Building items ∷ [])) ≡ Err arm
      by (Ok f) is = absurd (cc is)
      by (Err other) is = let same : other ≡ arm = cc is in ap Err same

  module _ (rest : List Task) (n : ℕ) where
    then_on : {X : Type 0} (result : Result X AllocError) (family : Answer (After World Bool)) (new : World)
        → Leads result (family >>= λ (f : After World Bool). Ok f.state) new
        → Leads result (uncounted rest n (family >>= λ (f : After World Bool). starts f.state (Building items ∷ [])))
        (record { world = new; agenda = Building items ∷ rest; counted = n })
    then_on {X} (Ok x) (Ok f) new leads = let same : f.state ≡ new = cc leads in ap (λ v. Ok (record { world = v; agenda = Building items ∷ rest; counted = n })) same
    then_on {X} (Ok x) (Err arm) new leads = cc leads
    then_on {X} (Err error) family new leads = tt

    pub joins_then : {X : Type 0} (kin : Kin) (result : Result X AllocError) (new : World) → kin_at d w place ≡ Ok kin → Leads result (joined d w kin.parent kin.child) new
        → Leads result (uncounted rest n (building_child d w place items)) (record { world = new; agenda = Building items ∷ rest; counted = n })
    joins_then {X} kin result new is leads =
        subst (λ (a : Answer Started). Leads result (uncounted rest n a) (record { world = new; agenda = Building items ∷ rest; counted = n }))
        (sym (by_kin ∙ ap (λ (k : Answer Kin). k >>= goes_on) is))
        (then_on result (adopted d w kin.parent kin.child) new leads)
