-- How the bindings of the definition are made.
use Rattle.std.proofs.Common.{◌≡◌, ◌∙◌, refl, ap, ℕ, zero, suc, ◌<◌, ◌++◌, ◌||◌, true, false, cond, List, [], ◌∷◌, drop, length, Option, None, Some, slice_get, Ok, Err, arith}
use Rattle.ui_machine.specs.declared.arm.Arm.TheVariants as arms
use Rattle.ui_machine.specs.Definition.{Definition}
use Rattle.ui_machine.specs.Definition.Places.{Bind}
use Rattle.ui_machine.specs.Definition.Properties.{has_flags}
use Rattle.ui_machine.specs.Outcome.{Answer, known, ◌>>=◌}
use Rattle.ui_machine.specs.Rules.Build.{building_binding, connected_items, first_transfer, held_object, new_binding, numbered, with_binding}
use Rattle.ui_machine.specs.Rules.Sets.{is_disposed}
use Rattle.ui_machine.specs.State.Config.{Started, World, starts}
use Rattle.ui_machine.specs.State.Objects.{living}
use Rattle.ui_machine.specs.State.Tasks.{Building, Item, Transferring, binds}
use Rattle.engine_stack.specs.TaskView.{binds_from}
use Rattle.engine_tasks.specs.BindView.{Ends, ends_at}

pub first_on : (number : ℕ) (b : Bind) → has_flags 2 b.flags ≡ true → first_transfer number b ≡ Transferring number false ∷ []
first_on number b on = ap (λ x. cond x (Transferring number false ∷ []) []) on

-- ** the items

next_of : (n i : ℕ) (bs : List Bind) → i < length bs → numbered binds n (drop i bs) ≡ binds n ∷ numbered binds (suc n) (drop (suc i) bs)
next_of n i [] within = absurd (omega arith)
next_of n zero (b ∷ bs) within = by bs
  where
    by : (bs : List Bind) → numbered binds n (drop zero (b ∷ bs)) ≡ binds n ∷ numbered binds (suc n) (drop (suc zero) (b ∷ bs))
    by [] = refl
    by (x ∷ xs) = refl
next_of n (suc i) (b ∷ bs) within = next_of n i bs (omega arith)

module _ (d : Definition) (number : ℕ) where
  -- a binding that is there is the next one
  pub next_there : number < length d.bindings → binds_from d number ≡ binds number ∷ binds_from d (suc number)
  next_there within = ap (λ (items : List Item). items ++ connected_items 0 d.places) (next_of number number d.bindings within)

-- ** a binding

module _ (d : Definition) (w : World) (number : ℕ) (items : List Item) where
  -- between two objects
  abbrev pub between : Bind → Ends → Answer Started
  between b ends =
      cond (is_disposed (living w.objects ends.source) || is_disposed (living w.objects ends.target))
      (starts w (Building items ∷ []))
      (starts (with_binding w (new_binding number b ends.source ends.target)) (first_transfer number b ++ Building items ∷ []))

  by_ends : building_binding d w number items ≡ (known arms.Code (slice_get d.bindings number) >>= λ b. ends_at w b >>= between b)
  unfolding building_binding
  by_ends = by (slice_get d.bindings number)
    where
      targets : (b : Bind) (source : ℕ) (held : Answer ℕ)
          → (held >>= λ target. between b (record { source = source; target = target })) ≡ ((held >>= λ target. Ok (record { source = source; target = target })) >>= between b)
      targets b source (Ok target) = refl
      targets b source (Err arm) = refl

      sources : (b : Bind) (held : Answer ℕ)
          → (held >>= λ source. held_object w b.target >>= λ target. between b (record { source = source; target = target }))
          ≡ ((held >>= λ source. held_object w b.target >>= λ target. Ok (record { source = source; target = target })) >>= between b)
      sources b (Ok source) = targets b source (held_object w b.target)
      sources b (Err arm) = refl

      by : (found : Option Bind)
          → (known arms.Code found >>= λ b. held_object w b.source >>= λ source. held_object w b.target >>= λ target. between b (record { source = source; target = target }))
          ≡ (known arms.Code found >>= λ b. ends_at w b >>= between b)
      by None = refl
      by (Some b) = sources b (held_object w b.source)

  module _ (b : Bind) (found : slice_get d.bindings number ≡ Some b) where
    pub by_found : building_binding d w number items ≡ (ends_at w b >>= between b)
    by_found = by_ends ∙ ap (λ (found : Option Bind). known arms.Code found >>= λ b. ends_at w b >>= between b) found

    module _ (ends : Ends) (is : ends_at w b ≡ Ok ends) where
      pub too_late : (is_disposed (living w.objects ends.source) || is_disposed (living w.objects ends.target)) ≡ true → building_binding d w number items ≡ starts w (Building items ∷ [])
      too_late late =
          by_found ∙ ap (λ (a : Answer Ends). a >>= between b) is
          ∙ ap (λ x. cond x (starts w (Building items ∷ [])) (starts (with_binding w (new_binding number b ends.source ends.target)) (first_transfer number b ++ Building items ∷ []))) late

      pub bound : (is_disposed (living w.objects ends.source) || is_disposed (living w.objects ends.target)) ≡ false
          → building_binding d w number items ≡ starts (with_binding w (new_binding number b ends.source ends.target)) (first_transfer number b ++ Building items ∷ [])
      bound early =
          by_found ∙ ap (λ (a : Answer Ends). a >>= between b) is
          ∙ ap (λ x. cond x (starts w (Building items ∷ [])) (starts (with_binding w (new_binding number b ends.source ends.target)) (first_transfer number b ++ Building items ∷ []))) early
