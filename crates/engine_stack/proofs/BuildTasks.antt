-- The tasks of the build are the lowest of a stack.
use Rattle.std.proofs.Common.{◌≡◌, ℕ, Bool, true, false, ◌||◌, List, [], ◌∷◌, map, take, drop, reverse, refl, ap, sym, ◌∙◌, arith}
use Rattle.std.specs.List.{list_any}
use Rattle.std.proofs.lemmas.List.{map-append, reverse-append, take-append-drop}
use Rattle.ui_machine.specs.Definition as machine
use Rattle.ui_machine.specs.Rules.Build.{of_items}
use Rattle.ui_machine.specs.Seq.{total}
use Rattle.ui_machine.specs.State.Handlers.{Handler}
use Rattle.ui_machine.specs.State.Tasks as config
use Rattle.engine_stack.proofs.Lists.{total-append}
use Rattle.engine_stack.specs.BuildTasks.{is_of_build}
use Rattle.engine_stack.specs.TaskView.{task_of}
use Rattle.engine_stack.specs.declared.task.Task.{Task}
use Rattle.engine_stack.specs.declared.task.Task.TheVariants as tasks

-- and so in any order
pub reversed_count : (g : config.Item → ℕ) (ts : List config.Task) → total (of_items g) (reverse ts) ≡ total (of_items g) ts
reversed_count g [] = refl
reversed_count g (t ∷ ts) =
    ap (total (of_items g)) (reverse-append (t ∷ []) ts)
    ∙ total-append (of_items g) (reverse ts) (t ∷ [])
    ∙ let rest = reversed_count g ts in omega (arith, rest)

neither : (a b : Bool) → (a || b) ≡ false → (a ≡ false) × (b ≡ false)
neither true b is = absurd (cc is)
neither false b is = (refl, is)

module _ (g : config.Item → ℕ) (d : machine.Definition) (hs : List Handler) where
  -- another task has no items of the build
  none_of : (t : Task) → is_of_build t ≡ false → of_items g (task_of d hs t) ≡ 0
  none_of (tasks.Setting id slot v) is = refl
  none_of (tasks.Notifying id slot) is = refl
  none_of (tasks.Beginning e) is = refl
  none_of (tasks.Emitting emission) is = refl
  none_of (tasks.Transferring number back) is = refl
  none_of (tasks.Unsetting number) is = refl
  none_of (tasks.Running frame) is = refl
  none_of (tasks.Thawing id slots) is = refl
  none_of (tasks.Constructing construction) is = refl
  none_of (tasks.Building place forwards) is = absurd (cc is)
  none_of (tasks.Adopting place forwards) is = absurd (cc is)
  none_of (tasks.Binding number) is = absurd (cc is)
  none_of (tasks.Connecting place number) is = absurd (cc is)
  none_of (tasks.Answering source) is = refl
  none_of (tasks.Calling call) is = refl
  none_of (tasks.Handling event) is = refl
  none_of (tasks.Due source) is = refl

  none_in : (ts : List Task) → list_any is_of_build ts ≡ false → total (of_items g) (map (task_of d hs) ts) ≡ 0
  none_in [] none = refl
  none_in (t ∷ ts) none = let p = neither (is_of_build t) (list_any is_of_build ts) none in omega (arith, none_of t p.0, none_in ts p.1)

  -- so the lowest have all items, where none of the others is of the build
  pub lowest_have : (n : ℕ) (ts : List Task) → list_any is_of_build (drop n ts) ≡ false → total (of_items g) (map (task_of d hs) (take n ts)) ≡ total (of_items g) (reverse (map (task_of d hs) ts))
  lowest_have n ts none =
      let f = task_of d hs in
      let split =
      ap (λ l. total (of_items g) (map f l)) (sym (take-append-drop n ts))
      ∙ ap (λ l. total (of_items g) l) (map-append f (take n ts) (drop n ts))
      ∙ total-append (of_items g) (map f (take n ts)) (map f (drop n ts)) in
      omega (arith, split, none_in (drop n ts) none, reversed_count g (map f ts))
