use Rattle.std.proofs.lemmas.List.{length-map}
-- The engine's tasks name what lives, where the machine's do, and numbers are left.
use Rattle.std.proofs.Common.{◌≡◌, refl, sym, ap, subst, ◌∙◌, ℕ, true, List, [], ◌∷◌, length, map, IfSome, IsSome, arith}
use Rattle.ui_machine.specs.Rules.Build.{is_connecting, is_making, of_items}
use Rattle.ui_machine.specs.Rules.Sets.{lives}
use Rattle.ui_machine.specs.Seq.{total}
use Rattle.ui_machine.specs.State.Config.{Config, World}
use Rattle.ui_machine.specs.State.Objects.{Objects, living}
use Rattle.ui_machine.specs.State.Tasks.{Answering, Beginning, Building, Calling, Constructing, Due, Emission, Emitting, Handling, Item, Notifying, Running, Setting, Task, Thawing, Transferring, Unsetting}
use Rattle.machine_laws.specs.GoneLaws.{Gone, pruned}
use Rattle.law_peers.specs.Forgetting.{forgotten_at}
use Rattle.law_typing.specs.Good.Agenda.{frames, is_frame}
use Rattle.law_typing.specs.Good.Living.{TaskNamesLiving}
use Rattle.law_typing.specs.Verdict.Accepted.{Each}
use Rattle.engine_world.specs.Able.{TasksNameLiving}
use Rattle.engine_world.specs.Standing.{gone_handlers, without_gone}
use Rattle.engine_dispatches.specs.Safety.{HasFewTasks, HasNumbersLeft}

-- the same objects live
module _ (w v : World) (same : w.objects ≡ v.objects) where
  emission_elsewhere : (e : Emission) → TaskNamesLiving w (Beginning e) → TaskNamesLiving v (Beginning e)
  emission_elsewhere e names =
      subst (λ (os : Objects). IsSome (living os e.object) × Each (λ x. lives os x ≡ true) e.args × IfSome e.value (λ x. lives os x ≡ true)) same names

  object_elsewhere : (id : ℕ) → IsSome (living w.objects id) → IsSome (living v.objects id)
  object_elsewhere id lives = subst (λ (os : Objects). IsSome (living os id)) same lives

  task_elsewhere : (t : Task) → TaskNamesLiving w t → TaskNamesLiving v t
  task_elsewhere (Setting id slot x) names = subst (λ (os : Objects). IsSome (living os id) × (lives os x ≡ true)) same names
  task_elsewhere (Notifying id slot) names = object_elsewhere id names
  task_elsewhere (Beginning e) names = emission_elsewhere e names
  task_elsewhere (Emitting e turns) names = emission_elsewhere e names
  task_elsewhere (Thawing id []) names = tt
  task_elsewhere (Thawing id (slot ∷ slots)) names = object_elsewhere id names
  task_elsewhere (Running f) names = subst (λ (os : Objects). Each (λ r. IfSome r (λ x. lives os x ≡ true)) f.registers) same names
  task_elsewhere (Calling call) names = subst (λ (os : Objects). IsSome (living os call.object) × Each (λ x. lives os x ≡ true) call.args) same names
  task_elsewhere (Constructing id steps held) names = object_elsewhere id names
  task_elsewhere (Transferring number back) names = tt
  task_elsewhere (Unsetting number) names = tt
  task_elsewhere (Answering source) names = tt
  task_elsewhere (Building items) names = tt
  task_elsewhere (Handling request) names = tt
  task_elsewhere (Due source) names = tt

  pub tasks_elsewhere : (ts : List Task) → Each (TaskNamesLiving w) ts → Each (TaskNamesLiving v) ts
  tasks_elsewhere [] names = tt
  tasks_elsewhere (t ∷ ts) names = (task_elsewhere t names.0, tasks_elsewhere ts names.1)

-- turns that are left out name nothing
module _ (gone : Gone) (w : World) where
  task_pruned : (t : Task) → TaskNamesLiving w t → TaskNamesLiving w (pruned gone t)
  task_pruned (Emitting e turns) names = names
  task_pruned (Setting id slot x) names = names
  task_pruned (Notifying id slot) names = names
  task_pruned (Beginning e) names = names
  task_pruned (Thawing id slots) names = names
  task_pruned (Running f) names = names
  task_pruned (Calling call) names = names
  task_pruned (Constructing id steps held) names = names
  task_pruned (Transferring number back) names = names
  task_pruned (Unsetting number) names = names
  task_pruned (Answering source) names = names
  task_pruned (Building items) names = names
  task_pruned (Handling request) names = names
  task_pruned (Due source) names = names

  task_whole : (t : Task) → TaskNamesLiving w (pruned gone t) → TaskNamesLiving w t
  task_whole (Emitting e turns) names = names
  task_whole (Setting id slot x) names = names
  task_whole (Notifying id slot) names = names
  task_whole (Beginning e) names = names
  task_whole (Thawing id slots) names = names
  task_whole (Running f) names = names
  task_whole (Calling call) names = names
  task_whole (Constructing id steps held) names = names
  task_whole (Transferring number back) names = names
  task_whole (Unsetting number) names = names
  task_whole (Answering source) names = names
  task_whole (Building items) names = names
  task_whole (Handling request) names = names
  task_whole (Due source) names = names

  tasks_pruned : (ts : List Task) → Each (TaskNamesLiving w) ts → Each (TaskNamesLiving w) (map (pruned gone) ts)
  tasks_pruned [] names = tt
  tasks_pruned (t ∷ ts) names = (task_pruned t names.0, tasks_pruned ts names.1)

  tasks_whole : (ts : List Task) → Each (TaskNamesLiving w) (map (pruned gone) ts) → Each (TaskNamesLiving w) ts
  tasks_whole [] names = tt
  tasks_whole (t ∷ ts) names = (task_whole t names.0, tasks_whole ts names.1)

-- what the machine's configuration names, the engine's does, which is without turns of handlers that are gone
pub names_alike : (y x : Config) → without_gone (forgotten_at y) ≡ without_gone x → TasksNameLiving y → TasksNameLiving x
names_alike y x is names =
    tasks_whole (gone_handlers x.world) x.world x.agenda
    (subst TasksNameLiving is
    (tasks_pruned (gone_handlers (forgotten_at y).world) (forgotten_at y).world y.agenda (tasks_elsewhere y.world (forgotten_at y).world refl y.agenda names)))

-- nor is anything to be made or connected by them
module _ (gone : Gone) (f : Item → ℕ) where
  task_has : (t : Task) → of_items f (pruned gone t) ≡ of_items f t
  task_has (Emitting e turns) = refl
  task_has (Setting id slot x) = refl
  task_has (Notifying id slot) = refl
  task_has (Beginning e) = refl
  task_has (Thawing id slots) = refl
  task_has (Running f) = refl
  task_has (Calling call) = refl
  task_has (Constructing id steps held) = refl
  task_has (Transferring number back) = refl
  task_has (Unsetting number) = refl
  task_has (Answering source) = refl
  task_has (Building items) = refl
  task_has (Handling request) = refl
  task_has (Due source) = refl

  tasks_have : (ts : List Task) → total (of_items f) (map (pruned gone) ts) ≡ total (of_items f) ts
  tasks_have [] = refl
  tasks_have (t ∷ ts) = omega (arith, task_has t, tasks_have ts)

-- numbers are left for the engine's configuration, where they are for the machine's
pub numbers_alike : (y x : Config) → without_gone (forgotten_at y) ≡ x → HasNumbersLeft y → HasNumbersLeft x
numbers_alike y x is left =
    let gone = gone_handlers (forgotten_at y).world in
    let made = tasks_have gone is_making y.agenda in
    let connected = tasks_have gone is_connecting y.agenda in
    let identities = left.identities in
    let handlers = left.handlers in
    let there : HasNumbersLeft (without_gone (forgotten_at y)) = record { identities = omega (arith, identities, made); handlers = omega (arith, handlers, connected) } in
    subst HasNumbersLeft is there

-- nor is a task more or less a frame by them
module _ (gone : Gone) where
  frame_pruned : (t : Task) → is_frame (pruned gone t) ≡ is_frame t
  frame_pruned (Emitting e turns) = refl
  frame_pruned (Setting id slot x) = refl
  frame_pruned (Notifying id slot) = refl
  frame_pruned (Beginning e) = refl
  frame_pruned (Thawing id slots) = refl
  frame_pruned (Running f) = refl
  frame_pruned (Calling call) = refl
  frame_pruned (Constructing id steps held) = refl
  frame_pruned (Transferring number back) = refl
  frame_pruned (Unsetting number) = refl
  frame_pruned (Answering source) = refl
  frame_pruned (Building items) = refl
  frame_pruned (Handling request) = refl
  frame_pruned (Due source) = refl

  frames_pruned : (ts : List Task) → frames (map (pruned gone) ts) ≡ frames ts
  frames_pruned [] = refl
  frames_pruned (t ∷ ts) = omega (arith, frame_pruned t, frames_pruned ts)

-- as few tasks and frames as the machine's configuration has the engine's has
pub few_alike : (room : ℕ) (y x : Config) → without_gone (forgotten_at y) ≡ x → HasFewTasks room y → HasFewTasks room x
few_alike room y x is few =
    let gone = gone_handlers (forgotten_at y).world in
    let tasks : length x.agenda ≡ length y.agenda = sym (ap (λ (c : Config). length c.agenda) is) ∙ length-map y.agenda (pruned gone) in
    let deep : frames x.agenda ≡ frames y.agenda = sym (ap (λ (c : Config). frames c.agenda) is) ∙ frames_pruned gone y.agenda in
    (omega (arith, tasks, few.0), omega (arith, deep, few.1))
