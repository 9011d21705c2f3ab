-- Tasks of which the first is neither a program nor an emission that goes on.
use Rattle.std.proofs.Common.{◌≡◌, ◌∙◌, IsSome, List, [], ◌∷◌, ◌++◌, Option, None, is_some, refl, ap}
use Rattle.ui_machine.specs.State.Tasks as config
use Rattle.engine_stack.specs.FirstConstructions.{construction_in, first_construction}
use Rattle.engine_stack.specs.FirstEmissions.{first_emission}
use Rattle.engine_stack.specs.FirstPrograms.{first_program}
use Rattle.engine_stack.specs.TaskFrames.{IsFrameless, emission_in, program_in}
use Rattle.engine_stack.specs.declared.construction_frames.ConstructionFrame.{ConstructionFrame}
use Rattle.engine_stack.specs.declared.task.Task.{Task}
use Rattle.engine_stack.specs.declared.task.Task.TheVariants as tasks
use Rattle.engine_stack.proofs.FirstPrograms.{found, last_gives, last_has}

-- the first of some tasks, of which it is the last of the list, is none
pub record IsOther (items : List Task) : Type 0 where
  pub program : first_program items ≡ None
  pub emission : first_emission items ≡ None

pub other_last : (front items : List Task) (x : Task) → items ≡ front ++ x ∷ [] → IsFrameless x → IsOther items
other_last front items x whole plain = record {
  program = last_gives program_in front items x whole ∙ plain.program;
  emission = last_gives emission_in front items x whole ∙ plain.emission;
}

-- ** a construction

constructs_plain : (t : Task) → IsSome (construction_in t) → IsFrameless t
constructs_plain (tasks.Constructing construction) some = record { program = refl; emission = refl }
constructs_plain (tasks.Setting id slot v) some = absurd (cc some)
constructs_plain (tasks.Notifying id slot) some = absurd (cc some)
constructs_plain (tasks.Beginning e) some = absurd (cc some)
constructs_plain (tasks.Emitting emission) some = absurd (cc some)
constructs_plain (tasks.Running frame) some = absurd (cc some)
constructs_plain (tasks.Transferring number back) some = absurd (cc some)
constructs_plain (tasks.Unsetting number) some = absurd (cc some)
constructs_plain (tasks.Thawing id slots) some = absurd (cc some)
constructs_plain (tasks.Building place forwards) some = absurd (cc some)
constructs_plain (tasks.Adopting place forwards) some = absurd (cc some)
constructs_plain (tasks.Binding number) some = absurd (cc some)
constructs_plain (tasks.Connecting place number) some = absurd (cc some)
constructs_plain (tasks.Answering source) some = absurd (cc some)
constructs_plain (tasks.Calling call) some = absurd (cc some)
constructs_plain (tasks.Handling event) some = absurd (cc some)
constructs_plain (tasks.Due source) some = absurd (cc some)

pub constructs_only : (items : List Task) → IsSome (first_construction items) → IsOther items
constructs_only items some =
    let f = found (first_construction items) some in
    let last = last_has construction_in items f.0 f.1 in
    other_last last.front items last.task last.whole (constructs_plain last.task (ap (λ (o : Option ConstructionFrame). is_some o) last.has))

-- ** lists

pub head_same : {x y : config.Task} {xs ys : List config.Task} → x ∷ xs ≡ y ∷ ys → x ≡ y
head_same is = cc is
