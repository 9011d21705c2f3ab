-- Few tasks are constructions.
use Rattle.std.proofs.Common.{◌≡◌, refl, ◌+◌, ◌*◌, ◌≤◌, List, [], ◌∷◌, arith}
use Rattle.ui_machine.specs.State.Tasks.{Answering, Beginning, Building, Calling, Constructing, Due, Emitting, Handling, Notifying, Running, Setting, Task, Thawing, Transferring, Unsetting}
use Rattle.law_typing.specs.Good.Agenda.{frames}
use Rattle.law_runs.specs.Stacks.{ConstructionsAreFew, IsMaker, IsStacked, LieBelow, constructions, is_construction, is_program, programs}
use Rattle.law_runs.proofs.StartProofs.{are_stacked}

-- there are no more constructions than programs, and one; and none more than programs below a construction
record Few (tasks : List Task) : Type 0 where
  few : constructions tasks ≤ programs tasks + 1
  made : IsMaker tasks → constructions tasks ≤ programs tasks
  framed : constructions tasks + programs tasks ≤ frames tasks

below_few : (tasks : List Task) → LieBelow tasks → Few tasks
below_few [] low = record { few = omega arith; made = λ maker. omega arith; framed = omega arith }
below_few (Running frame ∷ tasks) low =
    let x = below_few tasks low in
    record { few = (let f = x.few in omega (arith, f)); made = λ maker. (let f = x.few in omega (arith, f)); framed = (let f = x.framed in omega (arith, f)) }
below_few (Emitting e turns ∷ tasks) low =
    let x = below_few tasks low in
    record { few = (let f = x.few in omega (arith, f)); made = λ maker. absurd maker; framed = (let f = x.framed in omega (arith, f)) }
below_few (Constructing id steps held ∷ tasks) low =
    let x = below_few tasks low.1 in
    record { few = (let f = x.made low.0 in omega (arith, f)); made = λ maker. absurd maker; framed = (let f = x.framed in omega (arith, f)) }
below_few (Unsetting number ∷ tasks) low =
    let x = below_few tasks low.1 in
    record { few = (let f = x.few in omega (arith, f)); made = λ maker. absurd maker; framed = (let f = x.framed in omega (arith, f)) }
below_few (Thawing id slots ∷ tasks) low =
    let x = below_few tasks low.1 in
    record { few = (let f = x.few in omega (arith, f)); made = λ maker. absurd maker; framed = (let f = x.framed in omega (arith, f)) }
below_few (Answering source ∷ tasks) low =
    let x = below_few tasks low.1 in
    record { few = (let f = x.few in omega (arith, f)); made = λ maker. absurd maker; framed = (let f = x.framed in omega (arith, f)) }
below_few (Building items ∷ []) low = record { few = omega arith; made = λ maker. omega arith; framed = omega arith }
below_few _ low = absurd low

abbrev Fewer : List Task → Type 0
Fewer agenda = (constructions agenda ≤ programs agenda + 1) × (2 * constructions agenda ≤ frames agenda + 1)

few_of : (tasks : List Task) → Few tasks → Fewer tasks
few_of tasks x = (x.few, (let few = x.few in let framed = x.framed in omega (arith, few, framed)))

-- one more that is neither lies on them
on_few : (task : Task) (tasks : List Task) → is_construction task ≡ 0 → is_program task ≡ 0 → LieBelow tasks → Fewer (task ∷ tasks)
on_few task tasks none zero low =
    let x = below_few tasks low in
    let few = x.few in
    let framed = x.framed in
    (omega (arith, few, none, zero), omega (arith, few, framed, none, zero))

pub constructions_are_few : ConstructionsAreFew
constructions_are_few [] stacked = few_of [] (below_few [] tt)
constructions_are_few (Transferring number back ∷ tasks) stacked = on_few (Transferring number back) tasks refl refl stacked.1
constructions_are_few (Due source ∷ tasks) stacked = on_few (Due source) tasks refl refl stacked.1
constructions_are_few (Setting id slot v ∷ tasks) stacked = on_few (Setting id slot v) tasks refl refl stacked
constructions_are_few (Notifying id slot ∷ tasks) stacked = on_few (Notifying id slot) tasks refl refl stacked
constructions_are_few (Beginning e ∷ tasks) stacked = on_few (Beginning e) tasks refl refl stacked
constructions_are_few (Calling call ∷ tasks) stacked = on_few (Calling call) tasks refl refl stacked
constructions_are_few (Handling request ∷ tasks) stacked = on_few (Handling request) tasks refl refl stacked
constructions_are_few tasks stacked = few_of tasks (below_few tasks stacked)
