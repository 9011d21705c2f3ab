-- No more programs run than there are, since each is in one frame at most.
use Rattle.std.proofs.Common.{◌≡◌, refl, sym, ap, ◌∙◌, ℕ, zero, suc, ◌+◌, ◌<◌, ◌≤◌, Bool, true, false, cond, List, [], ◌∷◌, length, Some, slice_get, arith}
use Rattle.std.specs.Prelude.{nat_eq}
use Rattle.std.proofs.lemmas.Bool.{eq-eqb, eqb-true}
use Rattle.ui_machine.specs.Seq.{total}
use Rattle.ui_machine.specs.Definition.{Definition}
use Rattle.ui_machine.specs.Runs.{beginning, of_build, of_request}
use Rattle.ui_machine.specs.State.Config.{Config, World}
use Rattle.ui_machine.specs.State.Tasks.{Answering, Beginning, Building, Calling, Constructing, Due, Emitting, Handling, Notifying, Running, Setting, Task, Thawing, Transferring, Unsetting}
use Rattle.law_typing.specs.Good.{Good}
use Rattle.law_typing.specs.Good.Agenda.{AgendaGood}
use Rattle.law_typing.specs.Good.ComingDown.{Down}
use Rattle.law_typing.specs.Good.ComingDown as coming
use Rattle.law_typing.specs.Good.Standing.{view}
use Rattle.law_typing.specs.Graph.Tables.{Tables}
use Rattle.law_steps.proofs.Served.ThroughoutProofs.{throughout_build, throughout_request, throughout_source}
use Rattle.law_runs.specs.Stacks.{IsStacked, is_program, programs}
use Rattle.law_runs.proofs.FewProofs.{constructions_are_few}
use Rattle.law_runs.proofs.StepProofs.{stacks_last}
use Rattle.law_frames.specs.Counts.{BuildsRunFew, FewRun, RequestsRunFew, SourcesRunFew}
use Rattle.law_frames.specs.Frames.{EachOnce, runs_it}
use Rattle.law_frames.proofs.Steps.{builds_are_once, requests_are_once, sources_are_once}

-- the sum over the numbers below n
up_to : (ℕ → ℕ) → ℕ → ℕ
up_to f zero = 0
up_to f (suc n) = f n + up_to f n

-- where each number is one of the first n, each program is counted under its number
count_one : (k n : ℕ) → k < n → up_to (λ p. cond (nat_eq k p) 1 0) n ≡ 1
unfolding up_to
count_one k zero low = absurd (omega (arith, low))
count_one k (suc n) low = by (nat_eq k n) refl (none_later k n) (λ less. count_one k n less)
  where
    none_later : (k n : ℕ) → n ≤ k → up_to (λ p. cond (nat_eq k p) 1 0) n ≡ 0
    none_later k zero low = refl
    none_later k (suc n) low = one (nat_eq k n) refl (none_later k n (omega (arith, low)))
      where
        one : (b : Bool) → nat_eq k n ≡ b → up_to (λ p. cond (nat_eq k p) 1 0) n ≡ 0 → cond (nat_eq k n) 1 0 + up_to (λ p. cond (nat_eq k p) 1 0) n ≡ 0
        one true e later = absurd (let same = eqb-true k n e in omega (arith, low, same))
        one false e later = let zero = ap {B = ℕ} (λ b. cond b 1 0) e in omega (arith, zero, later)

    by : (b : Bool) → nat_eq k n ≡ b → (n ≤ k → up_to (λ p. cond (nat_eq k p) 1 0) n ≡ 0) → (k < n → up_to (λ p. cond (nat_eq k p) 1 0) n ≡ 1) → cond (nat_eq k n) 1 0 + up_to (λ p. cond (nat_eq k p) 1 0) n ≡ 1
    by true e none one = let same = eqb-true k n e in let here = ap {B = ℕ} (λ b. cond b 1 0) e in let later = none (omega (arith, same)) in omega (arith, here, later)
    by false e none one =
        let zero = ap {B = ℕ} (λ b. cond b 1 0) e in
        let apart = differ k n e in
        let later = one (omega (arith, low, apart)) in
        omega (arith, zero, later)
      where
        differ : (k n : ℕ) → nat_eq k n ≡ false → (k ≡ n → ⊥)
        differ k n e same = absurd (let yes = eq-eqb k n same in let z : true ≡ false = sym yes ∙ e in cc z)

both_up : (f g h : ℕ → ℕ) (n : ℕ) → ((p : ℕ) → f p ≡ g p + h p) → up_to f n ≡ up_to g n + up_to h n
unfolding up_to
both_up f g h zero same = refl
both_up f g h (suc n) same = let one = same n in let later = both_up f g h n same in omega (arith, one, later)

none_up : (n : ℕ) → up_to (λ p. 0) n ≡ 0
unfolding up_to
none_up zero = refl
none_up (suc n) = let later = none_up n in omega (arith, later)

few_up : (f : ℕ → ℕ) (n : ℕ) → ((p : ℕ) → f p ≤ 1) → up_to f n ≤ n
unfolding up_to
few_up f zero low = omega arith
few_up f (suc n) low = let one = low n in let later = few_up f n low in omega (arith, one, later)

within : {A : Type 0} (xs : List A) (i : ℕ) (x : A) → slice_get xs i ≡ Some x → i < length xs
within [] i x e = absurd (cc)
within (y ∷ ys) zero x e = omega arith
within (y ∷ ys) (suc i) x e = let h = within ys i x e in omega (arith, h)

-- another task counts nothing
same : (d : Definition) (tasks : List Task) (task : Task) → ((p : ℕ) → runs_it p task ≡ 0) → is_program task ≡ 0 → total is_program tasks ≡ up_to (λ p. total (runs_it p) tasks) (length d.programs) →
    total is_program (task ∷ tasks) ≡ up_to (λ p. total (runs_it p) (task ∷ tasks)) (length d.programs)
same d tasks task nothing not later =
    let sum = both_up (λ p. total (runs_it p) (task ∷ tasks)) (λ p. 0) (λ p. total (runs_it p) tasks) (length d.programs) (λ p. (let z = nothing p in omega (arith, z))) in
    let zero = none_up (length d.programs) in
    omega (arith, sum, zero, not, later)

module _ (d : Definition) (costs depths : Tables) (most : ℕ) (w : World) where
  counted : (agenda : List Task) (up : Down) (budget : ℕ) → AgendaGood d costs depths (view w) most up agenda budget → total is_program agenda ≡ up_to (λ p. total (runs_it p) agenda) (length d.programs)
  counted [] up budget g = sym (none_up (length d.programs))
  counted (Running frame ∷ tasks) up budget g =
      let one = count_one frame.program (length d.programs) (within d.programs frame.program g.3.1.p g.3.1.is) in
      let later = counted tasks _ g.2 g.6 in
      let sum = both_up (λ p. total (runs_it p) (Running frame ∷ tasks)) (λ p. cond (nat_eq frame.program p) 1 0) (λ p. total (runs_it p) tasks) (length d.programs) (λ p. refl) in
      omega (arith, one, later, sum)
  counted (Setting id slot x ∷ tasks) up budget g = same d tasks (Setting id slot x) (λ p. refl) refl (counted tasks _ g.2 g.6)
  counted (Notifying id slot ∷ tasks) up budget g = same d tasks (Notifying id slot) (λ p. refl) refl (counted tasks _ g.2 g.6)
  counted (Beginning e ∷ tasks) up budget g = same d tasks (Beginning e) (λ p. refl) refl (counted tasks _ g.2 g.6)
  counted (Emitting e turns ∷ tasks) up budget g = same d tasks (Emitting e turns) (λ p. refl) refl (counted tasks _ g.2 g.6)
  counted (Transferring number back ∷ tasks) up budget g = same d tasks (Transferring number back) (λ p. refl) refl (counted tasks _ g.2 g.6)
  counted (Unsetting number ∷ tasks) up budget g = same d tasks (Unsetting number) (λ p. refl) refl (counted tasks _ g.2 g.6)
  counted (Thawing id slots ∷ tasks) up budget g = same d tasks (Thawing id slots) (λ p. refl) refl (counted tasks _ g.2 g.6)
  counted (Answering source ∷ tasks) up budget g = same d tasks (Answering source) (λ p. refl) refl (counted tasks _ g.2 g.6)
  counted (Calling call ∷ tasks) up budget g = same d tasks (Calling call) (λ p. refl) refl (counted tasks _ g.2 g.6)
  counted (Constructing id steps held ∷ tasks) up budget g = same d tasks (Constructing id steps held) (λ p. refl) refl (counted tasks _ g.2 g.6)
  counted (Building items ∷ tasks) up budget g = same d tasks (Building items) (λ p. refl) refl (counted tasks _ g.2 g.6)
  counted (Handling request ∷ tasks) up budget g = same d tasks (Handling request) (λ p. refl) refl (counted tasks _ g.2 g.6)
  counted (Due source ∷ tasks) up budget g = same d tasks (Due source) (λ p. refl) refl (counted tasks _ g.2 g.6)

programs_few : (d : Definition) (c : Config) → EachOnce d c → (costs depths : Tables) (most_counted most : ℕ) → Good d costs depths most_counted most c → programs c.agenda ≤ length d.programs
programs_few d c each costs depths most_counted most good =
    let is = counted d costs depths most c.world c.agenda coming.none good.budget good.agenda in
    let few = few_up (λ p. total (runs_it p) c.agenda) (length d.programs) each.programs in
    omega (arith, is, few)

-- ** throughout dispatches

abbrev Few : Definition → Config → Type 0
Few d c = EachOnce d c → programs c.agenda ≤ length d.programs

few_run : (d : Definition) (c : Config) → EachOnce d c → Few d c → IsStacked c.agenda → FewRun d c
few_run d c each few stacked =
    let run = few each in
    let made = (constructions_are_few c.agenda stacked).0 in
    record { programs = run; constructions = omega (arith, run, made) }

pub builds_run_few : BuildsRunFew
builds_run_few d well a peers ready replies fit at reached =
    few_run d at (builds_are_once d well a peers ready replies fit at reached)
    (throughout_build d (Few d) (λ costs depths counted most c good each. programs_few d c each costs depths counted most good) well a peers ready replies fit at reached)
    (stacks_last d replies (of_build d peers) at reached tt)

pub requests_run_few : RequestsRunFew
requests_run_few d well a w rest r fits kept replies fit at reached =
    few_run d at (requests_are_once d well a w rest r fits kept replies fit at reached)
    (throughout_request d (Few d) (λ costs depths counted most c good each. programs_few d c each costs depths counted most good) well a w rest r fits kept replies fit at reached)
    (stacks_last d replies (of_request w r) at reached tt)

pub sources_run_few : SourcesRunFew
sources_run_few d well a w rest number s is replies fit at reached =
    few_run d at (sources_are_once d well a w rest number s is replies fit at reached)
    (throughout_source d (Few d) (λ costs depths counted most c good each. programs_few d c each costs depths counted most good) well a w rest number s is replies fit at reached)
    (stacks_last d replies (beginning w (Due number)) at reached (tt, tt))
