-- What is to be shown of a task that is taken, and the tasks that begin programs, wait or end with nothing.
use Rattle.std.proofs.Common.{◌≡◌, ap, subst, ◌∙◌, ℕ, suc, ◌+◌, ◌≤◌, Bool, cond, List, [], ◌∷◌, ◌++◌, Option, Some, Ok, arith}
use Rattle.std.specs.Prelude.{nat_eq, nat_lt}
use Rattle.ui_machine.specs.declared.arm.Arm.{Arm}
use Rattle.ui_machine.specs.declared.arm.Arm.TheVariants as arms
use Rattle.ui_machine.specs.Seq.{total}
use Rattle.ui_machine.specs.Definition.{Definition}
use Rattle.ui_machine.specs.Definition.Lookups.{program_at}
use Rattle.ui_machine.specs.Definition.Places.{Bind}
use Rattle.ui_machine.specs.Definition.Programs.{Program}
use Rattle.ui_machine.specs.Definition.Values.{Value}
use Rattle.ui_machine.specs.Outcome.{Answer, known}
use Rattle.ui_machine.specs.Output.Lines as lines
use Rattle.ui_machine.specs.Rules.Build.{of_items}
use Rattle.ui_machine.specs.Rules.Programs.{all_fit, beginning_program, first_frame, fits_register, program_before}
use Rattle.ui_machine.specs.State.Config.{Config, Left, Started, World, said, starts}
use Rattle.ui_machine.specs.State.Objects.{Objects}
use Rattle.ui_machine.specs.State.Tasks.{Item, Running, Task}
use Rattle.ui_machine.specs.Steps.{before, counted, left, most_steps, uncounted}
use Rattle.law_typing.specs.Good.Builds.{is_for_builder}
use Rattle.law_typing.specs.Good.DueCosts.{unsets}
use Rattle.law_typing.specs.Good.Standing.{Standing, standing}
use Rattle.law_typing.specs.Graph.Channels.{Channel, is_pair, source_of, target_of}
use Rattle.law_typing.specs.Graph.Tables.{Tables, entry, of_program}
use Rattle.law_steps.proofs.Instructed.Inverse.{bound, known_is, only}
use Rattle.law_steps.proofs.Tasked.First.{First}
use Rattle.law_prices.specs.Deeds.{Deed, PriceList}
use Rattle.law_prices.specs.Paid.{HandlersPaid}
use Rattle.law_prices.specs.Potential.{agenda_price, due_pair, due_price, floating_price, is_free, running_price, seen, transfer_price}
use Rattle.law_prices.specs.Prices.{SolvesPrices, carry_price, node_price, pair_price}
use Rattle.law_prices.specs.Steps.{done_by, task_deeds}
use Rattle.law_prices.proofs.Frames.{begun_is}
use Rattle.law_prices.proofs.Pays.{ok_is, paid_in}
use Rattle.law_prices.proofs.Sums.{by_number_same}
use Rattle.law_prices.proofs.Whole.{agenda_alike, objects_fall, objects_price, whole}

-- ** what a step leads to

pub uncounted_is : (rest : List Task) (n : ℕ) (answer : Answer Started) (e : Config) → uncounted rest n answer ≡ Ok e → (s : Started) × (answer ≡ Ok s) × (before rest n s ≡ e)
uncounted_is rest n answer e h = let b = bound answer (λ (s : Started). Ok (before rest n s)) e h in (b.0, b.1, ok_is {E = Arm} (before rest n b.0) e b.2)

pub counted_is : (rest : List Task) (n : ℕ) (answer : Answer Started) (e : Config) → counted rest n answer ≡ Ok e → (s : Started) × (answer ≡ Ok s) × (before rest (suc n) s ≡ e)
counted_is rest n answer e h = let k = only (nat_lt n most_steps) arms.Steps (uncounted rest (suc n) answer) e h in uncounted_is rest (suc n) answer e k.1

pub left_is : (n : ℕ) (answer : Answer Left) (e : Config) → left n answer ≡ Ok e → (l : Left) × (answer ≡ Ok l) × (record { world = l.world; agenda = l.agenda; counted = n } ≡ e)
unfolding left
left_is n answer e h = let b = bound answer (λ (l : Left). Ok (record { world = l.world; agenda = l.agenda; counted = n })) e h in (b.0, b.1, ok_is {E = Arm} _ e b.2)

-- a program begins in front of some tasks
pub begins_is : (d : Definition) (w : World) (q : ℕ) (args : List Value) (tasks : List Task) (s : Started) → program_before d w q args tasks ≡ Ok s →
    (p : Program) × (program_at d q ≡ Some p) × (record { world = said d w (lines.run p.name); tasks = Running (first_frame q p args) ∷ tasks } ≡ s)
unfolding program_before beginning_program
begins_is d w q args tasks s e =
    let begun = bound (beginning_program d w q args) _ s e in
    let p = bound (known arms.Code (program_at d q)) _ begun.0 begun.1 in
    let fit = only (all_fit (fits_register d w.objects) args p.0.params) arms.Parameters (starts (said d w (lines.run p.0.name)) (Running (first_frame q p.0 args) ∷ [])) begun.0 p.2 in
    let made = ok_is {E = Arm} _ begun.0 fit.1 in (
      p.0,
      known_is arms.Code (program_at d q) p.0 p.1,
      ap (λ (b : Started). record { world = b.world; tasks = b.tasks ++ tasks }) made ∙ ok_is {E = Arm} _ s begun.2,
    )

-- ** what lies below

module _ (d : Definition) (P : PriceList) (t : Tables) where
  free_alike : (a b : List Task) → ((n : ℕ) → total (unsets n) a ≡ total (unsets n) b) → (n : ℕ) → is_free a n ≡ is_free b n
  free_alike a b same n = ap (λ m. nat_eq m 0) (same n)

  pub due_alike : (a b : List Task) → ((n : ℕ) → total (unsets n) a ≡ total (unsets n) b) → (c : Channel) → due_price d P t a c ≡ due_price d P t b c
  due_alike a b same c =
      let h = by_number_same (due_pair d P t a c) (due_pair d P t b c) 0 d.bindings (λ n x. ap (λ f. cond f (pair_price d P t c n x) 0) (free_alike a b same n)) in omega (arith, h)

  pub transfer_alike : (a b : List Task) → ((n : ℕ) → total (unsets n) a ≡ total (unsets n) b) → (n : ℕ) (back : Bool) (x : Bind) → transfer_price d P t a n back x ≡ transfer_price d P t b n back x
  transfer_alike a b same n back x =
      ap (λ f. cond (is_pair x) (cond f (carry_price d P n (cond back (source_of x) (target_of x)) + entry t.channels (cond back (source_of x) (target_of x))) 0) (carry_price d P n (target_of x) + node_price d P t (target_of x))) (free_alike a b same n)

  -- what is done where something is there
  pub done_is : {A : Type 0} (f : A → List Deed) (o : Option A) (x : A) → o ≡ Some x → total P (done_by f o) ≡ total P (f x)
  done_is f o x e = ap (λ o. total P (done_by f o)) e

  module _ {task : Task} (x : First d task) where
    open x use {a, w, rest, n, g}

    abbrev pub PaidHere : Type 0
    PaidHere = HandlersPaid d a (standing w.objects) (task ∷ rest) w.last_handler w.handlers

    -- what is to be shown of the world and the agenda that the task leaves
    pub record Falls (v : World) (agenda : List Task) : Type 0 where
      pub falls : total P (task_deeds d w task) + whole d P t v agenda ≤ whole d P t w (task ∷ rest)
      pub paid : HandlersPaid d a (standing v.objects) agenda v.last_handler v.handlers

    -- a world in which nothing that costs has changed
    pub record Steady (v : World) (agenda : List Task) : Type 0 where
      pub objects : v.objects ≡ w.objects
      pub handlers : v.handlers ≡ w.handlers
      pub last : v.last_handler ≡ w.last_handler
      pub sources : v.sources ≡ w.sources
      pub floating : floating_price d P (standing w.objects) v.floating ≤ floating_price d P (standing w.objects) w.floating
      pub makes : total is_for_builder agenda ≤ total is_for_builder (task ∷ rest)
      pub items : (f : Item → ℕ) → total (of_items f) agenda ≤ total (of_items f) (task ∷ rest)

    pub steady : (v : World) (agenda : List Task) → Steady v agenda → total P (task_deeds d w task) + agenda_price d P t (seen w) agenda ≤ agenda_price d P t (seen w) (task ∷ rest) → PaidHere → Falls v agenda
    steady v agenda k less paid = record {
      falls = (
          let x = agenda_alike d P t (seen w) (seen v) agenda (ap standing k.objects) k.handlers k.sources in
          let os = ap (objects_price d P t (total is_for_builder agenda)) k.objects in
          let few = objects_fall d P t (total is_for_builder agenda) (total is_for_builder (task ∷ rest)) w.objects k.makes in
          let fs = ap (λ (o : Objects). floating_price d P (standing o) v.floating) k.objects in
          let low = k.floating in
          omega (arith, x, os, few, fs, low, less));
      paid = paid_in d a w v (task ∷ rest) agenda (ap standing k.objects) k.handlers k.last k.items paid;
    }

    -- the step leads to it
    pub leads_to : (s : Started) (m : ℕ) (e : Config) → before rest m s ≡ e → Falls s.world (s.tasks ++ rest) → Falls e.world e.agenda
    leads_to s m e is falls = subst (λ (e : Config). Falls e.world e.agenda) is falls

    pub starts_to : (s : Started) (v : World) (tasks : List Task) → record { world = v; tasks = tasks } ≡ s → Falls v (tasks ++ rest) → Falls s.world (s.tasks ++ rest)
    starts_to s v tasks is falls = subst (λ (s : Started). Falls s.world (s.tasks ++ rest)) is falls

    -- a program that begins
    pub begun : SolvesPrices d P t → (q : ℕ) (args : List Value) (tasks : List Task) (s : Started) → program_before d w q args tasks ≡ Ok s →
        ((p : Program) → running_price d P t (first_frame q p args) ≤ of_program t q → Falls (said d w (lines.run p.name)) (Running (first_frame q p args) ∷ tasks ++ rest)) → Falls s.world (s.tasks ++ rest)
    begun solves q args tasks s e pays =
        let b = begins_is d w q args tasks s e in
        starts_to s (said d w (lines.run b.0.name)) (Running (first_frame q b.0 args) ∷ tasks) b.2 (pays b.0 (begun_is d P t x.well solves q b.0 args b.1))

    -- a world with other objects at the same places
    pub record Moved (v : World) (agenda : List Task) : Type 0 where
      pub stands : standing v.objects ≡ standing w.objects
      pub handlers : v.handlers ≡ w.handlers
      pub last : v.last_handler ≡ w.last_handler
      pub sources : v.sources ≡ w.sources
      pub floating : floating_price d P (standing w.objects) v.floating ≤ floating_price d P (standing w.objects) w.floating
      pub items : (f : Item → ℕ) → total (of_items f) agenda ≤ total (of_items f) (task ∷ rest)

    pub moved : (v : World) (agenda : List Task) → Moved v agenda →
        total P (task_deeds d w task) + agenda_price d P t (seen w) agenda + objects_price d P t (total is_for_builder agenda) v.objects
        ≤ agenda_price d P t (seen w) (task ∷ rest) + objects_price d P t (total is_for_builder (task ∷ rest)) w.objects → PaidHere → Falls v agenda
    moved v agenda k less paid = record {
      falls = (
          let x = agenda_alike d P t (seen w) (seen v) agenda k.stands k.handlers k.sources in
          let fs = ap (λ (s : Standing). floating_price d P s v.floating) k.stands in
          let low = k.floating in
          omega (arith, x, fs, low, less));
      paid = paid_in d a w v (task ∷ rest) agenda k.stands k.handlers k.last k.items paid;
    }
