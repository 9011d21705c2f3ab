-- Freezes, and what waits in the queues.
use Rattle.std.specs.Prelude.{◌≡◌, ℕ, suc, ◌+◌, ◌≤◌, ◌<◌, cond, nat_eq, List, [], ◌∷◌, drop, Option, None, Some}
use Rattle.ui_machine.specs.Seq.{read, total}
use Rattle.ui_machine.specs.Definition.Values.{Value}
use Rattle.ui_machine.specs.Definition.Values as values
use Rattle.ui_machine.specs.Definition.{Definition}
use Rattle.ui_machine.specs.State.Objects.{Object, Objects}
use Rattle.ui_machine.specs.State.Bindings.{Binding}
use Rattle.ui_machine.specs.State.Tasks.{ConstructStep, thaws, Task, Setting, Transferring, Unsetting, Running, Constructing, Due}
use Rattle.ui_machine.specs.State.Config.{Config}
use Rattle.ui_machine.specs.State.References.{next_unheld, mentions}
use Rattle.ui_machine.specs.State.Objects as heap
use Rattle.law_typing.specs.Graph.Channels.{property}
use Rattle.law_typing.specs.Rules.Brackets.{opened}
use Rattle.law_typing.specs.Graph.Tables.{Tables, entry}
use Rattle.law_typing.specs.Verdict.Accepted.{Each}
use Rattle.law_typing.specs.Good.DueCosts.{queued_cost}
use Rattle.law_typing.specs.Good.Programs.{code_left}
use Rattle.law_typing.specs.Good.Builds.{is_for_builder}
use Rattle.law_typing.specs.Good.Agenda.{frames}

-- how often a construction has still to thaw its object
abbrev pub to_thaw : List ConstructStep → ℕ
to_thaw [] = 0
to_thaw (thaws ∷ more) = 1 + to_thaw more
to_thaw (m ∷ more) = to_thaw more

-- how often a program's rest holds an object frozen: the registers that its code still thaws
abbrev pub frozen_by : Definition → ℕ → Task → ℕ
frozen_by d id (Running frame) = total holding (opened (code_left d frame))
  where
    names : Option Value → ℕ
    names (Some (values.object (Some i))) = cond (nat_eq i id) 1 0
    names _ = 0

    holding : ℕ → ℕ
    holding r = names (read None frame.registers r)
frozen_by d id (Constructing object todo held) = cond (nat_eq object id) (to_thaw todo) 0
frozen_by d id _ = 0

-- the frames below the lowest task that holds an object frozen: what is queued is notified above them
abbrev pub below_lowest : Definition → ℕ → List Task → ℕ
below_lowest d id [] = 0
below_lowest d id (task ∷ tasks) = cond (nat_eq (total (frozen_by d id) tasks) 0) (frames tasks) (below_lowest d id tasks)

-- An object is frozen as often as brackets are open on it; it has no queue without that; a count is no more than the steps taken, so that
-- it does not reach its end; and what is queued has its frames above the lowest bracket.
pub record QueueGood (d : Definition) (depths : Tables) (most : ℕ) (agenda : List Task) (counted id : ℕ) (o : Object) : Type 0 where
  pub count : o.freezes ≡ total (frozen_by d id) agenda
  pub few : o.freezes ≤ suc counted
  pub none : o.freezes ≡ 0 → o.queue ≡ []
  pub deep : Each (λ slot. suc (below_lowest d id agenda) + entry depths.channels (property o.place slot) ≤ most) o.queue

abbrev pub QueuesGood : Definition → Tables → ℕ → List Task → ℕ → Objects → Type 0
QueuesGood d depths most agenda counted os = (id : ℕ) (o : Object) → heap.living os id ≡ Some o →
    QueueGood d depths most agenda counted id o

-- what the queued notifications of an object carry of what they may still cost
abbrev pub carried : Definition → Tables → (making : ℕ) → Option Object → ℕ
carried d costs making None = 0
carried d costs making (Some o) = total (λ slot. queued_cost d costs making o.place slot) o.queue

-- ** objects before bindings

-- 1 where a binding's transfer is due, or the binding is to be set free
abbrev pub is_carrying_over : Task → ℕ
is_carrying_over (Transferring number back) = 1
is_carrying_over (Unsetting number) = 1
is_carrying_over task = 0

pub record ObjectsFirst (agenda : List Task) (bs : List Binding) : Type 0 where
  -- while the builder makes an object there is no binding, and no transfer is under way
  pub before : 0 < total is_for_builder agenda → (bs ≡ []) × (total is_carrying_over agenda ≡ 0)
  -- it makes one at a time
  pub one : total is_for_builder agenda ≤ 1

-- ** due sets

-- 1 where a set is due
abbrev pub is_due_set : Task → ℕ
is_due_set (Setting object slot v) = 1
is_due_set task = 0

-- 1 where a source is due
abbrev pub is_due_source : Task → ℕ
is_due_source (Due source) = 1
is_due_source task = 0

-- a set is due only as the first task, and then nothing is to be finalised before it; a source is due only as the first task as well, so
-- that no program removes it before it runs
pub record SetsGood (d : Definition) (c : Config) : Type 0 where
  pub alone : total is_due_source (drop 1 c.agenda) ≡ 0
  pub first : total is_due_set (drop 1 c.agenda) ≡ 0
  pub held : 0 < total is_due_set c.agenda → next_unheld (mentions d c) c.world.objects ≡ None
