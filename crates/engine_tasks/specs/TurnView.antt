-- What the program of a turn is given.
use Rattle.std.specs.Prelude.{ℕ, cond, List, [], ◌∷◌, ◌++◌, Option, None, Some}
use Rattle.ui_machine.specs.Definition.Values as values
use Rattle.ui_machine.specs.Definition.Values.{Value}
use Rattle.ui_machine.specs.Rules.Accumulation.{instance_of}
use Rattle.ui_machine.specs.State.Tasks.{Emission}
use Rattle.instance_tables.specs.Store.{id_of}
use Rattle.signal_core.specs.declared.turn.Turn.{Turn}
use Rattle.signal_core.specs.declared.turn.Turn.TheVariants as turns
use Rattle.engine_tasks.specs.declared.turns.Invocation.{Invocation}

-- a turn that runs a program
abbrev pub RunsProgram : Turn → Type 0
RunsProgram turns.Transfers = ⊥
RunsProgram _ = Unit {0}

-- the program that it runs
abbrev pub program_of_turn : Turn → ℕ
program_of_turn (turns.Class program) = program
program_of_turn (turns.Handler program swapped arg) = program
program_of_turn turns.Transfers = 0

-- the value of an object, if there is one
abbrev pub value_of : Option ℕ → List Value
value_of None = []
value_of (Some id) = values.object (Some id) ∷ []

-- The program is given the instance, the arguments and a handler's data; swapped, the data, the arguments and the instance.
abbrev pub given_by : Emission → Turn → List Value
given_by e (turns.Class program) = instance_of e ∷ e.args
given_by e (turns.Handler program swapped arg) =
    cond swapped (value_of (id_of arg) ++ (e.args ++ instance_of e ∷ [])) (instance_of e ∷ (e.args ++ value_of (id_of arg)))
given_by e turns.Transfers = []

-- the arguments, with the objects before and behind them
abbrev pub given_around : Invocation → List Value → List Value
given_around i args = value_of (id_of i.before) ++ (args ++ value_of (id_of i.behind))
