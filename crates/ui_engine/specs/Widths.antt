-- How much room the registers of programs, the arguments of emissions and the steps of constructions take.
use Rattle.std.specs.Prelude.{◌<◌, ◌≤◌, IfSome, Some, length, ℕ}
use Rattle.ui_machine.specs.Definition.{Definition}
use Rattle.ui_machine.specs.Definition.Lookups.{place_at, program_at}
use Rattle.ui_machine.specs.Rules.EmissionPlan.{signal_of}
use Rattle.engine_world.specs.Measure.{sets_of_place}

-- no program has more registers; the number of a program has 16 bits
abbrev pub HoldsRegisters : Definition → ℕ → Type 0
HoldsRegisters d width = (number : ℕ) → number < 65535 → IfSome (program_at d number) (λ p. p.registers ≤ width)

-- no signal of a class has more arguments
abbrev pub HoldsParams : Definition → (class : ℕ) → ℕ → Type 0
HoldsParams d class most = (number : ℕ) → IfSome (signal_of d class number) (λ s. length s.params ≤ most)

-- none of any class has
abbrev pub HoldsSignals : Definition → ℕ → Type 0
HoldsSignals d most = (class : ℕ) → HoldsParams d class most

-- the construction of what is at a place has no more steps: the sets of its properties and of what it is given, its programs, and the thaw
abbrev pub HoldsSteps : Definition → (place : ℕ) → ℕ → Type 0
HoldsSteps d place most = IfSome (place_at d place) (λ p. sets_of_place d (Some p) < most)
