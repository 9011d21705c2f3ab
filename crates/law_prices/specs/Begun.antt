-- Which emissions and programs the steps of a dispatch begin.
use Rattle.std.specs.Prelude.{ℕ, zero, suc, ◌+◌, Bool, false, cond, nat_eq, nat_lt, List, ◌∷◌, Option, None, Some, option_and_then, option_map}
use Rattle.ui_machine.specs.Definition.{Definition}
use Rattle.ui_machine.specs.Rules.Programs.{place_in}
use Rattle.ui_machine.specs.Runs.{Steps}
use Rattle.ui_machine.specs.State.Config.{Config, World}
use Rattle.ui_machine.specs.State.Handlers.{Handler, handler_of}
use Rattle.ui_machine.specs.State.Peers.{Reply}
use Rattle.ui_machine.specs.State.References.{mentions, next_unheld}
use Rattle.ui_machine.specs.State.Sources.{Source, source_of}
use Rattle.ui_machine.specs.State.Tasks.{Beginning, Constructing, Due, Emitting, Notifying, Task, class_handler, handler}
use Rattle.ui_machine.specs.State.Tasks as config
use Rattle.law_typing.specs.Graph.Channels.{Channel, property, same_channel, signal}
use Rattle.law_prices.specs.Bounds.{Within}
use Rattle.law_prices.specs.Dispatches.{OfDispatches}
use Rattle.law_prices.specs.Lists.{emissions, runs}

-- ** first tasks

-- the channel at which the first task begins an emission, if it begins one
abbrev pub emission_begun : World → List Task → Option Channel
emission_begun w (Notifying id slot ∷ rest) = option_map (λ place. property place slot) (place_in w.objects id)
emission_begun w (Beginning e ∷ rest) = option_map (λ place. signal place e.signal) (place_in w.objects e.object)
emission_begun w _ = None

-- the program of a handler that is not blocked
abbrev pub unblocked_program : Handler → Option ℕ
unblocked_program h = cond (nat_lt 0 h.blocks) None (Some h.program)

-- the program that the first task begins, if it begins one
abbrev pub program_begun : World → List Task → Option ℕ
program_begun w (Emitting e (class_handler program cleanup ∷ turns) ∷ rest) = Some program
program_begun w (Emitting e (handler number ∷ turns) ∷ rest) = option_and_then unblocked_program (handler_of number w.handlers)
program_begun w (Constructing id (config.runs program ∷ steps) held ∷ rest) = Some program
program_begun w (Due number ∷ rest) = option_map (λ (s : Source). s.program) (source_of number w.sources)
program_begun w _ = None

-- ** steps

-- what is begun where this object is finalised before all tasks: nothing; or else by the first task
abbrev pub begun_after : {A : Type 0} → (World → List Task → Option A) → Config → Option ℕ → Option A
begun_after begun c (Some id) = None
begun_after begun c None = begun c.world c.agenda

-- what the step from a configuration begins, if it begins something
abbrev pub begun_by_step : {A : Type 0} → (World → List Task → Option A) → Definition → Config → Option A
begun_by_step begun d c = begun_after begun c (next_unheld (mentions d c) c.world.objects)

-- whether there is something, and it passes the test
abbrev pub passes : {A : Type 0} → (A → Bool) → Option A → Bool
passes test None = false
passes test (Some x) = test x

-- how many of some steps begin something that passes the test
abbrev pub times_begun : {A : Type 0} → (World → List Task → Option A) → (A → Bool) → (d : Definition) (n : ℕ) (replies : List Reply) (c e : Config) →
    Steps d n replies c e → ℕ
times_begun begun test d zero replies c e s = 0
times_begun begun test d (suc n) replies c e s =
    cond (passes test (begun_by_step begun d c)) 1 0 + times_begun begun test d n s.later s.mid e s.follows

-- ** bounds

-- a dispatch begins no more emissions at a channel than its bound by the list of these emissions says
abbrev pub EmissionsAreWithin : Type 0
EmissionsAreWithin =
    OfDispatches
    (λ d e n replies c at s. (channel : Channel) →
    Within d (emissions channel) e (times_begun emission_begun (same_channel channel) d n replies c at s))

-- and a program no more often than its bound by the list of its runs says
abbrev pub ProgramsAreWithin : Type 0
ProgramsAreWithin =
    OfDispatches
    (λ d e n replies c at s. (program : ℕ) →
    Within d (runs program) e (times_begun program_begun (λ q. nat_eq q program) d n replies c at s))
