-- The machine: one step from a configuration. Its order of tasks is this runtime's own; what each does has its manual's section there.
use Rattle.std.specs.Prelude.{Err, List, None, Ok, Option, Some, [], nat_lt, suc, ℕ, ◌++◌, ◌∷◌}
use Rattle.ui_machine.specs.declared.arm.Arm.TheVariants as arms
use Rattle.ui_machine.specs.Definition.{Definition}
use Rattle.ui_machine.specs.Instructions.{running}
use Rattle.ui_machine.specs.Instructions.Peers.{calling_on, question_of}
use Rattle.ui_machine.specs.Outcome.{Answer, only_if, ◌>>=◌}
use Rattle.ui_machine.specs.Rules.Accumulation.{ending, taking_entry}
use Rattle.ui_machine.specs.Rules.Build.{building}
use Rattle.ui_machine.specs.Rules.Construction.{constructing}
use Rattle.ui_machine.specs.Rules.Disposal.{finalised}
use Rattle.ui_machine.specs.Rules.EmissionPlan.{beginning_emission, notifying}
use Rattle.ui_machine.specs.Rules.Events.{request_step}
use Rattle.ui_machine.specs.Rules.MainLoop.{sourcing}
use Rattle.ui_machine.specs.Rules.NotifyQueue.{thawing}
use Rattle.ui_machine.specs.Rules.Sets.{setting}
use Rattle.ui_machine.specs.Rules.Transfers.{transferring, unsetting}
use Rattle.ui_machine.specs.State.Config.{Config, Left, Started, World, starts, sunk}
use Rattle.ui_machine.specs.State.Peers.{Question, Reply}
use Rattle.ui_machine.specs.State.References.{mentions, next_unheld}
use Rattle.ui_machine.specs.State.Tasks.{Answering, Beginning, Building, Calling, Handling, Constructing, Due, Emitting, Notifying, Running, Setting, Task, Thawing, Transferring, Unsetting}

-- the most counted steps of a dispatch
abbrev pub most_steps : ℕ
most_steps = 1_000_000_000_000

-- ** steps

-- what a task starts goes in front of the rest
abbrev pub before : List Task → ℕ → Started → Config
before rest n s = record { world = s.world; agenda = s.tasks ++ rest; counted = n }

-- an uncounted step
abbrev pub uncounted : List Task → ℕ → Answer Started → Answer Config
uncounted rest n answer = do
  s ← answer
  Ok (before rest n s)

-- a counted step, of which a dispatch has only so many
abbrev pub counted : List Task → ℕ → Answer Started → Answer Config
counted rest n answer = only_if (nat_lt n most_steps) arms.Steps (uncounted rest (suc n) answer)

-- a step that leaves a whole agenda
unfoldable pub left : ℕ → Answer Left → Answer Config
left n answer = do
  l ← answer
  Ok (record { world = l.world; agenda = l.agenda; counted = n })

-- a counted step that leaves a whole agenda
abbrev pub counted_left : ℕ → Answer Left → Answer Config
counted_left n answer = only_if (nat_lt n most_steps) arms.Steps (left (suc n) answer)

-- what still floats as nothing is left to do is let go, the lowest first; identities rise, so that it is the first
abbrev pub sink_first_floating : World → List ℕ → World
sink_first_floating w [] = w
sink_first_floating w (id ∷ ids) = sunk w id

-- what the first task does; a call takes the reply
abbrev pub act : Definition → World → Option Reply → List Task → ℕ → Answer Config
act d w reply [] n = Ok (record { world = sink_first_floating w w.floating; agenda = []; counted = n })
act d w reply (Setting id slot v ∷ rest) n = uncounted rest n (setting d w id slot v)
act d w reply (Notifying id slot ∷ rest) n = counted rest n (notifying d w id slot)
act d w reply (Beginning emission ∷ rest) n = counted rest n (beginning_emission d w emission)
act d w reply (Emitting emission [] ∷ rest) n = left n (ending d w emission rest)
act d w reply (Emitting emission (entry ∷ entries) ∷ rest) n = uncounted rest n (taking_entry d w emission entries entry)
act d w reply (Transferring number back ∷ rest) n = counted rest n (transferring d w number back)
act d w reply (Unsetting number ∷ rest) n = uncounted rest n (unsetting w number)
act d w reply (Thawing id slots ∷ rest) n = uncounted rest n (thawing w id slots)
act d w reply (Running frame ∷ rest) n = counted_left n (running d w rest frame)
act d w reply (Answering source ∷ rest) n = Err arms.Code
act d w reply (Calling call ∷ rest) n = left n (calling_on d w call rest reply)
act d w reply (Constructing id steps held ∷ rest) n = uncounted rest n (constructing d w id steps held)
act d w reply (Building items ∷ rest) n = uncounted rest n (building d w items)
act d w reply (Handling request ∷ rest) n = uncounted rest n (request_step d w request)
act d w reply (Due source ∷ rest) n = uncounted rest n (sourcing d w source)

-- an object is finalised
unfoldable pub finalising : Definition → World → ℕ → Answer Started
finalising d w id = do
  v ← finalised d w id
  starts v []

-- an object without a mention is finalised before anything else
abbrev pub first_of : Definition → Option Reply → Config → Option ℕ → Answer Config
first_of d reply c (Some id) = counted c.agenda c.counted (finalising d c.world id)
first_of d reply c None = act d c.world reply c.agenda c.counted

-- the step from a configuration, or the arm by which it is stuck; a peer that is asked gives this reply
abbrev pub step : Definition → Option Reply → Config → Answer Config
step d reply c = first_of d reply c (next_unheld (mentions d c) c.world.objects)

-- ** what a step asks

-- what the first task asks of a peer
abbrev pub asked_first : World → List Task → Option Question
asked_first w [] = None
asked_first w (Setting id slot v ∷ rest) = None
asked_first w (Notifying id slot ∷ rest) = None
asked_first w (Beginning emission ∷ rest) = None
asked_first w (Emitting emission entries ∷ rest) = None
asked_first w (Transferring number back ∷ rest) = None
asked_first w (Unsetting number ∷ rest) = None
asked_first w (Thawing id slots ∷ rest) = None
asked_first w (Running frame ∷ rest) = None
asked_first w (Answering source ∷ rest) = None
asked_first w (Calling call ∷ rest) = question_of w call
asked_first w (Constructing id steps held ∷ rest) = None
asked_first w (Building items ∷ rest) = None
asked_first w (Handling request ∷ rest) = None
asked_first w (Due source ∷ rest) = None

-- a finalisation asks nothing
abbrev pub asked_after : Config → Option ℕ → Option Question
asked_after c (Some id) = None
asked_after c None = asked_first c.world c.agenda

-- what the step from a configuration asks of a peer, if it asks one
abbrev pub question : Definition → Config → Option Question
question d c = asked_after c (next_unheld (mentions d c) c.world.objects)
