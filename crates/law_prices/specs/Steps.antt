-- What each step of the machine does, as price lists tell it apart.
use Rattle.std.specs.Prelude.{ℕ, cond, List, [], ◌∷◌, Option, None, Some, Ok, Err, slice_get}
use Rattle.ui_machine.specs.Definition.{Definition}
use Rattle.ui_machine.specs.Definition.Lookups.{place_of}
use Rattle.ui_machine.specs.Definition.Programs.{Block, Instruction}
use Rattle.ui_machine.specs.Definition.Programs as words
use Rattle.ui_machine.specs.Instructions.Jumps.{block_in, in_pass}
use Rattle.ui_machine.specs.Instructions.Registers.{operand_in}
use Rattle.ui_machine.specs.Outcome.{Answer}
use Rattle.ui_machine.specs.Rules.Construction.{nearest_shape}
use Rattle.ui_machine.specs.Rules.Programs.{place_in}
use Rattle.ui_machine.specs.Seq.{total}
use Rattle.ui_machine.specs.State.Config.{Config, World}
use Rattle.ui_machine.specs.State.Handlers.{Handler, handler_of}
use Rattle.ui_machine.specs.State.Objects.{Object, class_in, living}
use Rattle.ui_machine.specs.State.References.{mentions, next_unheld}
use Rattle.ui_machine.specs.State.Sources.{Source, source_of}
use Rattle.ui_machine.specs.State.Tasks.{Answering, Beginning, Building, Call, Calling, Constructing, ConstructStep, Due, Emission, Emitting, Frame, Handling, Item, Notifying, PlanEntry, Running, Setting, Task, Thawing, Transferring, Unsetting, class_handler, handler, makes, runs, sets, thaws}
use Rattle.ui_machine.specs.State.Tasks as config
use Rattle.law_prices.specs.Asked.{asked_by, source}
use Rattle.law_prices.specs.Prices.{shape_number}
use Rattle.law_prices.specs.Deeds.{Deed, PriceList, answer, begin, built, construct, dispose, emit, end, final, free, instruction, item, make, name, notify, run, set, settle, tell, thawed, transfer, turn}

-- where something is there, what is done by it
abbrev pub done_by : {A : Type 0} → (A → List Deed) → Option A → List Deed
done_by f None = []
done_by f (Some x) = f x

-- what is done at the place of an identity
abbrev pub done_at : World → ℕ → (ℕ → List Deed) → List Deed
done_at w id f = done_by f (place_in w.objects id)

-- ** tasks

-- a turn, and the program that begins in it; one of a handler that is blocked may not
abbrev pub turn_deeds : World → (place signal : ℕ) → PlanEntry → List Deed
turn_deeds w place signal (class_handler program cleanup) = turn place signal ∷ run program ∷ []
turn_deeds w place signal (handler number) = turn place signal ∷ done_by (λ (h : Handler). run h.program ∷ []) (handler_of number w.handlers)
turn_deeds w place signal (config.transfer number back) = turn place signal ∷ []

-- an emission ends, and an event is told its result
abbrev pub end_deeds : Emission → ℕ → List Deed
end_deeds e place = end place e.signal ∷ cond e.by_event (tell place e.signal ∷ []) []

-- a step of a construction, and the program that begins in it
abbrev pub construct_deeds : ℕ → ConstructStep → List Deed
construct_deeds place (sets slot v) = construct place ∷ []
construct_deeds place (runs program) = construct place ∷ run program ∷ []
construct_deeds place thaws = construct place ∷ []

-- an item of the build, and the object that is made by it
abbrev pub item_deeds : Item → List Deed
item_deeds (makes place) = item (makes place) ∷ make place ∷ []
item_deeds i = item i ∷ []

-- the dispose of an object that was not disposed
abbrev pub first_dispose : Object → List Deed
first_dispose o = cond o.disposed [] (dispose o.place ∷ [])

-- that of an operand, if it is there
abbrev pub dispose_deeds : World → Answer ℕ → List Deed
dispose_deeds w (Err arm) = []
dispose_deeds w (Ok id) = done_by first_dispose (living w.objects id)

-- what an instruction does beside itself: `new` makes an object, `dispose` disposes one
abbrev pub more_deeds : Definition → World → Frame → Instruction → List Deed
more_deeds d w f (words.new to id) = done_by (λ place. make place ∷ []) (place_of d id)
more_deeds d w f (words.dispose object) = dispose_deeds w (operand_in w f object)
more_deeds d w f _ = []

-- a program takes the instruction that it has come to in its block
abbrev pub instruction_deeds : Definition → World → Frame → Option Instruction → List Deed
instruction_deeds d w f i = done_by (λ i. instruction f.program f.block f.at ∷ more_deeds d w f i) i

abbrev pub running_deeds : Definition → World → Frame → Answer Block → List Deed
running_deeds d w f (Err arm) = []
running_deeds d w f (Ok b) = instruction_deeds d w (in_pass b f) (slice_get b.code (in_pass b f).at)

-- a peer is asked by a method of the class's shape
abbrev pub answer_deeds : Definition → World → Call → List Deed
answer_deeds d w call = done_by (λ class. answer (shape_number d (nearest_shape d class)) call.method ∷ []) (class_in w.objects call.object)

-- what the first task does
abbrev pub task_deeds : Definition → World → Task → List Deed
task_deeds d w (Setting id slot v) = done_at w id (λ place. set place slot ∷ [])
task_deeds d w (Notifying id slot) = done_at w id (λ place. notify place slot ∷ [])
task_deeds d w (Beginning e) = done_at w e.object (λ place. emit place e.signal ∷ [])
task_deeds d w (Emitting e []) = done_at w e.object (end_deeds e)
task_deeds d w (Emitting e (entry ∷ entries)) = done_at w e.object (λ place. turn_deeds w place e.signal entry)
task_deeds d w (Transferring number back) = transfer number ∷ []
task_deeds d w (Unsetting number) = free number ∷ []
task_deeds d w (Thawing id []) = thawed ∷ []
task_deeds d w (Thawing id (slot ∷ slots)) = done_at w id (λ place. name place slot ∷ [])
task_deeds d w (Running frame) = running_deeds d w frame (block_in d frame)
task_deeds d w (Answering number) = []
task_deeds d w (Calling call) = answer_deeds d w call
task_deeds d w (Constructing id [] held) = done_at w id (λ place. construct place ∷ [])
task_deeds d w (Constructing id (step ∷ steps) held) = done_at w id (λ place. construct_deeds place step)
task_deeds d w (Building []) = built ∷ []
task_deeds d w (Building (i ∷ items)) = item_deeds i
task_deeds d w (Handling request) = begin (asked_by request) ∷ []
task_deeds d w (Due number) = done_by (λ (s : Source). begin (source s.program) ∷ run s.program ∷ []) (source_of number w.sources)

-- ** steps

-- where nothing is left to do, what floats is let go
abbrev pub settle_deeds : World → List ℕ → List Deed
settle_deeds w [] = []
settle_deeds w (id ∷ ids) = done_at w id (λ place. settle place ∷ [])

abbrev pub agenda_deeds : Definition → World → List Task → List Deed
agenda_deeds d w [] = settle_deeds w w.floating
agenda_deeds d w (task ∷ tasks) = task_deeds d w task

-- an object is finalised, and disposed if it was not
abbrev pub final_deeds : Object → List Deed
final_deeds o = final o.place ∷ first_dispose o

abbrev pub first_deeds : Definition → Config → Option ℕ → List Deed
first_deeds d c (Some id) = done_by final_deeds (living c.world.objects id)
first_deeds d c None = agenda_deeds d c.world c.agenda

-- what the step from a configuration does
abbrev pub step_deeds : Definition → Config → List Deed
step_deeds d c = first_deeds d c (next_unheld (mentions d c) c.world.objects)

-- what it costs
abbrev pub step_price : Definition → PriceList → Config → ℕ
step_price d P c = total P (step_deeds d c)
