-- All tasks, from the laws of each; and so each step: it finalises an object, takes the first task, or lets go of what floats.
use Rattle.std.proofs.Common.{◌≡◌, refl, sym, subst, ℕ, true, false, List, [], ◌∷◌, Option, None, Some, Ok, Err}
use Rattle.ui_machine.specs.Outcome.{Answer}
use Rattle.ui_machine.specs.State.Config.{Config}
use Rattle.ui_machine.specs.State.References.{mentions, next_unheld}
use Rattle.ui_machine.specs.State.Tasks.{PlanEntry, class_handler, handler, ConstructStep, sets, runs, thaws, Item, makes, adopts, forwards, binds, connects, Task, Setting, Notifying, Beginning, Emitting, Transferring, Unsetting, Thawing, Running, Answering, Calling, Constructing, Building, Handling, Due}
use Rattle.ui_machine.specs.State.Tasks as config
use Rattle.ui_machine.specs.Steps.{step, first_of}
use Rattle.law_typing.specs.Graph.{graph}
use Rattle.law_typing.specs.Graph.Depths.{depth}
use Rattle.law_typing.specs.Laws.StepsKeepGood.{IsGood, Fine, Replies, StepsKeepGood}
use Rattle.law_typing.proofs.RestProofs.{good_is_within}
use Rattle.law_steps.proofs.Kept.FinaliseProofs.{finalisation_is_fine}
use Rattle.law_steps.proofs.Instructed.AllProofs.{programs_keep_good}
use Rattle.law_steps.specs.Tasked.Tasks.{TasksAreFine, Leads, StepsAreWithin}
use Rattle.law_steps.proofs.Tasked.BeginningProofs.{beginnings_are_fine}
use Rattle.law_steps.proofs.Tasked.BuildAdoptionsProofs.{adoptions_are_fine}
use Rattle.law_steps.proofs.Tasked.BuildBindingsProofs.{bindings_are_fine}
use Rattle.law_steps.proofs.Tasked.BuildEndProofs.{builds_end}
use Rattle.law_steps.proofs.Tasked.BuildForwardsProofs.{forwards_are_fine}
use Rattle.law_steps.proofs.Tasked.BuildObjectsProofs.{objects_are_fine}
use Rattle.law_steps.proofs.Tasked.BuildSignalsProofs.{signals_are_fine}
use Rattle.law_steps.proofs.Tasked.BuilderProofs.{builder_takes}
use Rattle.law_steps.proofs.Tasked.CallingProofs.{due_calls_are_fine}
use Rattle.law_steps.proofs.Tasked.ConstructingProofs.{constructions_set}
use Rattle.law_steps.proofs.Tasked.EndingProofs.{emissions_end, constructions_end}
use Rattle.law_steps.proofs.Tasked.FreeingProofs.{freeings_are_fine}
use Rattle.law_steps.proofs.Tasked.NotifyingProofs.{due_notifications_are_fine}
use Rattle.law_steps.proofs.Tasked.RequestProofs.{requests_are_fine}
use Rattle.law_steps.proofs.Tasked.SettingProofs.{due_sets_are_fine}
use Rattle.law_steps.proofs.Tasked.SettlingProofs.{settling_is_fine}
use Rattle.law_steps.proofs.Tasked.StartingProofs.{sources_are_fine, runs_are_fine}
use Rattle.law_steps.proofs.Tasked.ThawedProofs.{constructions_thaw}
use Rattle.law_steps.proofs.Tasked.ThawingProofs.{due_thaws_are_fine}
use Rattle.law_steps.proofs.Tasked.TransferProofs.{transfers_are_fine}
use Rattle.law_steps.proofs.Tasked.TransferringProofs.{due_transfers_are_fine}
use Rattle.law_steps.proofs.Tasked.TurnProofs.{class_handlers_are_fine, handlers_are_fine}

pub tasks_are_fine : TasksAreFine
tasks_are_fine (Setting id slot v) = due_sets_are_fine id slot v
tasks_are_fine (Notifying id slot) = due_notifications_are_fine id slot
tasks_are_fine (Beginning e) = beginnings_are_fine e
tasks_are_fine (Emitting e []) = emissions_end e
tasks_are_fine (Emitting e (class_handler program cleanup ∷ turns)) = class_handlers_are_fine e program cleanup turns
tasks_are_fine (Emitting e (handler number ∷ turns)) = handlers_are_fine e number turns
tasks_are_fine (Emitting e (config.transfer number back ∷ turns)) = transfers_are_fine e number back turns
tasks_are_fine (Transferring number back) = due_transfers_are_fine number back
tasks_are_fine (Unsetting number) = freeings_are_fine number
tasks_are_fine (Thawing id slots) = due_thaws_are_fine id slots
tasks_are_fine (Running f) = λ d well a most_counted within w rest n sort g settled reply replies. programs_keep_good d well a most_counted within w f rest n g reply
tasks_are_fine (Answering source) = λ d well a most_counted within w rest n sort g settled reply replies. absurd g.agenda.3
tasks_are_fine (Calling call) = due_calls_are_fine call
tasks_are_fine (Constructing id [] false) = constructions_end id
tasks_are_fine (Constructing id [] true) = builder_takes id
tasks_are_fine (Constructing id (sets slot v ∷ todo) held) = constructions_set id slot v todo held
tasks_are_fine (Constructing id (runs program ∷ todo) held) = runs_are_fine id program todo held
tasks_are_fine (Constructing id (thaws ∷ todo) held) = constructions_thaw id todo held
tasks_are_fine (Building []) = builds_end
tasks_are_fine (Building (makes place ∷ items)) = objects_are_fine place items
tasks_are_fine (Building (adopts place ∷ items)) = adoptions_are_fine place items
tasks_are_fine (Building (forwards place slot to ∷ items)) = forwards_are_fine place slot to items
tasks_are_fine (Building (binds number ∷ items)) = bindings_are_fine number items
tasks_are_fine (Building (connects place number ∷ items)) = signals_are_fine place number items
tasks_are_fine (Handling request) = requests_are_fine request
tasks_are_fine (Due source) = sources_are_fine source

pub steps_keep_good : StepsKeepGood
steps_keep_good d well a most_counted within c g reply replies = go (next_unheld (mentions d c) c.world.objects) refl
  where
    taken : (tasks : List Task) → IsGood d a most_counted (record { world = c.world; agenda = tasks; counted = c.counted }) →
        next_unheld (mentions d (record { world = c.world; agenda = tasks; counted = c.counted })) c.world.objects ≡ None → Replies d (record { world = c.world; agenda = tasks; counted = c.counted }) reply →
        Fine d a.weighed.costs a.weighed.depths most_counted (depth (graph d) a.weighed.depths) (step d reply (record { world = c.world; agenda = tasks; counted = c.counted }))
    taken [] g settled replies = settling_is_fine d a.weighed.costs a.weighed.depths most_counted (depth (graph d) a.weighed.depths) within c.world c.counted g settled reply
    taken (task ∷ rest) g settled replies = tasks_are_fine task d well a most_counted within c.world rest c.counted tt g settled reply replies

    go : (o : Option ℕ) → next_unheld (mentions d c) c.world.objects ≡ o →
        Fine d a.weighed.costs a.weighed.depths most_counted (depth (graph d) a.weighed.depths) (step d reply c)
    go None settled = taken c.agenda g settled replies
    go (Some id) unheld =
        subst (λ o. Fine d a.weighed.costs a.weighed.depths most_counted (depth (graph d) a.weighed.depths) (first_of d reply c o)) (sym unheld)
        (finalisation_is_fine d a.weighed.costs a.weighed.depths most_counted (depth (graph d) a.weighed.depths) within c g id unheld)

-- ** what follows

pub steps_are_within : StepsAreWithin
steps_are_within d well a most_counted within c g reply replies = go (step d reply c) refl (steps_keep_good d well a most_counted within c g reply replies)
  where
    go : (answer : Answer Config) → step d reply c ≡ answer → Fine d a.weighed.costs a.weighed.depths most_counted (depth (graph d) a.weighed.depths) answer →
        Leads d most_counted (depth (graph d) a.weighed.depths) reply c
    go (Ok next) is good =
        let within = good_is_within d a.weighed.costs a.weighed.depths most_counted (depth (graph d) a.weighed.depths) next good in
        record { next = next; is = is; counted = within.0; shallow = within.1 }
    go (Err arm) is good = absurd good
