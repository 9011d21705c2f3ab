-- The middles of runs are reached, and good.
use Rattle.std.proofs.Common.{◌≡◌, refl, List, [], ◌∷◌, None, arith}
use Rattle.std.specs.Prelude.{true}
use Rattle.ui_machine.specs.Definition.Values as values
use Rattle.ui_machine.specs.Definition.Places.{value, named}
use Rattle.ui_machine.specs.State.Tasks.{Event, request, set, emit}
use Rattle.ui_machine.specs.State.Config.{World}
use Rattle.ui_machine.specs.Runs.{of_build, of_request}
use Rattle.law_typing.specs.Laws.Beginnings.{tally}
use Rattle.law_typing.specs.Laws.StepsKeepGood.{PoolReady}
use Rattle.law_steps.proofs.Served.WorkedProofs.{premises_met}
use Rattle.law_typing.specs.Verdict.{verdict, accepted}
use Rattle.law_typing.specs.Examples.LastReference as last_reference
use Rattle.law_typing.specs.Examples.RepeatedBlock as repeated_block
use Rattle.law_typing.specs.Examples.FrozenTarget as frozen_target
use Rattle.law_typing.proofs.WellReadProofs.{well_read}
use Rattle.law_typing.proofs.WorkedReadProofs.{worked_read}
use Rattle.law_typing.proofs.JudgedRows.{lastreference_holds, repeatedblock_holds, frozentarget_holds}
use Rattle.worked.specs.Laws.Gathering as gathering
use Rattle.worked.specs.Laws.Middles.{Middles, Amid, AmidBuild, at_construction, at_transfer, at_second_pass, at_frozen, at_call}
use Rattle.worked.proofs.Laws.Machine.{machine}
use Rattle.worked.proofs.Laws.Judging.{typing}
use Rattle.worked.proofs.Laws.Begun.{pool_ready, amid, amid_build, world_after, config_after}

judged : verdict gathering.definition ≡ accepted gathering.told
unfolding typing
judged = refl

gathering_ready : PoolReady gathering.definition []
gathering_ready = pool_ready gathering.definition refl

construction : AmidBuild gathering.definition [] 19 at_construction
unfolding machine
construction = amid_build gathering.definition gathering.told (well_read _ refl) judged [] gathering_ready 19 refl
    (config_after 19 gathering.definition (of_build gathering.definition [])) refl _ refl

abbrev gathered : World
gathered = world_after gathering.definition [] []

transfer : Amid gathering.definition [] [] (set 0 0 (value (values.bool true))) 18 at_transfer
unfolding machine
transfer = amid gathering.definition gathering.told (well_read _ refl) judged [] gathering_ready [] tt _
    ((_, refl, refl), _, refl, refl, refl, refl) gathered refl refl 18 refl
    (config_after 18 gathering.definition (of_request gathered (set 0 0 (value (values.bool true))))) refl _ refl

abbrev repeating : World
repeating = world_after repeated_block.definition [] []

second_pass : Amid repeated_block.definition [] [] (emit 0 1 [] None) 14 at_second_pass
unfolding machine
second_pass = amid repeated_block.definition repeated_block.lines worked_read.repeated_block repeatedblock_holds [] (pool_ready _ refl) [] tt _
    ((_, refl, refl), 2, _, refl, refl, omega arith, tt, refl) repeating refl refl 14 refl
    (config_after 14 repeated_block.definition (of_request repeating (emit 0 1 [] None))) refl _ refl

abbrev freezing : World
freezing = world_after frozen_target.definition [] []

frozen : Amid frozen_target.definition [] [] (emit 0 1 (named 1 ∷ []) None) 12 at_frozen
unfolding machine
frozen = amid frozen_target.definition frozen_target.lines worked_read.frozen_target frozentarget_holds [] (pool_ready _ refl) [] tt _
    ((_, refl, refl), 2, _, refl, refl, omega arith, ((_, _, refl, refl, refl, refl), tt), refl) freezing refl refl 12 refl
    (config_after 12 frozen_target.definition (of_request freezing (emit 0 1 (named 1 ∷ []) None))) refl _ refl

abbrev made : List Event
made = request (emit 0 1 [] None) ∷ []

abbrev calling : World
calling = world_after last_reference.definition (tally ∷ []) made

call : Amid last_reference.definition (tally ∷ []) made (emit 0 2 [] None) 17 at_call
unfolding machine
call = amid last_reference.definition last_reference.lines worked_read.last_reference lastreference_holds (tally ∷ []) premises_met.ready made
    (((_, refl, refl), 3, _, refl, refl, omega arith, tt, refl), tt) _ ((_, refl, refl), 3, _, refl, refl, omega arith, tt, refl) calling refl refl
    17 refl (config_after 17 last_reference.definition (of_request calling (emit 0 2 [] None))) refl _ refl

pub middles : Middles
middles = record { judged = judged; construction = construction; transfer = transfer; second_pass = second_pass; frozen = frozen; call = call }
