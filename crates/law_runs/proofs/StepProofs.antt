-- An agenda stays stacked, from the beginning of a dispatch on.
use Rattle.std.proofs.Common.{subst, ℕ, zero, suc, Option, None, Some, List}
use Rattle.std.specs.Prelude.{IfOk}
use Rattle.ui_machine.specs.Definition.{Definition}
use Rattle.ui_machine.specs.Runs.{Steps}
use Rattle.ui_machine.specs.State.Config.{Config}
use Rattle.ui_machine.specs.State.Peers.{Reply}
use Rattle.ui_machine.specs.State.References.{mentions, next_unheld}
use Rattle.ui_machine.specs.Steps.{first_of, step}
use Rattle.machine_laws.proofs.KeptProofs.{kept_at}
use Rattle.law_runs.specs.Stacks.{StacksLast}
use Rattle.law_runs.proofs.TaskProofs.{AtStack, acts_stacked, finalises_stacked}

step_stacked : (d : Definition) (reply : Option Reply) (c : Config) → AtStack c → IfOk (step d reply c) AtStack
step_stacked d reply c stacked = first (next_unheld (mentions d c) c.world.objects)
  where
    first : (o : Option ℕ) → IfOk (first_of d reply c o) AtStack
    first None = acts_stacked d c.world reply c.agenda c.counted stacked
    first (Some id) = finalises_stacked d c.world c.agenda stacked c.counted id

steps_stacked : (d : Definition) (count : ℕ) (replies : List Reply) (c e : Config) → Steps d count replies c e → AtStack c → AtStack e
steps_stacked d zero replies c e none stacked = subst AtStack none.1 stacked
steps_stacked d (suc count) replies c e goes stacked =
    steps_stacked d count goes.later goes.mid e goes.follows (kept_at AtStack (step d goes.reply c) goes.mid (step_stacked d goes.reply c stacked) goes.step.leads)

pub stacks_last : StacksLast
stacks_last d replies c e reached stacked = steps_stacked d reached.count replies c e reached.steps stacked
