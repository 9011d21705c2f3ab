-- What the turns of a notification cost as it begins, with the transfers of its bindings and of its pair.
use Rattle.std.specs.Prelude.{◌≡◌, ℕ, ◌+◌, ◌≤◌, true, List, Some, codes}
use Rattle.ui_machine.specs.Seq.{total}
use Rattle.ui_machine.specs.Definition.{Definition}
use Rattle.ui_machine.specs.Definition.Signals.{Signal}
use Rattle.ui_machine.specs.State.Tasks.{Task}
use Rattle.ui_machine.specs.State.Config.{World}
use Rattle.ui_machine.specs.Rules.EmissionPlan.{notify_plan}
use Rattle.law_typing.specs.Rules.RegisterKinds.{class_at}
use Rattle.law_typing.specs.Graph.Channels.{property, is_channel, spec_at}
use Rattle.law_typing.specs.Verdict.Accepted.{Accepted}
use Rattle.law_typing.specs.Verdict.Report.{property_name}
use Rattle.law_typing.specs.Good.Standing.{standing, view}
use Rattle.law_typing.specs.Good.Handlers.{HandlersGood}
use Rattle.law_typing.specs.Good.Bindings.{BindingsGood}
use Rattle.law_typing.specs.Good.DueCosts.{turn_cost, due_cost}

-- where a notification of a readable property begins, by the signal `notify` of its class
pub record NotifyBegins (d : Definition) (w : World) (id place slot class : ℕ) (sig : Signal) : Type 0 where
  pub stands : standing w.objects id ≡ Some place
  pub of_class : class_at d place ≡ Some class
  pub readable : is_channel d (property place slot) ≡ true
  pub called : sig.name ≡ codes "notify"
  pub flags : sig.flags ≡ 17

-- the counted step of its beginning, and the turns that it takes, are within what it may cost where it is due
abbrev pub NotifyCosts : Type 0
NotifyCosts =
    (d : Definition) (a : Accepted d) (w : World) (agenda below : List Task) (id place slot class : ℕ) (sig : Signal) →
    NotifyBegins d w id place slot class sig →
    HandlersGood d a.weighed.costs a.weighed.depths (standing w.objects) agenda w.last_handler w.handlers →
    BindingsGood d (standing w.objects) agenda w.bindings →
    1 + total (turn_cost d a.weighed.costs (view w) below) (notify_plan d w sig class id slot (property_name (spec_at d place slot)))
    ≤ due_cost d a.weighed.costs below (property place slot)
