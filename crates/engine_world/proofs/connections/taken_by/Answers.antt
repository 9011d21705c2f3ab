use Rattle.std.proofs.Common.{suc, ◌+◌, nat_lt, ap, sym, ◌∙◌}
use Rattle.ui_machine.specs.Rules.Connections.{greatest_handler}
use Rattle.engine_world.proofs.Signals.{adopt_count, bind_count, build_count}
use Rattle.engine_world.proofs.connections.taken_by.Goals as goal

pub returns-in-Building : goal.returns-in-Building
returns-in-Building c hs more =
    rw c.in-Building.is
    (c.taken_from.ensures more
    ∙ ap (λ n. nat_lt (c.args.last + n + more) greatest_handler) (sym (build_count c.args.definition.now c.in-Building.place.0 c.in-Building.forwards)))

pub returns-in-Adopting : goal.returns-in-Adopting
returns-in-Adopting c hs more =
    rw c.in-Adopting.is
    (c.taken_from-in-Adopting.ensures more
    ∙ ap (λ n. nat_lt (c.args.last + n + more) greatest_handler) (sym (adopt_count c.args.definition.now c.in-Adopting.place.0 (suc c.in-Adopting.place.0) c.in-Adopting.forwards)))

pub returns-in-Binding : goal.returns-in-Binding
returns-in-Binding c hs more =
    rw c.in-Binding.is
    (c.taken_from-in-Binding.ensures more
    ∙ ap (λ n. nat_lt (c.args.last + n + more) greatest_handler) (sym (bind_count c.args.definition.now c.in-Binding.number)))
