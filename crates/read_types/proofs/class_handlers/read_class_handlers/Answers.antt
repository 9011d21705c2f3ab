use Rattle.std.proofs.Common.{◌≡◌, ◌∙◌, List, is_some, Result, refl, ap, subst}
use Rattle.std.specs.BTreeSet.{contains_text}
use Rattle.json_trees.specs.View.{items_view}
use Rattle.ui_machine.specs.Definition.Signals.{ClassHandler}
use Rattle.ui_machine.specs.Rules.EmissionPlan.{handler_in}
use Rattle.signal_core.specs.Table.{Declared, named_of}
use Rattle.definition_format.specs.Refusals.{Refusal, Leads}
use Rattle.definition_format.specs.Document.{each, at_entry}
use Rattle.definition_format.specs.Denoted.ClassHandlers.{class_handler_at}
use Rattle.read_types.specs.HandlerDrafts.{HandlerParts, parts_of, parts_seen}
use Rattle.read_types.proofs.Drafting.{leads_from}
use Rattle.read_types.proofs.HandlerParts.{same_parts, reads_are}
use Rattle.read_types.proofs.class_handlers.read_class_handlers.Goals as goal

pub returns-clause-handlers : goal.returns-clause-handlers
returns-clause-handlers c =
    let programs = c.args.programs.now in
    let t = c.args.t in
    let base = c.args.list.path.now in
    let items = items_view c.args.list.items.now in
    let own = named_of c.args.signals.now.handlers in
    let draft : HandlerParts = record { handlers = named_of c.replace.result.handlers; has = λ name. contains_text c.in_ok-named.named name } in
    let begun : draft ≡ parts_of t own =
    same_parts _ _ _ _ (ap (λ (s : Declared). named_of s.handlers) c.replace.ensures.value)
    (λ name. c.in_ok-named.ensures name ∙ ap (λ (hs : List ClassHandler). is_some (handler_in hs name)) c.own_handlers.ensures) in
    leads_from (parts_of t) (λ (p : HandlerParts). p.handlers) (λ o. refl) c.read_each-read.result (each (at_entry (λ path. class_handler_at path programs t) base) 0 own items) (parts_seen c.read_each-read.new.state)
    (subst (λ (r : Result HandlerParts Refusal). Leads c.read_each-read.result r (parts_seen c.read_each-read.new.state)) (reads_are programs t base draft own items begun) c.read_each-read.ensures.read)
