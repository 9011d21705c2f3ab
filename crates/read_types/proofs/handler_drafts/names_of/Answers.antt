use Rattle.std.proofs.Common.{◌≡◌, ◌∙◌, ◌++◌, ◌∷◌, [], List, true, take, is_some, if◌then◌else◌, string_bytes, sym, ap}
use Rattle.std.specs.BTreeSet.{contains_text}
use Rattle.std.specs.Str.{bytes_eq}
use Rattle.std.proofs.lemmas.List.{take_more, take_all}
use Rattle.std.proofs.lemmas.Map.Text.{btree_set_updates_text}
use Rattle.ui_machine.specs.Definition.Signals.{ClassHandler}
use Rattle.ui_machine.specs.Rules.EmissionPlan.{handler_in}
use Rattle.read_types.proofs.HandlerParts.{named_more}
use Rattle.read_types.proofs.handler_drafts.names_of.Goals as goal

pub loop-handler-preserved : goal.loop-handler-preserved
loop-handler-preserved c name =
    let hs = c.args.handlers.now in
    let i = c.loop-handler.handler-index in
    let h = c.handler-item.result in
    let key = string_bytes c.in_ok-name.name in
    let bytes : key ≡ h.signal = c.in_ok-name.ensures.ok ∙ c.signal.ensures in
    btree_set_updates_text key c.loop-handler.named c.insert.new.self true c.in_ok-insert.ensures.updates name
    ∙ ap (λ k. if bytes_eq k name then true else contains_text c.loop-handler.named name) bytes
    ∙ ap (λ b. if bytes_eq h.signal name then true else b) (c.loop-handler.invariant name)
    ∙ sym (named_more (take i hs) h name)
    ∙ ap (λ (l : List ClassHandler). is_some (handler_in l name)) (sym (take_more hs i h c.loop-handler-test.true ∙ ap (λ (x : ClassHandler). take i hs ++ x ∷ []) (sym c.handler-item.is)))

pub returns : goal.returns
returns c name =
    c.loop-handler.invariant name
    ∙ ap (λ (l : List ClassHandler). is_some (handler_in l name)) (take_all c.loop-handler.handler-index c.args.handlers.now c.loop-handler-test.false)
