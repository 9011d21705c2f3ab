use Rattle.std.proofs.Common.{◌≡◌, ◌∙◌, sym, ap, ◌++◌, ◌∷◌, [], length, arith}
use Rattle.ui_machine.specs.Seq.{listed}
use Rattle.ui_machine.specs.Definition.{Definition}
use Rattle.ui_machine.specs.Rules.Connections.{signal_number}
use Rattle.bytecode.specs.View.{register_kind_view}
use Rattle.law_typing.specs.Graph.{channel_over}
use Rattle.law_typing.specs.Graph.Channels.{signal}
use Rattle.law_typing.specs.Rules.RegisterKinds.{covers}
use Rattle.verify_starts.proofs.Over.{over_last, over_those}
use Rattle.verify_starts.proofs.starts.signals_over.Goals as goal

pub loop-place-preserved : goal.loop-place-preserved
loop-place-preserved c =
    let d = c.args.lookups.now in
    let all = c.args.numbers.now in
    let h = channel_over d (λ class. signal_number d class c.args.name.now) signal in
    let test = covers d (register_kind_view c.args.kind.now) in
    let n = c.loop-place.place in
    c.in_ok-add_signal.ensures ∙ (ap (λ xs. xs ++ over_those all h test (n ∷ [])) c.loop-place.invariant ∙ sym (over_last all h test n))

pub returns : goal.returns
returns c =
    let d = c.args.lookups.now in
    let all = c.args.numbers.now in
    let h = channel_over d (λ class. signal_number d class c.args.name.now) signal in
    let test = covers d (register_kind_view c.args.kind.now) in
    let count = ap (λ (e : Definition). length e.places) c.definition.ensures in
    let whole : c.loop-place.place ≡ length d.places = omega (arith, count) in
    c.loop-place.invariant ∙ ap (λ k. over_those all h test (listed (λ place. place) k)) whole
