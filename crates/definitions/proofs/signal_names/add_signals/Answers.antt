use Rattle.std.proofs.Common.{◌≡◌, ◌<◌, ◌≤◌, ◌+◌, suc, cond, nat_eq, length, take, sym, ap, ◌∙◌, arith}
use Rattle.std.proofs.lemmas.List.{length-map}
use Rattle.std.proofs.lemmas.Option.{slice_get_within}
use Rattle.ui_machine.specs.Definition.Names.{place_named}
use Rattle.name_tables.specs.Names.{number_of}
use Rattle.name_tables.proofs.Adding.{adds_more, place_named-more, take_past}
use Rattle.ui_machine.specs.Rules.EmissionPlan.{or_else}
use Rattle.ui_machine.specs.Seq.{read}
use Rattle.signal_core.specs.SignalRows.{signal_at}
use Rattle.definitions.proofs.ClassNames.{few_signals, past_last}
use Rattle.signal_core.specs.Sources.{signals_of}
use Rattle.definitions.proofs.signal_names.add_signals.Goals as goal

pub loop-signal-preserved : goal.loop-signal-preserved
loop-signal-preserved c =
    let signals = signals_of c.args.types.now c.args.signals.now.signals c.args.class in
    let number = c.loop-signal.number in
    let next : number + 1 ≡ suc number = omega arith in
    adds_more (number_of c.args.names.now) (number_of c.loop-signal.names) (number_of c.add.new.self) c.args.class number c.in-Some.signal.name.now
    (place_named (λ s. s.name) (take number signals)) (place_named (λ s. s.name) (take (number + 1) signals)) c.loop-signal.invariant c.in_ok-add.ensures.ok
    (λ n.
    ap (λ k. place_named (λ s. s.name) (take k signals) n) next
    ∙ place_named-more (λ s. s.name) n signals number _ (sym c.in-Some.ensures))

pub returns-in_default : goal.returns-in_default
returns-in_default c class name =
    let signals = signals_of c.args.types.now c.args.signals.now.signals c.args.class in
    let number = c.loop-signal.number in
    c.loop-signal.invariant class name
    ∙ ap (λ l. cond (nat_eq class c.args.class) (or_else (number_of c.args.names.now class name) (place_named (λ s. s.name) l name)) (number_of c.args.names.now class name))
    (take_past signals number (past_last signals number (sym c.in_default.ensures)))

pub overflow_add-number : goal.overflow_add-number
overflow_add-number c =
    let signals = signals_of c.args.types.now c.args.signals.now.signals c.args.class in
    let within : c.loop-signal.number < length signals = slice_get_within signals c.loop-signal.number _ (sym c.in-Some.ensures) in
    let few : length signals ≤ 16385 = few_signals c.args.types.now c.args.signals.now.signals c.args.rows.now c.requires.rows c.args.class c.requires.known (omega (arith, c.count-count.ensures.count, c.count-count.ensures.few)) in
    omega (arith, within, few)

pub loop-signal-smaller : goal.loop-signal-smaller
loop-signal-smaller c =
    let signals = signals_of c.args.types.now c.args.signals.now.signals c.args.class in
    let within : c.loop-signal.number < length signals = slice_get_within signals c.loop-signal.number _ (sym c.in-Some.ensures) in
    omega (arith, within)
