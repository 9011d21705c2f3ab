use Rattle.std.proofs.Common.{◌∙◌, ◌||◌, ℕ, List, ap}
use Rattle.std.specs.List.{list_any}
use Rattle.ui_machine.specs.Rules.Ancestry.{implemented_by}
use Rattle.signal_core.specs.Sources.{own_of}
use Rattle.read_types.specs.ImplementDrafts.{has_name}
use Rattle.signal_core.specs.Owners.{has_signal}
use Rattle.read_types.proofs.SignalNames.{all_seen, first_and_rest, none_yet, one_more}
use Rattle.read_types.proofs.signal_names.add_brought.Goals as goal

pub loop-interface-init : goal.loop-interface-init
loop-interface-init c = record { names = λ name. none_yet (has_name c.add_own.new.names name); seen = c.in_ok-add_own.ensures.seen }

pub loop-interface-preserved : goal.loop-interface-preserved
loop-interface-preserved c = record {
  names = λ name. one_more (λ u. has_signal (own_of c.args.signals.now.signals u) name) c.implemented-interface-items.result.now c.loop-interface.interface-index c.interface-item.result
      (has_name c.add_own-in-loop-interface.new.names name) (has_name c.loop-interface.names name) (has_name c.add_own.new.names name)
      c.loop-interface-test.true c.interface-item.is (c.in_ok-add_own-2.ensures.names name) (c.loop-interface.invariant.names name);
  seen = c.in_ok-add_own-2.ensures.seen;
}

pub returns-clause-names : goal.returns-clause-names
returns-clause-names c name =
    let test = λ (u : ℕ). has_signal (own_of c.args.signals.now.signals u) name in
    let items = c.implemented-interface-items.result.now in
    first_and_rest (has_name c.loop-interface.names name) (has_name c.add_own.new.names name) (has_name c.args.names.now name) (test c.args.t) (list_any test (implemented_by c.args.types.now c.args.t))
    (c.in_ok-add_own.ensures.names name)
    (all_seen test items c.loop-interface.interface-index (has_name c.loop-interface.names name) (has_name c.add_own.new.names name)
    c.loop-interface-test.false (c.loop-interface.invariant.names name)
    ∙ ap (λ (l : List ℕ). has_name c.add_own.new.names name || list_any test l) c.implemented-interface-items.ensures)
