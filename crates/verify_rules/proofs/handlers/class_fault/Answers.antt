use Rattle.std.proofs.Common.{◌∙◌, sym, ap, suc, ◌+◌, ◌<◌, length, drop, option_map, slice_get, arith}
use Rattle.ui_machine.specs.Definition.{Definition}
use Rattle.ui_machine.specs.Definition.Lookups.{class_of, no_class}
use Rattle.law_typing.specs.Rules.Handlers.{class_faults, class_handler_faults, constructed_faults}
use Rattle.verify_rules.specs.Faults.{handling_fault}
use Rattle.verify_rules.specs.Parts.{faults_of_class}
use Rattle.verify_rules.proofs.FirstFaults.{stops, goes_on, from_read, joined}
use Rattle.verify_rules.proofs.handlers.class_fault.Goals as goal

pub returns-in-Some : goal.returns-in-Some
returns-in-Some c =
    let d = c.args.lookups.now in
    let n = c.loop-number.number in
    let count = ap (λ (e : Definition). length e.classes) c.definition.ensures in
    let within : n < length d.classes = omega (arith, c.loop-number-test.true, c.class_count-number-end.ensures.count, count) in
    sym (stops (faults_of_class d) (class_faults d)
    (λ m x xs. joined (class_handler_faults d m 0 x.handlers) (constructed_faults d m x.constructed) (class_faults d (suc m) xs))
    n (class_of d n) (drop n d.classes) (drop (n + 1) d.classes)
    (handling_fault c.in-Some.handling) (slice_get (class_faults d 0 d.classes) 0) c.loop-number.invariant (from_read no_class d.classes n within)
    (ap (λ k. slice_get (faults_of_class d k (class_of d k)) 0) (sym c.new-class.ensures)
    ∙ (sym c.in_ok-handling.ensures ∙ ap (option_map handling_fault) c.in-Some.is)))

pub loop-number-preserved : goal.loop-number-preserved
loop-number-preserved c =
    let d = c.args.lookups.now in
    let n = c.loop-number.number in
    let count = ap (λ (e : Definition). length e.classes) c.definition.ensures in
    let within : n < length d.classes = omega (arith, c.loop-number-test.true, c.class_count-number-end.ensures.count, count) in
    goes_on (faults_of_class d) (class_faults d)
    (λ m x xs. joined (class_handler_faults d m 0 x.handlers) (constructed_faults d m x.constructed) (class_faults d (suc m) xs))
    n (class_of d n) (drop n d.classes) (drop (n + 1) d.classes)
    (slice_get (class_faults d 0 d.classes) 0) c.loop-number.invariant (from_read no_class d.classes n within)
    (ap (λ k. slice_get (faults_of_class d k (class_of d k)) 0) (sym c.new-class.ensures)
    ∙ (sym c.in_ok-handling.ensures ∙ ap (option_map handling_fault) c.in_default.is))
