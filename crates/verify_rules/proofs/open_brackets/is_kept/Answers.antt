use Rattle.std.proofs.Common.{refl, sym, subst, nat_eq, option_map}
use Rattle.bytecode.specs.View.{number_of}
use Rattle.verify_rules.specs.BracketSteps.{Goes, writes}
use Rattle.verify_rules.proofs.OpenBrackets.{writes_one}
use Rattle.verify_rules.proofs.open_brackets.is_kept.Goals as goal

pub returns-in-Some : goal.returns-in-Some
returns-in-Some c =
    subst (λ r. Goes (nat_eq c.count_of.result 0) c.args.counts.now c.args.counts.now (writes (option_map number_of r))) (sym c.in-Some.is)
    (writes_one c.args.counts.now c.in-Some.register.0 c.count_of.result (nat_eq c.count_of.result 0) c.count_of.ensures refl)
