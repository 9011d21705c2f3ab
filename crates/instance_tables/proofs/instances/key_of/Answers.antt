use Rattle.std.proofs.Common.{Some, sym, ap, ◌∙◌}
use Rattle.std.proofs.lemmas.Bool.{eqb-true}
use Rattle.std.specs.Option.{option_copied}
use Rattle.instance_tables.specs.Index.{identity_in}
use Rattle.instance_tables.proofs.instances.key_of.Goals as goal

pub returns-then-eq : goal.returns-then-eq
returns-then-eq c =
    let is_same = sym c.eq.ensures ∙ c.if-eq.true in
    sym
    (c.requires.index.listed c.args.id.0 c.saturating_sub-first.result
    (ap identity_in (sym c.get.ensures ∙ ap option_copied c.in-Some.is) ∙ ap Some (eqb-true c.in-Some.entry.now.id.0 c.args.id.0 is_same)))
