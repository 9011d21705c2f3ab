use Rattle.std.proofs.Common.{◌∙◌, sym}
use Rattle.name_tables.specs.Names.{number_in}
use Rattle.name_tables.proofs.Numbers.{inserted, none-of}
use Rattle.name_tables.proofs.name_table.give_number.Goals as goal

pub returns-in_ok-insert-clause-ok : goal.returns-in_ok-insert-clause-ok
returns-in_ok-insert-clause-ok c =
    inserted (number_in c.insert.new.self.entries) (number_in c.args.numbers.now.entries) c.args.class c.args.number
    (none-of _ (sym c.contains_key.ensures ∙ c.if-not-contains_key.true)) c.in_ok-insert.ensures.updates.1 c.in_ok-insert.ensures.updates.2
