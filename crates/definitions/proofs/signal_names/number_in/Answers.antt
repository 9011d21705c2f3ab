use Rattle.std.proofs.Common.{◌∙◌, sym, ap}
use Rattle.name_tables.specs.Names.{number_of}
use Rattle.definitions.proofs.Spelled.{spelled_so}
use Rattle.definitions.proofs.signal_names.number_in.Goals as goal

pub returns-then-has_canonical_bytes : goal.returns-then-has_canonical_bytes
returns-then-has_canonical_bytes c =
    c.number_as_given.ensures
    ∙ ap (number_of c.args.names.now c.args.class) (sym (spelled_so c.args.name.now (sym c.has_canonical_bytes.ensures ∙ c.if-has_canonical_bytes.true)))
