use Rattle.law_static.proofs.SubclassProofs.{names_find, specs_inherit, signals_inherit, emitted_inherit, own_name_finds}
use Rattle.law_static.proofs.subclasses.Goals as goal

pub returns : goal.returns
returns c = record { finds = names_find; specs = specs_inherit; signals = signals_inherit; emitted = emitted_inherit; own = own_name_finds }
