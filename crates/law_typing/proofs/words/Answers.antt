use Rattle.law_typing.proofs.WordProofs.{rule_words, binding_words, bracket_words}
use Rattle.law_typing.proofs.words.Goals as goal

pub returns : goal.returns
returns c = record { rules = rule_words; bindings = binding_words; brackets = bracket_words }
