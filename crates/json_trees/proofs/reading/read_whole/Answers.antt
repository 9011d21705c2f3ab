use Rattle.std.proofs.Common.{◌≡◌, ℕ, ◌<◌, List, [], ◌∷◌, length, arith}
use Rattle.json.specs.Lex.{lex, punctuate, tokens}
use Rattle.json_trees.proofs.reading.read_whole.Goals as goal

some_text : (text : List ℕ) → 0 < length (tokens text) → 0 < length text
unfolding lex punctuate
some_text [] h = h
some_text (x ∷ xs) h = omega arith

pub returns-in_err-value-clause-memory : goal.returns-in_err-value-clause-memory
returns-in_err-value-clause-memory c full = some_text c.args.text.now (rw c.in_ok-reader.ensures.ok at c.in_err-value.ensures.memory (grind arith))
