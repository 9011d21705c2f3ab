use Rattle.std.proofs.Common.{◌≡◌, ◌∙◌, List, ℕ, Some, ap, bytes_eq, cond}
use Rattle.type_tree.specs.Words.{place_at}
use Rattle.type_tree.proofs.Called.{place_updated}
use Rattle.type_tree.proofs.words.add_word.Goals as goal

pub returns : goal.returns
returns c other =
    let copied : c.in_ok-word.word.items ≡ c.as_bytes.result.now = c.in_ok-word.ensures.items_if_clones_equal (λ x y same. same) in
    let bytes : c.in_ok-word.word.items ≡ c.args.word.now = copied ∙ c.as_bytes.ensures.value in
    place_updated c.in_ok-word.word.items c.args.places.now c.insert.new.self (Some c.args.place) c.in_ok-insert.ensures.updates other
    ∙ ap (λ (own : List ℕ). cond (bytes_eq own other) (Some c.args.place) (place_at c.args.places.now other)) bytes
