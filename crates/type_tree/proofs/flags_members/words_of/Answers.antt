use Rattle.std.proofs.Common.{◌∙◌, Bor, List, ℕ, ap, map}
use Rattle.type_tree.specs.Members.{flags_member}
use Rattle.type_tree.proofs.Called.{find_called}
use Rattle.type_tree.proofs.flags_members.words_of.Goals as goal

pub returns : goal.returns
returns c =
    find_called flags_member c.args.members.now c.as_slice.result.now c.as_slice-2.result.now c.new-words.result c.add_words.new.places c.add_words-2.new.places c.new-words.ensures.empty
    (ap (λ (ws : List (Bor (List ℕ))). map (λ w. w.now) ws) c.as_slice.ensures.value ∙ c.in_ok-nicks_of.ensures)
    (ap (λ (ws : List (Bor (List ℕ))). map (λ w. w.now) ws) c.as_slice-2.ensures.value ∙ c.in_ok-names_of.ensures)
    c.in_ok-add_words.ensures c.in_ok-add_words-2.ensures
