use Rattle.std.proofs.Common.{◌≡◌, ◌<◌, ◌-◌, suc, Bor, List, ℕ, [], drop, get_or, length, map, sym, ap, arith, ◌∙◌}
use Rattle.std.specs.Option.{option_or}
use Rattle.type_tree.specs.Words.{place_at, place_from}
use Rattle.type_tree.proofs.Called.{place_before, word_at}
use Rattle.type_tree.proofs.words.add_words.Goals as goal

pub words-preserved : goal.words-preserved
words-preserved c =
    let words = c.args.words.now in
    let left = c.words.left - 1 in
    let back : suc left ≡ c.words.left = omega (arith, c.words-test.true) in
    let within : left < length words = omega (arith, c.words.invariant.within, c.words-test.true) in
    let nowhere : Bor (List ℕ) = record { ref_ptr = (0, 0); now = [] } in
    record {
      within = omega (arith, c.words.invariant.within, c.words-test.true);
      kept = λ word. place_before words left (get_or words left nowhere) c.words.places c.add_word.new.places word (place_at c.args.places.now word) (word_at words left nowhere within)
          (c.in_ok-add_word.ensures word)
          (c.words.invariant.kept word ∙ ap (λ n. option_or (place_from n (drop n (map (λ w. w.now) words)) word) (place_at c.args.places.now word)) (sym back));
    }
