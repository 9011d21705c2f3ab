-- Channels over places that are gone through one after the other.
use Rattle.std.proofs.Common.{◌≡◌, ◌∙◌, ap, ℕ, ◌+◌, Bool, List, [], ◌∷◌, ◌++◌, Option}
use Rattle.std.specs.List.{filter, filter_map}
use Rattle.std.proofs.lemmas.List.Elements.{filter-append, filter_map-append}
use Rattle.ui_machine.specs.Seq.{listed}
use Rattle.law_typing.specs.Graph.Channels.{Channel}
use Rattle.verify_graph.specs.Numbers.{number_of, numbers_of}
use Rattle.verify_graph.proofs.Prefixes.{listed_last}

-- the numbers of those over the places that pass
abbrev pub over_those : List Channel → (ℕ → Option Channel) → (ℕ → Bool) → List ℕ → List ℕ
over_those all h test ps = numbers_of all (filter_map h (filter test ps))

over_both : (all : List Channel) (h : ℕ → Option Channel) (test : ℕ → Bool) (ps qs : List ℕ) → over_those all h test (ps ++ qs) ≡ over_those all h test ps ++ over_those all h test qs
over_both all h test ps qs =
    ap (λ xs. numbers_of all (filter_map h xs)) (filter-append test ps qs)
    ∙ (ap (numbers_of all) (filter_map-append h (filter test ps) (filter test qs))
    ∙ filter_map-append (number_of all) (filter_map h (filter test ps)) (filter_map h (filter test qs)))

pub over_last : (all : List Channel) (h : ℕ → Option Channel) (test : ℕ → Bool) (n : ℕ) →
    over_those all h test (listed (λ place. place) (n + 1)) ≡ over_those all h test (listed (λ place. place) n) ++ over_those all h test (n ∷ [])
over_last all h test n =
    ap (over_those all h test) (listed_last (λ place. place) n) ∙ over_both all h test (listed (λ place. place) n) (n ∷ [])
