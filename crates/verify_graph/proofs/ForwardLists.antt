-- Forward values that are gone through one after the other.
use Rattle.std.proofs.Common.{◌≡◌, ◌∙◌, refl, ap, ℕ, suc, ◌+◌, ◌≤◌, Bool, true, false, cond, List, [], ◌∷◌, ◌++◌, length, map, drop, None, Some, slice_get, arith}
use Rattle.std.specs.List.{filter}
use Rattle.ui_machine.specs.Definition.{Definition}
use Rattle.ui_machine.specs.Definition.Places.{GivenProperty, Place}
use Rattle.ui_machine.specs.Rules.Construction.{is_forward}
use Rattle.law_typing.specs.Graph.{forwards_from}
use Rattle.law_typing.specs.Graph.Channels.{Channel, present, property}
use Rattle.verify_graph.specs.Makings.{forwards_at, forwards_in}
use Rattle.verify_graph.proofs.BoundLists.{from_got, none_got, none_left}
use Rattle.verify_graph.proofs.MakingLists.{present_joined}

-- ** given values

first_apart : (d : Definition) (place : ℕ) (g : GivenProperty) (gs : List GivenProperty) →
    forwards_in d place (g ∷ gs) ≡ forwards_in d place (g ∷ []) ++ forwards_in d place gs
first_apart d place g gs = by (is_forward place g.given)
  where
    seen : List GivenProperty → List Channel
    seen xs = map (λ (x : GivenProperty). property place x.slot) xs

    kept : List GivenProperty
    kept = filter (λ (x : GivenProperty). is_forward place x.given) gs

    by : (b : Bool) → present d (map (λ (x : GivenProperty). property place x.slot) (cond b (g ∷ kept) kept))
        ≡ present d (map (λ (x : GivenProperty). property place x.slot) (cond b (g ∷ []) [])) ++ forwards_in d place gs
    by true = present_joined d (property place g.slot ∷ []) (map (λ (x : GivenProperty). property place x.slot) kept)
    by false = refl

pub next_forward : (d : Definition) (place : ℕ) (given : List GivenProperty) (n : ℕ) (g : GivenProperty) (rest : List GivenProperty) →
    drop n given ≡ g ∷ rest → forwards_in d place (drop n given) ≡ forwards_in d place (g ∷ []) ++ forwards_in d place rest
next_forward d place given n g rest begins = ap (forwards_in d place) begins ∙ first_apart d place g rest

pub no_forward : (d : Definition) (place : ℕ) (given : List GivenProperty) (n : ℕ) → length given ≤ n → forwards_in d place (drop n given) ≡ []
no_forward d place given n behind = ap (forwards_in d place) (none_left given n behind)

-- ** places

pub next_forwards : (d : Definition) (n : ℕ) (ps : List Place) (p : Place) → Some p ≡ slice_get ps n →
    forwards_from d n (drop n ps) ≡ forwards_at d n p ++ forwards_from d (n + 1) (drop (n + 1) ps)
next_forwards d n ps p is =
    let e : suc n ≡ n + 1 = omega arith in
    ap (forwards_from d n) (from_got ps n p is) ∙ ap (λ m. forwards_at d n p ++ forwards_from d m (drop (n + 1) ps)) e

pub none_forwards : (d : Definition) (n : ℕ) (ps : List Place) → None ≡ slice_get ps n → forwards_from d n (drop n ps) ≡ []
none_forwards d n ps is = ap (forwards_from d n) (none_got ps n is)

pub all_forwards : (d : Definition) (n : ℕ) (ps : List Place) → length ps ≤ n → forwards_from d n (drop n ps) ≡ []
all_forwards d n ps behind = ap (forwards_from d n) (none_left ps n behind)
