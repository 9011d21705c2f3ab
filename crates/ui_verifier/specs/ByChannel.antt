-- Numbers by channel.
use Rattle.std.specs.Prelude.{◌≡◌, ◌+◌, ℕ, cond, List, [], ◌∷◌, map, Option, None, Some, slice_get}
use Rattle.ui_machine.specs.Seq.{total}
use Rattle.ui_machine.specs.Definition.{Definition}
use Rattle.ui_machine.specs.Definition.Lookups.{place_at}
use Rattle.ui_machine.specs.Definition.Places.{Place}
use Rattle.law_typing.specs.Graph.Channels.{Channel}
use Rattle.law_typing.specs.Graph.{built_objects, created_by, forwards_from, making_of, makings_from}
use Rattle.law_typing.specs.Graph.Tables.{greatest}
use Rattle.law_typing.specs.Laws.Capped.{capped}

-- these values, in the order of the channels, are those of a function, which has 0 for any other channel
pub record Gives (channels : List Channel) (values : List ℕ) (f : Channel → ℕ) : Type 0 where
  pub same : values ≡ map f channels
  pub none : (c : Channel) → ((n : ℕ) → slice_get channels n ≡ Some c → ⊥) → f c ≡ 0

-- the same values, each capped
abbrev pub GivesCapped : List Channel → List ℕ → (Channel → ℕ) → Type 0
GivesCapped channels values f = Gives channels values (λ c. capped (f c))

-- ** the build

-- what the making of a place's object costs, where it is built at all
abbrev pub cost_if_built : Definition → (Channel → ℕ) → ℕ → Option Place → ℕ
cost_if_built d f place None = 0
cost_if_built d f place (Some p) = cond p.is_prototype 0 (total f (making_of d (Some place)))

abbrev pub making_cost_at : Definition → (Channel → ℕ) → ℕ → ℕ
making_cost_at d f place = cost_if_built d f place (place_at d place)

-- what the build's makings cost, by the costs of channels
abbrev pub makings_cost : Definition → (Channel → ℕ) → ℕ
makings_cost d f = total (total f) (built_objects d 0 d.places)

-- what its first transfers cost: each the transfer, and what it raises
abbrev pub transfers_cost : (Channel → ℕ) → List Channel → ℕ
transfers_cost f cs = total (λ c. 1 + f c) cs

-- what the build costs
abbrev pub build_cost : Definition → (Channel → ℕ) → ℕ
build_cost d f = makings_cost d f + total f (forwards_from d 0 d.places) + transfers_cost f (created_by d.bindings)

-- ** depths

-- the frames of the making of a place's object
abbrev pub making_depth_at : Definition → (Channel → ℕ) → ℕ → ℕ
making_depth_at d f place = 1 + greatest f (making_of d (Some place))

-- the most of any making
abbrev pub makings_depth : Definition → (Channel → ℕ) → ℕ
makings_depth d f = greatest (λ cs. 1 + greatest f cs) (makings_from d 0 d.places)
