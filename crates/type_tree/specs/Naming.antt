-- Members that a text calls by their names or nicks.
use Rattle.std.specs.Prelude.{ℤ, List, ℕ, bytes_eq, Option, option_map}
use Rattle.std.specs.Option.{option_or}
use Rattle.std.specs.List.{find}
use Rattle.ui_machine.specs.Definition.Types.{Member}

-- the number of the first member of which the text is this word
abbrev pub number_by : (Member → List ℕ) → List Member → List ℕ → Option ℤ
number_by text members word = option_map (λ m. m.number) (find (λ m. bytes_eq (text m) word) members)

-- the number of the member that is called so: by its name, else by its nick
abbrev pub number_called : List Member → List ℕ → Option ℤ
number_called members word = option_or (number_by (λ m. m.name) members word) (number_by (λ m. m.nick) members word)
