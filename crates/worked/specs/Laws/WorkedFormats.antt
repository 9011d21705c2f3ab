-- A program in both formats, and one that the second format alone has: its second block is passed three times.
use Rattle.std.specs.Prelude.{◌≡◌, ℕ, List, [], ◌++◌, codes, map, None, Ok, Err}
use Rattle.serde_json.specs.Data.{Data}
use Rattle.ui_machine.specs.Definition.{Definition}
use Rattle.ui_machine.specs.Definition.Programs.{Block, Program}
use Rattle.definition_format.specs.Document.{document}
use Rattle.definition_format.specs.Denoted.{denoted}
use Rattle.definition_format.specs.Refusals.{shape}
use Rattle.law_typing.specs.Examples.RepeatedBlock as repeated_block
use Rattle.law_reading.specs.Formats.{IsOfFirst, in_format}

-- a definition in the format that a text says, with a program whose second block has these members in front of its code
abbrev pub bytes : (format members : List ℕ) → List ℕ
bytes format members =
    codes "{\"format\":" ++ (format
    ++ (codes ",\"classes\":[{\"name\":\"Box\",\"properties\":[{\"name\":\"n\",\"kind\":\"int\"}],\"signals\":[{\"name\":\"go\"}]}],"
    ++ (codes "\"programs\":[{\"name\":\"f\",\"params\":[\"some:Box\"],\"registers\":3,\"blocks\":["
    ++ (codes "{\"code\":[[\"const\",1,\"int\",1],[\"const\",2,\"int\",0],[\"jump\",1]]},"
    ++ (codes "{\"in\":[\"some:Box\",\"int\",\"int\"]," ++ (members ++ (codes "\"code\":[[\"add\",2,2,1],[\"set\",0,\"n\",2],[\"jump\",2]]},"
    ++ (codes "{\"in\":[\"some:Box\"],\"code\":[[\"return\",null]]}]}],"
    ++ codes "\"objects\":[{\"id\":\"b\",\"class\":\"Box\",\"signals\":[{\"name\":\"go\",\"handler\":\"f\"}]}]}\n"))))))))

-- in the first format, and the same in the second
abbrev pub first : List ℕ
first = bytes (codes "1") []

abbrev pub second : List ℕ
second = bytes (codes "2") []

-- where the block says that it is passed three times
abbrev pub thrice : List ℕ
thrice = codes "\"repeat\":3,"

-- the programs, where each block is passed once
abbrev pub once : Program → Program
once p = record p { blocks = map (λ (b : Block). record b { repeat = None }) p.blocks }

-- the definition of them
abbrev pub definition : Definition
definition = record repeated_block.definition { programs = map once repeated_block.definition.programs }

pub record FormatsMet : Type 0 where
  -- the texts are read as a value of the first format, and as the same in the second
  pub value : Data
  pub read : document first ≡ Ok value
  pub changed : document second ≡ Ok (in_format 2 value)
  pub is_first : IsOfFirst value
  -- they denote one definition
  pub denotes : denoted first ≡ Ok definition
  pub same : denoted second ≡ Ok definition
  -- the second format alone has a block that is passed three times
  pub repeated : denoted (bytes (codes "2") thrice) ≡ Ok repeated_block.definition
  pub refused : denoted (bytes (codes "1") thrice) ≡ Err (shape (codes "/programs/0/blocks/1/repeat"))
