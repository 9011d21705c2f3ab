-- The promise of bytes asks for what is met by a definition with a shape, a prototype with a peer and a program that calls it. Bytes that name a
-- peer twice, or none where one is due, denote nothing.
use Rattle.std.specs.Prelude.{◌≡◌, ℕ, List, [], ◌∷◌, ◌++◌, codes, Ok, Err}
use Rattle.definition_format.specs.Denoted.{denoted}
use Rattle.definition_format.specs.Refusals.{shape, duplicate}
use Rattle.law_typing.specs.Examples.LastReference as last_reference
use Rattle.law_typing.specs.Laws.StepsKeepGood.{PoolReady}
use Rattle.law_typing.specs.Verdict.{verdict, accepted}
use Rattle.law_typing.specs.Verdict.Accepted.{Accepted}
use Rattle.law_reading.specs.ReadRuns.{events_in}
use Rattle.machine_rows.specs.Runs.LastReference as run

-- on `go` the hold makes an item and connects it, and on `fire` the item emits; the last handler then calls the item's peer
abbrev pub bytes : List ℕ
bytes =
    codes "{\"format\":1,\"limits\":{\"handlers\":2},\"shapes\":[{\"name\":\"Tally\",\"methods\":["
    ++ codes "{\"name\":\"add\",\"params\":[\"int64\"],\"result\":\"int64\"},{\"name\":\"read\",\"result\":\"int64\"}]}],"
    ++ codes "\"classes\":[{\"name\":\"Item\",\"signals\":[{\"name\":\"s\"}],\"shape\":\"Tally\"},{\"name\":\"Hold\",\"properties\":["
    ++ codes "{\"name\":\"cur\",\"kind\":\"object:Item\"},{\"name\":\"w\",\"kind\":\"object:Item\",\"weak\":true}],"
    ++ codes "\"signals\":[{\"name\":\"go\"},{\"name\":\"fire\"}]}],"
    ++ codes "\"programs\":[{\"name\":\"mk\",\"params\":[\"at:h\"],\"registers\":3,\"blocks\":[{\"code\":[[\"new\",1,\"it\"],[\"ifnull\",1,1,2]]},"
    ++ codes "{\"in\":[],\"code\":[[\"return\",null]]},{\"in\":[\"at:h\",\"at:it\"],\"code\":["
    ++ codes "[\"connect\",2,1,\"s\",null,\"drop\",[\"swapped\"],0],[\"connect\",2,1,\"s\",null,\"later\",[],null],"
    ++ codes "[\"set\",0,\"cur\",1],[\"set\",0,\"w\",1],[\"return\",null]]}]},"
    ++ codes "{\"name\":\"drop\",\"params\":[\"at:h\",\"at:it\"],\"registers\":3,\"blocks\":[{\"code\":["
    ++ codes "[\"const\",2,\"object:Item\",null],[\"set\",0,\"cur\",2],[\"return\",null]]}]},"
    ++ codes "{\"name\":\"later\",\"params\":[\"some:Item\"],\"registers\":3,\"blocks\":[{\"code\":["
    ++ codes "[\"const\",1,\"int64\",2],[\"call\",2,0,\"add\",[1]],[\"return\",null]]}]},"
    ++ codes "{\"name\":\"fire\",\"params\":[\"at:h\"],\"registers\":2,\"blocks\":[{\"code\":[[\"get\",1,0,\"cur\"],[\"ifnull\",1,1,2]]},"
    ++ codes "{\"in\":[],\"code\":[[\"return\",null]]},{\"in\":[\"at:h\",\"some:Item\"],\"code\":["
    ++ codes "[\"emit\",null,1,\"s\",null,[]],[\"return\",null]]}]}],"
    ++ codes "\"prototypes\":[{\"id\":\"it\",\"class\":\"Item\",\"peers\":[\"t\"]}],"
    ++ codes "\"objects\":[{\"id\":\"h\",\"class\":\"Hold\",\"signals\":[{\"name\":\"go\",\"handler\":\"mk\"},{\"name\":\"fire\",\"handler\":\"fire\"}]}]}\n"

-- an item is made, the last mention of it goes while it emits, and another one is to be made
abbrev pub lines : List (List ℕ)
lines =
    codes "{\"emit\":[\"h\",\"go\",[]]}"
    ∷ codes "{\"emit\":[\"h\",\"fire\",[]]}"
    ∷ codes "{\"get\":[\"h\",\"w\"]}"
    ∷ codes "{\"emit\":[\"h\",\"go\",[]]}"
    ∷ []

-- ** bytes that denote nothing

-- a class with a shape, a class below it with these further members, a prototype with these peers, and two objects with these further members
abbrev pub small : (below peers first second : List ℕ) → List ℕ
small below peers first second =
    codes "{\"format\":2,\"shapes\":[{\"name\":\"Bell\",\"methods\":[]}],\"classes\":[{\"name\":\"Door\",\"shape\":\"Bell\"},"
    ++ (codes "{\"name\":\"Gate\",\"parent\":\"Door\"" ++ (below ++ (codes "}],\"prototypes\":[{\"id\":\"p\",\"class\":\"Gate\",\"peers\":[" ++ (peers
    ++ (codes "]}],\"objects\":[{\"id\":\"a\",\"class\":\"Door\"" ++ (first ++ (codes "},{\"id\":\"b\",\"class\":\"Gate\"" ++ (second ++ codes "}]}\n"))))))))

-- the peer of an object
abbrev pub peer : List ℕ → List ℕ
peer name = codes ",\"peer\":\"" ++ (name ++ codes "\"")

pub record PeersMet : Type 0 where
  pub read : denoted bytes ≡ Ok last_reference.definition
  pub judged : verdict last_reference.definition ≡ accepted last_reference.lines
  pub accepted : Accepted last_reference.definition
  pub ready : PoolReady last_reference.definition run.peers
  pub events : events_in last_reference.definition lines ≡ run.events
  -- an object has a peer if its class has a shape, which may be the shape of the class above
  pub without : denoted (small [] [] (peer (codes "o")) []) ≡ Err (shape (codes "/objects/1/peer"))
  -- a peer is named once, by all prototypes and objects together
  pub twice : denoted (small [] [] (peer (codes "o")) (peer (codes "o"))) ≡ Err (duplicate (codes "/objects/1/peer"))
  pub taken : denoted (small [] (codes "\"o\"") (peer (codes "o")) (peer (codes "u"))) ≡ Err (duplicate (codes "/objects/0/peer"))
  -- a class has the shape of the class above, and gets no other
  pub again : denoted (small (codes ",\"shape\":\"Bell\"") [] (peer (codes "o")) (peer (codes "u"))) ≡ Err (duplicate (codes "/classes/1/shape"))
