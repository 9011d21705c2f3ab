-- What the promise asks of bytes is met: by the definition of the first run with a signal, a shape, a child and a prototype, all with peers, and
-- lines that set, emit, read and let go.
use Rattle.std.specs.Prelude.{◌≡◌, ℕ, pos, negsuc, false, List, [], ◌∷◌, ◌++◌, codes, Option, None, Some, Ok}
use Rattle.ui_machine.specs.Definition.{Class, Definition}
use Rattle.ui_machine.specs.Definition.Kinds.{int, int64}
use Rattle.ui_machine.specs.Definition.Kinds as kinds
use Rattle.ui_machine.specs.Definition.Places.{value}
use Rattle.ui_machine.specs.Definition.Signals.{Method, Signal}
use Rattle.ui_machine.specs.Definition.Values.{whole}
use Rattle.ui_machine.specs.State.Peers.{Peer}
use Rattle.ui_machine.specs.State.Tasks.{request, set, emit, get, release}
use Rattle.ui_machine.specs.Words.{bare, class_type, class_with, method, notify, object, peer, property, prototype, shape, signal}
use Rattle.definition_format.specs.Denoted.{denoted}
use Rattle.law_typing.specs.Examples.FirstRun as first_run
use Rattle.law_typing.specs.Laws.StepsKeepGood.{PoolReady}
use Rattle.law_typing.specs.Verdict.{verdict, accepted}
use Rattle.law_typing.specs.Verdict.Accepted.{Accepted}
use Rattle.law_reading.specs.ReadRuns.{events_in}

-- a class with a property, a signal and a shape, a prototype of it, an object of it, and another of a class below it, which is the first's child
abbrev pub bytes : List ℕ
bytes =
    codes "{\"format\":1,\"shapes\":[{\"name\":\"Tally\",\"methods\":["
    ++ codes "{\"name\":\"add\",\"params\":[\"int64\"],\"result\":\"int64\"},{\"name\":\"read\",\"result\":\"int64\"}]}],"
    ++ codes "\"classes\":[{\"name\":\"Box\",\"properties\":[{\"name\":\"n\",\"kind\":\"int\"}],"
    ++ codes "\"signals\":[{\"name\":\"turned_on\",\"params\":[\"int\"]}],\"shape\":\"Tally\"},{\"name\":\"Lid\",\"parent\":\"Box\"}],"
    ++ codes "\"prototypes\":[{\"id\":\"p\",\"class\":\"Box\",\"properties\":[{\"name\":\"n\",\"value\":7}],\"peers\":[\"s\",\"t\"]}],"
    ++ codes "\"objects\":[{\"id\":\"b\",\"class\":\"Box\",\"peer\":\"o\",\"children\":[{\"id\":\"c\",\"class\":\"Lid\",\"peer\":\"u\"}]}]}\n"

-- the signal, as it is kept
abbrev pub turned_on : Signal
turned_on = signal (codes "turned-on") (kinds.whole int ∷ []) None 2 None

-- the methods of the shape
abbrev pub tally : List Method
tally = method (codes "add") (kinds.whole int64 ∷ []) (kinds.whole int64) ∷ method (codes "read") [] (kinds.whole int64) ∷ []

-- a class with the property and the signal, which names this shape
abbrev pub box_class : Option ℕ → Class
box_class named =
    class_with (property (codes "n") (kinds.whole int) 3 (whole int (pos 0)) (negsuc 2147483647) (pos 2147483647) false ∷ [])
    (notify ∷ turned_on ∷ []) [] None named

-- the definition of the first run, with the signal, the shape and the class below, with the child behind its object, and behind both with the
-- prototype
abbrev pub definition : Definition
definition = record first_run.definition {
  types =
      first_run.definition.types ++ class_type (codes "Lid") 2 false false [] ∷ [];
  classes =
      bare
      ∷ bare
      ∷ box_class (Some 0)
      ∷ box_class None
      ∷ [];
  shapes =
      shape (codes "Tally") tally
      ∷ [];
  places =
      object (codes "b") 2 None [] (codes "o" ∷ []) []
      ∷ object (codes "c") 3 (Some 0) [] (codes "u" ∷ []) []
      ∷ prototype (codes "p") 2 (record { slot = 0; given = value (whole int (pos 7)) } ∷ []) (codes "s" ∷ codes "t" ∷ [])
      ∷ [];
}

-- its peers
abbrev pub pool : List Peer
pool =
    peer (codes "o") tally []
    ∷ peer (codes "s") tally []
    ∷ peer (codes "t") tally []
    ∷ peer (codes "u") tally []
    ∷ []

-- what its report says
abbrev pub told : List (List ℕ)
told =
    codes "depth 2"
    ∷ codes "build bound 64"
    ∷ codes "property b.n rank 0 bound 65"
    ∷ codes "signal b.turned-on rank 0 bound 65"
    ∷ codes "property c.n rank 0 bound 65"
    ∷ codes "signal c.turned-on rank 0 bound 65"
    ∷ codes "property p.n rank 0 bound 65"
    ∷ codes "signal p.turned-on rank 0 bound 65"
    ∷ []

-- the property of the object is set, the signal emitted, the property of the child is read, and the child is let go; two lines between denote
-- no event: an object has no such property, and a prototype is no object
abbrev pub lines : List (List ℕ)
lines =
    codes "{\"set\":[\"b\",\"n\",5]}"
    ∷ codes "{\"get\":[\"b\",\"m\"]}"
    ∷ codes "{\"emit\":[\"b\",\"turned_on\",[3]]}"
    ∷ codes "{\"get\":[\"c\",\"n\"]}"
    ∷ codes "{\"get\":[\"p\",\"n\"]}"
    ∷ codes "{\"release\":\"c\"}"
    ∷ []

pub record PremisesMet : Type 0 where
  pub read : denoted bytes ≡ Ok definition
  pub judged : verdict definition ≡ accepted told
  pub accepted : Accepted definition
  pub ready : PoolReady definition pool
  pub events :
      events_in definition lines
      ≡ request (set 0 0 (value (whole int (pos 5))))
      ∷ request (emit 0 1 (value (whole int (pos 3)) ∷ []) None)
      ∷ request (get 1 0)
      ∷ request (release 1)
      ∷ []
