-- The promise of bytes asks for what is met: by a definition with programs, a signal that runs one, a prototype that it makes, a timeout and an
-- idle, and by lines with turns of the main loop.
use Rattle.std.specs.Prelude.{◌≡◌, ℕ, pos, negsuc, true, false, List, [], ◌∷◌, ◌++◌, codes, None, Some, Ok}
use Rattle.ui_machine.specs.Definition.{Definition}
use Rattle.ui_machine.specs.Definition.Kinds.{RegisterKind, some, unset, bool, int}
use Rattle.ui_machine.specs.Definition.Kinds as kinds
use Rattle.ui_machine.specs.Definition.Types.{plain_class}
use Rattle.ui_machine.specs.Definition.Places.{value}
use Rattle.ui_machine.specs.Definition.Programs.{Program}
use Rattle.ui_machine.specs.Definition.Programs as words
use Rattle.ui_machine.specs.Definition.Values as values
use Rattle.ui_machine.specs.State.Tasks.{Event, request, turn, set, emit}
use Rattle.ui_machine.specs.Words.{class_type, property, signal, notify, bare, class_with, block, program, gives, attached, object, prototype}
use Rattle.definition_format.specs.Denoted.{denoted}
use Rattle.law_typing.specs.Laws.StepsKeepGood.{PoolReady}
use Rattle.law_typing.specs.Verdict.{verdict, accepted}
use Rattle.law_typing.specs.Verdict.Accepted.{Accepted}
use Rattle.law_reading.specs.ReadRuns.{events_in}

-- on `go` the box attaches a timeout, whose data is the box, and an idle, and it makes another box
abbrev pub bytes : List ℕ
bytes =
    codes "{\"format\":1,\"classes\":[{\"name\":\"Box\",\"properties\":[{\"name\":\"n\",\"kind\":\"int\"}],\"signals\":[{\"name\":\"go\"}]}],"
    ++ codes "\"programs\":[{\"name\":\"start\",\"params\":[\"some:Box\"],\"registers\":2,\"blocks\":[{\"code\":["
    ++ codes "[\"timeout\",1,\"tick\",0,100,0],[\"idle\",1,\"rest\",200,null],[\"new\",1,\"p\"],[\"return\",null]]}]},"
    ++ codes "{\"name\":\"tick\",\"params\":[\"some:Box\"],\"registers\":2,\"result\":\"bool\",\"blocks\":[{\"code\":["
    ++ codes "[\"const\",1,\"bool\",true],[\"return\",1]]}]},"
    ++ codes "{\"name\":\"rest\",\"registers\":1,\"result\":\"bool\",\"blocks\":[{\"code\":[[\"const\",0,\"bool\",false],[\"return\",0]]}]}],"
    ++ codes "\"prototypes\":[{\"id\":\"p\",\"class\":\"Box\",\"properties\":[{\"name\":\"n\",\"value\":7}]}],"
    ++ codes "\"objects\":[{\"id\":\"b\",\"class\":\"Box\",\"signals\":[{\"name\":\"go\",\"handler\":\"start\"}]}]}\n"

-- the programs that they denote
abbrev pub start : Program
start =
    program (codes "start") (some 2 ∷ []) 2 None
    (block (some 2 ∷ unset ∷ []) None
    (words.timeout 1 (codes "tick") (pos 0) 100 (Some 0) ∷ words.idle 1 (codes "rest") (pos 200) None ∷ words.new 1 (codes "p") ∷ words.return None ∷ [])
    ∷ [])

abbrev pub tick : Program
tick =
    program (codes "tick") (some 2 ∷ []) 2 (Some bool)
    (block (some 2 ∷ unset ∷ []) None (words.const 1 bool (values.bool true) ∷ words.return (Some 1) ∷ []) ∷ [])

abbrev pub rest : Program
rest =
    program (codes "rest") [] 1 (Some bool)
    (block (unset ∷ []) None (words.const 0 bool (values.bool false) ∷ words.return (Some 0) ∷ []) ∷ [])

-- and the definition
abbrev pub definition : Definition
definition = record {
  types =
      plain_class (codes "GObject") None []
      ∷ class_type (codes "GInitiallyUnowned") 0 false false []
      ∷ class_type (codes "Box") 0 false false []
      ∷ [];
  classes =
      bare
      ∷ bare
      ∷ class_with (property (codes "n") (kinds.whole int) 3 (values.whole int (pos 0)) (negsuc 2147483647) (pos 2147483647) false ∷ [])
      (notify ∷ signal (codes "go") [] None 2 None ∷ []) [] None None
      ∷ [];
  shapes =
      [];
  programs =
      start
      ∷ tick
      ∷ rest
      ∷ [];
  places =
      object (codes "b") 2 None [] [] (attached (codes "go") None 0 false false None ∷ [])
      ∷ prototype (codes "p") 2 (gives 0 (value (values.whole int (pos 7))) ∷ []) []
      ∷ [];
  bindings =
      [];
  most_objects = 64;
  most_handlers = 0;
}

-- the lines of its report
abbrev pub told : List (List ℕ)
told =
    codes "depth 4"
    ∷ codes "build bound 64"
    ∷ codes "property b.n rank 0 bound 65"
    ∷ codes "signal b.go rank 0 bound 71"
    ∷ codes "property p.n rank 1 bound 65"
    ∷ codes "signal p.go rank 0 bound 65"
    ∷ codes "source tick bound 66"
    ∷ codes "source rest bound 66"
    ∷ []

-- two requests for `go`, and two turns with a set between them; one line denotes no event, since a text is no moment
abbrev pub lines : List (List ℕ)
lines =
    codes "{\"emit\":[\"b\",\"go\",[]]}"
    ∷ codes "{\"emit\":[\"b\",\"go\",[]]}"
    ∷ codes "{\"turn\":100}"
    ∷ codes "{\"turn\":\"200\"}"
    ∷ codes "{\"set\":[\"b\",\"n\",5]}"
    ∷ codes "{\"turn\":250}"
    ∷ []

-- the events that they denote
abbrev pub events : List Event
events =
    request (emit 0 1 [] None)
    ∷ request (emit 0 1 [] None)
    ∷ turn 100
    ∷ request (set 0 0 (value (values.whole int (pos 5))))
    ∷ turn 250
    ∷ []

pub record PremisesMet : Type 0 where
  pub read : denoted bytes ≡ Ok definition
  pub judged : verdict definition ≡ accepted told
  pub accepted : Accepted definition
  pub ready : PoolReady definition []
  pub events : events_in definition lines ≡ events
