-- The line that says for what a definition is refused, as bytes. Names are those of the definition, as in its report.
use Rattle.std.specs.Prelude.{ℕ, zero, suc, ◌-◌, Bool, true, false, cond, not, ◌&&◌, nat_eq, List, [], ◌∷◌, ◌++◌, length, take, codes, decimal, Option, None, Some, is_some, slice_get}
use Rattle.std.specs.List.{filter}
use Rattle.ui_machine.specs.Definition.Types.{Sort, GType}
use Rattle.ui_machine.specs.Definition.Types as sorts
use Rattle.ui_machine.specs.Definition.{Definition}
use Rattle.ui_machine.specs.Definition.Places.{Bind, Place}
use Rattle.ui_machine.specs.Definition.Lookups.{place_at, program_at}
use Rattle.law_typing.specs.Rules.Answers.{Rule}
use Rattle.law_typing.specs.Rules.Answers as rules
use Rattle.law_typing.specs.Rules.Faults.{Handling, BindingWord, Fault}
use Rattle.law_typing.specs.Rules.Faults as faults
use Rattle.law_typing.specs.Graph.Channels.{Cause, Link, Entry}
use Rattle.law_typing.specs.Graph.Channels as channels
use Rattle.law_typing.specs.Verdict.Report.{name_of_program, text_of_channel}

-- ** words

-- the word of a rule of typing
abbrev pub word_of_rule : Rule → List ℕ
word_of_rule rules.unset = codes "unset"
word_of_rule rules.kind = codes "kind"
word_of_rule rules.null = codes "null"
word_of_rule rules.unknown = codes "unknown"
word_of_rule rules.flags = codes "flags"
word_of_rule rules.construct_only = codes "construct-only"
word_of_rule rules.detail = codes "detail"
word_of_rule rules.signature = codes "signature"
word_of_rule rules.result = codes "result"
word_of_rule rules.block = codes "block"

-- the word of a rule of bindings
abbrev pub word_of_binding : BindingWord → List ℕ
word_of_binding faults.same = codes "same"
word_of_binding faults.readable = codes "readable"
word_of_binding faults.writable = codes "writable"
word_of_binding faults.construct_only = codes "construct-only"
word_of_binding faults.kinds = codes "kinds"
word_of_binding faults.invert = codes "invert"

-- a text after another, with a blank between
abbrev pub then_text : List ℕ → List ℕ → List ℕ
then_text text more = text ++ (codes " " ++ more)

-- the name of a program by its number
abbrev pub program_text : Definition → ℕ → List ℕ
program_text d program = name_of_program (program_at d program)

-- ** paths

-- an entry of a member that is a list, by its number in it
abbrev pub entry_of : List ℕ → ℕ → List ℕ
entry_of member number = codes "/" ++ (member ++ (codes "/" ++ decimal number))

-- whether a type is a class
abbrev pub is_class : GType → Bool
is_class t = of t.sort
  where
    of : Sort → Bool
    of sorts.class = true
    of sorts.interface = false
    of sorts.enum = false
    of sorts.flags = false

-- the path of a class that the definition declares, by its number among all types; two classes are there before those
abbrev pub class_path : Definition → ℕ → List ℕ
class_path d class = entry_of (codes "classes") (length (filter is_class (take class d.types)) - 2)

-- whether two places have the same parent, or none
abbrev pub same_parent : Option ℕ → Option ℕ → Bool
same_parent None None = true
same_parent None (Some q) = false
same_parent (Some p) None = false
same_parent (Some p) (Some q) = nat_eq p q

-- whether a place is in the same list as another: of prototypes, of objects without a parent, or of the children of one
abbrev pub is_beside : Place → Place → Bool
is_beside p q = cond p.is_prototype q.is_prototype (not q.is_prototype && same_parent p.parent q.parent)

-- how many places before this number are in the same list
abbrev pub before_in_list : Definition → ℕ → Place → ℕ
before_in_list d place p = length (filter (is_beside p) (take place d.places))

-- the path of a place, where that of its parent is this; an object without a parent is at the top
abbrev pub place_under : Definition → ℕ → Option Place → List ℕ → List ℕ
place_under d place None above = []
place_under d place (Some p) above =
    cond p.is_prototype (entry_of (codes "prototypes") (before_in_list d place p))
    (cond (is_some p.parent) (above ++ entry_of (codes "children") (before_in_list d place p))
    (entry_of (codes "objects") (before_in_list d place p)))

-- the place above one, itself where there is none
abbrev pub place_above : Definition → ℕ → ℕ
place_above d place = of (place_at d place)
  where
    or_itself : Option ℕ → ℕ
    or_itself None = place
    or_itself (Some parent) = parent

    of : Option Place → ℕ
    of None = place
    of (Some p) = or_itself p.parent

-- the path of a place that has no more than so many above it
abbrev pub path_within : ℕ → Definition → ℕ → List ℕ
path_within zero d place = place_under d place (place_at d place) []
path_within (suc steps) d place = place_under d place (place_at d place) (path_within steps d (place_above d place))

-- the path of a place; a parent comes before its children
abbrev pub place_path : Definition → ℕ → List ℕ
place_path d place = path_within place d place

-- the path of a program that does not take what it is given
abbrev pub handling_path : Definition → Handling → List ℕ
handling_path d (faults.class_handler class number) = class_path d class ++ entry_of (codes "class-handlers") number
handling_path d (faults.constructed class) = class_path d class ++ codes "/constructed"
handling_path d (faults.attached place number) = place_path d place ++ entry_of (codes "signals") number

-- the path of a binding
abbrev pub binding_path : Definition → ℕ → List ℕ
binding_path d number = of (slice_get d.bindings number)
  where
    of : Option Bind → List ℕ
    of None = []
    of (Some b) = place_path d b.target ++ (entry_of (codes "properties") b.at ++ codes "/bind")

-- ** lines

-- what begins a dispatch, as the report calls it
abbrev pub entry_text : Definition → Entry → List ℕ
entry_text d channels.build = codes "build"
entry_text d (channels.at c) = text_of_channel d c
entry_text d (channels.source program) = then_text (codes "source") (program_text d program)
entry_text d channels.plain = []

-- what makes an edge
abbrev pub cause_text : Definition → Cause → List ℕ
cause_text d (channels.program number) = program_text d number
cause_text d channels.binding = codes "binding"

-- a channel of a cycle, and what leads on from it
abbrev pub link_text : Definition → Link → List ℕ
link_text d l = then_text (text_of_channel d l.from) (then_text (codes "by") (cause_text d l.by))

-- those of a cycle, with a comma and a blank between
abbrev pub links_text : Definition → List Link → List ℕ
links_text d [] = []
links_text d (l ∷ []) = link_text d l
links_text d (l ∷ m ∷ more) = link_text d l ++ (codes ", " ++ links_text d (m ∷ more))

-- a program and the number of a block
abbrev pub block_text : Definition → (program block : ℕ) → List ℕ
block_text d program block = then_text (program_text d program) (decimal block)

-- a fault's name, and its fields
abbrev pub fault_text : Definition → Fault → List ℕ
fault_text d (faults.ill_typed program block at rule) =
    then_text (codes "IllTyped") (then_text (block_text d program block) (then_text (decimal at) (word_of_rule rule)))
fault_text d (faults.handler_signature handling) = then_text (codes "HandlerSignature") (handling_path d handling)
fault_text d (faults.binding_rule binding word) = then_text (codes "BindingRule") (then_text (binding_path d binding) (word_of_binding word))
fault_text d (faults.second_pair binding) = then_text (codes "SecondPair") (binding_path d binding)
fault_text d (faults.unbalanced program block) = then_text (codes "Unbalanced") (block_text d program block)
fault_text d (faults.cycle links) = then_text (codes "Cycle") (links_text d links)
fault_text d (faults.bound_too_large entry) = then_text (codes "BoundTooLarge") (entry_text d entry)

-- the line that says it
abbrev pub refused_line : Definition → Fault → List ℕ
refused_line d fault = then_text (codes "refused:") (fault_text d fault)
