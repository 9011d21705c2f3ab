-- How long a line is at most. A line is made of words, of names of the definition, of numbers and of values, so that its greatest length is a
-- number that is computed from the definition.
use Rattle.std.specs.List.{flat_map}
use Rattle.std.specs.Prelude.{◌≡◌, ℕ, suc, ◌+◌, ◌-◌, ◌*◌, ◌≤◌, max, length, map, List, [], ◌∷◌, ◌++◌, codes, IfSome, ⊤}
use Rattle.ui_machine.specs.Definition.{Class, Definition}
use Rattle.ui_machine.specs.Definition.Kinds.{Kind}
use Rattle.ui_machine.specs.Definition.Places.{Place}
use Rattle.ui_machine.specs.Definition.Programs.{Program}
use Rattle.ui_machine.specs.Definition.Properties.{Spec}
use Rattle.ui_machine.specs.Definition.Signals.{Method, Shape, Signal}
use Rattle.ui_machine.specs.Definition.Types.{GType, Member}
use Rattle.ui_machine.specs.Definition.Values.{Value}
use Rattle.ui_machine.specs.Instructions.Arithmetic.{most_bytes}
use Rattle.ui_machine.specs.Output.Lines.{Line}
use Rattle.ui_machine.specs.Output.Lines as lines
use Rattle.ui_machine.specs.Output.Text.{text_of_line, text_of_value}
use Rattle.ui_machine.specs.Runs.{IsShort}
use Rattle.ui_machine.specs.Seq.{total}
use Rattle.law_typing.specs.Graph.Tables.{greatest}
use Rattle.law_typing.specs.Laws.{IsIn}
use Rattle.law_typing.specs.Verdict.Accepted.{Each}

-- ** what a definition has

-- the names that lines are made of: of types, properties, signals, programs, methods and peers, and the ids of places
abbrev pub names : Definition → List (List ℕ)
names d =
    map (λ (t : GType). t.name) d.types
    ++ (flat_map (λ (c : Class). map (λ (s : Spec). s.name) c.specs ++ map (λ (s : Signal). s.name) c.signals) d.classes
    ++ (map (λ (p : Program). p.name) d.programs
    ++ (flat_map (λ (s : Shape). map (λ (m : Method). m.name) s.methods) d.shapes
    ++ flat_map (λ (p : Place). p.id ∷ p.peers) d.places)))

-- the nicks that a value of an enum is printed by
abbrev pub nicks : Definition → List (List ℕ)
nicks d = flat_map (λ (t : GType). map (λ (m : Member). m.nick) t.members) d.types

-- the kinds of the arguments of each signal and of each method
abbrev pub parameters : Definition → List (List Kind)
parameters d =
    flat_map (λ (c : Class). map (λ (s : Signal). s.params) c.signals) d.classes
    ++ flat_map (λ (s : Shape). map (λ (m : Method). m.params) s.methods) d.shapes

-- the length of the longest name
abbrev pub longest : List (List ℕ) → ℕ
longest = greatest (λ (name : List ℕ). length name)

-- the most arguments of a signal or a method
abbrev pub most_arguments : Definition → ℕ
most_arguments d = greatest (λ (kinds : List Kind). length kinds) (parameters d)

-- ** greatest lengths

-- the most bytes of a text as it is printed: six for each of its bytes, as a control character takes them, and two quotes
abbrev pub text_length : ℕ
text_length = 6 * most_bytes + 2

-- the most bytes of a value: of a text, or of the longest nick; a number or an identity has fewer
abbrev pub value_length : Definition → ℕ
value_length d = max text_length (longest (nicks d))

-- the most bytes of arguments, each with a comma
abbrev pub arguments_length : Definition → ℕ
arguments_length d = most_arguments d * suc (value_length d)

-- the most bytes of a detail
abbrev pub detail_length : ℕ
detail_length = 64

-- The most bytes of a line without its LF: two names, arguments and one value, and 188 for its words, its signs, its detail and
-- its two numbers. No number is printed with more than 64 digits; one below 2^64 has at most 20.
abbrev pub line_length : Definition → ℕ
line_length d = 188 + 2 * longest (names d) + arguments_length d + value_length d

-- ** lines of short parts

-- no longer than the longest name of the definition
abbrev pub IsLikeNameOf : Definition → List ℕ → Type 0
IsLikeNameOf d name = length name ≤ longest (names d)

-- short values, and no more than a signal or a method has arguments
abbrev pub AreArgumentsOf : Definition → List Value → Type 0
AreArgumentsOf d args = Each IsShort args × (length args ≤ most_arguments d)

-- what limits are told by
abbrev pub limit_words : List (List ℕ)
limit_words = codes "new" ∷ codes "adopt" ∷ codes "connect" ∷ codes "join" ∷ codes "idle" ∷ codes "timeout" ∷ []

-- a line whose names are no longer than those of the definition, whose values are short and no more than arguments may
-- be, and whose detail has 64 bytes at most
abbrev pub IsLikeLineOf : Definition → Line → Type 0
IsLikeLineOf d lines.build = ⊤
IsLikeLineOf d (lines.construct object class) = IsLikeNameOf d class
IsLikeLineOf d (lines.set object property value) = IsLikeNameOf d property × IsShort value
IsLikeLineOf d (lines.refused object property value) = IsLikeNameOf d property × IsShort value
IsLikeLineOf d (lines.notify object property) = IsLikeNameOf d property
IsLikeLineOf d (lines.emit object signal detail args) =
    IsLikeNameOf d signal × IfSome detail (λ (s : List ℕ). length s ≤ detail_length) × AreArgumentsOf d args
IsLikeLineOf d (lines.run program) = IsLikeNameOf d program
IsLikeLineOf d (lines.call peer method args answer) = IsLikeNameOf d peer × IsLikeNameOf d method × AreArgumentsOf d args × IsShort answer
IsLikeLineOf d (lines.fault peer method args) = IsLikeNameOf d peer × IsLikeNameOf d method × AreArgumentsOf d args
IsLikeLineOf d (lines.closed peer method args) = IsLikeNameOf d peer × IsLikeNameOf d method × AreArgumentsOf d args
IsLikeLineOf d (lines.limit word) = IsIn word limit_words
IsLikeLineOf d (lines.adopt parent child) = ⊤
IsLikeLineOf d (lines.orphan child) = ⊤
IsLikeLineOf d (lines.dispose object) = ⊤
IsLikeLineOf d (lines.close peer) = IsLikeNameOf d peer
IsLikeLineOf d (lines.final object) = ⊤
IsLikeLineOf d (lines.get object property value) = IsLikeNameOf d property × IsShort value
IsLikeLineOf d (lines.release id) = IsLikeNameOf d id
IsLikeLineOf d (lines.turn moment) = ⊤
IsLikeLineOf d (lines.result value) = IsShort value
IsLikeLineOf d (lines.end steps) = ⊤

-- ** the laws

-- each name of the definition is within its longest
abbrev pub NamesAreShort : Type 0
NamesAreShort = (d : Definition) (name : List ℕ) → IsIn name (names d) → IsLikeNameOf d name

-- a short value is printed by at most so many bytes
abbrev pub ValuesAreShort : Type 0
ValuesAreShort = (d : Definition) (v : Value) → IsShort v → length (text_of_value d.types v) ≤ value_length d

-- a line of such parts has at most so many bytes
abbrev pub LinesAreShort : Type 0
LinesAreShort = (d : Definition) (line : Line) → IsLikeLineOf d line → length (text_of_line d.types line) ≤ line_length d

-- the bytes of printed lines, each with its LF
abbrev pub bytes_of : List (List ℕ) → ℕ
bytes_of = total (λ (line : List ℕ). suc (length line))

-- so such lines have together at most the greatest length and an LF for each
abbrev pub BytesAreWithin : Type 0
BytesAreWithin =
    (d : Definition) (said : List Line) → Each (IsLikeLineOf d) said →
    bytes_of (map (text_of_line d.types) said) ≤ length said * suc (line_length d)

-- What a transcript grows by: lines of short parts, printed.
pub record GrowsBy (d : Definition) (said : List Line) (before after : List (List ℕ)) : Type 0 where
  pub grown : after ≡ before ++ map (text_of_line d.types) said
  pub short : Each (IsLikeLineOf d) said

-- so a transcript grows by at most the greatest length and an LF for each line that is new
abbrev pub GrowthIsWithin : Type 0
GrowthIsWithin =
    (d : Definition) (said : List Line) (before after : List (List ℕ)) → GrowsBy d said before after →
    bytes_of after ≤ bytes_of before + (length after - length before) * suc (line_length d)
