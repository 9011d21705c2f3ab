-- What a program is given as it runs for a signal or a source, and whether it takes it.
use Rattle.std.specs.Prelude.{ℕ, Bool, true, false, cond, nat_eq, ◌&&◌, List, [], ◌∷◌, ◌++◌, map, Option, None, Some, is_some}
use Rattle.ui_machine.specs.Definition.Kinds.{Kind, RegisterKind}
use Rattle.ui_machine.specs.Definition.Kinds as kinds
use Rattle.ui_machine.specs.Definition.Properties.{has_flags}
use Rattle.ui_machine.specs.Definition.{Definition}
use Rattle.ui_machine.specs.Definition.Signals.{Signal}
use Rattle.ui_machine.specs.Definition.Programs.{Program}
use Rattle.ui_machine.specs.Definition.Lookups.{slot_of}
use Rattle.law_typing.specs.Rules.RegisterKinds.{Kinds, fits}

-- each thing given fits the parameter in its place, and there are as many
abbrev pub parameters_fit : Definition → Kinds → Kinds → Bool
parameters_fit d [] [] = true
parameters_fit d [] (p ∷ ps) = false
parameters_fit d (k ∷ ks) [] = false
parameters_fit d (k ∷ ks) (p ∷ ps) = fits d k p && parameters_fit d ks ps

-- both give nothing, or what the program gives fits
abbrev pub result_fits : Definition → Option Kind → Option Kind → Bool
result_fits d None None = true
result_fits d None (Some wanted) = false
result_fits d (Some kind) None = false
result_fits d (Some kind) (Some wanted) = fits d (kinds.plain kind) (kinds.plain wanted)

-- whether a program takes what it is given, and gives what is wanted
abbrev pub takes : Definition → Program → Kinds → Option Kind → Bool
takes d p given wanted = parameters_fit d given p.params && result_fits d p.result wanted

-- whether a program that has to be there takes what it is given, and gives what is wanted
abbrev pub is_taken_by : Definition → Option Program → Kinds → Option Kind → Bool
is_taken_by d None given wanted = false
is_taken_by d (Some p) given wanted = takes d p given wanted

-- the data of a handler or source, if it has some
abbrev pub data_kinds : Option RegisterKind → Kinds
data_kinds None = []
data_kinds (Some k) = k ∷ []

-- what a handler is given: the instance, the arguments and its data; swapped, the data, the arguments and the instance
abbrev pub given_kinds : Bool → RegisterKind → List Kind → Option RegisterKind → Kinds
given_kinds swapped instance params data_kind =
    cond swapped
    (data_kinds data_kind ++ (map kinds.plain params ++ instance ∷ []))
    (instance ∷ (map kinds.plain params ++ data_kinds data_kind))

-- whether a signal may be listened to with a detail: for `notify`, number 0, it names a property, and else the signal has to be detailed
abbrev pub takes_detail : Definition → (class number : ℕ) → Signal → Option (List ℕ) → Bool
takes_detail d class number s None = true
takes_detail d class number s (Some detail) = cond (nat_eq number 0) (is_some (slot_of d class detail)) (has_flags 16 s.flags)
