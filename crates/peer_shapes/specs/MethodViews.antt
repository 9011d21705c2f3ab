-- Which method of the machine a method is, and which kinds it may have.
use Rattle.std.specs.Prelude.{Bool, true, false, ◌&&◌, List, String, map, string_bytes}
use Rattle.std.specs.Global.{Global}
use Rattle.std.specs.List.{list_all}
use Rattle.ui_machine.specs.Definition.Kinds as kinds
use Rattle.ui_machine.specs.Definition.Signals as machine
use Rattle.g_values.specs.View.{kind_view}
use Rattle.peer_shapes.specs.declared.methods.Method.{Method}
use Rattle.peer_shapes.specs.declared.methods.MethodRef.{MethodRef}
use Rattle.peer_shapes.specs.declared.methods.Signature.{Signature}

abbrev pub method_view : Method → machine.Method
method_view m = record { name = string_bytes m.name; params = map kind_view m.params.items; result = kind_view m.result }

-- a method that is lent
abbrev pub lent_view : MethodRef → machine.Method
lent_view m = record { name = m.name.now; params = map kind_view m.params.now; result = kind_view m.result }

-- the method of a name and what is under it
abbrev pub signed : String Global × Signature → machine.Method
signed e = record { name = string_bytes e.0; params = map kind_view e.1.params.items; result = kind_view e.1.result }

-- whether a kind is one of truth values, whole numbers or texts
abbrev pub is_plain : kinds.Kind → Bool
is_plain kinds.bool = true
is_plain (kinds.whole w) = true
is_plain kinds.text = true
is_plain _ = false

-- whether all kinds of a method are plain
abbrev pub is_plain_method : machine.Method → Bool
is_plain_method m = list_all is_plain m.params && is_plain m.result

-- whether all kinds of a shape are plain
abbrev pub is_plain_shape : List machine.Method → Bool
is_plain_shape methods = list_all is_plain_method methods
