use Rattle.std.proofs.Common.{◌≡◌, ◌++◌, drop, length, string_bytes}
use Rattle.std.specs.Str.{chars}
use Rattle.read_parts.proofs.Escapes.{spelled}
use Rattle.read_parts.proofs.document.escaped.Given as goal

abbrev pub invariant-loop-c : goal.invariant-loop-c
invariant-loop-c l = string_bytes l.out ++ spelled (drop (length l.yielded) (chars l.key)) ≡ spelled (chars l.key)
