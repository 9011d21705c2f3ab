use Rattle.std.proofs.Common.{◌≡◌, pos, ap, arith}
use Rattle.std.specs.Int.{cast_signed, cast_unsigned, w128}
use Rattle.std.proofs.lemmas.Int.{ints}
use Rattle.ui_machine.specs.Definition.Kinds.{int, uint, int64, uint64}
use Rattle.g_values.specs.View.{kind_view, value_view}
use Rattle.g_values.proofs.Wholes.{whole_becomes}
use Rattle.g_values.proofs.transforming.convert.Goals as goal

pub returns-in-Int : goal.returns-in-Int
returns-in-Int c =
    let same : (cast_signed w128 (cast_unsigned w128 c.from.result)) ≡ c.in-Int.n = omega (arith, ints) in
    whole_becomes c.from_number.result c.args.tree.now (kind_view c.args.kind) int (cast_signed w128 (cast_unsigned w128 c.from.result)) c.in-Int.n (value_view c.args.value.now) (ap value_view c.in-Int.is) same (c.from_number.ensures int)

pub returns-in-UInt : goal.returns-in-UInt
returns-in-UInt c =
    let same : (cast_signed w128 (cast_unsigned w128 c.from-in-UInt.result)) ≡ (pos c.in-UInt.n) = omega (arith, ints) in
    whole_becomes c.from_number-in-UInt.result c.args.tree.now (kind_view c.args.kind) uint (cast_signed w128 (cast_unsigned w128 c.from-in-UInt.result)) (pos c.in-UInt.n) (value_view c.args.value.now) (ap value_view c.in-UInt.is) same (c.from_number-in-UInt.ensures uint)

pub returns-in-Int64 : goal.returns-in-Int64
returns-in-Int64 c =
    let same : (cast_signed w128 (cast_unsigned w128 c.from-in-Int64.result)) ≡ c.in-Int64.n = omega (arith, ints) in
    whole_becomes c.from_number-in-Int64.result c.args.tree.now (kind_view c.args.kind) int64 (cast_signed w128 (cast_unsigned w128 c.from-in-Int64.result)) c.in-Int64.n (value_view c.args.value.now) (ap value_view c.in-Int64.is) same (c.from_number-in-Int64.ensures int64)

pub returns-in-UInt64 : goal.returns-in-UInt64
returns-in-UInt64 c =
    let same : (cast_signed w128 (cast_unsigned w128 c.from-in-UInt64.result)) ≡ (pos c.in-UInt64.n) = omega (arith, ints) in
    whole_becomes c.from_number-in-UInt64.result c.args.tree.now (kind_view c.args.kind) uint64 (cast_signed w128 (cast_unsigned w128 c.from-in-UInt64.result)) (pos c.in-UInt64.n) (value_view c.args.value.now) (ap value_view c.in-UInt64.is) same (c.from_number-in-UInt64.ensures uint64)
