-- The bits of all members of a flags type.
use Rattle.std.proofs.Common.{◌≡◌, ◌∙◌, ℕ, ◌+◌, suc, ◌<◌, ◌≤◌, bit_or, List, ◌∷◌, length, map, drop, get_or, sym, ap, arith, add-one}
use Rattle.std.proofs.Math.Seq.{drop-cons}
use Rattle.std.proofs.lemmas.List.{drop_all}
use Rattle.std.proofs.lemmas.Nat.{or_comm}
use Rattle.std.proofs.lemmas.Nat.Bits.{same_from_bits, bit_at_or}
use Rattle.ui_machine.specs.Rules.Transform.{known_bits}
use Rattle.type_tree.specs.declared.member.FlagsMember.{FlagsMember}
use Rattle.type_tree.specs.Entry.{flags_member}

or_assoc : (a b c : ℕ) → bit_or (bit_or a b) c ≡ bit_or a (bit_or b c)
or_assoc a b c =
    same_from_bits _ _ (λ i. omega (arith, bit_at_or (bit_or a b) c i, bit_at_or a b i, bit_at_or a (bit_or b c) i, bit_at_or b c i))

pub bits_more : (members : List FlagsMember) (i bits : ℕ) (m : FlagsMember) → i < length members → m ≡ get_or members i m
    → bit_or (bit_or bits m.bits) (known_bits (map flags_member (drop (i + 1) members))) ≡ bit_or bits (known_bits (map flags_member (drop i members)))
bits_more members i bits m small is =
    or_assoc bits m.bits _
    ∙ ap (λ (rest : List FlagsMember). bit_or bits (bit_or m.bits (known_bits (map flags_member rest)))) (ap (λ k. drop k members) (add-one i))
    ∙ ap (λ (l : List FlagsMember). bit_or bits (known_bits (map flags_member l))) (sym (drop-cons members i m small ∙ ap (λ x. x ∷ drop (suc i) members) (sym is)))

pub no_more : (members : List FlagsMember) (i bits : ℕ) → length members ≤ i
    → bit_or bits (known_bits (map flags_member (drop i members))) ≡ bits
no_more members i bits all =
    ap (λ (rest : List FlagsMember). bit_or bits (known_bits (map flags_member rest))) (drop_all i members all) ∙ or_comm bits 0
