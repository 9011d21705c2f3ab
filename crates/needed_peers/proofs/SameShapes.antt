-- Shapes that the test of sameness finds one are equal.
use Rattle.std.proofs.Common.{◌≡◌, refl, ap, ◌∙◌, true, ◌&&◌, List, [], ◌∷◌, Option, None, Some}
use Rattle.ui_machine.specs.Definition.Kinds.{Kind}
use Rattle.ui_machine.specs.Definition.Names.{same_name}
use Rattle.ui_machine.specs.Definition.Signals.{Method}
use Rattle.ui_machine.specs.Rules.Transform.{same_kind}
use Rattle.law_typing.proofs.Lists.{both_parts}
use Rattle.law_static.proofs.Same.{kind_same, names_same}
use Rattle.law_peers.specs.Needs.{is_shaped, same_kinds, same_method, same_shape}

kinds_equal : (ks ls : List Kind) → same_kinds ks ls ≡ true → ks ≡ ls
kinds_equal [] [] same = refl
kinds_equal [] (l ∷ ls) same = absurd (cc same)
kinds_equal (k ∷ ks) [] same = absurd (cc same)
kinds_equal (k ∷ ks) (l ∷ ls) same =
    let both = both_parts (same_kind k l) (same_kinds ks ls) same in
    ap (λ x. x ∷ ks) (kind_same k l both.0) ∙ ap (λ xs. l ∷ xs) (kinds_equal ks ls both.1)

methods_equal : (m n : Method) → same_method m n ≡ true → m ≡ n
methods_equal m n same =
    let name = both_parts (same_name m.name n.name) (same_kinds m.params n.params && same_kind m.result n.result) same in
    let rest = both_parts (same_kinds m.params n.params) (same_kind m.result n.result) name.1 in
    ap (λ x. record m { name = x }) (names_same m.name n.name name.0)
    ∙ ap (λ x. record n { params = x; result = m.result }) (kinds_equal m.params n.params rest.0)
    ∙ ap (λ x. record n { result = x }) (kind_same m.result n.result rest.1)

-- so are shapes
pub shapes_equal : (ms ns : List Method) → same_shape ms ns ≡ true → ms ≡ ns
shapes_equal [] [] same = refl
shapes_equal [] (n ∷ ns) same = absurd (cc same)
shapes_equal (m ∷ ms) [] same = absurd (cc same)
shapes_equal (m ∷ ms) (n ∷ ns) same =
    let both = both_parts (same_method m n) (same_shape ms ns) same in
    ap (λ x. x ∷ ms) (methods_equal m n both.0) ∙ ap (λ xs. n ∷ xs) (shapes_equal ms ns both.1)

-- a peer of the shape that is needed has just the methods that are needed
pub needed_equal : (methods : Option (List Method)) (own : List Method) → is_shaped methods own ≡ true → methods ≡ Some own
needed_equal None own shaped = absurd (cc shaped)
needed_equal (Some methods) own shaped = ap (λ x. Some x) (shapes_equal methods own shaped)
