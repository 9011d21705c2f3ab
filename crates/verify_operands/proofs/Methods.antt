-- The methods that objects of a class are called with.
use Rattle.std.proofs.Common.{◌≡◌, refl, ap, sym, ◌∙◌, ℕ, List, [], Option, None, Some, Ok, option_map, slice_get}
use Rattle.ui_machine.specs.Definition.{Definition}
use Rattle.ui_machine.specs.Definition.Names.{place_named}
use Rattle.ui_machine.specs.Definition.Signals.{Method, Shape}
use Rattle.ui_machine.specs.Outcome.{◌>>=◌, known}
use Rattle.ui_machine.specs.Rules.Construction.{nearest_shape}
use Rattle.law_typing.specs.Rules.Answers as rules
use Rattle.law_typing.specs.Rules.Typing.{method_named, methods_for, methods_of}
use Rattle.verify_operands.specs.Methods.{method_called}

-- where the class has no shape, there is none
pub no_shape : (d : Definition) (class : ℕ) (name : List ℕ) → nearest_shape d class ≡ None → known rules.unknown None ≡ method_called d class name
unfolding methods_for
no_shape d class name none =
    ap (λ shape. (known rules.unknown shape >>= λ n. Ok (methods_of (slice_get d.shapes n))) >>= λ methods. method_named methods name) (sym none)

-- the methods of a shape, if it is there
abbrev pub methods_there : Option (List Method) → List Method
methods_there None = []
methods_there (Some methods) = methods

there : (o : Option Shape) → methods_of o ≡ methods_there (option_map (λ (s : Shape). s.methods) o)
there None = refl
there (Some s) = refl

-- the method is one of the class's shape
of_shape : (d : Definition) (class n : ℕ) (name : List ℕ) (methods : Option (List Method)) → nearest_shape d class ≡ Some n →
    methods ≡ option_map (λ (s : Shape). s.methods) (slice_get d.shapes n) → method_called d class name ≡ method_named (methods_there methods) name
unfolding methods_for
of_shape d class n name methods near same =
    ap (λ shape. (known rules.unknown shape >>= λ number. Ok (methods_of (slice_get d.shapes number))) >>= λ ms. method_named ms name) near
    ∙ ap (λ ms. method_named ms name) (there (slice_get d.shapes n) ∙ ap methods_there (sym same))

-- where the shape is not there, there is none
pub no_methods : (d : Definition) (class n : ℕ) (name : List ℕ) → nearest_shape d class ≡ Some n →
    None ≡ option_map (λ (s : Shape). s.methods) (slice_get d.shapes n) → known rules.unknown None ≡ method_called d class name
unfolding method_named
no_methods d class n name near none = sym (of_shape d class n name None near none)

-- where no method of the shape has the name, there is none
pub no_method : (d : Definition) (class n : ℕ) (name : List ℕ) (methods : List Method) → nearest_shape d class ≡ Some n →
    Some methods ≡ option_map (λ (s : Shape). s.methods) (slice_get d.shapes n) → None ≡ place_named (λ (m : Method). m.name) methods name →
    known rules.unknown None ≡ method_called d class name
unfolding method_named
no_method d class n name methods near same none =
    sym (of_shape d class n name (Some methods) near same
    ∙ ap (λ number. known rules.unknown number >>= λ k. known rules.unknown (slice_get methods k)) (sym none))

-- and else it is the one of that number
pub of_number : (d : Definition) (class n k : ℕ) (name : List ℕ) (methods : List Method) (m : Option Method) → nearest_shape d class ≡ Some n →
    Some methods ≡ option_map (λ (s : Shape). s.methods) (slice_get d.shapes n) → Some k ≡ place_named (λ (m : Method). m.name) methods name →
    m ≡ slice_get methods k → known rules.unknown m ≡ method_called d class name
unfolding method_named
of_number d class n k name methods m near same found is =
    ap (known rules.unknown) is
    ∙ sym (of_shape d class n name (Some methods) near same
    ∙ ap (λ number. known rules.unknown number >>= λ j. known rules.unknown (slice_get methods j)) (sym found))
