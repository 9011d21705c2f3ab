-- The rules of bindings (GObject manual, GBinding).
use Rattle.std.specs.Prelude.{ℕ, suc, Bool, true, false, cond, not, ◌&&◌, ◌||◌, List, [], ◌∷◌, ◌++◌, Option, None, Some}
use Rattle.std.specs.List.{list_any}
use Rattle.ui_machine.specs.Definition.Kinds.{Kind}
use Rattle.ui_machine.specs.Definition.Kinds as kinds
use Rattle.ui_machine.specs.Rules.Transform.{same_kind, is_transformable}
use Rattle.ui_machine.specs.Definition.Properties.{Spec, has_flags, is_readable, is_writable, is_construct_only}
use Rattle.ui_machine.specs.Definition.{Definition}
use Rattle.ui_machine.specs.Definition.Places.{Bind}
use Rattle.law_typing.specs.Graph.Channels.{same_channel, spec_at, is_pair, source_of, target_of}
use Rattle.law_typing.specs.Rules.Faults.{BindingWord, Fault, binding_rule, second_pair}
use Rattle.law_typing.specs.Rules.Faults as words

-- the word, unless the test holds; and then the next one
abbrev pub or_word : Bool → BindingWord → Option BindingWord → Option BindingWord
or_word true word next = next
or_word false word next = Some word

-- the first of two words that is there
abbrev pub first_word : Option BindingWord → Option BindingWord → Option BindingWord
first_word None other = other
first_word (Some word) other = Some word

-- whether two kinds may be bound with an inversion, or without
abbrev pub is_invertible : Bool → Kind → Kind → Bool
is_invertible inverts k l = not inverts || (same_kind k kinds.bool && same_kind l kinds.bool)

-- the first rule that a binding breaks in one direction
abbrev pub word_one_way : Definition → Bool → Spec → Spec → Option BindingWord
word_one_way d inverts source target =
    or_word (is_readable source) words.readable
    (or_word (is_writable target) words.writable
    (or_word (not (is_construct_only target)) words.construct_only
    (or_word (is_transformable d.types source.kind target.kind) words.kinds
    (or_word (is_invertible inverts source.kind target.kind) words.invert None))))

-- the first rule that is broken between two properties, both of which have to be there
abbrev pub word_between : Definition → Bool → Option Spec → Option Spec → Option BindingWord
word_between d inverts None target = Some words.readable
word_between d inverts (Some source) None = Some words.writable
word_between d inverts (Some source) (Some target) = word_one_way d inverts source target

-- the first rule that a binding breaks: two properties, all rules forwards, and where it goes both ways all rules backwards
abbrev pub word_of : Definition → Bind → Option BindingWord
word_of d b =
    or_word (not (same_channel (source_of b) (target_of b))) words.same
    (first_word (word_between d (has_flags 4 b.flags) (spec_at d b.source b.source_slot) (spec_at d b.target b.target_slot))
    (cond (is_pair b) (word_between d (has_flags 4 b.flags) (spec_at d b.target b.target_slot) (spec_at d b.source b.source_slot)) None))

-- the fault of a binding, if it breaks a rule
abbrev pub fault_of : ℕ → Option BindingWord → List Fault
fault_of binding None = []
fault_of binding (Some word) = binding_rule binding word ∷ []

-- of the bindings from this number on
abbrev pub faults_from : Definition → ℕ → List Bind → List Fault
faults_from d binding [] = []
faults_from d binding (b ∷ bindings) = fault_of binding (word_of d b) ++ faults_from d (suc binding) bindings

-- the bindings that break a rule, in document order
abbrev pub binding_faults : Definition → List Fault
binding_faults d = faults_from d 0 d.bindings

-- ** pairs

-- whether two bindings share an end
abbrev pub shares_end : Bind → Bind → Bool
shares_end a b =
    (same_channel (source_of a) (source_of b) || same_channel (source_of a) (target_of b))
    || (same_channel (target_of a) (source_of b) || same_channel (target_of a) (target_of b))

-- whether a binding makes a second pair, after these
abbrev pub is_second : List Bind → Bind → Bool
is_second earlier b = is_pair b && list_any (λ a. is_pair a && shares_end a b) earlier

-- of the bindings from this number on, after those before
abbrev pub second_from : List Bind → ℕ → List Bind → List Fault
second_from earlier binding [] = []
second_from earlier binding (b ∷ bindings) =
    cond (is_second earlier b) (second_pair binding ∷ []) [] ++ second_from (b ∷ earlier) (suc binding) bindings

-- the bindings that go both ways and have an end that an earlier one has, in document order
abbrev pub pair_faults : Definition → List Fault
pair_faults d = second_from [] 0 d.bindings
