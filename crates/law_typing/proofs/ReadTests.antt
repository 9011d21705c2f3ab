-- Tests of whether a definition is well read. They compute, so that each worked definition is found to be.
use Rattle.std.specs.Prelude.{ℕ, ◌^◌, Bool, true, false, cond, not, ◌&&◌, nat_eq, nat_lt, nat_le, List, [], ◌∷◌, length, map, codes, Option, None, Some, slice_get, is_none}
use Rattle.std.specs.List.{list_all, flat_map}
use Rattle.ui_machine.specs.Definition.Names.{same_name, canonical, place_named}
use Rattle.ui_machine.specs.Rules.Programs.{is_number}
use Rattle.ui_machine.specs.Definition.Kinds.{Kind, RegisterKind}
use Rattle.ui_machine.specs.Definition.Kinds as kinds
use Rattle.ui_machine.specs.Definition.Types as sorts
use Rattle.ui_machine.specs.Definition.Types.{Sort, GType}
use Rattle.ui_machine.specs.Rules.Transform.{same_kind, kind_fits}
use Rattle.ui_machine.specs.Rules.Ancestry.{is_a, lineage, implemented_by}
use Rattle.ui_machine.specs.Rules.Validation.{is_valid}
use Rattle.ui_machine.specs.Definition.Properties.{Spec, is_writable, is_construct, is_construct_only}
use Rattle.ui_machine.specs.Definition.{Definition, Class}
use Rattle.ui_machine.specs.Definition.Signals.{Signal, Shape, Method}
use Rattle.ui_machine.specs.Definition.Programs.{Instruction, Block, Program}
use Rattle.ui_machine.specs.Definition.Places.{Given, value, named, GivenProperty, Attached, Place, Bind}
use Rattle.ui_machine.specs.Definition.Programs as words
use Rattle.ui_machine.specs.Definition.Lookups.{type_of, spec_of, place_at}
use Rattle.ui_machine.specs.Rules.EmissionPlan.{signal_of}
use Rattle.ui_machine.specs.Rules.Construction.{is_forward, nearest_shape, has_shape}
use Rattle.law_typing.specs.Rules.RegisterKinds.{Kinds}
use Rattle.law_typing.specs.Rules.Brackets.{written, is_empty}
use Rattle.law_typing.specs.Graph.{next_of}
use Rattle.law_typing.specs.Verdict.Inherits.{inherits}
use Rattle.law_typing.specs.Laws.WellRead.{has_few_bits, no_class_of, no_two, is_range, has_values, result_has_values, ends, is_jump, is_set, is_plain, objects_of}
use Rattle.law_typing.proofs.Numbered.{all_from}

-- b holds wherever a does
abbrev pub implies : Bool → Bool → Bool
implies a b = cond a b true

-- ** types

abbrev pub is_class : Sort → Bool
is_class sorts.class = true
is_class _ = false

abbrev pub is_below : Option ℕ → ℕ → Bool
is_below None n = true
is_below (Some m) n = nat_lt m n

-- what a type is: its ancestors, and what they implement
abbrev pub above : List GType → ℕ → List ℕ
above types t = flat_map (λ s. s ∷ implemented_by types s) (lineage types t)

abbrev pub is_transitive_at : List GType → ℕ → Bool
is_transitive_at types a = list_all (λ b. list_all (is_a types a) (above types b)) (above types a)

-- a shape, if there is one, is the other
abbrev pub is_shape : Option ℕ → Option ℕ → Bool
is_shape None own = true
is_shape (Some shape) None = false
is_shape (Some shape) (Some own) = nat_eq shape own

abbrev pub keeps_shapes_at : Definition → ℕ → Bool
keeps_shapes_at d class = list_all (λ t. is_shape (nearest_shape d t) (nearest_shape d class)) (above d.types class)

abbrev pub is_notify : Option Signal → Bool
is_notify None = false
is_notify (Some s) = same_name s.name (codes "notify") && (nat_eq s.flags 17 && (is_empty s.params && is_none s.result))

abbrev pub is_spec_read : Definition → Spec → Bool
is_spec_read d s =
    is_valid no_class_of d.types s s.default
    && (implies (is_construct s) (is_writable s)
    && (implies (is_construct_only s) (is_writable s)
    && (is_range s.kind s.low s.high
    && (nat_lt s.flags (2 ^ 32)
    && has_values d s.kind))))

abbrev pub has_notify_at : Definition → ℕ → Bool
has_notify_at d class = implies (is_class (type_of d class).sort) (is_notify (signal_of d class 0))

-- whether `notify` is the first of the signals, if there are any
abbrev pub begins_with_notify : List Signal → Bool
begins_with_notify [] = true
begins_with_notify (s ∷ signals) = is_notify (Some s)

-- whether the name of each signal of a class finds it
abbrev pub finds_signals : Class → Bool
finds_signals c = all_from (λ n (s : Signal). is_number n (place_named (λ (s : Signal). s.name) c.signals (canonical s.name))) 0 c.signals

abbrev pub are_types_read : Definition → Bool
are_types_read d =
    all_from (λ t (c : Class). finds_signals c) 0 d.classes
    && (list_all (λ (t : GType). list_all has_few_bits t.members) d.types
    && (list_all (λ (s : Shape). list_all (λ (m : Method). has_values d m.result) s.methods) d.shapes
    && (all_from (λ t (x : GType). keeps_shapes_at d t) 0 d.types
    && (nat_eq (length d.classes) (length d.types)
    && (all_from (λ t (x : GType). is_below x.parent t) 0 d.types
    && (all_from (λ t (x : GType). is_transitive_at d.types t) 0 d.types
    && (inherits d
    && (all_from (λ t (x : GType). has_notify_at d t) 0 d.types
    && (all_from (λ t (c : Class). list_all (is_spec_read d) c.specs) 0 d.classes
    && (list_all (λ (c : Class). no_two same_name (map (λ (s : Spec). s.name) c.specs)) d.classes
    && (list_all (λ (c : Class). list_all (result_has_values d) c.signals) d.classes
    && all_from (λ t (c : Class). begins_with_notify c.signals) 0 d.classes)))))))))))

-- ** programs

abbrev pub same_register_kind : RegisterKind → RegisterKind → Bool
same_register_kind kinds.unset kinds.unset = true
same_register_kind (kinds.plain k) (kinds.plain l) = same_kind k l
same_register_kind (kinds.some t) (kinds.some u) = nat_eq t u
same_register_kind (kinds.at p) (kinds.at q) = nat_eq p q
same_register_kind (kinds.at_or_null p) (kinds.at_or_null q) = nat_eq p q
same_register_kind k l = false

-- whether the kinds begin with these, and the others are unset
abbrev pub begins_with : Kinds → Kinds → Bool
begins_with [] ks = list_all (same_register_kind kinds.unset) ks
begins_with (p ∷ params) [] = false
begins_with (p ∷ params) (k ∷ ks) = same_register_kind p k && begins_with params ks

abbrev pub is_ended : List Instruction → Bool
is_ended [] = false
is_ended (i ∷ []) = ends i
is_ended (i ∷ j ∷ rest) = not (ends i) && is_ended (j ∷ rest)

abbrev pub is_ended_by_jump : List Instruction → Bool
is_ended_by_jump [] = false
is_ended_by_jump (i ∷ []) = is_jump i
is_ended_by_jump (i ∷ j ∷ rest) = is_ended_by_jump (j ∷ rest)

abbrev pub is_repeat_read : Option ℕ → List Instruction → Bool
is_repeat_read None code = true
is_repeat_read (Some n) code = nat_lt 0 n && (nat_le n 65_535 && is_ended_by_jump code)

abbrev pub is_constant_fit : Definition → Instruction → Bool
is_constant_fit d (words.const to kind v) = kind_fits no_class_of d.types v kind
is_constant_fit d (words.convert to a kind) = has_values d kind
is_constant_fit d i = true

abbrev pub is_within : ℕ → Option ℕ → Bool
is_within registers None = true
is_within registers (Some r) = nat_lt r registers

abbrev pub is_block_read : Definition → Program → ℕ → Block → Bool
is_block_read d p number b =
    nat_eq (length b.entry) p.registers
    && (is_repeat_read b.repeat b.code
    && (is_ended b.code
    && (list_all (is_constant_fit d) b.code
    && (list_all (λ i. is_within p.registers (written i)) b.code
    && list_all (λ i. list_all (λ to. nat_lt number to && nat_lt to (length p.blocks)) (next_of i)) b.code))))

abbrev pub begins_first : Kinds → Option Block → Bool
begins_first params None = false
begins_first params (Some b) = begins_with params b.entry

abbrev pub is_program_read : Definition → Program → Bool
is_program_read d p =
    nat_le (length p.params) p.registers
    && (begins_first p.params (slice_get p.blocks 0) && (all_from (is_block_read d p) 0 p.blocks && list_all is_set p.params))

-- ** places

abbrev pub is_object_if : Option Place → Bool
is_object_if None = false
is_object_if (Some p) = not p.is_prototype

abbrev pub is_place_of : Definition → ℕ → Option Place → Bool
is_place_of d type None = false
is_place_of d type (Some p) = not p.is_prototype && is_a d.types p.class type

abbrev pub is_given_fit : Definition → Kind → Given → Bool
is_given_fit d kind (value v) = kind_fits no_class_of d.types v kind
is_given_fit d (kinds.object type) (named to) = is_place_of d type (place_at d to)
is_given_fit d kind (named to) = false

abbrev pub is_given_to : Definition → ℕ → Given → Option Spec → Bool
is_given_to d place g None = false
is_given_to d place g (Some s) = is_writable s && (is_given_fit d s.kind g && implies (is_forward place g) (not (is_construct_only s)))

abbrev pub is_given_read : Definition → ℕ → Place → GivenProperty → Bool
is_given_read d place p g = is_given_to d place g.given (spec_of d p.class g.slot)

abbrev pub is_parent_read : Definition → ℕ → Option ℕ → Bool
is_parent_read d place None = true
is_parent_read d place (Some above) = nat_lt above place && is_object_if (place_at d above)

abbrev pub is_data_read : Definition → Option ℕ → Bool
is_data_read d None = true
is_data_read d (Some place) = is_object_if (place_at d place)

abbrev pub is_place_read : Definition → ℕ → Place → Bool
is_place_read d place p =
    nat_lt p.class (length d.types)
    && (is_class (type_of d p.class).sort
    && (not (type_of d p.class).is_abstract
    && (is_parent_read d place p.parent
    && (list_all (is_given_read d place p) p.given
    && (no_two nat_eq (map (λ (g : GivenProperty). g.slot) p.given)
    && (implies p.is_prototype (list_all is_plain p.given)
    && (implies p.is_prototype (is_empty p.signals)
    && (implies (not p.is_prototype) (nat_eq (length p.peers) (cond (has_shape d p.class) 1 0))
    && list_all (λ (a : Attached). is_data_read d a.with) p.signals))))))))

-- ** the whole

abbrev pub is_in_order : List Place → Bool
is_in_order places =
    all_from (λ a (p : Place). all_from (λ b (q : Place). implies p.is_prototype (implies (not q.is_prototype) (nat_lt b a))) 0 places) 0 places

abbrev pub is_well_read : Definition → Bool
is_well_read d =
    are_types_read d
    && (all_from (λ n (p : Program). is_program_read d p) 0 d.programs
    && (all_from (is_place_read d) 0 d.places
    && (is_in_order d.places
    && (no_two same_name (flat_map (λ (p : Place). p.peers) d.places)
    && (list_all (λ (b : Bind). is_object_if (place_at d b.source) && is_object_if (place_at d b.target)) d.bindings
    && (nat_le (objects_of d) d.most_objects
    && (nat_le d.most_objects 4096
    && nat_le d.most_handlers 16)))))))
