-- What the methods of a definition's shapes answer has values: their kinds name no type.
use Rattle.std.proofs.Common.{◌≡◌, ℕ, Bool, true, false, List, [], ◌∷◌, ◌++◌, Option, None, Some, option_and_then, Ok, codes, refl, ap, ◌∙◌}
use Rattle.std.specs.Prelude.{◌&&◌, if◌then◌else◌, is_some}
use Rattle.std.specs.List.{list_all}
use Rattle.std.specs.Str.{bytes_eq}
use Rattle.std.proofs.lemmas.List.Folds.{list_all-append}
use Rattle.serde_json.specs.Data.{Data}
use Rattle.serde_json.specs.Find.{get, as_array, as_str}
use Rattle.ui_machine.specs.Definition.{Definition}
use Rattle.ui_machine.specs.Definition.Kinds.{Kind}
use Rattle.ui_machine.specs.Definition.Kinds as kinds
use Rattle.ui_machine.specs.Definition.Signals.{Method, Shape}
use Rattle.definition_format.specs.Refusals.{Refusal, shape, or_refused}
use Rattle.definition_format.specs.Document.{at_entry, entries_at, members_at, nth, only_at, text_at, under}
use Rattle.definition_format.specs.Denoted.Kinds.{kind_named}
use Rattle.definition_format.specs.Denoted.Names.{unless_taken}
use Rattle.definition_format.specs.Denoted.Shapes.{has_method, keys_of_method, keys_of_shape, method_at, method_in, methods_at, plain_kind_at, plain_params_at, shape_at, shape_in, shape_number, shapes_in}
use Rattle.definition_format.proofs.Soundness.{OnRead, on_bind, on_all, on_each}
use Rattle.law_typing.specs.Laws.WellRead.{has_values}

-- a kind has values whatever the types are
abbrev pub HasValues : Kind → Type 0
HasValues k = (d : Definition) → has_values d k ≡ true

abbrev pub has_results : Definition → List Method → Bool
has_results d methods = list_all (λ (m : Method). has_values d m.result) methods

abbrev pub HaveResults : List Method → Type 0
HaveResults methods = (d : Definition) → has_results d methods ≡ true

abbrev pub HaveReplies : List Shape → Type 0
HaveReplies shapes = (d : Definition) → list_all (λ (s : Shape). has_results d s.methods) shapes ≡ true

both : (a b : Bool) → a ≡ true → b ≡ true → (a && (b && true)) ≡ true
both a b p q = ap (λ x. x && (b && true)) p ∙ ap (λ x. x && true) q

-- ** kinds

one_of : (r : Refusal) (b : Bool) (k : Kind) (rest : Option Kind) → HasValues k → OnRead HasValues (or_refused r rest)
    → OnRead HasValues (or_refused r (if b then Some k else rest))
one_of r true k rest has others = has
one_of r false k rest has others = others

named : (r : Refusal) (word : List ℕ) → OnRead HasValues (or_refused r (kind_named word))
named r word =
    one_of r (bytes_eq word (codes "bool")) kinds.bool _ (λ d. refl) (
    one_of r (bytes_eq word (codes "int")) (kinds.whole kinds.int) _ (λ d. refl) (
    one_of r (bytes_eq word (codes "uint")) (kinds.whole kinds.uint) _ (λ d. refl) (
    one_of r (bytes_eq word (codes "int64")) (kinds.whole kinds.int64) _ (λ d. refl) (
    one_of r (bytes_eq word (codes "uint64")) (kinds.whole kinds.uint64) _ (λ d. refl) (
    one_of r (bytes_eq word (codes "text")) kinds.text None (λ d. refl) tt)))))

plain_kind : (path : List ℕ) (d : Option Data) → OnRead HasValues (plain_kind_at path d)
plain_kind path d = by (option_and_then as_str d)
  where
    by : (o : Option (List ℕ)) → OnRead HasValues (or_refused (shape path) (option_and_then kind_named o))
    by None = tt
    by (Some word) = named (shape path) word

-- ** methods

method_read : (path : List ℕ) (methods : List Method) (d : Data) → OnRead (λ (m : Method). HasValues m.result) (method_in path methods d)
unfolding method_in
method_read path methods d =
    on_bind (λ x. Unit {0}) (λ (m : Method). HasValues m.result) (members_at path d) _ (on_all _) λ ms u.
    on_bind (λ x. Unit {0}) (λ (m : Method). HasValues m.result) (text_at path d (codes "name")) _ (on_all _) λ name u.
    on_bind (λ x. Unit {0}) (λ (m : Method). HasValues m.result) (unless_taken (under path (codes "name")) name (has_method methods name)) _ (on_all _) λ new u.
    on_bind (λ x. Unit {0}) (λ (m : Method). HasValues m.result) (plain_params_at path d) _ (on_all _) λ params u.
    on_bind HasValues (λ (m : Method). HasValues m.result) (plain_kind_at (under path (codes "result")) (get (codes "result") d)) _
    (plain_kind (under path (codes "result")) (get (codes "result") d)) λ result has.
    on_bind (λ x. Unit {0}) (λ (m : Method). HasValues m.result) (only_at path ms keys_of_method) _ (on_all _) λ only u. has

more_results : (methods : List Method) (m : Method) → HaveResults methods → HasValues m.result → HaveResults (methods ++ m ∷ [])
more_results methods m old new d =
    list_all-append (λ (x : Method). has_values d x.result) methods (m ∷ []) ∙ both (has_results d methods) (has_values d m.result) (old d) (new d)

one_method : (path : List ℕ) (methods : List Method) (d : Data) → HaveResults methods → OnRead HaveResults (method_at path methods d)
unfolding method_at
one_method path methods d old =
    on_bind (λ (m : Method). HasValues m.result) HaveResults (method_in path methods d) (λ m. Ok (methods ++ m ∷ [])) (method_read path methods d)
    λ m new. more_results methods m old new

all_methods : (path : List ℕ) (d : Data) → OnRead HaveResults (methods_at path d)
unfolding methods_at
all_methods path d =
    on_bind (λ x. Unit {0}) HaveResults (or_refused (shape (under path (codes "methods"))) (option_and_then as_array (get (codes "methods") d))) _ (on_all _)
    λ list u.
    on_each HaveResults (at_entry method_at (under path (codes "methods")))
    (λ i methods e old. one_method (nth (under path (codes "methods")) i) methods e old) 0 [] list (λ d. refl)

-- ** shapes

shape_read : (path : List ℕ) (shapes : List Shape) (d : Data) → OnRead (λ (s : Shape). HaveResults s.methods) (shape_in path shapes d)
unfolding shape_in
shape_read path shapes d =
    on_bind (λ x. Unit {0}) (λ (s : Shape). HaveResults s.methods) (members_at path d) _ (on_all _) λ ms u.
    on_bind (λ x. Unit {0}) (λ (s : Shape). HaveResults s.methods) (text_at path d (codes "name")) _ (on_all _) λ name u.
    on_bind (λ x. Unit {0}) (λ (s : Shape). HaveResults s.methods) (unless_taken (under path (codes "name")) name (is_some (shape_number shapes name))) _ (on_all _)
    λ new u.
    on_bind HaveResults (λ (s : Shape). HaveResults s.methods) (methods_at path d) _ (all_methods path d) λ methods has.
    on_bind (λ x. Unit {0}) (λ (s : Shape). HaveResults s.methods) (only_at path ms keys_of_shape) _ (on_all _) λ only u. has

more_replies : (shapes : List Shape) (s : Shape) → HaveReplies shapes → HaveResults s.methods → HaveReplies (shapes ++ s ∷ [])
more_replies shapes s old new d =
    list_all-append (λ (x : Shape). has_results d x.methods) shapes (s ∷ [])
    ∙ both (list_all (λ (x : Shape). has_results d x.methods) shapes) (has_results d s.methods) (old d) (new d)

one_shape : (path : List ℕ) (shapes : List Shape) (d : Data) → HaveReplies shapes → OnRead HaveReplies (shape_at path shapes d)
unfolding shape_at
one_shape path shapes d old =
    on_bind (λ (s : Shape). HaveResults s.methods) HaveReplies (shape_in path shapes d) (λ s. Ok (shapes ++ s ∷ [])) (shape_read path shapes d)
    λ s new. more_replies shapes s old new

pub all_shapes : (d : Data) → OnRead HaveReplies (shapes_in d)
unfolding shapes_in
all_shapes d =
    on_bind (λ x. Unit {0}) HaveReplies (entries_at [] d (codes "shapes")) _ (on_all _) λ list u.
    on_each HaveReplies (at_entry shape_at (under [] (codes "shapes"))) (λ i shapes e old. one_shape (nth (under [] (codes "shapes")) i) shapes e old) 0 [] list
    (λ d. refl)
