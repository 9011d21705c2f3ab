-- Lists of names, behind references or not.
use Rattle.std.proofs.Common.{◌≡◌, ◌∙◌, ℕ, ◌&&◌, List, [], ◌∷◌, map, Option, None, Result, Bor, is_some, refl, sym, ap, subst}
use Rattle.ui_machine.specs.Definition.Types.{GType}
use Rattle.ui_machine.specs.Definition.Types as sorts
use Rattle.type_tree.specs.declared.error.TypeFault.{TypeFault}
use Rattle.type_tree.specs.declared.error.TypeError.{TypeError}
use Rattle.type_tree.specs.declared.entry.TypeFlags.{TypeFlags}
use Rattle.type_tree.specs.Entry.{plain_type}
use Rattle.std.specs.List.{filter_map, cons_option}
use Rattle.type_tree.specs.Adding.{are_named, class_named, interface_named, required_named, new_class, new_interface, Adds}

pub are_named_texts : (f : List ℕ → Option ℕ) (names : List (Bor (List ℕ))) → are_named f (map (λ n. n.now) names) ≡ are_named (λ n. f n.now) names
are_named_texts f [] = refl
are_named_texts f (n ∷ names) = ap (λ b. is_some (f n.now) && b) (are_named_texts f names)

pub filter_map_texts : (f : List ℕ → Option ℕ) (names : List (Bor (List ℕ))) → filter_map f (map (λ n. n.now) names) ≡ filter_map (λ n. f n.now) names
filter_map_texts f [] = refl
filter_map_texts f (n ∷ names) = ap (cons_option (f n.now)) (filter_map_texts f names)

-- the class of an entry, whose interfaces were found by their names
pub new_class_is : (types : List GType) (name parent : List ℕ) (flags : TypeFlags) (names : List (Bor (List ℕ))) (p : Option ℕ) (items : List ℕ)
    → p ≡ class_named types parent → items ≡ filter_map (λ n. interface_named types n.now) names
    → new_class types name parent flags (map (λ n. n.now) names)
    ≡ record { name = name; sort = sorts.class; parent = p; is_abstract = flags.is_abstract; is_final = flags.is_final; interfaces = items; members = [] }
new_class_is types name parent flags names p items e f =
    ap (λ l. record { name = name; sort = sorts.class; parent = class_named types parent; is_abstract = flags.is_abstract; is_final = flags.is_final; interfaces = l; members = [] })
    (filter_map_texts (interface_named types) names ∙ sym f)
    ∙ ap (λ q. record { name = name; sort = sorts.class; parent = q; is_abstract = flags.is_abstract; is_final = flags.is_final; interfaces = items; members = [] }) (sym e)

pub new_interface_is : (types : List GType) (name : List ℕ) (names : List (Bor (List ℕ))) (items : List ℕ)
    → items ≡ filter_map (λ n. required_named types n.now) names → new_interface types name (map (λ n. n.now) names) ≡ plain_type name sorts.interface items []
new_interface_is types name names items f = ap (λ l. plain_type name sorts.interface l []) (filter_map_texts (required_named types) names ∙ sym f)

pub Adds-same : (r : Result ℕ TypeError) (f : Option TypeFault) (g h : GType) (old new : List GType) → f ≡ None → g ≡ h → Adds r None h old new → Adds r f g old new
Adds-same r f g h old new e s a = subst (λ k. Adds r k g old new) (sym e) (subst (λ k. Adds r None k old new) (sym s) a)
