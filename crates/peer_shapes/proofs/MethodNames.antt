-- Methods by their names, and one more of them.
use Rattle.std.proofs.Common.{◌≡◌, ℕ, List, [], ◌∷◌, ◌++◌, map, None, position, String, Global, string_eq, string_bytes, refl, ap, ◌∙◌}
use Rattle.std.specs.List.{AllByRecursion, AllZip}
use Rattle.std.specs.Map.{keys_of}
use Rattle.std.specs.Str.{bytes_eq}
use Rattle.std.proofs.lemmas.List.{map_push}
use Rattle.indexmap.specs.IndexMap.{insert_entry}
use Rattle.ui_machine.specs.Definition.Names.{place_named}
use Rattle.ui_machine.specs.Definition.Signals.{Method}
use Rattle.g_values.specs.View.{kind_view}
use Rattle.g_values.specs.declared.kind.Kind.{Kind}
use Rattle.peer_shapes.specs.MethodViews.{signed}
use Rattle.peer_shapes.specs.declared.methods.Signature.{Signature}
use Rattle.peer_shapes.proofs.NamedEntries.{IsNamed, number_is, named_last}

all_named : (es : List (String Global × Signature)) → AllByRecursion (IsNamed signed (λ (m : Method). m.name)) es
all_named [] = tt
all_named (e ∷ es) = (refl, all_named es)

pub method_is : (name : List ℕ) (es : List (String Global × Signature))
    → place_named (λ (m : Method). m.name) (map signed es) name ≡ position (λ k. bytes_eq name (string_bytes k)) (keys_of es)
method_is name es = number_is signed (λ (m : Method). m.name) name es (all_named es)

pub method_last : (name : String Global) (body : Signature) (es : List (String Global × Signature))
    → place_named (λ (m : Method). m.name) (map signed es) (string_bytes name) ≡ None
    → map signed (insert_entry string_eq es name body) ≡ map signed es ++ signed (name, body) ∷ []
method_last name body es h =
    ap (λ l. map signed l) (named_last signed (λ (m : Method). m.name) name body es (all_named es) h) ∙ map_push signed es (name, body)

-- clones of methods under clones of their names are the same methods
pub same_clones : (es fs : List (String Global × Signature)) → AllZip (λ p q. (string_bytes q.0 ≡ string_bytes p.0) × ((q.1.params.items ≡ p.1.params.items) × (q.1.result ≡ p.1.result))) es fs
    → map signed fs ≡ map signed es
same_clones [] [] all = refl
same_clones [] (f ∷ fs) all = absurd all
same_clones (e ∷ es) [] all = absurd all
same_clones (e ∷ es) (f ∷ fs) all =
    let same : signed f ≡ signed e =
    ap (λ (name : List ℕ). record { name = name; params = map kind_view f.1.params.items; result = kind_view f.1.result }) all.0.0
    ∙ ap (λ (params : List Kind). record { name = string_bytes e.0; params = map kind_view params; result = kind_view f.1.result }) all.0.1.0
    ∙ ap (λ (k : Kind). record { name = string_bytes e.0; params = map kind_view e.1.params.items; result = kind_view k }) all.0.1.1 in
    ap (λ (m : Method). m ∷ map signed fs) same ∙ ap (λ (ms : List Method). signed e ∷ ms) (same_clones es fs all.1)
