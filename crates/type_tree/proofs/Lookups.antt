-- A type's place, by its name.
use Rattle.std.proofs.Common.{◌≡◌, ℕ, suc, Bool, true, false, cond, nat_eq, ◌&&◌, List, [], ◌∷◌, ◌++◌, map, string_eq, string_bytes, String, Option, None, Some, refl, sym, ap, ◌∙◌, position, if◌then◌else◌, add-one, arith}
use Rattle.std.specs.List.{position_from}
use Rattle.std.specs.Map.{keys_of}
use Rattle.std.proofs.lemmas.Bool.Decides.{nat_tests}
use Rattle.std.proofs.lemmas.List.{map-append}
use Rattle.std.proofs.lemmas.Option.{none-some}
use Rattle.ui_machine.specs.Definition.Types.{GType}
use Rattle.type_tree.specs.Entry.{type_of}
use Rattle.std.specs.Str.{bytes_eq}
use Rattle.indexmap.specs.IndexMap.{insert_entry}
use Rattle.std.proofs.lemmas.Iterator.Adapters.{position_from-zero}
use Rattle.ui_machine.specs.Definition.Names.{same_name, place_from}
use Rattle.type_tree.specs.declared.entry.TypeEntry.{TypeEntry}
use Rattle.type_tree.specs.Adding.{find_type}
use Rattle.type_tree.proofs.Entries.{typed, name-type_of}

pub nat_eq-comm : (x y : ℕ) → nat_eq x y ≡ nat_eq y x
nat_eq-comm x y = grind (arith, nat_tests)

cond-and : (b c : Bool) → cond b c false ≡ (b && c)
cond-and true c = refl
cond-and false c = refl

-- two names are one where their bytes are
pub same_name-bytes_eq : (xs ys : List ℕ) → same_name ys xs ≡ bytes_eq xs ys
same_name-bytes_eq [] [] = refl
same_name-bytes_eq [] (y ∷ ys) = refl
same_name-bytes_eq (x ∷ xs) [] = refl
same_name-bytes_eq (x ∷ xs) (y ∷ ys) =
    let e = nat_eq-comm y x in
    let f = same_name-bytes_eq xs ys in
    cond-and (nat_eq y x) (same_name ys xs) ∙ cc

pub place_from-position : {A : Type 0} (name : List ℕ) (i : ℕ) (es : List (String A × TypeEntry))
    → place_from (λ g. g.name) i (map typed es) name ≡ position_from (λ k. bytes_eq name (string_bytes k)) i (keys_of es)
place_from-position name i [] = refl
place_from-position name i (e ∷ es) =
    let n = name-type_of (string_bytes e.0) e.1 in
    let s = same_name-bytes_eq name (string_bytes e.0) in
    let r = place_from-position name (suc i) es in
    let o = add-one i in
    cc

pub find_type-position : {A : Type 0} (name : List ℕ) (es : List (String A × TypeEntry))
    → find_type (map typed es) name ≡ position (λ k. bytes_eq name (string_bytes k)) (keys_of es)
find_type-position name es = place_from-position name 0 es ∙ sym (position_from-zero _ (keys_of es))

-- a new name goes last
pub insert_entry-fresh : {A : Type 0} (name : String A) (entry : TypeEntry) (i : ℕ) (es : List (String A × TypeEntry))
    → place_from (λ g. g.name) i (map typed es) (string_bytes name) ≡ None → insert_entry string_eq es name entry ≡ es ++ (name, entry) ∷ []
insert_entry-fresh name entry i [] h = refl
insert_entry-fresh name entry i (e ∷ es) h =
    by (bytes_eq (string_bytes name) (string_bytes e.0)) refl (insert_entry-fresh name entry (suc i) es)
  where
    same : same_name (typed e).name (string_bytes name) ≡ bytes_eq (string_bytes name) (string_bytes e.0)
    same = ap (λ n. same_name n (string_bytes name)) (name-type_of (string_bytes e.0) e.1) ∙ same_name-bytes_eq (string_bytes name) (string_bytes e.0)

    rest : Option ℕ
    rest = place_from (λ g. g.name) (suc i) (map typed es) (string_bytes name)

    by : (b : Bool) → bytes_eq (string_bytes name) (string_bytes e.0) ≡ b → (rest ≡ None → insert_entry string_eq es name entry ≡ es ++ (name, entry) ∷ [])
        → insert_entry string_eq (e ∷ es) name entry ≡ (e ∷ es) ++ (name, entry) ∷ []
    by true q after = absurd (none-some i (sym h ∙ ap (λ b. cond b (Some i) rest) (same ∙ q)))
    by false q after =
        ap (λ b. if b then (e.0, entry) ∷ es else e ∷ insert_entry string_eq es name entry) q
        ∙ ap (λ l. e ∷ l) (after (sym (ap (λ b. cond b (Some i) rest) (same ∙ q)) ∙ h))

-- so the tree gets one more type
pub types-insert_entry : {A : Type 0} (es new : List (String A × TypeEntry)) (name : String A) (entry : TypeEntry) (types : List GType) (bytes : List ℕ)
    → map typed es ≡ types → string_bytes name ≡ bytes → find_type types bytes ≡ None → new ≡ insert_entry string_eq es name entry
    → map typed new ≡ types ++ type_of bytes entry ∷ []
types-insert_entry es new name entry types bytes v n fresh e =
    let none : find_type (map typed es) (string_bytes name) ≡ None =
    ap (λ l. find_type l (string_bytes name)) v ∙ ap (find_type types) n ∙ fresh in
    ap (map typed) (e ∙ insert_entry-fresh name entry 0 es none) ∙ map-append typed es ((name, entry) ∷ [])
    ∙ ap (λ l. l ++ type_of (string_bytes name) entry ∷ []) v ∙ ap (λ b. types ++ type_of b entry ∷ []) n
