-- The specs of a type beside the names under which they are.
use Rattle.std.specs.Rc.{rc_str_bytes}
use Rattle.std.proofs.Common.{◌≡◌, ℕ, suc, ◌+◌, Bool, true, false, cond, not, nat_eq, ◌&&◌, List, [], ◌∷◌, ◌++◌, map, Option, None, Some, position, String, Global, string_eq, string_bytes, if◌then◌else◌, refl, sym, ap, ◌∙◌, add-one, arith}
use Rattle.std.proofs.Math.Path.{fun_ext}
use Rattle.std.specs.List.{list_all, position_from}
use Rattle.std.specs.Map.{keys_of}
use Rattle.std.specs.Str.{bytes_eq}
use Rattle.std.proofs.lemmas.Bool.Decides.{nat_tests}
use Rattle.std.proofs.lemmas.Option.{none-some}
use Rattle.std.proofs.lemmas.Iterator.Adapters.{position_from-zero}
use Rattle.indexmap.specs.IndexMap.{insert_entry}
use Rattle.ui_machine.specs.Definition.Names.{same_name, canonical, place_from, place_named}
use Rattle.ui_machine.specs.Definition.Properties as properties
use Rattle.param_specs.specs.declared.spec.Spec.{Spec}
use Rattle.param_specs.specs.View.{Entry, spec_view, specs_in, AreNamed}
use Rattle.param_specs.specs.Table.{slot_named}

nat_eq-comm : (x y : ℕ) → nat_eq x y ≡ nat_eq y x
nat_eq-comm x y = grind (arith, nat_tests)

cond-and : (b c : Bool) → cond b c false ≡ (b && c)
cond-and true c = refl
cond-and false c = refl

-- two names are one where their bytes are
same_name-is : (xs ys : List ℕ) → same_name ys xs ≡ bytes_eq xs ys
same_name-is [] [] = refl
same_name-is [] (y ∷ ys) = refl
same_name-is (x ∷ xs) [] = refl
same_name-is (x ∷ xs) (y ∷ ys) =
    let e = nat_eq-comm y x in
    let f = same_name-is xs ys in
    cond-and (nat_eq y x) (same_name ys xs) ∙ cc

both : (b c : Bool) → (not b && c) ≡ true → (b ≡ false) × (c ≡ true)
both true c h = absurd (cc)
both false c h = (refl, h)

-- a name without `_` is its own canonical spelling
canonical_same : (name : List ℕ) → list_all (λ b. not (nat_eq b 95)) name ≡ true → canonical name ≡ name
canonical_same [] h = refl
canonical_same (x ∷ xs) h =
    let p = both (nat_eq x 95) (list_all (λ b. not (nat_eq b 95)) xs) h in
    ap (λ b. cond b 45 x ∷ canonical xs) p.0 ∙ ap (λ l. x ∷ l) (canonical_same xs p.1)

named_from : (name : List ℕ) (i : ℕ) (es : List Entry) → AreNamed es
    → position_from (λ k. same_name (string_bytes k) name) i (keys_of es) ≡ place_from (λ (s : properties.Spec). s.name) i (map spec_view (specs_in es)) name
named_from name i [] h = refl
named_from name i (e ∷ es) h =
    ap (λ n. cond (same_name n name) (Some i) (position_from (λ k. same_name (string_bytes k) name) (i + 1) (keys_of es))) h.0
    ∙ ap (λ k. cond (same_name (rc_str_bytes (e.1).name) name) (Some i) (position_from (λ k. same_name (string_bytes k) name) k (keys_of es))) (add-one i)
    ∙ ap (cond (same_name (rc_str_bytes (e.1).name) name) (Some i)) (named_from name (suc i) es h.1)

pub spelled_slot : (name : List ℕ) (es : List Entry) (r : Option ℕ) → AreNamed es
    → r ≡ position (λ k. same_name (string_bytes k) (canonical name)) (keys_of es) → r ≡ slot_named (map spec_view (specs_in es)) name
spelled_slot name es r h e = e ∙ position_from-zero _ (keys_of es) ∙ named_from (canonical name) 0 es h

pub indexed_slot : (name : List ℕ) (es : List Entry) (r : Option ℕ) → AreNamed es → list_all (λ b. not (nat_eq b 95)) name ≡ true
    → r ≡ position (λ k. bytes_eq name (string_bytes k)) (keys_of es) → r ≡ slot_named (map spec_view (specs_in es)) name
indexed_slot name es r h plain e =
    spelled_slot name es r h
    (e ∙ ap (λ (test : String Global → Bool). position test (keys_of es)) (fun_ext (λ k. sym (same_name-is name (string_bytes k))))
    ∙ ap (λ n. position (λ k. same_name (string_bytes k) n) (keys_of es)) (sym (canonical_same name plain)))

fresh_from : (id : String Global) (v : Spec) (i : ℕ) (es : List Entry) → AreNamed es
    → place_from (λ (s : properties.Spec). s.name) i (map spec_view (specs_in es)) (string_bytes id) ≡ None → insert_entry string_eq es id v ≡ es ++ (id, v) ∷ []
fresh_from id v i [] n h = refl
fresh_from id v i (e ∷ es) n h =
    by (bytes_eq (string_bytes id) (string_bytes e.0)) refl (fresh_from id v (suc i) es n.1)
  where
    same : same_name (rc_str_bytes (e.1).name) (string_bytes id) ≡ bytes_eq (string_bytes id) (string_bytes e.0)
    same = ap (λ k. same_name k (string_bytes id)) (sym n.0) ∙ same_name-is (string_bytes id) (string_bytes e.0)

    rest : Option ℕ
    rest = place_from (λ (s : properties.Spec). s.name) (suc i) (map spec_view (specs_in es)) (string_bytes id)

    by : (b : Bool) → bytes_eq (string_bytes id) (string_bytes e.0) ≡ b → (rest ≡ None → insert_entry string_eq es id v ≡ es ++ (id, v) ∷ [])
        → insert_entry string_eq (e ∷ es) id v ≡ (e ∷ es) ++ (id, v) ∷ []
    by true q after = absurd (none-some i (sym h ∙ ap (λ b. cond b (Some i) rest) (same ∙ q)))
    by false q after =
        ap (λ b. if b then (e.0, v) ∷ es else e ∷ insert_entry string_eq es id v) q
        ∙ ap (λ l. e ∷ l) (after (sym (ap (λ b. cond b (Some i) rest) (same ∙ q)) ∙ h))

-- a new name goes last
pub goes_last : (id : String Global) (v : Spec) (es : List Entry) → AreNamed es
    → place_named (λ (s : properties.Spec). s.name) (map spec_view (specs_in es)) (string_bytes id) ≡ None → insert_entry string_eq es id v ≡ es ++ (id, v) ∷ []
goes_last id v es n h = fresh_from id v 0 es n h

pub specs_more : (es : List Entry) (e : Entry) → specs_in (es ++ e ∷ []) ≡ specs_in es ++ e.1 ∷ []
specs_more [] e = refl
specs_more (x ∷ es) e = ap (λ l. x.1 ∷ l) (specs_more es e)

pub named_more : (es : List Entry) (e : Entry) → AreNamed es → string_bytes e.0 ≡ rc_str_bytes (e.1).name → AreNamed (es ++ e ∷ [])
named_more [] e h n = (n, tt)
named_more (x ∷ es) e h n = (h.0, named_more es e h.1 n)
