-- A block of a definition that was accepted in the first format starts now what it started there, at the same cost and depth.
use Rattle.std.proofs.Common.{◌≡◌, refl, sym, ap, subst, ◌∙◌, ℕ, suc, ◌+◌, Bool, true, false, cond, List, [], ◌∷◌, ◌++◌, Some, arith}
use Rattle.std.specs.Prelude.{⊤, ◌&&◌, ◌||◌, nat_eq, is_some, map}
use Rattle.std.specs.List.{list_any, filter, flat_map}
use Rattle.std.proofs.lemmas.Bool.{eqb-true, eq-eqb, or_left, or_right}
use Rattle.ui_machine.specs.Seq.{total}
use Rattle.ui_machine.specs.Definition.{Definition}
use Rattle.ui_machine.specs.Definition.Places.{Bind}
use Rattle.ui_machine.specs.Definition.Properties.{Spec, is_readable}
use Rattle.ui_machine.specs.Definition.Lookups.{specs_of}
use Rattle.ui_machine.specs.Definition.Programs.{Instruction, Program, Block}
use Rattle.ui_machine.specs.Definition.Programs as words
use Rattle.law_typing.specs.Rules.RegisterKinds.{Kinds, kind_in, places, class_at}
use Rattle.law_typing.specs.Rules.Brackets.{opened, is_among, keeps_brackets, is_bracketed, is_balanced, is_empty, has_pair}
use Rattle.law_typing.specs.Rules.Typing.{after}
use Rattle.law_typing.specs.Graph.Channels.{Channel, property, same_channel, is_pair, source_of, target_of, partner_in, is_paired, readable_from, of_class}
use Rattle.law_typing.specs.Graph.{Graph, Start, nothing, raises, makes, thaws, paired_at}
use Rattle.law_typing.specs.Graph as now
use Rattle.law_typing.specs.Graph.Tables.{Tables, greatest}
use Rattle.law_typing.specs.Graph.Ranks.{started}
use Rattle.law_typing.specs.Graph.Costs.{node_cost, start_cost, starts_cost}
use Rattle.law_typing.specs.Graph.Depths.{start_depth, deepest}
use Rattle.law_typing.proofs.Lists.{both_parts}
use Rattle.law_formats.specs.FirstRules.{freezes_pair}
use Rattle.law_formats.specs.FirstGraph as first
use Rattle.law_formats.proofs.CalmProofs.{Calm, OpenCalm, open_next}

-- ** a place without pairs

same_place : (p s q t : ℕ) → same_channel (property p s) (property q t) ≡ true → nat_eq q p ≡ true
same_place p s q t e = eq-eqb q p (sym (eqb-true p q (both_parts (nat_eq p q) (nat_eq s t) e).0))

abbrev any_pair : List Bind → ℕ → Bool
any_pair bs place = list_any (λ (b : Bind). is_pair b && is_among (b.source ∷ b.target ∷ []) place) bs

-- a property in a pair is of a place with a pair
partner_has : (bs : List Bind) (place slot : ℕ) → is_some (partner_in bs (property place slot)) ≡ true → any_pair bs place ≡ true
partner_has [] place slot e = absurd (cc)
partner_has (x ∷ bs) place slot e =
    go (is_pair x) (same_channel (source_of x) (property place slot)) (same_channel (target_of x) (property place slot)) refl refl refl e (partner_has bs place slot)
  where
    second : (a b : Bool) → b ≡ true → (a || (b || false)) ≡ true
    second true b e = refl
    second false true e = refl
    second false false e = absurd (cc)

    go : (p u v : Bool) → is_pair x ≡ p → same_channel (source_of x) (property place slot) ≡ u → same_channel (target_of x) (property place slot) ≡ v →
        is_some (cond (p && u) (Some (target_of x)) (cond (p && v) (Some (source_of x)) (partner_in bs (property place slot)))) ≡ true →
        (is_some (partner_in bs (property place slot)) ≡ true → any_pair bs place ≡ true) →
        ((p && (nat_eq place x.source || (nat_eq place x.target || false))) || any_pair bs place) ≡ true
    go true true v f h k e later = or_left _ (any_pair bs place) (or_left (nat_eq place x.source) (nat_eq place x.target || false) (same_place x.source x.source_slot place slot h))
    go true false true f h k e later = or_left _ (any_pair bs place) (second (nat_eq place x.source) (nat_eq place x.target) (same_place x.target x.target_slot place slot k))
    go true false false f h k e later = or_right _ (any_pair bs place) (later e)
    go false u v f h k e later = later e

unpaired : (d : Definition) (place slot : ℕ) → has_pair d place ≡ false → is_paired d (property place slot) ≡ false
unpaired d place slot none = go (is_paired d (property place slot)) refl
  where
    go : (b : Bool) → is_paired d (property place slot) ≡ b → b ≡ false
    go false e = refl
    go true e = absurd (let some = partner_has d.bindings place slot e in cc)

none_paired : (d : Definition) (place slot : ℕ) (specs : List Spec) → has_pair d place ≡ false → filter (is_paired d) (readable_from place slot specs) ≡ []
none_paired d place slot [] none = refl
none_paired d place slot (s ∷ specs) none = go (is_readable s) (unpaired d place slot none) (none_paired d place (suc slot) specs none)
  where
    go : (b : Bool) → is_paired d (property place slot) ≡ false → filter (is_paired d) (readable_from place (suc slot) specs) ≡ [] →
        filter (is_paired d) (cond b (property place slot ∷ []) [] ++ readable_from place (suc slot) specs) ≡ []
    go true own later = ap (λ b. cond b (property place slot ∷ filter (is_paired d) (readable_from place (suc slot) specs)) (filter (is_paired d) (readable_from place (suc slot) specs))) own ∙ later
    go false own later = later

paired_none : (d : Definition) (place : ℕ) → has_pair d place ≡ false → paired_at d place ≡ []
paired_none d place none = none_paired d place 0 (of_class (specs_of d) (class_at d place)) none

-- the lists of such places are empty
abbrev empties : {A : Type 0} → List A → List (List Channel)
empties xs = map (λ x. []) xs

all_empty : (d : Definition) (ps : List ℕ) → list_any (has_pair d) ps ≡ false → map (paired_at d) ps ≡ empties ps
all_empty d [] none = refl
all_empty d (p ∷ ps) none = go (has_pair d p) refl none (all_empty d ps)
  where
    go : (b : Bool) → has_pair d p ≡ b → (b || list_any (has_pair d) ps) ≡ false → (list_any (has_pair d) ps ≡ false → map (paired_at d) ps ≡ empties ps) →
        (paired_at d p ∷ map (paired_at d) ps) ≡ ([] ∷ empties ps)
    go true e none later = absurd (cc)
    go false e none later = let own = paired_none d p e in let rest = later none in rw (own, rest) refl

-- ** starts

-- what starts the same, at the same cost and depth
pub record Alike (xs ys : List Start) : Type 0 where
  pub starts : flat_map started xs ≡ flat_map started ys
  pub costs : (g : Graph) (t : Tables) → starts_cost g t xs ≡ starts_cost g t ys
  pub depths : (t : Tables) → greatest (start_depth t) xs ≡ greatest (start_depth t) ys

alike_both : (s : Start) (xs ys : List Start) → Alike xs ys → Alike (s ∷ xs) (s ∷ ys)
alike_both s xs ys a = record {
  starts = ap (λ cs. started s ++ cs) a.starts;
  costs = λ g t. ap (λ n. (1 + start_cost g t s) + n) (a.costs g t);
  depths = λ t. (let e = a.depths t in omega (arith, e));
}

starts_nothing : {A : Type 0} (ps : List A) → flat_map (λ cs. cs) (empties ps) ≡ []
starts_nothing [] = refl
starts_nothing (p ∷ ps) = starts_nothing ps

costs_nothing : {A : Type 0} (g : Graph) (t : Tables) (ps : List A) → greatest (λ cs. total (node_cost g t) cs) (empties ps) ≡ 0
costs_nothing g t [] = refl
costs_nothing g t (p ∷ ps) = let ih = costs_nothing g t ps in omega (arith, ih)

deepens_nothing : {A : Type 0} (t : Tables) (ps : List A) → greatest (deepest t) (empties ps) ≡ 0
deepens_nothing t [] = refl
deepens_nothing t (p ∷ ps) = let ih = deepens_nothing t ps in omega (arith, ih)

alike_empties : {A : Type 0} (ps : List A) (xs ys : List Start) → Alike xs ys → Alike (nothing ∷ xs) (thaws (empties ps) ∷ ys)
alike_empties ps xs ys a = record {
  starts = a.starts ∙ sym (ap (λ cs. cs ++ flat_map started ys) (starts_nothing ps));
  costs = λ g t. (let e = a.costs g t in let z = costs_nothing g t ps in omega (arith, e, z));
  depths = λ t. (let e = a.depths t in let z = deepens_nothing t ps in omega (arith, e, z));
}

-- ** blocks

-- no instruction of some code freezes an object with a paired property
abbrev pub NoneFreezes : Definition → Program → Kinds → List Instruction → Type 0
NoneFreezes d p ks [] = ⊤
NoneFreezes d p ks (i ∷ rest) = (freezes_pair d ks i ≡ false) × NoneFreezes d p (after d p ks i) rest

first_alike : (d : Definition) (ks : Kinds) (i : Instruction) (rest : List Instruction) (xs ys : List Start) → OpenCalm d ks (i ∷ rest) → Alike xs ys →
    Alike (first.start_of d ks i ∷ xs) (now.start_of d ks i ∷ ys)
first_alike d ks (words.thaw r) rest xs ys calm a =
    let quiet : Calm d (kind_in ks r) = calm r (or_left (nat_eq r r) (is_among (opened rest) r) (eq-eqb r r refl)) in
    subst (λ css. Alike (nothing ∷ xs) (thaws css ∷ ys)) (sym (all_empty d (places d (kind_in ks r)) quiet)) (alike_empties (places d (kind_in ks r)) xs ys a)
first_alike d ks i rest xs ys calm a = alike_both (now.start_of d ks i) xs ys a

pub starts_alike : (d : Definition) (p : Program) (ks : Kinds) (code : List Instruction) → is_bracketed code ≡ true → NoneFreezes d p ks code → OpenCalm d ks code →
    Alike (first.starts_of d p ks code) (now.starts_of d p ks code)
starts_alike d p ks [] kept none calm = record { starts = refl; costs = λ g t. refl; depths = λ t. refl }
starts_alike d p ks (i ∷ rest) kept none calm =
    let both = both_parts (keeps_brackets (opened rest) i) (is_bracketed rest) kept in
    first_alike d ks i rest _ _ calm (starts_alike d p (after d p ks i) rest both.1 none.1 (open_next d p ks i rest both.0 none.0 calm))

-- none is open where a block begins
empty_calm : (d : Definition) (ks : Kinds) (code : List Instruction) → is_empty (opened code) ≡ true → OpenCalm d ks code
empty_calm d ks code empty r among = go (opened code) empty among
  where
    go : (xs : List ℕ) → is_empty xs ≡ true → is_among xs r ≡ true → Calm d (kind_in ks r)
    go [] e among = absurd (cc)
    go (x ∷ xs) e among = absurd (cc)

pub block_alike : (d : Definition) (p : Program) (b : Block) → is_balanced b.code ≡ true → NoneFreezes d p b.entry b.code →
    Alike (first.starts_of d p b.entry b.code) (now.starts_of d p b.entry b.code)
block_alike d p b balanced none =
    let both = both_parts (is_bracketed b.code) (is_empty (opened b.code)) balanced in
    starts_alike d p b.entry b.code both.0 none (empty_calm d b.entry b.code both.1)
