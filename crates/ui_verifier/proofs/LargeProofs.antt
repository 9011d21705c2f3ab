-- The first bound that is too large, by capped bounds.
use Rattle.std.proofs.Common.{arith, min, ◌≤◌, ◌<◌, ◌≡◌, refl, sym, ap, ◌∙◌, ℕ, zero, suc, ◌+◌, Bool, true, false, cond, nat_lt, List, [], ◌∷◌, ◌++◌, drop, map, Option, Some, None, option_map, slice_get}
use Rattle.std.specs.List.{find}
use Rattle.std.proofs.lemmas.Bool.{ltb-true, lt-ltb, le-ltb, ltb-false}
use Rattle.ui_machine.specs.Definition.{Definition}
use Rattle.law_typing.specs.Graph.{Connection, Raised, connections, graph, raised_at}
use Rattle.law_typing.specs.Graph.Channels.{Channel, Entry, channels}
use Rattle.law_typing.specs.Graph.Channels as entries
use Rattle.law_typing.specs.Graph.Costs.{bound}
use Rattle.law_typing.specs.Graph.Tables.{Tables}
use Rattle.law_typing.specs.Laws.Capped.{capped}
use Rattle.law_typing.specs.Rules.Sites.{sites}
use Rattle.law_typing.specs.Verdict.{most_bound, too_large}
use Rattle.verified.specs.Told.{source_view}
use Rattle.verified.specs.declared.numbers.SourceBound.{SourceBound}
use Rattle.ui_verifier.specs.Large.{is_large, large_channel, large_source}

-- ** numbers

small_stays : (b m : ℕ) → b ≤ m → min b (1 + m) ≤ m
small_stays b m low = omega (arith, low)

large_stays : (b m : ℕ) → m < b → m < min b (1 + m)
large_stays b m high = omega (arith, high)

-- a capped number is too large where the number is
pub same_large : (b : ℕ) → nat_lt most_bound (capped b) ≡ nat_lt most_bound b
same_large b = by (nat_lt most_bound b) refl
  where
    by : (x : Bool) → nat_lt most_bound b ≡ x → nat_lt most_bound (capped b) ≡ nat_lt most_bound b
    by true is = lt-ltb most_bound (capped b) (large_stays b most_bound (ltb-true most_bound b is)) ∙ sym is
    by false is = le-ltb most_bound (capped b) (small_stays b most_bound (ltb-false most_bound b is)) ∙ sym is

-- ** lists

-- the first one from a number on, where it is there
pub first_here : {A B : Type 0} (f : B → Bool) (of : A → B) (xs : List A) (k : ℕ) (x : A) → slice_get xs k ≡ Some x → f (of x) ≡ true →
    find f (map of (drop k xs)) ≡ Some (of x)
first_here f of [] k x is here = absurd (cc)
first_here f of (y ∷ ys) zero x is here =
    let e : y ≡ x = cc in
    ap (λ z. cond (f (of z)) (Some (of z)) (find f (map of ys))) e ∙ ap (λ b. cond b (Some (of x)) (find f (map of ys))) here
first_here f of (y ∷ ys) (suc k) x is here = first_here f of ys k x is here

-- and where it is not
later : {A B : Type 0} (f : B → Bool) (of : A → B) (xs : List A) (k : ℕ) → ((x : A) → slice_get xs k ≡ Some x → f (of x) ≡ false) →
    find f (map of (drop (suc k) xs)) ≡ find f (map of (drop k xs))
later f of [] zero other = refl
later f of [] (suc k) other = refl
later f of (y ∷ ys) zero other = sym (ap (λ b. cond b (Some (of y)) (find f (map of ys))) (other y refl))
later f of (y ∷ ys) (suc k) other = later f of ys k other

pub first_later : {A B : Type 0} (f : B → Bool) (of : A → B) (xs : List A) (k : ℕ) → ((x : A) → slice_get xs k ≡ Some x → f (of x) ≡ false) →
    find f (map of (drop (k + 1) xs)) ≡ find f (map of (drop k xs))
first_later f of xs k other = let e : k + 1 ≡ suc k = omega arith in ap (λ n. find f (map of (drop n xs))) e ∙ later f of xs k other

-- the first of two lists
abbrev pub or_first : {A : Type 0} → Option A → Option A → Option A
or_first None other = other
or_first (Some x) other = Some x

pub find_joined : {A : Type 0} (f : A → Bool) (xs ys : List A) → find f (xs ++ ys) ≡ or_first (find f xs) (find f ys)
find_joined f [] ys = refl
find_joined f (x ∷ xs) ys = by (f x) (find_joined f xs ys)
  where
    by : (b : Bool) → find f (xs ++ ys) ≡ or_first (find f xs) (find f ys) →
        cond b (Some x) (find f (xs ++ ys)) ≡ or_first (cond b (Some x) (find f xs)) (find f ys)
    by true rest = refl
    by false rest = rest

-- ** what is reported

pub raised_entries : (d : Definition) (ns : List Connection) (cs : List Channel) →
    map (λ (r : Raised). entries.at r.channel) (map (raised_at d ns) cs) ≡ map entries.at cs
raised_entries d ns [] = refl
raised_entries d ns (c ∷ cs) = ap (λ xs. entries.at c ∷ xs) (raised_entries d ns cs)

-- the first of all entries: the building, or the first channel, or the first source
pub first_large : (d : Definition) (t : Tables) →
    too_large (graph d) t
    ≡ cond (is_large d t entries.build) (Some entries.build) (or_first (large_channel d t (channels d)) (large_source d t (graph d).sources))
first_large d t =
    ap (cond (is_large d t entries.build) (Some entries.build))
    (ap (λ es. find (is_large d t) (es ++ map entries.source (graph d).sources)) (raised_entries d (connections d (sites d)) (channels d))
    ∙ find_joined (is_large d t) (map entries.at (channels d)) (map entries.source (graph d).sources))

-- the first source by its capped bound
pub source_found : (d : Definition) (t : Tables) (ss : List SourceBound) (ps : List ℕ) →
    map source_view ss ≡ map (λ (p : ℕ). (p, capped (bound (graph d) t (entries.source p)))) ps →
    option_map (λ (s : SourceBound). entries.source s.program) (find (λ (s : SourceBound). nat_lt most_bound s.bound) ss) ≡ large_source d t ps
source_found d t [] [] is = refl
source_found d t [] (p ∷ ps) is = absurd (cc)
source_found d t (s ∷ ss) [] is = absurd (cc)
source_found d t (s ∷ ss) (p ∷ ps) is =
    let head : source_view s ≡ (p, capped (bound (graph d) t (entries.source p))) = cc in
    let tail : map source_view ss ≡ map (λ (q : ℕ). (q, capped (bound (graph d) t (entries.source q)))) ps = cc in
    let number = ap (λ (x : ℕ × ℕ). x.0) head in
    let value = ap (λ (x : ℕ × ℕ). nat_lt most_bound x.1) head ∙ same_large (bound (graph d) t (entries.source p)) in
    by (is_large d t (entries.source p)) number value (source_found d t ss ps tail)
  where
    by : (b : Bool) → s.program ≡ p → nat_lt most_bound s.bound ≡ b →
        option_map (λ (s : SourceBound). entries.source s.program) (find (λ (s : SourceBound). nat_lt most_bound s.bound) ss) ≡ large_source d t ps →
        option_map (λ (s : SourceBound). entries.source s.program) (cond (nat_lt most_bound s.bound) (Some s) (find (λ (s : SourceBound). nat_lt most_bound s.bound) ss))
        ≡ cond b (Some (entries.source p)) (large_source d t ps)
    by true number value rest =
        ap (λ b. option_map (λ (s : SourceBound). entries.source s.program) (cond b (Some s) (find (λ (s : SourceBound). nat_lt most_bound s.bound) ss))) value
        ∙ ap (λ k. Some (entries.source k)) number
    by false number value rest =
        ap (λ b. option_map (λ (s : SourceBound). entries.source s.program) (cond b (Some s) (find (λ (s : SourceBound). nat_lt most_bound s.bound) ss))) value
        ∙ rest

-- building takes as long as it may
pub build_small : (d : Definition) (t : Tables) (build : ℕ) → build ≡ capped (bound (graph d) t entries.build) → build ≤ most_bound →
    is_large d t entries.build ≡ false
build_small d t build is low = sym (same_large (bound (graph d) t entries.build)) ∙ (ap (nat_lt most_bound) (sym is) ∙ le-ltb most_bound build low)

-- so the first is one of a channel or of a source
pub first_of_rest : (d : Definition) (t : Tables) (o p : Option Entry) → is_large d t entries.build ≡ false → o ≡ large_channel d t (channels d) →
    p ≡ large_source d t (graph d).sources → or_first o p ≡ too_large (graph d) t
first_of_rest d t o p small at source =
    sym (first_large d t
    ∙ (ap (λ b. cond b (Some entries.build) (or_first (large_channel d t (channels d)) (large_source d t (graph d).sources))) small
    ∙ (ap (λ x. or_first x (large_source d t (graph d).sources)) (sym at) ∙ ap (or_first o) (sym source))))
