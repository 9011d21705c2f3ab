-- Numbers of a verified definition, looked up by a channel or by a source's program.
use Rattle.std.proofs.Common.{◌≡◌, ◌⊎◌, inl, inr, refl, sym, ap, subst, ◌∙◌, ℕ, zero, suc, Bool, true, false, cond, nat_eq, List, [], ◌∷◌, map}
use Rattle.std.proofs.Common.{None, Some, option_map, slice_get}
use Rattle.std.specs.List.{find, list_any}
use Rattle.std.proofs.lemmas.Bool.{eqb-true, eq-eqb}
use Rattle.std.proofs.lemmas.Option.{none-some, same_Some}
use Rattle.ui_machine.specs.Seq.{read}
use Rattle.ui_machine.specs.Definition.{Definition}
use Rattle.law_typing.specs.Rules.Sites.{sites}
use Rattle.law_typing.specs.Graph.{Raised, graph, raised_at, connections}
use Rattle.law_typing.specs.Graph.Channels.{Channel, channels, is_channel, same_channel}
use Rattle.law_typing.specs.Graph.Channels as entries
use Rattle.law_typing.specs.Graph.Costs.{bound}
use Rattle.law_typing.specs.Graph.Depths.{depth}
use Rattle.law_typing.specs.Graph.Ranks.{node}
use Rattle.law_typing.specs.Graph.Tables.{entry}
use Rattle.law_typing.specs.Laws.{IsIn}
use Rattle.law_typing.specs.Verdict.Accepted.{Accepted}
use Rattle.law_typing.proofs.Lists.{either_part, same_channel_true}
use Rattle.law_typing.proofs.EdgeProofs.{channel_is_raised}
use Rattle.law_typing.proofs.PairProofs.{accepted_once}
use Rattle.verified.specs.declared.numbers.Numbers.{Numbers}
use Rattle.verified.specs.declared.numbers.SourceBound.{SourceBound}
use Rattle.verified.specs.Told.{AreSources, IsVerified, IsBound, IsDepth, IsRank, bound_in, bound_of, rank_of, source_view, told_bound, told_rank, value_among}

-- ** lists

-- whether a channel is that of one of these
abbrev among : List Raised → Channel → Bool
among rs c = list_any (λ (r : Raised). same_channel r.channel c) rs

-- one that is among those of some channels is one of them
in_list : (f : Channel → Raised) → ((e : Channel) → (f e).channel ≡ e) → (c : Channel) (cs : List Channel) → among (map f cs) c ≡ true → IsIn c cs
in_list f own c [] h = absurd (cc)
in_list f own c (e ∷ cs) h = by (in_list f own c cs) (either_part (same_channel (f e).channel c) (among (map f cs) c) h)
  where
    by : (among (map f cs) c ≡ true → IsIn c cs) → (same_channel (f e).channel c ≡ true) ⊎ (among (map f cs) c ≡ true) → IsIn c (e ∷ cs)
    by more (inl here) = inl (sym (sym (own e) ∙ same_channel_true (f e).channel c here))
    by more (inr later) = inr (more later)

-- each channel of a definition is in its list
pub has_channel : (d : Definition) (c : Channel) → is_channel d c ≡ true → IsIn c (channels d)
has_channel d c is = in_list (raised_at d (connections d (sites d))) (λ e. refl) c (channels d) (channel_is_raised d c is)

-- what two functions give for one of a list, where they give the same for all
pub same_in : (f g : Channel → ℕ) (cs : List Channel) (c : Channel) → map f cs ≡ map g cs → IsIn c cs → f c ≡ g c
same_in f g [] c same there = absurd there
same_in f g (e ∷ es) c same (inl is) = let head : f e ≡ g e = cc in ap f is ∙ (head ∙ ap g (sym is))
same_in f g (e ∷ es) c same (inr there) = let tail : map f es ≡ map g es = cc in same_in f g es c tail there

-- what is read where something is
pub read_got : {A : Type 0} (none : A) (xs : List A) (n : ℕ) (x : A) → slice_get xs n ≡ Some x → x ≡ read none xs n
read_got none [] n x is = absurd (none-some x is)
read_got none (y ∷ ys) zero x is = sym (same_Some _ _ is)
read_got none (y ∷ ys) (suc n) x is = read_got none ys n x is

-- the bound of a program that is among those that are kept
found_in : (f : ℕ → ℕ) (program : ℕ) (ss : List SourceBound) (ps : List ℕ) → map source_view ss ≡ map (λ (p : ℕ). (p, f p)) ps →
    list_any (nat_eq program) ps ≡ true → bound_in program ss ≡ Some (f program)
found_in f program [] [] is h = absurd (cc)
found_in f program [] (p ∷ ps) is h = absurd (cc)
found_in f program (s ∷ ss) [] is h = absurd (cc)
found_in f program (s ∷ ss) (p ∷ ps) is h =
    let head : source_view s ≡ (p, f p) = cc in
    let tail : map source_view ss ≡ map (λ (q : ℕ). (q, f q)) ps = cc in
    let number = ap (λ (x : ℕ × ℕ). x.0) head in
    let value = ap (λ (x : ℕ × ℕ). x.1) head in
    by (nat_eq s.program program) refl number value (found_in f program ss ps tail)
    (either_part (nat_eq program p) (list_any (nat_eq program) ps) h)
  where
    by : (b : Bool) → nat_eq s.program program ≡ b → s.program ≡ p → s.bound ≡ f p →
        (list_any (nat_eq program) ps ≡ true → bound_in program ss ≡ Some (f program)) →
        (nat_eq program p ≡ true) ⊎ (list_any (nat_eq program) ps ≡ true) →
        option_map (λ (x : SourceBound). x.bound) (cond b (Some s) (find (λ (x : SourceBound). nat_eq x.program program) ss))
        ≡ Some (f program)
    by true at number value more which = ap Some (value ∙ ap f (sym number ∙ eqb-true s.program program at))
    by false at number value more (inr later) = more later
    by false at number value more (inl here) =
        let same : s.program ≡ program = number ∙ sym (eqb-true program p here) in
        let found = eq-eqb s.program program same in
        absurd (cc)

-- ** sources

-- whether a program is that of a source
abbrev is_source : Definition → ℕ → Bool
is_source d program = list_any (nat_eq program) (graph d).sources

module _ (d : Definition) (ss : List SourceBound) (are : AreSources d ss) (program : ℕ) (there : is_source d program ≡ true) where
  -- the bound of a source's program is found among them all
  source_found : (a : Accepted d) → bound_in program ss ≡ Some (bound_of d a (entries.source program))
  source_found a = found_in (λ p. bound_of d a (entries.source p)) program ss (graph d).sources (are a) there

  pub source_read : (n : ℕ) → Some n ≡ bound_in program ss → IsBound d (entries.source program) n
  source_read n is a = same_Some n (bound_of d a (entries.source program)) (is ∙ source_found a)

  pub never_without : Accepted d → None ≡ bound_in program ss → ⊥
  never_without a none = none-some (bound_of d a (entries.source program)) (none ∙ source_found a)

-- ** numbers

module _ {d : Definition} {cs : List Channel} {ns : Numbers} (v : IsVerified d cs ns) where
  -- what is kept are the numbers of each acceptance
  ranks_kept : (a : Accepted d) → map (told_rank d ns) (channels d) ≡ map (rank_of d a) (channels d)
  ranks_kept a =
      v.numbers.ranks ∙ ap (λ t. map (λ (c : Channel). entry t (node (graph d) c)) (channels d)) (accepted_once d v.accepted a).0

  bounds_kept : (a : Accepted d) → map (told_bound d ns) (channels d) ≡ map (λ (c : Channel). bound_of d a (entries.at c)) (channels d)
  bounds_kept a =
      v.numbers.bounds ∙ ap (λ t. map (λ (c : Channel). bound (graph d) t (entries.at c)) (channels d)) (accepted_once d v.accepted a).1

  sources_kept : AreSources d ns.sources.items
  sources_kept a =
      v.numbers.sources
      ∙ ap (λ t. map (λ (p : ℕ). (p, bound (graph d) t (entries.source p))) (graph d).sources) (accepted_once d v.accepted a).1

  build_kept : IsBound d entries.build ns.build
  build_kept a = v.numbers.build ∙ ap (λ t. bound (graph d) t entries.build) (accepted_once d v.accepted a).1

  depth_kept : IsDepth d ns.depth
  depth_kept a = v.numbers.depth ∙ ap (depth (graph d)) (accepted_once d v.accepted a).2

  -- where the definition is seen as this one
  module _ {seen : Definition} (same : d ≡ seen) where
    pub rank_read : (c : Channel) (n : ℕ) → n ≡ value_among cs ns.ranks.items 0 c → IsIn c (channels seen) → IsRank seen c n
    rank_read c n is there =
        subst (λ (x : Definition). IsRank x c n) same
        (λ a. is ∙ (ap (λ busy. value_among busy ns.ranks.items 0 c) v.busy_channels
        ∙ same_in (told_rank d ns) (rank_of d a) (channels d) c (ranks_kept a) (subst (λ (x : Definition). IsIn c (channels x)) (sym same) there)))

    pub bound_read : (c : Channel) (n : ℕ) → n ≡ value_among cs ns.bounds.items ns.idle c → IsIn c (channels seen) → IsBound seen (entries.at c) n
    bound_read c n is there =
        subst (λ (x : Definition). IsBound x (entries.at c) n) same
        (λ a. is ∙ (ap (λ busy. value_among busy ns.bounds.items ns.idle c) v.busy_channels
        ∙ same_in (told_bound d ns) (λ e. bound_of d a (entries.at e)) (channels d) c (bounds_kept a) (subst (λ (x : Definition). IsIn c (channels x)) (sym same) there)))

    pub sources_read : (ss : List SourceBound) → ss ≡ ns.sources.items → AreSources seen ss
    sources_read ss kept = subst (λ (x : Definition). AreSources x ss) same (subst (AreSources d) (sym kept) sources_kept)

    pub build_read : IsBound seen entries.build ns.build
    build_read = subst (λ (x : Definition). IsBound x entries.build ns.build) same build_kept

    pub depth_read : IsDepth seen ns.depth
    depth_read = subst (λ (x : Definition). IsDepth x ns.depth) same depth_kept
