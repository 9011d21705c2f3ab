-- What an accepted definition's graph has at a channel.
use Rattle.std.proofs.Common.{◌≡◌, inl, inr, ◌⊎◌, refl, sym, ap, subst, ◌∙◌, ℕ, zero, suc, ◌+◌, Bool, true, false, cond, List, [], ◌∷◌, map, Option, None, Some, slice_get, arith, lt-ltb}
use Rattle.std.specs.List.{list_any, filter, filter_map, find, cons_option}
use Rattle.std.proofs.lemmas.Bool.{eq-eqb}
use Rattle.ui_machine.specs.Definition.{Definition}
use Rattle.ui_machine.specs.Definition.Programs.{Program}
use Rattle.ui_machine.specs.Rules.Programs.{is_number}
use Rattle.law_typing.specs.Rules.Sites.{Site, sites}
use Rattle.law_typing.specs.Graph.Channels.{Channel, same_channel, channels, of_class}
use Rattle.law_typing.specs.Graph.{Connection, Raised, graph, connections, connection_of, connectable_at, may_be_at, source_named, is_source, sources_of}
use Rattle.law_typing.specs.Laws.{IsIn}
use Rattle.law_typing.proofs.Lists.{either_part, same_channel_true, any_true, filter_in}
use Rattle.law_typing.proofs.CostProofs.{costs_solved, depths_solved}
use Rattle.law_typing.proofs.EdgeProofs.{append_left, append_right, channel_is_raised}
use Rattle.law_typing.proofs.OneSolutionProofs.{find_in}
use Rattle.law_static.specs.Raises.{ChannelsKnown, ConnectionsKnown, SourcesKnown, raised_there}

-- ** channels

-- the first entry of a channel is what runs there
found_of : (f : Channel → Raised) → ((c : Channel) → (f c).channel ≡ c) → (cs : List Channel) (c : Channel) →
    list_any (λ (r : Raised). same_channel r.channel c) (map f cs) ≡ true → find (λ (r : Raised). same_channel r.channel c) (map f cs) ≡ Some (f c)
found_of f own [] c e = absurd (cc)
found_of f own (x ∷ cs) c e =
    go (λ h. found_of f own cs c h) (same_channel (f x).channel c) refl (either_part (same_channel (f x).channel c) (list_any (λ (r : Raised). same_channel r.channel c) (map f cs)) e)
  where
    Rest : Bool
    Rest = list_any (λ (r : Raised). same_channel r.channel c) (map f cs)

    found : Option Raised
    found = find (λ (r : Raised). same_channel r.channel c) (map f cs)

    go : (Rest ≡ true → found ≡ Some (f c)) → (b : Bool) → same_channel (f x).channel c ≡ b → (same_channel (f x).channel c ≡ true) ⊎ (Rest ≡ true) →
        cond b (Some (f x)) found ≡ Some (f c)
    go later true t h = ap (λ c. Some (f c)) (sym (own x) ∙ same_channel_true (f x).channel c t)
    go later false t (inl h) = absurd (cc)
    go later false t (inr h) = later h

pub channels_known : ChannelsKnown
channels_known d a c e =
    let found = found_of (raised_there d) (λ c. refl) (channels d) c (channel_is_raised d c e) in
    record {
      found = found;
      known = (find_in (λ (r : Raised). same_channel r.channel c) (graph d).raised (raised_there d c) found).0;
      costs = (costs_solved (graph d) a.weighed.costs a.weighed.solves_costs).0 c (raised_there d c) found;
      deep = (depths_solved (graph d) a.weighed.depths a.weighed.solves_depths).0 c (raised_there d c) found;
    }

-- ** programs that instructions name

in_option : {B : Type 0} (o : Option B) (bs : List B) (b : B) → o ≡ Some b → IsIn b (cons_option o bs)
in_option None bs b e = absurd (cc)
in_option (Some c) bs b e = inl (let s : c ≡ b = cc in sym s)

past_option : {B : Type 0} (o : Option B) (bs : List B) (b : B) → IsIn b bs → IsIn b (cons_option o bs)
past_option None bs b h = h
past_option (Some c) bs b h = inr h

pub in_filter_map : {A B : Type 0} (h : A → Option B) (xs : List A) (x : A) (b : B) → h x ≡ Some b → IsIn x xs → IsIn b (filter_map h xs)
in_filter_map h [] x b e there = there
in_filter_map h (y ∷ ys) x b e (inl s) = in_option (h y) (filter_map h ys) b (ap h (sym s) ∙ e)
in_filter_map h (y ∷ ys) x b e (inr there) = past_option (h y) (filter_map h ys) b (in_filter_map h ys x b e there)

pub connections_known : ConnectionsKnown
connections_known d site n program class c there makes names is may some =
    let ns = connections d (sites d) in
    let known = in_filter_map (λ (s : Site). connection_of d s.kinds s.instruction) (sites d) site n makes there in
    let listed = in_filter_map (λ (n : Connection). n.program) (filter (may_be_at d c class) ns) n program names (filter_in (may_be_at d c class) ns n may known) in
    let at = λ (class : ℕ). filter_map (λ (n : Connection). n.program) (filter (may_be_at d c class) ns) in
    let here = subst (λ o. IsIn program (of_class at o)) (sym is) listed in
    subst (λ b. IsIn program (cond b (connectable_at d ns c) [])) (sym (lt-ltb 0 d.most_handlers some)) here

source_in : (d : Definition) (m n number : ℕ) (ps : List Program) (p : Program) → number ≡ m + n → slice_get ps n ≡ Some p →
    is_source d (sites d) number ≡ true → IsIn number (sources_of d (sites d) m ps)
source_in d m n number [] p e is h = absurd (cc)
source_in d m zero number (x ∷ ps) p e is h =
    let same : number ≡ m = omega (arith, e) in
    append_left (cond (is_source d (sites d) m) (m ∷ []) []) (sources_of d (sites d) (suc m) ps) number
    (subst (λ b. IsIn number (cond b (m ∷ []) [])) (sym (ap (is_source d (sites d)) (sym same) ∙ h)) (inl same))
source_in d m (suc n) number (x ∷ ps) p e is h =
    append_right (cond (is_source d (sites d) m) (m ∷ []) []) (sources_of d (sites d) (suc m) ps) number
    (source_in d (suc m) n number ps p (omega (arith, e)) is h)

pub sources_known : SourcesKnown
sources_known d site program p there names is =
    source_in d 0 program program d.programs p (omega arith) is
    (any_true (λ (s : Site). is_number program (source_named d s.instruction)) (sites d) site there
    (ap (is_number program) names ∙ eq-eqb program program refl))
