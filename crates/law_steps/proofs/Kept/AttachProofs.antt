-- A signal of the definition that the build connects.
use Rattle.std.proofs.Common.{◌≡◌, refl, sym, ap, subst, ◌∙◌, ℕ, suc, ◌+◌, ◌<◌, ◌≤◌, Bool, true, false, cond, List, [], ◌∷◌, ◌++◌, length, Some, arith}
use Rattle.std.specs.Prelude.{not, ◌&&◌, nat_eq}
use Rattle.std.specs.List.{filter}
use Rattle.std.proofs.lemmas.Bool.{eqb-true}
use Rattle.ui_machine.specs.Seq.{total}
use Rattle.ui_machine.specs.Definition.{Definition}
use Rattle.ui_machine.specs.State.Handlers.{Handler}
use Rattle.ui_machine.specs.State.Tasks.{Item, connects, Task, Building}
use Rattle.law_typing.specs.Graph.{Raised, graph, place_of_channel}
use Rattle.law_typing.specs.Graph.Tables.{Tables, of_program, greatest}
use Rattle.law_typing.specs.Graph.Ranks.{running_at}
use Rattle.law_typing.specs.Graph.Depths.{depth_within}
use Rattle.law_typing.specs.Verdict.Accepted.{Each}
use Rattle.law_typing.specs.Laws.{IsIn}
use Rattle.law_typing.specs.Good.Standing.{Standing}
use Rattle.law_typing.specs.Good.Handlers.{HandlerGood, runs_at, running_for, is_connected, connecting_cost, ChannelGood, HandlersGood}
use Rattle.law_typing.proofs.Lists.{both_parts, greatest_in}
use Rattle.law_typing.proofs.EdgeProofs.{append_left, append_right}
use Rattle.law_steps.specs.Kept.Attach.{MayAttach, HandlerAttaches, HandlersWaitLess}
use Rattle.law_steps.proofs.Kept.ConnectProofs.{each_last, rising_last, filter_last, not_last, each_passing, each_inside}
use Rattle.law_steps.proofs.Kept.Left.{each_to}

total_last : (f : Handler → ℕ) (xs : List Handler) (x : Handler) → total f (xs ++ x ∷ []) ≡ total f xs + f x
total_last f [] x = omega arith
total_last f (y ∷ ys) x = let h = total_last f ys x in omega (arith, h)

-- what passes a test adds its own
total_passing : (f : Handler → ℕ) (p : Handler → Bool) (xs : List Handler) (x : Handler) (most : ℕ) → (p x ≡ true → f x ≤ most) → total f (filter p (xs ++ x ∷ [])) ≤ total f (filter p xs) + most
total_passing f p xs x most less = go (p x) refl
  where
    go : (b : Bool) → p x ≡ b → total f (filter p (xs ++ x ∷ [])) ≤ total f (filter p xs) + most
    go true e =
        let same = ap (total f) (filter_last p xs x ∙ ap (λ b. filter p xs ++ cond b (x ∷ []) []) e) in
        let sum = total_last f (filter p xs) x in
        let own = less e in
        omega (arith, same, sum, own)
    go false e = let same = ap (total f) (not_last p xs x e) in omega (arith, same)

module _ (d : Definition) (costs depths : Tables) (s : Standing) (items : List Item) (rest : List Task) (last place number : ℕ) (hs : List Handler) (h : Handler) (may : MayAttach d costs s last place number h)
    (g : HandlersGood d costs depths s (Building (connects place number ∷ items) ∷ rest) last hs) where
  second_false : (a b : Bool) → a ≡ false → (a && b) ≡ false
  second_false true b e = absurd (cc)
  second_false false b e = refl

  few : (id signal : ℕ) → length (filter (is_connected id signal) (hs ++ h ∷ [])) ≤ d.most_handlers
  few id signal =
      let none = second_false h.by_code (nat_eq h.object id && nat_eq h.signal signal) may.by_definition in
      let same = ap (λ (xs : List Handler). length xs) (not_last (is_connected id signal) hs h none) in
      let old = g.few id signal in
      omega (arith, same, old)

  channel : (id at : ℕ) → s id ≡ Some at → (r : Raised) → IsIn r (graph d).raised → place_of_channel r.channel ≡ at → ChannelGood d costs depths (Building (connects place number ∷ items) ∷ rest) id hs r →
      ChannelGood d costs depths (Building items ∷ rest) id (hs ++ h ∷ []) r
  channel id at stands r there same old = record {
    own = (let was = old.own in
        let more = total_passing (λ (h : Handler). of_program costs h.program) (test false) hs h (connecting_cost d costs r.channel (connects place number)) (λ e. (paid e).0) in
        omega (arith, was, more));
    connected = subst (Each (λ (h : Handler). of_program costs h.program ≤ greatest (of_program costs) r.connectable)) (sym no_more) old.connected;
    own_shallow = each_passing (λ (h : Handler). of_program depths h.program ≤ depth_within depths r) (test false) hs h old.own_shallow
        (λ e. (let deep = greatest_in (of_program depths) (running_at r) h.program (append_right r.class_handler (r.handlers ++ r.connectable) h.program (append_left r.handlers r.connectable h.program (paid e).1)) in
        omega (arith, deep)));
    connected_shallow = subst (Each (λ (h : Handler). of_program depths h.program ≤ depth_within depths r)) (sym no_more) old.connected_shallow;
  }
    where
      test : Bool → Handler → Bool
      test by_code h = cond by_code h.by_code (not h.by_code) && (nat_eq h.object id && runs_at d h r.channel)

      no_more : running_for d true id r.channel (hs ++ h ∷ []) ≡ running_for d true id r.channel hs
      no_more = not_last (test true) hs h (second_false h.by_code (nat_eq h.object id && runs_at d h r.channel) may.by_definition)

      paid : test false h ≡ true → (of_program costs h.program ≤ connecting_cost d costs r.channel (connects place number)) × IsIn h.program r.handlers
      paid e =
          let p = both_parts (not h.by_code) (nat_eq h.object id && runs_at d h r.channel) e in
          let q = both_parts (nat_eq h.object id) (runs_at d h r.channel) p.1 in
          let here : at ≡ place = (let f = sym stands ∙ (ap s (sym (eqb-true h.object id q.0)) ∙ may.at) in cc) in
          may.paid r there (same ∙ here) q.1

  attaches : HandlersGood d costs depths s (Building items ∷ rest) (suc last) (hs ++ h ∷ [])
  attaches = record {
    each = each_last (HandlerGood d s) hs h g.each may.good;
    rising = rising_last (λ (h : Handler). h.number) 0 hs h g.rising
        (each_to (λ (x : Handler). x.number ≤ last) (λ (x : Handler). x.number < h.number) hs (λ x low. (let n = may.next in omega (arith, low, n))) g.numbered) (omega arith);
    numbered = each_last (λ (x : Handler). x.number ≤ suc last) hs h
        (each_to (λ (x : Handler). x.number ≤ last) (λ (x : Handler). x.number ≤ suc last) hs (λ x low. omega (arith, low)) g.numbered)
        (let n = may.next in omega (arith, n));
    few = few;
    channels = λ id at stands.
        each_inside (λ (r : Raised). place_of_channel r.channel ≡ at → ChannelGood d costs depths (Building (connects place number ∷ items) ∷ rest) id hs r)
        (λ (r : Raised). place_of_channel r.channel ≡ at → ChannelGood d costs depths (Building items ∷ rest) id (hs ++ h ∷ []) r) (graph d).raised
        (λ r there f same. channel id at stands r there same (f same)) (g.channels id at stands);
  }

pub handler_attaches : HandlerAttaches
handler_attaches d costs depths s items rest last place number hs h may g = attaches d costs depths s items rest last place number hs h may g

pub handlers_wait_less : HandlersWaitLess
handlers_wait_less d costs depths s a b last hs less g = record {
  each = g.each;
  rising = g.rising;
  numbered = g.numbered;
  few = g.few;
  channels = λ id at stands.
      each_to (λ (r : Raised). place_of_channel r.channel ≡ at → ChannelGood d costs depths a id hs r)
      (λ (r : Raised). place_of_channel r.channel ≡ at → ChannelGood d costs depths b id hs r) (graph d).raised
      (λ r f same. (let old = f same in record {
        own = (let was = old.own in let l = less (connecting_cost d costs r.channel) in omega (arith, was, l));
        connected = old.connected;
        own_shallow = old.own_shallow;
        connected_shallow = old.connected_shallow;
      })) (g.channels id at stands);
}
