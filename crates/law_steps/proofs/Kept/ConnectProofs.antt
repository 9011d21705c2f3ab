-- A handler that bytecode connects.
use Rattle.std.proofs.Common.{◌≡◌, inl, inr, refl, sym, ap, subst, ◌∙◌, ℕ, suc, ◌<◌, ◌≤◌, Bool, true, false, cond, List, [], ◌∷◌, ◌++◌, length, Some, arith}
use Rattle.std.specs.Prelude.{not, ◌&&◌, nat_eq}
use Rattle.std.specs.List.{filter}
use Rattle.std.proofs.lemmas.Bool.{eqb-true}
use Rattle.ui_machine.specs.Seq.{total}
use Rattle.ui_machine.specs.Definition.{Definition}
use Rattle.ui_machine.specs.State.Handlers.{Handler}
use Rattle.ui_machine.specs.State.Tasks.{Task}
use Rattle.law_typing.specs.Graph.{Raised, graph, place_of_channel}
use Rattle.law_typing.specs.Graph.Tables.{Tables, of_program, greatest}
use Rattle.law_typing.specs.Graph.Ranks.{running_at}
use Rattle.law_typing.specs.Graph.Depths.{depth_within}
use Rattle.law_typing.specs.Verdict.Accepted.{Each}
use Rattle.law_typing.specs.Laws.{IsIn}
use Rattle.law_typing.specs.Good.Standing.{Standing, Rising}
use Rattle.law_typing.specs.Good.Handlers.{HandlerGood, runs_at, running_for, is_connected, ChannelGood, HandlersGood}
use Rattle.law_typing.proofs.Lists.{both_parts, greatest_in}
use Rattle.law_typing.proofs.EdgeProofs.{append_right}
use Rattle.law_steps.specs.Kept.Connect.{MayConnect, HandlerConnects}
use Rattle.law_steps.proofs.Kept.Left.{each_to}

-- ** lists with one more

module _ {A : Type 0} where
  pub each_last : (P : A → Type 0) (xs : List A) (x : A) → Each P xs → P x → Each P (xs ++ x ∷ [])
  each_last P [] x all here = (here, tt)
  each_last P (y ∷ ys) x all here = (all.0, each_last P ys x all.1 here)

  pub rising_last : (number : A → ℕ) (k : ℕ) (xs : List A) (x : A) → Rising number k xs → Each (λ y. number y < number x) xs → k ≤ number x → Rising number k (xs ++ x ∷ [])
  rising_last number k [] x r low least = (least, tt)
  rising_last number k (y ∷ ys) x r low least = (r.0, rising_last number (suc (number y)) ys x r.1 low.1 low.0)

  pub filter_last : (p : A → Bool) (xs : List A) (x : A) → filter p (xs ++ x ∷ []) ≡ filter p xs ++ cond (p x) (x ∷ []) []
  filter_last p [] x = refl
  filter_last p (y ∷ ys) x = go (p y) (filter_last p ys x)
    where
      go : (b : Bool) → filter p (ys ++ x ∷ []) ≡ filter p ys ++ cond (p x) (x ∷ []) [] →
          cond b (y ∷ filter p (ys ++ x ∷ [])) (filter p (ys ++ x ∷ [])) ≡ cond b (y ∷ filter p ys) (filter p ys) ++ cond (p x) (x ∷ []) []
      go true e = ap (λ (zs : List A). y ∷ zs) e
      go false e = e

  nothing_more : (xs : List A) → xs ++ [] ≡ xs
  nothing_more [] = refl
  nothing_more (x ∷ xs) = ap (λ (ys : List A). x ∷ ys) (nothing_more xs)

  -- one that does not pass is left out, and of one that does what is wanted holds
  pub not_last : (p : A → Bool) (xs : List A) (x : A) → p x ≡ false → filter p (xs ++ x ∷ []) ≡ filter p xs
  not_last p xs x e = filter_last p xs x ∙ (ap (λ b. filter p xs ++ cond b (x ∷ []) []) e ∙ nothing_more (filter p xs))

  pub each_passing : (P : A → Type 0) (p : A → Bool) (xs : List A) (x : A) → Each P (filter p xs) → (p x ≡ true → P x) → Each P (filter p (xs ++ x ∷ []))
  each_passing P p xs x all here = subst (Each P) (sym (filter_last p xs x)) (go (p x) refl)
    where
      go : (b : Bool) → p x ≡ b → Each P (filter p xs ++ cond b (x ∷ []) [])
      go true e = each_last P (filter p xs) x all (here e)
      go false e = subst (Each P) (sym (nothing_more (filter p xs))) all

  length_last : (xs : List A) (x : A) → length (xs ++ x ∷ []) ≡ suc (length xs)
  length_last [] x = refl
  length_last (y ∷ ys) x = let h = length_last ys x in omega (arith, h)

  pub each_inside : (P Q : A → Type 0) (rs : List A) → ((r : A) → IsIn r rs → P r → Q r) → Each P rs → Each Q rs
  each_inside P Q [] f all = tt
  each_inside P Q (r ∷ rs) f all = (f r (inl refl) all.0, each_inside P Q rs (λ x k. f x (inr k)) all.1)

-- ** the handlers with it

module _ (d : Definition) (costs depths : Tables) (s : Standing) (agenda : List Task) (last : ℕ) (hs : List Handler) (h : Handler) (may : MayConnect d s last hs h)
    (g : HandlersGood d costs depths s agenda last hs) where
  first_false : (a b : Bool) → a ≡ true → (not a && b) ≡ false
  first_false true b e = refl
  first_false false b e = absurd (cc)

  few : (id number : ℕ) → length (filter (is_connected id number) (hs ++ h ∷ [])) ≤ d.most_handlers
  few id number = go (is_connected id number h) refl
    where
      go : (b : Bool) → is_connected id number h ≡ b → length (filter (is_connected id number) (hs ++ h ∷ [])) ≤ d.most_handlers
      go false e = let same = ap (λ (xs : List Handler). length xs) (not_last (is_connected id number) hs h e) in let old = g.few id number in omega (arith, same, old)
      go true e =
          let p = both_parts h.by_code (nat_eq h.object id && nat_eq h.signal number) e in
          let q = both_parts (nat_eq h.object id) (nat_eq h.signal number) p.1 in
          let same = ap (λ (xs : List Handler). length xs) (filter_last (is_connected id number) hs h ∙ ap (λ b. filter (is_connected id number) hs ++ cond b (h ∷ []) []) e) in
          let one = length_last (filter (is_connected id number) hs) h in
          let room = subst (λ id. length (filter (is_connected id h.signal) hs) < d.most_handlers) (eqb-true h.object id q.0) may.room in
          let here = subst (λ number. length (filter (is_connected id number) hs) < d.most_handlers) (eqb-true h.signal number q.1) room in
          omega (arith, same, one, here)

  channel : (id place : ℕ) → s id ≡ Some place → (r : Raised) → IsIn r (graph d).raised → place_of_channel r.channel ≡ place → ChannelGood d costs depths agenda id hs r →
      ChannelGood d costs depths agenda id (hs ++ h ∷ []) r
  channel id place stands r there same old = record {
    own = (let less = ap (total (λ (h : Handler). of_program costs h.program)) no_own in let was = old.own in omega (arith, less, was));
    connected = each_passing (λ (h : Handler). of_program costs h.program ≤ greatest (of_program costs) r.connectable) (test true) hs h old.connected
        (λ e. greatest_in (of_program costs) r.connectable h.program (connectable e));
    own_shallow = subst (Each (λ (h : Handler). of_program depths h.program ≤ depth_within depths r)) (sym no_own) old.own_shallow;
    connected_shallow = each_passing (λ (h : Handler). of_program depths h.program ≤ depth_within depths r) (test true) hs h old.connected_shallow
        (λ e. (let deep = greatest_in (of_program depths) (running_at r) h.program (append_right r.class_handler (r.handlers ++ r.connectable) h.program (append_right r.handlers r.connectable h.program (connectable e))) in
        omega (arith, deep)));
  }
    where
      test : Bool → Handler → Bool
      test by_code h = cond by_code h.by_code (not h.by_code) && (nat_eq h.object id && runs_at d h r.channel)

      no_own : running_for d false id r.channel (hs ++ h ∷ []) ≡ running_for d false id r.channel hs
      no_own = not_last (test false) hs h (first_false h.by_code (nat_eq h.object id && runs_at d h r.channel) may.by_code)

      connectable : test true h ≡ true → IsIn h.program r.connectable
      connectable e =
          let p = both_parts h.by_code (nat_eq h.object id && runs_at d h r.channel) e in
          let q = both_parts (nat_eq h.object id) (runs_at d h r.channel) p.1 in
          may.connectable place (ap s (eqb-true h.object id q.0) ∙ stands) r there same q.1

  connects_good : HandlersGood d costs depths s agenda (suc last) (hs ++ h ∷ [])
  connects_good = record {
    each = each_last (HandlerGood d s) hs h g.each may.good;
    rising = rising_last (λ (h : Handler). h.number) 0 hs h g.rising
        (each_to (λ (x : Handler). x.number ≤ last) (λ (x : Handler). x.number < h.number) hs (λ x low. (let n = may.number in omega (arith, low, n))) g.numbered) (omega arith);
    numbered = each_last (λ (x : Handler). x.number ≤ suc last) hs h
        (each_to (λ (x : Handler). x.number ≤ last) (λ (x : Handler). x.number ≤ suc last) hs (λ x low. omega (arith, low)) g.numbered)
        (let n = may.number in omega (arith, n));
    few = few;
    channels = λ id place stands.
        each_inside (λ (r : Raised). place_of_channel r.channel ≡ place → ChannelGood d costs depths agenda id hs r)
        (λ (r : Raised). place_of_channel r.channel ≡ place → ChannelGood d costs depths agenda id (hs ++ h ∷ []) r) (graph d).raised
        (λ r there f same. channel id place stands r there same (f same)) (g.channels id place stands);
  }

pub handler_connects : HandlerConnects
handler_connects d costs depths s agenda last hs h may g = connects_good d costs depths s agenda last hs h may g
