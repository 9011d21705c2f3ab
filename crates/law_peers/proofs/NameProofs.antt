-- The lines of a peer's replies, by its name.
use Rattle.std.proofs.Common.{◌≡◌, refl, ap, sym, ◌∙◌, ℕ, Bool, true, false, cond, List, [], ◌∷◌, ◌++◌, map, nat_eq, Option, None, Some, append_assoc, arith}
use Rattle.std.specs.List.{filter}
use Rattle.std.specs.Prelude.{codes, ◌||◌}
use Rattle.std.proofs.lemmas.Bool.{eq-eqb, eqb-true, false≢true}
use Rattle.std.proofs.lemmas.Bool.Decides.{nat_tests}
use Rattle.ui_machine.specs.Definition.{Definition}
use Rattle.ui_machine.specs.Definition.Names.{same_name}
use Rattle.ui_machine.specs.Definition.Signals.{Method}
use Rattle.ui_machine.specs.Definition.Values.{Value}
use Rattle.ui_machine.specs.Instructions.Peers.{call_line}
use Rattle.ui_machine.specs.Output.Text.{text_of_line, text_of_value, text_of_values}
use Rattle.ui_machine.specs.Seq.{read}
use Rattle.ui_machine.specs.State.Peers.{Peer, Reply}
use Rattle.law_peers.specs.PeerLines.{begins_with, has_no_point, is_reply_line, is_reply_line_of}
use Rattle.law_peers.specs.PeerLaws.{IsNamedApart, LinesByName, no_method, peer_in, replies_of, reply_line}
use Rattle.law_peers.proofs.LifeProofs.{lines_of_replies}

-- ** names

pub itself : (s : List ℕ) → same_name s s ≡ true
itself [] = refl
itself (x ∷ xs) = ap (λ b. cond b (same_name xs xs) false) (eq-eqb x x refl) ∙ itself xs

pub is_same : (a b : List ℕ) → same_name a b ≡ true → a ≡ b
is_same [] [] e = refl
is_same [] (y ∷ ys) e = absurd (cc)
is_same (x ∷ xs) [] e = absurd (cc)
is_same (x ∷ xs) (y ∷ ys) e = go (λ h. is_same xs ys h) (nat_eq x y) refl e
  where
    go : (same_name xs ys ≡ true → xs ≡ ys) → (b : Bool) → nat_eq x y ≡ b → cond b (same_name xs ys) false ≡ true → x ∷ xs ≡ y ∷ ys
    go rest true t e = (let f = eqb-true x y t in let g = rest e in cc)
    go rest false t e = absurd (cc)

no_head : (x : ℕ) (xs : List ℕ) → has_no_point (x ∷ xs) ≡ true → (nat_eq x 46 ≡ false) × (has_no_point xs ≡ true)
no_head x xs e = by (nat_eq x 46) refl e
  where
    by : (b : Bool) → nat_eq x 46 ≡ b → cond b false (has_no_point xs) ≡ true → (nat_eq x 46 ≡ false) × (has_no_point xs ≡ true)
    by true t e = absurd (cc)
    by false t e = (t, e)

turned : (x : ℕ) → nat_eq x 46 ≡ false → nat_eq 46 x ≡ false
turned x e = grind (arith, nat_tests)

-- a name with a point behind it begins what another name and a point begin where they are one
begins : (n m rest : List ℕ) → has_no_point n ≡ true → has_no_point m ≡ true → begins_with (n ++ 46 ∷ []) (m ++ 46 ∷ rest) ≡ same_name n m
begins [] [] rest p q = refl
begins [] (y ∷ m) rest p q = ap (λ b. cond b true false) (turned y (no_head y m q).0)
begins (x ∷ n) [] rest p q = ap (λ b. cond b (begins_with (n ++ 46 ∷ []) rest) false) (no_head x n p).0
begins (x ∷ n) (y ∷ m) rest p q = ap (λ b. cond (nat_eq x y) b false) (begins n m rest (no_head x n p).1 (no_head y m q).1)

or_false : (b : Bool) → (b || false) ≡ b
or_false true = refl
or_false false = refl

-- ** lines

front : (a b line : List ℕ) → begins_with (a ++ b) line ≡ true → begins_with a line ≡ true
front [] b line e = refl
front (x ∷ a) b [] e = absurd (cc)
front (x ∷ a) b (y ∷ line) e = by (nat_eq x y) (λ h. front a b line h) e
  where
    by : (t : Bool) → (begins_with (a ++ b) line ≡ true → begins_with a line ≡ true) → cond t (begins_with (a ++ b) line) false ≡ true → cond t (begins_with a line) false ≡ true
    by true rest e = rest e
    by false rest e = absurd (cc)

either : (a b c e : Bool) → (a ≡ true → c ≡ true) → (b ≡ true → e ≡ true) → (a || b) ≡ true → (c || e) ≡ true
either true b c e f g h = ap (λ x. x || e) (f refl)
either false true c true f g h = by c
  where
    by : (c : Bool) → (c || true) ≡ true
    by true = refl
    by false = refl
either false true c false f g h = absurd (false≢true (g refl))
either false false c e f g h = absurd (cc)

of_name : (name line : List ℕ) → is_reply_line_of name line ≡ true → is_reply_line line ≡ true
of_name name line e =
    either (begins_with (codes "call " ++ (name ++ codes ".")) line) (begins_with (codes "fault " ++ (name ++ codes ".")) line)
    (begins_with (codes "call ") line) (begins_with (codes "fault ") line)
    (front (codes "call ") (name ++ codes ".") line) (front (codes "fault ") (name ++ codes ".") line) e

-- a test that another one follows from may be made behind it
filter_behind : (p q : List ℕ → Bool) → ((l : List ℕ) → p l ≡ true → q l ≡ true) → (ls : List (List ℕ)) → filter p (filter q ls) ≡ filter p ls
filter_behind p q then [] = refl
filter_behind p q then (l ∷ ls) = by (q l) (p l) refl refl (filter_behind p q then ls)
  where
    by : (s t : Bool) → q l ≡ s → p l ≡ t → filter p (filter q ls) ≡ filter p ls → filter p (cond (q l) (l ∷ filter q ls) (filter q ls)) ≡ cond (p l) (l ∷ filter p ls) (filter p ls)
    by true t e f rest = ap (λ b. filter p (cond b (l ∷ filter q ls) (filter q ls))) e ∙ ap (λ xs. cond (p l) (l ∷ xs) xs) rest
    by false true e f rest = absurd (false≢true (sym e ∙ then l f))
    by false false e f rest = ap (λ b. filter p (cond b (l ∷ filter q ls) (filter q ls))) e ∙ (rest ∙ ap (λ b. cond b (l ∷ filter p ls) (filter p ls)) (sym f))

module _ (d : Definition) where
  is_of : (n : List ℕ) (p : Peer) (m : Method) (args : List Value) (answer : Option Value) → has_no_point n ≡ true → has_no_point p.name ≡ true →
      is_reply_line_of n (text_of_line d.types (call_line p m args answer)) ≡ same_name n p.name
  is_of n p m args None plain other = begins n p.name (m.name ++ (codes "(" ++ (text_of_values d.types args ++ codes ")"))) plain other
  is_of n p m args (Some v) plain other =
      or_false (begins_with (n ++ 46 ∷ []) ((p.name ++ 46 ∷ (m.name ++ (codes "(" ++ (text_of_values d.types args ++ codes ")")))) ++ (codes " = " ++ text_of_value d.types v)))
      ∙ (ap (begins_with (n ++ 46 ∷ [])) (append_assoc p.name (46 ∷ (m.name ++ (codes "(" ++ (text_of_values d.types args ++ codes ")")))) (codes " = " ++ text_of_value d.types v))
      ∙ begins n p.name ((m.name ++ (codes "(" ++ (text_of_values d.types args ++ codes ")"))) ++ (codes " = " ++ text_of_value d.types v)) plain other)

  module _ (k : ℕ) (peers : List Peer) (apart : IsNamedApart peers k) where
    is_its : (r : Reply) → is_reply_line_of (peer_in peers k).name (reply_line d peers r) ≡ nat_eq r.question.peer k
    is_its r =
        is_of (peer_in peers k).name (peer_in peers r.question.peer) (read no_method r.question.state.shape r.question.method) r.question.args r.answer
        (apart.plain k) (apart.plain r.question.peer)
        ∙ by (nat_eq r.question.peer k) (same_name (peer_in peers k).name (peer_in peers r.question.peer).name) refl refl
      where
        by : (a b : Bool) → nat_eq r.question.peer k ≡ a → same_name (peer_in peers k).name (peer_in peers r.question.peer).name ≡ b →
            same_name (peer_in peers k).name (peer_in peers r.question.peer).name ≡ nat_eq r.question.peer k
        by true b e f = ap (λ n. same_name (peer_in peers k).name (peer_in peers n).name) (eqb-true r.question.peer k e) ∙ (itself (peer_in peers k).name ∙ sym e)
        by false true e f = absurd (false≢true (sym e ∙ eq-eqb r.question.peer k (apart.alone r.question.peer (sym (is_same (peer_in peers k).name (peer_in peers r.question.peer).name f)))))
        by false false e f = f ∙ sym e

    those : (rs : List Reply) → filter (is_reply_line_of (peer_in peers k).name) (map (reply_line d peers) rs) ≡ map (reply_line d peers) (replies_of k rs)
    those [] = refl
    those (r ∷ rs) = by (nat_eq r.question.peer k) refl (those rs)
      where
        kept : List (List ℕ)
        kept = filter (is_reply_line_of (peer_in peers k).name) (map (reply_line d peers) rs)

        by : (b : Bool) → nat_eq r.question.peer k ≡ b → kept ≡ map (reply_line d peers) (replies_of k rs) →
            cond (is_reply_line_of (peer_in peers k).name (reply_line d peers r)) (reply_line d peers r ∷ kept) kept ≡ map (reply_line d peers) (cond (nat_eq r.question.peer k) (r ∷ replies_of k rs) (replies_of k rs))
        by true e rest =
            ap (λ t. cond t (reply_line d peers r ∷ kept) kept) (is_its r ∙ e)
            ∙ (ap (λ t. reply_line d peers r ∷ t) rest ∙ ap (λ t. map (reply_line d peers) (cond t (r ∷ replies_of k rs) (replies_of k rs))) (sym e))
        by false e rest =
            ap (λ t. cond t (reply_line d peers r ∷ kept) kept) (is_its r ∙ e)
            ∙ (rest ∙ ap (λ t. map (reply_line d peers) (cond t (r ∷ replies_of k rs) (replies_of k rs))) (sym e))

pub lines_by_name : LinesByName
lines_by_name d k peers rs ls new lives apart =
    let n = (peer_in peers k).name in
    sym (filter_behind (is_reply_line_of n) is_reply_line (of_name n) ls)
    ∙ (ap (filter (is_reply_line_of n)) (lines_of_replies d peers rs ls new lives) ∙ those d k peers apart rs)
