-- A peer's line of a close comes once at most.
use Rattle.std.proofs.Common.{◌≡◌, refl, ap, sym, ◌∙◌, ℕ, Bool, true, false, cond, List, [], ◌∷◌, ◌++◌, nat_eq, Option, None, Some, inl, inr, ◌⊎◌}
use Rattle.std.specs.List.{filter}
use Rattle.std.specs.Prelude.{codes}
use Rattle.std.proofs.lemmas.Bool.{eq-eqb, eqb-true, false≢true}
use Rattle.ui_machine.specs.Definition.{Definition}
use Rattle.ui_machine.specs.Definition.Names.{same_name}
use Rattle.ui_machine.specs.Definition.Signals.{Method}
use Rattle.ui_machine.specs.Definition.Values.{Value}
use Rattle.ui_machine.specs.Instructions.Peers.{call_line}
use Rattle.ui_machine.specs.Output.Text.{text_of_line}
use Rattle.ui_machine.specs.Rules.Construction.{lent}
use Rattle.ui_machine.specs.Seq.{read}
use Rattle.ui_machine.specs.State.Peers.{Peer, PeerState, Reply, closed_peer}
use Rattle.law_peers.specs.PeerLaws.{ClosesOnce, Lives, close_line, has_replied, no_method, nothing, peer_in, replied_in, reply_line, shut_in, was_closed, was_got}
use Rattle.law_peers.proofs.LifeProofs.{kept, read_other, read_same}
use Rattle.law_peers.proofs.NameProofs.{is_same, itself}

module _ (d : Definition) (k : ℕ) (name : List ℕ) where
  abbrev closed_as : List ℕ
  closed_as = codes "close " ++ name

  -- the lines of a close with this name
  abbrev its : List (List ℕ) → List (List ℕ)
  its ls = filter (same_name closed_as) ls

  -- no other peer has the name
  abbrev Alone : List Peer → Type 0
  Alone ps = (j : ℕ) → (peer_in ps j).name ≡ name → j ≡ k

  -- a pool with the same names
  renamed : (ps qs : List Peer) → ((j : ℕ) → (peer_in qs j).name ≡ (peer_in ps j).name) → Alone ps → Alone qs
  renamed ps qs same alone j e = alone j (sym (same j) ∙ e)

  got_names : (ps : List Peer) (number object : ℕ) → Alone ps → Alone (lent (Some number) object ps)
  got_names ps number object = renamed ps (lent (Some number) object ps) (λ j. kept (λ (p : Peer). p.name) ps number j (record (peer_in ps number) { holder = Some object }) refl)

  replied_names : (ps : List Peer) (r : Reply) → Alone ps → Alone (replied_in ps r)
  replied_names ps r = renamed ps (replied_in ps r) (λ j. kept (λ (p : Peer). p.name) ps r.question.peer j (record (peer_in ps r.question.peer) { state = r.state }) refl)

  shut_names : (ps : List Peer) (number : ℕ) → Alone ps → Alone (shut_in ps number)
  shut_names ps number = renamed ps (shut_in ps number) (λ j. kept (λ (p : Peer). p.name) ps number j (closed_peer (peer_in ps number)) refl)

  said_not : (p : Peer) (m : Method) (args : List Value) (answer : Option Value) → same_name closed_as (text_of_line d.types (call_line p m args answer)) ≡ false
  said_not p m args None = refl
  said_not p m args (Some v) = refl

  tested : (line : List ℕ) (ls : List (List ℕ)) (b : Bool) → same_name closed_as line ≡ b → its (line ∷ ls) ≡ cond b (line ∷ its ls) (its ls)
  tested line ls b e = ap (λ c. cond c (line ∷ its ls) (its ls)) e

  of_reply : (ps : List Peer) (r : Reply) (line : List ℕ) (ls : List (List ℕ)) → line ≡ reply_line d ps r → its (line ∷ ls) ≡ its ls
  of_reply ps r line ls said =
      tested line ls false (ap (same_name closed_as) said ∙ said_not (peer_in ps r.question.peer) (read no_method r.question.state.shape r.question.method) r.question.args r.answer)

  of_other : (ps : List Peer) (number : ℕ) (line : List ℕ) (ls : List (List ℕ)) → Alone ps → nat_eq number k ≡ false → line ≡ close_line d ps number → its (line ∷ ls) ≡ its ls
  of_other ps number line ls alone other said = by (same_name closed_as line) refl
    where
      by : (b : Bool) → same_name closed_as line ≡ b → its (line ∷ ls) ≡ its ls
      by true e = absurd (false≢true (sym other ∙ eq-eqb number k (alone number (sym (is_same name (peer_in ps number).name (ap (same_name closed_as) (sym said) ∙ e))))))
      by false e = tested line ls false e

  -- of a closed peer there is none
  none : (ps : List Peer) (rs : List Reply) (ls : List (List ℕ)) (qs : List Peer) → Lives d ps rs ls qs → Alone ps → (peer_in ps k).state.is_open ≡ false → its ls ≡ []
  none ps rs ls qs nothing alone closed = refl
  none ps rs ls qs (was_got number object x) alone closed =
      none (lent (Some number) object ps) rs ls qs x (got_names ps number object alone)
      (kept (λ (p : Peer). p.state.is_open) ps number k (record (peer_in ps number) { holder = Some object }) refl ∙ closed)
  none ps (r ∷ rs) (line ∷ ls) qs (has_replied asked opened said x) alone closed =
      of_reply ps r line ls said
      ∙ none (replied_in ps r) rs ls qs x (replied_names ps r alone) (by (nat_eq r.question.peer k) refl)
    where
      by : (b : Bool) → nat_eq r.question.peer k ≡ b → (peer_in (replied_in ps r) k).state.is_open ≡ false
      by true e = absurd (false≢true (sym closed ∙ (ap (λ n. (peer_in ps n).state.is_open) (sym (eqb-true r.question.peer k e)) ∙ (ap (λ (s : PeerState). s.is_open) (sym asked) ∙ opened))))
      by false e = ap (λ (p : Peer). p.state.is_open) (read_other ps r.question.peer k (record (peer_in ps r.question.peer) { state = r.state }) e) ∙ closed
  none ps rs (line ∷ ls) qs (was_closed number opened said x) alone closed =
      by (λ still. none (shut_in ps number) rs ls qs x (shut_names ps number alone) still) (nat_eq number k) refl
    where
      by : ((peer_in (shut_in ps number) k).state.is_open ≡ false → its ls ≡ []) → (b : Bool) → nat_eq number k ≡ b → its (line ∷ ls) ≡ []
      by rest true e = absurd (false≢true (sym closed ∙ (ap (λ n. (peer_in ps n).state.is_open) (sym (eqb-true number k e)) ∙ opened)))
      by rest false e =
          of_other ps number line ls alone e said
          ∙ rest (ap (λ (p : Peer). p.state.is_open) (read_other ps number k (closed_peer (peer_in ps number)) e) ∙ closed)

  abbrev Once : List (List ℕ) → Type 0
  Once ls = (its ls ≡ []) ⊎ (its ls ≡ closed_as ∷ [])

  of_same : (ls ms : List (List ℕ)) → its ls ≡ its ms → Once ms → Once ls
  of_same ls ms same (inl e) = inl (same ∙ e)
  of_same ls ms same (inr e) = inr (same ∙ e)

  once : (ps : List Peer) (rs : List Reply) (ls : List (List ℕ)) (qs : List Peer) → Lives d ps rs ls qs → Alone ps → (peer_in ps k).name ≡ name → Once ls
  once ps rs ls qs nothing alone named = inl refl
  once ps rs ls qs (was_got number object x) alone named =
      once (lent (Some number) object ps) rs ls qs x (got_names ps number object alone)
      (kept (λ (p : Peer). p.name) ps number k (record (peer_in ps number) { holder = Some object }) refl ∙ named)
  once ps (r ∷ rs) (line ∷ ls) qs (has_replied asked opened said x) alone named =
      of_same (line ∷ ls) ls (of_reply ps r line ls said)
      (once (replied_in ps r) rs ls qs x (replied_names ps r alone)
      (kept (λ (p : Peer). p.name) ps r.question.peer k (record (peer_in ps r.question.peer) { state = r.state }) refl ∙ named))
  once ps rs (line ∷ ls) qs (was_closed number opened said x) alone named =
      by (λ still. none (shut_in ps number) rs ls qs x (shut_names ps number alone) still)
      (once (shut_in ps number) rs ls qs x (shut_names ps number alone) (kept (λ (p : Peer). p.name) ps number k (closed_peer (peer_in ps number)) refl ∙ named))
      (nat_eq number k) refl
    where
      by : ((peer_in (shut_in ps number) k).state.is_open ≡ false → its ls ≡ []) → Once ls → (b : Bool) → nat_eq number k ≡ b → Once (line ∷ ls)
      by rest later false e = of_same (line ∷ ls) ls (of_other ps number line ls alone e said) later
      by rest later true e =
          let here : number ≡ k = eqb-true number k e in
          let line_is : line ≡ closed_as = said ∙ ap (λ n. codes "close " ++ n) (ap (λ n. (peer_in ps n).name) here ∙ named) in
          let shut_there : (peer_in (shut_in ps number) k).state.is_open ≡ false =
          ap (λ n. (peer_in (shut_in ps number) n).state.is_open) (sym here) ∙ ap (λ (p : Peer). p.state.is_open) (read_same ps number (closed_peer (peer_in ps number))) in
          inr (tested line ls true (ap (same_name closed_as) line_is ∙ itself closed_as) ∙ (ap (λ t. line ∷ t) (rest shut_there) ∙ ap (λ l. l ∷ []) line_is))

pub closes_once : ClosesOnce
closes_once d k ps rs ls qs lives apart = once d k (peer_in ps k).name ps rs ls qs lives (λ j e. apart.alone j e) refl
