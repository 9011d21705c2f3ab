-- What is seen of the peers of a session, one by one.
use Rattle.std.proofs.Common.{◌≡◌, ◌≤◌, refl, ap, sym, ◌∙◌, subst, ℕ, zero, suc, Bool, true, false, List, [], ◌∷◌, length, Option, None, Some, arith}
use Rattle.std.specs.Option.{IsSomeAnd}
use Rattle.std.specs.Prelude.{IsTrue, slice_get}
use Rattle.ui_machine.specs.Definition.{Definition}
use Rattle.ui_machine.specs.Definition.Values.{Value}
use Rattle.ui_machine.specs.Seq.{read}
use Rattle.peer_shapes.specs.MethodViews.{is_plain_shape}
use Rattle.native_peers.specs.Moves.{ArgsFit}
use Rattle.native_peers.specs.Seen.{Seen}
use Rattle.engine_dispatches.specs.PoolView.{IsAskable, MayBeAsked}
use Rattle.engine_dispatches.proofs.Apt.{takes_plainly}
use Rattle.engine_dispatches.proofs.Asking.{open_there}
use Rattle.engine_dispatches.proofs.Living.{no_seen, read_at}

module _ (peers : List Seen) (k : ℕ) where
  both_there : (P Q R : Seen → Type 0) → ((p : Seen) → P p → Q p → R p) → (o : Option Seen) → IsSomeAnd o P → IsSomeAnd o Q → IsSomeAnd o R
  both_there P Q R on None p q = p
  both_there P Q R on (Some x) p q = on x p q

  -- a peer of plain methods that may be asked takes the arguments
  pub takes_args : (d : Definition) (method : ℕ) (args : List Value) → MayBeAsked d peers k method args
      → IsSomeAnd (slice_get peers k) (λ p. IsTrue (is_plain_shape p.state.shape)) → IsSomeAnd (slice_get peers k) (λ p. ArgsFit p.state method args)
  takes_args d method args asked plain =
      both_there _ (λ p. IsTrue (is_plain_shape p.state.shape)) (λ p. ArgsFit p.state method args)
      (λ p may is_plain. takes_plainly d p.state method args is_plain may.1) (slice_get peers k) asked plain

  read_past : (none : Seen) (xs : List Seen) (j : ℕ) → length xs ≤ j → read none xs j ≡ none
  read_past none [] j past = refl
  read_past none (x ∷ xs) zero past = absurd (omega (arith, past))
  read_past none (x ∷ xs) (suc j) past = read_past none xs j (omega (arith, past))

  -- where there is no peer nothing is open
  pub none_open : length peers ≤ k → (read no_seen peers k).state.is_open ≡ false
  none_open past = ap (λ (s : Seen). s.state.is_open) (read_past no_seen peers k past)

  -- a peer that answers whether it is open
  pub peer_opens : (b : Bool) → IsSomeAnd (slice_get peers k) (λ p. b ≡ p.state.is_open) → (read no_seen peers k).state.is_open ≡ b
  peer_opens b is = by (slice_get peers k) refl is
    where
      by : (o : Option Seen) → slice_get peers k ≡ o → IsSomeAnd o (λ p. b ≡ p.state.is_open) → (read no_seen peers k).state.is_open ≡ b
      by None at h = absurd h
      by (Some p) at h = ap (λ (s : Seen). s.state.is_open) (read_at no_seen p peers k at) ∙ sym h

  -- one that is seen to be open
  pub open_peer : (read no_seen peers k).state.is_open ≡ true → IsSomeAnd (slice_get peers k) (λ p. IsTrue p.state.is_open)
  open_peer is = let there = open_there peers k is in subst (λ (o : Option Seen). IsSomeAnd o (λ s. IsTrue s.state.is_open)) (sym there.1) there.2

  pub takes_args_by : (method : ℕ) (args : List Value) → IsAskable peers k method args
      → IsSomeAnd (slice_get peers k) (λ p. IsTrue (is_plain_shape p.state.shape)) → IsSomeAnd (slice_get peers k) (λ p. ArgsFit p.state method args)
  takes_args_by method args asked plain = takes_args asked.definition method args asked.may plain
