-- The lines of a screen are short, and so is what it reads of them.
use Rattle.std.proofs.Common.{◌≡◌, ℕ, zero, suc, ◌≤◌, List, [], ◌∷◌, length, map, Option, None, Result, Ok, Err, subst, sym, refl}
use Rattle.std.specs.List.{All}
use Rattle.std.specs.Prelude.{IfOk, IsTrue, slice_get}
use Rattle.std.proofs.lemmas.List.Elements.{All-head, All-tail}
use Rattle.ui_machine.specs.Definition.Kinds as kinds
use Rattle.ui_machine.specs.Definition.Values.{Value}
use Rattle.ui_machine.specs.Definition.Values as values
use Rattle.ui_machine.specs.Instructions.Arithmetic.{most_bytes}
use Rattle.ui_machine.specs.Rules.Transform.{kind_fits}
use Rattle.ui_machine.specs.Runs.{IsShort}
use Rattle.g_values.specs.View.{value_view}
use Rattle.g_values.specs.declared.value.Value as code
use Rattle.native_peers.specs.Moves.{Answers, MethodTakes, answer_of}
use Rattle.native_peers.specs.declared.faults.PeerFault.{PeerFault}
use Rattle.host_peers.specs.Screens.{Reads, screen_shape}

module _ {X : Type 0} (bytes : X → List ℕ) where
  -- the text of a place is short, if there is one
  short_at : (xs : List X) (place : ℕ) → All (λ x. length (bytes x) ≤ most_bytes) xs → IsShort (values.text (slice_get (map bytes xs) place))
  short_at [] place short = tt
  short_at (x ∷ xs) zero short = All-head (λ x. length (bytes x) ≤ most_bytes) x xs short
  short_at (x ∷ xs) (suc place) short = short_at xs place (All-tail (λ x. length (bytes x) ≤ most_bytes) x xs short)

  fits_text : (s : Option (List ℕ)) → IsTrue (kind_fits (λ _. None) [] (values.text s) kinds.text)
  fits_text s = refl

  -- what is read fits the method
  pub read_fits : (xs : List X) (method place : ℕ) (args : List Value) (r : Result code.Value PeerFault)
      → (method ≡ 0 → ⊥) → MethodTakes (slice_get screen_shape method) args → All (λ x. length (bytes x) ≤ most_bytes) xs
      → IfOk r (λ v. Reads (map bytes xs) place (value_view v) (map bytes xs)) → Answers (slice_get screen_shape method) (answer_of r)
  read_fits xs method place args (Err fault) other takes short read = tt
  read_fits xs zero place args (Ok v) other takes short read = absurd (other refl)
  read_fits xs (suc zero) place args (Ok v) other takes short read =
      let at : values.text (slice_get (map bytes xs) place) ≡ value_view v = sym read.read in
      subst (λ (w : Value). IsTrue (kind_fits (λ _. None) [] w kinds.text) × IsShort w) at (fits_text (slice_get (map bytes xs) place), short_at xs place short)
  read_fits xs (suc (suc method)) place args (Ok v) other takes short read = absurd takes
