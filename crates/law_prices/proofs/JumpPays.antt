-- Jumps: the blocks that an instruction may go to are paid by its own block.
use Rattle.std.proofs.Common.{◌≡◌, inl, inr, refl, sym, ap, subst, ◌∙◌, ℕ, Bool, true, false, cond, List, [], ◌∷◌, ◌++◌, Ok, slice_get, arith}
use Rattle.std.specs.List.{flat_map}
use Rattle.ui_machine.specs.declared.arm.Arm.{Arm}
use Rattle.ui_machine.specs.Definition.{Definition}
use Rattle.ui_machine.specs.Definition.Lookups.{program_at}
use Rattle.ui_machine.specs.Definition.Programs.{Block, Instruction, Program, passes_in}
use Rattle.ui_machine.specs.Definition.Programs as words
use Rattle.ui_machine.specs.Instructions.Jumps.{branching, branching_null, jumping, null_of, past}
use Rattle.ui_machine.specs.Instructions.Registers.{truth_in, value_in}
use Rattle.ui_machine.specs.Outcome.{known}
use Rattle.ui_machine.specs.State.Config.{Left, Started}
use Rattle.ui_machine.specs.State.Tasks.{Frame}
use Rattle.law_typing.specs.Graph.{next_of}
use Rattle.law_typing.specs.Graph.Tables.{Tables}
use Rattle.law_typing.specs.Laws.{IsIn}
use Rattle.law_typing.proofs.Lists.{greatest_in}
use Rattle.law_static.proofs.SubclassProofs.{get_in}
use Rattle.law_steps.proofs.Instructed.Around.{Due, here, r}
use Rattle.law_steps.proofs.Instructed.Inverse.{bound, known_is}
use Rattle.law_prices.specs.Deeds.{PriceList}
use Rattle.law_prices.specs.Prices.{SolvesPrices, from_block}
use Rattle.law_prices.proofs.Frames.{block_price_is, running_is}
use Rattle.law_prices.proofs.Pays.{PaidThere, Pays, in_front_is, more, ok_is, quiet}
use Rattle.law_prices.proofs.RegisterPays.{InstructionPays}

in_left : {A : Type 0} (x : A) (xs ys : List A) → IsIn x xs → IsIn x (xs ++ ys)
in_left x [] ys h = absurd h
in_left x (y ∷ xs) ys (inl e) = inl e
in_left x (y ∷ xs) ys (inr h) = inr (in_left x xs ys h)

in_right : {A : Type 0} (x : A) (xs ys : List A) → IsIn x ys → IsIn x (xs ++ ys)
in_right x [] ys h = h
in_right x (y ∷ xs) ys h = inr (in_right x xs ys h)

in_flat : {A B : Type 0} (f : A → List B) (xs : List A) (x : A) (y : B) → IsIn x xs → IsIn y (f x) → IsIn y (flat_map f xs)
in_flat f [] x y there h = absurd there
in_flat f (z ∷ xs) x y (inl e) h = in_left y (f z) (flat_map f xs) (subst (λ z. IsIn y (f z)) e h)
in_flat f (z ∷ xs) x y (inr there) h = in_right y (f z) (flat_map f xs) (in_flat f xs x y there h)

module _ (d : Definition) (P : PriceList) (t : Tables) (solves : SolvesPrices d P t) where
  module _ {i : Instruction} (u : Due d i) (to : ℕ) (goes : IsIn to (next_of i)) (none : more u P t ≡ 0) where
    jump_pays_of : PaidThere u P t → (s : Started) → jumping d u.w (past u.f) to ≡ Ok s → (l : Left) → record { world = s.world; agenda = s.tasks ++ u.rest } ≡ l → Pays u P t l
    unfolding jumping
    jump_pays_of paid s e l is =
        let p = bound (known _ (program_at d u.f.program)) _ s e in
        let b = bound (known _ (slice_get p.0.blocks to)) _ s p.2 in
        let prog = known_is _ _ p.0 p.1 in
        let block = known_is _ _ b.0 b.1 in
        let next : Frame = record (past u.f) { block = to; at = 0; passes = passes_in b.0 } in
        let less = block_price_is d P t u.well solves next p.0 b.0 prog block refl refl in
        let there = in_flat next_of (r u).b.code i to (get_in (r u).b.code u.f.at i (here u)) goes in
        let same : p.0 ≡ (r u).p = (let x = sym prog ∙ (r u).is in cc) in
        let most = greatest_in (from_block d P t (r u).p u.f.program) (flat_map next_of (r u).b.code) to there in
        let whole = running_is d P t (past u.f) (r u).p (r u).b (r u).is (r u).in_block in
        let at = ap (λ p. from_block d P t p u.f.program to) same in
        let leads = ok_is {E = Arm} _ s b.2 in
        let to_l = ap (λ (s : Started). record { world = s.world; agenda = s.tasks ++ u.rest }) leads ∙ is in
        subst (Pays u P t) to_l
        (quiet u P t u.w (record { objects = refl; handlers = refl; last = refl; sources = refl; floating = omega arith }) next (omega (arith, less, most, whole, at)) none paid)

  pub jump_pays : (to : ℕ) → InstructionPays d P t (words.jump to)
  jump_pays to u paid l e =
      let x = in_front_is u.rest _ l e in
      jump_pays_of u to (inl refl) refl paid x.0 x.1 l x.2

  chosen : (b : Bool) (x y : ℕ) → IsIn (cond b x y) (x ∷ y ∷ [])
  chosen true x y = inl refl
  chosen false x y = inr (inl refl)

  branched : (w_then w_else on : ℕ) (u : Due d (words.branch on w_then w_else)) (s : Started) → branching d u.w (past u.f) on w_then w_else ≡ Ok s → (b : Bool) × (jumping d u.w (past u.f) (cond b w_then w_else) ≡ Ok s)
  unfolding branching
  branched w_then w_else on u s e = let m = bound (truth_in (past u.f) on) _ s e in (m.0, m.2)

  pub branch_pays : (on then_to else_to : ℕ) → InstructionPays d P t (words.branch on then_to else_to)
  branch_pays on then_to else_to u paid l e =
      let x = in_front_is u.rest _ l e in
      let b = branched then_to else_to on u x.0 x.1 in
      jump_pays_of u (cond b.0 then_to else_to) (chosen b.0 then_to else_to) refl paid x.0 b.1 l x.2

  branched_null : (w_then w_else on : ℕ) (u : Due d (words.branch_null on w_then w_else)) (s : Started) → branching_null d u.w (past u.f) on w_then w_else ≡ Ok s → (b : Bool) × (jumping d u.w (past u.f) (cond b w_then w_else) ≡ Ok s)
  unfolding branching_null
  branched_null w_then w_else on u s e =
      let v = bound (value_in (past u.f) on) _ s e in
      let m = bound (null_of v.0) _ s v.2 in
      (m.0, m.2)

  pub branch_null_pays : (on then_to else_to : ℕ) → InstructionPays d P t (words.branch_null on then_to else_to)
  branch_null_pays on then_to else_to u paid l e =
      let x = in_front_is u.rest _ l e in
      let b = branched_null then_to else_to on u x.0 x.1 in
      jump_pays_of u (cond b.0 then_to else_to) (chosen b.0 then_to else_to) refl paid x.0 b.1 l x.2
