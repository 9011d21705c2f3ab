-- The programs that sites name are those that instructions do, one after the other.
use Rattle.std.proofs.Common.{◌≡◌, refl, sym, ap, ◌∙◌, ℕ, suc, ◌+◌, Bool, true, false, cond, List, [], ◌∷◌, ◌++◌, Option, Some, None, arith}
use Rattle.std.specs.Prelude.{nat_eq, ◌||◌}
use Rattle.std.specs.List.{flat_map, list_any}
use Rattle.ui_machine.specs.Definition.{Definition}
use Rattle.ui_machine.specs.Definition.Programs.{Block, Instruction, Program}
use Rattle.ui_machine.specs.Rules.Programs.{is_number}
use Rattle.law_typing.specs.Graph.{is_source, listed_if, source_named, sources_of}
use Rattle.law_typing.specs.Rules.RegisterKinds.{Kinds}
use Rattle.law_typing.specs.Rules.Sites.{Site, block_sites, code_sites, program_sites, sites}
use Rattle.law_typing.specs.Rules.Typing.{after}
use Rattle.ui_verifier.specs.NamedSources.{named_in, named_in_blocks, named_in_programs}

any_append : {A : Type 0} → (test : A → Bool) (xs ys : List A) → list_any test (xs ++ ys) ≡ (list_any test xs || list_any test ys)
any_append test [] ys = refl
any_append test (x ∷ xs) ys = by (test x) (any_append test xs ys)
  where
    by : (b : Bool) → list_any test (xs ++ ys) ≡ (list_any test xs || list_any test ys) →
        (b || list_any test (xs ++ ys)) ≡ ((b || list_any test xs) || list_any test ys)
    by true rest = refl
    by false rest = rest

module _ (d : Definition) (q : ℕ) where
  abbrev names : List ℕ → Bool
  names ms = list_any (λ m. nat_eq m q) ms

  abbrev among : List Site → Bool
  among ss = list_any (λ (s : Site). is_number q (source_named d s.instruction)) ss

  one_named : (o : Option ℕ) → is_number q o ≡ names (listed_if o)
  one_named None = refl
  one_named (Some m) = by (nat_eq m q)
    where
      by : (b : Bool) → b ≡ (b || false)
      by true = refl
      by false = refl

  joined : (a b : Bool) (xs ys : List ℕ) → a ≡ names xs → b ≡ names ys → (a || b) ≡ names (xs ++ ys)
  joined a b xs ys first second = ap (λ x. x || b) first ∙ (ap (λ y. names xs || y) second ∙ sym (any_append (λ m. nat_eq m q) xs ys))

  in_code : (p : Program) (program block at : ℕ) (ks : Kinds) (is : List Instruction) → among (code_sites d p program block at ks is) ≡ names (named_in d is)
  in_code p program block at ks [] = refl
  in_code p program block at ks (i ∷ is) =
      joined (is_number q (source_named d i)) (among (code_sites d p program block (suc at) (after d p ks i) is)) (listed_if (source_named d i)) (named_in d is)
      (one_named (source_named d i)) (in_code p program block (suc at) (after d p ks i) is)

  in_blocks : (p : Program) (program block : ℕ) (bs : List Block) → among (block_sites d p program block bs) ≡ names (named_in_blocks d bs)
  in_blocks p program block [] = refl
  in_blocks p program block (b ∷ bs) =
      any_append (λ (s : Site). is_number q (source_named d s.instruction)) (code_sites d p program block 0 b.entry b.code) (block_sites d p program (suc block) bs)
      ∙ joined (among (code_sites d p program block 0 b.entry b.code)) (among (block_sites d p program (suc block) bs)) (named_in d b.code) (named_in_blocks d bs)
      (in_code p program block 0 b.entry b.code) (in_blocks p program (suc block) bs)

  in_programs : (program : ℕ) (ps : List Program) → among (program_sites d program ps) ≡ names (named_in_programs d ps)
  in_programs program [] = refl
  in_programs program (p ∷ ps) =
      any_append (λ (s : Site). is_number q (source_named d s.instruction)) (block_sites d p program 0 p.blocks) (program_sites d (suc program) ps)
      ∙ joined (among (block_sites d p program 0 p.blocks)) (among (program_sites d (suc program) ps)) (named_in_blocks d p.blocks) (named_in_programs d ps)
      (in_blocks p program 0 p.blocks) (in_programs (suc program) ps)

  -- a program is a source where some instruction names it
  pub source_is : is_source d (sites d) q ≡ list_any (λ m. nat_eq m q) (named_in_programs d d.programs)
  source_is = in_programs 0 d.programs

  -- one program after the other
  pub next_source : (number : ℕ) (p : Program) (ps : List Program) → number ≡ q →
      sources_of d (sites d) number (p ∷ ps)
      ≡ cond (list_any (λ m. nat_eq m q) (named_in_programs d d.programs)) (q ∷ []) [] ++ sources_of d (sites d) (number + 1) ps
  next_source number p ps same =
      let e : suc number ≡ number + 1 = omega arith in
      ap (λ n. cond (is_source d (sites d) n) (n ∷ []) [] ++ sources_of d (sites d) (suc number) ps) same
      ∙ (ap (λ b. cond b (q ∷ []) [] ++ sources_of d (sites d) (suc number) ps) source_is
      ∙ ap (λ n. cond (list_any (λ m. nat_eq m q) (named_in_programs d d.programs)) (q ∷ []) [] ++ sources_of d (sites d) n ps) e)
