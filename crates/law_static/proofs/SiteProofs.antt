-- What is known where an instruction of an accepted definition is: it is found in the lists of sites and faults by its numbers.
use Rattle.std.proofs.Common.{◌≡◌, inl, inr, refl, sym, ap, subst, ◌∙◌, ℕ, zero, suc, ◌+◌, Bool, true, false, cond, List, [], ◌∷◌, Option, None, Some, Ok, Err, slice_get, arith}
use Rattle.ui_machine.specs.Definition.{Definition}
use Rattle.ui_machine.specs.Definition.Programs.{Instruction, Block, Program}
use Rattle.ui_machine.specs.Definition.Programs as words
use Rattle.ui_machine.specs.Outcome.{only_if}
use Rattle.law_typing.specs.Rules.RegisterKinds.{Kinds, kinds_fit}
use Rattle.law_typing.specs.Rules.Answers.{Typing}
use Rattle.law_typing.specs.Rules.Faults.{unbalanced}
use Rattle.law_typing.specs.Rules.Sites.{Site, sites, code_sites, block_sites, program_sites, broken_at, block_faults, program_faults}
use Rattle.law_typing.specs.Rules.Typing.{typed, after, or_before, again, typed_in, unless_broken, first_broken, block_broken, WellTypedBlock}
use Rattle.law_typing.specs.Rules.Answers.{Rule}
use Rattle.law_typing.specs.Rules.Answers as rules
use Rattle.law_typing.specs.Rules.Brackets.{is_balanced, balance_faults, unbalanced_from}
use Rattle.law_typing.specs.Graph.{start_of, starts_of}
use Rattle.law_typing.specs.Laws.{IsIn}
use Rattle.law_typing.specs.Good.Programs.{kinds_before}
use Rattle.law_typing.proofs.Lists.{both_empty}
use Rattle.law_typing.proofs.EdgeProofs.{append_left, append_right}
use Rattle.law_static.specs.Sites.{BlockIs, BlocksKeep, SitesKeep, site}

-- ** lists without entries

no_second : {A : Type 0} (b : Bool) (x : A) → cond b [] (x ∷ []) ≡ [] → b ≡ true
no_second true x e = refl
no_second false x e = absurd (cc)

-- ** blocks without faults

not_broken : (q n : ℕ) (o : Option (ℕ × Rule)) → broken_at q n o ≡ [] → o ≡ None
not_broken q n None e = refl
not_broken q n (Some first) e = absurd (cc)

typed_block : (d : Definition) (p : Program) (q n i : ℕ) (bs : List Block) (b : Block) → block_faults d p q n bs ≡ [] → slice_get bs i ≡ Some b → WellTypedBlock d p b
typed_block d p q n i [] b e is = absurd (cc)
typed_block d p q n zero (x ∷ bs) b e is =
    let s : x ≡ b = cc in
    subst (WellTypedBlock d p) s (not_broken q n (block_broken d p x) (both_empty (broken_at q n (block_broken d p x)) (block_faults d p q (suc n) bs) e).0)
typed_block d p q n (suc i) (x ∷ bs) b e is =
    typed_block d p q (suc n) i bs b (both_empty (broken_at q n (block_broken d p x)) (block_faults d p q (suc n) bs) e).1 is

typed_program : (d : Definition) (q i : ℕ) (ps : List Program) (p : Program) → program_faults d q ps ≡ [] → slice_get ps i ≡ Some p → (m : ℕ) × (block_faults d p m 0 p.blocks ≡ [])
typed_program d q i [] p e is = absurd (cc)
typed_program d q zero (x ∷ ps) p e is =
    let s : x ≡ p = cc in
    (q, subst (λ (y : Program). block_faults d y q 0 y.blocks ≡ []) s (both_empty (block_faults d x q 0 x.blocks) (program_faults d (suc q) ps) e).0)
typed_program d q (suc i) (x ∷ ps) p e is = typed_program d (suc q) i ps p (both_empty (block_faults d x q 0 x.blocks) (program_faults d (suc q) ps) e).1 is

balanced_block : (q n i : ℕ) (bs : List Block) (b : Block) → balance_faults q n bs ≡ [] → slice_get bs i ≡ Some b → is_balanced b.code ≡ true
balanced_block q n i [] b e is = absurd (cc)
balanced_block q n zero (x ∷ bs) b e is =
    let s : x ≡ b = cc in
    let parts = both_empty (cond (is_balanced x.code) [] (unbalanced q n ∷ [])) (balance_faults q (suc n) bs) e in
    subst (λ (y : Block). is_balanced y.code ≡ true) s (no_second (is_balanced x.code) (unbalanced q n) parts.0)
balanced_block q n (suc i) (x ∷ bs) b e is =
    balanced_block q (suc n) i bs b (both_empty (cond (is_balanced x.code) [] (unbalanced q n ∷ [])) (balance_faults q (suc n) bs) e).1 is

balanced_program : (q i : ℕ) (ps : List Program) (p : Program) → unbalanced_from q ps ≡ [] → slice_get ps i ≡ Some p → (m : ℕ) × (balance_faults m 0 p.blocks ≡ [])
balanced_program q i [] p e is = absurd (cc)
balanced_program q zero (x ∷ ps) p e is =
    let s : x ≡ p = cc in
    (q, subst (λ (y : Program). balance_faults q 0 y.blocks ≡ []) s (both_empty (balance_faults q 0 x.blocks) (unbalanced_from (suc q) ps) e).0)
balanced_program q (suc i) (x ∷ ps) p e is = balanced_program (suc q) i ps p (both_empty (balance_faults q 0 x.blocks) (unbalanced_from (suc q) ps) e).1 is

pub blocks_keep : BlocksKeep
blocks_keep d a program number p b here =
    let t = typed_program d 0 program d.programs p a.typed here.is in
    let m = balanced_program 0 program d.programs p a.brackets here.is in
    record {
      typed = typed_block d p t.0 0 number p.blocks b t.1 here.has;
      balanced = balanced_block m.0 0 number p.blocks b m.1 here.has;
    }

-- ** instructions of a block

module _ (d : Definition) (p : Program) where
  where_tested : (b : Bool) (rule : Rule) (t : Typing Kinds) (next : Kinds) → only_if b rule t ≡ Ok next → (b ≡ true) × (t ≡ Ok next)
  where_tested true rule t next e = (refl, e)
  where_tested false rule t next e = absurd (cc)

  -- what keeps its rule in a block does so by itself
  typed_alone : (own : Option Kinds) (ks next : Kinds) (i : Instruction) → typed_in d p own ks i ≡ Ok next → typed d p ks i ≡ Ok next
  typed_alone None ks next i e = e
  typed_alone (Some entry) ks next (words.jump to) e = (where_tested (kinds_fit d ks entry) rules.block (typed d p ks (words.jump to)) next e).1
  typed_alone (Some entry) ks next i e = e

  -- the first of some instructions that break no rule, and the others
  pub first_typed : (own : Option Kinds) (n : ℕ) (ks : Kinds) (i : Instruction) (rest : List Instruction) → first_broken d p own n ks (i ∷ rest) ≡ None →
      (typed d p ks i ≡ Ok (after d p ks i)) × (first_broken d p own (suc n) (after d p ks i) rest ≡ None)
  first_typed own n ks i rest e = by (typed_in d p own ks i) refl e
    where
      by : (t : Typing Kinds) → typed_in d p own ks i ≡ t → unless_broken (λ rule. Some (n, rule)) (λ next. first_broken d p own (suc n) next rest) t ≡ None →
          (typed d p ks i ≡ Ok (after d p ks i)) × (first_broken d p own (suc n) (after d p ks i) rest ≡ None)
      by (Ok next) is none =
          let alone = typed_alone own ks next i is in
          let s = ap (or_before ks) alone in
          (alone ∙ ap (λ (ks : Kinds). Ok ks) (sym s), subst (λ ks. first_broken d p own (suc n) ks rest ≡ None) (sym s) none)
      by (Err rule) is none = absurd (cc)

  -- at the jump of a block that is passed again the registers fit what it begins with
  pub fits_again : (entry : Kinds) (n : ℕ) (ks : Kinds) (to : ℕ) (rest : List Instruction) → first_broken d p (Some entry) n ks (words.jump to ∷ rest) ≡ None → kinds_fit d ks entry ≡ true
  fits_again entry n ks to rest e = by (typed_in d p (Some entry) ks (words.jump to)) refl e
    where
      by : (t : Typing Kinds) → typed_in d p (Some entry) ks (words.jump to) ≡ t →
          unless_broken (λ rule. Some (n, rule)) (λ next. first_broken d p (Some entry) (suc n) next rest) t ≡ None → kinds_fit d ks entry ≡ true
      by (Ok next) is none = (where_tested (kinds_fit d ks entry) rules.block (typed d p ks (words.jump to)) next is).0
      by (Err rule) is none = absurd (cc)

  typed_at : (own : Option Kinds) (n at : ℕ) (ks : Kinds) (code : List Instruction) (i : Instruction) → first_broken d p own n ks code ≡ None → slice_get code at ≡ Some i →
      typed d p (kinds_before d p ks at code) i ≡ Ok (kinds_before d p ks (suc at) code)
  typed_at own n at ks [] i e is = absurd (cc)
  typed_at own n zero ks (j ∷ code) i e is =
      let s : j ≡ i = cc in
      subst (λ i. typed d p ks i ≡ Ok (after d p ks j)) s (first_typed own n ks j code e).0
  typed_at own n (suc at) ks (j ∷ code) i e is = typed_at own (suc n) at (after d p ks j) code i (first_typed own n ks j code e).1 is

  pub started_at : (at : ℕ) (ks : Kinds) (code : List Instruction) (i : Instruction) → slice_get code at ≡ Some i →
      IsIn (start_of d (kinds_before d p ks at code) i) (starts_of d p ks code)
  started_at at ks [] i is = absurd (cc)
  started_at zero ks (j ∷ code) i is = let s : i ≡ j = cc in inl (ap (start_of d ks) s)
  started_at (suc at) ks (j ∷ code) i is = inr (started_at at (after d p ks j) code i is)

-- ** sites

module _ (d : Definition) where
  abbrev site_of : (q n at : ℕ) → Kinds → Instruction → Site
  site_of q n at ks i = record { program = q; block = n; at = at; kinds = ks; instruction = i }

  in_code : (p : Program) (q n m at number : ℕ) (ks : Kinds) (code : List Instruction) (i : Instruction) → number ≡ m + at → slice_get code at ≡ Some i →
      IsIn (site_of q n number (kinds_before d p ks at code) i) (code_sites d p q n m ks code)
  in_code p q n m at number ks [] i e is = absurd (cc)
  in_code p q n m zero number ks (j ∷ code) i e is =
      let s : i ≡ j = cc in
      let k : number ≡ m = omega (arith, e) in
      inl (ap (λ number. site_of q n number ks i) k ∙ ap (site_of q n m ks) s)
  in_code p q n m (suc at) number ks (j ∷ code) i e is = inr (in_code p q n (suc m) at number (after d p ks j) code i (omega (arith, e)) is)

  in_blocks : (p : Program) (q m n number : ℕ) (bs : List Block) (b : Block) (s : Site) → number ≡ m + n → slice_get bs n ≡ Some b →
      IsIn s (code_sites d p q number 0 b.entry b.code) → IsIn s (block_sites d p q m bs)
  in_blocks p q m n number [] b s e is h = absurd (cc)
  in_blocks p q m zero number (x ∷ bs) b s e is h =
      let same : b ≡ x = cc in
      let k : number ≡ m = omega (arith, e) in
      append_left (code_sites d p q m 0 x.entry x.code) (block_sites d p q (suc m) bs) s
      (subst (λ (y : Block). IsIn s (code_sites d p q m 0 y.entry y.code)) same (subst (λ number. IsIn s (code_sites d p q number 0 b.entry b.code)) k h))
  in_blocks p q m (suc n) number (x ∷ bs) b s e is h =
      append_right (code_sites d p q m 0 x.entry x.code) (block_sites d p q (suc m) bs) s (in_blocks p q (suc m) n number bs b s (omega (arith, e)) is h)

  in_programs : (m n number : ℕ) (ps : List Program) (p : Program) (s : Site) → number ≡ m + n → slice_get ps n ≡ Some p →
      IsIn s (block_sites d p number 0 p.blocks) → IsIn s (program_sites d m ps)
  in_programs m n number [] p s e is h = absurd (cc)
  in_programs m zero number (x ∷ ps) p s e is h =
      let same : p ≡ x = cc in
      let k : number ≡ m = omega (arith, e) in
      append_left (block_sites d x m 0 x.blocks) (program_sites d (suc m) ps) s
      (subst (λ (y : Program). IsIn s (block_sites d y m 0 y.blocks)) same (subst (λ number. IsIn s (block_sites d p number 0 p.blocks)) k h))
  in_programs m (suc n) number (x ∷ ps) p s e is h =
      append_right (block_sites d x m 0 x.blocks) (program_sites d (suc m) ps) s (in_programs (suc m) n number ps p s (omega (arith, e)) is h)

  known_site : (q n at : ℕ) (p : Program) (b : Block) (i : Instruction) → BlockIs d q n p b → slice_get b.code at ≡ Some i → IsIn (site d q n p b at i) (sites d)
  known_site q n at p b i here is =
      in_programs 0 q q d.programs p (site d q n p b at i) (omega arith) here.is
      (in_blocks p q 0 n n p.blocks b (site d q n p b at i) (omega arith) here.has (in_code p q n 0 at at b.entry b.code i (omega arith) is))

pub sites_keep : SitesKeep
sites_keep d a program number at p b i here is =
    let kept = blocks_keep d a program number p b here in
    let known = known_site d program number at p b i here is in
    record {
      typed = typed_at d p (again b) 0 at b.entry b.code i kept.typed is;
      known = known;
      starts = started_at d p at b.entry b.code i is;
    }
