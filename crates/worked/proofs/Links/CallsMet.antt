-- The links of a definition that names methods and bindings are its own.
use Rattle.std.proofs.Common.{◌≡◌, ℕ, zero, suc, ◌<◌, false, ◌||◌, cond, nat_eq, None, Some, refl, sym, ap, ◌∙◌, arith}
use Rattle.std.proofs.lemmas.Bool.Decides.{nat_tests}
use Rattle.std.specs.BTreeMap.{is_at}
use Rattle.std.specs.Cmp.{unsigned_ties}
use Rattle.std.specs.Ordering.{nat_cmp}
use Rattle.std.specs.Prelude.{IfSome, codes}
use Rattle.engine_links.specs.Linked.{IsCalled, IsLink, IsMethod, instruction_at, link_at}
use Rattle.worked.specs.Links.LinkedCalls.{CallsLinked, definition, linked}
use Rattle.worked.proofs.Links.GatheringMet.{handlers, signals, slots}

-- what is past a number is another
other : (k n : ℕ) → k < n → nat_eq n k ≡ false
other k n past = grind (arith, nat_tests)

not_at : (k n : ℕ) → k < n → is_at (nat_cmp n) k ≡ false
not_at k n past = sym (unsigned_ties n k) ∙ other k n past

calls_read : IsMethod definition linked (codes "read") (Some 1)
calls_read zero = refl
calls_read (suc zero) = refl
calls_read (suc (suc shape)) =
    ap (λ b. cond b (Some 1) (cond (is_at (nat_cmp (suc (suc shape))) 1) (Some 0) None)) (not_at 0 (suc (suc shape)) (omega arith))
    ∙ ap (λ b. cond b (Some 0) None) (not_at 1 (suc (suc shape)) (omega arith))

ends_link : IsCalled definition linked (codes "link") (Some 0)
ends_link zero = refl
ends_link (suc zero) = refl
ends_link (suc (suc zero)) = refl
ends_link (suc (suc (suc number))) =
    ap (λ b. b || (nat_eq (suc (suc (suc number))) 2 || false)) (other 0 (suc (suc (suc number))) (omega arith))
    ∙ ap (λ b. b || false) (other 2 (suc (suc (suc number))) (omega arith))

at : (program block at : ℕ) → IfSome (instruction_at definition program block at) (λ i. IsLink definition linked i (link_at linked.programs program block at))
at zero zero zero = calls_read
at zero zero (suc zero) = ends_link
at zero zero (suc (suc zero)) = tt
at zero zero (suc (suc (suc n))) = tt
at zero (suc block) n = tt
at (suc program) block n = tt

pub met : CallsLinked
met = record { slots = slots; signals = signals; handlers = handlers; at = at }
