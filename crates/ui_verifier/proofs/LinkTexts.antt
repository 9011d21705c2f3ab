-- The texts of cycles, link by link.
use Rattle.std.proofs.Common.{◌≡◌, refl, sym, ap, ◌∙◌, ℕ, zero, suc, List, [], ◌∷◌, ◌++◌, codes, append-nil, Bool, true, false, cond, nat_eq, drop, map, Some, slice_get, arith}
use Rattle.std.proofs.lemmas.Bool.{eqb-true}
use Rattle.std.proofs.lemmas.Option.{none-some, same_Some}
use Rattle.ui_machine.specs.Definition.{Definition}
use Rattle.law_typing.specs.Graph.Channels.{Link}
use Rattle.law_typing.specs.Verdict.FaultText.{link_text, links_text}
use Rattle.ui_verifier.specs.Texts.{links_from, separator}
use Rattle.ui_verifier.specs.declared.faults.CycleLink.{CycleLink}

-- each number but 0 has a comma before it
later_separator : (n : ℕ) → separator (suc n) ≡ codes ", "
later_separator n = by (nat_eq (suc n) 0) refl
  where
    by : (b : Bool) → nat_eq (suc n) 0 ≡ b → separator (suc n) ≡ codes ", "
    by true is = absurd (let e = eqb-true (suc n) 0 is in omega (arith, e))
    by false is = ap (λ b. cond b [] (codes ", ")) is

-- all links but the first have the same before them
same_from : (d : Definition) (n m : ℕ) (ls : List Link) → links_from d (suc n) ls ≡ links_from d (suc m) ls
same_from d n m [] = refl
same_from d n m (l ∷ ls) =
    ap (λ xs. xs ++ (link_text d l ++ links_from d (suc (suc n)) ls)) (later_separator n ∙ sym (later_separator m))
    ∙ ap (λ xs. separator (suc m) ++ (link_text d l ++ xs)) (same_from d (suc n) (suc m) ls)

pub from_first : (d : Definition) (ls : List Link) → links_from d 0 ls ≡ links_text d ls
from_first d [] = refl
from_first d (l ∷ []) = append-nil (link_text d l)
from_first d (l ∷ m ∷ more) =
    ap (λ xs. link_text d l ++ (codes ", " ++ (link_text d m ++ xs))) (same_from d 1 0 more)
    ∙ ap (λ xs. link_text d l ++ (codes ", " ++ xs)) (from_first d (m ∷ more))

-- the texts from the number of a link on
pub from_link : (view : CycleLink → Link) (ls : List CycleLink) (n : ℕ) (l : CycleLink) → slice_get ls n ≡ Some l →
    drop n (map view ls) ≡ view l ∷ drop (suc n) (map view ls)
from_link view [] n l is = absurd (none-some l is)
from_link view (k ∷ ls) zero l is = ap (λ x. view x ∷ map view ls) (same_Some k l is)
from_link view (k ∷ ls) (suc n) l is = from_link view ls n l is
