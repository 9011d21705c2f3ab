-- The path of a place, step by step.
use Rattle.std.proofs.Common.{◌≡◌, refl, sym, ap, ◌∙◌, ℕ, zero, suc, true, false, cond, List, [], ◌++◌, codes, Option, None, Some, is_some}
use Rattle.ui_machine.specs.Definition.{Definition}
use Rattle.ui_machine.specs.Definition.Places.{Place}
use Rattle.ui_machine.specs.Definition.Lookups.{place_at}
use Rattle.law_typing.specs.Verdict.FaultText.{before_in_list, entry_of, path_within, place_above, place_under}

-- the path of the place above one
abbrev above : ℕ → Definition → ℕ → List ℕ
above zero d place = []
above (suc steps) d place = path_within steps d (place_above d place)

by_steps : (steps : ℕ) (d : Definition) (place : ℕ) → path_within steps d place ≡ place_under d place (place_at d place) (above steps d place)
by_steps zero d place = refl
by_steps (suc steps) d place = refl

at : (steps : ℕ) (d : Definition) (place : ℕ) (o : Option Place) → o ≡ place_at d place → place_under d place o (above steps d place) ≡ path_within steps d place
at steps d place o is = sym (by_steps steps d place ∙ ap (λ p. place_under d place p (above steps d place)) (sym is))

-- one that is not there has none
pub nowhere : (steps : ℕ) (d : Definition) (place : ℕ) → None ≡ place_at d place → [] ≡ path_within steps d place
nowhere steps d place is = at steps d place None is

module _ (steps : ℕ) (d : Definition) (place : ℕ) (p : Place) (is : Some p ≡ place_at d place) where
  -- a prototype
  pub of_prototype : p.is_prototype ≡ true → entry_of (codes "prototypes") (before_in_list d place p) ≡ path_within steps d place
  of_prototype prototype =
      sym (ap (λ b. cond b (entry_of (codes "prototypes") (before_in_list d place p))
      (cond (is_some p.parent) (above steps d place ++ entry_of (codes "children") (before_in_list d place p)) (entry_of (codes "objects") (before_in_list d place p)))) prototype)
      ∙ at steps d place (Some p) is

  object : p.is_prototype ≡ false →
      cond (is_some p.parent) (above steps d place ++ entry_of (codes "children") (before_in_list d place p)) (entry_of (codes "objects") (before_in_list d place p))
      ≡ path_within steps d place
  object single =
      sym (ap (λ b. cond b (entry_of (codes "prototypes") (before_in_list d place p))
      (cond (is_some p.parent) (above steps d place ++ entry_of (codes "children") (before_in_list d place p)) (entry_of (codes "objects") (before_in_list d place p)))) single)
      ∙ at steps d place (Some p) is

  -- an object without a parent
  pub of_root : p.is_prototype ≡ false → p.parent ≡ None → entry_of (codes "objects") (before_in_list d place p) ≡ path_within steps d place
  of_root single none =
      sym (ap (λ (o : Option ℕ). cond (is_some o) (above steps d place ++ entry_of (codes "children") (before_in_list d place p)) (entry_of (codes "objects") (before_in_list d place p))) none)
      ∙ object single

  -- a child
  of_child : (parent : ℕ) → p.is_prototype ≡ false → p.parent ≡ Some parent →
      above steps d place ++ entry_of (codes "children") (before_in_list d place p) ≡ path_within steps d place
  of_child parent single some =
      sym (ap (λ (o : Option ℕ). cond (is_some o) (above steps d place ++ entry_of (codes "children") (before_in_list d place p)) (entry_of (codes "objects") (before_in_list d place p))) some)
      ∙ object single

-- the place above a child is its parent
parent_is : (d : Definition) (place parent : ℕ) (p : Place) → Some p ≡ place_at d place → p.parent ≡ Some parent → place_above d place ≡ parent
parent_is d place parent p is some = rw (← is, some) refl

pub of_last : (d : Definition) (place parent : ℕ) (p : Place) → Some p ≡ place_at d place → p.is_prototype ≡ false → p.parent ≡ Some parent →
    entry_of (codes "children") (before_in_list d place p) ≡ path_within 0 d place
of_last d place parent p is single some = of_child 0 d place p is parent single some

pub of_next : (steps : ℕ) (d : Definition) (place parent : ℕ) (p : Place) → Some p ≡ place_at d place → p.is_prototype ≡ false → p.parent ≡ Some parent →
    path_within steps d parent ++ entry_of (codes "children") (before_in_list d place p) ≡ path_within (suc steps) d place
of_next steps d place parent p is single some =
    ap (λ q. path_within steps d q ++ entry_of (codes "children") (before_in_list d place p)) (sym (parent_is d place parent p is some))
    ∙ of_child (suc steps) d place p is parent single some
