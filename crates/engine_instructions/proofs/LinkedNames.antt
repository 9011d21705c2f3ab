-- What the link of an instruction says.
use Rattle.std.proofs.Common.{◌≡◌, ℕ, List, Option, None, Some, Ok, is_some, sym, ap, subst, refl, Bool, true, false}
use Rattle.std.specs.Prelude.{IfSome}
use Rattle.ui_machine.specs.declared.arm.Arm.TheVariants as arms
use Rattle.ui_machine.specs.Definition.{Definition}
use Rattle.ui_machine.specs.Definition.Lookups.{slot_of}
use Rattle.ui_machine.specs.Definition.Names.{canonical}
use Rattle.ui_machine.specs.Definition.Programs.{Instruction}
use Rattle.ui_machine.specs.Outcome.{only_if}
use Rattle.engine_links.specs.Linked.{AreLinked, IsDetail, IsLink, Linked, instruction_at, link_at}
use Rattle.engine_world.specs.Able.{Able}
use Rattle.engine_world.specs.GivenView.{detail_named}
use Rattle.engine_world.proofs.Ableness.{no_arm}

-- what is kept of an instruction links it
pub linked_there : (d : Definition) (l : Linked) → AreLinked d l → (program block at : ℕ) (i : Instruction) → instruction_at d program block at ≡ Some i
    → IsLink d l i (link_at l.programs program block at)
linked_there d l are program block at i there =
    subst (λ (o : Option Instruction). IfSome o (λ (j : Instruction). IsLink d l j (link_at l.programs program block at))) there (are.at program block at)

-- a detail that names a property is its name in canonical spelling
pub detail_is : (d : Definition) (class : ℕ) (detail : List ℕ) → Able (detail_named d class detail) → detail_named d class detail ≡ Ok (canonical detail)
detail_is d class detail able = by (is_some (slot_of d class detail)) able
  where
    by : (b : Bool) → Able (only_if b arms.Code (Ok (canonical detail))) → only_if b arms.Code (Ok (canonical detail)) ≡ Ok (canonical detail)
    by true able = refl
    by false able = absurd able

-- so that it has a place among the names
pub detail_placed : (d : Definition) (l : Linked) (class : ℕ) (detail : List ℕ) → IsDetail d l (Some detail) None → Able (detail_named d class detail) → ⊥
detail_placed d l class detail none able =
    no_arm _ arms.Code able (ap (λ (slot : Option ℕ). only_if (is_some slot) arms.Code (Ok (canonical detail))) (sym (none.0 class)))
