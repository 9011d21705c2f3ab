-- A name that is neither kind's.
use Rattle.std.proofs.Common.{◌≡◌, ap, ◌∙◌, ℕ, false, cond, List, None, Some}
use Rattle.std.specs.Prelude.{bytes_eq, codes}
use Rattle.ui_machine.specs.Definition.Names.{same_name}
use Rattle.g_values.proofs.Texts.{same_bytes}
use Rattle.host_peers.specs.declared.stock_lists.StockKind.TheVariants as kinds
use Rattle.host_peers.specs.Stock.{kind_named}

pub no_kind : (name : List ℕ) → bytes_eq name (codes "Screen") ≡ false → bytes_eq name (codes "Tally") ≡ false → kind_named name ≡ None
no_kind name screen tally =
    ap (λ b. cond b (Some kinds.Screen) (cond (same_name name (codes "Tally")) (Some kinds.Tally) None)) (same_bytes name (codes "Screen") ∙ screen)
    ∙ ap (λ b. cond b (Some kinds.Tally) None) (same_bytes name (codes "Tally") ∙ tally)
