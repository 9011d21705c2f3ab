use Rattle.law_steps.proofs.Tasked.SettingProofs.{due_sets_are_fine}
use Rattle.law_steps.proofs.tasks.setting.Goals as goal

pub returns : goal.returns
returns c = record { fine = due_sets_are_fine }
