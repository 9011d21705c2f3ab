use Rattle.std.proofs.Common.{◌≡◌, [], map, string_bytes, sym, ap, ◌∙◌, true}
use Rattle.clap.specs.Words.{App, app_of, fault_of, is_simple_and_free}
use Rattle.ui_runner.specs.CommandLine.{ui_command}
use Rattle.ui_runner.proofs.CommandLine.{is_known, whatever_it_is}
use Rattle.ui_runner.proofs.command_line.read_words.Goals as goal

pub returns-clause-fitting : goal.returns-clause-fitting
returns-clause-fitting c =
    let is : app_of c.in_ok-command.field-0 ≡ ui_command = c.in_ok-command.ensures in
    let free : is_simple_and_free (app_of c.in_ok-command.field-0) ≡ true = ap is_simple_and_free is ∙ is_known in
    let none : fault_of (app_of c.in_ok-command.field-0) (map string_bytes c.args.words.now) ≡ [] = c.in_ok-matches.ensures.kinds free in
    whatever_it_is c.ok_or.result (fault_of ui_command (map string_bytes c.args.words.now) ≡ [])
    (sym (ap (λ (a : App). fault_of a (map string_bytes c.args.words.now)) is) ∙ none)
