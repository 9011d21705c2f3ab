-- The words of the command line: `ui verify DEF` and `ui run DEF EVENTS`, in the words of `clap`.
use Rattle.std.specs.Prelude.{List, codes, true, if◌then◌else◌, Option, None, Some, option_and_then, option_map}
use Rattle.std.specs.Str.{bytes_eq}
use Rattle.clap.specs.Words.{App, Row, Rule, Text, first_of, new_app, new_rule, subcommand_of, with_rule, with_subcommand}
use Rattle.ui_runner.specs.declared.command_line.Request.{Request}
use Rattle.ui_runner.specs.declared.command_line.Request.TheVariants as code

-- a name that has to be given
abbrev pub named : Text → Rule
named id = record (new_rule id) { required = true }

-- the subcommand `verify` and its name
abbrev pub verify_command : App
verify_command = with_rule (new_app (codes "verify")) (named (codes "DEF"))

-- the subcommand `run` and its two names
abbrev pub run_command : App
run_command = with_rule (with_rule (new_app (codes "run")) (named (codes "DEF"))) (named (codes "EVENTS"))

-- `ui` with the subcommand `verify` alone
abbrev pub checking_command : App
checking_command = with_subcommand (new_app (codes "ui")) verify_command.top

-- the command: `ui`, with its two subcommands
abbrev pub ui_command : App
ui_command = with_subcommand checking_command run_command.top

-- both texts, where both are there
abbrev pub both : Option Text → Option Text → Option (Text × Text)
both None events = None
both (Some definition) None = None
both (Some definition) (Some events) = Some (definition, events)

-- what words ask for
pub data Asked : Type 0 where
  verify : Text → Asked  -- a check of the definition of this name
  run : Text → Text → Asked  -- a run of a definition over events, by the names of their files

-- the names of the two files, of what was given to a subcommand
abbrev pub names_in : Text × List Row → Option (Text × Text)
names_in used = both (first_of (codes "DEF") used.1) (first_of (codes "EVENTS") used.1)

-- what a subcommand asks for, with what was given to it
abbrev pub asked_in : Text × List Row → Option Asked
asked_in used =
    if bytes_eq used.0 (codes "verify") then option_map verify (first_of (codes "DEF") used.1) else option_map (λ names. run names.0 names.1) (names_in used)

-- what the words ask for, the name of the program first
abbrev pub asked_of : List Text → Option Asked
asked_of words = option_and_then asked_in (subcommand_of ui_command words)

-- what a request of the code asks for
abbrev pub asked_view : Request → Asked
asked_view (code.Verify definition) = verify definition.now
asked_view (code.Run files) = run files.definition.now files.events.now
