-- Why a type is not added or has no objects, why a property is not installed, given no value or not overridden, and why a signal is not
-- declared, with names.
use Rattle.std.specs.Prelude.{ℕ, List, string_bytes}
use Rattle.ui_machine.specs.Seq.{read}
use Rattle.ui_machine.specs.Definition.Types.{GType}
use Rattle.ui_machine.specs.Output.Text.{no_type}
use Rattle.type_tree.specs.declared.error.TypeLimit.{TypeLimit}
use Rattle.type_tree.specs.declared.error.TypeFault.{TypeFault}
use Rattle.type_tree.specs.declared.error.TypeFault.TheVariants as faults
use Rattle.param_specs.specs.declared.error.SpecFault.{SpecFault}
use Rattle.signal_core.specs.declared.fault.SignalFault.{SignalFault}
use Rattle.definition_format.specs.declared.faults.SpecCause.{SpecCause}
use Rattle.definition_format.specs.declared.faults.SpecCause.TheVariants as of_property
use Rattle.definition_format.specs.declared.faults.TypeCause.{TypeCause}
use Rattle.definition_format.specs.declared.faults.TypeCause.TheVariants as of_cause

pub data Cause : Type 0 where
  bad_name : Cause
  duplicate : Cause
  unknown_parent : Cause
  final_parent : Cause
  prerequisite : (name : List ℕ) → Cause
  limit : TypeLimit → Cause
  abstract_class : Cause

-- a cause without where its text lies in memory
abbrev pub cause_view : TypeCause → Cause
cause_view of_cause.BadName = bad_name
cause_view of_cause.Duplicate = duplicate
cause_view of_cause.UnknownParent = unknown_parent
cause_view of_cause.FinalParent = final_parent
cause_view (of_cause.Prerequisite name) = prerequisite (string_bytes name)
cause_view (of_cause.Limit l) = limit l
cause_view of_cause.Abstract = abstract_class

-- the cause of a fault among these types
abbrev pub named_cause : List GType → TypeFault → Cause
named_cause types faults.BadName = bad_name
named_cause types faults.Duplicate = duplicate
named_cause types faults.UnknownParent = unknown_parent
named_cause types faults.FinalParent = final_parent
named_cause types (faults.Prerequisite t) = prerequisite (read no_type types t).name
named_cause types (faults.Limit l) = limit l

pub data PropertyCause : Type 0 where
  install : SpecFault → PropertyCause
  declare : SignalFault → PropertyCause
  not_writable : PropertyCause
  override_missing : (name : List ℕ) → PropertyCause
  override_differs : (name : List ℕ) → PropertyCause

abbrev pub property_cause : SpecCause → PropertyCause
property_cause (of_property.Install fault) = install fault
property_cause (of_property.Declare fault) = declare fault
property_cause of_property.NotWritable = not_writable
property_cause (of_property.OverrideMissing name) = override_missing (string_bytes name)
property_cause (of_property.OverrideDiffers name) = override_differs (string_bytes name)
