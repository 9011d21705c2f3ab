-- Signals of a class, with their accumulators, and the methods of peers (GObject manual, signals: g_signal_newv).
use Rattle.std.specs.Prelude.{List, Option, ℕ}
use Rattle.ui_machine.specs.Definition.Kinds.{Kind}

pub data Accumulator : Type 0 where
  true_handled : Accumulator
  first_wins : Accumulator

pub record Signal : Type 0 where
  pub name : List ℕ  -- in canonical spelling
  pub params : List Kind
  pub result : Option Kind
  pub flags : ℕ  -- GSignalFlags, as bits: run-first 1, run-last 2, run-cleanup 4, detailed 16
  pub accumulator : Option Accumulator

pub record Method : Type 0 where
  pub name : List ℕ
  pub params : List Kind
  pub result : Kind

pub record Shape : Type 0 where
  pub name : List ℕ
  pub methods : List Method

-- the program that a class runs for a signal
pub record ClassHandler : Type 0 where
  pub signal : List ℕ
  pub program : ℕ
