-- How JSON denotes programs.
pub use Rattle.bytecode.specs.Reading.Views
pub use Rattle.bytecode.specs.Reading.Each
pub use Rattle.bytecode.specs.Reading.KindWords
pub use Rattle.bytecode.specs.Reading.Operands
pub use Rattle.bytecode.specs.Reading.Scopes
pub use Rattle.bytecode.specs.Reading.OperandShapes
pub use Rattle.bytecode.specs.Reading.RegisterRows
pub use Rattle.bytecode.specs.Reading.ObjectRows
pub use Rattle.bytecode.specs.Reading.SignalRows
pub use Rattle.bytecode.specs.Reading.SourceRows
pub use Rattle.bytecode.specs.Reading.JumpRows
pub use Rattle.bytecode.specs.Reading.Words
pub use Rattle.bytecode.specs.Reading.RegisterKinds
pub use Rattle.bytecode.specs.Reading.OutlineFaults
pub use Rattle.bytecode.specs.Reading.Outline
pub use Rattle.bytecode.specs.Reading.Programs
pub mod ReaderViews
