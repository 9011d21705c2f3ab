pub use Rattle.bytecode.specs.Computing
pub use Rattle.bytecode.specs.View
pub use Rattle.bytecode.specs.Shape
pub use Rattle.bytecode.specs.Known
pub use Rattle.frames.specs.Operand
pub use Rattle.frames.specs.FrameView
pub mod Reading
