-- Laws of whole work memory, and of calls on it.
pub mod RunLaws
pub mod FirstLaws
pub mod ViewLaws
pub mod StepLaws
pub mod LoanLaws
pub mod CellsLaws
