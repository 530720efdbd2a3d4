-- Laws of a page of a run.
pub mod PageRunLaws
