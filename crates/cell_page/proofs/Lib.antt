-- Laws of a cell on a page.
pub mod PageCellLaws
