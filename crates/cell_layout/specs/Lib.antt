-- What contracts on the words of a cell cite.
pub mod Lays
pub mod Offsets
pub mod Cells
pub mod Views
pub mod Moves
