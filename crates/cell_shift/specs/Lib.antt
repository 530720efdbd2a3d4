-- What the contract of a cell's registers cites.
pub mod Shifts
