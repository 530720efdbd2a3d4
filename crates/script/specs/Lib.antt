-- What a script leaves and prints, from memory and block by block.
pub mod Run
pub mod Text
pub mod Input
