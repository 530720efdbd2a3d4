-- What the contracts of the moves of an integration cite.
pub mod HeldMoves
