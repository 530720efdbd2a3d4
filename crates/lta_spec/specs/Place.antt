-- The places of a cell. P is what a place holds: a set of tick numbers in the plain machine, a row of words in the
-- engine.
use Rattle.std.specs.Prelude.{ℕ, List}

-- Held's label: "command, bank, data bin"
pub record Label : Type 0 where
  pub command : ℕ
  pub bank : ℕ
  pub bin : ℕ

-- what an integration or a bin holds, with its stamp: "A stamp is part of its Open, Held or bin."
pub record Stamped (P : Type 0) : Type 0 where
  pub members : P
  pub stamp : ℕ

-- Held, the memo's lag buffer registers: occupied is 1 or 0
pub record Held (P : Type 0) : Type 0 where
  pub occupied : ℕ
  pub label : Label
  pub content : Stamped P

-- "A bin is Free, Filling or Ready."
abbrev pub free : ℕ
free = 0

abbrev pub filling : ℕ
filling = 1

abbrev pub ready : ℕ
ready = 2

-- an accumulator bin, the memo's LTA data bin
pub record Bin (P : Type 0) : Type 0 where
  pub state : ℕ
  pub content : Stamped P

-- a cell: Open, Held, the bins of bank 0 and then of bank 1, and the six losses in the order of their numbers
pub record Cell (P : Type 0) : Type 0 where
  pub opened : Stamped P
  pub held : Held P
  pub bins : List (Bin P)
  pub losses : List P

-- the losses by their place in that list, from 0: loss number less 1
abbrev pub ordered : ℕ
ordered = 0

abbrev pub overrun : ℕ
overrun = 1

abbrev pub full : ℕ
full = 2

abbrev pub replaced : ℕ
replaced = 3

abbrev pub too_wide : ℕ
too_wide = 4

abbrev pub holdoff : ℕ
holdoff = 5

-- the six losses
abbrev pub loss_count : ℕ
loss_count = 6

-- what an accepted dump or integration makes of a cell, and the number that it answers
pub record Result (P : Type 0) : Type 0 where
  pub answer : ℕ
  pub cell : Cell P
