-- What a list with room is: its members, and how many more it takes.
use Rattle.std.specs.Prelude.{List, ℕ}

-- a list, and how many further members it takes without memory
pub record Reserved (X : Type 0) : Type 0 where
  pub items : List X
  pub spare : ℕ
