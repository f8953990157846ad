-- Marks as the calculus has them: with their times as whole numbers.
use Rattle.std.specs.Prelude.{ℤ, List, map}
use Rattle.ec_axioms.specs.Marks.{PlainMark}
use Rattle.ec_rows.specs.declared.mark.Mark.{Mark}

-- a mark, with its time as a whole number
abbrev pub plain_mark : {T : Type 0} → (T → ℤ) → Mark T → PlainMark
plain_mark rank mark = record { instant = rank mark.at; inits = mark.inits; terms = mark.terms; clashes = mark.clashes }

-- marks, with their times as whole numbers
abbrev pub plain_marks : {T : Type 0} → (T → ℤ) → List (Mark T) → List PlainMark
plain_marks rank marks = map (plain_mark rank) marks
