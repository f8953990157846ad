-- What was taken out and what is left make up what was due at the time; at other times the agenda is as it was.
use Rattle.std.proofs.Common.{◌≡◌, ◌≤ℤ◌, ℕ, ℤ, IsTrue, ◌||◌, length, false}
use Rattle.std.specs.Ordering.{int_eq}
use Rattle.ec_numbered.specs.PropSet.{has_number}
use Rattle.ec_numbered.specs.Due.{has_due}
use Rattle.ec_sweep.proofs.due.take_due.Given as goal

abbrev pub invariant-loop-at : goal.invariant-loop-at
invariant-loop-at g l = record {
  taken : (n : ℕ) → (has_number n l.due.items || has_due g.T.Moment.rank (g.T.Moment.rank l.at) n l.agenda) ≡ has_due g.T.Moment.rank (g.T.Moment.rank l.at) n l.initial.agenda;
  others : (n : ℕ) (u : ℤ) → int_eq u (g.T.Moment.rank l.at) ≡ false → has_due g.T.Moment.rank u n l.agenda ≡ has_due g.T.Moment.rank u n l.initial.agenda;
  later : (n : ℕ) (u : ℤ) → IsTrue (has_due g.T.Moment.rank u n l.agenda) → g.T.Moment.rank l.at ≤ℤ u;
}

abbrev pub decreases-loop-at : goal.decreases-loop-at
decreases-loop-at g l = length l.agenda
