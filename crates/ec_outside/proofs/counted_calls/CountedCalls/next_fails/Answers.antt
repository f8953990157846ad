use Rattle.std.proofs.Common.{◌≡◌, ◌∙◌, sym, true}
use Rattle.ec_outside.specs.Calls.{next_fails}
use Rattle.ec_outside.proofs.FailingCalls.{IsWithin-one_more, IsWithin-fails, IsWithin-<}
use Rattle.ec_outside.proofs.counted_calls.CountedCalls.next_fails.Goals as goal
use Rattle.ec_outside.proofs.counted_calls.CountedCalls.next_fails.Goals.{else-fails-via-then-fails+else-counts, else-fails-via-else-fails}

pub invariant_of-self : goal.invariant_of-self
invariant_of-self c =
    let fails : next_fails c.self.inside.calls ≡ true = sym c.next_fails-fails.ensures.fails ∙ c.if-fails.true in
    rw (c.next_fails-fails.ensures.made, c.saturating_add-self-inside.ensures)
    (IsWithin-fails fails (c.next_fails-fails.ensures.numbered c.if-fails.true) c.self.invariant)

pub invariant_of-self-else-counts : goal.invariant_of-self-else-counts
invariant_of-self-else-counts c = rw c.next_fails-fails.ensures.made (IsWithin-one_more c.self.invariant)

pub invariant_of-self-else-fails : goal.invariant_of-self-else-fails
invariant_of-self-else-fails c = rw c.next_fails-fails.ensures.made (IsWithin-one_more c.self.invariant)

pub returns-then-counts-clause-not_last : goal.returns-then-counts-clause-not_last
returns-then-counts-clause-not_last c =
    let fails : next_fails c.self.inside.calls ≡ true = sym c.next_fails-fails.ensures.fails ∙ c.if-fails.true in
    rw c.saturating_add-self-inside.ensures
    (IsWithin-< (IsWithin-fails fails (c.next_fails-fails.ensures.numbered c.if-fails.true) c.self.invariant))

pub returns-else-fails-clause-not_last : goal.returns-else-fails-clause-not_last
returns-else-fails-clause-not_last c =
    elim c.else-fails.branch [
      | else-fails-via-then-fails+else-counts w ↦ rw w.self-is (IsWithin-< c.self.invariant)
      | else-fails-via-else-fails w ↦ rw w.self-is (IsWithin-< c.self.invariant)
    ]
