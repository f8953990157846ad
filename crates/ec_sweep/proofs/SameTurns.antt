-- Turns in another order settle the same.
use Rattle.std.proofs.Common.{◌≡◌, ℕ, ℤ, ◌+◌, ◌-◌, Bool, List, sym, ap, ap₂, ◌∙◌}
use Rattle.ec_terms.specs.declared.ground.Ground.{Ground}
use Rattle.ec_terms.specs.declared.theory.Theory.{Theory}
use Rattle.ec_terms.specs.Domain.{GroundEntry}
use Rattle.ec_axioms.specs.Calculus.{PlainEvent, is_clashing, is_initiating, is_terminating}
use Rattle.ec_axioms.specs.Marks.{PlainMark}
use Rattle.ec_revise.specs.Visit.{AreTurnsAt, PlainTurn, downs, mark_after, ups}
use Rattle.ec_sweep.specs.Visiting.{AreSameTurns}

module _ (turns others : List PlainTurn) (same : AreSameTurns turns others) where
  -- they make the same mark of a mark
  pub mark_after-same : (theory : Theory) (p : Ground) (mark : PlainMark) → mark_after theory turns p mark ≡ mark_after theory others p mark
  mark_after-same theory p mark =
      let made : ℕ → ℕ → ℕ → PlainMark = λ inits terms clashes. record { instant = mark.instant; inits = inits; terms = terms; clashes = clashes } in
      let each : (wanted : GroundEntry → Bool) (n : ℕ) → n + ups wanted turns - downs wanted turns ≡ n + ups wanted others - downs wanted others =
      λ wanted n. ap₂ (λ u d. n + u - d) (same.ups_same wanted) (same.downs_same wanted) in
      ap (λ n. made n (mark.terms + ups (is_terminating p) turns - downs (is_terminating p) turns) (mark.clashes + ups (is_clashing theory p) turns - downs (is_clashing theory p) turns))
      (each (is_initiating p) mark.inits)
      ∙ ap (λ n. made (mark.inits + ups (is_initiating p) others - downs (is_initiating p) others) n (mark.clashes + ups (is_clashing theory p) turns - downs (is_clashing theory p) turns))
      (each (is_terminating p) mark.terms)
      ∙ ap (λ n. made (mark.inits + ups (is_initiating p) others - downs (is_initiating p) others) (mark.terms + ups (is_terminating p) others - downs (is_terminating p) others) n)
      (each (is_clashing theory p) mark.clashes)

  -- and they are those at an instant where the others are
  pub AreTurnsAt-same : (theory : Theory) (old new : List PlainEvent) (t : ℤ) → AreTurnsAt theory old new t others → AreTurnsAt theory old new t turns
  AreTurnsAt-same theory old new t are = record {
    gained_by = λ wanted. are.gained_by wanted ∙ sym (same.ups_same wanted);
    lost_by = λ wanted. are.lost_by wanted ∙ sym (same.downs_same wanted);
  }
