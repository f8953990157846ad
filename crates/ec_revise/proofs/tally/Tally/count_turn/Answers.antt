-- The head's own count is another than that of clashes.
use Rattle.std.proofs.Common.{rules, ℕ, ◌+◌, ◌<◌, ◌^◌, sym, ap, subst, ◌∙◌}
use Rattle.ec_revise.specs.declared.tally.Part.TheVariants.{Clashes}
use Rattle.ec_revise.specs.TurnCounts.{count_in, counts_of}
use Rattle.ec_revise.proofs.TallyRows.{clashes-kept}
use Rattle.ec_revise.proofs.tally.Tally.count_turn.Goals as goal

pub count_clashes-requires-clause-room : goal.count_clashes-requires-clause-room
count_clashes-requires-clause-room c = λ p.
    subst (λ (n : ℕ). n + 1 < 2 ^ 32)
    (sym (ap (λ t. count_in Clashes (counts_of c.args.turn.now.up t)) (c.in_ok-count-in-Initiates.ensures.counted p) ∙ clashes-kept _ c.args.turn.now.up c.args.turn.now.up _))
    (c.requires.room p Clashes c.args.turn.now.up)

pub count_clashes-requires-clause-order : goal.count_clashes-requires-clause-order
count_clashes-requires-clause-order c = search rules
