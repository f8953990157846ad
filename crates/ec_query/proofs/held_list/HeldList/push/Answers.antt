-- The number is kept where there is room, and else only counted.
use Rattle.ec_query.proofs.ListedLemmas.{Lists-push_kept, Lists-push_counted}
use Rattle.ec_query.proofs.held_list.HeldList.push.Goals as goal
use Rattle.ec_query.proofs.held_list.HeldList.push.Goals.{then-self-lt-MOST_LISTED, else-self-lt-MOST_LISTED}

pub returns-clause-listed : goal.returns-clause-listed
returns-clause-listed c = λ ps lists.
    let before = rw (← c.self.view_is) at lists in
    elim c.if-self-lt-MOST_LISTED.branch [
      | then-self-lt-MOST_LISTED w ↦ rw w.self-inside-is (Lists-push_kept c.self.inside.numbers c.self.inside.count ps c.args.p c.self.invariant before w.if-self-lt-MOST_LISTED.true)
      | else-self-lt-MOST_LISTED w ↦ rw w.self-inside-is (Lists-push_counted c.self.inside.numbers c.self.inside.count ps c.args.p c.self.invariant before w.if-self-lt-MOST_LISTED.false)
    ]
