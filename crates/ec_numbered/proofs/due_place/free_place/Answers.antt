-- The property stands at the cut, or it would go in there.
use Rattle.std.proofs.Common.{◌≡◌, not, false, length, refl, sym, ap, ◌∙◌, arith}
use Rattle.std.proofs.lemmas.Grind.{common_steps}
use Rattle.std.proofs.lemmas.Option.{slice_get_read}
use Rattle.ec_numbered.specs.Due.{has_due}
use Rattle.ec_numbered.proofs.DueLemmas.{insert-with_due, has_due-end, has_due-other}
use Rattle.ec_numbered.proofs.due_place.free_place.Goals as goal
use Rattle.ec_numbered.proofs.due_place.free_place.Goals.{Else-is_same, In_default}

-- the list ends at the cut
absent-end : (g : _) (c : In_default g) → has_due g.T.Moment.rank (g.T.Moment.rank c.args.at) c.args.p.0 c.args.dues.now.items ≡ false
absent-end g c =
    has_due-end g.T.Moment.rank (c.args.at, c.args.p) c.args.dues.now.items c.count_before-place.result c.requires c.count_before-place.ensures.cut c.in_default.ensures.item.3

-- another stands at the cut
absent-other : (g : _) (c : Else-is_same g) → has_due g.T.Moment.rank (g.T.Moment.rank c.args.at) c.args.p.0 c.args.dues.now.items ≡ false
absent-other g c =
    has_due-other g.T.Moment.rank (c.args.at, c.args.p) c.args.dues.now.items c.count_before-place.result c.requires c.count_before-place.ensures.cut c.in-Some.due.now
    (slice_get_read c.args.dues.now.items (length c.args.dues.now.items) c.count_before-place.result c.in-Some.due.now refl c.in-Some.ensures.item.3.0 (c.in-Some.ensures.item.3.1 c.in-Some.due.now))
    (sym c.is_same.ensures ∙ c.if-is_same.false)

pub returns-in_default-clause-some : goal.returns-in_default-clause-some
returns-in_default-clause-some g c = sym (ap not (absent-end g c))

pub returns-in_default-clause-inserted : goal.returns-in_default-clause-inserted
returns-in_default-clause-inserted g c =
    insert-with_due g.T.Moment.rank (c.args.at, c.args.p) c.args.dues.now.items c.count_before-place.result c.requires c.count_before-place.ensures.cut (absent-end g c)

pub returns-else-is_same-clause-some : goal.returns-else-is_same-clause-some
returns-else-is_same-clause-some g c = sym (ap not (absent-other g c))

pub returns-else-is_same-clause-inserted : goal.returns-else-is_same-clause-inserted
returns-else-is_same-clause-inserted g c =
    insert-with_due g.T.Moment.rank (c.args.at, c.args.p) c.args.dues.now.items c.count_before-place.result c.requires c.count_before-place.ensures.cut (absent-other g c)

pub returns-then-is_same-clause-some : goal.returns-then-is_same-clause-some
returns-then-is_same-clause-some c = grind (arith, common_steps)
