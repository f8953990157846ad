-- A number is new exactly where the table grew longer.
use Rattle.std.proofs.Common.{◌++◌, ◌∷◌, [], ap, ◌∙◌, arith}
use Rattle.ec_terms.specs.Term.{ground_of}
use Rattle.ec_context.proofs.Keepings.{HasKept-longer, HasKept-no_longer}
use Rattle.ec_context.proofs.NewNumbers.{AddsOnly-push, AddsOnly-same}
use Rattle.ec_context.proofs.keeping.keep.Goals as goal

pub returns-then-len-count-clause-kept : goal.returns-then-len-count-clause-kept
returns-then-len-count-clause-kept c =
    HasKept-longer c.args.props.now c.intern.new.self c.args.added.now.items c.push_reserved.new.self.items c.in_ok-p.p (ground_of c.args.term.now)
    c.requires.unmentioned c.len-count.ensures.order (omega (arith, c.if-len-count.true, c.len.ensures.len, c.len-count.ensures.len))
    c.in_ok-p.ensures.same c.in_ok-p.ensures.free c.in_ok-p.ensures.props c.in_ok-p.ensures.others
    (c.push_reserved.ensures.items ∙ ap (λ ps. ps ++ c.in_ok-p.p ∷ []) c.reserve.ensures.items)

pub returns-else-len-count-clause-kept : goal.returns-else-len-count-clause-kept
returns-else-len-count-clause-kept c =
    HasKept-no_longer c.args.props.now c.intern.new.self c.args.added.now.items c.reserve.new.self.items c.in_ok-p.p (ground_of c.args.term.now)
    c.requires.unmentioned c.len-count.ensures.order (λ longer. omega (arith, longer, c.if-len-count.false, c.len.ensures.len, c.len-count.ensures.len))
    c.in_ok-p.ensures.same c.in_ok-p.ensures.props c.reserve.ensures.items

pub returns-then-len-count-clause-added : goal.returns-then-len-count-clause-added
returns-then-len-count-clause-added c =
    AddsOnly-push c.args.added.now.items c.push_reserved.new.self.items c.in_ok-p.p (c.push_reserved.ensures.items ∙ ap (λ ps. ps ++ c.in_ok-p.p ∷ []) c.reserve.ensures.items)

pub returns-else-len-count-clause-added : goal.returns-else-len-count-clause-added
returns-else-len-count-clause-added c = AddsOnly-same _ c.args.added.now.items c.reserve.new.self.items c.reserve.ensures.items
