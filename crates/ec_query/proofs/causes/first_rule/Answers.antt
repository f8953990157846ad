-- The entries stand place by place with the effects.
use Rattle.std.proofs.Common.{arith}
use Rattle.ec_query.specs.Sought.{is_sought}
use Rattle.ec_query.proofs.ShownEffects.{rule-found, rule-none, rule-not_yet}
use Rattle.ec_query.proofs.causes.first_rule.Goals as goal

pub returns-then-is_active_cause : goal.returns-then-is_active_cause
returns-then-is_active_cause g c = λ events p effects on are.
    let parts = c.args.parts.now in
    rule-found parts.checked events parts.props c.args.list.now c.args.active effects are (is_sought parts.checked p c.args.sought) c.loop-k.k c.get-entry.result.now c.get-entry.ensures
    c.is_active_cause.result (λ shown is. c.is_active_cause.ensures events p shown on is) (c.loop-k.invariant events p effects on are) c.if-is_active_cause.true

pub loop-k-preserved : goal.loop-k-preserved
loop-k-preserved g c = λ events p effects on are.
    let parts = c.args.parts.now in
    rule-not_yet parts.checked events parts.props c.args.list.now c.args.active effects are (is_sought parts.checked p c.args.sought) c.loop-k.k c.get-entry.result.now c.get-entry.ensures
    c.is_active_cause.result (λ shown is. c.is_active_cause.ensures events p shown on is) (c.loop-k.invariant events p effects on are) c.if-is_active_cause.false

pub returns : goal.returns
returns g c = λ events p effects on are.
    let parts = c.args.parts.now in
    rule-none parts.checked events parts.props c.args.list.now c.args.active effects are (is_sought parts.checked p c.args.sought) c.loop-k.k (omega (arith, c.len-k-end.ensures.count, c.loop-k-test.false))
    (c.loop-k.invariant events p effects on are)
