-- The places that are added are empty.
use Rattle.std.proofs.Common.{rules, arith}
use Rattle.ec_numbered.proofs.ByNumberLemmas.{kept_at-AppendsResults}
use Rattle.ec_entries.proofs.entries.widen.Goals as goal

pub returns-in_ok-resize_with-clause-kept : goal.returns-in_ok-resize_with-clause-kept
returns-in_ok-resize_with-clause-kept g c = λ slot.
    kept_at-AppendsResults _ (λ f x f' called. search (rules, called)) slot _ _ c.resize_with.new.self.items _
    (omega (arith, c.len.ensures, c.if-len-places.true, c.args.slots.now.ok.0)) c.in_ok-resize_with.ensures.items
