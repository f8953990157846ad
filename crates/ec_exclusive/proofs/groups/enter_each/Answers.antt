-- One key more.
use Rattle.std.proofs.Common.{◌≡◌, Bool, true, false, ◌&&◌, ◌||◌, take, ap, ◌∙◌, arith}
use Rattle.std.proofs.lemmas.Grind.{common_steps}
use Rattle.std.specs.Prelude.{◌==◌}
use Rattle.ec_exclusive.specs.Groups.{is_among}
use Rattle.ec_exclusive.proofs.GroupLemmas.{is_among-first}
use Rattle.ec_exclusive.proofs.groups.enter_each.Goals as goal

-- a property that stands in the groups of no key so far
unchanged : (own among all now old : Bool) → (all ≡ false → among ≡ false) → (own && all) ≡ false → now ≡ ((own && among) || old) → now ≡ old
unchanged true among all now old first none is = let no = first none in is ∙ ap (λ b. b || old) no
unchanged false among all now old first none is = is

pub returns-in_err-put-clause-apart : goal.returns-in_err-put-clause-apart
returns-in_err-put-clause-apart c = λ k n none.
    unchanged (c.args.p.0 == n) (is_among (take c.loop-key.key-index c.args.keys.now) k) (is_among c.args.keys.now k) _ _ (is_among-first c.args.keys.now c.loop-key.key-index k) none
    (c.in_err-put.ensures.err k n ∙ c.loop-key.invariant k n)

pub returns-clause-apart : goal.returns-clause-apart
returns-clause-apart c = grind (arith, common_steps)

pub loop-key-preserved : goal.loop-key-preserved
loop-key-preserved c = grind (arith, common_steps)

pub returns-clause-ok : goal.returns-clause-ok
returns-clause-ok c = grind (arith, common_steps)
