-- Each byte that is the same leads on; the first other one, or the end of either text, is where they leave each other.
use Rattle.std.proofs.Common.{◌≡◌, ◌<◌, ◌≤◌, length, get_or, refl, sym, ◌∙◌, arith}
use Rattle.std.specs.Prelude.{min}
use Rattle.std.proofs.lemmas.Grind.{common_steps}
use Rattle.ec_cert.proofs.Differences.{at_more, at_stop, bad_line-ends, common_ends-end, common_ends-le, common_ends-step, common_ends-stop, small_line}
use Rattle.ec_cert.proofs.comparing.bad_line.Goals as goal

pub returns-then-byte-wanted : goal.returns-then-byte-wanted
returns-then-byte-wanted c =
    let a = c.args.certificate.now in
    let b = c.args.label.now in
    let at = c.loop-at.at in
    let within : at < length a = grind (arith, common_steps) in
    let also : at < length b = grind (arith, common_steps) in
    at_stop _ _ _ (common_ends-stop a b at (get_or a at 0) (get_or b at 0) within also refl refl c.if-byte-wanted.true) c.loop-at.invariant ∙ sym (bad_line-ends a b)

pub overflow_add-line : goal.overflow_add-line
overflow_add-line c =
    let small : c.loop-at.line ≤ 67108865 = small_line c.loop-at.line _ _ (length c.args.certificate.now) c.loop-at.invariant (common_ends-le c.args.certificate.now c.args.label.now) c.requires.few in
    omega (arith, c.ends_line-line.ensures.small)

pub loop-at-preserved : goal.loop-at-preserved
loop-at-preserved c =
    let a = c.args.certificate.now in
    let b = c.args.label.now in
    let at = c.loop-at.at in
    let within : at < length a = grind (arith, common_steps) in
    let also : at < length b = grind (arith, common_steps) in
    at_more c.loop-at.line _ _ _ c.ends_line-line.result _ (common_ends-step a b at (get_or a at 0) (get_or b at 0) within also refl refl c.if-byte-wanted.false) c.ends_line-line.ensures.value c.loop-at.invariant

pub returns : goal.returns
returns c =
    let a = c.args.certificate.now in
    let b = c.args.label.now in
    let end : c.loop-at.at ≡ min (length a) (length b) = grind (arith, common_steps) in
    at_stop _ _ _ (common_ends-end a b c.loop-at.at end) c.loop-at.invariant ∙ sym (bad_line-ends a b)
