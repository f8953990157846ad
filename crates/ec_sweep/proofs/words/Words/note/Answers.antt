-- The word is put in its own place.
use Rattle.std.proofs.Common.{◌≡◌, cond, Some, ap, subst, ◌∙◌, arith}
use Rattle.std.proofs.lemmas.Grind.{common_steps}
use Rattle.std.specs.Prelude.{◌==◌, unwrap_or}
use Rattle.ec_parts.specs.Activity.{is_bit_set}
use Rattle.ec_sweep.specs.Words.{word_at}
use Rattle.ec_sweep.proofs.WordRows.{word_at-other, word_at-own}
use Rattle.ec_sweep.proofs.words.Words.note.Goals as goal

pub returns-in_ok-insert-clause-others : goal.returns-in_ok-insert-clause-others
returns-in_ok-insert-clause-others c = λ n apart.
    word_at-other c.args.slot.0 n c.with_bit.result c.args.self.now c.insert.new.self
    (subst (λ rows. word_at n c.insert.new.self ≡ cond (c.args.slot.0 == n) (Some c.with_bit.result) (word_at n rows)) c.self.view_is (c.in_ok-insert.ensures.ok n))
    apart

pub returns-else-has_bit-is_active-clause-here : goal.returns-else-has_bit-is_active-clause-here
returns-else-has_bit-is_active-clause-here c = grind (arith, common_steps)

pub returns-in_ok-insert-clause-here : goal.returns-in_ok-insert-clause-here
returns-in_ok-insert-clause-here c = λ k.
    ap (λ o. is_bit_set (unwrap_or o c.args.before) k)
    (word_at-own c.args.slot.0 c.with_bit.result c.args.self.now c.insert.new.self
    (subst (λ rows. word_at c.args.slot.0 c.insert.new.self ≡ cond (c.args.slot.0 == c.args.slot.0) (Some c.with_bit.result) (word_at c.args.slot.0 rows)) c.self.view_is
    (c.in_ok-insert.ensures.ok c.args.slot.0)))
    ∙ c.with_bit.ensures k
    ∙ ap (λ w. cond (c.args.place == k) c.args.is_active (is_bit_set w k))
    (c.unwrap_or-word.ensures ∙ ap (λ o. unwrap_or o c.args.before) (c.get.ensures ∙ ap (word_at c.args.slot.0) c.self.view_is))
