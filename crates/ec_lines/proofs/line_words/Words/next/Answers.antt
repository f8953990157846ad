use Rattle.std.proofs.Common.{sym, ◌∙◌, arith}
use Rattle.std.proofs.lemmas.Grind.{common_steps}
use Rattle.ec_lines.proofs.WordLemmas.{words_of-found, words_of-not_found}
use Rattle.ec_lines.proofs.line_words.Words.next.Goals as goal

pub returns-then-is_empty-clause-none : goal.returns-then-is_empty-clause-none
returns-then-is_empty-clause-none c =
    sym c.self.view_is
    ∙ words_of-not_found c.self.inside.rest.now c.blank_len.result c.word_len.result c.split_at.result.0.now c.split_at.result.1.now
    c.blank_len.ensures c.word_len.ensures c.split_at.ensures.front c.split_at.ensures.back (sym c.is_empty.ensures ∙ c.if-is_empty.true)

pub returns-clause-some : goal.returns-clause-some
returns-clause-some c =
    sym c.self.view_is
    ∙ words_of-found c.self.inside.rest.now c.blank_len.result c.word_len.result c.split_at.result.0.now c.split_at.result.1.now
    c.blank_len.ensures c.word_len.ensures c.split_at.ensures.front c.split_at.ensures.back (sym c.is_empty.ensures ∙ c.if-is_empty.false)

pub slice_bounds-rest-start : goal.slice_bounds-rest-start
slice_bounds-rest-start c = grind (arith, common_steps)

pub split_at-requires : goal.split_at-requires
split_at-requires c = grind (arith, common_steps)

pub slice_bounds-rest-count : goal.slice_bounds-rest-count
slice_bounds-rest-count c = grind (arith, common_steps)

pub returns-clause-nonempty : goal.returns-clause-nonempty
returns-clause-nonempty c = grind (arith, common_steps)
