-- What the code's answers are among the plain ones.
use Rattle.ec_commands.specs.Answers.{PlainAnswer, answer_ok, answer_yes, answer_no, answer_bye, answer_drafted, answer_last, refused_long_line, refused_syntax, refused_in_draft, refused_no_draft, refused_full_draft, refused_order, refused_full_pairs, refused_future, refused_gone, refused_memory, refused_update, refused_commit}
use Rattle.ec_lines.specs.declared.answer.Answer.{Answer}
use Rattle.ec_lines.specs.declared.answer.Answer.TheVariants.{Ok, Yes, No, Bye, Drafted, Last, LongLine, Syntax, InDraft, NoDraft, FullDraft, Order, FullPairs, Future, Gone, Memory, Update, Commit}

-- the plain answer that an answer is
abbrev pub plain_answer : Answer → PlainAnswer
plain_answer Ok = answer_ok
plain_answer Yes = answer_yes
plain_answer No = answer_no
plain_answer Bye = answer_bye
plain_answer (Drafted k) = answer_drafted k
plain_answer (Last seen) = answer_last seen
plain_answer LongLine = refused_long_line
plain_answer Syntax = refused_syntax
plain_answer InDraft = refused_in_draft
plain_answer NoDraft = refused_no_draft
plain_answer FullDraft = refused_full_draft
plain_answer Order = refused_order
plain_answer FullPairs = refused_full_pairs
plain_answer (Future count) = refused_future count
plain_answer (Gone first) = refused_gone first
plain_answer (Memory none) = refused_memory
plain_answer (Update cut) = refused_update cut
plain_answer (Commit k cut) = refused_commit k cut
