-- The answers to lines, and their texts.
use Rattle.std.specs.Prelude.{ℕ, List, [], ◌∷◌, ◌++◌, Option, Some, None, codes, decimal}
use Rattle.ec_axioms.specs.declared.event.Cut.{Cut}
use Rattle.ec_axioms.specs.declared.event.Cut.TheVariants.{Duplicate, Unknown, FullEvents, FullMentions, FullLinks}
use Rattle.ec_axioms.specs.declared.event.Seen.{Seen}
use Rattle.ec_commands.specs.declared.limits.TheConstants.{MOST_DRAFTED, MOST_PAIRS, MOST_WATCHED}
use Rattle.ec_axioms.specs.Links.{most_events, most_mentions, most_links}

-- an answer that is one of a few fixed forms
pub data PlainAnswer : Type 0 where
  answer_ok : PlainAnswer
  answer_yes : PlainAnswer
  answer_no : PlainAnswer
  answer_bye : PlainAnswer
  answer_drafted : ℕ → PlainAnswer
  answer_last : Seen → PlainAnswer
  refused_long_line : PlainAnswer
  refused_syntax : PlainAnswer
  refused_in_draft : PlainAnswer
  refused_no_draft : PlainAnswer
  refused_full_draft : PlainAnswer
  refused_order : PlainAnswer
  refused_full_pairs : PlainAnswer
  refused_future : ℕ → PlainAnswer
  refused_gone : ℕ → PlainAnswer
  refused_watched : PlainAnswer
  refused_full_watches : PlainAnswer
  refused_not_watched : PlainAnswer
  refused_memory : PlainAnswer
  refused_update : Cut → PlainAnswer
  refused_commit : ℕ → Cut → PlainAnswer

-- what an update is refused for
unfoldable pub cut_text : Cut → List ℕ
cut_text (Duplicate id) = codes "duplicate " ++ id
cut_text (Unknown id) = codes "unknown " ++ id
cut_text FullEvents = codes "full-events " ++ decimal most_events
cut_text FullMentions = codes "full-mentions " ++ decimal most_mentions
cut_text FullLinks = codes "full-links " ++ decimal most_links

-- the four counts of a change
unfoldable pub seen_text : Seen → List ℕ
seen_text counts =
    codes "seen " ++ decimal counts.seen ++ codes " on " ++ decimal counts.on ++ codes " off " ++ decimal counts.off ++ codes " props "
    ++ decimal counts.props

-- the text of an answer, without prefix and line end
unfoldable pub answer_text : PlainAnswer → List ℕ
answer_text answer_ok = codes "ok"
answer_text answer_yes = codes "yes"
answer_text answer_no = codes "no"
answer_text answer_bye = codes "bye"
answer_text (answer_drafted k) = codes "drafted " ++ decimal k
answer_text (answer_last counts) = codes "last " ++ seen_text counts
answer_text refused_long_line = codes "refused long-line"
answer_text refused_syntax = codes "refused syntax"
answer_text refused_in_draft = codes "refused in-draft"
answer_text refused_no_draft = codes "refused no-draft"
answer_text refused_full_draft = codes "refused full-draft " ++ decimal MOST_DRAFTED
answer_text refused_order = codes "refused order"
answer_text refused_full_pairs = codes "refused full-pairs " ++ decimal MOST_PAIRS
answer_text (refused_future count) = codes "refused future " ++ decimal count
answer_text (refused_gone first) = codes "refused gone " ++ decimal first
answer_text refused_watched = codes "refused watched"
answer_text refused_full_watches = codes "refused full-watches " ++ decimal MOST_WATCHED
answer_text refused_not_watched = codes "refused not-watched"
answer_text refused_memory = codes "refused memory"
answer_text (refused_update cut) = codes "refused " ++ cut_text cut
answer_text (refused_commit k cut) = codes "refused commit " ++ decimal k ++ codes " " ++ cut_text cut

-- the prefix of a reply: `@`, the session's number and a space, where the line had a prefix
unfoldable pub front_text : Option ℕ → List ℕ
front_text None = []
front_text (Some session) = codes "@" ++ decimal session ++ codes " "

-- the whole reply line: prefix, answer and line end
unfoldable pub reply_text : Option ℕ → PlainAnswer → List ℕ
reply_text session answer = front_text session ++ answer_text answer ++ 10 ∷ []
