-- The limit is the same.
use Rattle.std.proofs.Common.{ap, ◌∙◌}
use Rattle.std.specs.Prelude.{Err}
use Rattle.ec_cert.proofs.FileLimits.{few_mentions-mentions, few_mentions-links}
use Rattle.ec_cert.proofs.limits.limit_name.Goals as goal

pub returns-in-FullMentions : goal.returns-in-FullMentions
returns-in-FullMentions c = record { name = λ theory events is. few_mentions-mentions theory events (is ∙ ap Err c.in-FullMentions.is) }

pub returns-in-FullLinks : goal.returns-in-FullLinks
returns-in-FullLinks c = record { name = λ theory events is. few_mentions-links theory events (is ∙ ap Err c.in-FullLinks.is) }
