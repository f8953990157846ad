use Rattle.std.proofs.Common.{◌≡◌, List, ℕ, length, arith, ◌∙◌, sym, ap}
use Rattle.std.proofs.lemmas.Bool.{false≢true}
use Rattle.std.proofs.lemmas.Grind.{common_steps}
use Rattle.ec_commands.specs.Lines.{cut_of}
use Rattle.ec_lines.specs.FeedState.{FeedState, IsPart, IsEnded}
use Rattle.ec_lines.proofs.FeedLemmas.{IsReady-end, IsEnded-some, IsEnded-none, Finishes-end, length-part}
use Rattle.ec_lines.proofs.feed.Feed.end.Goals as goal
use Rattle.ec_lines.proofs.feed.Feed.end.Goals.{After-finish, then-self-via-then-self, then-self-via-else-self+then-not-is_empty}

-- the line that the end makes
line_of : (c : After-finish) (bytes : List ℕ) → IsPart c.args.self.now bytes → IsEnded c.finish.new.self bytes
line_of c bytes part =
    IsEnded-some c.finish.new.self bytes
    (length-part c.args.self.now bytes part (elim c.then-self.branch [ then-self-via-then-self w ↦ λ short. absurd (false≢true (sym short ∙ ap (λ (f : FeedState). f.is_long) (sym c.self.view_is) ∙ w.if-self.true)) | then-self-via-else-self+then-not-is_empty w ↦ λ short. grind (arith, common_steps) ]))
    (IsReady-end c.args.self.now c.finish.new.self bytes part c.finish.ensures.ready c.finish.ensures.long c.finish.ensures.kept)

pub returns-then-self-clause-line : goal.returns-then-self-clause-line
returns-then-self-clause-line c = line_of c

pub returns-then-self-clause-stream : goal.returns-then-self-clause-stream
returns-then-self-clause-stream c = λ stream part. Finishes-end c.finish.new.self stream (line_of c (cut_of stream).rest part)

pub returns-else-not-is_empty-clause-stream : goal.returns-else-not-is_empty-clause-stream
returns-else-not-is_empty-clause-stream c = λ stream part.
    let empty : length c.args.self.now.kept ≡ 0 = grind (arith, common_steps) in
    Finishes-end c.args.self.now stream
    (IsEnded-none c.args.self.now (cut_of stream).rest part (ap (λ (f : FeedState). f.is_long) (sym c.self.view_is) ∙ c.if-self.false) empty)

pub returns-else-not-is_empty-clause-line : goal.returns-else-not-is_empty-clause-line
returns-else-not-is_empty-clause-line c = grind (arith, common_steps)
