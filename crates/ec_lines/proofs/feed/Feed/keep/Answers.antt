-- Bytes that fit are put behind those that are kept; where they do not fit, the line is too long.
use Rattle.std.proofs.Common.{◌++◌, ◌∙◌, sym, ap, arith}
use Rattle.std.proofs.lemmas.Bool.{false≢true}
use Rattle.std.proofs.lemmas.Grind.{common_steps}
use Rattle.ec_lines.specs.FeedState.{FeedState}
use Rattle.ec_lines.proofs.feed.Feed.keep.Goals as goal
use Rattle.ec_lines.proofs.feed.Feed.keep.Goals.{then-self-via-then-self, then-self-via-else-self+then-bytes-len}

pub returns-clause-part : goal.returns-clause-part
returns-clause-part c = λ taken part. record {
  not_ready = ap (λ (f : FeedState). f.is_ready) c.self.view_is ∙ c.requires;
  kept = λ short.
      c.in-Ok.ensures.items
      ∙ ap (λ kept. kept ++ c.args.bytes.now) (ap (λ (f : FeedState). f.kept) c.self.view_is ∙ part.kept (ap (λ (f : FeedState). f.is_long) (sym c.self.view_is) ∙ short));
  long = λ more. absurd (false≢true (sym c.if-self.false ∙ more));
}

pub returns-then-self-clause-part : goal.returns-then-self-clause-part
returns-then-self-clause-part c = λ taken part. record {
  not_ready = ap (λ (f : FeedState). f.is_ready) c.self.view_is ∙ c.requires;
  kept = λ short. absurd (false≢true (sym short));
  long = λ _. elim c.then-self.branch [ then-self-via-then-self w ↦ grind (arith, common_steps) | then-self-via-else-self+then-bytes-len w ↦ grind (arith, common_steps) ];
}

pub invariant_of-self-2 : goal.invariant_of-self-2
invariant_of-self-2 c = grind (arith, common_steps)
