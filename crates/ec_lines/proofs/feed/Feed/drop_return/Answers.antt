use Rattle.std.proofs.Common.{◌≡◌, ◌-◌, ◌∙◌, take, sym, ap, ap₂}
use Rattle.std.proofs.lemmas.Bool.{false≢true}
use Rattle.ec_commands.specs.Lines.{without_return}
use Rattle.ec_lines.specs.FeedState.{FeedState}
use Rattle.ec_lines.proofs.CutLines.{without_return-take, without_return-same}
use Rattle.ec_lines.proofs.feed.Feed.drop_return.Goals as goal

pub returns-then-ends_with_return-clause-kept : goal.returns-then-ends_with_return-clause-kept
returns-then-ends_with_return-clause-kept c =
    let kept : c.deref.result.now ≡ c.args.self.now.kept = c.deref.ensures.value ∙ ap (λ (f : FeedState). f.kept) c.self.view_is in
    let ends = c.ends_with_return.ensures.0 c.if-ends_with_return.true in
    let one_less = without_return-take c.deref.result.now ends.0 ends.1 in
    c.pop.ensures.rest ∙ ap₂ (λ n xs. take (n - 1) xs) (sym c.deref.ensures.len) (sym c.deref.ensures.value) ∙ sym one_less ∙ ap without_return kept

pub returns-else-ends_with_return-clause-kept : goal.returns-else-ends_with_return-clause-kept
returns-else-ends_with_return-clause-kept c =
    let kept : c.deref.result.now ≡ c.args.self.now.kept = c.deref.ensures.value ∙ ap (λ (f : FeedState). f.kept) c.self.view_is in
    let same = without_return-same c.deref.result.now (λ some ends. absurd (false≢true (sym c.if-ends_with_return.false ∙ c.ends_with_return.ensures.1 (some, ends)))) in
    sym kept ∙ sym same ∙ ap without_return kept
