-- What is not kept stays so, and what is mentioned stays too.
use Rattle.std.proofs.Common.{◌≡◌, Some, None, is_some, sym, ap, ◌∙◌}
use Rattle.std.proofs.lemmas.Bool.{false≢true}
use Rattle.ec_store.specs.Table.{prop_at}
use Rattle.ec_store.proofs.PropLemmas.{prop_at-without_itself}
use Rattle.ec_parts.proofs.Forgotten.{unmentioned-not_live}
use Rattle.ec_batch.proofs.Forgetting.{none_mentioned}
use Rattle.ec_batch.proofs.idle.forget_one.Goals as goal

pub mentions-requires : goal.mentions-requires
mentions-requires g c = sym (c.requires.both.tables.added.added c.args.p) ∙ sym c.is_added.ensures.added ∙ c.if-not-is_added.false

pub returns-then-mentions-eq0-clause-both : goal.returns-then-mentions-eq0-clause-both
returns-then-mentions-eq0-clause-both g c events tally stand =
    c.forget.ensures.both events events tally
    (λ t is. unmentioned-not_live c.args.parts.now.checked events t (sym (c.mentions.ensures ∙ ap Some c.if-mentions-eq0.true) ∙ stand.tables.kept.mentions c.args.p.0 t is)) stand

pub returns-then-mentions-eq0-clause-gone : goal.returns-then-mentions-eq0-clause-gone
returns-then-mentions-eq0-clause-gone g c =
    none_mentioned c.args.p.0 0 c.forget.new.parts.props (ap (prop_at c.args.p.0) c.forget.ensures.table ∙ prop_at-without_itself c.args.p.0 c.args.parts.now.props)

pub returns-then-mentions-eq0-clause-others : goal.returns-then-mentions-eq0-clause-others
returns-then-mentions-eq0-clause-others g c q some =
    let gone : prop_at c.args.p.0 c.forget.new.parts.props ≡ None = ap (prop_at c.args.p.0) c.forget.ensures.table ∙ prop_at-without_itself c.args.p.0 c.args.parts.now.props in
    c.forget.ensures.others q (λ same. false≢true (sym (ap is_some (ap (λ n. prop_at n c.forget.new.parts.props) same ∙ gone)) ∙ some))
