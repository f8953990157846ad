-- The last of the numbers goes, and the others stay unmentioned.
use Rattle.std.proofs.Common.{◌≡◌, [], sym, ap, subst, ◌∙◌, rules}
use Rattle.ec_context.specs.Widened.{AreUnmentioned, without_props}
use Rattle.ec_context.proofs.Tables.{without_props-none, without_props-push}
use Rattle.ec_context.proofs.Keepings.{AreUnmentioned-pop, unmentioned-last}
use Rattle.ec_context.proofs.keeping.forget_each.Goals as goal

pub forget-requires : goal.forget-requires
forget-requires c =
    unmentioned-last c.pop.new.self.items c.in-Some.p c.loop-p.props
    (subst (λ ps. AreUnmentioned ps c.loop-p.props) c.in-Some.ensures.items c.loop-p.invariant.unmentioned)

pub loop-p-preserved : goal.loop-p-preserved
loop-p-preserved c = record {
  unmentioned = AreUnmentioned-pop c.pop.new.self.items c.in-Some.p c.loop-p.props c.forget.new.self
      (subst (λ ps. AreUnmentioned ps c.loop-p.props) c.in-Some.ensures.items c.loop-p.invariant.unmentioned) c.forget.ensures.others;
  back = ap (without_props c.pop.new.self.items) c.forget.ensures.props
      ∙ sym (without_props-push c.pop.new.self.items c.in-Some.p c.loop-p.props)
      ∙ ap (λ ps. without_props ps c.loop-p.props) (sym c.in-Some.ensures.items)
      ∙ c.loop-p.invariant.back;
}

pub returns : goal.returns
returns c =
    let none : c.loop-p.added.items ≡ [] = search rules in
    sym (without_props-none c.loop-p.props) ∙ ap (λ ps. without_props ps c.loop-p.props) (sym none) ∙ c.loop-p.invariant.back
