-- The term is kept, and then it is current.
use Rattle.std.proofs.Common.{◌++◌, ◌∷◌, [], refl, sym, ap, subst, ◌∙◌}
use Rattle.ec_terms.specs.Matching.{filled}
use Rattle.ec_terms.specs.Term.{ground_of}
use Rattle.ec_exclusive.specs.CurrentProps.{HasForms}
use Rattle.ec_pass.specs.declared.present.Present.{Present}
use Rattle.ec_pass.specs.Present.{IsFirst}
use Rattle.ec_pass.proofs.BeginningLemmas.{IsFirst-more, IsFirst-widened}
use Rattle.ec_pass.proofs.NumberLemmas.{HasForms-widened}
use Rattle.ec_pass.proofs.present.Present.enter_initial.Goals as goal

pub enter_each-requires-clause-forms : goal.enter_each-requires-clause-forms
enter_each-requires-clause-forms c =
    subst (HasForms c.args.theory.now c.know.new.self.props) (sym c.in_ok-p.ensures.current)
    (HasForms-widened c.args.self.now.props c.know.new.self.props c.in_ok-p.ensures.kept c.args.theory.now c.args.self.now.current c.requires.forms)

pub returns : goal.returns
returns c terms first =
    let after : Present = record {
      props = c.know.new.self.props;
      current = c.enter_each.new.now;
      started = c.know.new.self.started;
      ended = c.know.new.self.ended;
      added = c.know.new.self.added;
      alloc = c.know.new.self.alloc;
    } in
    subst (λ term. IsFirst c.args.theory.now (terms ++ term ∷ []) after) (c.fill_ref.ensures.filled ∙ ap (λ values. filled values c.args.initial.now.prop) c.new.ensures)
    (IsFirst-more c.args.theory.now terms (ground_of c.fill_ref.result) c.in_ok-p.p c.know.new.self after c.in_ok-p.ensures.order c.in_ok-p.ensures.term refl
    c.in_ok-enter_each.ensures.members c.in_ok-enter_each.ensures.forms refl refl
    (IsFirst-widened c.args.theory.now terms c.args.self.now c.know.new.self c.in_ok-p.ensures.kept c.in_ok-p.ensures.order c.in_ok-p.ensures.current
    (ap (λ v. v.items) c.in_ok-p.ensures.started) (ap (λ v. v.items) c.in_ok-p.ensures.ended) first))
