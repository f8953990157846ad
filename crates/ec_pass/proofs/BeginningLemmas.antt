-- The present before all events, with a wider table and with a term more.
use Rattle.std.proofs.Common.{◌≡◌, ℕ, true, ◌||◌, List, [], ◌∷◌, ◌++◌, Some, refl, sym, ap, subst, ◌∙◌}
use Rattle.std.specs.Prelude.{◌==◌}
use Rattle.std.specs.List.{list_any}
use Rattle.std.proofs.lemmas.List.Folds.{list_any-append}
use Rattle.std.proofs.Math.Bool.{or-false}
use Rattle.ec_terms.specs.declared.ground.Ground.{Ground}
use Rattle.ec_terms.specs.declared.ids.PropId.{PropId}
use Rattle.ec_terms.specs.declared.theory.Theory.{Theory}
use Rattle.ec_terms.specs.Term.{term_eq}
use Rattle.ec_terms.proofs.DomainLemmas.{term_eq-comm}
use Rattle.ec_store.specs.Table.{is_in_order, term_at}
use Rattle.ec_numbered.specs.PropSet.{has_number}
use Rattle.ec_exclusive.specs.CurrentProps.{HasForms, is_in}
use Rattle.ec_context.specs.Widened.{KeepsAll}
use Rattle.ec_pass.specs.declared.present.Present.{Present}
use Rattle.ec_pass.specs.Numbers.{AreNumbersOf}
use Rattle.ec_pass.specs.Present.{IsFirst}
use Rattle.ec_pass.proofs.NumberLemmas.{AreNumbersOf-one, AreNumbersOf-or, AreNumbersOf-same, AreNumbersOf-widened, HasForms-widened}

module _ (theory : Theory) (terms : List Ground) where
  pub IsFirst-widened : (before after : Present) → KeepsAll before.props after.props → is_in_order after.props ≡ true → after.current ≡ before.current
      → after.started.items ≡ before.started.items → after.ended.items ≡ before.ended.items → IsFirst theory terms before → IsFirst theory terms after
  IsFirst-widened before after kept order now started ended first = record {
    forms = subst (HasForms theory after.props) (sym now) (HasForms-widened before.props after.props kept theory before.current first.forms);
    current = AreNumbersOf-same (λ n. ap (is_in n) now) (λ q. refl) (AreNumbersOf-widened before.props after.props kept order first.current);
    started = started ∙ first.started;
    ended = ended ∙ first.ended;
  }

  pub IsFirst-more : (term : Ground) (p : PropId) (before after : Present) → is_in_order before.props ≡ true → term_at p.0 before.props ≡ Some term → after.props ≡ before.props
      → ((n : ℕ) → is_in n after.current ≡ (is_in n before.current || has_number n (p ∷ []))) → HasForms theory before.props after.current
      → after.started.items ≡ before.started.items → after.ended.items ≡ before.ended.items → IsFirst theory terms before → IsFirst theory (terms ++ term ∷ []) after
  IsFirst-more term p before after order there props entered forms started ended first = record {
    forms = subst (λ rows. HasForms theory rows after.current) (sym props) forms;
    current = subst (λ rows. AreNumbersOf rows (λ n. is_in n after.current) (λ q. list_any (term_eq q) (terms ++ term ∷ []))) (sym props)
        (AreNumbersOf-same (λ n. entered n ∙ ap (λ b. is_in n before.current || b) (or-false (p.0 == n)))
        (λ q. list_any-append (term_eq q) terms (term ∷ []) ∙ ap (λ b. list_any (term_eq q) terms || b) (or-false (term_eq q term) ∙ term_eq-comm q term))
        (AreNumbersOf-or first.current (AreNumbersOf-one true p.0 term order there)));
    started = started ∙ first.started;
    ended = ended ∙ first.ended;
  }
