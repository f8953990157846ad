-- One rule more has its place, or none.
use Rattle.std.proofs.Common.{ℕ, Vec, Global, [], ◌∷◌, ◌++◌, sym, ap, ◌∙◌, arith}
use Rattle.std.proofs.lemmas.Grind.{common_steps}
use Rattle.ec_context.proofs.PlaceLemmas.{places_for-met, places_for-none, places_for-not_met}
use Rattle.ec_context.proofs.rules.places_of.Goals as goal
use Rattle.ec_context.proofs.rules.places_of.Goals.{then-is_for+in_ok-push, else-is_for}

pub loop-i-init : goal.loop-i-init
loop-i-init c = c.new-places.ensures.items ∙ sym (places_for-none c.args.name.now c.args.arity)

pub loop-i-preserved : goal.loop-i-preserved
loop-i-preserved c =
    elim c.if-is_for.branch [
      | then-is_for+in_ok-push w ↦ ap (λ (v : Vec ℕ Global). v.items) w.places-is
          ∙ w.in_ok-push.ensures.items
          ∙ ap (λ ps. ps ++ c.loop-i.i ∷ []) c.loop-i.invariant
          ∙ sym (places_for-met c.args.name.now c.args.arity c.args.rules.now c.loop-i.i c.index-rules-i.result c.loop-i-test.true c.index-rules-i.is
          (sym c.is_for.ensures ∙ w.if-is_for.true))
      | else-is_for w ↦ ap (λ (v : Vec ℕ Global). v.items) w.places-is
          ∙ c.loop-i.invariant
          ∙ sym (places_for-not_met c.args.name.now c.args.arity c.args.rules.now c.loop-i.i c.index-rules-i.result c.loop-i-test.true c.index-rules-i.is
          (sym c.is_for.ensures ∙ w.if-is_for.false))
    ]

pub returns : goal.returns
returns c = grind (arith, common_steps)
