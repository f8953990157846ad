-- What follows from the calls and the tests before it.
use Rattle.std.proofs.Common.{Some, sym, ap, ◌∙◌, arith}
use Rattle.std.proofs.lemmas.Grind.{common_steps}
use Rattle.std.specs.Prelude.{slice_get}
use Rattle.ec_blocks.specs.Body.{seen_of}
use Rattle.ec_blocks.specs.Chain.{joined}
use Rattle.ec_blocks.proofs.blocks.Blocks.remove.Goals.{in-Few, in-Many}
use Rattle.ec_blocks.proofs.blocks.Blocks.remove.Goals as goal

pub returns-clause-items : goal.returns-clause-items
returns-clause-items c = grind (arith, common_steps)

pub returns-clause-member : goal.returns-clause-member
returns-clause-member g c =
    elim c.match-self.branch [
      | in-Few w ↦ ap (λ v. slice_get v.items c.args.i) (sym c.self.view_is) ∙ ap (λ b. slice_get (seen_of b).items c.args.i) w.in-Few.is ∙ w.remove_within.ensures.member ∙ ap (λ x. Some x) (sym w.result-is)
      | in-Many w ↦ ap (λ v. slice_get v.items c.args.i) (sym c.self.view_is) ∙ ap (λ b. slice_get (seen_of b).items c.args.i) w.in-Many.is ∙ ap (λ ch. slice_get (joined ch.blocks) c.args.i) (sym w.deref_mut.ensures.value) ∙ w.remove_at.ensures.member ∙ ap (λ x. Some x) (sym w.result-is)
    ]
