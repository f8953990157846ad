-- What follows from the calls and the tests before it.
use Rattle.std.proofs.Common.{◌≡◌, length, sym, ap, ◌∙◌, arith}
use Rattle.std.proofs.lemmas.Grind.{common_steps}
use Rattle.std.specs.Prelude.{slice_get}
use Rattle.std.proofs.lemmas.Option.{slice_get_read}
use Rattle.ec_blocks.specs.Body.{seen_of}
use Rattle.ec_blocks.proofs.blocks.Blocks.get.Goals as goal

pub returns-in-Many : goal.returns-in-Many
returns-in-Many c = grind (arith, common_steps)

pub returns-in-Few : goal.returns-in-Few
returns-in-Few g c =
    let seen : c.args.self.now.items ≡ c.in-Few.members.items = ap (λ v. v.items) (sym c.self.view_is) ∙ ap (λ b. (seen_of b).items) c.in-Few.is in
    ap (λ xs. slice_get xs c.args.i) seen ∙ slice_get_read c.in-Few.members.items (length c.args.self.now.items) c.args.i c.index.result.now (ap length seen) c.requires c.index.ensures
