-- The block is empty and has room for 128.
use Rattle.std.proofs.Common.{ap, ◌∙◌}
use Rattle.std.specs.List.{list_all}
use Rattle.std.specs.Vec.{vec_capacity}
use Rattle.ec_blocks.specs.ChainParts.{is_spare}
use Rattle.ec_blocks.proofs.ChainLemmas.{list_all-push}
use Rattle.ec_blocks.proofs.EditLemmas.{is_spare-now}
use Rattle.ec_blocks.proofs.chain.push_spare.Goals as goal

pub returns-clause-spare : goal.returns-clause-spare
returns-clause-spare g c =
    let spare = is_spare (λ b. b.items) (λ b. vec_capacity b) in
    ap (list_all spare) c.push_reserved.ensures.items
    ∙ list_all-push spare c.reserve.new.self.items c.in_ok-block.block (is_spare-now (λ b. b.items) (λ b. vec_capacity b) c.in_ok-block.block c.in_ok-block.ensures.items c.in_ok-block.ensures.capacity)
    (ap (list_all spare) c.reserve.ensures.items ∙ c.requires.spare)
