-- One block has them all, or there are none.
use Rattle.std.proofs.Common.{◌≡◌, ◌++◌, ◌∷◌, [], sym, ap, ◌∙◌, arith}
use Rattle.std.proofs.lemmas.List.{append-nil, nil_from_length}
use Rattle.std.proofs.lemmas.Result.{on_ok_weaker}
use Rattle.ec_blocks.specs.Chain.{joined}
use Rattle.ec_blocks.proofs.blocks.begin_with.Goals.{then-not-is_empty+in_ok-add_spare, else-not-is_empty}
use Rattle.ec_blocks.proofs.blocks.begin_with.Goals as goal

pub returns-clause-members : goal.returns-clause-members
returns-clause-members g c =
    let there : joined c.reserve.new.self.blocks ≡ c.args.members.now = ap joined c.reserve.ensures.same
    ∙ elim c.if-not-is_empty.branch [
      | then-not-is_empty+in_ok-add_spare w ↦ ap (λ ch. joined ch.blocks) w.chain-is ∙ ap joined (w.append.ensures.blocks ∙ ap (λ bs. bs ++ c.args.members.now ∷ []) (w.add_spare.ensures.blocks ∙ c.requires.none))
          ∙ append-nil c.args.members.now
      | else-not-is_empty w ↦ ap (λ ch. joined ch.blocks) w.chain-is ∙ ap joined c.requires.none
          ∙ sym (nil_from_length c.args.members.now (grind (arith, c.is_empty.ensures, w.if-not-is_empty.false)))
    ] in
    on_ok_weaker c.reserve.result (λ room. there) c.reserve.ensures.ok
