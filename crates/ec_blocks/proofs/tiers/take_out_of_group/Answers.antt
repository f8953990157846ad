-- The group is written over.
use Rattle.std.proofs.Common.{◌≡◌, ◌+◌, ◌-◌, ◌++◌, ◌∷◌, [], length, take, drop, sym, ap, ◌∙◌, arith}
use Rattle.std.specs.List.{insert}
use Rattle.ec_blocks.specs.Tiers.{turned}
use Rattle.ec_blocks.proofs.TierLemmas.{group-put, part-put}
use Rattle.ec_blocks.proofs.tiers.take_out_of_group.Goals as goal

pub returns-clause-ring : goal.returns-clause-ring
returns-clause-ring g c =
    let same : 64 ≡ c.args.first + 64 - c.args.first = omega arith in
    ap (λ n. turned c.args.head (take n (drop c.args.first c.args.members.now)) ++ c.args.x ∷ []) same ∙ c.take_out.ensures.ring
    ∙ ap (λ us. insert (turned c.take_out.result.1 us) c.args.at c.take_out.result.0) (sym (part-put c.args.members.now c.take_out.new.ring c.args.first c.requires.group c.take_out.ensures.len))

pub returns-clause-others : goal.returns-clause-others
returns-clause-others g c =
    group-put c.args.members.now c.take_out.new.ring c.args.first c.take_out.ensures.len
    ∙ ap (λ us. take c.args.first c.args.members.now ++ (us ++ drop (c.args.first + 64) c.args.members.now)) (sym (part-put c.args.members.now c.take_out.new.ring c.args.first c.requires.group c.take_out.ensures.len))

pub returns-clause-full : goal.returns-clause-full
returns-clause-full g c = ap length (part-put c.args.members.now c.take_out.new.ring c.args.first c.requires.group c.take_out.ensures.len) ∙ c.take_out.ensures.len
