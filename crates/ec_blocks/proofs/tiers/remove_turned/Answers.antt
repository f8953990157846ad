-- The last group lies straight, and no member has moved in the list.
use Rattle.std.proofs.Common.{[], ◌∷◌, sym, ap, ◌∙◌, arith}
use Rattle.std.proofs.lemmas.Grind.{common_steps}
use Rattle.std.specs.Prelude.{nat_lt}
use Rattle.std.specs.List.{list_all}
use Rattle.std.proofs.lemmas.List.Folds.{list_all-append}
use Rattle.ec_lists.proofs.Booleans.{and-left}
use Rattle.ec_blocks.specs.Tiers.{unrolled}
use Rattle.ec_blocks.proofs.TierLemmas.{straightened-get, straightened-remove}
use Rattle.ec_blocks.proofs.tiers.remove_turned.Goals as goal

pub returns-clause-member : goal.returns-clause-member
returns-clause-member g c =
    straightened-get c.last_head-head.new.heads.items c.args.heads.now.items c.last_head-head.result c.args.members.now.items c.deref_mut.result.now c.turn_last.new.members c.args.members.now.len c.args.heads.now.len
    c.last_head-head.ensures.heads c.args.heads.now.ok.0 c.args.members.now.ok.0 c.requires.full c.deref_mut.ensures.value c.turn_last.ensures c.args.k c.requires.last c.remove.result c.requires.within c.remove.ensures.value

pub returns-clause-items : goal.returns-clause-items
returns-clause-items g c =
    ap (unrolled c.last_head-head.new.heads.items) c.remove.ensures.items
    ∙ straightened-remove c.last_head-head.new.heads.items c.args.heads.now.items c.last_head-head.result c.args.members.now.items c.deref_mut.result.now c.turn_last.new.members c.args.members.now.len c.args.heads.now.len
    c.last_head-head.ensures.heads c.args.heads.now.ok.0 c.args.members.now.ok.0 c.requires.full c.deref_mut.ensures.value c.turn_last.ensures c.args.k c.requires.last

pub turn_last-requires-clause-head : goal.turn_last-requires-clause-head
turn_last-requires-clause-head c = grind (arith, common_steps)

pub returns-clause-count : goal.returns-clause-count
returns-clause-count c = grind (arith, common_steps)

pub returns-clause-small : goal.returns-clause-small
returns-clause-small g c =
    and-left _ _ (sym (list_all-append (λ h. nat_lt h 64) c.last_head-head.new.heads.items (c.last_head-head.result ∷ [])) ∙ ap (list_all (λ h. nat_lt h 64)) (sym c.last_head-head.ensures.heads) ∙ c.requires.small)
