-- The last of the part is turned to the place, and goes from there.
use Rattle.std.proofs.Common.{◌-◌, List, ◌++◌, ◌∷◌, [], length, drop, take, set, sym, ap, ◌∙◌, length-drop, arith}
use Rattle.std.proofs.lemmas.Grind.{common_steps}
use Rattle.std.proofs.lemmas.List.{take_rest}
use borrow.Rule.Slice.PartMut.{put_mid}
use Rattle.ec_blocks.proofs.JoinLemmas.{insert-end}
use Rattle.ec_blocks.proofs.TierLemmas.{put-is, ring-in}
use Rattle.ec_blocks.proofs.tiers.put_in_part.Goals as goal

pub returns-then-at-part-clause-part : goal.returns-then-at-part-clause-part
returns-then-at-part-clause-part g c = insert-end c.args.part.now c.args.at c.args.x (omega arith)

pub returns-clause-part : goal.returns-clause-part
returns-clause-part g c =
    let part : List _ = c.args.part.now in
    let put : List _ = put_mid c.args.at (length part - c.args.at) part c.rotate_right.new.self in
    ring-in part c.rotate_right.new.self put c.args.at c.args.x c.replace.result c.index-part-at.result (omega arith)
    (c.rotate_right.ensures.after ∙ ap (λ us. drop (length us - 1) us ++ take (length us - 1) us) (take_rest part c.args.at))
    (put-is c.args.at (length part - c.args.at) part c.rotate_right.new.self (omega (arith, c.rotate_right.ensures.len, ap length (take_rest part c.args.at), length-drop c.args.at part)))
    c.replace.ensures.value
    ∙ ap (λ y. set put c.args.at y ++ c.replace.result ∷ []) (sym c.replace.ensures.after)

pub returns-clause-len : goal.returns-clause-len
returns-clause-len c = grind (arith, common_steps)

pub offset_bounds-part-at-2 : goal.offset_bounds-part-at-2
offset_bounds-part-at-2 c = grind (arith, common_steps)

pub offset_bounds-part-at : goal.offset_bounds-part-at
offset_bounds-part-at c = grind (arith, common_steps)
