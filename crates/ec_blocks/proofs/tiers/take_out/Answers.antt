-- A straight ring lets it go, or the first member of any ring.
use Rattle.std.proofs.Common.{◌+◌, ◌-◌, ◌%◌, List, ◌++◌, ◌∷◌, [], length, drop, take, set, sym, ap, ◌∙◌, length-drop, arith}
use Rattle.std.proofs.lemmas.Grind.{common_steps}
use Rattle.std.specs.List.{insert}
use Rattle.std.proofs.lemmas.List.{append-nil, take_rest}
use borrow.Rule.Slice.PartMut.{put_mid}
use Rattle.ec_blocks.specs.Tiers.{turned}
use Rattle.ec_blocks.proofs.TierLemmas.{put-is, ring-first, ring-out}
use Rattle.ec_blocks.proofs.tiers.take_out.Goals as goal

pub returns-then-at-eq0-clause-ring : goal.returns-then-at-eq0-clause-ring
returns-then-at-eq0-clause-ring g c =
    ring-first c.args.ring.now c.args.head c.args.at c.args.x c.replace.result c.index-ring-head.result c.requires.full c.requires.head c.if-at-eq0.true c.replace.ensures.value
    ∙ ap (λ y. insert (turned ((c.args.head + 1) % 64) (set c.args.ring.now c.args.head y)) c.args.at c.replace.result) (sym c.replace.ensures.after)

pub returns-clause-ring : goal.returns-clause-ring
returns-clause-ring g c =
    let ring : List _ = c.rotate_left.new.self in
    let put : List _ = put_mid c.args.at (length ring - c.args.at) ring c.rotate_left-2.new.self in
    ap (λ us. us ++ c.args.x ∷ []) (sym c.rotate_left.ensures.after)
    ∙ ring-out ring c.rotate_left-2.new.self put c.args.at c.args.x c.replace-2.result c.index-ring.result (c.rotate_left.ensures.len ∙ c.requires.full) c.requires.at
    (c.rotate_left-2.ensures.after ∙ ap (λ us. drop 1 us ++ take 1 us) (take_rest ring c.args.at)) (put-is c.args.at (length ring - c.args.at) ring c.rotate_left-2.new.self (omega (arith, c.rotate_left-2.ensures.len, ap length (take_rest ring c.args.at), length-drop c.args.at ring)))
    c.replace-2.ensures.value
    ∙ ap (λ y. insert (set put 63 y) c.args.at c.replace-2.result) (sym c.replace-2.ensures.after)
    ∙ ap (λ us. insert us c.args.at c.replace-2.result) (sym (append-nil (set put 63 c.replace-2.new.dest)))

pub offset_bounds-ring : goal.offset_bounds-ring
offset_bounds-ring c = grind (arith, common_steps)

pub offset_bounds-ring-at : goal.offset_bounds-ring-at
offset_bounds-ring-at c = grind (arith, common_steps)

pub returns-clause-len : goal.returns-clause-len
returns-clause-len c = grind (arith, common_steps)

pub returns-then-at-eq0-clause-len : goal.returns-then-at-eq0-clause-len
returns-then-at-eq0-clause-len c = grind (arith, common_steps)

pub offset_bounds-ring-head : goal.offset_bounds-ring-head
offset_bounds-ring-head c = grind (arith, common_steps)
