-- A member that comes in at the front takes the place of the last, which lies in front of the first.
use Rattle.std.proofs.Common.{◌≡◌, ℕ, ◌+◌, ◌%◌, ◌<◌, List, ◌++◌, ◌∷◌, [], length, get_or, set, sym, ap, ap₂, ◌∙◌, length-set, get_or-set_same, arith}
use Rattle.std.proofs.lemmas.Grind.{common_steps}
use Rattle.std.specs.List.{insert}
use Rattle.std.proofs.lemmas.List.{set-set, set-get_or}
use Rattle.ec_blocks.specs.Tiers.{turned}
use Rattle.ec_blocks.proofs.TierLemmas.{ring-first}
use Rattle.ec_blocks.proofs.tiers.put_in.Goals as goal

ring-last : {X : Type 0} (ring : List X) (head at : ℕ) (x out e : X) → length ring ≡ 64 → head < 64 → at ≡ 0 → out ≡ get_or ring ((head + 63) % 64) e →
    insert (turned head ring) at x ≡ turned ((head + 63) % 64) (set ring ((head + 63) % 64) x) ++ out ∷ []
ring-last ring head at x out e full within none is =
    let last : ℕ = (head + 63) % 64 in
    let next : (last + 1) % 64 ≡ head = omega arith in
    let inside : last < length ring = omega (arith, full) in
    let back : set (set ring last x) last out ≡ ring = set-set ring last x out ∙ ap (set ring last) is ∙ set-get_or ring last e in
    ap₂ (λ h us. insert (turned h us) at x) (sym next) (sym back)
    ∙ sym (ring-first (set ring last x) last at out x x (length-set ring last x ∙ full) (omega arith) none (sym (get_or-set_same ring last x x inside)))

pub returns-then-at-eq0-clause-ring : goal.returns-then-at-eq0-clause-ring
returns-then-at-eq0-clause-ring g c =
    ring-last c.args.ring.now c.args.head c.args.at c.args.x c.replace.result c.index-ring-last.result c.requires.full c.requires.head c.if-at-eq0.true c.replace.ensures.value
    ∙ ap (λ y. turned ((c.args.head + 63) % 64) (set c.args.ring.now ((c.args.head + 63) % 64) y) ++ c.replace.result ∷ []) (sym c.replace.ensures.after)

pub returns-then-at-eq0-clause-len : goal.returns-then-at-eq0-clause-len
returns-then-at-eq0-clause-len c = grind (arith, common_steps)

pub offset_bounds-ring-last : goal.offset_bounds-ring-last
offset_bounds-ring-last c = grind (arith, common_steps)
