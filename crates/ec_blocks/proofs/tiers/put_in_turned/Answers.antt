-- The part where the place is takes it in, and hands the last one on.
use Rattle.std.proofs.Common.{◌≡◌, ℕ, ◌-◌, List, ◌++◌, ◌∷◌, [], length, drop, take, sym, ap, ◌∙◌, length-drop, arith}
use Rattle.std.proofs.lemmas.Grind.{common_steps}
use Rattle.std.specs.List.{insert}
use Rattle.std.proofs.lemmas.List.{length-take-le, take_at, drop_at, take_rest}
use borrow.Rule.Slice.PartMut.{put_mid}
use Rattle.ec_blocks.specs.Tiers.{turned}
use Rattle.ec_blocks.proofs.TierLemmas.{behind-put, front-put, ring-in-front, ring-in-behind}
use Rattle.ec_blocks.proofs.tiers.put_in_turned.Goals as goal

pub returns-then-straight-at-clause-ring : goal.returns-then-straight-at-clause-ring
returns-then-straight-at-clause-ring g c =
    let ring : List _ = c.args.ring.now in
    let h : ℕ = c.args.head in
    let none : h ≡ h - 0 = omega arith in
    let same : length c.put_in_part.new.part ≡ h =
    c.put_in_part.ensures.len ∙ ap (λ n. length (take n ring)) (sym none) ∙ length-take-le h ring (omega (arith, c.requires.full, c.requires.head)) in
    ring-in-front h ring c.put_in_part.new.part c.args.at c.args.x c.put_in_part.result c.requires.full c.requires.head (omega arith) same
    (ap (λ n. insert (take n ring) (c.args.at - (64 - h)) c.args.x) none ∙ c.put_in_part.ensures.part)
    ∙ ap (λ us. turned h us ++ c.put_in_part.result ∷ []) (sym (front-put h ring c.put_in_part.new.part same))

pub returns-clause-ring : goal.returns-clause-ring
returns-clause-ring g c =
    let ring : List _ = c.args.ring.now in
    let h : ℕ = c.args.head in
    let none : h ≡ h - 0 = omega arith in
    let behind : List _ = c.put_in_part-carried.new.part in
    let front : List _ = c.put_in_part-2.new.part in
    let before : length (take h ring) ≡ h = length-take-le h ring (omega (arith, c.requires.full, c.requires.head)) in
    let first : put_mid h (length ring - h) ring behind ≡ take h ring ++ behind =
    behind-put h ring behind (omega (arith, c.requires.full, c.requires.head)) (c.put_in_part-carried.ensures.len ∙ ap length (take_rest ring h) ∙ length-drop h ring) in
    let taken : take h ring ≡ take (h - 0) (put_mid h (length ring - h) ring behind) =
    sym (ap (take h) first ∙ take_at (take h ring) behind h before) ∙ ap (λ n. take n (put_mid h (length ring - h) ring behind)) none in
    let same : length front ≡ h = c.put_in_part-2.ensures.len ∙ ap length (sym taken) ∙ before in
    ring-in-behind h ring front behind c.args.at c.args.x c.put_in_part-carried.result c.put_in_part-2.result c.requires.full c.requires.head (omega arith) same
    (ap (λ us. insert us c.args.at c.args.x) (sym (take_rest ring h)) ∙ c.put_in_part-carried.ensures.part)
    (ap (λ us. insert us 0 c.put_in_part-carried.result) taken ∙ c.put_in_part-2.ensures.part)
    ∙ ap (λ us. turned h us ++ c.put_in_part-2.result ∷ [])
    (sym (front-put h (put_mid h (length ring - h) ring behind) front same ∙ ap (λ us. front ++ us) (ap (drop h) first ∙ drop_at (take h ring) behind h before)))

pub offset_bounds-ring-head : goal.offset_bounds-ring-head
offset_bounds-ring-head c = grind (arith, common_steps)
