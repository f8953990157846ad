-- The last member stands for all.
use Rattle.std.proofs.Common.{◌≡◌, ℕ, suc, ◌-◌, true, length, map, sym, ap, refl, ◌∙◌, arith}
use Rattle.std.specs.List.{list_all, slice_get}
use Rattle.std.specs.Vec.{vec_capacity}
use Rattle.std.proofs.lemmas.List.{length-map}
use Rattle.std.proofs.lemmas.Option.{get_or_from_slice_get}
use Rattle.ec_blocks.specs.Chain.{is_block, last_of}
use Rattle.ec_blocks.proofs.ChainLemmas.{lasts-count, kept-blocks}
use Rattle.ec_blocks.proofs.SearchLemmas.{found-behind}
use Rattle.ec_blocks.proofs.chain.Chain.is_passed.Goals as goal

pub returns : goal.returns
returns g c p computes parted passed =
    let all : list_all is_block c.args.self.now.blocks ≡ true =
    ap (λ v. list_all is_block v.blocks) (sym c.self.view_is) ∙ kept-blocks (λ b. b.items) (λ b. vec_capacity b) c.self.inside.blocks.items c.self.invariant.0.kept in
    let are = c.self.invariant.0.lasts_are ∙ ap (λ v. map last_of v.blocks) c.self.view_is in
    let count : length c.args.self.now.blocks ≡ length c.self.inside.blocks.items = ap (λ v. length v.blocks) (sym c.self.view_is) ∙ length-map c.self.inside.blocks.items (λ b. b.items) in
    let last : (m : ℕ) → length c.args.self.now.blocks ≡ suc m → c.len-count.result - 1 ≡ m =
    λ m end. omega (arith, count, c.len-count.ensures, lasts-count (λ b. b.items) (λ b. vec_capacity b) _ _ _ _ c.self.invariant.0) in
    found-behind p c.args.self.now.blocks all parted c.self.inside.lasts.items are (length c.args.self.now.blocks) refl
    (λ m d end. ap p (get_or_from_slice_get c.self.inside.lasts.items m c.get.result.now d (ap (slice_get c.self.inside.lasts.items) (sym (last m end)) ∙ c.get.ensures))
    ∙ sym (c.passes.ensures p computes) ∙ passed)
