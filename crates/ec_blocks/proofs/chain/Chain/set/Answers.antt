-- A block that changes, and keeps its length.
use Rattle.std.proofs.Common.{◌+◌, length, length-set, set, refl, sym, ap, ◌∙◌, arith, ◌-◌, subst, ◌<◌}
use Rattle.std.specs.Prelude.{nat_eq}
use Rattle.std.specs.Vec.{vec_capacity}
use Rattle.ec_blocks.proofs.ChainLemmas.{last_of-set, lasts-count, place-within}
use Rattle.ec_blocks.proofs.EditLemmas.{rooms-set, old-last, old-list, edited, edited-same, old-some, old-most}
use Rattle.ec_blocks.proofs.CountLemmas.{counted-same, counted-set}
use Rattle.ec_blocks.specs.Chain.{block_at, last_of}
use Rattle.ec_blocks.proofs.chain.Chain.set.Goals as goal

pub get_mut-block-requires : goal.get_mut-block-requires
get_mut-block-requires g c =
    place-within (λ b. b.items) (λ b. vec_capacity b) c.self.inside.blocks.items _ c.args.k (ap (λ v. v.blocks) c.self.view_is) c.requires.block

pub put_within-requires : goal.put_within-requires
put_within-requires g c =
    omega (arith, c.requires.place, ap length (old-list (λ b. b.items) (λ b. vec_capacity b) c.self.inside.blocks.items c.self.inside.starts.items c.self.inside.lasts.items c.self.inside.spares.items c.self.invariant.0 c.args.self.now.blocks (ap (λ v. v.blocks) c.self.view_is) c.args.k c.requires.block c.get_mut-block.result.now c.get_mut-block.ensures.member))

pub overflow_add-place : goal.overflow_add-place
overflow_add-place g c =
    omega (arith, c.requires.place, ap length (old-list (λ b. b.items) (λ b. vec_capacity b) c.self.inside.blocks.items c.self.inside.starts.items c.self.inside.lasts.items c.self.inside.spares.items c.self.invariant.0 c.args.self.now.blocks (ap (λ v. v.blocks) c.self.view_is) c.args.k c.requires.block c.get_mut-block.result.now c.get_mut-block.ensures.member), old-most (λ b. b.items) (λ b. vec_capacity b) c.self.inside.blocks.items c.self.inside.starts.items c.self.inside.lasts.items c.self.inside.spares.items c.self.invariant.0 c.args.self.now.blocks (ap (λ v. v.blocks) c.self.view_is) c.args.k c.requires.block c.get_mut-block.result.now c.get_mut-block.ensures.member)

pub keep_last-requires-clause-some : goal.keep_last-requires-clause-some
keep_last-requires-clause-some g c =
    omega (arith, old-some (λ b. b.items) (λ b. vec_capacity b) c.self.inside.blocks.items c.self.inside.starts.items c.self.inside.lasts.items c.self.inside.spares.items c.self.invariant.0 c.args.self.now.blocks (ap (λ v. v.blocks) c.self.view_is) c.args.k c.requires.block c.get_mut-block.result.now c.get_mut-block.ensures.member, ap length c.deref.ensures.value, c.put_within.ensures.len)

pub keep_last-requires-clause-within : goal.keep_last-requires-clause-within
keep_last-requires-clause-within g c =
    omega (arith, lasts-count (λ b. b.items) (λ b. vec_capacity b) _ _ _ _ c.self.invariant.0, place-within (λ b. b.items) (λ b. vec_capacity b) c.self.inside.blocks.items _ c.args.k (ap (λ v. v.blocks) c.self.view_is) c.requires.block)

pub returns-clause-blocks : goal.returns-clause-blocks
returns-clause-blocks g c = edited (λ b. b.items) (λ b. vec_capacity b) c.self.inside.blocks.items c.self.inside.starts.items c.self.inside.lasts.items c.self.inside.spares.items c.self.invariant.0 c.args.self.now.blocks (ap (λ v. v.blocks) c.self.view_is) c.args.k c.requires.block c.get_mut-block.result.now c.get_mut-block.ensures.member (λ xs. set xs c.args.place c.args.x) c.put_within.new.block c.put_within.ensures.items

pub keep_last-requires-clause-same : goal.keep_last-requires-clause-same
keep_last-requires-clause-same g c same =
    let list = old-list (λ b. b.items) (λ b. vec_capacity b) c.self.inside.blocks.items c.self.inside.starts.items c.self.inside.lasts.items c.self.inside.spares.items c.self.invariant.0 c.args.self.now.blocks (ap (λ v. v.blocks) c.self.view_is) c.args.k c.requires.block c.get_mut-block.result.now c.get_mut-block.ensures.member in
    old-last (λ b. b.items) (λ b. vec_capacity b) c.self.inside.blocks.items c.self.inside.starts.items c.self.inside.lasts.items c.self.inside.spares.items c.self.invariant.0 c.args.self.now.blocks (ap (λ v. v.blocks) c.self.view_is) c.args.k c.requires.block c.get_mut-block.result.now c.get_mut-block.ensures.member
    ∙ sym (ap last_of (c.deref.ensures.value ∙ c.put_within.ensures.items) ∙ last_of-set c.get_mut-block.result.now.items c.args.place c.args.x (subst (λ n. c.args.place < n) (sym (ap length list)) c.requires.place) (ap (λ n. nat_eq (c.args.place + 1) n) (sym (c.len-len.ensures ∙ c.get_mut-block.result.now.ok.0)) ∙ same))

pub invariant_of-self : goal.invariant_of-self
invariant_of-self g c = (
  edited-same (λ b. b.items) (λ b. vec_capacity b) c.self.inside.blocks.items c.self.inside.starts.items c.self.inside.lasts.items c.self.inside.spares.items c.self.invariant.0 c.args.self.now.blocks (ap (λ v. v.blocks) c.self.view_is) c.args.k c.requires.block c.get_mut-block.result.now c.get_mut-block.ensures.member c.put_within.new.block c.deref.result.now c.deref.ensures.value c.keep_last.new.lasts.items c.keep_last.ensures.lasts c.put_within.ensures.capacity
      (ap length c.put_within.ensures.items ∙ length-set c.get_mut-block.result.now.items c.args.place c.args.x),
  rooms-set c.self.inside.blocks.items c.args.k _ _ _ _ _ _ _ _ c.self.invariant.1 refl c.keep_last.ensures.room,
  counted-set c.args.self.now.blocks _ c.args.k (set (block_at c.args.k c.args.self.now.blocks) c.args.place c.args.x) c.self.inside.counts.total c.self.inside.counts.owed _ _ (counted-same _ _ _ _ (ap (λ v. v.blocks) c.self.view_is) c.self.invariant.2) c.requires.block (returns-clause-blocks g c)
      (ap (λ n. c.self.inside.counts.total + n) (sym (length-set (block_at c.args.k c.args.self.now.blocks) c.args.place c.args.x)))
      (ap (λ n. c.self.inside.counts.owed + (n - 64)) (sym (length-set (block_at c.args.k c.args.self.now.blocks) c.args.place c.args.x))),
)

pub returns-clause-spares : goal.returns-clause-spares
returns-clause-spares g c = ap (λ v. v.spares) c.self.view_is
