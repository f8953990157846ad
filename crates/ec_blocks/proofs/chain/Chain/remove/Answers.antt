-- A block that gets one less.
use Rattle.std.proofs.Common.{◌∙◌, sym, ◌+◌, length, ap, arith, ◌≡◌, ◌-◌, ◌≤◌, subst, ◌<◌}
use Rattle.std.specs.Prelude.{nat_eq, slice_get}
use Rattle.std.specs.List.{remove}
use Rattle.std.specs.Vec.{vec_capacity}
use Rattle.std.proofs.lemmas.List.Edits.{length-remove}
use Rattle.ec_blocks.proofs.ChainLemmas.{last_of-remove, starts-count, starts-some, place-within, lasts-count}
use Rattle.ec_blocks.proofs.EditLemmas.{rooms-set, old-last, old-list, edited, edited-less, old-some, old-most}
use Rattle.ec_blocks.proofs.CountLemmas.{counted-same, counted-small, owed-small, counted-part, owed-part, counted-edit, one-less}
use Rattle.ec_blocks.specs.Chain.{block_at, last_of}
use Rattle.ec_blocks.proofs.chain.Chain.remove.Goals as goal

pub get_mut-block-requires : goal.get_mut-block-requires
get_mut-block-requires g c =
    place-within (λ b. b.items) (λ b. vec_capacity b) c.self.inside.blocks.items _ c.args.k (ap (λ v. v.blocks) c.self.view_is) c.requires.block

pub remove_within-x-requires : goal.remove_within-x-requires
remove_within-x-requires g c =
    omega (arith, c.requires.place, ap length (old-list (λ b. b.items) (λ b. vec_capacity b) c.self.inside.blocks.items c.self.inside.starts.items c.self.inside.lasts.items c.self.inside.spares.items c.self.invariant.0 c.args.self.now.blocks (ap (λ v. v.blocks) c.self.view_is) c.args.k c.requires.block c.get_mut-block.result.now c.get_mut-block.ensures.member))

pub overflow_add-place : goal.overflow_add-place
overflow_add-place g c =
    omega (arith, c.requires.place, ap length (old-list (λ b. b.items) (λ b. vec_capacity b) c.self.inside.blocks.items c.self.inside.starts.items c.self.inside.lasts.items c.self.inside.spares.items c.self.invariant.0 c.args.self.now.blocks (ap (λ v. v.blocks) c.self.view_is) c.args.k c.requires.block c.get_mut-block.result.now c.get_mut-block.ensures.member), old-most (λ b. b.items) (λ b. vec_capacity b) c.self.inside.blocks.items c.self.inside.starts.items c.self.inside.lasts.items c.self.inside.spares.items c.self.invariant.0 c.args.self.now.blocks (ap (λ v. v.blocks) c.self.view_is) c.args.k c.requires.block c.get_mut-block.result.now c.get_mut-block.ensures.member)

pub overflow_sub-len : goal.overflow_sub-len
overflow_sub-len g c =
    omega (arith, old-some (λ b. b.items) (λ b. vec_capacity b) c.self.inside.blocks.items c.self.inside.starts.items c.self.inside.lasts.items c.self.inside.spares.items c.self.invariant.0 c.args.self.now.blocks (ap (λ v. v.blocks) c.self.view_is) c.args.k c.requires.block c.get_mut-block.result.now c.get_mut-block.ensures.member)

pub keep_last-requires-clause-some : goal.keep_last-requires-clause-some
keep_last-requires-clause-some g c =
    omega (arith, c.requires.others, ap length (old-list (λ b. b.items) (λ b. vec_capacity b) c.self.inside.blocks.items c.self.inside.starts.items c.self.inside.lasts.items c.self.inside.spares.items c.self.invariant.0 c.args.self.now.blocks (ap (λ v. v.blocks) c.self.view_is) c.args.k c.requires.block c.get_mut-block.result.now c.get_mut-block.ensures.member), ap length c.deref.ensures.value, c.remove_within-x.ensures.len)

pub keep_last-requires-clause-within : goal.keep_last-requires-clause-within
keep_last-requires-clause-within g c =
    omega (arith, lasts-count (λ b. b.items) (λ b. vec_capacity b) _ _ _ _ c.self.invariant.0, place-within (λ b. b.items) (λ b. vec_capacity b) c.self.inside.blocks.items _ c.args.k (ap (λ v. v.blocks) c.self.view_is) c.requires.block)

pub returns-clause-member : goal.returns-clause-member
returns-clause-member g c =
    ap (λ xs. slice_get xs c.args.place) (sym (old-list (λ b. b.items) (λ b. vec_capacity b) c.self.inside.blocks.items c.self.inside.starts.items c.self.inside.lasts.items c.self.inside.spares.items c.self.invariant.0 c.args.self.now.blocks (ap (λ v. v.blocks) c.self.view_is) c.args.k c.requires.block c.get_mut-block.result.now c.get_mut-block.ensures.member)) ∙ c.remove_within-x.ensures.member

pub lower_behind-requires-clause-within : goal.lower_behind-requires-clause-within
lower_behind-requires-clause-within g c =
    omega (arith, starts-count (λ b. b.items) (λ b. vec_capacity b) _ _ _ _ c.self.invariant.0, place-within (λ b. b.items) (λ b. vec_capacity b) c.self.inside.blocks.items _ c.args.k (ap (λ v. v.blocks) c.self.view_is) c.requires.block)

pub lower_behind-requires-clause-some : goal.lower_behind-requires-clause-some
lower_behind-requires-clause-some g c = starts-some (λ b. b.items) (λ b. vec_capacity b) _ _ _ _ c.self.invariant.0 c.args.k

pub returns-clause-blocks : goal.returns-clause-blocks
returns-clause-blocks g c = edited (λ b. b.items) (λ b. vec_capacity b) c.self.inside.blocks.items c.self.inside.starts.items c.self.inside.lasts.items c.self.inside.spares.items c.self.invariant.0 c.args.self.now.blocks (ap (λ v. v.blocks) c.self.view_is) c.args.k c.requires.block c.get_mut-block.result.now c.get_mut-block.ensures.member (λ xs. remove xs c.args.place) c.remove_within-x.new.block c.remove_within-x.ensures.items

pub change-requires-clause-counted : goal.change-requires-clause-counted
change-requires-clause-counted g c =
    let count : c.len-len.result ≡ length (block_at c.args.k c.args.self.now.blocks) = c.len-len.ensures ∙ c.get_mut-block.result.now.ok.0 ∙ ap length (old-list (λ b. b.items) (λ b. vec_capacity b) c.self.inside.blocks.items c.self.inside.starts.items c.self.inside.lasts.items c.self.inside.spares.items c.self.invariant.0 c.args.self.now.blocks (ap (λ v. v.blocks) c.self.view_is) c.args.k c.requires.block c.get_mut-block.result.now c.get_mut-block.ensures.member) in
    subst (λ n. n ≤ c.self.inside.counts.total) (sym count) (counted-part c.args.self.now.blocks c.args.k c.self.inside.counts.total c.self.inside.counts.owed (counted-same _ _ _ _ (ap (λ v. v.blocks) c.self.view_is) c.self.invariant.2) c.requires.block)

pub change-requires-clause-owing : goal.change-requires-clause-owing
change-requires-clause-owing g c =
    let count : c.len-len.result ≡ length (block_at c.args.k c.args.self.now.blocks) = c.len-len.ensures ∙ c.get_mut-block.result.now.ok.0 ∙ ap length (old-list (λ b. b.items) (λ b. vec_capacity b) c.self.inside.blocks.items c.self.inside.starts.items c.self.inside.lasts.items c.self.inside.spares.items c.self.invariant.0 c.args.self.now.blocks (ap (λ v. v.blocks) c.self.view_is) c.args.k c.requires.block c.get_mut-block.result.now c.get_mut-block.ensures.member) in
    subst (λ n. n - 64 ≤ c.self.inside.counts.owed) (sym count) (owed-part c.args.self.now.blocks c.args.k c.self.inside.counts.total c.self.inside.counts.owed (counted-same _ _ _ _ (ap (λ v. v.blocks) c.self.view_is) c.self.invariant.2) c.requires.block)

pub change-requires-clause-fits : goal.change-requires-clause-fits
change-requires-clause-fits g c = omega (arith, ap length (old-list (λ b. b.items) (λ b. vec_capacity b) c.self.inside.blocks.items c.self.inside.starts.items c.self.inside.lasts.items c.self.inside.spares.items c.self.invariant.0 c.args.self.now.blocks (ap (λ v. v.blocks) c.self.view_is) c.args.k c.requires.block c.get_mut-block.result.now c.get_mut-block.ensures.member), counted-part c.args.self.now.blocks c.args.k c.self.inside.counts.total c.self.inside.counts.owed (counted-same _ _ _ _ (ap (λ v. v.blocks) c.self.view_is) c.self.invariant.2) c.requires.block, counted-small (λ b. b.items) (λ b. vec_capacity b) _ _ _ c.self.invariant.0.kept (let few = c.self.invariant.1.few in omega arith) c.self.invariant.2)

pub change-requires-clause-owed_fits : goal.change-requires-clause-owed_fits
change-requires-clause-owed_fits g c = omega (arith, ap length (old-list (λ b. b.items) (λ b. vec_capacity b) c.self.inside.blocks.items c.self.inside.starts.items c.self.inside.lasts.items c.self.inside.spares.items c.self.invariant.0 c.args.self.now.blocks (ap (λ v. v.blocks) c.self.view_is) c.args.k c.requires.block c.get_mut-block.result.now c.get_mut-block.ensures.member), counted-part c.args.self.now.blocks c.args.k c.self.inside.counts.total c.self.inside.counts.owed (counted-same _ _ _ _ (ap (λ v. v.blocks) c.self.view_is) c.self.invariant.2) c.requires.block, counted-small (λ b. b.items) (λ b. vec_capacity b) _ _ _ c.self.invariant.0.kept (let few = c.self.invariant.1.few in omega arith) c.self.invariant.2, owed-small (λ b. b.items) (λ b. vec_capacity b) _ _ _ c.self.invariant.0.kept (let few = c.self.invariant.1.few in omega arith) c.self.invariant.2)

pub keep_last-requires-clause-same : goal.keep_last-requires-clause-same
keep_last-requires-clause-same g c same =
    let list = old-list (λ b. b.items) (λ b. vec_capacity b) c.self.inside.blocks.items c.self.inside.starts.items c.self.inside.lasts.items c.self.inside.spares.items c.self.invariant.0 c.args.self.now.blocks (ap (λ v. v.blocks) c.self.view_is) c.args.k c.requires.block c.get_mut-block.result.now c.get_mut-block.ensures.member in
    old-last (λ b. b.items) (λ b. vec_capacity b) c.self.inside.blocks.items c.self.inside.starts.items c.self.inside.lasts.items c.self.inside.spares.items c.self.invariant.0 c.args.self.now.blocks (ap (λ v. v.blocks) c.self.view_is) c.args.k c.requires.block c.get_mut-block.result.now c.get_mut-block.ensures.member
    ∙ sym (ap last_of (c.deref.ensures.value ∙ c.remove_within-x.ensures.items) ∙ last_of-remove c.get_mut-block.result.now.items c.args.place (subst (λ n. c.args.place < n) (sym (ap length list)) c.requires.place) (ap (λ n. nat_eq (c.args.place + 1) n) (sym (c.len-len.ensures ∙ c.get_mut-block.result.now.ok.0)) ∙ same))

pub invariant_of-self : goal.invariant_of-self
invariant_of-self g c =
    let list = old-list (λ b. b.items) (λ b. vec_capacity b) c.self.inside.blocks.items c.self.inside.starts.items c.self.inside.lasts.items c.self.inside.spares.items c.self.invariant.0 c.args.self.now.blocks (ap (λ v. v.blocks) c.self.view_is) c.args.k c.requires.block c.get_mut-block.result.now c.get_mut-block.ensures.member in
    let count : c.len-len.result ≡ length (block_at c.args.k c.args.self.now.blocks) = c.len-len.ensures ∙ c.get_mut-block.result.now.ok.0 ∙ ap length list in (
      edited-less (λ b. b.items) (λ b. vec_capacity b) c.self.inside.blocks.items c.self.inside.starts.items c.self.inside.lasts.items c.self.inside.spares.items c.self.invariant.0 c.args.self.now.blocks (ap (λ v. v.blocks) c.self.view_is) c.args.k c.requires.block c.get_mut-block.result.now c.get_mut-block.ensures.member c.remove_within-x.new.block c.deref.result.now c.deref.ensures.value c.keep_last.new.lasts.items c.keep_last.ensures.lasts c.remove_within-x.ensures.capacity c.lower_behind.new.self.items
          (ap (λ n. n + 1) (sym c.remove_within-x.new.block.ok.0) ∙ c.remove_within-x.ensures.len ∙ c.get_mut-block.result.now.ok.0)
          (subst (λ n. 2 ≤ n) (sym (ap length list)) c.requires.others) c.lower_behind.ensures.items,
      rooms-set c.self.inside.blocks.items c.args.k _ _ _ _ _ _ _ _ c.self.invariant.1 c.lower_behind.ensures.room c.keep_last.ensures.room,
      counted-edit c.args.self.now.blocks _ c.args.k (remove (block_at c.args.k c.args.self.now.blocks) c.args.place) c.len-len.result (c.len-len.result - 1) c.self.inside.counts.total c.self.inside.counts.owed _ _ (counted-same _ _ _ _ (ap (λ v. v.blocks) c.self.view_is) c.self.invariant.2) c.requires.block (returns-clause-blocks g c)
          count (one-less c.len-len.result _ _ count (length-remove (block_at c.args.k c.args.self.now.blocks) c.args.place c.requires.place)) c.change.ensures.total c.change.ensures.owed,
    )

pub returns-clause-spares : goal.returns-clause-spares
returns-clause-spares g c = ap (λ v. v.spares) c.self.view_is
