-- A block that gets one more.
use Rattle.std.proofs.Common.{◌+◌, length, sym, ap, ◌∙◌, arith, ◌≡◌, ◌-◌, ◌≤◌, subst, ◌<◌}
use Rattle.std.specs.Prelude.{nat_eq}
use Rattle.std.specs.List.{insert}
use Rattle.std.specs.Vec.{vec_capacity}
use Rattle.std.proofs.lemmas.List.Edits.{length-insert}
use Rattle.ec_blocks.proofs.ChainLemmas.{last_of-insert, starts-count, starts-fit, place-within, lasts-count}
use Rattle.ec_blocks.proofs.EditLemmas.{rooms-set, old-last, old-list, old-room, edited, edited-more, old-most}
use Rattle.ec_blocks.proofs.CountLemmas.{counted-same, counted-small, owed-small, counted-part, owed-part, counted-edit}
use Rattle.ec_blocks.specs.Chain.{block_at, last_of}
use Rattle.ec_blocks.proofs.chain.Chain.insert.Goals as goal

pub get_mut-block-requires : goal.get_mut-block-requires
get_mut-block-requires g c =
    place-within (λ b. b.items) (λ b. vec_capacity b) c.self.inside.blocks.items _ c.args.k (ap (λ v. v.blocks) c.self.view_is) c.requires.block

pub insert_within-requires-clause-within : goal.insert_within-requires-clause-within
insert_within-requires-clause-within g c =
    omega (arith, c.requires.place, ap length (old-list (λ b. b.items) (λ b. vec_capacity b) c.self.inside.blocks.items c.self.inside.starts.items c.self.inside.lasts.items c.self.inside.spares.items c.self.invariant.0 c.args.self.now.blocks (ap (λ v. v.blocks) c.self.view_is) c.args.k c.requires.block c.get_mut-block.result.now c.get_mut-block.ensures.member))

pub overflow_add-len : goal.overflow_add-len
overflow_add-len g c =
    omega (arith, old-most (λ b. b.items) (λ b. vec_capacity b) c.self.inside.blocks.items c.self.inside.starts.items c.self.inside.lasts.items c.self.inside.spares.items c.self.invariant.0 c.args.self.now.blocks (ap (λ v. v.blocks) c.self.view_is) c.args.k c.requires.block c.get_mut-block.result.now c.get_mut-block.ensures.member)

pub keep_last-requires-clause-some : goal.keep_last-requires-clause-some
keep_last-requires-clause-some g c = omega (arith, ap length c.deref.ensures.value, c.insert_within.ensures.len)

pub keep_last-requires-clause-within : goal.keep_last-requires-clause-within
keep_last-requires-clause-within g c =
    omega (arith, lasts-count (λ b. b.items) (λ b. vec_capacity b) _ _ _ _ c.self.invariant.0, place-within (λ b. b.items) (λ b. vec_capacity b) c.self.inside.blocks.items _ c.args.k (ap (λ v. v.blocks) c.self.view_is) c.requires.block)

pub raise_behind-requires-clause-within : goal.raise_behind-requires-clause-within
raise_behind-requires-clause-within g c =
    omega (arith, starts-count (λ b. b.items) (λ b. vec_capacity b) _ _ _ _ c.self.invariant.0, place-within (λ b. b.items) (λ b. vec_capacity b) c.self.inside.blocks.items _ c.args.k (ap (λ v. v.blocks) c.self.view_is) c.requires.block)

pub raise_behind-requires-clause-fits : goal.raise_behind-requires-clause-fits
raise_behind-requires-clause-fits g c = let few = c.self.invariant.1.few in starts-fit (λ b. b.items) (λ b. vec_capacity b) _ _ _ _ c.self.invariant.0 (c.args.k + 1) (omega arith)

pub insert_within-requires-clause-room : goal.insert_within-requires-clause-room
insert_within-requires-clause-room g c =
    let wide = old-room (λ b. b.items) (λ b. vec_capacity b) c.self.inside.blocks.items c.self.inside.starts.items c.self.inside.lasts.items c.self.inside.spares.items c.self.invariant.0 c.args.self.now.blocks (ap (λ v. v.blocks) c.self.view_is) c.args.k c.requires.block c.get_mut-block.result.now c.get_mut-block.ensures.member in
    let list = old-list (λ b. b.items) (λ b. vec_capacity b) c.self.inside.blocks.items c.self.inside.starts.items c.self.inside.lasts.items c.self.inside.spares.items c.self.invariant.0 c.args.self.now.blocks (ap (λ v. v.blocks) c.self.view_is) c.args.k c.requires.block c.get_mut-block.result.now c.get_mut-block.ensures.member in
    omega (arith, ap length list, c.requires.room)

pub returns-clause-blocks : goal.returns-clause-blocks
returns-clause-blocks g c = edited (λ b. b.items) (λ b. vec_capacity b) c.self.inside.blocks.items c.self.inside.starts.items c.self.inside.lasts.items c.self.inside.spares.items c.self.invariant.0 c.args.self.now.blocks (ap (λ v. v.blocks) c.self.view_is) c.args.k c.requires.block c.get_mut-block.result.now c.get_mut-block.ensures.member (λ xs. insert xs c.args.place c.args.x) c.insert_within.new.block c.insert_within.ensures.items

pub change-requires-clause-counted : goal.change-requires-clause-counted
change-requires-clause-counted g c =
    let count : c.len-len.result ≡ length (block_at c.args.k c.args.self.now.blocks) = c.len-len.ensures ∙ c.get_mut-block.result.now.ok.0 ∙ ap length (old-list (λ b. b.items) (λ b. vec_capacity b) c.self.inside.blocks.items c.self.inside.starts.items c.self.inside.lasts.items c.self.inside.spares.items c.self.invariant.0 c.args.self.now.blocks (ap (λ v. v.blocks) c.self.view_is) c.args.k c.requires.block c.get_mut-block.result.now c.get_mut-block.ensures.member) in
    subst (λ n. n ≤ c.self.inside.counts.total) (sym count) (counted-part c.args.self.now.blocks c.args.k c.self.inside.counts.total c.self.inside.counts.owed (counted-same _ _ _ _ (ap (λ v. v.blocks) c.self.view_is) c.self.invariant.2) c.requires.block)

pub change-requires-clause-owing : goal.change-requires-clause-owing
change-requires-clause-owing g c =
    let count : c.len-len.result ≡ length (block_at c.args.k c.args.self.now.blocks) = c.len-len.ensures ∙ c.get_mut-block.result.now.ok.0 ∙ ap length (old-list (λ b. b.items) (λ b. vec_capacity b) c.self.inside.blocks.items c.self.inside.starts.items c.self.inside.lasts.items c.self.inside.spares.items c.self.invariant.0 c.args.self.now.blocks (ap (λ v. v.blocks) c.self.view_is) c.args.k c.requires.block c.get_mut-block.result.now c.get_mut-block.ensures.member) in
    subst (λ n. n - 64 ≤ c.self.inside.counts.owed) (sym count) (owed-part c.args.self.now.blocks c.args.k c.self.inside.counts.total c.self.inside.counts.owed (counted-same _ _ _ _ (ap (λ v. v.blocks) c.self.view_is) c.self.invariant.2) c.requires.block)

pub change-requires-clause-fits : goal.change-requires-clause-fits
change-requires-clause-fits g c = omega (arith, ap length (old-list (λ b. b.items) (λ b. vec_capacity b) c.self.inside.blocks.items c.self.inside.starts.items c.self.inside.lasts.items c.self.inside.spares.items c.self.invariant.0 c.args.self.now.blocks (ap (λ v. v.blocks) c.self.view_is) c.args.k c.requires.block c.get_mut-block.result.now c.get_mut-block.ensures.member), c.requires.room, counted-small (λ b. b.items) (λ b. vec_capacity b) _ _ _ c.self.invariant.0.kept (let few = c.self.invariant.1.few in omega arith) c.self.invariant.2)

pub change-requires-clause-owed_fits : goal.change-requires-clause-owed_fits
change-requires-clause-owed_fits g c = omega (arith, ap length (old-list (λ b. b.items) (λ b. vec_capacity b) c.self.inside.blocks.items c.self.inside.starts.items c.self.inside.lasts.items c.self.inside.spares.items c.self.invariant.0 c.args.self.now.blocks (ap (λ v. v.blocks) c.self.view_is) c.args.k c.requires.block c.get_mut-block.result.now c.get_mut-block.ensures.member), c.requires.room, owed-small (λ b. b.items) (λ b. vec_capacity b) _ _ _ c.self.invariant.0.kept (let few = c.self.invariant.1.few in omega arith) c.self.invariant.2)

pub keep_last-requires-clause-same : goal.keep_last-requires-clause-same
keep_last-requires-clause-same g c same =
    let list = old-list (λ b. b.items) (λ b. vec_capacity b) c.self.inside.blocks.items c.self.inside.starts.items c.self.inside.lasts.items c.self.inside.spares.items c.self.invariant.0 c.args.self.now.blocks (ap (λ v. v.blocks) c.self.view_is) c.args.k c.requires.block c.get_mut-block.result.now c.get_mut-block.ensures.member in
    old-last (λ b. b.items) (λ b. vec_capacity b) c.self.inside.blocks.items c.self.inside.starts.items c.self.inside.lasts.items c.self.inside.spares.items c.self.invariant.0 c.args.self.now.blocks (ap (λ v. v.blocks) c.self.view_is) c.args.k c.requires.block c.get_mut-block.result.now c.get_mut-block.ensures.member
    ∙ sym (ap last_of (c.deref.ensures.value ∙ c.insert_within.ensures.items) ∙ last_of-insert c.get_mut-block.result.now.items c.args.place c.args.x (subst (λ n. c.args.place ≤ n) (sym (ap length list)) c.requires.place) (ap (λ n. nat_eq (c.args.place) n) (sym (c.len-len.ensures ∙ c.get_mut-block.result.now.ok.0)) ∙ same))

pub invariant_of-self : goal.invariant_of-self
invariant_of-self g c =
    let list = old-list (λ b. b.items) (λ b. vec_capacity b) c.self.inside.blocks.items c.self.inside.starts.items c.self.inside.lasts.items c.self.inside.spares.items c.self.invariant.0 c.args.self.now.blocks (ap (λ v. v.blocks) c.self.view_is) c.args.k c.requires.block c.get_mut-block.result.now c.get_mut-block.ensures.member in
    let count : c.len-len.result ≡ length (block_at c.args.k c.args.self.now.blocks) = c.len-len.ensures ∙ c.get_mut-block.result.now.ok.0 ∙ ap length list in (
      edited-more (λ b. b.items) (λ b. vec_capacity b) c.self.inside.blocks.items c.self.inside.starts.items c.self.inside.lasts.items c.self.inside.spares.items c.self.invariant.0 c.args.self.now.blocks (ap (λ v. v.blocks) c.self.view_is) c.args.k c.requires.block c.get_mut-block.result.now c.get_mut-block.ensures.member c.insert_within.new.block c.deref.result.now c.deref.ensures.value c.keep_last.new.lasts.items c.keep_last.ensures.lasts c.insert_within.ensures.capacity c.raise_behind.new.self.items
          (sym c.insert_within.new.block.ok.0 ∙ c.insert_within.ensures.len ∙ ap (λ n. n + 1) c.get_mut-block.result.now.ok.0)
          (subst (λ n. n < 128) (sym (ap length list)) c.requires.room) c.raise_behind.ensures.items,
      rooms-set c.self.inside.blocks.items c.args.k _ _ _ _ _ _ _ _ c.self.invariant.1 c.raise_behind.ensures.room c.keep_last.ensures.room,
      counted-edit c.args.self.now.blocks _ c.args.k (insert (block_at c.args.k c.args.self.now.blocks) c.args.place c.args.x) c.len-len.result (c.len-len.result + 1) c.self.inside.counts.total c.self.inside.counts.owed _ _ (counted-same _ _ _ _ (ap (λ v. v.blocks) c.self.view_is) c.self.invariant.2) c.requires.block (returns-clause-blocks g c)
          count (ap (λ n. n + 1) count ∙ sym (length-insert (block_at c.args.k c.args.self.now.blocks) c.args.place c.args.x c.requires.place)) c.change.ensures.total c.change.ensures.owed,
    )

pub returns-clause-spares : goal.returns-clause-spares
returns-clause-spares g c = ap (λ v. v.spares) c.self.view_is
