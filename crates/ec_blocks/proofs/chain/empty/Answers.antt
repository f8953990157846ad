-- The last block goes, and is a spare one.
use Rattle.std.proofs.Common.{ap, sym, length, ◌∙◌, ◌-◌, arith, subst, ◌≤◌}
use Rattle.std.proofs.lemmas.Grind.{common_steps}
use Rattle.std.specs.List.{list_all}
use Rattle.std.specs.Vec.{vec_capacity}
use Rattle.std.proofs.lemmas.Option.{get_or_from_slice_get}
use Rattle.std.proofs.lemmas.List.Edits.{length-remove}
use Rattle.ec_blocks.specs.ChainParts.{is_kept, is_spare}
use Rattle.ec_blocks.proofs.ChainLemmas.{list_all-at, list_all-push, is_kept-room}
use Rattle.ec_blocks.proofs.EditLemmas.{is_spare-now}
use Rattle.ec_lists.proofs.Tests.{list_all-remove}
use Rattle.ec_blocks.proofs.chain.empty.Goals as goal

pub loop-blocks-preserved : goal.loop-blocks-preserved
loop-blocks-preserved g c =
    let all = c.loop-blocks.invariant.kept in
    let last = sym (get_or_from_slice_get c.loop-blocks.blocks.items _ c.remove-block.result c.remove-block.result c.remove-block.ensures.member) in
    let kept = list_all-at (is_kept (λ block. block.items) (λ block. vec_capacity block)) c.loop-blocks.blocks.items _ c.remove-block.result all (omega arith) last in
    let room = is_kept-room (λ block. block.items) (λ block. vec_capacity block) c.remove-block.result kept in
    record {
      kept = ap (list_all (is_kept (λ block. block.items) (λ block. vec_capacity block))) c.remove-block.ensures.items
          ∙ list_all-remove (is_kept (λ block. block.items) (λ block. vec_capacity block)) c.loop-blocks.blocks.items _ all;
      spare = ap (list_all (is_spare (λ block. block.items) (λ block. vec_capacity block))) c.push_reserved.ensures.items
          ∙ list_all-push (is_spare (λ block. block.items) (λ block. vec_capacity block)) c.loop-blocks.spares.items c.clear.new.self
          (is_spare-now (λ block. block.items) (λ block. vec_capacity block) c.clear.new.self c.clear.ensures.items (subst (λ n. 128 ≤ n) (sym c.clear.ensures.capacity) room)) c.loop-blocks.invariant.spare;
      len = omega (arith, ap length c.remove-block.ensures.items, length-remove c.loop-blocks.blocks.items (c.len-in-loop-blocks.result - 1) (omega arith), c.loop-blocks.invariant.len);
      blocks_room = c.remove-block.ensures.room ∙ c.loop-blocks.invariant.blocks_room;
      spares_capacity = c.push_reserved.ensures.capacity ∙ c.loop-blocks.invariant.spares_capacity;
    }

pub loop-blocks-smaller : goal.loop-blocks-smaller
loop-blocks-smaller c = grind (arith, common_steps)

pub returns-clause-none : goal.returns-clause-none
returns-clause-none c = grind (arith, common_steps)
