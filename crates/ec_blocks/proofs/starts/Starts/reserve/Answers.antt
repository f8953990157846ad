-- Neither free places nor further bases change a number.
use Rattle.std.proofs.Common.{ℕ, List, length, drop, ap, ◌∙◌, length-drop, arith}
use Rattle.std.proofs.lemmas.Grind.{common_steps}
use Rattle.std.proofs.lemmas.Result.{on_ok_weaker}
use Rattle.ec_blocks.specs.Starts.{numbers_of}
use Rattle.ec_blocks.proofs.NumberLemmas.{numbers-behind, numbers-rebased}
use Rattle.ec_blocks.proofs.starts.Starts.reserve.Goals as goal

pub returns-clause-items : goal.returns-clause-items
returns-clause-items c =
    let f : ℕ = c.self.inside.free in
    let xs : List ℕ = c.self.inside.parts.items in
    ap (λ ps. numbers_of ps c.extend.new.self) (c.free_front-self-inside.ensures.items ∙ ap (drop f) c.reserve.ensures.items)
    ∙ numbers-rebased (drop f xs) c.self.inside.bases c.extend.new.self (omega (arith, length-drop f xs, c.self.invariant.1)) (λ g inside. c.extend.ensures.same g (omega arith))
    ∙ ap (λ v. v.items) c.self.view_is

pub returns-clause-ok : goal.returns-clause-ok
returns-clause-ok c =
    let count = numbers-behind c.free_front-self-inside.new.parts.items c.self.inside.bases c.free_front-self-inside.result in
    on_ok_weaker c.extend.result
    (λ enough. omega (
      arith,
      count,
      c.len.ensures,
      c.in_ok-reserve.ensures.ok,
      c.in_ok-reserve.ensures.len,
      c.free_front-self-inside.ensures.free,
      c.free_front-self-inside.ensures.len,
      c.free_front-self-inside.ensures.capacity,
      c.div_ceil-groups.ensures,
      enough,
      ap (λ v. length v.items) c.self.view_is,
      numbers-behind c.self.inside.parts.items c.self.inside.bases c.self.inside.free,
    )) c.extend.ensures.ok

pub returns-clause-room : goal.returns-clause-room
returns-clause-room c = grind (arith, common_steps)

pub overflow_add-len : goal.overflow_add-len
overflow_add-len c = grind (arith, common_steps)
