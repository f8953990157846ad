-- Each later group gives one to the group in front.
use Rattle.std.proofs.Common.{ℕ, List, ◌-◌, ◌<◌, length, take, drop, ap, ◌∙◌, length-drop, arith}
use Rattle.std.proofs.lemmas.Grind.{common_steps}
use Rattle.std.specs.List.{remove}
use Rattle.std.proofs.lemmas.List.{take_rest}
use Rattle.ec_blocks.specs.Starts.{numbers_of}
use Rattle.ec_blocks.proofs.FreeLemmas.{remove-behind, written-behind}
use Rattle.ec_blocks.proofs.NumberLemmas.{numbers-behind, numbers-removed-by}
use Rattle.ec_blocks.proofs.starts.Starts.remove.Goals as goal

pub overflow_add-self-inside : goal.overflow_add-self-inside
overflow_add-self-inside c = omega (arith, c.self.inside.parts.small, ap (λ v. length v.items) c.self.view_is, numbers-behind c.self.inside.parts.items c.self.inside.bases c.self.inside.free)

pub remove-requires : goal.remove-requires
remove-requires c = omega (arith, c.self.invariant.0, ap (λ v. length v.items) c.self.view_is, numbers-behind c.self.inside.parts.items c.self.inside.bases c.self.inside.free)

pub returns-clause-items : goal.returns-clause-items
returns-clause-items c =
    let f : ℕ = c.self.inside.free in
    let xs : List ℕ = c.self.inside.parts.items in
    let now : List ℕ = c.deref_mut.result.now in
    let within : c.args.k < length (drop f xs) = omega (arith, length-drop f xs, ap (λ v. length v.items) c.self.view_is, numbers-behind c.self.inside.parts.items c.self.inside.bases c.self.inside.free) in
    ap (λ ps. numbers_of ps c.self.inside.bases)
    (written-behind f c.remove.new.self.len now c.remove.new.self.items c.carry_down.new.parts (omega (arith, c.deref_mut.ensures.len, c.remove.ensures.len, ap (λ v. length v.items) c.self.view_is, numbers-behind c.self.inside.parts.items c.self.inside.bases c.self.inside.free)) c.deref_mut.ensures.len c.carry_down.ensures.len)
    ∙ numbers-removed-by (drop f xs) c.self.inside.bases c.args.k (take (length now - f) (drop f now)) c.carry_down.new.parts
    (take_rest now f ∙ ap (drop f) (c.deref_mut.ensures.value ∙ c.remove.ensures.items) ∙ remove-behind f xs c.args.k (omega (arith, within, length-drop f xs))) within c.carry_down.ensures.len
    c.carry_down.ensures.moved c.carry_down.ensures.others
    ∙ ap (λ v. remove v.items c.args.k) c.self.view_is

pub carry_down-requires : goal.carry_down-requires
carry_down-requires c = grind (arith, common_steps)

pub invariant_of-self : goal.invariant_of-self
invariant_of-self c = grind (arith, common_steps)

pub returns-clause-room : goal.returns-clause-room
returns-clause-room c = grind (arith, common_steps)

pub slice_bounds-carry_down-start : goal.slice_bounds-carry_down-start
slice_bounds-carry_down-start c = grind (arith, common_steps)

pub slice_bounds-carry_down-count : goal.slice_bounds-carry_down-count
slice_bounds-carry_down-count c = grind (arith, common_steps)
