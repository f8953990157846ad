-- The part stands beside the base of its group, and each later group takes one over.
use Rattle.std.proofs.Common.{◌≡◌, ℕ, List, ◌+◌, ◌-◌, ◌%◌, ◌^◌, ◌≤◌, length, take, drop, sym, ap, ◌∙◌, length-drop, arith}
use Rattle.std.proofs.lemmas.Grind.{common_steps}
use Rattle.std.specs.List.{insert}
use Rattle.std.proofs.lemmas.List.{take_rest}
use Rattle.ec_blocks.specs.Starts.{numbers_of}
use Rattle.ec_blocks.proofs.FreeLemmas.{written-behind}
use Rattle.ec_blocks.proofs.NumberLemmas.{numbers-behind, numbers-inserted-by}
use Rattle.ec_blocks.proofs.starts.Starts.insert.Goals as goal

pub insert_part-self-inside-requires-clause-within : goal.insert_part-self-inside-requires-clause-within
insert_part-self-inside-requires-clause-within c = omega (arith, c.self.invariant.0, ap (λ v. length v.items) c.self.view_is, numbers-behind c.self.inside.parts.items c.self.inside.bases c.self.inside.free)

pub insert_part-self-inside-requires-clause-room : goal.insert_part-self-inside-requires-clause-room
insert_part-self-inside-requires-clause-room c = omega (arith, c.self.invariant.0, ap (λ v. v.room) c.self.view_is, ap (λ v. length v.items) c.self.view_is, numbers-behind c.self.inside.parts.items c.self.inside.bases c.self.inside.free)

pub carry_up-requires-clause-based : goal.carry_up-requires-clause-based
carry_up-requires-clause-based c =
    omega (arith, ap length (take_rest c.deref_mut.result.now c.insert_part-self-inside.result), length-drop c.insert_part-self-inside.result c.deref_mut.result.now, c.deref_mut.ensures.len, c.self.invariant.0, c.insert_part-self-inside.ensures.free, c.insert_part-self-inside.ensures.len, ap (λ v. v.room) c.self.view_is, ap (λ v. length v.items) c.self.view_is, numbers-behind c.self.inside.parts.items c.self.inside.bases c.self.inside.free)

pub invariant_of-self : goal.invariant_of-self
invariant_of-self c = omega (arith, c.self.invariant.0, c.insert_part-self-inside.ensures.free, c.insert_part-self-inside.ensures.len, ap (λ v. v.room) c.self.view_is, ap (λ v. length v.items) c.self.view_is, numbers-behind c.self.inside.parts.items c.self.inside.bases c.self.inside.free)

pub returns-clause-items : goal.returns-clause-items
returns-clause-items c =
    let f : ℕ = c.self.inside.free in
    let xs : List ℕ = c.self.inside.parts.items in
    let now : List ℕ = c.deref_mut.result.now in
    let g : ℕ = c.insert_part-self-inside.result in
    let within : c.args.k ≤ length (drop f xs) = omega (arith, length-drop f xs, ap (λ v. length v.items) c.self.view_is, numbers-behind c.self.inside.parts.items c.self.inside.bases c.self.inside.free) in
    let start : (c.args.start + 0) % 2 ^ 64 ≡ c.args.start = omega (arith, c.ranges.start.fits) in
    ap (λ ps. numbers_of ps c.self.inside.bases)
    (written-behind g c.insert_part-self-inside.new.parts.len now c.insert_part-self-inside.new.parts.items c.carry_up.new.parts (omega (arith, c.deref_mut.ensures.len, c.self.invariant.0, c.insert_part-self-inside.ensures.free, c.insert_part-self-inside.ensures.len, ap (λ v. v.room) c.self.view_is, ap (λ v. length v.items) c.self.view_is, numbers-behind c.self.inside.parts.items c.self.inside.bases c.self.inside.free)) c.deref_mut.ensures.len c.carry_up.ensures.len)
    ∙ numbers-inserted-by (drop f xs) c.self.inside.bases c.args.k c.args.start c.rebased-part.result (take (length now - g) (drop g now)) c.carry_up.new.parts
    (take_rest now g ∙ ap (drop g) c.deref_mut.ensures.value ∙ c.insert_part-self-inside.ensures.items) within
    (ap (λ b. (c.rebased-part.result + b) % 2 ^ 64) (sym c.get.ensures) ∙ c.rebased-part.ensures ∙ start) c.carry_up.ensures.len c.carry_up.ensures.moved c.carry_up.ensures.others
    ∙ ap (λ v. insert v.items c.args.k c.args.start) c.self.view_is

pub returns-clause-room : goal.returns-clause-room
returns-clause-room c = grind (arith, common_steps)
