-- The parts of the group are added to, and the bases of the later groups.
use Rattle.std.proofs.Common.{◌≡◌, ℕ, List, ◌+◌, ◌-◌, ◌%◌, ◌^◌, ◌<◌, ◌++◌, inl, inr, length, take, drop, map, get_or, sym, ap, ⊎_elim, ◌∙◌, length-drop, arith}
use Rattle.std.proofs.lemmas.Grind.{common_steps}
use Rattle.std.specs.Prelude.{nat_lt}
use Rattle.std.specs.List.{list_all}
use Rattle.std.proofs.lemmas.List.{get_or-drop}
use Rattle.ec_blocks.specs.Starts.{numbers_of}
use Rattle.ec_blocks.proofs.NumberLemmas.{whole-slice, numbers-behind, numbers-small, numbers-added}
use Rattle.ec_blocks.proofs.starts.Starts.add_behind.Goals as goal

pub overflow_mul-group : goal.overflow_mul-group
overflow_mul-group c = omega (arith, c.self.inside.parts.small, ap (λ v. length v.items) c.self.view_is, numbers-behind c.self.inside.parts.items c.self.inside.bases c.self.inside.free)

pub overflow_add-self-inside : goal.overflow_add-self-inside
overflow_add-self-inside c = omega (arith, c.self.inside.parts.small, ap (λ v. length v.items) c.self.view_is, numbers-behind c.self.inside.parts.items c.self.inside.bases c.self.inside.free)

pub overflow_add-self-inside-2 : goal.overflow_add-self-inside-2
overflow_add-self-inside-2 c = omega (arith, c.self.inside.parts.small, ap (λ v. length v.items) c.self.view_is, numbers-behind c.self.inside.parts.items c.self.inside.bases c.self.inside.free)

pub overflow_add-self-inside-3 : goal.overflow_add-self-inside-3
overflow_add-self-inside-3 c = omega (arith, c.self.inside.parts.small, ap (λ v. length v.items) c.self.view_is, numbers-behind c.self.inside.parts.items c.self.inside.bases c.self.inside.free)

pub returns-clause-small : goal.returns-clause-small
returns-clause-small c =
    ap (λ v. list_all (λ start. nat_lt start (2 ^ 64)) v.items) (sym c.self.view_is) ∙ numbers-small (drop c.self.inside.free c.self.inside.parts.items) c.self.inside.bases

pub returns-clause-items : goal.returns-clause-items
returns-clause-items c =
    let f : ℕ = c.self.inside.free in
    let xs : List ℕ = c.self.inside.parts.items in
    let new : List ℕ = c.add.new.numbers in
    let count : length (drop f xs) ≡ length xs - f = length-drop f xs in
    let within : c.args.k < length (drop f xs) = omega (arith, count, ap (λ v. length v.items) c.self.view_is, numbers-behind c.self.inside.parts.items c.self.inside.bases c.self.inside.free) in
    ap (λ ps. numbers_of (drop f ps) c.add_from.new.self)
    (whole-slice c.self.inside.parts.len new xs (c.add.ensures.len ∙ c.deref_mut.ensures.len))
    ∙ numbers-added (drop f xs) c.self.inside.bases c.args.k c.args.more (drop f new) c.add_from.new.self within (omega (arith, count, c.self.invariant.1))
    (length-drop f new ∙ ap (λ n. n - f) (c.add.ensures.len ∙ ap length c.deref_mut.ensures.value) ∙ sym count)
    (λ j ge here inside. get_or-drop f new j 0 ∙ c.add.ensures.within (f + j) (omega (arith, ge)) (omega (arith, ge, here, inside, count))
    ∙ ap (λ ys. (get_or ys (f + j) 0 + c.args.more) % 2 ^ 64) c.deref_mut.ensures.value ∙ ap (λ p. (p + c.args.more) % 2 ^ 64) (sym (get_or-drop f xs j 0)))
    (λ j apart. get_or-drop f new j 0 ∙ c.add.ensures.others (f + j) (⊎_elim (λ front. inl (omega (arith, front))) (λ later. inr (omega (arith, later))) apart)
    ∙ ap (λ ys. get_or ys (f + j) 0) c.deref_mut.ensures.value ∙ sym (get_or-drop f xs j 0))
    c.add_from.ensures.from c.add_from.ensures.others
    ∙ ap (λ v. take (c.args.k + 1) v.items ++ map (λ start. (start + c.args.more) % 2 ^ 64) (drop (c.args.k + 1) v.items)) c.self.view_is

pub add-requires-clause-ordered : goal.add-requires-clause-ordered
add-requires-clause-ordered c = omega (arith, ap (λ v. length v.items) c.self.view_is, numbers-behind c.self.inside.parts.items c.self.inside.bases c.self.inside.free)

pub add_from-requires : goal.add_from-requires
add_from-requires c = omega (arith, c.self.invariant.1, ap (λ v. length v.items) c.self.view_is, numbers-behind c.self.inside.parts.items c.self.inside.bases c.self.inside.free)

pub returns-clause-room : goal.returns-clause-room
returns-clause-room c = grind (arith, common_steps)
