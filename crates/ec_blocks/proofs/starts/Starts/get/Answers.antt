-- The sum of the part and of the base.
use Rattle.std.proofs.Common.{◌+◌, ◌%◌, ◌^◌, ◌<◌, length, drop, get_or, sym, ap, ap₂, ◌∙◌, length-drop, arith}
use Rattle.std.proofs.lemmas.List.{get_or_read, get_or-drop}
use Rattle.ec_blocks.proofs.NumberLemmas.{numbers-behind, number-is}
use Rattle.ec_blocks.proofs.starts.Starts.get.Goals as goal

pub overflow_add-self-inside : goal.overflow_add-self-inside
overflow_add-self-inside c = omega (arith, c.self.inside.parts.small, ap (λ v. length v.items) c.self.view_is, numbers-behind c.self.inside.parts.items c.self.inside.bases c.self.inside.free)

pub index-requires : goal.index-requires
index-requires c = omega (arith, ap (λ v. length v.items) c.self.view_is, numbers-behind c.self.inside.parts.items c.self.inside.bases c.self.inside.free)

pub get-requires : goal.get-requires
get-requires c = omega (arith, c.self.invariant.1, ap (λ v. length v.items) c.self.view_is, numbers-behind c.self.inside.parts.items c.self.inside.bases c.self.inside.free)

pub returns : goal.returns
returns c =
    let within : c.args.k < length (drop c.self.inside.free c.self.inside.parts.items) = omega (arith, length-drop c.self.inside.free c.self.inside.parts.items, ap (λ v. length v.items) c.self.view_is, numbers-behind c.self.inside.parts.items c.self.inside.bases c.self.inside.free) in
    ap₂ (λ p b. (p + b) % 2 ^ 64)
    (get_or_read c.self.inside.parts.items (c.self.inside.free + c.args.k) c.index.result.now (omega (arith, within, length-drop c.self.inside.free c.self.inside.parts.items)) c.index.ensures 0
    ∙ sym (get_or-drop c.self.inside.free c.self.inside.parts.items c.args.k 0)) c.get.ensures
    ∙ sym (number-is (drop c.self.inside.free c.self.inside.parts.items) c.self.inside.bases c.args.k 0 within) ∙ ap (λ v. get_or v.items c.args.k 0) c.self.view_is
