-- The last block that begins up to the place.
use Rattle.std.proofs.Common.{◌≡◌, ℕ, true, false, length, sym, ap, subst, ◌∙◌, arith}
use Rattle.std.proofs.lemmas.Grind.{common_steps}
use Rattle.std.specs.Prelude.{nat_le}
use Rattle.std.specs.List.{list_all}
use Rattle.std.specs.List.Sorted.{IsNonDecreasingBy, IsPartitionPoint}
use Rattle.std.specs.Vec.{vec_capacity}
use Rattle.std.proofs.lemmas.List.{length-map}
use Rattle.ec_blocks.specs.Chain.{starts_from, is_block}
use Rattle.ec_blocks.proofs.ChainLemmas.{kept-blocks}
use Rattle.ec_blocks.proofs.StartLemmas.{starts-rise, some-start, IsIn-found}
use Rattle.ec_blocks.proofs.chain.Chain.locate.Goals as goal

pub count_up_to-k-requires : goal.count_up_to-k-requires
count_up_to-k-requires g c =
    subst (IsNonDecreasingBy (λ (place : ℕ). place)) (sym (c.self.invariant.0.starts_are ∙ ap (λ v. starts_from 0 v.blocks) c.self.view_is))
    (starts-rise 0 c.args.self.now.blocks)

pub overflow_sub-k : goal.overflow_sub-k
overflow_sub-k g c =
    some-start c.args.self.now.blocks c.args.i c.count_up_to-k.result c.requires
    (subst (λ (ps : _). IsPartitionPoint (λ place. nat_le place c.args.i ≡ true) (λ place. nat_le place c.args.i ≡ false) ps c.count_up_to-k.result)
    (c.self.invariant.0.starts_are ∙ ap (λ v. starts_from 0 v.blocks) c.self.view_is) c.count_up_to-k.ensures.cut)

pub start-requires-2 : goal.start-requires-2
start-requires-2 g c =
    (IsIn-found c.args.self.now.blocks c.self.inside.starts.items c.args.i c.count_up_to-k.result c.requires (c.self.invariant.0.starts_are ∙ ap (λ v. starts_from 0 v.blocks) c.self.view_is) c.count_up_to-k.ensures.cut (omega arith)).within

pub overflow_sub-result-2 : goal.overflow_sub-result-2
overflow_sub-result-2 g c =
    let found = IsIn-found c.args.self.now.blocks c.self.inside.starts.items c.args.i c.count_up_to-k.result c.requires (c.self.invariant.0.starts_are ∙ ap (λ v. starts_from 0 v.blocks) c.self.view_is) c.count_up_to-k.ensures.cut (omega arith) in
    omega (arith, found.from, c.start-2.ensures)

pub returns : goal.returns
returns g c =
    let found = IsIn-found c.args.self.now.blocks c.self.inside.starts.items c.args.i c.count_up_to-k.result c.requires (c.self.invariant.0.starts_are ∙ ap (λ v. starts_from 0 v.blocks) c.self.view_is) c.count_up_to-k.ensures.cut (omega arith) in
    record {
      within = found.within;
      place = omega (arith, found.from, c.start-2.ensures);
      to = omega (arith, found.from, found.to, c.start-2.ensures);
      kept = ap (λ v. list_all is_block v.blocks) (sym c.self.view_is) ∙ kept-blocks (λ b. b.items) (λ b. vec_capacity b) c.self.inside.blocks.items c.self.invariant.0.kept;
      few = omega (arith, c.self.invariant.1.few, ap (λ v. length v.blocks) (sym c.self.view_is), length-map c.self.inside.blocks.items (λ b. b.items));
    }

pub start-requires : goal.start-requires
start-requires c = grind (arith, common_steps)

pub returns-then-is_in-clause-place : goal.returns-then-is_in-clause-place
returns-then-is_in-clause-place c = grind (arith, common_steps)

pub returns-then-is_in-clause-to : goal.returns-then-is_in-clause-to
returns-then-is_in-clause-to c = grind (arith, common_steps)

pub overflow_sub-result : goal.overflow_sub-result
overflow_sub-result c = grind (arith, common_steps)

pub returns-then-is_in-clause-within : goal.returns-then-is_in-clause-within
returns-then-is_in-clause-within c = grind (arith, common_steps)
