use Rattle.std.proofs.Common.{◌≡◌, ◌∙◌, ◌≤◌, sym, ap, take, drop, length, arith}
use Rattle.std.proofs.lemmas.List.{take_rest}
use Rattle.std.proofs.lemmas.Grind.{common_steps}
use Rattle.ec_outside.specs.SourceState.{SourceState}
use Rattle.ec_outside.proofs.Streams.{Took-some, read_split}
use Rattle.ec_outside.proofs.mem_source.MemSourceSource.read.Goals as goal

pub returns-clause-took : goal.returns-clause-took
returns-clause-took c =
    let is_left : c.args.self.now.left ≡ drop c.self.inside.at c.self.inside.bytes.items = sym (ap (λ (i : SourceState). i.left) c.self.view_is) in
    let known : drop c.self.inside.at c.deref.result.now ≡ c.args.self.now.left = ap (λ all. drop c.self.inside.at all) c.deref.ensures.value ∙ sym is_left in
    let copied : c.copy_from_slice.new.self ≡ take c.min-count.result c.args.self.now.left =
    c.copy_from_slice.ensures.after ∙ ap (λ all. take c.min-count.result all) (take_rest c.deref.result.now c.self.inside.at ∙ known) in
    let size : c.min-count.result ≤ length c.args.self.now.left = omega (arith, ap length (take_rest c.deref.result.now c.self.inside.at ∙ known)) in
    Took-some (read_split c.self.inside.bytes.items c.args.self.now.left c.copy_from_slice.new.self _ c.self.inside.at c.min-count.result is_left copied size)

pub returns-clause-end : goal.returns-clause-end
returns-clause-end c = grind (arith, common_steps)

pub returns-clause-count : goal.returns-clause-count
returns-clause-count c = grind (arith, common_steps)

pub returns-clause-counted : goal.returns-clause-counted
returns-clause-counted c = grind (arith, common_steps)

pub returns-clause-reads : goal.returns-clause-reads
returns-clause-reads c = grind (arith, common_steps)

pub returns-clause-within : goal.returns-clause-within
returns-clause-within c = grind (arith, common_steps)

pub returns-then-next_fails-clause-failed : goal.returns-then-next_fails-clause-failed
returns-then-next_fails-clause-failed c = grind (arith, common_steps)

pub returns-clause-faults : goal.returns-clause-faults
returns-clause-faults c = grind (arith, common_steps)
