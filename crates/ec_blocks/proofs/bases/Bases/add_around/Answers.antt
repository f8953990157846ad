-- The lift is more, and what is kept in front of the place is so much less.
use Rattle.std.proofs.Common.{◌≡◌, ◌+◌, ◌%◌, ◌^◌, ◌<◌, ℕ, inr, length, get_or, sym, ap, ◌∙◌, arith}
use Rattle.ec_blocks.specs.Starts.{lifted}
use Rattle.ec_blocks.proofs.NumberLemmas.{whole-slice, sum-base, sum-lift, lifted-length, lifted-at}
use Rattle.ec_blocks.proofs.bases.Bases.add_around.Goals as goal

pub add-requires-clause-within : goal.add-requires-clause-within
add-requires-clause-within c = omega (arith, c.requires, ap length c.self.view_is, lifted-length c.self.inside.lift c.self.inside.kept.items, ap length c.deref_mut.ensures.value)

pub returns-clause-len : goal.returns-clause-len
returns-clause-len c =
    let lift : ℕ = (c.self.inside.lift + c.args.more) % 2 ^ 64 in
    ap (λ ns. length (lifted lift ns)) (whole-slice c.self.inside.kept.len c.add.new.numbers c.self.inside.kept.items (c.add.ensures.len ∙ c.deref_mut.ensures.len))
    ∙ lifted-length lift c.add.new.numbers ∙ c.add.ensures.len ∙ ap length c.deref_mut.ensures.value
    ∙ sym (lifted-length c.self.inside.lift c.self.inside.kept.items) ∙ ap length c.self.view_is

pub returns-clause-from : goal.returns-clause-from
returns-clause-from c j ge inside =
    let lift : ℕ = (c.self.inside.lift + c.args.more) % 2 ^ 64 in
    let same : length c.add.new.numbers ≡ length c.self.inside.kept.items = c.add.ensures.len ∙ ap length c.deref_mut.ensures.value in
    let within : j < length c.self.inside.kept.items = omega (arith, ap length c.self.view_is, lifted-length c.self.inside.lift c.self.inside.kept.items) in
    ap (λ ns. get_or (lifted lift ns) j 0) (whole-slice c.self.inside.kept.len c.add.new.numbers c.self.inside.kept.items (c.add.ensures.len ∙ c.deref_mut.ensures.len))
    ∙ lifted-at lift c.add.new.numbers j (omega (arith, same))
    ∙ ap (λ n. (n + lift) % 2 ^ 64) (c.add.ensures.others j (inr ge) ∙ ap (λ ns. get_or ns j 0) c.deref_mut.ensures.value)
    ∙ sum-base (get_or c.self.inside.kept.items j 0) c.self.inside.lift c.args.more
    ∙ ap (λ n. (n + c.args.more) % 2 ^ 64) (sym (lifted-at c.self.inside.lift c.self.inside.kept.items j within) ∙ ap (λ ns. get_or ns j 0) c.self.view_is)

pub returns-clause-others : goal.returns-clause-others
returns-clause-others c j front =
    let lift : ℕ = (c.self.inside.lift + c.args.more) % 2 ^ 64 in
    let same : length c.add.new.numbers ≡ length c.self.inside.kept.items = c.add.ensures.len ∙ ap length c.deref_mut.ensures.value in
    let within : j < length c.self.inside.kept.items = omega (arith, c.requires, ap length c.self.view_is, lifted-length c.self.inside.lift c.self.inside.kept.items) in
    ap (λ ns. get_or (lifted lift ns) j 0) (whole-slice c.self.inside.kept.len c.add.new.numbers c.self.inside.kept.items (c.add.ensures.len ∙ c.deref_mut.ensures.len))
    ∙ lifted-at lift c.add.new.numbers j (omega (arith, same))
    ∙ ap (λ n. (n + lift) % 2 ^ 64) (c.add.ensures.within j (omega arith) front ∙ ap (λ ns. (get_or ns j 0 + c.wrapping_neg.result) % 2 ^ 64) c.deref_mut.ensures.value)
    ∙ sum-lift (get_or c.self.inside.kept.items j 0) c.self.inside.lift c.args.more c.wrapping_neg.result c.wrapping_neg.ensures
    ∙ sym (lifted-at c.self.inside.lift c.self.inside.kept.items j within) ∙ ap (λ ns. get_or ns j 0) c.self.view_is
