-- What is kept from the place on is more, and so are the sums.
use Rattle.std.proofs.Common.{◌≡◌, ◌+◌, ◌%◌, ◌^◌, ◌<◌, inl, length, get_or, sym, ap, ◌∙◌, arith}
use Rattle.ec_blocks.specs.Starts.{lifted}
use Rattle.ec_blocks.proofs.NumberLemmas.{whole-slice, sum-part, lifted-length, lifted-at}
use Rattle.ec_blocks.proofs.bases.Bases.add_behind.Goals as goal

pub add-requires-clause-ordered : goal.add-requires-clause-ordered
add-requires-clause-ordered c = omega (arith, ap length c.self.view_is, lifted-length c.self.inside.lift c.self.inside.kept.items)

pub returns-clause-len : goal.returns-clause-len
returns-clause-len c =
    ap (λ ns. length (lifted c.self.inside.lift ns)) (whole-slice c.self.inside.kept.len c.add.new.numbers c.self.inside.kept.items (c.add.ensures.len ∙ c.deref_mut.ensures.len))
    ∙ lifted-length c.self.inside.lift c.add.new.numbers ∙ c.add.ensures.len ∙ ap length c.deref_mut.ensures.value
    ∙ sym (lifted-length c.self.inside.lift c.self.inside.kept.items) ∙ ap length c.self.view_is

pub returns-clause-from : goal.returns-clause-from
returns-clause-from c j ge inside =
    let same : length c.add.new.numbers ≡ length c.self.inside.kept.items = c.add.ensures.len ∙ ap length c.deref_mut.ensures.value in
    let within : j < length c.self.inside.kept.items = omega (arith, ap length c.self.view_is, lifted-length c.self.inside.lift c.self.inside.kept.items) in
    ap (λ ns. get_or (lifted c.self.inside.lift ns) j 0) (whole-slice c.self.inside.kept.len c.add.new.numbers c.self.inside.kept.items (c.add.ensures.len ∙ c.deref_mut.ensures.len))
    ∙ lifted-at c.self.inside.lift c.add.new.numbers j (omega (arith, same))
    ∙ ap (λ n. (n + c.self.inside.lift) % 2 ^ 64) (c.add.ensures.within j ge (omega arith) ∙ ap (λ ns. (get_or ns j 0 + c.args.more) % 2 ^ 64) c.deref_mut.ensures.value)
    ∙ sum-part (get_or c.self.inside.kept.items j 0) c.self.inside.lift c.args.more
    ∙ ap (λ n. (n + c.args.more) % 2 ^ 64) (sym (lifted-at c.self.inside.lift c.self.inside.kept.items j within) ∙ ap (λ ns. get_or ns j 0) c.self.view_is)

pub returns-clause-others : goal.returns-clause-others
returns-clause-others c j front =
    let same : length c.add.new.numbers ≡ length c.self.inside.kept.items = c.add.ensures.len ∙ ap length c.deref_mut.ensures.value in
    let within : j < length c.self.inside.kept.items = omega (arith, c.requires, ap length c.self.view_is, lifted-length c.self.inside.lift c.self.inside.kept.items) in
    ap (λ ns. get_or (lifted c.self.inside.lift ns) j 0) (whole-slice c.self.inside.kept.len c.add.new.numbers c.self.inside.kept.items (c.add.ensures.len ∙ c.deref_mut.ensures.len))
    ∙ lifted-at c.self.inside.lift c.add.new.numbers j (omega (arith, same))
    ∙ ap (λ n. (n + c.self.inside.lift) % 2 ^ 64) (c.add.ensures.others j (inl front) ∙ ap (λ ns. get_or ns j 0) c.deref_mut.ensures.value)
    ∙ sym (lifted-at c.self.inside.lift c.self.inside.kept.items j within) ∙ ap (λ ns. get_or ns j 0) c.self.view_is
