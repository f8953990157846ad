-- One byte more is one digit more.
use Rattle.std.proofs.Common.{ℕ, ◌+◌, ◌*◌, ◌^◌, ◌%◌, sym, ap₂, ◌∙◌}
use Rattle.std.proofs.lemmas.List.Sums.{fold_more}
use Rattle.ec_store.proofs.identities.number_of.Goals as goal

pub loop-byte-preserved : goal.loop-byte-preserved
loop-byte-preserved c =
    let digit : ℕ → ℕ → ℕ = λ n byte. ((n * 256) % 2 ^ 64 + byte) % 2 ^ 64 in
    ap₂ digit c.loop-byte.invariant c.from.ensures ∙ sym (fold_more digit 0 c.args.bytes.now c.loop-byte.byte-index 0 c.loop-byte-test.true)
