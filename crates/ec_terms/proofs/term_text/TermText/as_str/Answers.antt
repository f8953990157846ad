-- ASCII bytes are UTF-8.
use Rattle.std.proofs.Common.{subst, sym, List, ℕ}
use Rattle.std.specs.Str.{IsUtf8}
use Rattle.std.proofs.lemmas.Str.{IsUtf8-from_ascii}
use Rattle.ec_terms.proofs.term_text.TermText.as_str.Goals as goal

pub unreachable-requires : goal.unreachable-requires
unreachable-requires c =
    c.in-Err.ensures.cases.0
    (subst (λ (bs : List ℕ). IsUtf8 bs) (sym c.as_slice.ensures.value) (IsUtf8-from_ascii c.self.inside.bytes.items c.self.invariant))
