-- No declaration so far has the property's name and number of arguments.
use Rattle.std.proofs.Common.{◌≡◌, ◌&&◌, false, take, length}
use Rattle.std.specs.Prelude.{pos, bytes_eq}
use Rattle.std.specs.List.{list_any}
use Rattle.std.specs.Ordering.{int_eq}
use Rattle.ec_terms.proofs.domain.is_strong.Given as goal

abbrev pub invariant-loop-declaration : goal.invariant-loop-declaration
invariant-loop-declaration l =
    list_any (λ s. bytes_eq s.name l.p.name.now && int_eq s.arity (pos (length l.p.args))) (take l.declaration-index l.fn.theory.strongs) ≡ false
