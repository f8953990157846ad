-- Runs: the members of a row from a place on that lie together.
use Rattle.std.proofs.Common.{◌≡◌, ℕ, ◌≤◌, List, length, get_or, take, drop, Some, refl, ap, ◌∙◌, length-drop, arith}
use Rattle.std.specs.Prelude.{slice_get}
use Rattle.std.proofs.lemmas.List.{length-take, get_or-take, get_or-drop, get_or_default}
use Rattle.std.proofs.lemmas.Option.{slice_get_read}

-- the first member of a run is the one at the place
pub slice_get-run : {X : Type 0} (xs run : List X) (i : ℕ) (d : X) → run ≡ take (length run) (drop i xs) → 1 ≤ length run → slice_get xs i ≡ Some (get_or run 0 d)
slice_get-run xs run i d is some =
    slice_get_read xs (length xs) i (get_or run 0 d) refl (omega (arith, ap length is, length-take (length run) (drop i xs), length-drop i xs))
    (get_or_default run 0 d (get_or run 0 d) (omega arith) ∙ ap (λ ys. get_or ys 0 (get_or run 0 d)) is ∙ get_or-take (length run) (drop i xs) 0 (get_or run 0 d) (omega arith)
    ∙ get_or-drop i xs 0 (get_or run 0 d) ∙ ap (λ n. get_or xs n (get_or run 0 d)) (omega arith))
