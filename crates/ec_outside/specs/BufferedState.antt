-- A sink that holds back bytes before another sink: the pair of that sink and the bytes that wait.
use Rattle.std.specs.Prelude.{◌≡◌, ℕ, List, ◌++◌}

-- it stands for what the sink behind it stands for, followed by the bytes that wait
abbrev pub stands_with_waiting : {S : Type 0} → (S → List ℕ → Type 0) → S × List ℕ → List ℕ → Type 0
stands_with_waiting stands sink text = (sent : List ℕ) × (stands sink.0 sent × (text ≡ sent ++ sink.1))
