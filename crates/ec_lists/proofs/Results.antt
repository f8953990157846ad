-- What is said of a result where it is an error.
use Rattle.std.proofs.Common.{Result, Ok, Err, OnErr}

-- what holds anyway
pub OnErr-anyway : {X E P : Type 0} (r : Result X E) → P → OnErr r P
OnErr-anyway (Ok x) holds = tt
OnErr-anyway (Err e) holds = holds
