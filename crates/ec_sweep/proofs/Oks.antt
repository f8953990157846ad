-- Results that are Ok.
use Rattle.std.specs.Prelude.{Result, Ok, Err, OnOk}

-- what follows from what holds where a result is Ok holds there too
pub then_ok : {A E : Type 0} {P Q : Type 0} (r : Result A E) → (P → Q) → OnOk r P → OnOk r Q
then_ok (Ok x) leads holds = leads holds
then_ok (Err e) leads holds = holds
