-- The intervals that a stretch of time meets one after the other.
use Rattle.std.specs.Prelude.{◌≡◌, ℤ, List, Option, Some, Contains, IsTrue, int_lt}
use Rattle.ec_axioms.specs.Timeline.{Interval, covers, begins_at}

-- some interval covers t, and has this end
pub record IsEndOver (intervals : List Interval) (t : ℤ) (end : Option ℤ) : Type 0 where
  pub interval : Interval
  pub member : Contains intervals interval
  pub covering : IsTrue (covers t interval)
  pub until : interval.until ≡ end

-- some interval begins at t, and has this end, which lies after t
pub record IsEndFrom (intervals : List Interval) (t : ℤ) (end : Option ℤ) : Type 0 where
  pub interval : Interval
  pub member : Contains intervals interval
  pub begins : IsTrue (begins_at t interval.from)
  pub until : interval.until ≡ end
  pub after : (x : ℤ) → end ≡ Some x → IsTrue (int_lt t x)
