-- What it is for a list of the past to be ready to be asked, and how many steps may lead there.
use Rattle.std.specs.Prelude.{◌≡◌, ◌≤◌, ℕ, ◌+◌, ◌*◌, ◌==◌, nat_le, if◌then◌else◌, List, length, Option, Some, None}
use Rattle.ec_terms.specs.declared.theory.Theory.{Theory}
use Rattle.ec_axioms.specs.Calculus.{PlainEvent}
use Rattle.ec_axioms.specs.Changes.{entry_count, work_between}
use Rattle.ec_replies.specs.Past.{Past, first_kept, list_after}
use Rattle.ec_engine.specs.Standing.{Standing}
use Rattle.ec_past.specs.Ways.{weight_between}

-- an engine of a list of the past, and after how many accepted updates that was the list
pub record PlainView : Type 0 where
  pub at : ℕ
  pub standing : Standing

-- an engine stands for a list of the past that can still be asked about
pub record IsViewOf (theory : Theory) (events : List PlainEvent) (past : Past) (view : PlainView) : Type 0 where
  pub kept : first_kept past ≤ view.at
  pub in_past : view.at ≤ past.count
  pub same : view.standing.theory ≡ theory
  pub list : view.standing.events ≡ list_after view.at events past

-- what can still be asked about of what was viewed
abbrev pub still_kept : Past → Option ℕ → Option ℕ
still_kept past None = None
still_kept past (Some at) = if nat_le (first_kept past) at then Some at else None

-- How many steps may lead from one list of the past to another: three times the work between them, and twice what the accepted updates
-- between weigh.
abbrev pub steps_on_the_way : Theory → List PlainEvent → Past → ℕ → ℕ → ℕ
steps_on_the_way theory events past from to = 3 * work_between theory (list_after from events past) (list_after to events past) + 2 * weight_between past from to

-- How many steps may make a list of the past ready: none for the present one and for the one that is viewed; the way from this; and where
-- none is viewed, the present list is made once more first, at a step for each of its entries and two for each of its events.
unfoldable pub way_steps : Theory → List PlainEvent → Past → Option ℕ → ℕ → ℕ
way_steps theory events past None k =
    if past.count == k then 0 else entry_count theory events + 2 * length events + steps_on_the_way theory events past past.count k
way_steps theory events past (Some at) k = if past.count == k then 0 else (if at == k then 0 else steps_on_the_way theory events past at k)
