-- A visit: from just before it, by the look at its entries and the settling of properties, a sweep comes up to it.
use Rattle.std.proofs.Common.{◌≡◌, ◌≤◌, ◌+◌, ℕ, ◌+ℤ◌, ◌-ℤ◌, pos, ℤ, Bool, true, List, Some, sym, subst, arith}
use Rattle.std.specs.List.{All}
use Rattle.std.proofs.lemmas.Int.{ints}
use Rattle.ec_terms.specs.declared.ids.PropId.{PropId}
use Rattle.ec_terms.specs.declared.ground.Ground.{Ground}
use Rattle.ec_terms.specs.declared.theory.Theory.{Theory}
use Rattle.ec_axioms.specs.Calculus.{PlainEvent, Effect}
use Rattle.ec_numbered.specs.Due.{Due}
use Rattle.ec_store.specs.Store.{Kept, event_at, history_of}
use Rattle.ec_parts.specs.declared.tally.Tally.{Tally}
use Rattle.ec_parts.specs.StandFor.{View}
use Rattle.ec_store.specs.Table.{is_in_order}
use Rattle.ec_delta.specs.declared.delta.Looked.{Looked}
use Rattle.ec_delta.specs.declared.delta.Planned.{Planned}
use Rattle.ec_revise.specs.declared.change.Change.{Change}
use Rattle.ec_revise.specs.declared.turn.Turn.{Turn}
use Rattle.ec_revise.specs.Sweep.{AreCompared, Found, Swept}
use Rattle.ec_revise.specs.Visit.{AreTurnsAt, LooksAt, PlainTurn, Settles, Visits, turns_between}
use Rattle.ec_revise.proofs.Looking.{turns_at}
use Rattle.ec_revise.proofs.Visiting.{SweepVisits-law}
use Rattle.ec_sweep.specs.declared.progress.Progress.{Progress}
use Rattle.ec_sweep.specs.declared.sweep.Sweep.{Sweep}
use Rattle.ec_sweep.specs.State.{DirtyRows, IsProgress, IsUnderway, found_by, keeps}
use Rattle.ec_sweep.specs.Sweeping.{IsSweeping, IsSweptUpTo, NothingLeftBefore, has_visit_at}
use Rattle.ec_sweep.specs.Visiting.{AreDueAt, CanLook, CanLookAt, CanSettle, CanSettleAt, HasLooked, HasSettled, IsAgendaBehind, most_steps, settled_by, steps_for}
use Rattle.ec_sweep.proofs.NextInstant.{IsSweptUpTo-next, compared}
use Rattle.ec_sweep.proofs.SameTurns.{AreTurnsAt-same}
use Rattle.ec_sweep.proofs.SettledTurns.{Settles-same}

-- ---- at the next whole number, by any name

-- what a visit looks at is what turned there
turns_at-next : (theory : Theory) (old new : List PlainEvent) (kept : Ground → Bool) (r t : ℤ) (seen : List Effect) (before after : Found) → AreCompared theory old new kept
    → t ≡ r +ℤ pos 1 → Swept theory old new kept r before → LooksAt theory old new t seen before after → AreTurnsAt theory old new t (turns_between theory old new t seen before after)
turns_at-next theory old new kept r t seen before after compared next swept looks =
    subst (λ u. AreTurnsAt theory old new u (turns_between theory old new u seen before after)) (sym next)
    (turns_at theory old new kept r seen before after compared swept (subst (λ u. LooksAt theory old new u seen before after) next looks))

-- and a visit sweeps it
Swept-next : (theory : Theory) (old new : List PlainEvent) (kept : Ground → Bool) (r t : ℤ) (seen : List Effect) (settled : Ground → Bool) (before after : Found) → AreCompared theory old new kept
    → t ≡ r +ℤ pos 1 → Swept theory old new kept r before → Visits theory old new kept t seen settled before after → Swept theory old new kept t after
Swept-next theory old new kept r t seen settled before after compared next swept visits =
    subst (λ u. Swept theory old new kept u after) (sym next)
    (SweepVisits-law theory old new kept r seen settled before after compared swept (subst (λ u. Visits theory old new kept u seen settled before after) next visits))

module _ {T : Type 0} (rank : T → ℤ) (theory : Theory) (new : List PlainEvent) (view : View T) (tally : Tally) (change : Change T) (sweep : Sweep T) (t : ℤ)
    (order : is_in_order view.table ≡ true) (slots : All (λ (kept : Kept T). event_at kept.0 view.store.events ≡ Some kept.1) view.store.events)
    (underway : IsUnderway rank theory new view tally change) (sweeping : IsSweeping rank theory new view change sweep)
    (first : NothingLeftBefore rank change sweep.progress sweep.agenda t) (there : has_visit_at rank change sweep.progress sweep.agenda t ≡ true) where
  abbrev old : List PlainEvent
  old = history_of rank view.store.events

  -- the instant before the visit
  abbrev r : ℤ
  r = t -ℤ pos 1

  next : t ≡ r +ℤ pos 1
  next = omega (arith, ints)

  -- the sweep has come up to it
  up_to : IsSweptUpTo rank theory new view change sweep r
  up_to = IsSweptUpTo-next rank theory new view tally change sweep sweeping.r r t order slots underway sweeping.found first there next

  abbrev before : Found
  before = found_by rank view.table sweep.dirty sweep.agenda sweep.looked sweep.planned up_to.active

  -- ---- the look

  can_look : (due : List PropId) → AreDueAt rank sweep.agenda t due
      → CanLook rank theory new view tally change r t sweep.dirty sweep.agenda due sweep.looked sweep.planned up_to.active sweep.progress
  can_look due due_is = record {
    underway = underway;
    next = next;
    due_is = due_is;
    swept = up_to.swept;
    shows = up_to.shows;
    progress_is = up_to.progress_is;
  }

  -- the instant can be looked at
  pub CanLookAt-next : (due : List PropId) → AreDueAt rank sweep.agenda t due → CanLookAt rank theory view change t sweep.dirty due sweep.looked sweep.progress
  CanLookAt-next due due_is = record {
    new = new;
    tally = tally;
    r = r;
    agenda = sweep.agenda;
    planned = sweep.planned;
    active = up_to.active;
    can = can_look due due_is;
  }

  -- what every look takes of steps, this one takes
  pub look-takes : (due : List PropId) → AreDueAt rank sweep.agenda t due → (started ended : ℕ)
      → ((new : List PlainEvent) (tally : Tally) (r : ℤ) (agenda : List (Due T)) (planned : Planned T) (active : Effect → Bool)
      → CanLook rank theory new view tally change r t sweep.dirty agenda due sweep.looked planned active sweep.progress
      → ended + steps_for change sweep.looked sweep.progress ≤ started + most_steps theory (history_of rank view.store.events) new change)
      → ended + steps_for change sweep.looked sweep.progress ≤ started + most_steps theory (history_of rank view.store.events) new change
  look-takes due due_is started ended looking = looking new tally r sweep.agenda sweep.planned up_to.active (can_look due due_is)

  -- the look has found what it does, and gives the turns
  module _ (due : List PropId) (due_is : AreDueAt rank sweep.agenda t due) (looked : Looked) (turns given : List Turn) (given_is : given ≡ turns)
      (looking : (new : List PlainEvent) (tally : Tally) (r : ℤ) (agenda : List (Due T)) (planned : Planned T) (active : Effect → Bool)
      → CanLook rank theory new view tally change r t sweep.dirty agenda due sweep.looked planned active sweep.progress
      → HasLooked rank theory new view change t sweep.dirty agenda planned sweep.looked looked active turns) where
    found : HasLooked rank theory new view change t sweep.dirty sweep.agenda sweep.planned sweep.looked looked up_to.active given
    found =
        subst (λ ts. HasLooked rank theory new view change t sweep.dirty sweep.agenda sweep.planned sweep.looked looked up_to.active ts) (sym given_is)
        (looking new tally r sweep.agenda sweep.planned up_to.active (can_look due due_is))

    abbrev looked_at : Found
    looked_at = found_by rank view.table sweep.dirty sweep.agenda looked sweep.planned found.now_active

    -- what turned
    abbrev between : List PlainTurn
    between = turns_between theory old new t found.seen before looked_at

    -- ---- the settling

    module _ (due_then : List PropId) (due_then_is : AreDueAt rank sweep.agenda t due_then) (left : List (Due T)) (left_is : IsAgendaBehind rank sweep.agenda t left) where
      can_settle : CanSettle rank theory new view tally change r t sweep.dirty sweep.agenda left due_then given found.plains sweep.looked sweep.planned up_to.active
      can_settle = record {
        underway = underway;
        next = next;
        due_is = due_then_is;
        due_of = up_to.due_of;
        later_is = left_is;
        swept = up_to.swept;
        planned_up_to = up_to.planned_up_to;
        turned = found.turned;
        turns_at = AreTurnsAt-same found.plains between found.in_any_order theory old new t
            (turns_at-next theory old new (keeps view.table) r t found.seen before looked_at (compared rank theory new view tally change underway) next up_to.swept found.looks);
      }

      -- the properties can be settled
      pub CanSettleAt-looked : CanSettleAt rank theory view t sweep.dirty left due_then given sweep.planned
      CanSettleAt-looked = record {
        new = new;
        tally = tally;
        change = change;
        r = r;
        agenda = sweep.agenda;
        plains = found.plains;
        looked = sweep.looked;
        active = up_to.active;
        can = can_settle;
      }

      -- ---- behind the visit

      abbrev settled : Ground → Bool
      settled = settled_by view.table view.neighbours.rows due_then given

      -- the settling has found what it does
      module _ (later : List (Due T)) (dirty : DirtyRows) (planned : Planned T)
          (settling : (new : List PlainEvent) (tally : Tally) (change : Change T) (r : ℤ) (agenda : List (Due T)) (plains : List PlainTurn) (looked : Looked) (active : Effect → Bool)
          → CanSettle rank theory new view tally change r t sweep.dirty agenda left due_then given plains looked sweep.planned active
          → HasSettled rank theory new view t plains settled agenda later sweep.dirty dirty sweep.planned planned)
          (progress : Progress) (going_on : (r : ℤ) → t ≡ r +ℤ pos 1 → IsProgress rank change r sweep.progress → IsProgress rank change t progress) where
        kept : HasSettled rank theory new view t found.plains settled sweep.agenda later sweep.dirty dirty sweep.planned planned
        kept = settling new tally change r sweep.agenda found.plains sweep.looked up_to.active can_settle

        abbrev after : Found
        after = found_by rank view.table dirty later looked planned found.now_active

        -- the look found the same, with what is found of properties since
        looks : LooksAt theory old new t found.seen before after
        looks = record {
          listed = found.looks.listed;
          evaluated = found.looks.evaluated;
          unseen = found.looks.unseen;
          added = found.looks.added;
          elsewhere = found.looks.elsewhere;
          seen_more = found.looks.seen_more;
          on_more = found.looks.on_more;
          off_more = found.looks.off_more;
        }

        -- and the settling, with what is found of entries
        settles_shown : Settles theory old (keeps view.table) t found.plains settled before after
        settles_shown =
            let all = kept.settles looked found.now_active in
            record {
              turned = all.turned;
              due = all.due;
              each = λ p is. let one = all.each p is in record { planned = one.planned; dirty = one.dirty; matters = one.matters; due = one.due };
              others = λ p left. let one = all.others p left in record { planned = one.planned; dirty = one.dirty; matters = one.matters };
              elsewhere = all.elsewhere;
              later = all.later;
              still_due = all.still_due;
            }

        -- in the order of the visit too
        settles : Settles theory old (keeps view.table) t between settled before after
        settles = Settles-same found.plains between found.in_any_order theory old (keeps view.table) t settled before after settles_shown

        -- the sweep has come up to the visit
        pub IsSweeping-visited : (at : T) → t ≡ rank at
            → IsSweeping rank theory new view change (record { last = Some at; dirty = dirty; agenda = later; progress = progress; looked = looked; planned = planned })
        IsSweeping-visited at here = record {
          r = t;
          last = here;
          found = record {
            active = found.now_active;
            swept = Swept-next theory old new (keeps view.table) r t found.seen settled before after (compared rank theory new view tally change underway) next up_to.swept
                (record { looks = looks; settles = settles });
            shows = found.shows;
            progress_is = going_on r next up_to.progress_is;
            planned_up_to = kept.planned_up_to;
            due_of = kept.due_of;
          };
        }
