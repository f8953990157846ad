-- A place and room leave each list as it was.
use Rattle.std.proofs.Common.{◌<◌, IsSome, sym, ap, subst, ◌∙◌}
use Rattle.std.specs.Prelude.{Result, Ok, Err, OnOk}
use Rattle.ec_exclusive.specs.Added.{added_of}
use Rattle.ec_exclusive.proofs.FieldLists.{added_of-kept, list_at-kept, list_at-same, length-same}
use Rattle.ec_exclusive.proofs.rows.make_room.Goals as goal

-- what holds in any case holds where all went well
on_ok : {A E P : Type 0} (r : Result A E) → P → OnOk r P
on_ok (Ok x) holds = holds
on_ok (Err e) holds = tt

pub reserve_each-requires : goal.reserve_each-requires
reserve_each-requires c = λ q there.
    subst IsSome (sym (list_at-kept c.args.rows.now c.place.new.self c.place.ensures.same q)) (c.requires q there)

pub returns-in_err-place-clause-same : goal.returns-in_err-place-clause-same
returns-in_err-place-clause-same c = added_of-kept c.args.rows.now c.place.new.self c.place.ensures.same

pub returns-in_err-place-clause-lists : goal.returns-in_err-place-clause-lists
returns-in_err-place-clause-lists c = list_at-kept c.args.rows.now c.place.new.self c.place.ensures.same

pub returns-clause-same : goal.returns-clause-same
returns-clause-same c = ap added_of c.reserve_each.ensures.same ∙ added_of-kept c.args.rows.now c.place.new.self c.place.ensures.same

pub returns-clause-lists : goal.returns-clause-lists
returns-clause-lists c = λ q.
    list_at-same c.args.rows.now c.reserve_each.new.rows q (ap added_of c.reserve_each.ensures.same ∙ added_of-kept c.args.rows.now c.place.new.self c.place.ensures.same)

pub returns-clause-place : goal.returns-clause-place
returns-clause-place c =
    on_ok c.reserve_each.result
    (subst (λ n. c.args.p.0 < n) (sym (length-same c.place.new.self c.reserve_each.new.rows c.reserve_each.ensures.same)) c.in_ok-place.ensures.place)
