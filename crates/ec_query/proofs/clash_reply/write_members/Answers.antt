-- Each clash that is found is the first of those that are left.
use Rattle.std.proofs.Common.{◌++◌, None, Some, refl, sym, ap, ◌∙◌, arith}
use Rattle.std.proofs.lemmas.Grind.{common_steps}
use Rattle.ec_lists.proofs.Results.{OnErr-anyway}
use Rattle.ec_query.specs.Members.{members_text}
use Rattle.ec_query.proofs.ClashSearch.{left_behind, left_behind-all, left_behind-next, left_behind-none, fewer_behind}
use Rattle.ec_query.proofs.WritingLemmas.{IsLeft-start, IsLeft-next, IsLeft-part, IsLeft-end}
use Rattle.ec_query.proofs.clash_reply.write_members.Goals as goal

pub loop-at-init : goal.loop-at-init
loop-at-init g c = record {
  left = λ times are.
      IsLeft-start c.args.out.now (members_text g.T.Moment.canon times) (members_text g.T.Moment.canon (left_behind g.T.Moment.rank None times))
      (ap (members_text g.T.Moment.canon) (sym (left_behind-all g.T.Moment.rank times)));
  quiet = refl;
}

pub returns-in_err-write_all-clause-part : goal.returns-in_err-write_all-clause-part
returns-in_err-write_all-clause-part g c = λ times are.
    let more = members_text g.T.Moment.canon (left_behind g.T.Moment.rank (Some c.in-Some.at) times) in
    OnErr-anyway c.from_residual.result
    (IsLeft-part c.as_bytes.result.now more (c.loop-at.invariant.left times are)
    (ap (members_text g.T.Moment.canon) (left_behind-next g.T.Moment.rank c.args.points.now times are c.loop-at.after c.in-Some.at
    (record { some = c.in-Some.ensures.some; behind = c.in-Some.ensures.behind; least = c.in-Some.ensures.least }))
    ∙ ap (λ bytes. bytes ++ more) (sym (c.as_bytes.ensures ∙ c.set_time.ensures)))
    c.in_err-write_all.ensures.part)

pub loop-at-smaller : goal.loop-at-smaller
loop-at-smaller g c = fewer_behind g.T.Moment.rank c.args.points.now c.loop-at.after c.in-Some.at c.in-Some.ensures.some c.in-Some.ensures.behind

pub loop-at-preserved : goal.loop-at-preserved
loop-at-preserved g c = record {
  left = λ times are.
      let more = members_text g.T.Moment.canon (left_behind g.T.Moment.rank (Some c.in-Some.at) times) in
      IsLeft-next c.as_bytes.result.now more (c.loop-at.invariant.left times are)
      (ap (members_text g.T.Moment.canon) (left_behind-next g.T.Moment.rank c.args.points.now times are c.loop-at.after c.in-Some.at
      (record { some = c.in-Some.ensures.some; behind = c.in-Some.ensures.behind; least = c.in-Some.ensures.least }))
      ∙ ap (λ bytes. bytes ++ more) (sym (c.as_bytes.ensures ∙ c.set_time.ensures)))
      c.in_ok-write_all.ensures.written c.in_ok-write_all.ensures.quiet;
  quiet = c.in_ok-write_all.ensures.quiet ∙ c.loop-at.invariant.quiet;
}

pub returns-clause-written : goal.returns-clause-written
returns-clause-written g c = λ times are.
    IsLeft-end (c.loop-at.invariant.left times are)
    (ap (members_text g.T.Moment.canon) (left_behind-none g.T.Moment.rank c.args.points.now times are c.loop-at.after c.in_default.ensures.none))

pub returns-in_err-write_all-clause-failed : goal.returns-in_err-write_all-clause-failed
returns-in_err-write_all-clause-failed c = grind (arith, common_steps)

pub returns-in_err-write_all-clause-counted : goal.returns-in_err-write_all-clause-counted
returns-in_err-write_all-clause-counted c = grind (arith, common_steps)
