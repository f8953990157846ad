-- The reason is told as the reply.
use Rattle.std.proofs.Common.{List, OnErr, OnOk, subst, arith}
use Rattle.std.proofs.lemmas.Grind.{common_steps}
use Rattle.std.specs.Prelude.{ℕ}
use Rattle.ec_terms.specs.Term.{ground_of}
use Rattle.ec_outside.specs.Streams.{Appended, AppendedPart}
use Rattle.ec_query.proofs.ToldReasons.{told-reply}
use Rattle.ec_query.proofs.why_reply.write_why.Goals as goal

pub returns-clause-written : goal.returns-clause-written
returns-clause-written g c = λ events stand.
    subst (λ (text : List ℕ). OnOk c.write_reason.result (Appended g.K.Sink.stands c.args.out.now c.write_reason.new.out text))
    (told-reply g.T.Moment.rank g.T.Moment.canon c.args.parts.now.checked events (ground_of c.args.p.now) (g.T.Moment.rank c.args.at) c.why-reason.result (c.why-reason.ensures.reason events stand))
    c.write_reason.ensures.written

pub returns-clause-part : goal.returns-clause-part
returns-clause-part g c = λ events stand.
    subst (λ (text : List ℕ). OnErr c.write_reason.result (AppendedPart g.K.Sink.stands c.args.out.now c.write_reason.new.out text))
    (told-reply g.T.Moment.rank g.T.Moment.canon c.args.parts.now.checked events (ground_of c.args.p.now) (g.T.Moment.rank c.args.at) c.why-reason.result (c.why-reason.ensures.reason events stand))
    c.write_reason.ensures.part

pub returns-clause-steps : goal.returns-clause-steps
returns-clause-steps c = grind (arith, common_steps)
