-- Each query is answered by its text.
use Rattle.std.proofs.Common.{◌+◌, ◌≤◌, ℕ, List, length, OnOk, OnErr, sym, ap, ◌∙◌, subst}
use Rattle.std.proofs.lemmas.List.{length-map}
use Rattle.ec_terms.specs.declared.theory.Theory.{Theory}
use Rattle.ec_terms.specs.Term.{ground_of}
use Rattle.ec_axioms.specs.Calculus.{PlainEvent}
use Rattle.ec_commands.specs.QueryTexts.{broken_reply, clashes_reply, why_reply}
use Rattle.ec_store.specs.Store.{plain_of}
use Rattle.ec_parts.specs.StandFor.{view_of}
use Rattle.ec_query.specs.Marked.{AreMarkedOf}
use Rattle.ec_query.specs.ReasonSteps.{why_steps}
use Rattle.ec_outside.specs.Streams.{Appended, AppendedPart}
use Rattle.ec_lines.specs.declared.command.Query.{Query}
use Rattle.ec_lines.specs.ShownCommand.{plain_query}
use Rattle.ec_replies.specs.Replies.{query_text}
use Rattle.ec_sessions.specs.LineSteps.{most_query_steps}
use Rattle.ec_sessions.proofs.Standings.{StandForList-standing}
use Rattle.ec_sessions.proofs.asked.write_query.Goals as goal

pub returns-in-Holds-clause-written : goal.returns-in-Holds-clause-written
unfolding query_text
returns-in-Holds-clause-written g c =
    let theory = c.args.engine.now.theory in
    let events = c.args.engine.now.events in
    let asked = ap (λ (q : Query g.row.T.Denot). query_text (record { theory = theory; spelt = g.T.Moment.spelt; canon = g.T.Moment.canon }) events (plain_query g.T.Moment.rank q)) c.in-Holds.is in
    subst (λ (text : List ℕ). OnOk c.write_text.result (Appended g.K.Sink.stands c.args.out.now c.write_text.new.out text)) (c.answer_holds.ensures ∙ sym asked) (c.write_text.ensures.written)

pub returns-in-Holds-clause-part : goal.returns-in-Holds-clause-part
unfolding query_text
returns-in-Holds-clause-part g c =
    let theory = c.args.engine.now.theory in
    let events = c.args.engine.now.events in
    let asked = ap (λ (q : Query g.row.T.Denot). query_text (record { theory = theory; spelt = g.T.Moment.spelt; canon = g.T.Moment.canon }) events (plain_query g.T.Moment.rank q)) c.in-Holds.is in
    subst (λ (text : List ℕ). OnErr c.write_text.result (AppendedPart g.K.Sink.stands c.args.out.now c.write_text.new.out text)) (c.answer_holds.ensures ∙ sym asked) (c.write_text.ensures.part)

pub returns-in-Through-clause-written : goal.returns-in-Through-clause-written
unfolding query_text
returns-in-Through-clause-written g c =
    let theory = c.args.engine.now.theory in
    let events = c.args.engine.now.events in
    let asked = ap (λ (q : Query g.row.T.Denot). query_text (record { theory = theory; spelt = g.T.Moment.spelt; canon = g.T.Moment.canon }) events (plain_query g.T.Moment.rank q)) c.in-Through.is in
    subst (λ (text : List ℕ). OnOk c.write_text-in-Through.result (Appended g.K.Sink.stands c.args.out.now c.write_text-in-Through.new.out text)) (c.answer_through.ensures ∙ sym asked) (c.write_text-in-Through.ensures.written)

pub returns-in-Through-clause-part : goal.returns-in-Through-clause-part
unfolding query_text
returns-in-Through-clause-part g c =
    let theory = c.args.engine.now.theory in
    let events = c.args.engine.now.events in
    let asked = ap (λ (q : Query g.row.T.Denot). query_text (record { theory = theory; spelt = g.T.Moment.spelt; canon = g.T.Moment.canon }) events (plain_query g.T.Moment.rank q)) c.in-Through.is in
    subst (λ (text : List ℕ). OnErr c.write_text-in-Through.result (AppendedPart g.K.Sink.stands c.args.out.now c.write_text-in-Through.new.out text)) (c.answer_through.ensures ∙ sym asked) (c.write_text-in-Through.ensures.part)

pub returns-in-Intervals-clause-written : goal.returns-in-Intervals-clause-written
unfolding query_text
returns-in-Intervals-clause-written g c =
    let theory = c.args.engine.now.theory in
    let events = c.args.engine.now.events in
    let asked = ap (λ (q : Query g.row.T.Denot). query_text (record { theory = theory; spelt = g.T.Moment.spelt; canon = g.T.Moment.canon }) events (plain_query g.T.Moment.rank q)) c.in-Intervals.is in
    subst (λ (text : List ℕ). OnOk c.intervals.result (Appended g.K.Sink.stands c.args.out.now c.intervals.new.out text)) (sym asked) (c.intervals.ensures.written theory events c.held.ensures.held)

pub returns-in-Intervals-clause-part : goal.returns-in-Intervals-clause-part
unfolding query_text
returns-in-Intervals-clause-part g c =
    let theory = c.args.engine.now.theory in
    let events = c.args.engine.now.events in
    let asked = ap (λ (q : Query g.row.T.Denot). query_text (record { theory = theory; spelt = g.T.Moment.spelt; canon = g.T.Moment.canon }) events (plain_query g.T.Moment.rank q)) c.in-Intervals.is in
    subst (λ (text : List ℕ). OnErr c.intervals.result (AppendedPart g.K.Sink.stands c.args.out.now c.intervals.new.out text)) (sym asked) (c.intervals.ensures.part theory events c.held.ensures.held)

pub returns-in-Broken-clause-written : goal.returns-in-Broken-clause-written
unfolding query_text
returns-in-Broken-clause-written g c =
    let theory = c.args.engine.now.theory in
    let events = c.args.engine.now.events in
    let asked = ap (λ (q : Query g.row.T.Denot). query_text (record { theory = theory; spelt = g.T.Moment.spelt; canon = g.T.Moment.canon }) events (plain_query g.T.Moment.rank q)) c.in-Broken.is in
    let told = ap (λ (t : Theory). broken_reply t events g.T.Moment.canon (ground_of c.in-Broken.prop)) (sym c.marked.ensures.theory) in
    let here = subst (λ (t : Theory). AreMarkedOf g.T.Moment.rank t events c.marked.result.props.now c.marked.result.points.now) (sym c.marked.ensures.theory) c.marked.ensures.marked in
    subst (λ (text : List ℕ). OnOk c.broken.result (Appended g.K.Sink.stands c.args.out.now c.broken.new.out text)) (sym (asked ∙ told)) (c.broken.ensures.written events here)

pub returns-in-Broken-clause-part : goal.returns-in-Broken-clause-part
unfolding query_text
returns-in-Broken-clause-part g c =
    let theory = c.args.engine.now.theory in
    let events = c.args.engine.now.events in
    let asked = ap (λ (q : Query g.row.T.Denot). query_text (record { theory = theory; spelt = g.T.Moment.spelt; canon = g.T.Moment.canon }) events (plain_query g.T.Moment.rank q)) c.in-Broken.is in
    let told = ap (λ (t : Theory). broken_reply t events g.T.Moment.canon (ground_of c.in-Broken.prop)) (sym c.marked.ensures.theory) in
    let here = subst (λ (t : Theory). AreMarkedOf g.T.Moment.rank t events c.marked.result.props.now c.marked.result.points.now) (sym c.marked.ensures.theory) c.marked.ensures.marked in
    subst (λ (text : List ℕ). OnErr c.broken.result (AppendedPart g.K.Sink.stands c.args.out.now c.broken.new.out text)) (sym (asked ∙ told)) (c.broken.ensures.part events here)

pub returns-in-At-clause-written : goal.returns-in-At-clause-written
unfolding query_text
returns-in-At-clause-written g c =
    let theory = c.args.engine.now.theory in
    let events = c.args.engine.now.events in
    let asked = ap (λ (q : Query g.row.T.Denot). query_text (record { theory = theory; spelt = g.T.Moment.spelt; canon = g.T.Moment.canon }) events (plain_query g.T.Moment.rank q)) c.in-At.is in
    subst (λ (text : List ℕ). OnOk c.at.result (Appended g.K.Sink.stands c.args.out.now c.at.new.out text)) (sym asked) (c.at.ensures.written theory events c.held-in-At.ensures.held c.held-in-At.ensures.initials)

pub returns-in-At-clause-part : goal.returns-in-At-clause-part
unfolding query_text
returns-in-At-clause-part g c =
    let theory = c.args.engine.now.theory in
    let events = c.args.engine.now.events in
    let asked = ap (λ (q : Query g.row.T.Denot). query_text (record { theory = theory; spelt = g.T.Moment.spelt; canon = g.T.Moment.canon }) events (plain_query g.T.Moment.rank q)) c.in-At.is in
    subst (λ (text : List ℕ). OnErr c.at.result (AppendedPart g.K.Sink.stands c.args.out.now c.at.new.out text)) (sym asked) (c.at.ensures.part theory events c.held-in-At.ensures.held c.held-in-At.ensures.initials)

pub returns-in-Clashes-clause-written : goal.returns-in-Clashes-clause-written
unfolding query_text
returns-in-Clashes-clause-written g c =
    let theory = c.args.engine.now.theory in
    let events = c.args.engine.now.events in
    let asked = ap (λ (q : Query g.row.T.Denot). query_text (record { theory = theory; spelt = g.T.Moment.spelt; canon = g.T.Moment.canon }) events (plain_query g.T.Moment.rank q)) c.in-Clashes.is in
    let told = ap (λ (t : Theory). clashes_reply t events g.T.Moment.canon) (sym c.marked-in-Clashes.ensures.theory) in
    let here = subst (λ (t : Theory). AreMarkedOf g.T.Moment.rank t events c.marked-in-Clashes.result.props.now c.marked-in-Clashes.result.points.now) (sym c.marked-in-Clashes.ensures.theory) c.marked-in-Clashes.ensures.marked in
    subst (λ (text : List ℕ). OnOk c.clashes.result (Appended g.K.Sink.stands c.args.out.now c.clashes.new.out text)) (sym (asked ∙ told)) (c.clashes.ensures.written events here)

pub returns-in-Clashes-clause-part : goal.returns-in-Clashes-clause-part
unfolding query_text
returns-in-Clashes-clause-part g c =
    let theory = c.args.engine.now.theory in
    let events = c.args.engine.now.events in
    let asked = ap (λ (q : Query g.row.T.Denot). query_text (record { theory = theory; spelt = g.T.Moment.spelt; canon = g.T.Moment.canon }) events (plain_query g.T.Moment.rank q)) c.in-Clashes.is in
    let told = ap (λ (t : Theory). clashes_reply t events g.T.Moment.canon) (sym c.marked-in-Clashes.ensures.theory) in
    let here = subst (λ (t : Theory). AreMarkedOf g.T.Moment.rank t events c.marked-in-Clashes.result.props.now c.marked-in-Clashes.result.points.now) (sym c.marked-in-Clashes.ensures.theory) c.marked-in-Clashes.ensures.marked in
    subst (λ (text : List ℕ). OnErr c.clashes.result (AppendedPart g.K.Sink.stands c.args.out.now c.clashes.new.out text)) (sym (asked ∙ told)) (c.clashes.ensures.part events here)

pub returns-in-Events-clause-written : goal.returns-in-Events-clause-written
unfolding query_text
returns-in-Events-clause-written g c =
    let theory = c.args.engine.now.theory in
    let events = c.args.engine.now.events in
    let asked = ap (λ (q : Query g.row.T.Denot). query_text (record { theory = theory; spelt = g.T.Moment.spelt; canon = g.T.Moment.canon }) events (plain_query g.T.Moment.rank q)) c.in-Events.is in
    subst (λ (text : List ℕ). OnOk c.events.result (Appended g.K.Sink.stands c.args.out.now c.events.new.out text)) (sym asked) (c.events.ensures.written events c.parts.ensures.stand.stand.both.caches.events_of)

pub returns-in-Events-clause-part : goal.returns-in-Events-clause-part
unfolding query_text
returns-in-Events-clause-part g c =
    let theory = c.args.engine.now.theory in
    let events = c.args.engine.now.events in
    let asked = ap (λ (q : Query g.row.T.Denot). query_text (record { theory = theory; spelt = g.T.Moment.spelt; canon = g.T.Moment.canon }) events (plain_query g.T.Moment.rank q)) c.in-Events.is in
    subst (λ (text : List ℕ). OnErr c.events.result (AppendedPart g.K.Sink.stands c.args.out.now c.events.new.out text)) (sym asked) (c.events.ensures.part events c.parts.ensures.stand.stand.both.caches.events_of)

pub returns-in-Why-clause-written : goal.returns-in-Why-clause-written
unfolding query_text
returns-in-Why-clause-written g c =
    let theory = c.args.engine.now.theory in
    let events = c.args.engine.now.events in
    let asked = ap (λ (q : Query g.row.T.Denot). query_text (record { theory = theory; spelt = g.T.Moment.spelt; canon = g.T.Moment.canon }) events (plain_query g.T.Moment.rank q)) c.in-Why.is in
    let told = ap (λ (t : Theory). why_reply t events g.T.Moment.canon (ground_of c.in-Why.prop) (g.T.Moment.rank c.in-Why.time)) (sym c.parts-in-Why.ensures.theory) in
    let here = StandForList-standing g.T.Moment.rank theory c.parts-in-Why.result.now.checked events (view_of c.parts-in-Why.result.now) c.parts-in-Why.ensures.theory c.parts-in-Why.ensures.stand in
    subst (λ (text : List ℕ). OnOk c.write_why.result (Appended g.K.Sink.stands c.args.out.now c.write_why.new.out text)) (sym (asked ∙ told)) (c.write_why.ensures.written events here)

pub returns-in-Why-clause-part : goal.returns-in-Why-clause-part
unfolding query_text
returns-in-Why-clause-part g c =
    let theory = c.args.engine.now.theory in
    let events = c.args.engine.now.events in
    let asked = ap (λ (q : Query g.row.T.Denot). query_text (record { theory = theory; spelt = g.T.Moment.spelt; canon = g.T.Moment.canon }) events (plain_query g.T.Moment.rank q)) c.in-Why.is in
    let told = ap (λ (t : Theory). why_reply t events g.T.Moment.canon (ground_of c.in-Why.prop) (g.T.Moment.rank c.in-Why.time)) (sym c.parts-in-Why.ensures.theory) in
    let here = StandForList-standing g.T.Moment.rank theory c.parts-in-Why.result.now.checked events (view_of c.parts-in-Why.result.now) c.parts-in-Why.ensures.theory c.parts-in-Why.ensures.stand in
    subst (λ (text : List ℕ). OnErr c.write_why.result (AppendedPart g.K.Sink.stands c.args.out.now c.write_why.new.out text)) (sym (asked ∙ told)) (c.write_why.ensures.part events here)

pub returns-in-Events-clause-steps : goal.returns-in-Events-clause-steps
unfolding most_query_steps
returns-in-Events-clause-steps g c =
    let asked = ap (λ (q : Query g.row.T.Denot). most_query_steps c.args.engine.now.theory c.args.engine.now.events (plain_query g.T.Moment.rank q)) c.in-Events.is in
    let count = sym (length-map c.parts.result.now.store.events (plain_of g.T.Moment.rank)) ∙ ap (λ (events : List PlainEvent). length events) c.parts.ensures.stand.stand.both.caches.events_of in
    subst (λ (n : ℕ). c.events.new.steps ≤ c.args.steps.now + n) (count ∙ sym asked) c.events.ensures.steps

pub returns-in-Why-clause-steps : goal.returns-in-Why-clause-steps
unfolding most_query_steps
returns-in-Why-clause-steps g c =
    let theory = c.args.engine.now.theory in
    let events = c.args.engine.now.events in
    let p = ground_of c.in-Why.prop in
    let t = g.T.Moment.rank c.in-Why.time in
    let asked = ap (λ (q : Query g.row.T.Denot). most_query_steps theory events (plain_query g.T.Moment.rank q)) c.in-Why.is in
    let told = ap (λ (th : Theory). why_steps th events p t) (sym c.parts-in-Why.ensures.theory) in
    let here = StandForList-standing g.T.Moment.rank theory c.parts-in-Why.result.now.checked events (view_of c.parts-in-Why.result.now) c.parts-in-Why.ensures.theory c.parts-in-Why.ensures.stand in
    subst (λ (n : ℕ). c.write_why.new.steps ≤ c.args.steps.now + n) (sym (asked ∙ told)) (c.write_why.ensures.steps events here)
