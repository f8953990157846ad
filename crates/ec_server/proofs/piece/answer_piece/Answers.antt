-- Each turn serves the bytes up to the next line end.
use Rattle.std.proofs.Common.{◌≡◌, ℕ, List, length, ◌∙◌, refl, subst, inr, arith}
use Rattle.ec_terms.specs.declared.theory.Theory.{Theory}
use Rattle.ec_lines.specs.FeedState.{Advances}
use Rattle.ec_server.specs.Answered.{IsServing}
use Rattle.ec_server.specs.Serving.{IsAt, IsPieceHandled}
use Rattle.ec_server.proofs.PieceSteps.{IsUnderWay-start, IsUnderWay-next, IsUnderWay-stop, IsUnderWay-end, empty_list, go_is_quiet}
use Rattle.ec_files.proofs.StatusCodes.{Rose-since, counted-same, counted-since, quiet-then, second_of_two}
use Rattle.ec_server.proofs.piece.answer_piece.Goals as goal

pub loop-rest-init : goal.loop-rest-init
loop-rest-init g c = record {
  theory = refl;
  under_way = IsUnderWay-start g.K.Sink.stands g.K.Sink.faults (record { theory = c.args.sessions.now.theory; spelt = g.T.Moment.spelt; canon = g.T.Moment.canon }) c.args.piece.now
      c.args.sessions.now.state c.args.feed.now c.args.out.now c.requires;
}

pub loop-rest-preserved : goal.loop-rest-preserved
loop-rest-preserved g c = record {
  theory = c.answer_ready.ensures.theory ∙ c.loop-rest.invariant.theory;
  under_way = IsUnderWay-next g.K.Sink.stands g.K.Sink.faults (record { theory = c.args.sessions.now.theory; spelt = g.T.Moment.spelt; canon = g.T.Moment.canon }) c.args.piece.now
      c.args.sessions.now.state c.args.feed.now c.args.out.now c.loop-rest.rest.now c.push-count.result c.loop-rest.sessions.state c.answer_ready.new.sessions.state
      c.loop-rest.feed c.push-count.new.self c.answer_ready.new.feed c.loop-rest.out c.answer_ready.new.out c.loop-rest.invariant.under_way c.push-count.ensures.stream
      (subst (λ (theory : Theory). (taken longer : List ℕ) (start : _) → IsServing g.K.Sink.stands (record { theory = theory; spelt = g.T.Moment.spelt; canon = g.T.Moment.canon }) taken c.loop-rest.sessions.state start c.loop-rest.out
      → Advances c.push-count.new.self.is_ready c.push-count.new.self taken longer
      → IsAt g.K.Sink.stands (record { theory = theory; spelt = g.T.Moment.spelt; canon = g.T.Moment.canon }) longer c.answer_ready.new.sessions.state c.answer_ready.new.feed start c.answer_ready.new.out)
      c.loop-rest.invariant.theory c.in-Go.ensures.served)
      c.answer_ready.ensures.ready (second_of_two c.in-Go.ensures.quiet go_is_quiet);
}

pub returns-in_default : goal.returns-in_default
returns-in_default g c = record {
  theory = c.answer_ready.ensures.theory ∙ c.loop-rest.invariant.theory;
  served = IsUnderWay-stop g.K.Sink.stands g.K.Sink.faults (record { theory = c.args.sessions.now.theory; spelt = g.T.Moment.spelt; canon = g.T.Moment.canon }) c.args.piece.now
      c.args.sessions.now.state c.args.feed.now c.args.out.now c.answer_ready.result c.loop-rest.rest.now c.push-count.result c.loop-rest.sessions.state c.answer_ready.new.sessions.state
      c.loop-rest.feed c.push-count.new.self c.answer_ready.new.feed c.loop-rest.out c.answer_ready.new.out c.loop-rest.invariant.under_way c.in_default.not-Go c.push-count.ensures.stream
      (subst (λ (theory : Theory). (taken longer : List ℕ) (start : _) → IsServing g.K.Sink.stands (record { theory = theory; spelt = g.T.Moment.spelt; canon = g.T.Moment.canon }) taken c.loop-rest.sessions.state start c.loop-rest.out
      → Advances c.push-count.new.self.is_ready c.push-count.new.self taken longer
      → IsPieceHandled g.K.Sink.stands (record { theory = theory; spelt = g.T.Moment.spelt; canon = g.T.Moment.canon }) c.answer_ready.result longer c.answer_ready.new.sessions.state c.answer_ready.new.feed start c.answer_ready.new.out)
      c.loop-rest.invariant.theory c.answer_ready.ensures.served);
  ready = c.answer_ready.ensures.ready;
  failed = λ fault. Rose-since c.loop-rest.invariant.under_way.quiet (c.answer_ready.ensures.failed fault);
  quiet = quiet-then c.loop-rest.invariant.under_way.quiet c.answer_ready.ensures.quiet;
  counted = counted-since c.loop-rest.invariant.under_way.quiet c.answer_ready.ensures.counted;
}

pub returns : goal.returns
returns g c =
    let none : length c.loop-rest.rest.now ≡ 0 = grind (arith, c.is_empty.ensures, c.loop-rest-test.false) in
    record {
      theory = c.loop-rest.invariant.theory;
      served = IsUnderWay-end g.K.Sink.stands g.K.Sink.faults (record { theory = c.args.sessions.now.theory; spelt = g.T.Moment.spelt; canon = g.T.Moment.canon }) c.args.piece.now
          c.args.sessions.now.state c.args.feed.now c.args.out.now c.loop-rest.rest.now c.loop-rest.sessions.state c.loop-rest.feed c.loop-rest.out c.loop-rest.invariant.under_way (empty_list c.loop-rest.rest.now none);
      ready = c.loop-rest.invariant.under_way.ready;
      failed = λ same. absurd (go_is_quiet same);
      quiet = inr c.loop-rest.invariant.under_way.quiet;
      counted = counted-same c.loop-rest.invariant.under_way.quiet;
    }
