-- Each turn reads and serves one piece.
use Rattle.std.proofs.Common.{◌≡◌, ◌-◌, ℕ, List, ◌++◌, ◌⊎◌, length, take, ◌∙◌, refl, sym, subst, inl, inr}
use Rattle.ec_terms.specs.declared.theory.Theory.{Theory}
use Rattle.ec_commands.specs.Lines.{lines_of}
use Rattle.ec_outside.proofs.Streams.{NothingAppended-refl, Took-then}
use Rattle.ec_server.specs.declared.input.TheConstants.{PIECE}
use Rattle.ec_server.specs.Answered.{AnswersLines, AnswersPart, BreaksOff, HasQuit}
use Rattle.ec_server.specs.declared.ending.Ending.TheVariants.{End, Quit, WriteFault}
use Rattle.ec_server.specs.Serving.{IsAt}
use Rattle.ec_server.proofs.PartialReplies.{AnswersPart-broken, AnswersPart-so_far}
use Rattle.ec_server.proofs.InputTurns.{IsTaking-start, IsTaking-kept, IsTaking-next, Took-none, Took-same, from_err, from_no_err, less_left, none_within, piece_fits, piece_shorter, piece_size, piece_within, reads_begun, some_left, taken_below, taken_within, unread_kept}
use Rattle.ec_server.proofs.Endings.{IsEnding-broken, IsEnding-last, IsEnding-limit, IsEnding-quit, IsEnding-unread, either_fault}
use Rattle.ec_server.proofs.PieceSteps.{bye_is_quiet, go_is_quiet}
use Rattle.ec_files.proofs.StatusCodes.{Rose-since, quiet-then, second_of_two}
use Rattle.ec_server.proofs.EndingStatuses.{either-no_read_fault, ended_or_broken-no_read_fault, no_read_fault, no_write_fault}
use Rattle.ec_server.proofs.input.serve_input.Goals as goal

pub loop-buffer-init : goal.loop-buffer-init
loop-buffer-init g c = record {
  theory = refl;
  taking = IsTaking-start g.S.Source.left g.K.Sink.stands (record { theory = c.args.sessions.now.theory; spelt = g.T.Moment.spelt; canon = g.T.Moment.canon })
      c.args.limit c.args.input.now c.args.output.now c.args.sessions.now.state c.args.feed.now c.requires.start c.requires.part;
  ready = c.requires.part.not_ready;
  reads = refl;
  writes = refl;
  ended = λ none. none;
  begun = inr (refl, NothingAppended-refl c.args.output.now);
}

pub read_piece-requires : goal.read_piece-requires
read_piece-requires g c = some_left c.loop-buffer.left c.if-left-eq0.false

pub overflow_sub-left : goal.overflow_sub-left
overflow_sub-left g c = c.in-Ok.ensures.within.1

pub slice_bounds-buffer-end : goal.slice_bounds-buffer-end
slice_bounds-buffer-end g c = piece_fits c.in-Ok.count PIECE c.read_piece.new.buffer c.in-Ok.ensures.within.0 c.read_piece.array_long

pub slice_bounds-answer_piece-end : goal.slice_bounds-answer_piece-end
slice_bounds-answer_piece-end g c = sym (piece_size c.in-Ok.count PIECE c.read_piece.new.buffer c.in-Ok.ensures.within.0 c.read_piece.array_long)

pub loop-buffer-smaller : goal.loop-buffer-smaller
loop-buffer-smaller g c = less_left c.in-Ok.count c.loop-buffer.left c.if-count-eq0.false c.in-Ok.ensures.within.1

pub loop-buffer-preserved : goal.loop-buffer-preserved
loop-buffer-preserved g c =
    let piece : List ℕ = take c.in-Ok.count c.read_piece.new.buffer in
    let size : length piece ≡ c.in-Ok.count = piece_size c.in-Ok.count PIECE c.read_piece.new.buffer c.in-Ok.ensures.within.0 c.read_piece.array_long in
    let fine = sym c.is_err.ensures.value ∙ c.if-is_err.false in
    let writes = from_no_err c.flush.result fine c.flush.ensures.quiet ∙ c.loop-buffer.invariant.writes in
    let taking = IsTaking-kept g.S.Source.left g.K.Sink.stands (record { theory = c.args.sessions.now.theory; spelt = g.T.Moment.spelt; canon = g.T.Moment.canon })
    c.args.limit c.args.input.now c.args.output.now c.loop-buffer.left c.loop-buffer.sessions.state c.loop-buffer.feed c.loop-buffer.input c.loop-buffer.output c.flush.new.self
    c.loop-buffer.invariant.taking c.flush.ensures.kept in record {
      theory = c.answer_piece.ensures.theory ∙ c.loop-buffer.invariant.theory;
      taking = IsTaking-next g.S.Source.left g.K.Sink.stands (record { theory = c.args.sessions.now.theory; spelt = g.T.Moment.spelt; canon = g.T.Moment.canon })
          c.args.limit c.args.input.now c.args.output.now c.loop-buffer.left (c.loop-buffer.left - c.in-Ok.count) piece
          c.loop-buffer.sessions.state c.answer_piece.new.sessions.state c.loop-buffer.feed c.answer_piece.new.feed c.loop-buffer.input c.read_piece.new.input c.flush.new.self c.answer_piece.new.out
          taking c.in-Ok.ensures.took (piece_shorter piece c.in-Ok.count c.loop-buffer.left size c.in-Ok.ensures.within.1)
          (subst (λ (theory : Theory). (taken : List ℕ) (start : _) → IsAt g.K.Sink.stands (record { theory = theory; spelt = g.T.Moment.spelt; canon = g.T.Moment.canon }) taken c.loop-buffer.sessions.state c.loop-buffer.feed start c.flush.new.self
          → IsAt g.K.Sink.stands (record { theory = theory; spelt = g.T.Moment.spelt; canon = g.T.Moment.canon }) (taken ++ piece) c.answer_piece.new.sessions.state c.answer_piece.new.feed start c.answer_piece.new.out)
          c.loop-buffer.invariant.theory c.in-Go.ensures.served);
      ready = c.answer_piece.ensures.ready;
      reads = c.in-Ok.ensures.quiet ∙ c.loop-buffer.invariant.reads;
      writes = second_of_two c.in-Go.ensures.quiet go_is_quiet ∙ writes;
      ended = λ none. c.in-Ok.ensures.going (some_left c.in-Ok.count c.if-count-eq0.false) (c.loop-buffer.invariant.ended none);
      begun = inl (reads_begun c.loop-buffer.invariant.begun c.read_piece.ensures.one_more);
    }

pub returns-in-Bye : goal.returns-in-Bye
returns-in-Bye g c =
    let piece : List ℕ = take c.in-Ok.count c.read_piece.new.buffer in
    let size : length piece ≡ c.in-Ok.count = piece_size c.in-Ok.count PIECE c.read_piece.new.buffer c.in-Ok.ensures.within.0 c.read_piece.array_long in
    let fine = sym c.is_err.ensures.value ∙ c.if-is_err.false in
    let writes = from_no_err c.flush.result fine c.flush.ensures.quiet ∙ c.loop-buffer.invariant.writes in
    let quiet = second_of_two c.in-Bye.ensures.quiet bye_is_quiet ∙ writes in
    let taking = IsTaking-kept g.S.Source.left g.K.Sink.stands (record { theory = c.args.sessions.now.theory; spelt = g.T.Moment.spelt; canon = g.T.Moment.canon })
    c.args.limit c.args.input.now c.args.output.now c.loop-buffer.left c.loop-buffer.sessions.state c.loop-buffer.feed c.loop-buffer.input c.loop-buffer.output c.flush.new.self
    c.loop-buffer.invariant.taking c.flush.ensures.kept in record {
      ending = (
        taking.taken ++ piece,
        Took-then taking.took c.in-Ok.ensures.took,
        IsEnding-quit g.K.Sink.stands (record { theory = c.args.sessions.now.theory; spelt = g.T.Moment.spelt; canon = g.T.Moment.canon }) c.hand_on.result c.args.limit (g.S.Source.left c.read_piece.new.input) (taking.taken ++ piece)
            c.args.output.now c.answer_piece.new.out c.hand_on.new.out c.hand_on.ensures.either
            (piece_within taking.taken piece c.in-Ok.count c.loop-buffer.left c.args.limit taking.within size c.in-Ok.ensures.within.1)
            (subst (λ (theory : Theory). (taken : List ℕ) (start : _) → IsAt g.K.Sink.stands (record { theory = theory; spelt = g.T.Moment.spelt; canon = g.T.Moment.canon }) taken c.loop-buffer.sessions.state c.loop-buffer.feed start c.flush.new.self
            → HasQuit g.K.Sink.stands (record { theory = theory; spelt = g.T.Moment.spelt; canon = g.T.Moment.canon }) (taken ++ piece) start c.answer_piece.new.out)
            c.loop-buffer.invariant.theory c.in-Bye.ensures.served taking.taken c.args.output.now taking.at)
            c.hand_on.ensures.kept,
      );
      read_fault = λ same. absurd (either-no_read_fault c.hand_on.ensures.either tt same);
      write_fault = either_fault c.hand_on.result Quit (no_write_fault tt) quiet c.hand_on.ensures.either;
      read_told = inr (c.in-Ok.ensures.quiet ∙ c.loop-buffer.invariant.reads);
      write_told = quiet-then quiet c.hand_on.ensures.quiet;
      handed_on = c.hand_on.ensures.handed_on;
      read_first = λ _. inl (reads_begun c.loop-buffer.invariant.begun c.read_piece.ensures.one_more);
      one_end = λ none. none_within (c.in-Ok.ensures.going (some_left c.in-Ok.count c.if-count-eq0.false) (c.loop-buffer.invariant.ended none));
    }

pub returns-in-WriteFault : goal.returns-in-WriteFault
returns-in-WriteFault g c =
    let piece : List ℕ = take c.in-Ok.count c.read_piece.new.buffer in
    let size : length piece ≡ c.in-Ok.count = piece_size c.in-Ok.count PIECE c.read_piece.new.buffer c.in-Ok.ensures.within.0 c.read_piece.array_long in
    let fine = sym c.is_err.ensures.value ∙ c.if-is_err.false in
    let writes = from_no_err c.flush.result fine c.flush.ensures.quiet ∙ c.loop-buffer.invariant.writes in
    let taking = IsTaking-kept g.S.Source.left g.K.Sink.stands (record { theory = c.args.sessions.now.theory; spelt = g.T.Moment.spelt; canon = g.T.Moment.canon })
    c.args.limit c.args.input.now c.args.output.now c.loop-buffer.left c.loop-buffer.sessions.state c.loop-buffer.feed c.loop-buffer.input c.loop-buffer.output c.flush.new.self
    c.loop-buffer.invariant.taking c.flush.ensures.kept in record {
      ending = (
        taking.taken ++ piece,
        Took-then taking.took c.in-Ok.ensures.took,
        IsEnding-broken g.K.Sink.stands (record { theory = c.args.sessions.now.theory; spelt = g.T.Moment.spelt; canon = g.T.Moment.canon }) c.args.limit (g.S.Source.left c.read_piece.new.input) (taking.taken ++ piece)
            c.args.output.now c.answer_piece.new.out (piece_within taking.taken piece c.in-Ok.count c.loop-buffer.left c.args.limit taking.within size c.in-Ok.ensures.within.1)
            (AnswersPart-broken (subst (λ (theory : Theory). (taken : List ℕ) (start : _) → IsAt g.K.Sink.stands (record { theory = theory; spelt = g.T.Moment.spelt; canon = g.T.Moment.canon }) taken c.loop-buffer.sessions.state c.loop-buffer.feed start c.flush.new.self
            → BreaksOff g.K.Sink.stands (record { theory = theory; spelt = g.T.Moment.spelt; canon = g.T.Moment.canon }) (taken ++ piece) start c.answer_piece.new.out)
            c.loop-buffer.invariant.theory c.in-WriteFault.ensures.served taking.taken c.args.output.now taking.at)),
      );
      read_fault = λ same. absurd (no_read_fault tt same);
      write_fault = λ same. Rose-since writes (c.in-WriteFault.ensures.failed refl);
      read_told = inr (c.in-Ok.ensures.quiet ∙ c.loop-buffer.invariant.reads);
      write_told = inl refl;
      handed_on = inl refl;
      read_first = λ _. inl (reads_begun c.loop-buffer.invariant.begun c.read_piece.ensures.one_more);
      one_end = λ none. none_within (c.in-Ok.ensures.going (some_left c.in-Ok.count c.if-count-eq0.false) (c.loop-buffer.invariant.ended none));
    }

pub returns-then-is_err : goal.returns-then-is_err
returns-then-is_err g c =
    let taking = IsTaking-kept g.S.Source.left g.K.Sink.stands (record { theory = c.args.sessions.now.theory; spelt = g.T.Moment.spelt; canon = g.T.Moment.canon })
    c.args.limit c.args.input.now c.args.output.now c.loop-buffer.left c.loop-buffer.sessions.state c.loop-buffer.feed c.loop-buffer.input c.loop-buffer.output c.flush.new.self
    c.loop-buffer.invariant.taking c.flush.ensures.kept in record {
      ending = (
        taking.taken,
        taking.took,
        IsEnding-broken g.K.Sink.stands (record { theory = c.args.sessions.now.theory; spelt = g.T.Moment.spelt; canon = g.T.Moment.canon }) c.args.limit (g.S.Source.left c.loop-buffer.input) taking.taken
            c.args.output.now c.flush.new.self (taken_within taking.taken c.loop-buffer.left c.args.limit taking.within) (AnswersPart-so_far taking.at.serving),
      );
      read_fault = λ same. absurd (no_read_fault tt same);
      write_fault = λ same. Rose-since c.loop-buffer.invariant.writes (from_err c.flush.result (sym c.is_err.ensures.value ∙ c.if-is_err.true) c.flush.ensures.failed);
      read_told = inr c.loop-buffer.invariant.reads;
      write_told = inl refl;
      handed_on = inl refl;
      read_first = λ _. unread_kept c.loop-buffer.invariant.begun c.flush.ensures.kept;
      one_end = λ none. none_within (c.loop-buffer.invariant.ended none);
    }

pub returns-then-left-eq0 : goal.returns-then-left-eq0
returns-then-left-eq0 g c =
    let fine = sym c.is_err.ensures.value ∙ c.if-is_err.false in
    let taking = IsTaking-kept g.S.Source.left g.K.Sink.stands (record { theory = c.args.sessions.now.theory; spelt = g.T.Moment.spelt; canon = g.T.Moment.canon })
    c.args.limit c.args.input.now c.args.output.now c.loop-buffer.left c.loop-buffer.sessions.state c.loop-buffer.feed c.loop-buffer.input c.loop-buffer.output c.flush.new.self
    c.loop-buffer.invariant.taking c.flush.ensures.kept in record {
      ending = (
        taking.taken,
        taking.took,
        IsEnding-limit g.K.Sink.stands (record { theory = c.args.sessions.now.theory; spelt = g.T.Moment.spelt; canon = g.T.Moment.canon }) c.args.limit c.loop-buffer.left (g.S.Source.left c.loop-buffer.input) taking.taken c.loop-buffer.sessions.state
            c.args.output.now c.flush.new.self taking.within c.if-left-eq0.true taking.at.serving,
      );
      read_fault = λ same. absurd (no_read_fault tt same);
      write_fault = λ same. absurd (no_write_fault tt same);
      read_told = inr c.loop-buffer.invariant.reads;
      write_told = inr (from_no_err c.flush.result fine c.flush.ensures.quiet ∙ c.loop-buffer.invariant.writes);
      handed_on = inr (from_no_err c.flush.result fine c.flush.ensures.handed_on);
      read_first = λ same. absurd (no_write_fault tt same);
      one_end = λ none. none_within (c.loop-buffer.invariant.ended none);
    }

pub returns-in_default : goal.returns-in_default
returns-in_default g c =
    let fine = sym c.is_err.ensures.value ∙ c.if-is_err.false in
    let taking = IsTaking-kept g.S.Source.left g.K.Sink.stands (record { theory = c.args.sessions.now.theory; spelt = g.T.Moment.spelt; canon = g.T.Moment.canon })
    c.args.limit c.args.input.now c.args.output.now c.loop-buffer.left c.loop-buffer.sessions.state c.loop-buffer.feed c.loop-buffer.input c.loop-buffer.output c.flush.new.self
    c.loop-buffer.invariant.taking c.flush.ensures.kept in record {
      ending = (
        taking.taken,
        Took-same c.in_default.ensures.unchanged taking.took,
        IsEnding-unread g.K.Sink.stands (record { theory = c.args.sessions.now.theory; spelt = g.T.Moment.spelt; canon = g.T.Moment.canon }) c.args.limit c.loop-buffer.left (g.S.Source.left c.read_piece.new.input) taking.taken c.loop-buffer.sessions.state
            c.args.output.now c.flush.new.self taking.within taking.at.serving,
      );
      read_fault = λ same. Rose-since c.loop-buffer.invariant.reads c.in_default.ensures.failed;
      write_fault = λ same. absurd (no_write_fault tt same);
      read_told = inl refl;
      write_told = inr (from_no_err c.flush.result fine c.flush.ensures.quiet ∙ c.loop-buffer.invariant.writes);
      handed_on = inr (from_no_err c.flush.result fine c.flush.ensures.handed_on);
      read_first = λ same. absurd (no_write_fault tt same);
      one_end = λ none. c.read_piece.ensures.one_end (c.loop-buffer.invariant.ended none);
    }

pub returns-then-count-eq0 : goal.returns-then-count-eq0
returns-then-count-eq0 g c =
    let fine = sym c.is_err.ensures.value ∙ c.if-is_err.false in
    let writes = from_no_err c.flush.result fine c.flush.ensures.quiet ∙ c.loop-buffer.invariant.writes in
    let taking = IsTaking-kept g.S.Source.left g.K.Sink.stands (record { theory = c.args.sessions.now.theory; spelt = g.T.Moment.spelt; canon = g.T.Moment.canon })
    c.args.limit c.args.input.now c.args.output.now c.loop-buffer.left c.loop-buffer.sessions.state c.loop-buffer.feed c.loop-buffer.input c.loop-buffer.output c.flush.new.self
    c.loop-buffer.invariant.taking c.flush.ensures.kept in record {
      ending = (
        taking.taken,
        Took-none c.read_piece.new.buffer c.in-Ok.count taking.took c.in-Ok.ensures.took c.if-count-eq0.true,
        IsEnding-last g.K.Sink.stands (record { theory = c.args.sessions.now.theory; spelt = g.T.Moment.spelt; canon = g.T.Moment.canon }) c.finish.result c.args.limit (g.S.Source.left c.read_piece.new.input) taking.taken
            c.args.output.now c.finish.new.out (c.in-Ok.ensures.end c.if-count-eq0.true) (taken_below taking.taken c.loop-buffer.left c.args.limit taking.within c.if-left-eq0.false)
            (subst (λ (theory : Theory). (taken : List ℕ) (start : _) → IsAt g.K.Sink.stands (record { theory = theory; spelt = g.T.Moment.spelt; canon = g.T.Moment.canon }) taken c.loop-buffer.sessions.state c.loop-buffer.feed start c.flush.new.self
            → ((c.finish.result ≡ End) × AnswersLines g.K.Sink.stands (record { theory = theory; spelt = g.T.Moment.spelt; canon = g.T.Moment.canon }) (lines_of taken) start c.finish.new.out)
            ⊎ ((c.finish.result ≡ WriteFault) × AnswersPart g.K.Sink.stands (record { theory = theory; spelt = g.T.Moment.spelt; canon = g.T.Moment.canon }) (lines_of taken) start c.finish.new.out))
            c.loop-buffer.invariant.theory c.finish.ensures.answered taking.taken c.args.output.now taking.at),
      );
      read_fault = λ same. absurd (ended_or_broken-no_read_fault c.finish.ensures.either same);
      write_fault = λ fault. Rose-since writes (c.finish.ensures.failed fault);
      read_told = inr (c.in-Ok.ensures.quiet ∙ c.loop-buffer.invariant.reads);
      write_told = quiet-then writes c.finish.ensures.quiet;
      handed_on = c.finish.ensures.handed_on;
      read_first = λ _. inl (reads_begun c.loop-buffer.invariant.begun c.read_piece.ensures.one_more);
      one_end = λ none. c.read_piece.ensures.one_end (c.loop-buffer.invariant.ended none);
    }
