use Rattle.std.proofs.Common.{ℕ, List, ◌++◌, length, take, ◌+◌, sym, ap, ◌∙◌, subst, arith}
use Rattle.std.proofs.lemmas.List.{length-take-le}
use Rattle.std.proofs.lemmas.Grind.{get_or_default_zero, common_steps}
use Rattle.std.proofs.Math.Seq.{take-length}
use Rattle.std.proofs.lemmas.Bool.{false≢true}
use Rattle.ec_commands.specs.Lines.{line_feed, without_return, cut_of}
use Rattle.ec_lines.specs.FeedState.{IsPart, IsReady, Advances}
use Rattle.ec_lines.proofs.CutLines.{LineEndAt-found, HasNoLineEnd-not_found, HasNoLineEnd-take, take-line, take_through-first, take_through-none}
use Rattle.ec_lines.proofs.FeedLemmas.{IsReady-line_end, Advances-part, Advances-line}
use Rattle.ec_lines.proofs.feed.Feed.push.Goals as goal
use Rattle.ec_lines.proofs.feed.Feed.push.Goals.{After-finish}

-- the line that a line end makes
line_of : (c : After-finish) (bytes : List ℕ) → IsPart c.args.self.now bytes → IsReady c.finish.new.self (without_return (bytes ++ take c.in-Some.at c.args.piece.now))
line_of c bytes part =
    IsReady-line_end c.keep.new.self c.drop_return.new.self c.finish.new.self (bytes ++ take c.in-Some.at c.args.piece.now)
    (c.keep.ensures.part bytes part) c.drop_return.ensures.long c.drop_return.ensures.kept c.finish.ensures.ready c.finish.ensures.long c.finish.ensures.kept

pub returns-in-Some-clause-takes : goal.returns-in-Some-clause-takes
returns-in-Some-clause-takes c =
    let at = LineEndAt-found c.args.piece.now c.in-Some.at c.in-Some.ensures in
    sym (ap length (take_through-first c.args.piece.now c.in-Some.at at) ∙ length-take-le (c.in-Some.at + 1) c.args.piece.now (omega (arith, at.within)))

pub returns-in-Some-clause-line : goal.returns-in-Some-clause-line
returns-in-Some-clause-line c = λ ready bytes part.
    subst (λ (n : ℕ). IsReady c.finish.new.self (without_return (bytes ++ take n c.args.piece.now))) (omega arith) (line_of c bytes part)

pub returns-in-Some-clause-stream : goal.returns-in-Some-clause-stream
returns-in-Some-clause-stream c = λ stream part.
    let at = LineEndAt-found c.args.piece.now c.in-Some.at c.in-Some.ensures in
    subst (λ (taken : List ℕ). Advances c.finish.new.self.is_ready c.finish.new.self stream (stream ++ taken)) (sym (take-line at))
    (Advances-line c.finish.new.self stream (take c.in-Some.at c.args.piece.now) (HasNoLineEnd-take at) (line_of c (cut_of stream).rest part))

pub returns-in-None-clause-takes : goal.returns-in-None-clause-takes
returns-in-None-clause-takes c = sym (ap length (take_through-none c.args.piece.now (HasNoLineEnd-not_found c.args.piece.now c.in-None.ensures)))

pub returns-in-None-clause-ready : goal.returns-in-None-clause-ready
returns-in-None-clause-ready c =
    let none = HasNoLineEnd-not_found c.args.piece.now c.in-None.ensures in (
      λ ready. absurd (false≢true (sym c.keep-in-None.ensures.not_ready ∙ ready)),
      λ found. absurd (none found.0 found.1 (sym (get_or_default_zero c.args.piece.now found.0 line_feed found.1) ∙ found.2)),
    )

pub returns-in-None-clause-stream : goal.returns-in-None-clause-stream
returns-in-None-clause-stream c = λ stream part.
    let none = HasNoLineEnd-not_found c.args.piece.now c.in-None.ensures in
    subst (λ (taken : List ℕ). Advances c.keep-in-None.new.self.is_ready c.keep-in-None.new.self stream (stream ++ taken)) (sym (take-length c.args.piece.now))
    (Advances-part c.keep-in-None.new.self stream c.args.piece.now none (c.keep-in-None.ensures.part (cut_of stream).rest part))

pub returns-in-Some-clause-ready : goal.returns-in-Some-clause-ready
returns-in-Some-clause-ready c = grind (arith, common_steps)
