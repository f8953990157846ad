-- Each line leads on, or is the first that is refused; at the end no line is left.
use Rattle.std.proofs.Common.{◌≡◌, ◌+◌, ◌≤◌, ◌<◌, ℕ, List, [], ◌∷◌, length, sym, ap, subst, ◌∙◌, arith}
use Rattle.std.specs.Prelude.{Ok, Result}
use Rattle.ec_axioms.specs.Calculus.{PlainEvent}
use Rattle.ec_commands.specs.Lines.{lines_of}
use Rattle.ec_replies.specs.Replies.{Language}
use Rattle.ec_lines.specs.declared.line.Line.{Line}
use Rattle.ec_lines.specs.ShownLine.{ShowsLine}
use Rattle.ec_cert.specs.EventFile.{PlacedName, after_line, file_line_of, read_from}
use Rattle.ec_cert.specs.Reading.{EventsSoFar, IsFileFault, IsRefusal}
use Rattle.ec_cert.proofs.FileLines.{file_fault, read_from-nil, read_from-ok}
use Rattle.ec_cert.proofs.event_file.Reading.with_lines.Goals as goal

pub returns-in-Err : goal.returns-in-Err
returns-in-Err g c =
    let language : Language = record { theory = c.args.self.theory; spelt = g.T.Moment.spelt; canon = g.T.Moment.canon } in
    let all = c.args.self.all in
    let number = c.loop-line.number in
    let events = c.loop-line.reading.events in
    let cut = c.in-Some.ensures.line in
    let behind = lines_of c.in-Some.behind.now in
    let shown : ShowsLine c.in-Some.line cut.0 = subst (λ (l : Line). ShowsLine l cut.0) c.in-Some.line-is cut.1 in
    let lines : lines_of c.loop-line.rest.now ≡ cut.0 ∷ behind = cut.2 ∙ ap (λ rest. cut.0 ∷ lines_of rest.now) c.in-Some.behind-is in
    let refused : IsRefusal number (after_line c.args.self.theory all events (file_line_of g.T.Moment.spelt cut.0)) c.in-Err.fault =
    subst (λ (r : EventsSoFar). IsRefusal number (after_line r.theory r.all events (file_line_of g.T.Moment.spelt cut.0)) c.in-Err.fault) c.loop-line.invariant.same (c.in-Err.ensures.goes cut.0 shown) in
    record {
      read = subst (λ (made : Result (List PlainEvent) PlacedName). IsFileFault made c.in-Err.fault)
          (ap (λ (ls : List (List ℕ)). read_from language all number events ls) (sym lines) ∙ c.loop-line.invariant.read) (file_fault language all number events cut.0 behind c.in-Err.fault refused);
    }

pub loop-line-preserved : goal.loop-line-preserved
loop-line-preserved g c =
    let language : Language = record { theory = c.args.self.theory; spelt = g.T.Moment.spelt; canon = g.T.Moment.canon } in
    let all = c.args.self.all in
    let number = c.loop-line.number in
    let events = c.loop-line.reading.events in
    let cut = c.in-Some.ensures.line in
    let behind = lines_of c.in-Some.behind.now in
    let shown : ShowsLine c.in-Some.line cut.0 = subst (λ (l : Line). ShowsLine l cut.0) c.in-Some.line-is cut.1 in
    let lines : lines_of c.loop-line.rest.now ≡ cut.0 ∷ behind = cut.2 ∙ ap (λ rest. cut.0 ∷ lines_of rest.now) c.in-Some.behind-is in
    let shorter : length c.in-Some.behind.now < length c.loop-line.rest.now = subst (λ rest. length rest.now < length c.loop-line.rest.now) c.in-Some.behind-is c.in-Some.ensures.shorter in
    let goes = c.in-Ok.ensures.goes cut.0 shown in
    let made : after_line c.args.self.theory all events (file_line_of g.T.Moment.spelt cut.0) ≡ Ok c.in-Ok.more.events =
    subst (λ (r : EventsSoFar). after_line r.theory r.all events (file_line_of g.T.Moment.spelt cut.0) ≡ Ok c.in-Ok.more.events) c.loop-line.invariant.same goes.0 in
    let count : number + length c.loop-line.rest.now ≤ length c.args.bytes.now + 1 = c.loop-line.invariant.count in
    record {
      count = omega arith;
      same = goes.1 ∙ ap (λ (r : EventsSoFar). (let s : EventsSoFar = record r { events = c.in-Ok.more.events } in s)) c.loop-line.invariant.same;
      read = sym (read_from-ok language all number events c.in-Ok.more.events cut.0 behind made) ∙ ap (λ (ls : List (List ℕ)). read_from language all number events ls) (sym lines) ∙ c.loop-line.invariant.read;
    }

pub returns : goal.returns
returns g c =
    let language : Language = record { theory = c.args.self.theory; spelt = g.T.Moment.spelt; canon = g.T.Moment.canon } in
    let all = c.args.self.all in
    let number = c.loop-line.number in
    let events = c.loop-line.reading.events in
    let none : c.loop-line.rest.now ≡ [] = c.in_default.ensures.none in
    record {
      read = (
        sym c.loop-line.invariant.read ∙ ap (λ (bytes : List ℕ). read_from language all number events (lines_of bytes)) none ∙ read_from-nil language all number events,
        c.loop-line.invariant.same,
      );
    }
