-- The event has a line where it has bits.
use Rattle.std.proofs.Common.{◌≡◌, true, false, [], ◌∷◌, length, refl, sym, ap, ap₂, subst, ◌++◌, ◌∙◌, arith}
use Rattle.std.specs.Prelude.{◌==◌}
use Rattle.ec_axioms.specs.Events.{event_of}
use Rattle.ec_pass.specs.Written.{IsWritten, line_of}
use Rattle.ec_pass.proofs.WritingLemmas.{IsWritten-line, IsWritten-none}
use Rattle.ec_pass.proofs.finding.take_next.Goals as goal

pub returns-in_ok-add_line-clause-written : goal.returns-in_ok-add_line-clause-written
returns-in_ok-add_line-clause-written g c events done left q passing is written =
    let e = event_of g.T.Moment.rank c.args.event.now in
    let some : c.is_empty.result ≡ false = let filled = c.if-not-is_empty.true in grind arith in
    subst (λ a. IsWritten c.args.rules.now events (done ++ e ∷ []) g.T.Moment.canon q (g.T.Moment.rank a) c.add_line.new.self) (sym c.in_ok-meet.ensures.at)
    (IsWritten-line c.args.rules.now events done g.T.Moment.canon q (g.T.Moment.rank c.args.pass.now.at) e c.meet.new.bits.items (c.in_ok-meet.ensures.bits events done left q passing is)
    c.args.label.now c.add_line.new.self written (sym some ∙ c.is_empty.ensures ∙ ap (λ bits. length bits == 0) c.as_slice-line.ensures.value)
    (c.in_ok-add_line.ensures.text ∙ ap₂ (λ id bits. c.args.label.now.text.items ++ line_of id bits) c.as_bytes.ensures.bytes c.as_slice-line.ensures.value)
    c.in_ok-add_line.ensures.lines)

pub returns-else-not-is_empty-clause-written : goal.returns-else-not-is_empty-clause-written
returns-else-not-is_empty-clause-written g c events done left q passing is written =
    let e = event_of g.T.Moment.rank c.args.event.now in
    let none : c.is_empty.result ≡ true = let filled = c.if-not-is_empty.false in grind arith in
    subst (λ a. IsWritten c.args.rules.now events (done ++ e ∷ []) g.T.Moment.canon q (g.T.Moment.rank a) c.args.label.now) (sym c.in_ok-meet.ensures.at)
    (IsWritten-none c.args.rules.now events done g.T.Moment.canon q (g.T.Moment.rank c.args.pass.now.at) e c.meet.new.bits.items (c.in_ok-meet.ensures.bits events done left q passing is)
    c.args.label.now c.args.label.now written (sym none ∙ c.is_empty.ensures ∙ ap (λ bits. length bits == 0) c.as_slice-line.ensures.value) refl refl)
