-- A line end makes a line of what is kept; another byte is kept where there is room.
use Rattle.std.proofs.Common.{◌≡◌, ◌≤◌, ◌∷◌, ◌++◌, [], length, sym, arith, length-append}
use Rattle.std.proofs.lemmas.Bool.{eqb-true}
use Rattle.std.proofs.lemmas.Bool.Decides.{nat_tests}
use Rattle.std.proofs.lemmas.List.{take_all, take_at}
use Rattle.ec_soak.specs.declared.tally_sink.TheConstants.{KEPT}
use Rattle.ec_soak.proofs.TallySteps.{Appended-line_end, Appended-other}
use Rattle.ec_soak.proofs.tally_sink.TallySink.take.Goals as goal

pub returns-then-byte-eq10 : goal.returns-then-byte-eq10
returns-then-byte-eq10 c =
    let line = rw (c.saturating_add-self-inside.ensures, c.as_slice.ensures.value) at c.add_line.ensures in
    rw (← c.self.view_is) (Appended-line_end _ _ c.args.byte c.if-byte-eq10.true line c.clear.ensures)

pub returns-then-not-is_full : goal.returns-then-not-is_full
returns-then-not-is_full c =
    let room : length (c.self.inside.begun.items ++ c.args.byte ∷ []) ≤ KEPT = grind (arith, nat_tests, length-append, c.if-not-is_full.ensures.value, c.if-not-is_full.ensures.fits) in
    rw (← c.self.view_is)
    (Appended-other _ _ c.args.byte c.if-byte-eq10.false (rw c.saturating_add-self-inside.ensures)
    (rw c.push.ensures.items (sym (take_all KEPT (c.self.inside.begun.items ++ c.args.byte ∷ []) room))))

pub returns-else-not-is_full : goal.returns-else-not-is_full
returns-else-not-is_full c =
    let full : length c.self.inside.begun.items ≡ KEPT = eqb-true _ _ (sym c.if-not-is_full.ensures.value) in
    rw (← c.self.view_is)
    (Appended-other _ _ c.args.byte c.if-byte-eq10.false (rw c.saturating_add-self-inside.ensures)
    (sym (take_at c.self.inside.begun.items (c.args.byte ∷ []) KEPT full)))
