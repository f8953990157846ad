use Rattle.std.proofs.Common.{◌<◌, length, get_or, is_ok, sym, ap, ◌∙◌, arith, false-eqb, true-eqb}
use Rattle.std.proofs.lemmas.Grind.{common_steps}
use Rattle.std.proofs.ResultArms.{chosen}
use Rattle.ec_theory.specs.Tokens.{piece_length}
use Rattle.ec_theory.proofs.PieceEnds.{behind_piece}
use Rattle.ec_theory.proofs.TokenLoop.{taken, cut_start, cut_end, gap_next, token_next, bad_byte, long_name, big_number}
use Rattle.ec_theory.proofs.lexer.tokens.Goals as goal
use Rattle.ec_theory.proofs.lexer.tokens.Goals.{in-Gap, in-Token+in_ok-push-in-Token}

pub loop-rest-init : goal.loop-rest-init
loop-rest-init c = rw c.new-items.ensures.items (cut_start _)

pub split_at-requires : goal.split_at-requires
split_at-requires c =
    let nonempty : 0 < length c.loop-rest.rest.now = omega (arith, false-eqb _ 0 c.loop-rest-test.ensures) in
    let t = taken c.loop-rest.place c.loop-rest.rest.now nonempty in
    omega (arith, c.len.ensures ∙ ap piece_length c.piece_of-piece.ensures, t.size, t.within)

pub returns-in-BadByte-clause-fault : goal.returns-in-BadByte-clause-fault
returns-in-BadByte-clause-fault c =
    let nonempty : 0 < length c.loop-rest.rest.now = omega (arith, false-eqb _ 0 c.loop-rest-test.ensures) in
    bad_byte c.loop-rest.invariant nonempty (sym c.in-BadByte.is ∙ c.piece_of-piece.ensures)

pub returns-in-LongName-clause-fault : goal.returns-in-LongName-clause-fault
returns-in-LongName-clause-fault c =
    let nonempty : 0 < length c.loop-rest.rest.now = omega (arith, false-eqb _ 0 c.loop-rest-test.ensures) in
    long_name c.loop-rest.invariant nonempty (sym c.in-LongName.is ∙ c.piece_of-piece.ensures)

pub returns-in-BigNumber-clause-fault : goal.returns-in-BigNumber-clause-fault
returns-in-BigNumber-clause-fault c =
    let nonempty : 0 < length c.loop-rest.rest.now = omega (arith, false-eqb _ 0 c.loop-rest-test.ensures) in
    big_number c.loop-rest.invariant nonempty (sym c.in-BigNumber.is ∙ c.piece_of-piece.ensures)

pub loop-rest-smaller : goal.loop-rest-smaller
loop-rest-smaller c =
    let nonempty : 0 < length c.loop-rest.rest.now = omega (arith, false-eqb _ 0 c.loop-rest-test.ensures) in
    let t = taken c.loop-rest.place c.loop-rest.rest.now nonempty in
    let size = c.len.ensures ∙ ap piece_length c.piece_of-piece.ensures in
    omega (arith, size, t.size, t.some, t.within, c.split_at.ensures.back_len)

pub loop-rest-preserved : goal.loop-rest-preserved
loop-rest-preserved c =
    let nonempty : 0 < length c.loop-rest.rest.now = omega (arith, false-eqb _ 0 c.loop-rest-test.ensures) in
    let at_place = c.behind-place.ensures ∙ ap (λ n. behind_piece c.loop-rest.place (get_or c.loop-rest.rest.now 0 0) n) c.split_at.ensures.front_len in
    elim c.match-piece.branch [
      | in-Gap w ↦ rw w.items-is (gap_next c.loop-rest.invariant nonempty c.piece_of-piece.ensures c.len.ensures at_place c.split_at.ensures.back _ w.in-Gap.is)
      | in-Token+in_ok-push-in-Token w ↦
          rw (w.items-is, chosen _ _ _ _ w.push.ensures.items (ap is_ok w.in_ok-push-in-Token.was))
          (token_next c.loop-rest.invariant nonempty c.piece_of-piece.ensures c.len.ensures at_place c.split_at.ensures.back _ _ _ w.in-Token.is
          (ap (λ l. record { kind = w.in-Token.kind; text = l; place = c.loop-rest.place }) c.split_at.ensures.front))
    ]

pub returns-clause-ok : goal.returns-clause-ok
returns-clause-ok c = cut_end _ _ _ _ c.loop-rest.invariant (true-eqb _ 0 c.loop-rest-test.ensures)

pub bounds-rest-0 : goal.bounds-rest-0
bounds-rest-0 c = grind (arith, common_steps)

pub behind-place-requires-clause-line : goal.behind-place-requires-clause-line
behind-place-requires-clause-line c = grind (arith, common_steps)
