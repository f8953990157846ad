-- One initial property more.
use Rattle.std.proofs.Common.{◌≡◌, ◌<◌, ◌≤◌, ◌++◌, ◌∷◌, [], get_or, map, take, length, sym, ap, subst, ◌∙◌, arith}
use Rattle.std.proofs.lemmas.List.{map-append, take_all, take_more}
use Rattle.ec_parts.specs.Initials.{initial_term}
use Rattle.ec_pass.specs.Present.{IsFirst}
use Rattle.ec_pass.proofs.present.Present.begin.Goals as goal

pub loop-initial-preserved : goal.loop-initial-preserved
loop-initial-preserved c =
    let items = c.as_slice-initial-items.ensures in
    let initials = c.args.theory.now.initials in
    let i = c.loop-initial.initial-index in
    let within : i < length initials = omega (arith, c.loop-initial-test.true, ap length items) in
    let here : c.initial-item.result ≡ get_or initials i c.initial-item.result = rw (← items) c.initial-item.is in
    subst (λ terms. IsFirst c.args.theory.now terms c.enter_initial.new.self)
    (ap (λ initial. map initial_term (take i initials) ++ initial_term initial ∷ []) here
    ∙ sym (ap (map initial_term) (take_more initials i c.initial-item.result within) ∙ map-append initial_term (take i initials) _))
    (c.in_ok-enter_initial.ensures (map initial_term (take i initials)) c.loop-initial.invariant)

pub returns : goal.returns
returns c =
    let past : length c.args.theory.now.initials ≤ c.loop-initial.initial-index = omega (arith, c.loop-initial-test.false, ap length c.as_slice-initial-items.ensures) in
    subst (λ initials. IsFirst c.args.theory.now (map initial_term initials) c.loop-initial.present)
    (take_all c.loop-initial.initial-index c.args.theory.now.initials past) c.loop-initial.invariant
