-- Each turn copies the interval at the place.
use Rattle.std.proofs.Common.{ℕ, List, Some, ◌∷◌, [], ◌++◌, drop, append_assoc, append-nil, suc, ◌+◌, ◌≡◌, sym, ap, ◌∙◌, arith}
use Rattle.std.specs.Prelude.{slice_get}
use Rattle.std.proofs.Math.ListN.{drop_of_length-le}
use Rattle.ec_lists.proofs.Fronts.{drop-slice_get}
use Rattle.ec_intervals.specs.Table.{members_at}
use Rattle.ec_watch.proofs.tails.copied_from.Goals as goal

-- a member more
copied-next : {X : Type 0} (xs copied after : List X) (i : ℕ) (x : X) → after ≡ copied ++ x ∷ [] → slice_get xs i ≡ Some x → after ++ drop (i + 1) xs ≡ copied ++ drop i xs
copied-next xs copied after i x pushed there =
    let next : suc i ≡ i + 1 = omega arith in
    ap (λ ys. ys ++ drop (i + 1) xs) pushed ∙ append_assoc copied (x ∷ []) (drop (i + 1) xs)
    ∙ ap (λ rest. copied ++ rest) (ap (λ n. x ∷ drop n xs) (sym next) ∙ sym (drop-slice_get xs i x there))

pub returns : goal.returns
returns g c =
    let members = members_at c.args.id.0 c.args.intervals.now in
    c.from_vec.ensures ∙ sym (append-nil c.loop-place.copied.items) ∙ ap (λ rest. c.loop-place.copied.items ++ rest) (sym (drop_of_length-le members (omega (arith, c.loop-place-test.false, c.len-place-end.ensures)))) ∙ c.loop-place.invariant

pub loop-place-preserved : goal.loop-place-preserved
loop-place-preserved g c =
    copied-next (members_at c.args.id.0 c.args.intervals.now) c.loop-place.copied.items c.push.new.self.items c.loop-place.place c.member.result c.in_ok-push.ensures.items c.member.ensures.member ∙ c.loop-place.invariant
