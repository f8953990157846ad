-- One word more is pushed.
use Rattle.std.proofs.Common.{◌+◌, ◌++◌, [], ◌∷◌, map, drop, sym, ap, ◌∙◌, append_assoc}
use Rattle.std.proofs.lemmas.Option.{get_or_from_slice_get, slice_get_within}
use Rattle.ec_sweep.specs.Words.{flip_of}
use Rattle.ec_sweep.proofs.Turning.{drop-next}
use Rattle.ec_sweep.proofs.look_hits.push_flips.Goals as goal

pub loop-i-preserved : goal.loop-i-preserved
loop-i-preserved c =
    c.loop-i.invariant
    ∙ ap (λ fs. c.loop-i.flips ++ fs)
    (drop-next (map flip_of c.args.words.now) c.loop-i.i c.row.result (slice_get_within (map flip_of c.args.words.now) c.loop-i.i c.row.result c.row.ensures)
    (sym (get_or_from_slice_get (map flip_of c.args.words.now) c.loop-i.i c.row.result c.row.result c.row.ensures)))
    ∙ sym (append_assoc c.loop-i.flips (c.row.result ∷ []) (drop (c.loop-i.i + 1) (map flip_of c.args.words.now)))
    ∙ ap (λ fs. fs ++ drop (c.loop-i.i + 1) (map flip_of c.args.words.now)) (sym c.in_ok-push.ensures.ok)
