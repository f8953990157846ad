-- The group that is written to has lost the property, and all others are what they were.
use Rattle.std.proofs.Common.{◌&&◌, not, cond, sym, ap, ◌∙◌}
use Rattle.std.specs.Prelude.{◌==◌, bytes_eq}
use Rattle.ec_exclusive.specs.Groups.{in_group, group_at}
use Rattle.ec_exclusive.proofs.GroupLemmas.{in_group-taken, in_group-missing}
use Rattle.ec_exclusive.proofs.groups.take_out.Goals as goal

pub returns-in-Ok : goal.returns-in-Ok
returns-in-Ok c = λ k n.
    in_group-taken (group_at c.groups.inside.records) c.groups.inside.slots.items c.groups.invariant (group_at c.take_out_under.new.records) c.in-Ok.slot c.take_out_under.ensures.others
    c.args.key.now c.in-Ok.ensures.found c.take_out_under.ensures.keys c.args.p c.take_out_under.ensures.taken k n
    ∙ ap (λ gs. cond (bytes_eq c.args.key.now k) (not (c.args.p.0 == n) && in_group gs k n) (in_group gs k n)) c.groups.view_is

pub returns-in-Err : goal.returns-in-Err
returns-in-Err c = λ k n.
    ap (λ gs. in_group gs k n) (sym c.groups.view_is)
    ∙ in_group-missing (group_at c.groups.inside.records) c.args.key.now c.args.p c.groups.inside.slots.items c.in-Err.ensures.absent k n
    ∙ ap (λ gs. cond (bytes_eq c.args.key.now k) (not (c.args.p.0 == n) && in_group gs k n) (in_group gs k n)) c.groups.view_is
