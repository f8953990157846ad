use Rattle.std.proofs.Common.{◌≡◌, true, false}
use Rattle.std.specs.Ordering.{is_ne}
use Rattle.std.specs.Cmp.Lexicographic.{slice_cmp}
use Rattle.ec_terms.specs.contracts.ground.ArgRefOrd.TheImpl.{cmp-value}
use Rattle.ec_terms.proofs.OrderLemmas.{term_cmp-ground_of, then-decided, then-left_open}
use Rattle.ec_terms.proofs.term_order.order.Goals as goal

pub returns-then-is_ne : goal.returns-then-is_ne
returns-then-is_ne c =
    let first = c.then-first.ensures in
    let names = c.cmp.ensures in
    let lengths = c.cmp-2.ensures in
    let lefts = c.as_slice-left_args.ensures.items in
    let rights = c.as_slice-right_args.ensures.items in
    let whole = term_cmp-ground_of c.args.left.now c.args.right.now in
    let differs : is_ne c.then-first.result ≡ true = cc in
    let decided = then-decided c.then-first.result (slice_cmp cmp-value.it c.args.left.now.args c.args.right.now.args) differs in
    cc

pub returns : goal.returns
returns c =
    let first = c.then-first.ensures in
    let names = c.cmp.ensures in
    let lengths = c.cmp-2.ensures in
    let rest = c.cmp-3.ensures in
    let lefts = c.as_slice-left_args.ensures.items in
    let rights = c.as_slice-right_args.ensures.items in
    let whole = term_cmp-ground_of c.args.left.now c.args.right.now in
    let equal : is_ne c.then-first.result ≡ false = cc in
    let left_open = then-left_open c.then-first.result c.cmp-3.result equal in
    cc
