-- The keys of one declaration more.
use Rattle.std.proofs.Common.{◌≡◌, ◌<◌, ◌&&◌, ◌||◌, false, Bool, List, ℕ, length, get_or, take, sym, ap, ◌∙◌, ◌++◌, arith}
use Rattle.std.proofs.lemmas.Grind.{common_steps}
use Rattle.std.specs.List.{list_any}
use Rattle.std.proofs.lemmas.List.Folds.{list_any-append}
use Rattle.ec_terms.specs.Term.{ground_of}
use Rattle.ec_numbered.specs.PropSet.{has_number}
use Rattle.ec_exclusive.specs.Groups.{in_group}
use Rattle.ec_exclusive.specs.Keys.{key_if_fits, keys_from}
use Rattle.ec_exclusive.specs.Neighbours.{excludes_at}
use Rattle.ec_exclusive.proofs.Joined.{AreJoined-left, AreJoined-right}
use Rattle.ec_exclusive.proofs.KeyLemmas.{keys_from-none, keys_from-more}
use Rattle.ec_exclusive.proofs.search.find_neighbours.Goals as goal

never : (b : Bool) → false ≡ (b && false)
never b = grind arith

joined : (e a b c : Bool) → (((e && a) || (e && b)) || (e && c)) ≡ (e && (a || (b || c)))
joined e a b c = grind arith

pub loop-i-init : goal.loop-i-init
loop-i-init c = λ q.
    let test = excludes_at c.args.theory.now c.args.props.now (ground_of c.args.term.now) q in
    ap (has_number q.0) c.new-found.ensures ∙ never test
    ∙ ap (λ keys. test && list_any (λ key. in_group c.args.groups.now key q.0) keys) (sym (keys_from-none 1 0 (ground_of c.args.term.now) 0))

pub gather_side-requires-clause-joined : goal.gather_side-requires-clause-joined
gather_side-requires-clause-joined c =
    let declarations = c.as_slice-declaration-items.ensures in
    let within : c.loop-i.i < length c.args.theory.now.exclusives = omega (arith, c.loop-i-test.true, ap length declarations) in
    let here : c.declaration-item.result ≡ get_or c.args.theory.now.exclusives c.loop-i.i c.declaration-item.result = rw (← declarations) c.declaration-item.is in
    AreJoined-right c.args.theory.now c.loop-i.i c.declaration-item.result (ground_of c.args.term.now) within here

pub gather_side-requires-in-loop-i-clause-joined : goal.gather_side-requires-in-loop-i-clause-joined
gather_side-requires-in-loop-i-clause-joined c =
    let declarations = c.as_slice-declaration-items.ensures in
    let within : c.loop-i.i < length c.args.theory.now.exclusives = omega (arith, c.loop-i-test.true, ap length declarations) in
    let here : c.declaration-item.result ≡ get_or c.args.theory.now.exclusives c.loop-i.i c.declaration-item.result = rw (← declarations) c.declaration-item.is in
    AreJoined-left c.args.theory.now c.loop-i.i c.declaration-item.result (ground_of c.args.term.now) within here

pub loop-i-preserved : goal.loop-i-preserved
loop-i-preserved c = λ q.
    let declarations = c.as_slice-declaration-items.ensures in
    let within : c.loop-i.i < length c.args.theory.now.exclusives = omega (arith, c.loop-i-test.true, ap length declarations) in
    let here : c.declaration-item.result ≡ get_or c.args.theory.now.exclusives c.loop-i.i c.declaration-item.result = rw (← declarations) c.declaration-item.is in
    let term = ground_of c.args.term.now in
    let test = excludes_at c.args.theory.now c.args.props.now term q in
    let left = key_if_fits c.loop-i.i 1 c.declaration-item.result c.declaration-item.result.left term in
    let right = key_if_fits c.loop-i.i 0 c.declaration-item.result c.declaration-item.result.right term in
    let so_far = keys_from 1 0 0 (take c.loop-i.i c.args.theory.now.exclusives) term in
    let stands : List (List ℕ) → Bool = λ keys. list_any (λ key. in_group c.args.groups.now key q.0) keys in
    c.in_ok-gather_side-2.ensures q
    ∙ ap (λ b. b || (test && stands right)) (c.in_ok-gather_side.ensures q ∙ ap (λ b. b || (test && stands left)) (c.loop-i.invariant q))
    ∙ joined test (stands so_far) (stands left) (stands right)
    ∙ ap (λ b. test && b)
    (ap (λ b. stands so_far || b) (sym (list_any-append (λ key. in_group c.args.groups.now key q.0) left right))
    ∙ sym (list_any-append (λ key. in_group c.args.groups.now key q.0) so_far (left ++ right))
    ∙ ap stands (sym (keys_from-more 1 0 term c.args.theory.now.exclusives c.loop-i.i c.declaration-item.result within here)))

pub returns : goal.returns
returns c = grind (arith, common_steps)
