-- Each argument comes behind its mark, and the `)` behind the last.
use Rattle.std.proofs.Common.{◌≤◌, ℕ, true, ◌≡◌, ◌++◌, ◌∷◌, ◌∙◌, ◌+◌, pos, refl, length-append, [], List, ap, sym, subst, arith, length, map, take, get_or}
use Rattle.std.proofs.lemmas.Grind.{common_steps}
use Rattle.std.proofs.lemmas.List.{take_all, length-map}
use Rattle.std.specs.List.{list_all}
use Rattle.ec_terms.specs.declared.limits.TheConstants.{MOST_ARGS}
use Rattle.ec_terms.specs.declared.ground.ArgRef.{ArgRef}
use Rattle.ec_terms.specs.declared.ground.ArgRef.TheVariants.{Int}
use Rattle.ec_terms.specs.Term.{arg_of, is_argument, names_are_names, term_value}
use Rattle.ec_terms.specs.TextLaws.{has_size, IsTerm}
use Rattle.ec_terms.proofs.ReadBack.{read_back}
use Rattle.ec_terms.proofs.Names.{is_name-short}
use Rattle.ec_terms.proofs.Texts.{IsAscii-from_name, names-name, names-args, taken-push, text-first, text-more, mark-more, sizes-more, IsTerm-from, text-plain, text-closed}
use Rattle.ec_terms.proofs.term_text.text.Goals as goal
use Rattle.ec_lists.proofs.Tests.{list_all-map_get_or}

-- when the loop has gone through them, each argument was written
whole_term : (name : List ℕ) (items : List ArgRef) (i : ℕ) (slice : List ArgRef) → slice ≡ items → length items ≤ MOST_ARGS →
    names_are_names (record { name = name; args = map arg_of items }) ≡ true → length slice ≤ i →
    list_all has_size (map arg_of (take i items)) ≡ true → IsTerm (record { name = name; args = map arg_of items })
whole_term name items i slice same few names done sizes =
    let count = ap length same in
    IsTerm-from name (map arg_of items) names (rw length-map few)
    (ap (λ (xs : List ArgRef). list_all has_size (map arg_of xs)) (sym (take_all i items (omega arith))) ∙ sizes)

pub push_bytes-requires-clause-ascii : goal.push_bytes-requires-clause-ascii
push_bytes-requires-clause-ascii c = IsAscii-from_name _ (names-name _ _ c.requires)

pub push_bytes-requires-clause-room : goal.push_bytes-requires-clause-room
push_bytes-requires-clause-room c =
    let short = is_name-short _ (names-name _ _ c.requires) in
    let empty = ap length c.new-text.ensures in
    omega arith

pub loop-arg-init : goal.loop-arg-init
loop-arg-init c =
    let short = is_name-short _ (names-name _ _ c.requires) in
    let text = text-first _ _ _ c.new-text.ensures c.push_bytes.ensures in
    let plain = c.push_bytes.ensures ∙ ap (λ t. t ++ c.args.term.now.name.now) c.new-text.ensures in
    let grown = ap length plain in
    record { so_far = text; mark = refl; sizes = refl; short = omega arith }

pub push_arg-requires-clause-name : goal.push_arg-requires-clause-name
push_arg-requires-clause-name c =
    let items = c.as_slice-arg-items.ensures.items in
    list_all-map_get_or is_argument arg_of c.as_slice-arg-items.result.now c.loop-arg.arg-index _
    (ap (λ (xs : List ArgRef). list_all is_argument (map arg_of xs)) items ∙ names-args _ _ c.requires) c.loop-arg-test.true

pub loop-arg-preserved : goal.loop-arg-preserved
loop-arg-preserved c =
    let items = c.as_slice-arg-items.ensures.items in
    let more = subst (λ (xs : List ArgRef). map arg_of (take (c.loop-arg.arg-index + 1) xs) ≡ map arg_of (take c.loop-arg.arg-index xs) ++ arg_of (get_or c.as_slice-arg-items.result.now c.loop-arg.arg-index (Int (pos 0))) ∷ []) items
    (taken-push c.as_slice-arg-items.result.now c.loop-arg.arg-index (Int (pos 0)) c.loop-arg-test.true) in
    let marked = ap length c.push.ensures in
    let counted = length-append c.loop-arg.text (c.loop-arg.mark ∷ []) in
    record {
      so_far = text-more _ _ _ _ _ _ _ _ c.loop-arg.invariant.so_far c.loop-arg.invariant.mark c.push.ensures c.push_arg.ensures.text more;
      mark = mark-more _ _ _ more;
      sizes = sizes-more _ _ _ more c.loop-arg.invariant.sizes c.push_arg.ensures.size;
      short = omega (arith, c.push_arg.ensures.short, c.loop-arg.invariant.short);
    }

pub returns-then-mark-eq44-clause-exact : goal.returns-then-mark-eq44-clause-exact
returns-then-mark-eq44-clause-exact c =
    let items = c.as_slice-arg-items.ensures.items in
    let whole = take_all c.loop-arg.arg-index c.args.term.now.args (let l = ap length items in omega arith) in
    text-closed _ _ _ _ _ _ c.loop-arg.invariant.so_far c.loop-arg.invariant.mark (ap (map arg_of) whole) c.if-mark-eq44.true c.push-then-mark-eq44.ensures

pub returns-else-mark-eq44-clause-exact : goal.returns-else-mark-eq44-clause-exact
returns-else-mark-eq44-clause-exact c =
    let items = c.as_slice-arg-items.ensures.items in
    let whole = take_all c.loop-arg.arg-index c.args.term.now.args (let l = ap length items in omega arith) in
    text-plain _ _ _ _ _ c.loop-arg.invariant.so_far c.loop-arg.invariant.mark (ap (map arg_of) whole) c.if-mark-eq44.false

pub returns-then-mark-eq44-clause-term : goal.returns-then-mark-eq44-clause-term
returns-then-mark-eq44-clause-term c = whole_term _ _ _ _ c.as_slice-arg-items.ensures.items c.as_slice-arg-items.ensures.few c.requires c.loop-arg-test.false c.loop-arg.invariant.sizes

pub returns-else-mark-eq44-clause-term : goal.returns-else-mark-eq44-clause-term
returns-else-mark-eq44-clause-term c = whole_term _ _ _ _ c.as_slice-arg-items.ensures.items c.as_slice-arg-items.ensures.few c.requires c.loop-arg-test.false c.loop-arg.invariant.sizes

pub returns-then-mark-eq44-clause-spells : goal.returns-then-mark-eq44-clause-spells
returns-then-mark-eq44-clause-spells c = ap term_value (returns-then-mark-eq44-clause-exact c) ∙ read_back _ (returns-then-mark-eq44-clause-term c)

pub returns-else-mark-eq44-clause-spells : goal.returns-else-mark-eq44-clause-spells
returns-else-mark-eq44-clause-spells c = ap term_value (returns-else-mark-eq44-clause-exact c) ∙ read_back _ (returns-else-mark-eq44-clause-term c)

pub push-requires-clause-ascii : goal.push-requires-clause-ascii
push-requires-clause-ascii c = grind (arith, common_steps)

pub returns-then-mark-eq44-clause-short : goal.returns-then-mark-eq44-clause-short
returns-then-mark-eq44-clause-short c = grind (arith, common_steps)

pub push_arg-requires-clause-room : goal.push_arg-requires-clause-room
push_arg-requires-clause-room c = grind (arith, common_steps)

pub push-requires-clause-room : goal.push-requires-clause-room
push-requires-clause-room c = grind (arith, common_steps)

pub push-requires-then-mark-eq44-clause-room : goal.push-requires-then-mark-eq44-clause-room
push-requires-then-mark-eq44-clause-room c = grind (arith, common_steps)
