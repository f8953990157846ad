-- One entry more is evaluated.
use Rattle.std.proofs.Common.{◌≡◌, ◌<◌, ◌≤◌, ◌+◌, ℕ, Bool, true, false, cond, ◌&&◌, List, length, Some, None, sym, ap, ◌∙◌, ⊎_elim, arith}
use Rattle.std.proofs.lemmas.Grind.{common_steps}
use Rattle.std.specs.Prelude.{◌==◌, nat_lt, slice_get}
use Rattle.std.specs.Option.{option_map_or}
use Rattle.std.proofs.lemmas.Bool.{cases_Bool, eqb-true}
use Rattle.std.proofs.lemmas.Bool.Decides.{nat_tests}
use Rattle.std.proofs.lemmas.Option.{slice_get-get_or, slice_get_past}
use Rattle.std.proofs.Math.Bool.{and-false}
use Rattle.ec_context.specs.declared.entry.Entry.{Entry}
use Rattle.ec_parts.specs.Activity.{is_bit_set}
use Rattle.ec_sweep.specs.Acting.{acts, turn_of}
use Rattle.ec_sweep.proofs.Turning.{map_filter-fail, map_filter-pass}
use Rattle.ec_sweep.proofs.turned.turn_up.Goals as goal
use Rattle.ec_sweep.proofs.turned.turn_up.Goals.{then-evaluate+in_ok-push, else-evaluate}

-- with one place more, the bits are those of the entries up to it
bits_more : (before after k j : ℕ) (now : ℕ → Bool) → ((i : ℕ) → is_bit_set before i ≡ (nat_lt i k && now i))
    → is_bit_set after j ≡ cond (k == j) (now k) (is_bit_set before j) → is_bit_set after j ≡ (nat_lt j (k + 1) && now j)
bits_more before after k j now was is =
    ⊎_elim
    (λ here.
    let same : k ≡ j = eqb-true k j here in
    is ∙ ap (λ b. cond b (now k) (is_bit_set before j)) here ∙ ap now same ∙ ap (λ b. b && now j) (sym (least j k same)))
    (λ apart. is ∙ ap (λ b. cond b (now k) (is_bit_set before j)) apart ∙ was j ∙ ap (λ b. b && now j) (other j k apart))
    (cases_Bool (k == j))
  where
    least : (j k : ℕ) → k ≡ j → nat_lt j (k + 1) ≡ true
    least j k same = grind (arith, nat_tests)

    other : (j k : ℕ) → (k == j) ≡ false → nat_lt j k ≡ nat_lt j (k + 1)
    other j k apart = grind (arith, nat_tests)

-- where the entry at the place is not active, the word stays
kept_bit : (before after k j : ℕ) (now : ℕ → Bool) → ((i : ℕ) → is_bit_set before i ≡ (nat_lt i k && now i)) → now k ≡ false → after ≡ before
    → is_bit_set after j ≡ cond (k == j) (now k) (is_bit_set before j)
kept_bit before after k j now was none same =
    ⊎_elim
    (λ here.
    let place : k ≡ j = eqb-true k j here in
    ap (λ w. is_bit_set w j) same ∙ was j ∙ ap (λ b. nat_lt j k && b) (ap now (sym place) ∙ none) ∙ and-false (nat_lt j k) ∙ sym (ap (λ b. cond b (now k) (is_bit_set before j)) here ∙ none))
    (λ apart. ap (λ w. is_bit_set w j) same ∙ sym (ap (λ b. cond b (now k) (is_bit_set before j)) apart))
    (cases_Bool (k == j))

-- behind the last entry no bit is set
bits_whole : (list : List Entry) (k j : ℕ) (now : Entry → Bool) → length list ≤ k
    → (nat_lt j k && option_map_or now (slice_get list j) false) ≡ option_map_or now (slice_get list j) false
bits_whole list k j now past =
    ⊎_elim
    (λ low. ap (λ b. b && option_map_or now (slice_get list j) false) low)
    (λ high.
    let none : slice_get list j ≡ None = slice_get_past list j (behind j k (length list) past high) in
    ap (λ o. nat_lt j k && option_map_or now o false) none ∙ and-false (nat_lt j k) ∙ sym (ap (λ o. option_map_or now o false) none))
    (cases_Bool (nat_lt j k))
  where
    behind : (j k n : ℕ) → n ≤ k → nat_lt j k ≡ false → n ≤ j
    behind j k n past high = grind (arith, nat_tests)

pub loop-k-preserved : goal.loop-k-preserved
loop-k-preserved g c =
    let now : ℕ → Bool = λ i. option_map_or (acts (g.C.Current.is_current c.args.current.now) (g.T.Moment.rank c.args.at)) (slice_get c.args.list.now i) false in
    let within : c.loop-k.k < length c.args.list.now = omega arith in
    let there : slice_get c.args.list.now c.loop-k.k ≡ Some c.index-list-k.result =
    slice_get-get_or c.args.list.now c.loop-k.k c.index-list-k.result within ∙ ap Some (sym c.index-list-k.is) in
    let acting : now c.loop-k.k ≡ c.evaluate.result =
    ap (λ o. option_map_or (acts (g.C.Current.is_current c.args.current.now) (g.T.Moment.rank c.args.at)) o false) there ∙ sym c.evaluate.ensures.active in
    let counted : c.evaluate.new.steps ≡ c.args.steps.now + (c.loop-k.k + 1) =
    (let more = c.evaluate.ensures.step in let before = c.loop-k.invariant.counted in omega (arith, more, before)) in
    elim c.if-evaluate.branch [
      | then-evaluate+in_ok-push w ↦ record {
        bits = λ j.
            bits_more c.loop-k.word c.if-evaluate.word c.loop-k.k j now c.loop-k.invariant.bits
            (ap (λ b. is_bit_set b j) w.word-is ∙ w.with_bit-word.ensures j ∙ ap (λ b. cond (c.loop-k.k == j) b (is_bit_set c.loop-k.word j)) (sym (acting ∙ w.if-evaluate.true)));
        told =
            map_filter-pass c.args.list.now c.loop-k.k c.index-list-k.result within c.index-list-k.is _ c.loop-k.turns.items
            (acts (g.C.Current.is_current c.args.current.now) (g.T.Moment.rank c.args.at)) (turn_of true) c.if-evaluate.turns.items (sym c.evaluate.ensures.active ∙ w.if-evaluate.true)
            c.loop-k.invariant.told (ap (λ v. v.items) w.turns-is ∙ w.in_ok-push.ensures.items);
        counted = counted;
      }
      | else-evaluate w ↦ record {
        bits = λ j.
            bits_more c.loop-k.word c.if-evaluate.word c.loop-k.k j now c.loop-k.invariant.bits
            (kept_bit c.loop-k.word c.if-evaluate.word c.loop-k.k j now c.loop-k.invariant.bits (acting ∙ w.if-evaluate.false) w.word-is);
        told =
            map_filter-fail c.args.list.now c.loop-k.k c.index-list-k.result within c.index-list-k.is _ c.loop-k.turns.items
            (acts (g.C.Current.is_current c.args.current.now) (g.T.Moment.rank c.args.at)) (turn_of true) c.if-evaluate.turns.items (sym c.evaluate.ensures.active ∙ w.if-evaluate.false)
            c.loop-k.invariant.told (ap (λ v. v.items) w.turns-is);
        counted = counted;
      }
    ]

pub returns-clause-word : goal.returns-clause-word
returns-clause-word g c = λ j.
    c.loop-k.invariant.bits j
    ∙ bits_whole c.args.list.now c.loop-k.k j (acts (g.C.Current.is_current c.args.current.now) (g.T.Moment.rank c.args.at)) (omega arith)

pub returns-clause-turns : goal.returns-clause-turns
returns-clause-turns c = grind (arith, common_steps)

pub with_bit-word-requires : goal.with_bit-word-requires
with_bit-word-requires c = grind (arith, common_steps)

pub returns-in_err-push-clause-most : goal.returns-in_err-push-clause-most
returns-in_err-push-clause-most c = grind (arith, common_steps)
