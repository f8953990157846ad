-- What is tallied of some turns, turn by turn.
use Rattle.std.proofs.Common.{◌≡◌, ℕ, ◌+◌, ◌<◌, ◌≤◌, ◌^◌, Bool, true, false, cond, not, ◌&&◌, ◌||◌, List, [], ◌∷◌, length, filter, take, get_or, sym, ap, ◌∙◌, arith, add-one}
use Rattle.std.specs.List.{list_any}
use Rattle.std.proofs.lemmas.List.{length-take-le}
use Rattle.std.proofs.lemmas.List.Filters.{length-filter_more}
use Rattle.std.proofs.lemmas.List.Folds.{list_any-append}
use Rattle.std.proofs.Math.Bool.{or-false}
use Rattle.std.proofs.Math.Seq.{take-suc}
use Rattle.ec_lists.proofs.Booleans.{or_turned}
use Rattle.ec_lists.proofs.Filters.{length-filter_le}
use Rattle.ec_terms.specs.declared.ids.PropId.{PropId}
use Rattle.ec_exclusive.specs.Added.{Added}
use Rattle.ec_revise.specs.declared.settled.Tallied.{Tallied}
use Rattle.ec_revise.specs.declared.tally.Part.{Part}
use Rattle.ec_revise.specs.declared.tally.Part.TheVariants.{Inits, Terms, Clashes}
use Rattle.ec_revise.specs.declared.turn.Turn.{Turn}
use Rattle.ec_revise.specs.TurnCounts.{CountsTurn, IsTallyAt, clashes_at, count_in, counts_of, initiates_at, nothing_tallied, terminates_at}

-- a count of the turns that pass a test goes on by one turn more
counted_more : (test : Turn → Bool) (turns : List Turn) (i : ℕ) (d : Turn) (before after : ℕ) → i < length turns
    → after ≡ before + cond (test (get_or turns i d)) 1 0 → before ≡ length (filter test (take i turns)) → after ≡ length (filter test (take (i + 1) turns))
counted_more test turns i d before after below more done =
    more ∙ ap (λ n. n + cond (test (get_or turns i d)) 1 0) done ∙ sym (length-filter_more test turns i d below)

-- one turn more
pub IsTallyAt-more : (neighbours : List Added) (turns : List Turn) (i : ℕ) (d : Turn) (p : PropId) (before after : Tallied) → i < length turns
    → IsTallyAt neighbours (take i turns) p before → CountsTurn neighbours (get_or turns i d) p before after → IsTallyAt neighbours (take (i + 1) turns) p after
IsTallyAt-more neighbours turns i d p before after below done more = record {
  inits_up = counted_more (λ (turn : Turn). turn.up && initiates_at p turn) turns i d _ _ below more.inits_up done.inits_up;
  terms_up = counted_more (λ (turn : Turn). turn.up && terminates_at p turn) turns i d _ _ below more.terms_up done.terms_up;
  clashes_up = counted_more (λ (turn : Turn). turn.up && clashes_at neighbours p turn) turns i d _ _ below more.clashes_up done.clashes_up;
  inits_down = counted_more (λ (turn : Turn). not turn.up && initiates_at p turn) turns i d _ _ below more.inits_down done.inits_down;
  terms_down = counted_more (λ (turn : Turn). not turn.up && terminates_at p turn) turns i d _ _ below more.terms_down done.terms_down;
  clashes_down = counted_more (λ (turn : Turn). not turn.up && clashes_at neighbours p turn) turns i d _ _ below more.clashes_down done.clashes_down;
}

-- of no turns nothing is tallied
pub IsTallyAt-none : (neighbours : List Added) (p : PropId) (tallied : Tallied) → tallied ≡ nothing_tallied → IsTallyAt neighbours [] p tallied
IsTallyAt-none neighbours p tallied is = record {
  inits_up = ap (λ (t : Tallied). t.up.inits) is;
  terms_up = ap (λ (t : Tallied). t.up.terms) is;
  clashes_up = ap (λ (t : Tallied). t.up.clashes) is;
  inits_down = ap (λ (t : Tallied). t.down.inits) is;
  terms_down = ap (λ (t : Tallied). t.down.terms) is;
  clashes_down = ap (λ (t : Tallied). t.down.clashes) is;
}

at_most : (m n k : ℕ) → m ≡ n → n ≤ k → m ≤ k
at_most m n k same within = omega arith

-- each count is at most the number of turns
pub count_in-few : (neighbours : List Added) (turns : List Turn) (p : PropId) (tallied : Tallied) (part : Part) (up : Bool) → IsTallyAt neighbours turns p tallied
    → count_in part (counts_of up tallied) ≤ length turns
count_in-few neighbours turns p tallied Inits true is = at_most _ _ _ is.inits_up (length-filter_le (λ (turn : Turn). turn.up && initiates_at p turn) turns)
count_in-few neighbours turns p tallied Terms true is = at_most _ _ _ is.terms_up (length-filter_le (λ (turn : Turn). turn.up && terminates_at p turn) turns)
count_in-few neighbours turns p tallied Clashes true is = at_most _ _ _ is.clashes_up (length-filter_le (λ (turn : Turn). turn.up && clashes_at neighbours p turn) turns)
count_in-few neighbours turns p tallied Inits false is = at_most _ _ _ is.inits_down (length-filter_le (λ (turn : Turn). not turn.up && initiates_at p turn) turns)
count_in-few neighbours turns p tallied Terms false is = at_most _ _ _ is.terms_down (length-filter_le (λ (turn : Turn). not turn.up && terminates_at p turn) turns)
count_in-few neighbours turns p tallied Clashes false is = at_most _ _ _ is.clashes_down (length-filter_le (λ (turn : Turn). not turn.up && clashes_at neighbours p turn) turns)

-- so one more still fits
pub count_in-fits : (neighbours : List Added) (turns : List Turn) (i : ℕ) (p : PropId) (tallied : Tallied) (part : Part) (up : Bool) → i < length turns → length turns < 2 ^ 32
    → IsTallyAt neighbours (take i turns) p tallied → count_in part (counts_of up tallied) + 1 < 2 ^ 32
count_in-fits neighbours turns i p tallied part up below few is =
    let within : i ≤ length turns = omega arith in
    let some = count_in-few neighbours (take i turns) p tallied part up is in
    let front = length-take-le i turns within in omega arith

-- what some turn counts for, or was there before, goes on by one turn more
pub list_any-turn_more : (test : Turn → Bool) (turns : List Turn) (i : ℕ) (d : Turn) (rest before after : Bool) → i < length turns
    → after ≡ (test (get_or turns i d) || before) → before ≡ (list_any test (take i turns) || rest) → after ≡ (list_any test (take (i + 1) turns) || rest)
list_any-turn_more test turns i d rest before after below more done =
    more ∙ ap (λ b. test (get_or turns i d) || b) done
    ∙ or_turned (test (get_or turns i d)) (list_any test (take i turns)) rest
    ∙ ap (λ b. b || rest)
    (sym (ap (λ j. list_any test (take j turns)) (add-one i) ∙ ap (list_any test) (take-suc turns i d below) ∙ list_any-append test (take i turns) (get_or turns i d ∷ [])
    ∙ ap (λ b. list_any test (take i turns) || b) (or-false (test (get_or turns i d)))))
