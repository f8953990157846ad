-- What turned of the hits, by numbers and by terms.
use Rattle.std.proofs.Common.{◌≡◌, ℤ, Bool, not, ◌&&◌, List, [], ◌∷◌, ◌++◌, length, map, filter, filter_map, Some, None, IsTrue, refl, sym, ap, ap₂, subst, ◌∙◌, ⊎_elim, arith}
use Rattle.std.specs.Prelude.{option_map, count_by}
use Rattle.std.specs.Bool.{beq}
use Rattle.std.specs.List.{cons_option}
use Rattle.std.proofs.lemmas.Bool.{cases_Bool, cond-true, cond-false}
use Rattle.std.proofs.lemmas.List.{length-map}
use Rattle.std.proofs.lemmas.List.Sums.{length-filter}
use Rattle.ec_lists.proofs.Filters.{filter-filter, filter-map}
use Rattle.ec_axioms.specs.Calculus.{Effect}
use Rattle.ec_context.specs.declared.entry.Entry.{Entry}
use Rattle.ec_context.specs.Activity.{NumberCurrency}
use Rattle.ec_exclusive.specs.Added.{Added, is_added}
use Rattle.ec_store.specs.Table.{KeptProp, term_at}
use Rattle.ec_revise.specs.declared.turn.Turn.{Turn}
use Rattle.ec_revise.specs.ShownTurns.{AreShown, IsShown}
use Rattle.ec_revise.specs.Visit.{PlainTurn, turn_to}
use Rattle.ec_sweep.specs.declared.hits.Hit.{Hit}
use Rattle.ec_sweep.specs.Acting.{acts_at, entry_at, turn_at, turn_of, was_active}
use Rattle.ec_sweep.specs.Hits.{Slots}

-- a turn by number is that of an entry whose head the table keeps and the neighbours have
pub IsShown-entry : (table : List KeptProp) (neighbours : List Added) (up : Bool) (entry : Entry) (effect : Effect) (active : Effect → Bool) → up ≡ active effect
    → entry.kind ≡ effect.entry.kind → term_at entry.head.0 table ≡ Some effect.entry.head → IsTrue (is_added entry.head neighbours)
    → IsShown table neighbours (turn_of up entry) (turn_to active effect)
IsShown-entry table neighbours up entry effect active is kinds head there = record { up = is; kind = kinds; head = head; added = there }

-- turns that are shown one by one have as many up
pub count-up : (table : List KeptProp) (neighbours : List Added) (turns : List Turn) (plains : List PlainTurn) → AreShown table neighbours turns plains
    → length (filter (λ (turn : Turn). turn.up) turns) ≡ length (filter (λ (plain : PlainTurn). plain.up) plains)
count-up table neighbours [] [] are = refl
count-up table neighbours [] (plain ∷ plains) are = absurd are
count-up table neighbours (turn ∷ turns) [] are = absurd are
count-up table neighbours (turn ∷ turns) (plain ∷ plains) are =
    let rest = count-up table neighbours turns plains are.1 in let here = are.0.up in grind arith

-- and as many down
pub count-down : (table : List KeptProp) (neighbours : List Added) (turns : List Turn) (plains : List PlainTurn) → AreShown table neighbours turns plains
    → length (filter (λ (turn : Turn). not turn.up) turns) ≡ length (filter (λ (plain : PlainTurn). not plain.up) plains)
count-down table neighbours [] [] are = refl
count-down table neighbours [] (plain ∷ plains) are = absurd are
count-down table neighbours (turn ∷ turns) [] are = absurd are
count-down table neighbours (turn ∷ turns) (plain ∷ plains) are =
    let rest = count-down table neighbours turns plains are.1 in let here = are.0.up in grind arith

-- the turns of two lists joined
pub AreShown-append : (table : List KeptProp) (neighbours : List Added) (turns more : List Turn) (plains others : List PlainTurn) → AreShown table neighbours turns plains
    → AreShown table neighbours more others → AreShown table neighbours (turns ++ more) (plains ++ others)
AreShown-append table neighbours [] more [] others first second = second
AreShown-append table neighbours [] more (plain ∷ plains) others first second = absurd first
AreShown-append table neighbours (turn ∷ turns) more [] others first second = absurd first
AreShown-append table neighbours (turn ∷ turns) more (plain ∷ plains) others first second = (first.0, AreShown-append table neighbours turns more plains others first.1 second)

-- what is read of a hit is what its effect is
pub record IsReadAs {T : Type 0} (table : List KeptProp) (neighbours : List Added) (current : NumberCurrency) (t : ℤ) (slots : Slots T) (was now : Effect → Bool) (hit : Hit) (effect : Effect) : Type 0 where
  pub entry : Entry
  pub there : entry_at slots hit ≡ Some entry
  pub kind : entry.kind ≡ effect.entry.kind
  pub head : term_at entry.head.0 table ≡ Some effect.entry.head
  pub added : IsTrue (is_added entry.head neighbours)
  pub before : was_active slots hit ≡ was effect
  pub after : acts_at current t slots hit ≡ now effect

-- one by one
abbrev pub AreReadAs : {T : Type 0} → List KeptProp → List Added → NumberCurrency → ℤ → Slots T → (Effect → Bool) → (Effect → Bool) → List Hit → List Effect → Type 0
AreReadAs table neighbours current t slots was now [] [] = Unit {0}
AreReadAs table neighbours current t slots was now [] (effect ∷ effects) = ⊥
AreReadAs table neighbours current t slots was now (hit ∷ hits) [] = ⊥
AreReadAs table neighbours current t slots was now (hit ∷ hits) (effect ∷ effects) =
    IsReadAs table neighbours current t slots was now hit effect × AreReadAs table neighbours current t slots was now hits effects

module _ {T : Type 0} (table : List KeptProp) (neighbours : List Added) (current : NumberCurrency) (t : ℤ) (slots : Slots T) (was now : Effect → Bool) where
  -- the turns of the hits are those of the entries whose activity is not what it was
  pub hit_turns-shown : (hits : List Hit) (effects : List Effect) → AreReadAs table neighbours current t slots was now hits effects
      → AreShown table neighbours (filter_map (turn_at current t slots) hits) (map (turn_to now) (filter (λ effect. not (beq (was effect) (now effect))) effects))
  hit_turns-shown [] [] are = tt
  hit_turns-shown [] (effect ∷ effects) are = absurd are
  hit_turns-shown (hit ∷ hits) [] are = absurd are
  hit_turns-shown (hit ∷ hits) (effect ∷ effects) are =
      let rest = hit_turns-shown hits effects are.1 in
      let tests : beq (was_active slots hit) (acts_at current t slots hit) ≡ beq (was effect) (now effect) = ap₂ beq are.0.before are.0.after in
      let others = filter (λ (e : Effect). not (beq (was e) (now e))) effects in
      ⊎_elim
      (λ same.
      let none : turn_at current t slots hit ≡ None = cond-true (beq (was_active slots hit) (acts_at current t slots hit)) None _ (tests ∙ same) in
      let kept : filter (λ (e : Effect). not (beq (was e) (now e))) (effect ∷ effects) ≡ others = cond-false (not (beq (was effect) (now effect))) (effect ∷ others) others (ap not same) in
      subst (λ o. AreShown table neighbours (cons_option o (filter_map (turn_at current t slots) hits)) (map (turn_to now) (filter (λ e. not (beq (was e) (now e))) (effect ∷ effects)))) (sym none)
      (subst (λ es. AreShown table neighbours (filter_map (turn_at current t slots) hits) (map (turn_to now) es)) (sym kept) rest))
      (λ apart.
      let some : turn_at current t slots hit ≡ Some (turn_of (acts_at current t slots hit) are.0.entry) =
      cond-false (beq (was_active slots hit) (acts_at current t slots hit)) None (option_map (turn_of (acts_at current t slots hit)) (entry_at slots hit)) (tests ∙ apart)
      ∙ ap (option_map (turn_of (acts_at current t slots hit))) are.0.there in
      let kept : filter (λ (e : Effect). not (beq (was e) (now e))) (effect ∷ effects) ≡ effect ∷ others =
      cond-true (not (beq (was effect) (now effect))) (effect ∷ others) others (ap not apart) in
      subst (λ o. AreShown table neighbours (cons_option o (filter_map (turn_at current t slots) hits)) (map (turn_to now) (filter (λ e. not (beq (was e) (now e))) (effect ∷ effects)))) (sym some)
      (subst (λ es. AreShown table neighbours (turn_of (acts_at current t slots hit) are.0.entry ∷ filter_map (turn_at current t slots) hits) (map (turn_to now) es)) (sym kept)
      (IsShown-entry table neighbours (acts_at current t slots hit) are.0.entry effect now are.0.after are.0.kind are.0.head are.0.added, rest)))
      (cases_Bool (beq (was effect) (now effect)))

  -- so many became active, and so many inactive
  pub hits-on : (hits : List Hit) (effects : List Effect) → AreReadAs table neighbours current t slots was now hits effects
      → count_by (λ (turn : Turn). turn.up) (filter_map (turn_at current t slots) hits) ≡ length (filter (λ effect. not (was effect) && now effect) effects)
  hits-on hits effects are =
      sym (length-filter (λ (turn : Turn). turn.up) (filter_map (turn_at current t slots) hits))
      ∙ count-up table neighbours _ _ (hit_turns-shown hits effects are)
      ∙ ap length (filter-map (λ (plain : PlainTurn). plain.up) (turn_to now) (filter (λ effect. not (beq (was effect) (now effect))) effects))
      ∙ length-map _ _
      ∙ ap length (filter-filter now (λ effect. not (beq (was effect) (now effect))) (λ effect. not (was effect) && now effect) effects (λ effect. on (was effect) (now effect)))
    where
      on : (a b : Bool) → (not a && b) ≡ (not (beq a b) && b)
      on a b = grind arith

  pub hits-off : (hits : List Hit) (effects : List Effect) → AreReadAs table neighbours current t slots was now hits effects
      → count_by (λ (turn : Turn). not turn.up) (filter_map (turn_at current t slots) hits) ≡ length (filter (λ effect. was effect && not (now effect)) effects)
  hits-off hits effects are =
      sym (length-filter (λ (turn : Turn). not turn.up) (filter_map (turn_at current t slots) hits))
      ∙ count-down table neighbours _ _ (hit_turns-shown hits effects are)
      ∙ ap length (filter-map (λ (plain : PlainTurn). not plain.up) (turn_to now) (filter (λ effect. not (beq (was effect) (now effect))) effects))
      ∙ length-map _ _
      ∙ ap length
      (filter-filter (λ effect. not (now effect)) (λ effect. not (beq (was effect) (now effect))) (λ effect. was effect && not (now effect)) effects (λ effect. off (was effect) (now effect)))
    where
      off : (a b : Bool) → (a && not b) ≡ (not (beq a b) && not b)
      off a b = grind arith
