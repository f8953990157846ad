-- The places of the rules for some events: one rule more, that a rule stands at each, and where a rule is not for an event.
use Rattle.std.proofs.Common.{◌≡◌, ◌<◌, ◌+◌, ℕ, zero, suc, Bool, true, false, cond, List, [], ◌∷◌, ◌++◌, length, take, get_or, refl, sym, ap, ap₂, ◌∙◌, arith}
use Rattle.std.specs.Prelude.{filter}
use Rattle.std.proofs.lemmas.List.{append-nil, length-take-le, take_more}
use Rattle.ec_terms.specs.declared.ground.Ground.{Ground}
use Rattle.ec_terms.specs.declared.theory.Rule.{Rule}
use Rattle.ec_terms.specs.Matching.{binding_of, fits_some}
use Rattle.ec_terms.proofs.MatchingLemmas.{fits-other_shape}
use Rattle.ec_context.specs.RulePlaces.{ArePlacesFor, is_for, places_from, places_for}

-- ---- one rule more

one_first : (b : Bool) (place : ℕ) (all front back : List ℕ) → all ≡ front ++ back → cond b (place ∷ all) all ≡ cond b (place ∷ front) front ++ back
one_first true place all front back is = ap (λ ps. place ∷ ps) is
one_first false place all front back is = is

-- the places among some rules and others
places_from-append : (place : ℕ) (name : List ℕ) (arity : ℕ) (rules others : List Rule) →
    places_from place name arity (rules ++ others) ≡ places_from place name arity rules ++ places_from (place + length rules) name arity others
unfolding places_from
places_from-append place name arity [] others = ap (λ n. places_from n name arity others) (omega arith)
places_from-append place name arity (r ∷ rules) others =
    one_first (is_for name arity r) place (places_from (place + 1) name arity (rules ++ others)) (places_from (place + 1) name arity rules)
    (places_from (place + length (r ∷ rules)) name arity others)
    (places_from-append (place + 1) name arity rules others
    ∙ ap (λ n. places_from (place + 1) name arity rules ++ places_from n name arity others) (omega arith))

module _ (name : List ℕ) (arity : ℕ) (rules : List Rule) (i : ℕ) (rule : Rule) (within : i < length rules) (here : rule ≡ get_or rules i rule) where
  places_for-more : places_for name arity (take (i + 1) rules) ≡ places_for name arity (take i rules) ++ places_from (0 + length (take i rules)) name arity (rule ∷ [])
  places_for-more =
      ap (places_for name arity) (take_more rules i rule within ∙ ap (λ r. take i rules ++ r ∷ []) (sym here))
      ∙ places_from-append 0 name arity (take i rules) (rule ∷ [])

  -- a rule for such events stands at its place
  pub places_for-met : is_for name arity rule ≡ true → places_for name arity (take (i + 1) rules) ≡ places_for name arity (take i rules) ++ i ∷ []
  unfolding places_from
  places_for-met same =
      let taken = length-take-le i rules (omega (arith, within)) in
      let at : 0 + length (take i rules) ≡ i = omega (arith, taken) in
      places_for-more
      ∙ ap₂ (λ (b : Bool) (n : ℕ). places_for name arity (take i rules) ++ cond b (n ∷ []) []) same at

  -- another rule has no place
  pub places_for-not_met : is_for name arity rule ≡ false → places_for name arity (take (i + 1) rules) ≡ places_for name arity (take i rules)
  unfolding places_from
  places_for-not_met other =
      places_for-more
      ∙ ap (λ b. places_for name arity (take i rules) ++ cond b ((0 + length (take i rules)) ∷ []) []) other
      ∙ append-nil (places_for name arity (take i rules))

pub places_for-none : (name : List ℕ) (arity : ℕ) → places_for name arity [] ≡ []
unfolding places_from
places_for-none name arity = refl

-- ---- a rule stands at each place

as_many_first : (b : Bool) (place : ℕ) (places : List ℕ) (rule : Rule) (rules : List Rule) → length places ≡ length rules →
    length (cond b (place ∷ places) places) ≡ length (cond b (rule ∷ rules) rules)
as_many_first true place places rule rules is = ap suc is
as_many_first false place places rule rules is = is

-- there are as many places as such rules
pub length-places_from : (place : ℕ) (name : List ℕ) (arity : ℕ) (rules : List Rule) →
    length (places_from place name arity rules) ≡ length (filter (is_for name arity) rules)
unfolding places_from
length-places_from place name arity [] = refl
length-places_from place name arity (r ∷ rules) =
    as_many_first (is_for name arity r) place (places_from (place + 1) name arity rules) r (filter (is_for name arity) rules)
    (length-places_from (place + 1) name arity rules)

within_first : (b : Bool) (place count : ℕ) (later : List ℕ) → ((j : ℕ) → j < length later → get_or later j 0 < place + 1 + count) →
    (i : ℕ) → i < length (cond b (place ∷ later) later) → get_or (cond b (place ∷ later) later) i 0 < place + suc count
within_first true place count later are zero within = omega arith
within_first true place count later are (suc i) within = let here = are i (omega (arith, within)) in omega (arith, here)
within_first false place count later are i within = let here = are i within in omega (arith, here)

places_from-within : (place : ℕ) (name : List ℕ) (arity : ℕ) (rules : List Rule) (i : ℕ) → i < length (places_from place name arity rules) →
    get_or (places_from place name arity rules) i 0 < place + length rules
unfolding places_from
places_from-within place name arity [] i within = absurd (omega (arith, within))
places_from-within place name arity (r ∷ rules) i within =
    within_first (is_for name arity r) place (length rules) (places_from (place + 1) name arity rules) (places_from-within (place + 1) name arity rules) i within

-- each place is below the number of rules
pub places-within : (event : Ground) (rules : List Rule) (places : List ℕ) (i : ℕ) → ArePlacesFor event rules places → i < length places →
    get_or places i 0 < length rules
places-within event rules places i are within =
    let same : get_or places i 0 ≡ get_or (places_for event.name (length event.args) rules) i 0 = ap (λ ps. get_or ps i 0) are in
    let as_many = ap length are in
    let below = places_from-within 0 event.name (length event.args) rules i (omega (arith, within, as_many)) in omega (arith, same, below)

-- ---- events

-- a rule for other events does not fit
pub fits_some-not_for : (rule : Rule) (event : Ground) → is_for event.name (length event.args) rule ≡ false → fits_some rule.event event ≡ false
unfolding fits_some
fits_some-not_for rule event other = fits-other_shape (binding_of rule.event event) rule.event event other

-- the places for an event, by its name and its number of arguments
pub ArePlacesFor-named : (event same : Ground) (name : List ℕ) (arity : ℕ) (rules others : List Rule) (places : List ℕ) → places ≡ places_for name arity rules →
    name ≡ same.name → arity ≡ length same.args → event ≡ same → others ≡ rules → ArePlacesFor event others places
ArePlacesFor-named event same name arity rules others places are named counted is theirs =
    are
    ∙ ap₂ (λ (n : List ℕ) (a : ℕ). places_for n a rules) (named ∙ ap (λ (g : Ground). g.name) (sym is)) (counted ∙ ap (λ (g : Ground). length g.args) (sym is))
    ∙ ap (places_for event.name (length event.args)) (sym theirs)
