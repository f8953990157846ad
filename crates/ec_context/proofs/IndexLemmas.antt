-- The index of rules: what is found under a key, and the places under one key more.
use Rattle.std.proofs.Common.{◌≡◌, ℕ, true, false, cond, List, [], ◌∷◌, length, Option, None, Some, Vec, IsSome, is_some, refl, sym, ap, ap₂, ◌∙◌, ⊎_elim}
use Rattle.std.specs.Prelude.{bytes_eq}
use Rattle.std.specs.Map.{lookup}
use Rattle.std.proofs.lemmas.Bool.{and_parts, cases_Bool, eqb-true, false≢true}
use Rattle.std.proofs.lemmas.Slice.Eq.{bytes_eq-Decides}
use Rattle.indexmap.specs.IndexMap.{IndexMap}
use Rattle.ec_terms.specs.declared.theory.Rule.{Rule}
use Rattle.ec_store.specs.ByText.{found_at}
use Rattle.ec_context.specs.RulePlaces.{is_for, listed, places_for}

-- the key of the events that a rule is for
abbrev key_of : Rule → List ℕ
key_of rule = length rule.event.args ∷ rule.event.name

-- a rule for some events has their key
key_of-for : (rule : Rule) (name : List ℕ) (arity : ℕ) → is_for name arity rule ≡ true → key_of rule ≡ arity ∷ name
key_of-for rule name arity same =
    let parts = and_parts _ _ same in
    ap₂ {C = List ℕ} (λ n ns. n ∷ ns) (eqb-true (length rule.event.args) arity parts.1) ((bytes_eq-Decides rule.event.name name).0 parts.0)

-- where no key is, nothing is found
pub found_at-empty : {Z X S : Type 0} (map : IndexMap (Vec ℕ Z) X S) (text : List ℕ) → map.entries ≡ [] → found_at map text ≡ None
found_at-empty {Z} map text empty = ap (lookup (λ (key : Vec ℕ Z). bytes_eq text key.items)) empty

-- what is found
pub listed-found : {Z : Type 0} (found : List ℕ → Option (Vec ℕ Z)) (rules : List Rule) (text : List ℕ) (o : Option (Vec ℕ Z)) (name : List ℕ) (arity : ℕ) →
    listed (found (arity ∷ name)) ≡ places_for name arity rules → text ≡ arity ∷ name → o ≡ found text → listed o ≡ places_for name arity rules
listed-found found rules text o name arity is key there = ap listed (there ∙ ap found key) ∙ is

-- where the rule's key is found, the rule is for no events of which nothing is found
pub is_for-found : {Y : Type 0} (found : List ℕ → Option Y) (rule : Rule) (text : List ℕ) → text ≡ length rule.event.args ∷ rule.event.name → is_some (found text) ≡ true →
    (name : List ℕ) (arity : ℕ) → found (arity ∷ name) ≡ None → is_for name arity rule ≡ false
is_for-found found rule text key there name arity none =
    ⊎_elim (λ same. absurd (false≢true (ap is_some (sym none ∙ ap found (sym (key ∙ key_of-for rule name arity same))) ∙ there))) (λ other. other)
    (cases_Bool (is_for name arity rule))

module _ {Z : Type 0} (old new : List ℕ → Option (Vec ℕ Z)) (rules : List Rule) (rule : Rule) (text : List ℕ) (places : Vec ℕ Z)
    (key : text ≡ length rule.event.args ∷ rule.event.name) (updates : (asked : List ℕ) → new asked ≡ cond (bytes_eq text asked) (Some places) (old asked)) where
  -- under the key the places are found
  here : (asked : List ℕ) → bytes_eq text asked ≡ true → new asked ≡ Some places
  here asked same = updates asked ∙ ap (λ b. cond b (Some places) (old asked)) same

  -- under another what was found
  there : (asked : List ℕ) → bytes_eq text asked ≡ false → new asked ≡ old asked
  there asked other = updates asked ∙ ap (λ b. cond b (Some places) (old asked)) other

  places_for-key : (name : List ℕ) (arity : ℕ) → bytes_eq text (arity ∷ name) ≡ true →
      places_for rule.event.name (length rule.event.args) rules ≡ places_for name arity rules
  places_for-key name arity same =
      let keys : length rule.event.args ∷ rule.event.name ≡ arity ∷ name = sym key ∙ (bytes_eq-Decides text (arity ∷ name)).0 same in
      let names : rule.event.name ≡ name = cc in
      let arities : length rule.event.args ≡ arity = cc in ap₂ (λ (n : List ℕ) (a : ℕ). places_for n a rules) names arities

  -- what is found stays right
  pub exact-added : places.items ≡ places_for rule.event.name (length rule.event.args) rules →
      ((name : List ℕ) (arity : ℕ) → IsSome (old (arity ∷ name)) → listed (old (arity ∷ name)) ≡ places_for name arity rules) →
      (name : List ℕ) (arity : ℕ) → IsSome (new (arity ∷ name)) → listed (new (arity ∷ name)) ≡ places_for name arity rules
  exact-added are exact name arity found =
      ⊎_elim (λ same. ap listed (here (arity ∷ name) same) ∙ are ∙ places_for-key name arity same)
      (λ other. ap listed (there (arity ∷ name) other) ∙ exact name arity (ap is_some (sym (there (arity ∷ name) other)) ∙ found))
      (cases_Bool (bytes_eq text (arity ∷ name)))

  -- where nothing is found, nothing was
  pub none-added : (name : List ℕ) (arity : ℕ) → new (arity ∷ name) ≡ None → old (arity ∷ name) ≡ None
  none-added name arity none =
      ⊎_elim (λ same. let both : None ≡ Some places = sym none ∙ here (arity ∷ name) same in cc)
      (λ other. sym (there (arity ∷ name) other) ∙ none)
      (cases_Bool (bytes_eq text (arity ∷ name)))

  -- and the rule is for no such events
  pub is_for-added : (name : List ℕ) (arity : ℕ) → new (arity ∷ name) ≡ None → is_for name arity rule ≡ false
  is_for-added = is_for-found new rule text key (ap is_some (here text ((bytes_eq-Decides text text).1 refl)))
