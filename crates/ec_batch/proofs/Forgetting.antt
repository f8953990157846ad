-- What is listed is forgotten where nothing mentions it: what is kept then is live.
use Rattle.std.proofs.Common.{◌≡◌, ℕ, ◌+◌, Bool, true, false, cond, ◌||◌, List, [], ◌∷◌, Some, None, is_some, IsSome, IsTrue, refl, sym, ap, ◌∙◌, arith, ◌++◌}
use Rattle.std.specs.Prelude.{option_map, ◌==◌, nat_lt}
use Rattle.std.proofs.lemmas.Bool.{false≢true, eqb-true}
use Rattle.std.proofs.lemmas.List.Folds.{list_any-append}
use Rattle.ec_lists.proofs.Options.{is_some-option_map}
use Rattle.ec_lists.proofs.Tests.{nat_lt-filter}
use Rattle.ec_terms.specs.declared.ids.PropId.{PropId}
use Rattle.ec_terms.specs.declared.ground.Ground.{Ground}
use Rattle.ec_terms.specs.declared.theory.Theory.{Theory}
use Rattle.ec_terms.specs.Domain.{is_initial}
use Rattle.ec_terms.specs.Term.{term_eq}
use Rattle.ec_axioms.specs.Calculus.{PlainEvent}
use Rattle.ec_axioms.specs.Links.{is_live, mentions_of}
use Rattle.ec_numbered.specs.PropSet.{has_number}
use Rattle.ec_store.specs.Table.{KeptProp, mentions_at, prop_at, term_at}
use Rattle.ec_parts.specs.Tables.{AreKept, held_mention, mention_count}

-- what is mentioned is live
live-mentioned : (theory : Theory) (events : List PlainEvent) (t : Ground) → (Some 0 ≡ Some (mention_count theory events t + held_mention theory t) → ⊥) → is_live theory events t ≡ true
unfolding is_live
live-mentioned theory events t some =
    ap (λ b. is_initial theory t || b) (sym (nat_lt-filter (term_eq t) (mentions_of theory events)))
    ∙ one_of (mention_count theory events t) (is_initial theory t) (λ none. some (ap Some none))
  where
    one_of : (n : ℕ) (b : Bool) → (0 ≡ n + cond b 1 0 → ⊥) → (b || nat_lt 0 n) ≡ true
    one_of n true some = refl
    one_of n false some = grind (arith, some)

pub mentions_were : (before after : List KeptProp) → ((q : ℕ) → IsSome (prop_at q after) → prop_at q after ≡ prop_at q before) → (id n : ℕ) → mentions_at id after ≡ Some n → mentions_at id before ≡ Some n
mentions_were before after same id n is =
    ap (option_map (λ (k : KeptProp). k.mentions)) (sym (same id (sym (is_some-option_map (λ (k : KeptProp). k.mentions) (prop_at id after)) ∙ ap is_some is))) ∙ is

-- nothing is mentioned under a number that keeps nothing
pub none_mentioned : (id n : ℕ) (table : List KeptProp) → prop_at id table ≡ None → mentions_at id table ≡ Some n → ⊥
none_mentioned id n table none is =
    false≢true (sym (ap is_some none) ∙ sym (is_some-option_map (λ (k : KeptProp). k.mentions) (prop_at id table)) ∙ ap is_some is)

-- what holds of each number that was passed, and of the next
pub passed_more : (table : List KeptProp) (ps : List PropId) (p : PropId) → ((id : ℕ) → IsTrue (has_number id ps) → mentions_at id table ≡ Some 0 → ⊥) → (mentions_at p.0 table ≡ Some 0 → ⊥)
    → (id : ℕ) → IsTrue (has_number id (ps ++ p ∷ [])) → mentions_at id table ≡ Some 0 → ⊥
passed_more table ps p before here id listed is =
    by_test (has_number id ps) (p.0 == id) refl refl (sym (list_any-append (λ (q : PropId). q.0 == id) ps (p ∷ [])) ∙ listed)
  where
    by_test : (a b : Bool) → has_number id ps ≡ a → (p.0 == id) ≡ b → (a || (b || false)) ≡ true → ⊥
    by_test true b was own is_one = before id was is
    by_test false true was own is_one = here (ap (λ n. mentions_at n table) (eqb-true p.0 id own) ∙ is)
    by_test false false was own is_one = false≢true is_one

-- what is kept is live, where it was live or was passed
pub keeps_live : (theory : Theory) (events : List PlainEvent) (table : List KeptProp) (listed : Bool) (id : ℕ) (t : Ground) → AreKept theory events table → term_at id table ≡ Some t
    → (listed ≡ true → mentions_at id table ≡ Some 0 → ⊥) → IsTrue (is_live theory events t || listed) → IsTrue (is_live theory events t)
keeps_live theory events table listed id t kept is passed one =
    by_test (is_live theory events t) listed refl refl one
  where
    by_test : (a b : Bool) → is_live theory events t ≡ a → listed ≡ b → (a || b) ≡ true → is_live theory events t ≡ true
    by_test true b live was is_one = live
    by_test false false live was is_one = absurd (false≢true is_one)
    by_test false true live was is_one = live-mentioned theory events t (λ none. passed was (kept.mentions id t is ∙ sym none))

-- what is kept is live or passes a test, where it was live, was passed, or passes the test
pub keeps_live_or : (theory : Theory) (events : List PlainEvent) (table : List KeptProp) (listed other : Bool) (id : ℕ) (t : Ground) → AreKept theory events table → term_at id table ≡ Some t
    → (listed ≡ true → mentions_at id table ≡ Some 0 → ⊥) → IsTrue (is_live theory events t || (listed || other)) → IsTrue (is_live theory events t || other)
keeps_live_or theory events table listed other id t kept is passed one =
    by_test (is_live theory events t) listed refl refl one
  where
    by_test : (a b : Bool) → is_live theory events t ≡ a → listed ≡ b → (a || (b || other)) ≡ true → (is_live theory events t || other) ≡ true
    by_test true b live was is_one = ap (λ a. a || other) live
    by_test false true live was is_one = ap (λ a. a || other) (live-mentioned theory events t (λ none. passed was (kept.mentions id t is ∙ sym none)))
    by_test false false live was is_one = ap (λ a. a || other) live ∙ is_one
