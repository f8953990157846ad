-- What leaves a set of properties as it is exclusive to one that started.
use Rattle.std.proofs.Common.{◌≡◌, ℕ, ◌+◌, ◌<◌, Bool, not, ◌&&◌, ◌||◌, List, length, get_or, take, sym, ap, ◌∙◌, arith}
use Rattle.std.proofs.lemmas.List.Folds.{list_any_more}
use Rattle.ec_terms.specs.declared.ids.PropId.{PropId}
use Rattle.ec_terms.specs.declared.theory.Theory.{Theory}
use Rattle.ec_store.specs.Table.{KeptProp}
use Rattle.ec_numbered.specs.PropSet.{has_number}
use Rattle.ec_exclusive.specs.CurrentProps.{MemberForms, is_in}
use Rattle.ec_exclusive.specs.Neighbours.{exclusive_at}
use Rattle.ec_pass.specs.Settled.{excludes_any}

-- what is exclusive to one more leaves with what is exclusive to those before it
pub members-excluded : (theory : Theory) (table : List KeptProp) (p : PropId) (start before after : MemberForms) (found ps : List PropId) (i : ℕ) → i < length ps
    → p ≡ get_or ps i p → ((q : PropId) → has_number q.0 found ≡ (exclusive_at theory table p q && is_in q.0 before))
    → ((n : ℕ) → is_in n after ≡ (is_in n before && not (has_number n found)))
    → ((q : PropId) → is_in q.0 before ≡ (is_in q.0 start && not (excludes_any theory table (take i ps) q)))
    → (q : PropId) → is_in q.0 after ≡ (is_in q.0 start && not (excludes_any theory table (take (i + 1) ps) q))
members-excluded theory table p start before after found ps i within here excluded left so_far q =
    left q.0 ∙ ap (λ b. is_in q.0 before && not b) (excluded q) ∙ without (is_in q.0 before) (exclusive_at theory table p q)
    ∙ ap (λ b. b && not (exclusive_at theory table p q)) (so_far q)
    ∙ joined (is_in q.0 start) (excludes_any theory table (take i ps) q) (exclusive_at theory table p q)
    ∙ ap (λ b. is_in q.0 start && not b)
    (ap (λ (r : PropId). excludes_any theory table (take i ps) q || exclusive_at theory table r q) here
    ∙ sym (list_any_more (λ (r : PropId). exclusive_at theory table r q) ps i p within))
  where
    without : (a e : Bool) → (a && not (e && a)) ≡ (a && not e)
    without a e = grind arith

    joined : (a b c : Bool) → ((a && not b) && not c) ≡ (a && not (b || c))
    joined a b c = grind arith
