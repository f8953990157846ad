-- The places of a binding as a function from variables to values.
use Rattle.std.proofs.Common.{◌≡◌, ◌≢◌, ◌<◌, ℕ, zero, suc, Bool, true, false, ◌==◌, if◌then◌else◌, List, [], ◌∷◌, length, map, Option, Some, None, option_map, IfSome, IsTrue, get_or, refl, ap, ◌∙◌, sym, subst, get_or-set_same, get_or-set_other}
use Rattle.std.proofs.Math.ListN.{set}
use Rattle.std.proofs.Math.Path.{fun_ext}
use Rattle.std.specs.List.{list_all}
use Rattle.std.proofs.lemmas.Bool.Decides.{Decides-eqb, not_from_Decides}
use Rattle.ec_terms.specs.declared.ground.Arg.{Arg}
use Rattle.ec_terms.specs.declared.ground.ArgRef.{ArgRef}
use Rattle.ec_terms.specs.Term.{arg_of, is_argument}
use Rattle.ec_terms.specs.Binding.{is_named_value, shown, values_of, with_value}
use Rattle.std.proofs.lemmas.Bool.{and_parts, and_from}

-- the value of a variable is what its place shows
pub values_of-shown : (places : List (Option ArgRef)) (v : ℕ) → values_of (map shown places) v ≡ option_map arg_of (get_or places v None)
values_of-shown [] v = refl
values_of-shown (p ∷ places) zero = refl
values_of-shown (p ∷ places) (suc v) = values_of-shown places v

-- what stands at a place of named values is named
pub named-at : (places : List (Option ArgRef)) (v : ℕ) → list_all is_named_value (map shown places) ≡ true → IfSome (get_or places v None) (λ a. IsTrue (is_argument (arg_of a)))
named-at [] v h = tt
named-at (None ∷ places) zero h = tt
named-at (Some a ∷ places) zero h = (and_parts _ _ h).0
named-at (p ∷ places) (suc v) h = named-at places v (and_parts _ _ h).1

-- places stay named where one takes a value that is named
pub named-set : (places : List (Option ArgRef)) (v : ℕ) (a : ArgRef) → IsTrue (is_argument (arg_of a)) → list_all is_named_value (map shown places) ≡ true → list_all is_named_value (map shown (set places v (Some a))) ≡ true
named-set [] v a named h = refl
named-set (p ∷ places) zero a named h = and_from _ _ named (and_parts _ _ h).1
named-set (p ∷ places) (suc v) a named h = and_from _ _ (and_parts _ _ h).0 (named-set places v a named (and_parts _ _ h).1)

set_value : (places : List (Option ArgRef)) (v : ℕ) (a : ArgRef) → v < length places → (w : ℕ) (same : Bool) → (v == w) ≡ same →
    option_map arg_of (get_or (set places v (Some a)) w None) ≡ (if same then Some (arg_of a) else option_map arg_of (get_or places w None))
set_value places v a h w true e =
    let is : v ≡ w = (Decides-eqb v w).0 e in
    subst (λ (u : ℕ). option_map arg_of (get_or (set places v (Some a)) u None) ≡ Some (arg_of a)) is (ap (option_map arg_of) (get_or-set_same places v (Some a) None h))
set_value places v a h w false e =
    let apart : w ≢ v = λ k. not_from_Decides (v == w) (Decides-eqb v w) e (sym k) in
    ap (option_map arg_of) (get_or-set_other places v w (Some a) None apart)

-- setting a place gives its variable that value
pub values_of-set : (places : List (Option ArgRef)) (v : ℕ) (a : ArgRef) → v < length places →
    values_of (map shown (set places v (Some a))) ≡ with_value (values_of (map shown places)) v (arg_of a)
values_of-set places v a h =
    fun_ext (λ w.
    values_of-shown (set places v (Some a)) w
    ∙ set_value places v a h w (v == w) refl
    ∙ ap (λ (o : Option Arg). if v == w then Some (arg_of a) else o) (sym (values_of-shown places w)))
