-- A loop that looks for the first: what is found here, and what goes on.
use Rattle.std.proofs.Common.{◌≡◌, ℕ, ◌+◌, ◌-◌, ◌<◌, ◌≤◌, suc, Bool, true, false, List, length, take, drop, get_or, Option, Some, None, sym, refl, ap, ◌∙◌, arith, drop-cons, add-one}
use Rattle.std.proofs.lemmas.List.{drop_all, take_more}
use Rattle.ec_check.specs.declared.fault.CheckFault.{CheckFault}
use Rattle.ec_check.specs.Faults.{first_from, first_fault}

-- one number more to look at
one_more : (test : ℕ → Bool) (n v : ℕ) → v < n → first_from test (n - v) v ≡ first_from test (suc (n - (v + 1))) v
one_more test n v below = ap (λ k. first_from test k v) (omega arith)

pub first_here : (test : ℕ → Bool) (n v : ℕ) → v < n → test v ≡ true → first_from test (n - v) v ≡ Some v
unfolding first_from
first_here test n v below passes = one_more test n v below ∙ rw passes refl

pub first_on : (test : ℕ → Bool) (n v : ℕ) → v < n → test v ≡ false → first_from test (n - v) v ≡ first_from test (n - (v + 1)) (v + 1)
unfolding first_from
first_on test n v below fails = one_more test n v below ∙ rw fails refl

pub first_end : (test : ℕ → Bool) (n v : ℕ) → n ≤ v → first_from test (n - v) v ≡ None
unfolding first_from
first_end test n v all = let e : n - v ≡ 0 = omega arith in rw e refl

module _ {A : Type 0} (fault : List A → A → Option CheckFault) (list : List A) (i : ℕ) where
  pub fault_here : (d : A) (f : CheckFault) → i < length list → fault (take i list) (get_or list i d) ≡ Some f → first_fault fault (take i list) (drop i list) ≡ Some f
  unfolding first_fault
  fault_here d f below found = rw (drop-cons list i d, found) refl

  pub fault_on : (d : A) → i < length list → fault (take i list) (get_or list i d) ≡ None → first_fault fault (take i list) (drop i list) ≡ first_fault fault (take (i + 1) list) (drop (i + 1) list)
  unfolding first_fault
  fault_on d below none =
      rw (drop-cons list i d, none)
      (ap (λ t. first_fault fault t (drop (suc i) list)) (sym (take_more list i d below)) ∙ ap (λ k. first_fault fault (take (i + 1) list) (drop k list)) (sym (add-one i)))

  pub fault_end : length list ≤ i → first_fault fault (take i list) (drop i list) ≡ None
  unfolding first_fault
  fault_end all = rw (drop_all i list all) refl
