-- Matching place by place finds the one binding that fits, where there is one.
use Rattle.std.proofs.Common.{◌≡◌, ℕ, ◌+◌, ◌<◌, length, drop, get_or, add-one, map, zero, suc, ◌≤◌, IsTrue, IsSome, IfSome, IfNone, ◌↔◌, arith, Bool, true, false, ◌&&◌, ◌||◌, ◌==◌, if◌then◌else◌, List, [], ◌∷◌, Option, Some, None, refl, ap, sym, ◌∙◌, subst, inl, inr, ⊎_elim}
use Rattle.std.proofs.Math.Path.{fun_ext}
use Rattle.std.specs.Option.{is_some}
use Rattle.std.proofs.lemmas.Bool.{cases_Bool, and_cases, and_parts, and_from, or_right, and_right, eqb-false}
use Rattle.std.proofs.lemmas.Bool.Decides.{Decides-eqb}
use Rattle.std.specs.Str.{bytes_eq}
use Rattle.std.specs.List.{list_all, list_any}
use Rattle.std.proofs.lemmas.List.{length-map, drop_all}
use Rattle.ec_terms.specs.contracts.ground.ArgRefPartialEq.TheImpl.{eq-value}
use Rattle.ec_terms.specs.declared.ground.Arg.{Arg}
use Rattle.ec_terms.specs.declared.ground.ArgRef.{ArgRef}
use Rattle.ec_terms.specs.declared.ground.ArgRef.TheVariants.{Int as IntRef, Word as WordRef}
use Rattle.ec_terms.specs.declared.pattern.PatArg.{PatArg}
use Rattle.ec_terms.specs.declared.pattern.PatArg.TheVariants.{Var, Any, Fixed}
use Rattle.ec_terms.specs.Term.{arg_of, arg_eq, is_argument, names_are_names}
use Rattle.ec_terms.specs.declared.ground.Ground.{Ground}
use Rattle.ec_terms.specs.declared.pattern.Pattern.{Pattern}
use Rattle.ec_terms.specs.Matching.{Values, has_shape, is_value, place_fits, places_fit, first_value, binding_of, fits, fits_some}
use Rattle.ec_terms.specs.MatchingLaws.{HasOneBinding, FitsByFirstPlaces}
use Rattle.ec_terms.specs.Binding.{Extends, values_of, stands_at, stands_in, no_values, with_value, after_place}
use Rattle.ec_terms.proofs.OrderLemmas.{arg_eq-Decides}
use Rattle.std.proofs.Math.Bool.{or-false, or_assoc}
use Rattle.ec_lists.proofs.Options.{None-from_is_some, Some-from_is_some}

-- ---- values

-- an argument is itself
pub arg_eq-refl : (a : Arg) → arg_eq a a ≡ true
arg_eq-refl a = (arg_eq-Decides a a).1 refl

-- a value that is this argument is this argument
pub is_value-Some : (o : Option Arg) (a : Arg) → is_value o a ≡ true → o ≡ Some a
unfolding is_value
is_value-Some None a h = cc
is_value-Some (Some b) a h = ap Some ((arg_eq-Decides b a).0 h)

-- and the other way
pub is_value-from_Some : (o : Option Arg) (a : Arg) → o ≡ Some a → is_value o a ≡ true
unfolding is_value
is_value-from_Some o a h = rw h (arg_eq-refl a)

-- the variable that gets a value has it
pub with_value-same : (s : Values) (v : ℕ) (a : Arg) → with_value s v a v ≡ Some a
with_value-same s v a = let same : (v == v) ≡ true = (Decides-eqb v v).1 refl in rw same

-- a further value for a variable without one takes no value away
pub with_value-Extends : (s : Values) (v : ℕ) (a : Arg) → is_some (s v) ≡ false → Extends s (with_value s v a)
with_value-Extends s v a none w x h =
    elim (cases_Bool (v == w)) [
      | inl same ↦
          let is : v ≡ w = (Decides-eqb v w).0 same in
          let absent : s w ≡ None = subst (λ (u : ℕ). s u ≡ None) is (None-from_is_some (s v) none) in
          cc
      | inr other ↦ rw other h
    ]

-- what extends the binding and gives the variable this value extends the binding with that value
pub with_value-least : (s values : Values) (v : ℕ) (a : Arg) → Extends s values → values v ≡ Some a → Extends (with_value s v a) values
with_value-least s values v a more given w x h =
    elim (cases_Bool (v == w)) [
      | inl same ↦
          let is : v ≡ w = (Decides-eqb v w).0 same in
          let there : values w ≡ Some a = subst (λ (u : ℕ). values u ≡ Some a) is given in
          cc
      | inr other ↦ more w x (rw other at h)
    ]

-- ---- one place

-- a place takes no value away
pub after_place-Extends : (s : Values) (p : PatArg) (a : Arg) → Extends s (after_place s p a)
after_place-Extends s (Var v) a =
    elim (cases_Bool (is_some (s v))) [
      | inl bound ↦ rw bound (λ w x h. h)
      | inr free ↦ rw free (with_value-Extends s v a free)
    ]
after_place-Extends s Any a = λ w x h. h
after_place-Extends s (Fixed b) a = λ w x h. h

-- a place that fits stays so where values are added
pub place_fits-Extends : (s t : Values) (p : PatArg) (a : Arg) → Extends s t → place_fits s p a ≡ true → place_fits t p a ≡ true
unfolding place_fits
place_fits-Extends s t (Var v) a more h = is_value-from_Some (t v) a (more v a (is_value-Some (s v) a h))
place_fits-Extends s t Any a more h = refl
place_fits-Extends s t (Fixed b) a more h = h

-- values under which a place fits extend what the place makes of a binding that they extend
pub after_place-least : (s values : Values) (p : PatArg) (a : Arg) → Extends s values → place_fits values p a ≡ true → Extends (after_place s p a) values
unfolding place_fits
after_place-least s values (Var v) a more h =
    elim (cases_Bool (is_some (s v))) [
      | inl bound ↦ rw bound more
      | inr free ↦ rw free (with_value-least s values v a more (is_value-Some (values v) a h))
    ]
after_place-least s values Any a more h = more
after_place-least s values (Fixed b) a more h = more

-- and then the place fits what it makes of the binding
pub after_place-fits : (s values : Values) (p : PatArg) (a : Arg) → Extends s values → place_fits values p a ≡ true → place_fits (after_place s p a) p a ≡ true
unfolding place_fits
after_place-fits s values (Var v) a more h =
    elim (cases_Bool (is_some (s v))) [
      | inl bound ↦
          let here = Some-from_is_some (s v) bound in
          let there : values v ≡ Some here.0 = more v here.0 here.1 in
          let given : values v ≡ Some a = is_value-Some (values v) a h in
          let same : s v ≡ Some a = cc in
          rw bound (is_value-from_Some (s v) a same)
      | inr free ↦ rw free (is_value-from_Some _ a (with_value-same s v a))
    ]
after_place-fits s values Any a more h = refl
after_place-fits s values (Fixed b) a more h = h

-- a place gives a value to its variable alone
pub is_some-after_place : (s : Values) (p : PatArg) (a : Arg) (v : ℕ) → is_some (after_place s p a v) ≡ (is_some (s v) || stands_at v p)
is_some-after_place s (Var w) a v =
    elim (cases_Bool (is_some (s w))) [
      | inl bound ↦
          elim (cases_Bool (w == v)) [
            | inl same ↦
                let is : w ≡ v = (Decides-eqb w v).0 same in
                let there : is_some (s v) ≡ true = subst (λ (u : ℕ). is_some (s u) ≡ true) is bound in
                rw (bound, there)
            | inr other ↦ rw (bound, other) (sym (or-false (is_some (s v))))
          ]
      | inr free ↦
          elim (cases_Bool (w == v)) [
            | inl same ↦ rw (free, same) (sym (or_right (is_some (s v)) true refl))
            | inr other ↦ rw (free, other) (sym (or-false (is_some (s v))))
          ]
    ]
is_some-after_place s Any a v = sym (or-false (is_some (s v)))
is_some-after_place s (Fixed b) a v = sym (or-false (is_some (s v)))

-- ---- all places

-- the places of a pattern meet the arguments one after the other
pub walk : Values → List PatArg → List Arg → Option Values
walk values [] [] = Some values
walk values [] (a ∷ args) = None
walk values (p ∷ ps) [] = None
walk values (p ∷ ps) (a ∷ args) = if place_fits (after_place values p a) p a then walk (after_place values p a) ps args else None

-- what a whole walk has found
pub record IsFound (start found : Values) (ps : List PatArg) (args : List Arg) : Type 0 where
  pub extends : Extends start found
  pub fits : places_fit found ps args ≡ true
  pub bound : (v : ℕ) → is_some (found v) ≡ (is_some (start v) || list_any (stands_at v) ps)

-- a walk to the end finds a binding that fits
pub walk-Some : (s found : Values) (ps : List PatArg) (args : List Arg) → walk s ps args ≡ Some found → IsFound s found ps args
unfolding walk places_fit
walk-Some s found [] [] h =
    let same : s ≡ found = cc in
    record {
      extends = λ v a e. subst (λ (t : Values). t v ≡ Some a) same e;
      fits = refl;
      bound = λ v. ap (λ (t : Values). is_some (t v)) (sym same) ∙ sym (or-false (is_some (s v)));
    }
walk-Some s found [] (a ∷ args) h = cc
walk-Some s found (p ∷ ps) [] h = cc
walk-Some s found (p ∷ ps) (a ∷ args) h =
    elim (cases_Bool (place_fits (after_place s p a) p a)) [
      | inl fitting ↦
          let rest = walk-Some (after_place s p a) found ps args (rw fitting at h) in
          record {
            extends = λ v b e. rest.extends v b (after_place-Extends s p a v b e);
            fits = and_from _ _ (place_fits-Extends (after_place s p a) found p a rest.extends fitting) rest.fits;
            bound = λ v. rest.bound v ∙ ap (λ (b : Bool). b || list_any (stands_at v) ps) (is_some-after_place s p a v) ∙ or_assoc (is_some (s v)) (stands_at v p) (list_any (stands_at v) ps);
          }
      | inr failing ↦ let none : None ≡ Some found = rw failing at h in cc
    ]

-- a walk that stops leaves no binding that fits
pub walk-None : (s values : Values) (ps : List PatArg) (args : List Arg) → walk s ps args ≡ None → Extends s values → places_fit values ps args ≡ false
unfolding walk places_fit
walk-None s values [] [] h more = cc
walk-None s values [] (a ∷ args) h more = refl
walk-None s values (p ∷ ps) [] h more = refl
walk-None s values (p ∷ ps) (a ∷ args) h more =
    elim (cases_Bool (place_fits values p a)) [
      | inl fitting ↦
          let here : place_fits (after_place s p a) p a ≡ true = after_place-fits s values p a more fitting in
          rw fitting (walk-None (after_place s p a) values ps args (rw here at h) (after_place-least s values p a more fitting))
      | inr failing ↦ rw failing
    ]

-- ---- the one binding

-- a binding that fits gives each variable of the pattern the argument at its first place
pub fits-first_value : (values : Values) (ps : List PatArg) (args : List Arg) (v : ℕ) → places_fit values ps args ≡ true → list_any (stands_at v) ps ≡ true → values v ≡ first_value ps args v
unfolding places_fit place_fits first_value
fits-first_value values [] args v fit there = cc
fits-first_value values (p ∷ ps) [] v fit there = cc
fits-first_value values (Var w ∷ ps) (a ∷ args) v fit there =
    let both = and_parts (is_value (values w) a) (places_fit values ps args) fit in
    elim (cases_Bool (w == v)) [
      | inl same ↦
          let is : w ≡ v = (Decides-eqb w v).0 same in
          rw same (subst (λ (u : ℕ). values u ≡ Some a) is (is_value-Some (values w) a both.0))
      | inr other ↦ rw other (fits-first_value values ps args v both.1 (rw other at there))
    ]
fits-first_value values (Any ∷ ps) (a ∷ args) v fit there = fits-first_value values ps args v fit there
fits-first_value values (Fixed b ∷ ps) (a ∷ args) v fit there =
    fits-first_value values ps args v (and_parts (arg_eq b a) (places_fit values ps args) fit).1 there

-- a variable that stands in no place has no first place
pub first_value-absent : (ps : List PatArg) (args : List Arg) (v : ℕ) → list_any (stands_at v) ps ≡ false → first_value ps args v ≡ None
unfolding first_value
first_value-absent [] args v h = refl
first_value-absent (p ∷ ps) [] v h = refl
first_value-absent (Var w ∷ ps) (a ∷ args) v h =
    elim (cases_Bool (w == v)) [
      | inl same ↦ let false_is : true ≡ false = rw same at h in cc
      | inr other ↦ rw other (first_value-absent ps args v (rw other at h))
    ]
first_value-absent (Any ∷ ps) (a ∷ args) v h = first_value-absent ps args v h
first_value-absent (Fixed b ∷ ps) (a ∷ args) v h = first_value-absent ps args v h

-- whether places fit depends on their variables alone
pub places_fit-agree : (f g : Values) (ps : List PatArg) (args : List Arg) → ((v : ℕ) → list_any (stands_at v) ps ≡ true → f v ≡ g v) → places_fit f ps args ≡ places_fit g ps args
unfolding places_fit place_fits
places_fit-agree f g [] [] same = refl
places_fit-agree f g [] (a ∷ args) same = refl
places_fit-agree f g (p ∷ ps) [] same = refl
places_fit-agree f g (Var w ∷ ps) (a ∷ args) same =
    let itself : (w == w) ≡ true = (Decides-eqb w w).1 refl in
    let here : f w ≡ g w = same w (rw itself) in
    let rest = places_fit-agree f g ps args (λ v h. same v (rw h (or_right (w == v) true refl))) in
    rw (here, rest)
places_fit-agree f g (Any ∷ ps) (a ∷ args) same = places_fit-agree f g ps args same
places_fit-agree f g (Fixed b ∷ ps) (a ∷ args) same = ap (λ (r : Bool). arg_eq b a && r) (places_fit-agree f g ps args same)

-- where some binding fits, the one of the first places does
pub fits-at_first_value : (values : Values) (ps : List PatArg) (args : List Arg) → places_fit values ps args ≡ true → places_fit (first_value ps args) ps args ≡ true
fits-at_first_value values ps args h =
    sym (places_fit-agree values (first_value ps args) ps args (λ v there. fits-first_value values ps args v h there)) ∙ h

-- a binding that fits, and that has no values but for the variables of the places, is that of the first places
pub found-first_value : (found : Values) (ps : List PatArg) (args : List Arg) → places_fit found ps args ≡ true →
    ((v : ℕ) → is_some (found v) ≡ list_any (stands_at v) ps) → found ≡ first_value ps args
found-first_value found ps args fit bound =
    fun_ext (λ v.
    elim (cases_Bool (list_any (stands_at v) ps)) [
      | inl there ↦ fits-first_value found ps args v fit there
      | inr absent ↦ None-from_is_some (found v) (bound v ∙ absent) ∙ sym (first_value-absent ps args v absent)
    ])

-- ---- patterns and terms

-- bindings under which a pattern fits agree on its variables
pub fits-unique : (pattern : Pattern) (term : Ground) → HasOneBinding pattern term
unfolding fits
fits-unique pattern term values v h there = fits-first_value values pattern.args term.args v (and_parts _ _ h).1 there

-- a pattern that fits under some binding fits under that of the first places
pub fits_some-from_fits : (pattern : Pattern) (term : Ground) (values : Values) → fits values pattern term ≡ true → fits_some pattern term ≡ true
unfolding fits fits_some
fits_some-from_fits pattern term values h =
    let both = and_parts _ _ h in and_from _ _ both.0 (fits-at_first_value values pattern.args term.args both.1)

-- and the other way
pub fits_some-exists : (pattern : Pattern) (term : Ground) → FitsByFirstPlaces pattern term
unfolding fits_some
fits_some-exists pattern term = ((λ h. (binding_of pattern term, h)), (λ found. fits_some-from_fits pattern term found.0 found.1))

-- places fit arguments only where there are as many
pub places_fit-other_length : (values : Values) (ps : List PatArg) (args : List Arg) → (length ps ≡ length args → ⊥) → places_fit values ps args ≡ false
unfolding places_fit
places_fit-other_length values [] [] h = absurd (h refl)
places_fit-other_length values [] (a ∷ args) h = refl
places_fit-other_length values (p ∷ ps) [] h = refl
places_fit-other_length values (p ∷ ps) (a ∷ args) h =
    rw (places_fit-other_length values ps args (λ e. h (ap suc e))) (and_right (place_fits values p a) false refl)

-- a pattern with another name fits no term
pub fits-other_name : (values : Values) (pattern : Pattern) (term : Ground) → bytes_eq pattern.name term.name ≡ false → fits values pattern term ≡ false
unfolding fits
fits-other_name values pattern term h = rw h

-- nor does one with another number of arguments
pub fits-other_length : (values : Values) (pattern : Pattern) (term : Ground) → (length pattern.args ≡ length term.args → ⊥) → fits values pattern term ≡ false
unfolding fits
fits-other_length values pattern term h = rw (places_fit-other_length values pattern.args term.args h) (and_right (bytes_eq pattern.name term.name) false refl)

-- so one of another shape fits none
pub fits-other_shape : (values : Values) (pattern : Pattern) (term : Ground) → has_shape pattern term ≡ false → fits values pattern term ≡ false
fits-other_shape values pattern term other =
    ⊎_elim (λ name. fits-other_name values pattern term name) (λ count. fits-other_length values pattern term (eqb-false _ _ count)) (and_cases _ _ other)

-- nor does one whose places do not fit
pub fits-other_args : (values : Values) (pattern : Pattern) (term : Ground) → places_fit values pattern.args term.args ≡ false → fits values pattern term ≡ false
unfolding fits
fits-other_args values pattern term h = rw h (and_right (bytes_eq pattern.name term.name) false refl)

-- a pattern fits where the names are the same and the places fit
pub fits-from_args : (values : Values) (pattern : Pattern) (term : Ground) → bytes_eq pattern.name term.name ≡ true → places_fit values pattern.args term.args ≡ true → fits values pattern term ≡ true
unfolding fits
fits-from_args values pattern term h k = and_from _ _ h k

-- ---- the walk by places

-- the argument that a borrowed argument at a place shows
get_or-shown : (refs : List ArgRef) (i : ℕ) (r d : ArgRef) → i < length refs → r ≡ get_or refs i d → arg_of r ≡ get_or (map arg_of refs) i (arg_of r)
get_or-shown [] i r d h e = absurd (omega arith)
get_or-shown (x ∷ refs) zero r d h e = ap arg_of e
get_or-shown (x ∷ refs) (suc i) r d h e = get_or-shown refs i r d (omega arith) e

-- one more place of a walk
walk-step : (s : Values) (ps : List PatArg) (args : List Arg) (i : ℕ) (p : PatArg) (a : Arg) →
    i < length ps → i < length args → p ≡ get_or ps i p → a ≡ get_or args i a →
    walk s (drop i ps) (drop i args)
    ≡ (if place_fits (after_place s p a) p a then walk (after_place s p a) (drop (i + 1) ps) (drop (i + 1) args) else None)
unfolding walk
walk-step s ps args i p a within also here there =
    let places : drop i ps ≡ p ∷ drop (i + 1) ps = rw (add-one i) (drop-at ps i p within here) in
    let arguments : drop i args ≡ a ∷ drop (i + 1) args = rw (add-one i) (drop-at args i a also there) in
    rw (places, arguments)
  where
    drop-at : {X : Type 0} (xs : List X) (i : ℕ) (x : X) → i < length xs → x ≡ get_or xs i x → drop i xs ≡ x ∷ drop (suc i) xs
    drop-at [] i x h e = absurd (omega arith)
    drop-at (y ∷ xs) zero x h e = rw (sym e)
    drop-at (y ∷ xs) (suc i) x h e = drop-at xs i x (omega arith) e

-- a place that does not fit stops the walk
pub walk-stops : (s t : Values) (ps : List PatArg) (refs : List ArgRef) (i : ℕ) (p : PatArg) (r d : ArgRef) →
    i < length ps → length ps ≡ length refs → p ≡ get_or ps i p → r ≡ get_or refs i d →
    t ≡ after_place s p (arg_of r) → place_fits t p (arg_of r) ≡ false → walk s (drop i ps) (drop i (map arg_of refs)) ≡ None
walk-stops s t ps refs i p r d within lengths here there becomes failing =
    let also : i < length (map arg_of refs) = rw (length-map refs arg_of) (omega arith) in
    let step = walk-step s ps (map arg_of refs) i p (arg_of r) within also here (get_or-shown refs i r d (omega arith) there) in
    let fails : place_fits (after_place s p (arg_of r)) p (arg_of r) ≡ false = rw (sym becomes) failing in
    rw fails at step

-- a place that fits takes the walk on
pub walk-goes_on : (s t : Values) (ps : List PatArg) (refs : List ArgRef) (i : ℕ) (p : PatArg) (r d : ArgRef) →
    i < length ps → length ps ≡ length refs → p ≡ get_or ps i p → r ≡ get_or refs i d →
    t ≡ after_place s p (arg_of r) → place_fits t p (arg_of r) ≡ true →
    walk s (drop i ps) (drop i (map arg_of refs)) ≡ walk t (drop (i + 1) ps) (drop (i + 1) (map arg_of refs))
walk-goes_on s t ps refs i p r d within lengths here there becomes fitting =
    let also : i < length (map arg_of refs) = rw (length-map refs arg_of) (omega arith) in
    let step = walk-step s ps (map arg_of refs) i p (arg_of r) within also here (get_or-shown refs i r d (omega arith) there) in
    let fits : place_fits (after_place s p (arg_of r)) p (arg_of r) ≡ true = rw (sym becomes) fitting in
    rw becomes (rw fits at step)

-- a walk with no places left has found its binding
pub walk-ends : (s : Values) (ps : List PatArg) (refs : List ArgRef) (i : ℕ) → length ps ≤ i → length ps ≡ length refs →
    walk s (drop i ps) (drop i (map arg_of refs)) ≡ Some s
unfolding walk
walk-ends s ps refs i past lengths =
    let places : drop i ps ≡ [] = drop_all i ps past in
    let arguments : drop i (map arg_of refs) ≡ [] = drop_all i (map arg_of refs) (rw (length-map refs arg_of) (omega arith)) in
    rw (places, arguments)

-- ---- one place in the code

-- equality of borrowed arguments is that of the arguments that they show
pub arg_ref_eq : (x y : ArgRef) → eq-value.it x y ≡ arg_eq (arg_of x) (arg_of y)
unfolding arg_eq
arg_ref_eq (IntRef x) (IntRef y) = refl
arg_ref_eq (IntRef x) (WordRef w) = refl
arg_ref_eq (WordRef v) (IntRef y) = refl
arg_ref_eq (WordRef v) (WordRef w) = refl

-- a variable with a value fits that value
pub place_fits-value : (s : Values) (p : PatArg) (v : ℕ) (x a : Arg) → p ≡ Var v → Some x ≡ s v → arg_eq x a ≡ place_fits s p a
unfolding place_fits is_value
place_fits-value s p v x a is bound = rw (is, ← bound)

-- a variable that takes an argument fits it
pub place_fits-taken : (s t : Values) (p : PatArg) (v : ℕ) (a : Arg) → p ≡ Var v → t ≡ with_value s v a → true ≡ place_fits t p a
unfolding place_fits
place_fits-taken s t p v a is becomes = rw (is, becomes) (sym (is_value-from_Some _ a (with_value-same s v a)))

-- `_` fits
pub place_fits-any : (s : Values) (p : PatArg) (a : Arg) → p ≡ Any → true ≡ place_fits s p a
unfolding place_fits
place_fits-any s p a is = rw is

-- a fixed argument fits itself
pub place_fits-fixed : (s : Values) (p : PatArg) (b x a : Arg) → p ≡ Fixed b → x ≡ b → arg_eq x a ≡ place_fits s p a
unfolding place_fits
place_fits-fixed s p b x a is same = rw (is, same)

-- ---- names among the arguments

-- the arguments of a named term are named
pub arguments_are_named : (term : Ground) → names_are_names term ≡ true → list_all is_argument term.args ≡ true
unfolding names_are_names
arguments_are_named term h = (and_parts _ _ h).1

-- ---- matching from no values

-- what `matches` answers, from what matching from no values does
pub matches-fits : (o : Option (List (Option Arg))) (start : List (Option Arg)) (pattern : Pattern) (term : Ground) → values_of start ≡ no_values →
    IfSome o (λ found. IsTrue (fits (values_of found) pattern term)) →
    IfNone o ((values : Values) → Extends (values_of start) values → fits values pattern term ≡ false) →
    IsSome o ↔ IsTrue (fits_some pattern term)
unfolding fits_some
matches-fits (Some found) start pattern term empty fit none = ((λ _. fits_some-from_fits pattern term (values_of found) fit), (λ _. refl))
matches-fits None start pattern term empty fit none = (
  (λ h. (let no : false ≡ true = h in cc)),
  (λ h.
      let more : Extends (values_of start) (binding_of pattern term) = λ v a e. (let there : no_values v ≡ Some a = subst (λ (s : Values). s v ≡ Some a) empty e in cc) in
      let fails = none (binding_of pattern term) more in
      cc),
)

pub matches-other_shape : (pattern : Pattern) (term : Ground) → has_shape pattern term ≡ false → IsSome {T = List (Option Arg)} None ↔ IsTrue (fits_some pattern term)
unfolding fits_some
matches-other_shape pattern term other = (
  (λ h. (let no : false ≡ true = h in cc)),
  (λ h. (let fails = fits-other_shape (binding_of pattern term) pattern term other in cc)),
)

pub matches-binding : (o : Option (List (Option Arg))) (start : List (Option Arg)) (pattern : Pattern) (term : Ground) → values_of start ≡ no_values →
    IfSome o (λ found. IsTrue (fits (values_of found) pattern term)) →
    IfSome o (λ found. (v : ℕ) → is_some (values_of found v) ≡ (is_some (values_of start v) || stands_in v pattern)) →
    IfSome o (λ found. values_of found ≡ binding_of pattern term)
unfolding fits
matches-binding (Some found) start pattern term empty fit bound =
    found-first_value (values_of found) pattern.args term.args (and_parts _ _ fit).1
    (λ v. bound v ∙ ap (λ (s : Values). is_some (s v) || stands_in v pattern) empty)
matches-binding None start pattern term empty fit bound = tt
