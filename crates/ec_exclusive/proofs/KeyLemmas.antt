-- Keys: how they are made place by place, and that exclusive terms have one in common.
use Rattle.std.proofs.Common.{◌≡◌, ℕ, ◌+◌, ◌<◌, Bool, true, false, cond, ◌||◌, List, [], ◌∷◌, ◌++◌, take, length, get_or, map, Option, Some, None, refl, sym, ap, ap₂, ◌∙◌, ◌⊎◌, ⊎_elim, append_assoc, append-nil, arith}
use Rattle.std.specs.Prelude.{filter_map, bytes_eq, ◌==◌, ◌%◌}
use Rattle.std.specs.List.{list_any, cons_option}
use Rattle.std.proofs.lemmas.Bool.{cases_Bool, and_parts, or_left, or_right, or_cases}
use Rattle.std.proofs.lemmas.List.{map-append, take_more, length-take}
use Rattle.std.proofs.lemmas.List.Folds.{list_any-append}
use Rattle.std.proofs.lemmas.Slice.Eq.{bytes_eq-Decides}
use Rattle.ec_lists.proofs.Numbers.{eqb-same}
use Rattle.ec_terms.specs.declared.ground.Arg.{Arg}
use Rattle.ec_terms.specs.declared.ground.ArgRef.{ArgRef}
use Rattle.ec_terms.specs.declared.ground.Ground.{Ground}
use Rattle.ec_terms.specs.declared.pattern.PatArg.{PatArg}
use Rattle.ec_terms.specs.declared.pattern.PatArg.TheVariants.{Var, Any, Fixed}
use Rattle.ec_terms.specs.declared.pattern.Pattern.{Pattern}
use Rattle.ec_terms.specs.declared.theory.Exclusive.{Exclusive}
use Rattle.ec_terms.specs.declared.theory.Theory.{Theory}
use Rattle.ec_terms.specs.Binding.{stands_at, stands_in}
use Rattle.ec_terms.specs.Domain.{both_fit, excludes, are_exclusive}
use Rattle.ec_terms.specs.Matching.{Values, binding_of, fits_some}
use Rattle.ec_terms.specs.Term.{arg_of, term_text}
use Rattle.ec_terms.proofs.MatchingLemmas.{fits-unique, fits_some-from_fits}
use Rattle.ec_terms.proofs.FillingLemmas.{filter_map-more_Some}
use Rattle.ec_terms.proofs.Exclusion.{both_fit-FitTogether}
use Rattle.ec_exclusive.specs.Forms.{fits_side, has_form, has_key, form_of}
use Rattle.ec_exclusive.specs.Keys.{shared_value, shared_term, side_key, key_if_fits, declared_keys, keys_from, own_keys, other_keys, is_key}

-- ---- the shared values, place by place

module _ (f : PatArg → Option Arg) where
  pub shown-push : (ps : List PatArg) (i : ℕ) (p : PatArg) (refs more : List ArgRef) (r : ArgRef) → i < length ps → p ≡ get_or ps i p → Some (arg_of r) ≡ f p → more ≡ refs ++ r ∷ [] →
      map arg_of refs ≡ filter_map f (take i ps) → map arg_of more ≡ filter_map f (take (i + 1) ps)
  shown-push ps i p refs more r within here value is before =
      let step = filter_map-more_Some f ps i p (arg_of r) within here value in
      rw (is, map-append, before) (sym step)

-- ---- the keys, declaration by declaration

pub key_if_fits-yes : (i side : ℕ) (d : Exclusive) (pattern : Pattern) (term : Ground) → fits_some pattern term ≡ true → key_if_fits i side d pattern term ≡ side_key i side d (binding_of pattern term) ∷ []
key_if_fits-yes i side d pattern term fit = rw fit refl

pub key_if_fits-no : (i side : ℕ) (d : Exclusive) (pattern : Pattern) (term : Ground) → fits_some pattern term ≡ false → key_if_fits i side d pattern term ≡ []
key_if_fits-no i side d pattern term fit = rw fit refl

module _ (left right : ℕ) (term : Ground) where
  keys_from-append : (k : ℕ) (ds es : List Exclusive) → keys_from left right k (ds ++ es) term ≡ keys_from left right k ds term ++ keys_from left right (k + length ds) es term
  unfolding keys_from
  keys_from-append k [] es = ap (λ n. keys_from left right n es term) (omega arith)
  keys_from-append k (d ∷ ds) es =
      ap (λ ks. declared_keys left right k d term ++ ks) (keys_from-append (k + 1) ds es)
      ∙ sym (append_assoc (declared_keys left right k d term) (keys_from left right (k + 1) ds term) (keys_from left right (k + 1 + length ds) es term))
      ∙ ap (λ n. (declared_keys left right k d term ++ keys_from left right (k + 1) ds term) ++ keys_from left right n es term) (omega arith)

  one : (k : ℕ) (d : Exclusive) → keys_from left right k (d ∷ []) term ≡ declared_keys left right k d term
  unfolding keys_from
  one k d = append-nil (declared_keys left right k d term)

  pub keys_from-none : (k : ℕ) → keys_from left right k [] term ≡ []
  unfolding keys_from
  keys_from-none k = refl

  pub keys_from-more : (ds : List Exclusive) (i : ℕ) (d : Exclusive) → i < length ds → d ≡ get_or ds i d →
      keys_from left right 0 (take (i + 1) ds) term ≡ keys_from left right 0 (take i ds) term ++ declared_keys left right i d term
  keys_from-more ds i d within here =
      ap (λ es. keys_from left right 0 es term) (take_more ds i d within)
      ∙ keys_from-append 0 (take i ds) (get_or ds i d ∷ [])
      ∙ ap (λ ks. keys_from left right 0 (take i ds) term ++ ks)
      (one (0 + length (take i ds)) (get_or ds i d) ∙ ap₂ (λ n e. declared_keys left right n e term) (omega (arith, length-take i ds)) (sym here))

-- ---- a term has a key exactly where a side of a declaration fits it

has_key-append : (xs ys : List (List ℕ)) → has_key (xs ++ ys) ≡ (has_key xs || has_key ys)
has_key-append [] ys = refl
has_key-append (x ∷ xs) ys = refl

has_key-fits : (i side : ℕ) (d : Exclusive) (pattern : Pattern) (term : Ground) → has_key (key_if_fits i side d pattern term) ≡ fits_some pattern term
has_key-fits i side d pattern term = by (fits_some pattern term)
  where
    by : (b : Bool) → has_key (cond b (side_key i side d (binding_of pattern term) ∷ []) []) ≡ b
    by true = refl
    by false = refl

has_key-from : (left right i : ℕ) (ds : List Exclusive) (term : Ground) → list_any (fits_side term) ds ≡ has_key (keys_from left right i ds term)
unfolding keys_from
has_key-from left right i [] term = refl
has_key-from left right i (d ∷ ds) term =
    sym (has_key-append (declared_keys left right i d term) (keys_from left right (i + 1) ds term)
    ∙ ap₂ (λ a b. a || b)
    (has_key-append (key_if_fits i left d d.left term) (key_if_fits i right d d.right term) ∙ ap₂ (λ a b. a || b) (has_key-fits i left d d.left term) (has_key-fits i right d d.right term))
    (sym (has_key-from left right (i + 1) ds term)))

pub has_form-keys : (theory : Theory) (term : Ground) → has_form theory term ≡ has_key (form_of theory term).keys
has_form-keys theory term = has_key-from 0 1 0 theory.exclusives term

-- ---- exclusive terms have a key in common

-- the values of a side are those of any binding that fits it
shared-same : (ps : List PatArg) (other : Pattern) (f g : Values) → ((v : ℕ) → list_any (stands_at v) ps ≡ true → stands_in v other ≡ true → f v ≡ g v) →
    filter_map (shared_value f other) ps ≡ filter_map (shared_value g other) ps
shared-same [] other f g same = refl
shared-same (Var v ∷ ps) other f g same =
    let rest = shared-same ps other f g (λ w there shared. same w (or_right (v == w) (list_any (stands_at w) ps) there) shared) in
    ap₂ cons_option (value (cases_Bool (stands_in v other))) rest
  where
    value : (stands_in v other ≡ true) ⊎ (stands_in v other ≡ false) → shared_value f other (Var v) ≡ shared_value g other (Var v)
    value = ⊎_elim
        (λ e. ap (λ b. cond b (f v) None) e ∙ same v (or_left (v == v) (list_any (stands_at v) ps) (eqb-same v)) e ∙ sym (ap (λ b. cond b (g v) None) e))
        (λ e. ap (λ b. cond b (f v) None) e ∙ sym (ap (λ b. cond b (g v) None) e))
shared-same (Any ∷ ps) other f g same = shared-same ps other f g (λ w there shared. same w there shared)
shared-same (Fixed a ∷ ps) other f g same = shared-same ps other f g (λ w there shared. same w there shared)

-- under one binding both sides have the same shared values
shared_term-same : (d : Exclusive) (p q : Ground) → both_fit d.left d.right p q ≡ true → shared_term d (binding_of d.left p) ≡ shared_term d (binding_of d.right q)
shared_term-same d p q both =
    let found = (both_fit-FitTogether d.left d.right p q).0 both in
    ap (λ args. record { name = d.left.name; args = args })
    (shared-same d.left.args d.right (binding_of d.left p) (binding_of d.right q)
    (λ v there shared. sym (fits-unique d.left p found.0 v found.1 there) ∙ fits-unique d.right q found.0 v found.2 shared))

-- both sides fit
fits-left : (d : Exclusive) (p q : Ground) → both_fit d.left d.right p q ≡ true → fits_some d.left p ≡ true
fits-left d p q both = let found = (both_fit-FitTogether d.left d.right p q).0 both in fits_some-from_fits d.left p found.0 found.1

fits-right : (d : Exclusive) (p q : Ground) → both_fit d.left d.right p q ≡ true → fits_some d.right q ≡ true
fits-right d p q both = let found = (both_fit-FitTogether d.left d.right p q).0 both in fits_some-from_fits d.right q found.0 found.2

-- a key that some test passes, in one part or the other
any-left : (test : List ℕ → Bool) (xs ys : List (List ℕ)) → list_any test xs ≡ true → list_any test (xs ++ ys) ≡ true
any-left test xs ys there = list_any-append test xs ys ∙ or_left (list_any test xs) (list_any test ys) there

any-right : (test : List ℕ → Bool) (xs ys : List (List ℕ)) → list_any test ys ≡ true → list_any test (xs ++ ys) ≡ true
any-right test xs ys there = list_any-append test xs ys ∙ or_right (list_any test xs) (list_any test ys) there

-- one side's key
any-key : (test : List ℕ → Bool) (i side : ℕ) (d : Exclusive) (pattern : Pattern) (term : Ground) → fits_some pattern term ≡ true → test (side_key i side d (binding_of pattern term)) ≡ true →
    list_any test (key_if_fits i side d pattern term) ≡ true
any-key test i side d pattern term fit passes = ap (list_any test) (key_if_fits-yes i side d pattern term fit) ∙ or_left _ false passes

-- what a declaration joins has one of its keys in common
declared-common : (i : ℕ) (d : Exclusive) (p q : Ground) → excludes p q d ≡ true → list_any (is_key (declared_keys 0 1 i d q)) (declared_keys 1 0 i d p) ≡ true
unfolding excludes
declared-common i d p q speaks =
    ⊎_elim
    (λ both. any-left (is_key (declared_keys 0 1 i d q)) (key_if_fits i 1 d d.left p) (key_if_fits i 0 d d.right p)
    (any-key (is_key (declared_keys 0 1 i d q)) i 1 d d.left p (fits-left d p q both)
    (any-right (λ k. bytes_eq k (side_key i 1 d (binding_of d.left p))) (key_if_fits i 0 d d.left q) (key_if_fits i 1 d d.right q)
    (any-key (λ k. bytes_eq k (side_key i 1 d (binding_of d.left p))) i 1 d d.right q (fits-right d p q both)
    ((bytes_eq-Decides _ _).1 (ap (λ t. term_text t ++ 1 ∷ (i % 256) ∷ []) (sym (shared_term-same d p q both))))))))
    (λ both. any-right (is_key (declared_keys 0 1 i d q)) (key_if_fits i 1 d d.left p) (key_if_fits i 0 d d.right p)
    (any-key (is_key (declared_keys 0 1 i d q)) i 0 d d.right p (fits-right d q p both)
    (any-left (λ k. bytes_eq k (side_key i 0 d (binding_of d.right p))) (key_if_fits i 0 d d.left q) (key_if_fits i 1 d d.right q)
    (any-key (λ k. bytes_eq k (side_key i 0 d (binding_of d.right p))) i 0 d d.left q (fits-left d q p both)
    ((bytes_eq-Decides _ _).1 (ap (λ t. term_text t ++ 0 ∷ (i % 256) ∷ []) (shared_term-same d q p both)))))))
    (or_cases (both_fit d.left d.right p q) (both_fit d.left d.right q p) speaks)

-- keys among which there are more
any-more : (own more keys : List (List ℕ)) → list_any (is_key own) keys ≡ true → ((k : List ℕ) → is_key own k ≡ true → is_key more k ≡ true) → list_any (is_key more) keys ≡ true
any-more own more [] there wider = there
any-more own more (k ∷ keys) there wider =
    ⊎_elim (λ here. or_left (is_key more k) (list_any (is_key more) keys) (wider k here))
    (λ rest. or_right (is_key more k) (list_any (is_key more) keys) (any-more own more keys rest wider)) (or_cases (is_key own k) (list_any (is_key own) keys) there)

keys-common : (i : ℕ) (ds : List Exclusive) (p q : Ground) → list_any (excludes p q) ds ≡ true → list_any (is_key (keys_from 0 1 i ds q)) (keys_from 1 0 i ds p) ≡ true
unfolding keys_from
keys-common i [] p q speaks = speaks
keys-common i (d ∷ ds) p q speaks =
    ⊎_elim
    (λ here. any-left (is_key (keys_from 0 1 i (d ∷ ds) q)) (declared_keys 1 0 i d p) (keys_from 1 0 (i + 1) ds p)
    (any-more (declared_keys 0 1 i d q) (declared_keys 0 1 i d q ++ keys_from 0 1 (i + 1) ds q) (declared_keys 1 0 i d p) (declared-common i d p q here)
    (λ k there. any-left (λ x. bytes_eq x k) (declared_keys 0 1 i d q) (keys_from 0 1 (i + 1) ds q) there)))
    (λ rest. any-right (is_key (keys_from 0 1 i (d ∷ ds) q)) (declared_keys 1 0 i d p) (keys_from 1 0 (i + 1) ds p)
    (any-more (keys_from 0 1 (i + 1) ds q) (declared_keys 0 1 i d q ++ keys_from 0 1 (i + 1) ds q) (keys_from 1 0 (i + 1) ds p) (keys-common (i + 1) ds p q rest)
    (λ k there. any-right (λ x. bytes_eq x k) (declared_keys 0 1 i d q) (keys_from 0 1 (i + 1) ds q) there)))
    (or_cases (excludes p q d) (list_any (excludes p q) ds) speaks)

-- what is exclusive to a term stands in the group of one of its neighbours' keys
pub exclusive-common : (theory : Theory) (p q : Ground) → are_exclusive theory p q ≡ true → list_any (is_key (own_keys theory.exclusives q)) (other_keys theory.exclusives p) ≡ true
unfolding are_exclusive
exclusive-common theory p q exclusive = keys-common 0 theory.exclusives p q (and_parts _ _ exclusive).1

-- and a side of a declaration fits it
side-fits : (p q : Ground) (d : Exclusive) → excludes p q d ≡ true → fits_side q d ≡ true
unfolding excludes
side-fits p q d speaks =
    ⊎_elim (λ both. or_right (fits_some d.left q) (fits_some d.right q) (fits-right d p q both))
    (λ both. or_left (fits_some d.left q) (fits_some d.right q) (fits-left d q p both)) (or_cases (both_fit d.left d.right p q) (both_fit d.left d.right q p) speaks)

sides-fit : (p q : Ground) (ds : List Exclusive) → list_any (excludes p q) ds ≡ true → list_any (fits_side q) ds ≡ true
sides-fit p q [] speaks = speaks
sides-fit p q (d ∷ ds) speaks =
    ⊎_elim (λ here. or_left (fits_side q d) (list_any (fits_side q) ds) (side-fits p q d here))
    (λ rest. or_right (fits_side q d) (list_any (fits_side q) ds) (sides-fit p q ds rest)) (or_cases (excludes p q d) (list_any (excludes p q) ds) speaks)

pub exclusive-has_form : (theory : Theory) (p q : Ground) → are_exclusive theory p q ≡ true → has_form theory q ≡ true
unfolding are_exclusive
exclusive-has_form theory p q exclusive = sides-fit p q theory.exclusives (and_parts _ _ exclusive).1
