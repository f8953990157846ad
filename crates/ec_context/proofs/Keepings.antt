-- Tables in which terms were kept: what is new in them, and how they are without it.
use Rattle.std.proofs.Common.{◌≡◌, ◌<◌, ℕ, true, false, ◌||◌, List, [], ◌∷◌, ◌++◌, length, Option, Some, None, refl, sym, ap, subst, ◌∙◌, ⊎_elim, is_some, IfSome, IsSome, arith}
use Rattle.std.specs.Prelude.{option_map, ◌==◌}
use Rattle.std.proofs.lemmas.Bool.{cases_Bool, eqb-true, eq-eqb, false≢true, or_from, or_parts}
use Rattle.ec_terms.specs.declared.ground.Ground.{Ground}
use Rattle.ec_terms.specs.declared.ids.PropId.{PropId}
use Rattle.ec_numbered.specs.PropSet.{has_number}
use Rattle.ec_store.specs.Table.{KeptProp, prop_at, mentions_at, prop_of, is_in_order, with_prop, without_prop}
use Rattle.ec_lists.proofs.Numbers.{eqb_comm}
use Rattle.ec_context.specs.Widened.{AreUnmentioned, HasKept, IsWidened, KeepsAll, without_props}
use Rattle.ec_context.proofs.Tables.{has_number-push, length-with_prop, mentions_at-with_prop, prop_at-without_props, without-with_prop, without_props-none, without_props-push}

-- ---- new numbers

-- what is mentioned is there
some-mentioned : (o : Option KeptProp) (n : ℕ) → option_map (λ (k : KeptProp). k.mentions) o ≡ Some n → is_some o ≡ true
some-mentioned None n is = cc
some-mentioned (Some k) n is = refl

-- a number under which nothing is kept is not among them
pub not_among : (props : List PropId) (id : ℕ) (table : List KeptProp) → AreUnmentioned props table → prop_at id table ≡ None → has_number id props ≡ false
unfolding AreUnmentioned
not_among [] id table all free = refl
not_among (p ∷ props) id table all free =
    or_from (p.0 == id) (has_number id props)
    (⊎_elim
    (λ e. let both : Some 0 ≡ None = sym all.0 ∙ ap (λ n. mentions_at n table) (eqb-true p.0 id e) ∙ ap (option_map (λ (k : KeptProp). k.mentions)) free in cc)
    (λ e. e) (cases_Bool (p.0 == id)))
    (not_among props id table all.1.1 free)

-- among them a number is mentioned 0 times
unmentioned-among : (props : List PropId) (id : ℕ) (table : List KeptProp) → AreUnmentioned props table → has_number id props ≡ true → mentions_at id table ≡ Some 0
unfolding AreUnmentioned
unmentioned-among [] id table all there = cc
unmentioned-among (p ∷ props) id table all there =
    ⊎_elim (λ e. ap (λ n. mentions_at n table) (sym (eqb-true p.0 id e)) ∙ all.0)
    (λ e. unmentioned-among props id table all.1.1 (sym (ap (λ b. b || has_number id props) e) ∙ there)) (cases_Bool (p.0 == id))

-- they stay so where all that is kept stays
pub AreUnmentioned-kept : (props : List PropId) (before after : List KeptProp) → KeepsAll before after → AreUnmentioned props before → AreUnmentioned props after
unfolding AreUnmentioned
AreUnmentioned-kept [] before after kept all = tt
AreUnmentioned-kept (p ∷ props) before after kept all = (
  ap (option_map (λ (k : KeptProp). k.mentions)) (kept p.0 (some-mentioned (prop_at p.0 before) 0 all.0)) ∙ all.0,
  (all.1.0, AreUnmentioned-kept props before after kept all.1.1),
)

-- with one more that was not among them
pub AreUnmentioned-push : (props : List PropId) (p : PropId) (table : List KeptProp) → AreUnmentioned props table → mentions_at p.0 table ≡ Some 0 →
    has_number p.0 props ≡ false → AreUnmentioned (props ++ p ∷ []) table
unfolding AreUnmentioned
AreUnmentioned-push [] p table all mentions other = (mentions, (refl, tt))
AreUnmentioned-push (q ∷ props) p table all mentions other =
    let parts = or_parts (q.0 == p.0) (has_number p.0 props) other in
    (all.0, (has_number-push q.0 props p ∙ or_from _ _ all.1.0 (eqb_comm p.0 q.0 ∙ parts.0), AreUnmentioned-push props p table all.1.1 mentions parts.1))

-- the last of them is mentioned 0 times
pub unmentioned-last : (props : List PropId) (p : PropId) (table : List KeptProp) → AreUnmentioned (props ++ p ∷ []) table → mentions_at p.0 table ≡ Some 0
unfolding AreUnmentioned
unmentioned-last [] p table all = all.0
unmentioned-last (q ∷ props) p table all = unmentioned-last props p table all.1.1

-- the others stay so where the last is forgotten
pub AreUnmentioned-pop : (props : List PropId) (p : PropId) (before after : List KeptProp) → AreUnmentioned (props ++ p ∷ []) before →
    ((id : ℕ) → (id ≡ p.0 → ⊥) → prop_at id after ≡ prop_at id before) → AreUnmentioned props after
unfolding AreUnmentioned
AreUnmentioned-pop [] p before after all others = tt
AreUnmentioned-pop (q ∷ props) p before after all others =
    let parts = or_parts (has_number q.0 props) (p.0 == q.0) (sym (has_number-push q.0 props p) ∙ all.1.0) in (
      ap (option_map (λ (k : KeptProp). k.mentions)) (others q.0 (λ same. false≢true (sym parts.1 ∙ ap (λ n. p.0 == n) same ∙ eq-eqb p.0 p.0 refl))) ∙ all.0,
      (parts.0, AreUnmentioned-pop props p before after all.1.1 others),
    )

-- ---- terms that are kept

-- nothing is new where the table is as it was
pub HasKept-same : (before after : List KeptProp) (added added_after : List PropId) → AreUnmentioned added before → after ≡ before → added_after ≡ added →
    HasKept before added after added_after
HasKept-same before after added added_after all same is =
    subst (λ ps. HasKept before added after ps) (sym is)
    (subst (λ ks. HasKept before added ks added) (sym same) (record { kept = λ id some. refl; back = refl; unmentioned = all }))

-- a term that was not kept is new
pub HasKept-new : (before after : List KeptProp) (added added_after : List PropId) (p : PropId) (term : Ground) → AreUnmentioned added before →
    is_in_order before ≡ true → prop_of term before ≡ None → prop_at p.0 before ≡ None → after ≡ with_prop p.0 term before → KeepsAll before after →
    added_after ≡ added ++ p ∷ [] → HasKept before added after added_after
HasKept-new before after added added_after p term all ordered unknown free with kept is =
    subst (λ ps. HasKept before added after ps) (sym is)
    (record {
      kept = kept;
      back = without_props-push added p after ∙ ap (without_props added) (ap (without_prop p.0) with ∙ without-with_prop p.0 term before ordered unknown free);
      unmentioned = AreUnmentioned-push added p after (AreUnmentioned-kept added before after kept all)
          (ap (mentions_at p.0) with ∙ mentions_at-with_prop p.0 term before ordered unknown free) (not_among added p.0 before all free);
    })

-- a term is new where the table grew longer
pub HasKept-longer : (before after : List KeptProp) (added added_after : List PropId) (p : PropId) (term : Ground) → AreUnmentioned added before →
    is_in_order before ≡ true → length before < length after → (IsSome (prop_of term before) → after ≡ before) → (prop_of term before ≡ None → prop_at p.0 before ≡ None) →
    (prop_of term before ≡ None → after ≡ with_prop p.0 term before) → KeepsAll before after → added_after ≡ added ++ p ∷ [] → HasKept before added after added_after
HasKept-longer before after added added_after p term all ordered longer same free with kept is = of (prop_of term before) refl
  where
    of : (o : Option ℕ) → prop_of term before ≡ o → HasKept before added after added_after
    of None unknown = HasKept-new before after added added_after p term all ordered unknown (free unknown) (with unknown) kept is
    of (Some id) known = let as_it_was = ap length (same (ap is_some known)) in absurd (omega (arith, longer, as_it_was))

-- and was kept where it did not
pub HasKept-no_longer : (before after : List KeptProp) (added added_after : List PropId) (p : PropId) (term : Ground) → AreUnmentioned added before →
    is_in_order before ≡ true → (length before < length after → ⊥) → (IsSome (prop_of term before) → after ≡ before) →
    (prop_of term before ≡ None → after ≡ with_prop p.0 term before) → added_after ≡ added → HasKept before added after added_after
HasKept-no_longer before after added added_after p term all ordered no_longer same with is = of (prop_of term before) refl
  where
    of : (o : Option ℕ) → prop_of term before ≡ o → HasKept before added after added_after
    of None unknown = let longer = ap length (with unknown) ∙ length-with_prop p.0 term before ordered unknown in absurd (no_longer (omega (arith, longer)))
    of (Some id) known = HasKept-same before after added added_after all (same (ap is_some known)) is

pub KeepsAll-then : (first second third : List KeptProp) → KeepsAll first second → KeepsAll second third → KeepsAll first third
KeepsAll-then first second third before after id some = after id (ap is_some (before id some) ∙ some) ∙ before id some

-- more terms are kept
pub HasKept-then : (first second third : List KeptProp) (added_first added_second added_third : List PropId) → HasKept first added_first second added_second →
    HasKept second added_second third added_third → HasKept first added_first third added_third
HasKept-then first second third added_first added_second added_third before after = record {
  kept = KeepsAll-then first second third before.kept after.kept;
  back = after.back ∙ before.back;
  unmentioned = after.unmentioned;
}

-- ---- from no new numbers on

-- what is new is unmentioned
pub IsWidened-kept : (before after : List KeptProp) (added : List PropId) → HasKept before [] after added → IsWidened before after
IsWidened-kept before after added has = record {
  kept = has.kept;
  unmentioned = λ id none. of id none (mentions_at id after) refl;
}
  where
    of : (id : ℕ) → prop_at id before ≡ None → (o : Option ℕ) → mentions_at id after ≡ o → IfSome o (λ count. count ≡ 0)
    of id none None is = tt
    of id none (Some count) is =
        ⊎_elim
        (λ there. let both : Some 0 ≡ Some count = sym (unmentioned-among added id after has.unmentioned there) ∙ is in cc)
        (λ other. let both : None ≡ Some count =
        ap (option_map (λ (k : KeptProp). k.mentions))
        (sym none ∙ ap (prop_at id) (sym (without_props-none before) ∙ sym has.back) ∙ prop_at-without_props added id after other) ∙ is in cc)
        (cases_Bool (has_number id added))

-- nothing is new where the table is as it was
pub IsWidened-same : (before after : List KeptProp) → after ≡ before → IsWidened before after
unfolding AreUnmentioned
IsWidened-same before after same =
    subst (λ ks. IsWidened before ks) (sym same) (IsWidened-kept before before [] (HasKept-same before before [] [] tt refl refl))

-- without what is new the table is as it was
pub forgotten : (before after : List KeptProp) (added : List PropId) → HasKept before [] after added → without_props added after ≡ before
forgotten before after added has = has.back ∙ without_props-none before

-- from an empty list of new numbers on
pub HasKept-first : (before after : List KeptProp) (added added_after : List PropId) → added ≡ [] → HasKept before added after added_after →
    HasKept before [] after added_after
HasKept-first before after added added_after none has = subst (λ ps. HasKept before ps after added_after) none has

pub AreUnmentioned-none : (added : List PropId) (table : List KeptProp) → added ≡ [] → AreUnmentioned added table
unfolding AreUnmentioned
AreUnmentioned-none added table none = subst (λ ps. AreUnmentioned ps table) (sym none) tt
