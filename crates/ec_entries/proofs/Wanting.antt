-- Room that is wanted for the literals of an entry, one literal after another, and for entries and lists.
use Rattle.std.proofs.Common.{◌≡◌, ◌+◌, ◌<◌, ℕ, Bool, true, false, cond, ◌||◌, List, [], ◌∷◌, length, take, get_or, refl, sym, ap, ◌∙◌, arith}
use Rattle.std.proofs.lemmas.List.{take_more}
use Rattle.std.specs.Prelude.{◌==◌}
use Rattle.std.specs.HashMap.{HashMap}
use Rattle.std.proofs.Math.Bool.{or-false}
use Rattle.std.proofs.lemmas.Bool.{eqb-true}
use Rattle.std.proofs.lemmas.List.Folds.{list_any-append}
use Rattle.ec_context.specs.declared.entry.EntryLiteral.{EntryLiteral}
use Rattle.ec_context.specs.Entries.{is_of}
use Rattle.ec_entries.specs.Dependents.{Rows, any_on}
use Rattle.ec_entries.specs.Wanted.{IsWider, WantsMore, wanted_at}

pub IsWider-then : {T : Type 0} (first second third : Rows T) → IsWider first second → IsWider second third → IsWider first third
IsWider-then first second third before after = record {
  same = λ q. after.same q ∙ before.same q;
  room = λ q. let a = before.room q in let b = after.room q in omega (arith, a, b);
}

-- one literal more
pub any_on-more : (q : ℕ) (ls : List EntryLiteral) (k : ℕ) (d : EntryLiteral) → k < length ls → any_on q (take (k + 1) ls) ≡ (any_on q (take k ls) || (get_or ls k d).prop.0 == q)
any_on-more q ls k d within =
    ap (any_on q) (take_more ls k d within) ∙ list_any-append (is_of q) (take k ls) (get_or ls k d ∷ [])
    ∙ ap (λ b. any_on q (take k ls) || b) (or-false ((get_or ls k d).prop.0 == q))

module _ {T S : Type 0} (ls : List EntryLiteral) (k : ℕ) (d : EntryLiteral) (within : k < length ls) (first second third : HashMap ℕ ℕ S) (rows wider : Rows T)
    (before : WantsMore (λ q. cond (any_on q (take k ls)) 1 0) first second rows) where
  -- a literal on another property than those before it
  pub WantsMore-first : any_on (get_or ls k d).prop.0 (take k ls) ≡ false → WantsMore (λ q. cond ((get_or ls k d).prop.0 == q) 1 0) second third wider →
      WantsMore (λ q. cond (any_on q (take (k + 1) ls)) 1 0) first third wider
  WantsMore-first new more = record {
    wanted = λ q. let a = more.wanted q in let b = before.wanted q in
        a ∙ ap (λ n. n + cond ((get_or ls k d).prop.0 == q) 1 0) b ∙ of q (any_on q (take k ls)) ((get_or ls k d).prop.0 == q) refl refl
        ∙ ap (λ b. wanted_at q first + cond b 1 0) (sym (any_on-more q ls k d within));
    room = more.room;
  }
    where
      of : (q : ℕ) (a b : Bool) → any_on q (take k ls) ≡ a → ((get_or ls k d).prop.0 == q) ≡ b →
          wanted_at q first + cond a 1 0 + cond b 1 0 ≡ wanted_at q first + cond (a || b) 1 0
      of q true true is here = let other = sym is ∙ ap (λ n. any_on n (take k ls)) (sym (eqb-true (get_or ls k d).prop.0 q here)) ∙ new in cc
      of q true false is here = omega arith
      of q false true is here = omega arith
      of q false false is here = omega arith

  -- a literal on a property of one before it
  pub WantsMore-again : any_on (get_or ls k d).prop.0 (take k ls) ≡ true → WantsMore (λ q. cond (any_on q (take (k + 1) ls)) 1 0) first second rows
  WantsMore-again old = record {
    wanted = λ q. before.wanted q ∙ ap (λ b. wanted_at q first + cond b 1 0) (of q (any_on q (take k ls)) ((get_or ls k d).prop.0 == q) refl refl ∙ sym (any_on-more q ls k d within));
    room = before.room;
  }
    where
      of : (q : ℕ) (a b : Bool) → any_on q (take k ls) ≡ a → ((get_or ls k d).prop.0 == q) ≡ b → any_on q (take k ls) ≡ (any_on q (take k ls) || b)
      of q true b is here = grind arith
      of q false true is here = let other = sym is ∙ ap (λ n. any_on n (take k ls)) (sym (eqb-true (get_or ls k d).prop.0 q here)) ∙ old in cc
      of q false false is here = grind arith
