-- Which times a row of intervals covers.
use Rattle.std.proofs.Common.{◌≡◌, ℕ, ◌<◌, zero, suc, ℤ, Bool, true, false, ◌&&◌, ◌||◌, List, [], ◌∷◌, ◌++◌, map, length, Option, refl, ap, ap₂, sym, ◌∙◌, arith}
use Rattle.std.specs.Prelude.{int_lt, IsTrue}
use Rattle.std.specs.List.{list_any, HoldsAt}
use Rattle.std.proofs.lemmas.List.{map-append}
use Rattle.std.proofs.lemmas.List.Folds.{list_any-append}
use Rattle.std.proofs.Math.Bool.{or-true}
use Rattle.ec_axioms.specs.Timeline.{covers, is_held_at, is_within_end}
use Rattle.ec_rows.specs.Spans.{is_covering, reaches}
use Rattle.ec_rows.specs.declared.span.End.{End}
use Rattle.ec_rows.specs.declared.span.End.TheVariants.{At, Unended}
use Rattle.ec_rows.specs.declared.span.Span.{Span}
use Rattle.ec_intervals.specs.Table.{front_members, span_interval, plain_end, plain_interval, plain_intervals, plain_spans}

list_any-at : {X : Type 0} (p : X → Bool) (xs : List X) (i : ℕ) → i < length xs → HoldsAt (λ x. IsTrue (p x)) xs i → list_any p xs ≡ true
list_any-at p [] i within holds = absurd (omega arith)
list_any-at p (x ∷ xs) zero within holds = ap (λ b. b || list_any p xs) (holds x)
list_any-at p (x ∷ xs) (suc i) within holds = ap (λ b. p x || b) (list_any-at p xs i (omega arith) (λ d. holds d)) ∙ or-true (p x)

module _ {T : Type 0} (rank : T → ℤ) (t : ℤ) where
  -- a span covers a time where it does as an interval
  covers-span : (span : Span T) → covers t (plain_interval rank (span_interval span)) ≡ is_covering rank t span
  covers-span span = ap (λ b. int_lt (rank span.from) t && b) (by_end span.end)
    where
      by_end : (end : End T) → is_within_end (plain_end rank end) t ≡ reaches rank t end
      by_end (At x) = refl
      by_end Unended = refl

  held-spans : (spans : List (Span T)) → is_held_at (plain_spans rank spans) t ≡ list_any (is_covering rank t) spans
  held-spans [] = refl
  held-spans (s ∷ spans) = ap₂ (λ a b. a || b) (covers-span s) (held-spans spans)

  module _ (front : Option (End T)) (spans : List (Span T)) where
    held-parts : is_held_at (plain_intervals rank (front_members front ++ map span_interval spans)) t ≡ (is_held_at (plain_intervals rank (front_members front)) t || list_any (is_covering rank t) spans)
    held-parts =
        ap (list_any (covers t)) (map-append (plain_interval rank) (front_members front) (map span_interval spans))
        ∙ list_any-append (covers t) (plain_intervals rank (front_members front)) (plain_spans rank spans)
        ∙ ap (λ b. is_held_at (plain_intervals rank (front_members front)) t || b) (held-spans spans)

    pub held-front : is_held_at (plain_intervals rank (front_members front)) t ≡ true → true ≡ is_held_at (plain_intervals rank (front_members front ++ map span_interval spans)) t
    held-front here = sym (held-parts ∙ ap (λ b. b || list_any (is_covering rank t) spans) here)

    module _ (other : is_held_at (plain_intervals rank (front_members front)) t ≡ false) where
      pub held-span : (i : ℕ) → i < length spans → HoldsAt (λ s. IsTrue (is_covering rank t s)) spans i → true ≡ is_held_at (plain_intervals rank (front_members front ++ map span_interval spans)) t
      held-span i within covers = sym (held-parts ∙ ap₂ (λ a b. a || b) other (list_any-at (is_covering rank t) spans i within covers))

      pub held-none : list_any (is_covering rank t) spans ≡ false → false ≡ is_held_at (plain_intervals rank (front_members front ++ map span_interval spans)) t
      held-none none = sym (held-parts ∙ ap₂ (λ a b. a || b) other none)
