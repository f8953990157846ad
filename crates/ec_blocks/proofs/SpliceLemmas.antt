-- A splice made of single edits: members written over, taken out and inserted one by one.
use Rattle.std.proofs.Common.{◌≡◌, ℕ, ◌+◌, ◌-◌, ◌<◌, ◌≤◌, List, [], ◌∷◌, ◌++◌, length, get_or, take, drop, set, sym, ap, ap₂, ◌∙◌, add-one, append_assoc, length-append, arith}
use Rattle.std.specs.List.{insert, remove, splice}
use Rattle.std.proofs.lemmas.List.{length-take-le, take-append-drop, drop-drop, take_at, drop_at, set_at, take_more, drop_more}

module _ {X : Type 0} where
  -- what stands in front of a place, then other members
  pub front-length : (xs ys : List X) (from n : ℕ) → from ≤ length xs → n ≤ length ys → length (take from xs ++ take n ys) ≡ from + n
  front-length xs ys from n within enough = length-append (take from xs) (take n ys) ∙ ap₂ (λ a b. a + b) (length-take-le from xs within) (length-take-le n ys enough)

  -- one more member written over
  pub set-splice : (xs ys : List X) (from n m p : ℕ) (x : X) → p ≡ from + n → m ≡ n + 1 → p < length xs → n < length ys → x ≡ get_or ys n x →
      set (splice xs from p (take n ys)) p x ≡ splice xs from (p + 1) (take m ys)
  set-splice xs ys from n m p x at more within enough is =
      ap (λ zs. set (take from xs ++ (take n ys ++ zs)) p x) (drop_more xs p x within)
      ∙ ap (λ zs. set zs p x) (sym (append_assoc (take from xs) (take n ys) (get_or xs p x ∷ drop (p + 1) xs)))
      ∙ set_at (take from xs ++ take n ys) (get_or xs p x) (drop (p + 1) xs) x p (front-length xs ys from n (omega arith) (omega arith) ∙ sym at)
      ∙ append_assoc (take from xs) (take n ys) (x ∷ drop (p + 1) xs)
      ∙ ap (λ zs. take from xs ++ zs) (sym (append_assoc (take n ys) (x ∷ []) (drop (p + 1) xs))
      ∙ ap (λ zs. zs ++ drop (p + 1) xs) (ap (λ y. take n ys ++ y ∷ []) is ∙ sym (take_more ys n x enough) ∙ ap (λ k. take k ys) (sym more)))

  -- one more member taken out
  pub remove-splice : (xs : List X) (from p : ℕ) (d : X) → from ≤ p → p < length xs → remove (splice xs from p []) from ≡ splice xs from (p + 1) []
  remove-splice xs from p d ordered within =
      let front : length (take from xs) ≡ from = length-take-le from xs (omega arith) in
      ap₂ (λ ys zs. ys ++ zs) (take_at (take from xs) (drop p xs) from front)
      (ap (λ n. drop n (take from xs ++ drop p xs)) (sym (add-one from)) ∙ sym (drop-drop 1 from (take from xs ++ drop p xs))
      ∙ ap (drop 1) (drop_at (take from xs) (drop p xs) from front) ∙ drop-drop 1 p xs)

  -- one more member inserted
  pub insert-splice : (xs ys : List X) (from n p : ℕ) (x : X) → p ≡ from + n → from ≤ length xs → n < length ys → x ≡ get_or ys n x →
      insert (splice xs from from (take n ys)) p x ≡ splice xs from from (take (n + 1) ys)
  insert-splice xs ys from n p x at within enough is =
      let front : length (take from xs ++ take n ys) ≡ p = front-length xs ys from n within (omega arith) ∙ sym at in
      ap (λ zs. insert zs p x) (sym (append_assoc (take from xs) (take n ys) (drop from xs)))
      ∙ ap₂ (λ us vs. us ++ x ∷ vs) (take_at (take from xs ++ take n ys) (drop from xs) p front) (drop_at (take from xs ++ take n ys) (drop from xs) p front)
      ∙ append_assoc (take from xs) (take n ys) (x ∷ drop from xs)
      ∙ ap (λ zs. take from xs ++ zs) (sym (append_assoc (take n ys) (x ∷ []) (drop from xs))
      ∙ ap (λ zs. zs ++ drop from xs) (ap (λ y. take n ys ++ y ∷ []) is ∙ sym (take_more ys n x enough)))

  -- some members written over, the others taken out, and what is left inserted
  pub splice-parts : (xs ys over out new : List X) (from k to : ℕ) → from + k ≤ to → to ≤ length xs → k ≤ length ys → over ≡ splice xs from (from + k) (take k ys) →
      out ≡ splice over (from + k) to [] → new ≡ splice out (from + k) (from + k) (drop k ys) → new ≡ splice xs from to ys
  splice-parts xs ys over out new from k to ordered within enough is_over is_out is_new =
      let a : List X = take from xs ++ take k ys in
      let front : length a ≡ from + k = front-length xs ys from k (omega arith) enough in
      let over' : over ≡ a ++ drop (from + k) xs = is_over ∙ sym (append_assoc (take from xs) (take k ys) (drop (from + k) xs)) in
      let m : ℕ = to - (from + k) in
      let upto : from + k + m ≡ to = omega arith in
      let out' : out ≡ a ++ drop to xs =
      is_out ∙ ap₂ (λ us vs. us ++ vs) (ap (take (from + k)) over' ∙ take_at a (drop (from + k) xs) (from + k) front)
      (ap₂ drop (sym upto) over' ∙ sym (drop-drop m (from + k) (a ++ drop (from + k) xs)) ∙ ap (drop m) (drop_at a (drop (from + k) xs) (from + k) front)
      ∙ drop-drop m (from + k) xs ∙ ap (λ n. drop n xs) upto) in
      is_new
      ∙ ap₂ (λ us vs. us ++ (drop k ys ++ vs)) (ap (take (from + k)) out' ∙ take_at a (drop to xs) (from + k) front)
      (ap (drop (from + k)) out' ∙ drop_at a (drop to xs) (from + k) front)
      ∙ append_assoc (take from xs) (take k ys) (drop k ys ++ drop to xs)
      ∙ ap (λ zs. take from xs ++ zs) (sym (append_assoc (take k ys) (drop k ys) (drop to xs)) ∙ ap (λ zs. zs ++ drop to xs) (take-append-drop k ys))
