-- A list behind free places, after an edit behind them, in front of them, or of how many they are.
use Rattle.std.proofs.Common.{◌≡◌, ℕ, ◌+◌, ◌-◌, ◌≤◌, zero, suc, List, [], ◌∷◌, ◌++◌, length, get_or, take, drop, set, sym, ap, ◌∙◌, append_assoc, length-append, length-drop, arith}
use lib.Seq.{paste}
use borrow.Rule.Slice.PartMut.{put_mid}
use Rattle.std.specs.List.{insert, remove}
use Rattle.std.proofs.lemmas.List.{length-take-le, drop-drop, drop_at, drop_more, set_at, take_rest}
use Rattle.ec_blocks.proofs.TierLemmas.{whole, behind-put}

module _ {X : Type 0} where
  -- a member put in behind the free places
  pub insert-behind : (f : ℕ) (xs : List X) (k : ℕ) (x : X) → f ≤ length xs → drop f (insert xs (f + k) x) ≡ insert (drop f xs) k x
  insert-behind zero xs k x within = ap (λ n. insert xs n x) (omega arith)
  insert-behind (suc f) [] k x within = absurd (omega arith)
  insert-behind (suc f) (y ∷ xs) k x within =
      let more : suc f + k ≡ suc (f + k) = omega arith in ap (λ n. drop (suc f) (insert (y ∷ xs) n x)) more ∙ insert-behind f xs k x (omega arith)

  -- a member taken out behind the free places
  pub remove-behind : (f : ℕ) (xs : List X) (k : ℕ) → f ≤ length xs → drop f (remove xs (f + k)) ≡ remove (drop f xs) k
  remove-behind zero xs k within = ap (remove xs) (omega arith)
  remove-behind (suc f) [] k within = absurd (omega arith)
  remove-behind (suc f) (y ∷ xs) k within =
      let more : suc f + k ≡ suc (f + k) = omega arith in ap (λ n. drop (suc f) (remove (y ∷ xs) n)) more ∙ remove-behind f xs k (omega arith)

  -- a member put in where those in front of it move one place towards the front
  pub insert-in_front : (xs : List X) (f e k n at : ℕ) (x : X) → f ≡ e + 1 → n ≡ k → at ≡ e + k → f + k ≤ length xs →
      drop e (set (paste xs e (drop f xs) n) at x) ≡ insert (drop f xs) k x
  insert-in_front xs f e k n at x one same place within =
      let ys : List X = drop f xs in
      let front : List X = take e xs ++ take k ys in
      let long : length (take e xs) ≡ e = length-take-le e xs (omega arith) in
      let rest : drop (e + k) xs ≡ get_or xs (e + k) x ∷ drop k ys =
      drop_more xs (e + k) x (omega arith) ∙ ap (λ us. get_or xs (e + k) x ∷ us) (ap (λ i. drop i xs) (omega arith) ∙ sym (drop-drop k f xs)) in
      let pasted : paste xs e ys n ≡ front ++ get_or xs (e + k) x ∷ drop k ys =
      ap (λ i. paste xs e ys i) same ∙ ap (λ us. front ++ us) rest in
      let end : length front ≡ at = omega (arith, length-append (take e xs) (take k ys), long, length-take-le k ys (omega (arith, length-drop f xs))) in
      ap (λ us. drop e (set us at x)) pasted ∙ ap (drop e) (set_at front (get_or xs (e + k) x) (drop k ys) x at end ∙ append_assoc (take e xs) (take k ys) (x ∷ drop k ys))
      ∙ drop_at (take e xs) (take k ys ++ x ∷ drop k ys) e long

  -- places that were added at the end are turned to the front
  pub turned-to_front : (xs ys new : List X) (count more n : ℕ) → take count ys ≡ xs → length ys ≡ count + more → n ≡ length ys → count ≤ length ys →
      new ≡ drop (n - more) ys ++ take (n - more) ys → drop more new ≡ xs
  turned-to_front xs ys new count more n kept long all within made =
      let same : n - more ≡ count = omega arith in
      ap (drop more) made ∙ ap (λ i. drop more (drop i ys ++ take i ys)) same
      ∙ drop_at (drop count ys) (take count ys) more (omega (arith, length-drop count ys)) ∙ kept

  -- what stands behind the free places, as a slice that was written
  pub written-behind : (f n : ℕ) (ys zs new : List X) → f ≤ length ys → length ys ≡ n → length new ≡ length (take (length ys - f) (drop f ys)) →
      drop f (take n (put_mid f (length ys - f) ys new ++ drop (length (put_mid f (length ys - f) ys new)) zs)) ≡ new
  written-behind f n ys zs new within all same =
      let front : length (take f ys) ≡ f = length-take-le f ys within in
      let long : length new ≡ length ys - f = same ∙ ap length (take_rest ys f) ∙ length-drop f ys in
      let put : put_mid f (length ys - f) ys new ≡ take f ys ++ new = behind-put f ys new within long in
      ap (drop f) (whole n (put_mid f (length ys - f) ys new) zs (ap length put ∙ omega (arith, length-append (take f ys) new, front, long, all, within)))
      ∙ ap (drop f) put ∙ drop_at (take f ys) new f front
